-- What holds of the command that was asked for, of the words that are it.
use Rattle.std.proofs.Common.{◌≡◌, List, ℕ, Option, Some, None, true, true≢false, refl, sym, ap, ◌∙◌, subst}
use Rattle.std.specs.Prelude.{◌↔◌, IfSome}
use Rattle.page_check.proofs.NotRefused.{needs_cause}
use Rattle.page_check.specs.WithoutErrors.{HaveNoError}
use Rattle.page_check.specs.declared.refused.MakeRefused.{MakeRefused}
use Rattle.page_io.specs.FolderContents.{FolderContents}
use Rattle.page_tool.specs.Asking.{command_asked}
use Rattle.page_tool.specs.Checking.{CheckCause}
use Rattle.page_tool.specs.Command.{CommandNeedsCause}
use Rattle.page_tool.specs.Devices.{Devices}
use Rattle.page_tool.specs.Explaining.{ExplainCause}
use Rattle.page_datum.specs.TemplateFiles.{files_of}
use Rattle.page_tool.specs.LoadedSets.{IsRefusedFor}
use Rattle.page_tool.specs.Listing.{TokensCause}
use Rattle.page_tool.specs.Making.{IsMadeRefused, MakeCause}
use Rattle.page_tool.specs.Output.{StatusCause}
use Rattle.page_tool.specs.Runs.{Runs}
use Rattle.page_tool.specs.Sections.{made_files}
use Rattle.page_tool.specs.Words.{Command, no_command, check, render, explain, tokens, make, is_command}
use Rattle.page_tool.specs.declared.asked.Asked.{Asked}
use Rattle.page_tool.specs.declared.asked.Asked.TheVariants as asked
use Rattle.page_tool.specs.declared.status.Status.{Status}
use Rattle.page_tool.specs.declared.status.Status.TheVariants as status

asked_is : (a : Asked) → is_command (command_asked a) ≡ true
asked_is (asked.Check dir) = refl
asked_is (asked.Render dir root) = refl
asked_is (asked.Explain dir root) = refl
asked_is asked.Tokens = refl
asked_is (asked.Make sections) = refl

-- a command does not end as words that are none
no_usage : (command : Command) (before after : Devices) (s : Status) → is_command command ≡ true → Runs command before after s → s ≡ status.Usage → ⊥
no_usage no_command before after s is r e = absurd (true≢false (sym is))
no_usage (check dir) before after s is r e = subst (λ (x : Status). CheckCause before.held dir x) e r.cause
no_usage (render dir root) before after s is r e = subst (λ (x : Status). StatusCause before.held before.left dir root x) e r.cause
no_usage (explain dir root) before after s is r e = subst (λ (x : Status). ExplainCause before.held dir root x) e r.cause
no_usage tokens before after s is r e = subst (λ (x : Status). TokensCause before.left x) e r.cause
no_usage (make sections) before after s is r e = subst (λ (x : Status). MakeCause sections x) e r.cause

pub asked_usage : (a : Asked) (known : Command) (before after : Devices) (s : Status) → command_asked a ≡ known → Runs (command_asked a) before after s
    → (s ≡ status.Usage) ↔ (known ≡ no_command)
asked_usage a known before after s is r = (
  λ e. absurd (no_usage (command_asked a) before after s (asked_is a) r e),
  λ none. absurd (true≢false (sym (asked_is a) ∙ ap is_command (is ∙ none))),
)

-- the command of a branch is the one that was asked for
pub branch_runs : (a b : Asked) (before after : Devices) (s : Status) → a ≡ b → Runs (command_asked b) before after s → Runs (command_asked a) before after s
branch_runs a b before after s is r = subst (λ (x : Asked). Runs (command_asked x) before after s) (sym is) r

-- files that are refused are none on whose paths no error stands
pub refused_for : (held : Option FolderContents) (dir : List ℕ) → IfSome held (λ h. (why : MakeRefused) × IsRefusedFor h dir why) → IfSome held (λ h. HaveNoError (files_of h dir).list → ⊥)
refused_for None dir r = tt
refused_for (Some h) dir r = λ free. r.1.known (needs_cause (files_of h dir).list r.0 r.1.cause free)

made_refused : (sections : ℕ) → (why : MakeRefused) × IsMadeRefused sections why → HaveNoError (made_files sections).list → ⊥
made_refused sections r free = r.1.known (needs_cause (made_files sections).list r.0 r.1.cause free)

needs_error : (command : Command) (before after : Devices) (s : Status) → Runs command before after s → s ≡ status.SetRefused → CommandNeedsCause command before.held
needs_error no_command before after s r e = tt
needs_error (check dir) before after s r e = refused_for before.held dir (subst (λ (x : Status). CheckCause before.held dir x) e r.cause)
needs_error (render dir root) before after s r e = refused_for before.held dir (subst (λ (x : Status). StatusCause before.held before.left dir root x) e r.cause)
needs_error (explain dir root) before after s r e = refused_for before.held dir (subst (λ (x : Status). ExplainCause before.held dir root x) e r.cause)
needs_error tokens before after s r e = tt
needs_error (make sections) before after s r e = made_refused sections (subst (λ (x : Status). MakeCause sections x) e r.cause)

pub asked_needs : (a : Asked) (known : Command) (before after : Devices) (s : Status) → command_asked a ≡ known → Runs (command_asked a) before after s → s ≡ status.SetRefused → CommandNeedsCause known before.held
asked_needs a known before after s is r e = subst (λ (x : Command). CommandNeedsCause x before.held) is (needs_error (command_asked a) before after s r e)
