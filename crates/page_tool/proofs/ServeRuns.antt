-- Words that begin with `serve` are no other command, and words that do not are no way to serve.
use Rattle.std.proofs.Common.{◌≡◌, ◌≤◌, ◌∙◌, Bool, true, false, codes, List, ℕ, [], ◌∷◌, Option, None, Some, ◌||◌, cond, refl, sym, subst, inl, inr, arith}
use Rattle.std.specs.Io.KnownBytes.{Appends}
use Rattle.std.specs.Prelude.{◌⊎◌, ◌↔◌, IfSome}
use Rattle.page_io.specs.Causes.{Rose}
use Rattle.page_io.specs.FolderContents.{FolderContents}
use Rattle.page_tool.proofs.Parsing.{named}
use Rattle.page_tool.specs.Command.{CommandHasNoError, CommandNeedsCause, WritesSoundly}
use Rattle.page_tool.specs.Devices.{Devices}
use Rattle.page_tool.specs.Lines.{usage_text}
use Rattle.page_tool.specs.Runs.{Runs, SaysLines}
use Rattle.page_tool.specs.ServeStatuses.{ServeStatusCause}
use Rattle.page_tool.specs.ServeWords.{Service, begins_serve, service_of}
use Rattle.page_tool.specs.Words.{Command, command_alone, command_at, command_by, command_of, is_option, no_command}
use Rattle.page_tool.specs.declared.status.Status.{Status}
use Rattle.page_tool.specs.declared.status.Status.TheVariants as status

neither : (b : Bool) → cond b no_command no_command ≡ no_command
neither true = refl
neither false = refl

none_alone : (name : List ℕ) → name ≡ codes "serve" → command_alone name ≡ no_command
none_alone name is = rw is refl

one : (name word : List ℕ) → name ≡ codes "serve" → cond (is_option word) no_command (command_by name word) ≡ no_command
one name word is = rw is (neither (is_option word))

two : (name dir root : List ℕ) → name ≡ codes "serve" → cond (is_option dir || is_option root) no_command (command_at name dir root) ≡ no_command
two name dir root is = rw is (neither (is_option dir || is_option root))

pub no_other : (words : List (List ℕ)) → begins_serve words ≡ true → command_of words ≡ no_command
no_other [] b = refl
no_other (name ∷ []) b = none_alone name (named name (codes "serve") b)
no_other (name ∷ word ∷ []) b = one name word (named name (codes "serve") b)
no_other (name ∷ dir ∷ root ∷ []) b = two name dir root (named name (codes "serve") b)
no_other (name ∷ dir ∷ root ∷ more ∷ rest) b = refl

pub no_service : (words : List (List ℕ)) → begins_serve words ≡ false → service_of words ≡ None
no_service [] b = refl
no_service (name ∷ words) b = rw b refl

-- so of words that begin with `serve` nothing is promised that is promised of another command
pub serve_sound : (words : List (List ℕ)) (before : Devices) (taken : Option (List ℕ)) → begins_serve words ≡ true
    → WritesSoundly (command_of words) before taken
serve_sound words before taken b = subst (λ (x : Command). WritesSoundly x before taken) (sym (no_other words b)) tt

pub serve_free : (words : List (List ℕ)) (held : Option FolderContents) → begins_serve words ≡ true → CommandHasNoError (command_of words) held
serve_free words held b = subst (λ (x : Command). CommandHasNoError x held) (sym (no_other words b)) tt

pub serve_needs : (words : List (List ℕ)) (held : Option FolderContents) → begins_serve words ≡ true → CommandNeedsCause (command_of words) held
serve_needs words held b = subst (λ (x : Command). CommandNeedsCause x held) (sym (no_other words b)) tt

-- what is promised of a way to serve, where words are one, and where they are none
pub with_service : (o : Option Service) (s : Service) (P : Service → Type 0) → Some s ≡ o → P s → IfSome o P
with_service o s P is p = subst (λ (x : Option Service). IfSome x P) is p

pub without_service : (o : Option Service) (P : Service → Type 0) → o ≡ None → IfSome o P
without_service o P is = subst (λ (x : Option Service). IfSome x P) (sym is) tt

pub served : {A : Type 0} (o : Option Service) (s : Service) → Some s ≡ o → o ≡ None → A
served o s is none = absurd (parted s (is ∙ none))
  where
    parted : (t : Service) → Some t ≡ None → ⊥
    parted t h = cc

-- the words are those of no command exactly where the status says so
abbrev IsUsage : List (List ℕ) → Status → Type 0
IsUsage words s = (s ≡ status.Usage) ↔ ((command_of words ≡ no_command) × (service_of words ≡ None))

pub usage_of_files : (words : List (List ℕ)) (s : Status) → begins_serve words ≡ false → (s ≡ status.Usage) ↔ (command_of words ≡ no_command)
    → IsUsage words s
usage_of_files words s b is = (λ e. (is.0 e, no_service words b), λ none. is.1 none.0)

pub usage_of_service : (words : List (List ℕ)) (service : Service) (held : Option FolderContents) (dir : List ℕ) (s : Status)
    → Some service ≡ service_of words → ServeStatusCause held dir s → IsUsage words s
usage_of_service words service held dir s is cause =
    (λ e. absurd (subst (ServeStatusCause held dir) e cause), λ none. served (service_of words) service is none.1)

pub usage_of_none : (words : List (List ℕ)) → begins_serve words ≡ true → None ≡ service_of words → IsUsage words status.Usage
usage_of_none words b none = (λ e. (no_other words b, sym none), λ both. refl)

usage_read : {A : Type 0} → status.Usage ≡ status.ReadFault → A
usage_read e = absurd (parted e)
  where
    parted : status.Usage ≡ status.ReadFault → ⊥
    parted h = cc

usage_write : {A : Type 0} → status.Usage ≡ status.WriteFault → A
usage_write e = absurd (parted e)
  where
    parted : status.Usage ≡ status.WriteFault → ⊥
    parted h = cc

abbrev later : Devices → Option (List ℕ) → ℕ → Devices
later before said faults = record before { said = said; people_faults = faults }

lines : (before : Devices) (said : Option (List ℕ)) (faults : ℕ) → Rose before.people_faults faults ⊎ Appends before.said said usage_text
    → Rose before.people_faults faults ⊎ SaysLines no_command before (later before said faults) status.Usage
lines before said faults (inl r) = inl r
lines before said faults (inr a) = inr (usage_text, refl, a)

-- the line for words that are no command was written, and nothing else was done
none_runs : (before : Devices) (said : Option (List ℕ)) (faults : ℕ) → before.people_faults ≤ faults
    → Rose before.people_faults faults ⊎ Appends before.said said usage_text → Runs no_command before (later before said faults) status.Usage
none_runs before said faults more m = record {
  output = refl;
  end = tt;
  in_order = (refl, (refl, refl));
  cause = refl;
  read = usage_read;
  write = usage_write;
  exact = tt;
  lines = lines before said faults m;
  kept = refl;
  folder_later = omega arith;
  input_later = omega arith;
  output_later = omega arith;
  people_later = more;
}

pub ran_usage : (words : List (List ℕ)) (before : Devices) (said : Option (List ℕ)) (faults : ℕ) → begins_serve words ≡ true
    → before.people_faults ≤ faults → Rose before.people_faults faults ⊎ Appends before.said said usage_text
    → Runs (command_of words) before (later before said faults) status.Usage
ran_usage words before said faults b more m =
    subst (λ (x : Command). Runs x before (later before said faults) status.Usage) (sym (no_other words b)) (none_runs before said faults more m)
