-- Files that were accepted have no error on the paths of their roots.
use Rattle.std.proofs.Common.{◌≡◌, ℕ, List, Option, Some, None, subst}
use Rattle.std.specs.Prelude.{IfSome, IsTrue}
use Rattle.page_check.specs.CheckedSets.{CheckedData, IsChecked}
use Rattle.page_check.specs.Roots.{roots_of}
use Rattle.page_check.specs.WithoutErrors.{HaveNoError}
use Rattle.page_datum.specs.declared.files.Files.{Files}
use Rattle.page_io.specs.FolderContents.{FolderContents}
use Rattle.page_tool.specs.Asking.{command_asked}
use Rattle.page_tool.specs.Checking.{CheckCause}
use Rattle.page_tool.specs.Command.{CommandHasNoError, is_accepted}
use Rattle.page_tool.specs.Devices.{Devices}
use Rattle.page_tool.specs.Explaining.{ExplainCause}
use Rattle.page_datum.specs.TemplateFiles.{files_of}
use Rattle.page_tool.specs.LoadedSets.{IsSet, IsSetWith, IsSetWithout}
use Rattle.page_tool.specs.Making.{IsMadeSetOf, MakeCause}
use Rattle.page_tool.specs.Output.{StatusCause}
use Rattle.page_tool.specs.Runs.{Runs}
use Rattle.page_tool.specs.Sections.{made_files}
use Rattle.page_tool.specs.Words.{Command, no_command, check, render, explain, tokens, make}
use Rattle.page_tool.specs.declared.asked.Asked.{Asked}
use Rattle.page_tool.specs.declared.status.Status.{Status}
use Rattle.page_tool.specs.declared.status.Status.TheVariants as status
use Rattle.place_infer.specs.declared.set_refused.SetRefused.TheVariants as set
use Rattle.place_laws.proofs.NoErrors.{no-error}
use Rattle.place_laws.proofs.NoRefusal.{no-refusal}

not_memory : set.TooManyDerived ≡ set.Memory → ⊥
not_memory e = cc

-- files that are checked
checked_free : (c : CheckedData) → IsChecked c → HaveNoError c.files.list
checked_free c is = record {
  forest = c.forest;
  is = is.templates;
  few = is.few;
  roots = is.some;
  free = no-error c.forest (roots_of c.files.list) c.chart is.charted;
  pairs = λ many. not_memory (no-refusal c.forest (roots_of c.files.list) c.chart set.TooManyDerived is.charted many);
}

files_free : (c : CheckedData) (files : Files) → c.files ≡ files → IsChecked c → HaveNoError files.list
files_free c files same is = subst (λ (f : Files). HaveNoError f.list) same (checked_free c is)

set_free : (h : FolderContents) (dir : List ℕ) → IsSet h dir → HaveNoError (files_of h dir).list
set_free h dir is = files_free is.0 (files_of h dir) is.1.files is.1.checked

pub sets_free : (held : Option FolderContents) (dir : List ℕ) → IfSome held (λ h. IsSet h dir) → IfSome held (λ h. HaveNoError (files_of h dir).list)
sets_free None dir is = tt
sets_free (Some h) dir is = set_free h dir is

with_free : (held : Option FolderContents) (dir root : List ℕ) → IfSome held (λ h. IsSetWith h dir root) → IfSome held (λ h. HaveNoError (files_of h dir).list)
with_free None dir root is = tt
with_free (Some h) dir root is = set_free h dir is.set

without_free : (held : Option FolderContents) (dir root : List ℕ) → IfSome held (λ h. IsSetWithout h dir root) → IfSome held (λ h. HaveNoError (files_of h dir).list)
without_free None dir root is = tt
without_free (Some h) dir root is = set_free h dir is.set

made_free : (sections : ℕ) (c : CheckedData) → IsMadeSetOf sections c → HaveNoError (made_files sections).list
made_free sections c is = files_free c (made_files sections) is.files is.checked

-- by each status of each command
check_free : (held : Option FolderContents) (dir : List ℕ) (s : Status) → IsTrue (is_accepted s) → CheckCause held dir s → IfSome held (λ h. HaveNoError (files_of h dir).list)
check_free held dir status.Ok a c = sets_free held dir c
check_free held dir status.WriteFault a c = sets_free held dir c
check_free held dir status.SetRefused a c = cc
check_free held dir status.Usage a c = cc
check_free held dir status.NetFault a c = absurd c
check_free held dir status.SpawnFault a c = absurd c
check_free held dir status.SeatFault a c = absurd c
check_free held dir status.ExecFault a c = absurd c
check_free held dir status.DataRefused a c = absurd c
check_free held dir status.ReadFault a c = cc
check_free held dir status.NoTemplate a c = absurd c
check_free held dir status.Memory a c = cc

render_free : (held : Option FolderContents) (input : Option (List ℕ)) (dir root : List ℕ) (s : Status) → IsTrue (is_accepted s) → StatusCause held input dir root s
    → IfSome held (λ h. HaveNoError (files_of h dir).list)
render_free held input dir root status.Ok a c = with_free held dir root c.0.0
render_free held input dir root status.WriteFault a c = with_free held dir root c.0.0
render_free held input dir root status.SetRefused a c = cc
render_free held input dir root status.Usage a c = cc
render_free held input dir root status.NetFault a c = absurd c
render_free held input dir root status.SpawnFault a c = absurd c
render_free held input dir root status.SeatFault a c = absurd c
render_free held input dir root status.ExecFault a c = with_free held dir root c.0.0
render_free held input dir root status.DataRefused a c = with_free held dir root c.0
render_free held input dir root status.ReadFault a c = cc
render_free held input dir root status.NoTemplate a c = without_free held dir root c
render_free held input dir root status.Memory a c = cc

explain_free : (held : Option FolderContents) (dir root : List ℕ) (s : Status) → IsTrue (is_accepted s) → ExplainCause held dir root s → IfSome held (λ h. HaveNoError (files_of h dir).list)
explain_free held dir root status.Ok a c = with_free held dir root c
explain_free held dir root status.WriteFault a c = with_free held dir root c
explain_free held dir root status.SetRefused a c = cc
explain_free held dir root status.Usage a c = cc
explain_free held dir root status.NetFault a c = absurd c
explain_free held dir root status.SpawnFault a c = absurd c
explain_free held dir root status.SeatFault a c = absurd c
explain_free held dir root status.ExecFault a c = absurd c
explain_free held dir root status.DataRefused a c = absurd c
explain_free held dir root status.ReadFault a c = cc
explain_free held dir root status.NoTemplate a c = without_free held dir root c
explain_free held dir root status.Memory a c = cc

make_free : (sections : ℕ) (s : Status) → IsTrue (is_accepted s) → MakeCause sections s → HaveNoError (made_files sections).list
make_free sections status.Ok a c = made_free sections c.1.set c.1.made
make_free sections status.WriteFault a c = made_free sections c.1.set c.1.made
make_free sections status.SetRefused a c = cc
make_free sections status.Usage a c = cc
make_free sections status.NetFault a c = absurd c
make_free sections status.SpawnFault a c = absurd c
make_free sections status.SeatFault a c = absurd c
make_free sections status.ExecFault a c = made_free sections c.1.set.0 c.1.set.1
make_free sections status.DataRefused a c = absurd c
make_free sections status.ReadFault a c = cc
make_free sections status.NoTemplate a c = absurd c
make_free sections status.Memory a c = cc

error_free : (command : Command) (before after : Devices) (s : Status) → Runs command before after s → IsTrue (is_accepted s) → CommandHasNoError command before.held
error_free no_command before after s r a = tt
error_free (check dir) before after s r a = check_free before.held dir s a r.cause
error_free (render dir root) before after s r a = render_free before.held before.left dir root s a r.cause
error_free (explain dir root) before after s r a = explain_free before.held dir root s a r.cause
error_free tokens before after s r a = tt
error_free (make sections) before after s r a = make_free sections s a r.cause

pub asked_free : (a : Asked) (known : Command) (before after : Devices) (s : Status) → command_asked a ≡ known → Runs (command_asked a) before after s → IsTrue (is_accepted s) → CommandHasNoError known before.held
asked_free a known before after s is r accepted = subst (λ (x : Command). CommandHasNoError x before.held) is (error_free (command_asked a) before after s r accepted)
