-- What was written, and why, where the folder and the input reveal what they hold.
use Rattle.std.proofs.Common.{◌≡◌, ℕ, true, false, List, Option, None, Some, Result, Ok, Err, sym, ap, ◌∙◌, subst}
use Rattle.std.specs.Prelude.{IfSome, OnOk, ⊤}
use Rattle.std.specs.Io.KnownBytes.{Appends}
use Rattle.page_check.specs.CheckedSets.{CheckedData}
use Rattle.page_check.specs.Roots.{is_root}
use Rattle.page_io.specs.FolderContents.{FolderContents}
use Rattle.page_io.specs.Whole.{AppendsPart}
use Rattle.page_datum.specs.Data.{Data}
use Rattle.page_datum.specs.Execution.{Ending, Execution, done, faulted, no_root}
use Rattle.page_datum.specs.Reading.{IsDatum}
use Rattle.page_datum.specs.declared.files.Files.{Files}
use Rattle.page_datum.specs.declared.files.NamedFile.{NamedFile}
use Rattle.page_path.specs.Pages.{page_ended}
use Rattle.page_set.specs.Executions.{IsExecution, IsSoundPageOfFiles, execution_of}
use Rattle.page_tool.specs.LoadedSets.{IsLoadedSetOf, IsSetWith, IsSetWithout}
use Rattle.page_tool.specs.Output.{EndsWith, HasInput, IsRendering, RenderCause, RenderOutput, WritePageAnswers, WritesAll, WritesPart}
use Rattle.page_tool.specs.Output.{WritesSound}
use Rattle.page_tool.specs.declared.stop.CommandStop.{CommandStop}
use Rattle.page_tool.specs.declared.stop.CommandStop.TheVariants as stop
use Rattle.tpl_events.specs.Events.{Emission}
use Rattle.tpl_exec.specs.Meaning.{Finish, finished, stopped}
use Rattle.tpl_tree.specs.Forests.{ForestData}

-- the set is that of the directory
abbrev pub IsLoaded : Option FolderContents → List ℕ → CheckedData → Type 0
IsLoaded held dir set = IfSome held (λ h. IsLoadedSetOf h dir set)

-- a set that is kept as it was loaded
pub kept : (held : Option FolderContents) (dir : List ℕ) (set loaded : CheckedData) → set ≡ loaded → IsLoaded held dir loaded → IsLoaded held dir set
kept held dir set loaded e s = subst (λ (x : CheckedData). IsLoaded held dir x) (sym e) s

-- the input is this datum, where it is told
abbrev pub IsReadAs : Option (List ℕ) → Data → Type 0
IsReadAs input d = IfSome input (λ i. IsDatum i d)

rendering : (h : FolderContents) (dir root i : List ℕ) (set : CheckedData) (d : Data) (e : Execution) → IsLoadedSetOf h dir set → IsDatum i d
    → IsExecution set.files root d e → IsRendering h dir root i e
rendering h dir root i set d e s r x = record { datum = d; read = r; execution = subst (λ (f : Files). IsExecution f root d e) s.files x }

known_part : (held : Option FolderContents) (input : Option (List ℕ)) (dir root : List ℕ) (set : CheckedData) (d : Data) (e : Execution)
    (old new : Option (List ℕ))
    → IsLoaded held dir set → IsReadAs input d → IsExecution set.files root d e → AppendsPart old new e.bytes
    → WritesPart held input dir root old new
known_part None input dir root set d e old new s r x w = tt
known_part (Some h) None dir root set d e old new s r x w = tt
known_part (Some h) (Some i) dir root set d e old new s r x w = (e, rendering h dir root i set d e s r x, w)

known_all : (held : Option FolderContents) (input : Option (List ℕ)) (dir root : List ℕ) (set : CheckedData) (d : Data) (e : Execution)
    (old new : Option (List ℕ))
    → IsLoaded held dir set → IsReadAs input d → IsExecution set.files root d e → e.ending ≡ done → Appends old new e.bytes
    → WritesAll held input dir root old new
known_all None input dir root set d e old new s r x is w = tt
known_all (Some h) None dir root set d e old new s r x is w = tt
known_all (Some h) (Some i) dir root set d e old new s r x is w = (e, rendering h dir root i set d e s r x, is, w)

known_end : (held : Option FolderContents) (input : Option (List ℕ)) (dir root : List ℕ) (set : CheckedData) (d : Data) (e : Execution)
    (ending : Ending)
    → IsLoaded held dir set → IsReadAs input d → IsExecution set.files root d e → e.ending ≡ ending → EndsWith held input dir root ending
known_end None input dir root set d e ending s r x is = tt
known_end (Some h) None dir root set d e ending s r x is = tt
known_end (Some h) (Some i) dir root set d e ending s r x is = (e, rendering h dir root i set d e s r x, is)

known_sound : (held : Option FolderContents) (input : Option (List ℕ)) (dir root : List ℕ) (set : CheckedData) (d : Data) (e : Execution)
    (old new : Option (List ℕ))
    → IsLoaded held dir set → IsReadAs input d → IsSoundPageOfFiles set.files root d e.bytes → Appends old new e.bytes
    → WritesSound held input dir root old new
known_sound None input dir root set d e old new s r x w = tt
known_sound (Some h) None dir root set d e old new s r x w = tt
known_sound (Some h) (Some i) dir root set d e old new s r x w =
    (e.bytes, record { datum = d; read = r; sound = subst (λ (f : Files). IsSoundPageOfFiles f root d e.bytes) s.files x }, w)

-- what was written of an execution that is done is sound
pub sound_output : (held : Option FolderContents) (input : Option (List ℕ)) (dir root : List ℕ) (set : CheckedData) (d : Data) (e : Execution)
    (old new : Option (List ℕ)) (r : Result ⊤ CommandStop)
    → IsLoaded held dir set → IsReadAs input d → OnOk r (IsSoundPageOfFiles set.files root d e.bytes) → WritePageAnswers e old new r
    → OnOk r (WritesSound held input dir root old new)
sound_output held input dir root set d e old new (Ok _) s r x w = known_sound held input dir root set d e old new s r x w.1
sound_output held input dir root set d e old new (Err _) s r x w = tt

-- what was written of an execution was written of the page
pub output : (held : Option FolderContents) (input : Option (List ℕ)) (dir root : List ℕ) (set : CheckedData) (d : Data) (e : Execution)
    (old new : Option (List ℕ)) (r : Result ⊤ CommandStop)
    → IsLoaded held dir set → IsReadAs input d → IsExecution set.files root d e → WritePageAnswers e old new r
    → RenderOutput held input dir root old new r
output held input dir root set d e old new (Ok _) s r x w = known_all held input dir root set d e old new s r x w.0 w.1
output held input dir root set d e old new (Err (stop.Fault fault)) s r x w =
    (w.1, known_end held input dir root set d e (faulted fault) s r x w.0)
output held input dir root set d e old new (Err stop.Write) s r x w = known_part held input dir root set d e old new s r x w.1
output held input dir root set d e old new (Err stop.Memory) s r x w = w
output held input dir root set d e old new (Err (stop.Set why)) s r x w = absurd w
output held input dir root set d e old new (Err (stop.Data why)) s r x w = absurd w
output held input dir root set d e old new (Err stop.Read) s r x w = absurd w
output held input dir root set d e old new (Err stop.NoTemplate) s r x w = absurd w

-- no execution lacks its root
ends : (page : List ℕ) (over : Option Emission) (end : Finish) → (page_ended page over end).ending ≡ no_root → ⊥
ends page None (finished steps) e = cc
ends page None (stopped why) e = cc
ends page (Some g) end e = cc

pub has_root : (files : List NamedFile) (forest : ForestData) (root : List ℕ) (d : Data) → is_root files root ≡ true
    → (execution_of files forest root d).ending ≡ no_root → ⊥
has_root files forest root d is e = ends _ _ _ (rw is at e)

-- the set of the directory has the root
pub loaded_root : (held : Option FolderContents) (dir root : List ℕ) (set : CheckedData) → IsLoaded held dir set
    → is_root set.files.list root ≡ true → IfSome held (λ h. IsSetWith h dir root)
loaded_root None dir root set s is = tt
loaded_root (Some h) dir root set s is = record { set = (set, s); known = ap (λ (f : Files). is_root f.list root) (sym s.files) ∙ is }

-- likewise, or lacks it
pub lacks_root : (held : Option FolderContents) (dir root : List ℕ) (set : CheckedData) → IsLoaded held dir set
    → is_root set.files.list root ≡ false → IfSome held (λ h. IsSetWithout h dir root)
lacks_root None dir root set s is = tt
lacks_root (Some h) dir root set s is = record { set = (set, s); unknown = ap (λ (f : Files). is_root f.list root) (sym s.files) ∙ is }

has_input : (input : Option (List ℕ)) (d : Data) → IsReadAs input d → IfSome input HasInput
has_input None d r = tt
has_input (Some i) d r = (d, r)

-- why writing the page of a root ended so
pub written_cause : (held : Option FolderContents) (input : Option (List ℕ)) (dir root : List ℕ) (set : CheckedData) (d : Data) (e : Execution)
    (old new : Option (List ℕ)) (r : Result ⊤ CommandStop)
    → IsLoaded held dir set → is_root set.files.list root ≡ true → IsReadAs input d → IsExecution set.files root d e
    → WritePageAnswers e old new r → RenderCause held input dir root r
written_cause held input dir root set d e old new (Ok _) s is r x w =
    ((loaded_root held dir root set s is, has_input input d r), known_end held input dir root set d e done s r x w.0)
written_cause held input dir root set d e old new (Err (stop.Fault fault)) s is r x w =
    ((loaded_root held dir root set s is, has_input input d r), known_end held input dir root set d e (faulted fault) s r x w.0)
written_cause held input dir root set d e old new (Err stop.Write) s is r x w =
    ((loaded_root held dir root set s is, has_input input d r), known_end held input dir root set d e done s r x w.0)
written_cause held input dir root set d e old new (Err stop.Memory) s is r x w = tt
written_cause held input dir root set d e old new (Err (stop.Set why)) s is r x w = absurd w
written_cause held input dir root set d e old new (Err (stop.Data why)) s is r x w = absurd w
written_cause held input dir root set d e old new (Err stop.Read) s is r x w = absurd w
written_cause held input dir root set d e old new (Err stop.NoTemplate) s is r x w = absurd w
