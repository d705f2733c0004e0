-- What `make N` writes, and why it stops.
use Rattle.std.specs.Prelude.{◌≡◌, ◌≢◌, ◌⊎◌, ℕ, codes, length, List, [], ◌∷◌, ◌++◌, Option}
use Rattle.std.specs.Prelude.{Result, Ok, Err, ⊤}
use Rattle.std.specs.Fmt.{decimal}
use Rattle.std.specs.Io.KnownBytes.{Appends}
use Rattle.page_check.specs.CheckedSets.{CheckedData, IsChecked}
use Rattle.page_check.specs.RefusalTexts.{refusal_text}
use Rattle.page_check.specs.Refusing.{FilesRefuse, IsRefused}
use Rattle.page_check.specs.declared.refused.MakeRefused.{MakeRefused}
use Rattle.page_check.specs.declared.refused.MakeRefused.TheVariants as made
use Rattle.page_datum.specs.Execution.{Execution, done, faulted}
use Rattle.page_datum.specs.declared.fault.ExecFault.{ExecFault}
use Rattle.page_io.specs.Whole.{AppendsPart}
use Rattle.page_set.specs.Executions.{IsExecution}
use Rattle.page_tool.specs.Exact.{Ends}
use Rattle.page_tool.specs.Lines.{stop_text}
use Rattle.page_tool.specs.Sections.{made_files, made_name, made_data}
use Rattle.page_tool.specs.declared.status.Status.{Status}
use Rattle.page_tool.specs.declared.status.Status.TheVariants as status
use Rattle.page_tool.specs.declared.stop.CommandStop.{CommandStop}
use Rattle.page_tool.specs.declared.stop.CommandStop.TheVariants as stop

-- the set of so many sections, with its templates and its chart
pub record IsMadeSetOf (sections : ℕ) (set : CheckedData) : Type 0 where
  pub files : set.files ≡ made_files sections
  pub checked : IsChecked set

-- so many sections are a set
abbrev pub IsMadeSet : ℕ → Type 0
IsMadeSet sections = (set : CheckedData) × IsMadeSetOf sections set

-- they are refused so
pub record IsMadeRefused (sections : ℕ) (why : MakeRefused) : Type 0 where
  pub known : why ≢ made.Memory
  pub cause : IsRefused (made_files sections).list why

-- executing them with the data gives this
abbrev pub IsMadePage : ℕ → Execution → Type 0
IsMadePage sections e = IsExecution (made_files sections) made_name made_data e

-- how many sections, places and bytes of the page there are
abbrev pub made_text : ℕ → ℕ → ℕ → List ℕ
made_text sections places bytes =
    codes "make " ++ (decimal sections ++ (codes ": sections " ++ (decimal sections
    ++ (codes " places " ++ (decimal places ++ (codes " bytes " ++ (decimal bytes ++ 10 ∷ [])))))))

-- the line of so many sections: each pair of the chart of their set is a template in one place, and
-- the page is whole
pub record IsMadeText (sections : ℕ) (text : List ℕ) : Type 0 where
  pub set : CheckedData
  pub made : IsMadeSetOf sections set
  pub e : Execution
  pub page : IsMadePage sections e
  pub ends : e.ending ≡ done
  pub line : text ≡ made_text sections (length set.chart.summaries) (length e.bytes)

-- they are a set, and the execution ends so
pub record MadeFaults (sections : ℕ) (fault : ExecFault) : Type 0 where
  pub set : IsMadeSet sections
  pub e : Execution
  pub page : IsMadePage sections e
  pub ends : e.ending ≡ faulted fault

-- how making a set answers
abbrev pub MadeSetAnswers : ℕ → Result CheckedData CommandStop → Type 0
MadeSetAnswers sections (Ok set) = IsMadeSetOf sections set
MadeSetAnswers sections (Err (stop.Set why)) = IsMadeRefused sections why
MadeSetAnswers sections (Err stop.Memory) = ⊤
MadeSetAnswers sections (Err _) = ⊥

-- how counting the bytes of a page answers
abbrev pub PageLengthAnswers : Execution → Result ℕ CommandStop → Type 0
PageLengthAnswers e (Ok bytes) = (e.ending ≡ done) × (bytes ≡ length e.bytes)
PageLengthAnswers e (Err (stop.Fault fault)) = e.ending ≡ faulted fault
PageLengthAnswers e (Err stop.Memory) = ⊤
PageLengthAnswers e (Err _) = ⊥

-- how making the line answers
abbrev pub MadeTextAnswers : ℕ → Result (List ℕ) CommandStop → Type 0
MadeTextAnswers sections (Ok text) = IsMadeText sections text
MadeTextAnswers sections (Err (stop.Set why)) = IsMadeRefused sections why
MadeTextAnswers sections (Err (stop.Fault fault)) = MadeFaults sections fault
MadeTextAnswers sections (Err stop.Memory) = ⊤
MadeTextAnswers sections (Err _) = ⊥

-- all of the line was written
abbrev pub WritesMade : ℕ → Option (List ℕ) → Option (List ℕ) → Type 0
WritesMade sections old new =
    (text : List ℕ) × IsMadeText sections text × Appends old new text

-- a prefix of the line was written
abbrev pub WritesMadePart : ℕ → Option (List ℕ) → Option (List ℕ) → Type 0
WritesMadePart sections old new =
    (text : List ℕ) × IsMadeText sections text × AppendsPart old new text

-- how making ends
abbrev pub MakeAnswers : ℕ → Option (List ℕ) → Option (List ℕ) → Result ⊤ CommandStop → Type 0
MakeAnswers sections old new (Ok _) = WritesMade sections old new
MakeAnswers sections old new (Err stop.Write) = WritesMadePart sections old new
MakeAnswers sections old new (Err (stop.Set why)) = (new ≡ old) × IsMadeRefused sections why
MakeAnswers sections old new (Err (stop.Fault fault)) = (new ≡ old) × MadeFaults sections fault
MakeAnswers sections old new (Err stop.Memory) = new ≡ old
MakeAnswers sections old new (Err _) = ⊥

-- what the output has got at each status
abbrev pub MakeOutput : ℕ → Option (List ℕ) → Option (List ℕ) → Status → Type 0
MakeOutput sections old new status.Ok = WritesMade sections old new
MakeOutput sections old new status.WriteFault = WritesMadePart sections old new
MakeOutput sections old new _ = new ≡ old

-- why making ends in each status
abbrev pub MakeCause : ℕ → Status → Type 0
MakeCause sections status.Ok = (text : List ℕ) × IsMadeText sections text
MakeCause sections status.WriteFault = (text : List ℕ) × IsMadeText sections text
MakeCause sections status.SetRefused = (why : MakeRefused) × IsMadeRefused sections why
MakeCause sections status.ExecFault = (fault : ExecFault) × MadeFaults sections fault
MakeCause sections status.Memory = ⊤
MakeCause sections _ = ⊥

-- which causes lead to which status, where the output failed in this call: a refused file, an
-- execution that meets a fault, and else the whole line; and nothing is read that could fail
pub record MakeExact (sections : ℕ) (out_rose : Type 0) (s : Status) : Type 0 where
  pub refused : FilesRefuse (made_files sections).list → Ends status.SetRefused ⊥ s
  pub faults : IsMadeSet sections → (e : Execution) → IsMadePage sections e → (fault : ExecFault)
      → e.ending ≡ faulted fault → Ends status.ExecFault ⊥ s
  pub complete : IsMadeSet sections → (e : Execution) → IsMadePage sections e → e.ending ≡ done
      → Ends status.Ok ⊥ s ⊎ ((s ≡ status.WriteFault) × out_rose)

-- the lines for people at each status
abbrev pub MakeLines : ℕ → Status → List ℕ → Type 0
MakeLines sections status.Ok text = text ≡ []
MakeLines sections status.SetRefused text =
    (why : MakeRefused) × IsMadeRefused sections why × (text ≡ refusal_text why)
MakeLines sections status.ExecFault text =
    (fault : ExecFault) × MadeFaults sections fault × (text ≡ stop_text (stop.Fault fault) [])
MakeLines sections status.WriteFault text = text ≡ stop_text stop.Write []
MakeLines sections status.Memory text = text ≡ stop_text stop.Memory []
MakeLines sections _ text = ⊥
