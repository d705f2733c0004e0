-- What `render DIR NAME` writes, and why it stops.
use Rattle.std.specs.Prelude.{◌≡◌, ℕ, List, Option, Some, None, IfSome, Result, Ok, Err, ⊤}
use Rattle.std.specs.Io.KnownBytes.{Appends}
use Rattle.page_io.specs.FolderContents.{FolderContents}
use Rattle.page_io.specs.Whole.{AppendsPart}
use Rattle.page_datum.specs.Data.{Data}
use Rattle.page_datum.specs.Execution.{Ending, Execution, done, faulted}
use Rattle.page_datum.specs.Reading.{IsDatum, IsNoDatum}
use Rattle.page_datum.specs.declared.fault.ExecFault.{ExecFault}
use Rattle.page_datum.specs.declared.refused.DataRefused.{DataRefused}
use Rattle.page_check.specs.declared.refused.MakeRefused.{MakeRefused}
use Rattle.page_set.specs.Executions.{IsExecution, IsSoundPageOfFiles}
use Rattle.page_datum.specs.TemplateFiles.{files_of}
use Rattle.page_tool.specs.Input.{IsInputRefusedFor}
use Rattle.page_tool.specs.LoadedSets.{IsRefusedFor, IsSetRefusedFor, IsSetWith, IsSetWithout}
use Rattle.page_tool.specs.declared.status.Status.{Status}
use Rattle.page_tool.specs.declared.status.Status.TheVariants as status
use Rattle.page_tool.specs.declared.stop.CommandStop.{CommandStop}
use Rattle.page_tool.specs.declared.stop.CommandStop.TheVariants as stop

-- executing the root of a directory's files with the datum that the input is gives this
pub record IsRendering (held : FolderContents) (dir root input : List ℕ) (e : Execution) : Type 0 where
  pub datum : Data
  pub read : IsDatum input datum
  pub execution : IsExecution (files_of held dir) root datum e

-- a fact on what the folder holds and the input has, where both are known
abbrev pub WhenKnown : Option FolderContents → Option (List ℕ) → (FolderContents → List ℕ → Type 0) → Type 0
WhenKnown None input P = ⊤
WhenKnown (Some held) None P = ⊤
WhenKnown (Some held) (Some input) P = P held input

-- a prefix of the page was written
abbrev pub WritesPart : Option FolderContents → Option (List ℕ) → List ℕ → List ℕ → Option (List ℕ)
    → Option (List ℕ) → Type 0
WritesPart held input dir root old new =
    WhenKnown held input (λ h i. (e : Execution) × IsRendering h dir root i e
    × AppendsPart old new e.bytes)

-- all of the page was written
abbrev pub WritesAll : Option FolderContents → Option (List ℕ) → List ℕ → List ℕ → Option (List ℕ)
    → Option (List ℕ) → Type 0
WritesAll held input dir root old new =
    WhenKnown held input (λ h i. (e : Execution) × IsRendering h dir root i e × (e.ending ≡ done)
    × Appends old new e.bytes)

-- the page that was written, of the datum that the input is, has the shape of its template's path,
-- and each value reads back in its place
pub record IsSoundPage (held : FolderContents) (dir root input : List ℕ) (page : List ℕ) : Type 0 where
  pub datum : Data
  pub read : IsDatum input datum
  pub sound : IsSoundPageOfFiles (files_of held dir) root datum page

-- such a page was written
abbrev pub WritesSound : Option FolderContents → Option (List ℕ) → List ℕ → List ℕ → Option (List ℕ)
    → Option (List ℕ) → Type 0
WritesSound held input dir root old new =
    WhenKnown held input (λ h i. (page : List ℕ) × IsSoundPage h dir root i page × Appends old new page)

-- the execution ends so
abbrev pub EndsWith : Option FolderContents → Option (List ℕ) → List ℕ → List ℕ → Ending → Type 0
EndsWith held input dir root ending =
    WhenKnown held input (λ h i. (e : Execution) × IsRendering h dir root i e × (e.ending ≡ ending))

-- the execution meets this fault
abbrev pub FaultsWith : Option FolderContents → Option (List ℕ) → List ℕ → List ℕ → ExecFault → Type 0
FaultsWith held input dir root fault = EndsWith held input dir root (faulted fault)

-- the execution meets a fault
abbrev pub Faults : Option FolderContents → Option (List ℕ) → List ℕ → List ℕ → Type 0
Faults held input dir root =
    WhenKnown held input (λ h i. (e : Execution) × (fault : ExecFault) × IsRendering h dir root i e
    × (e.ending ≡ faulted fault))

-- what a sink has got of an execution: nothing of one that meets a fault
abbrev pub WritePageAnswers : Execution → Option (List ℕ) → Option (List ℕ) → Result ⊤ CommandStop → Type 0
WritePageAnswers e old new (Ok _) = (e.ending ≡ done) × Appends old new e.bytes
WritePageAnswers e old new (Err (stop.Fault fault)) = (e.ending ≡ faulted fault) × (new ≡ old)
WritePageAnswers e old new (Err stop.Write) = (e.ending ≡ done) × AppendsPart old new e.bytes
WritePageAnswers e old new (Err stop.Memory) = new ≡ old
WritePageAnswers e old new (Err _) = ⊥

-- what a sink has got where rendering stopped
abbrev pub RenderOutput : Option FolderContents → Option (List ℕ) → List ℕ → List ℕ → Option (List ℕ)
    → Option (List ℕ) → Result ⊤ CommandStop → Type 0
RenderOutput held input dir root old new (Ok _) = WritesAll held input dir root old new
RenderOutput held input dir root old new (Err stop.Write) = WritesPart held input dir root old new
RenderOutput held input dir root old new (Err (stop.Fault fault)) =
    (new ≡ old) × FaultsWith held input dir root fault
RenderOutput held input dir root old new (Err _) = new ≡ old

-- an input is a datum
abbrev pub HasInput : List ℕ → Type 0
HasInput input = (datum : Data) × IsDatum input datum

-- all that a page is made of is there: a set that has the root, and a datum
abbrev pub IsReady : Option FolderContents → Option (List ℕ) → List ℕ → List ℕ → Type 0
IsReady held input dir root = IfSome held (λ h. IsSetWith h dir root) × IfSome input HasInput

-- why rendering ended so
abbrev pub RenderCause : Option FolderContents → Option (List ℕ) → List ℕ → List ℕ → Result ⊤ CommandStop → Type 0
RenderCause held input dir root (Err (stop.Set why)) = IsSetRefusedFor held dir why
RenderCause held input dir root (Err stop.NoTemplate) = IfSome held (λ h. IsSetWithout h dir root)
RenderCause held input dir root (Err (stop.Data why)) =
    IfSome held (λ h. IsSetWith h dir root) × IsInputRefusedFor input why
RenderCause held input dir root (Err stop.Read) = ⊤
RenderCause held input dir root (Err stop.Memory) = ⊤
RenderCause held input dir root (Err (stop.Fault fault)) =
    IsReady held input dir root × FaultsWith held input dir root fault
RenderCause held input dir root _ =
    IsReady held input dir root × EndsWith held input dir root done

-- what a sink has got at each status of a command
abbrev pub StatusOutput : Option FolderContents → Option (List ℕ) → List ℕ → List ℕ → Option (List ℕ)
    → Option (List ℕ) → Status → Type 0
StatusOutput held input dir root old new status.Ok = WritesAll held input dir root old new
StatusOutput held input dir root old new status.WriteFault = WritesPart held input dir root old new
StatusOutput held input dir root old new status.ExecFault =
    (new ≡ old) × Faults held input dir root
StatusOutput held input dir root old new _ = new ≡ old

-- why a command ends in each status
abbrev pub StatusCause : Option FolderContents → Option (List ℕ) → List ℕ → List ℕ → Status → Type 0
StatusCause held input dir root status.SetRefused =
    IfSome held (λ h. (why : MakeRefused) × IsRefusedFor h dir why)
StatusCause held input dir root status.NoTemplate = IfSome held (λ h. IsSetWithout h dir root)
StatusCause held input dir root status.DataRefused =
    IfSome held (λ h. IsSetWith h dir root)
    × IfSome input (λ i. (why : DataRefused) × IsNoDatum why i)
StatusCause held input dir root status.Usage = ⊥
StatusCause held input dir root status.NetFault = ⊥
StatusCause held input dir root status.SpawnFault = ⊥
StatusCause held input dir root status.SeatFault = ⊥
StatusCause held input dir root status.ReadFault = ⊤
StatusCause held input dir root status.Memory = ⊤
StatusCause held input dir root status.ExecFault =
    IsReady held input dir root × Faults held input dir root
StatusCause held input dir root _ =
    IsReady held input dir root × EndsWith held input dir root done
