-- The lines for people.
use Rattle.std.specs.Prelude.{◌≡◌, ℕ, codes, List, [], ◌∷◌, ◌++◌, Option, ◌⊎◌}
use Rattle.std.specs.Fmt.{decimal}
use Rattle.std.specs.Io.KnownBytes.{Appends}
use Rattle.page_io.specs.FolderContents.{FolderContents}
use Rattle.page_check.specs.RefusalTexts.{refusal_text}
use Rattle.page_check.specs.declared.refused.MakeRefused.{MakeRefused}
use Rattle.page_datum.specs.Kinds.{fault_kind, data_refusal}
use Rattle.page_datum.specs.Legible.{legible}
use Rattle.page_datum.specs.declared.fault.ExecFault.{ExecFault}
use Rattle.page_datum.specs.declared.refused.DataRefused.{DataRefused}
use Rattle.page_tool.specs.Codes.{status_for}
use Rattle.page_tool.specs.LoadedSets.{IsSetRefusedFor}
use Rattle.page_tool.specs.Input.{IsInputRefusedFor}
use Rattle.page_tool.specs.Output.{FaultsWith}
use Rattle.page_tool.specs.declared.status.Status.{Status}
use Rattle.page_tool.specs.declared.status.Status.TheVariants as status
use Rattle.page_tool.specs.declared.stop.CommandStop.{CommandStop}
use Rattle.page_tool.specs.declared.stop.CommandStop.TheVariants as stop

-- the line for words that are no command
abbrev pub usage_text : List ℕ
usage_text =
    codes "usage: check DIR | render DIR NAME | explain DIR NAME" ++ (codes " | serve DIR ADDR --workers N [--links K]"
    ++ (codes " | tokens | make N" ++ 10 ∷ []))

-- the line of an input that is refused
abbrev pub data_text : DataRefused → List ℕ
data_text why = codes "data " ++ (data_refusal why ++ 10 ∷ [])

-- the place of a fault, at the end of its line
abbrev pub data_path_text : ExecFault → List ℕ
data_path_text fault = legible fault.template ++ 58 ∷ (decimal fault.line ++ 10 ∷ [])

-- the lines of a stop, for a root of this name
abbrev pub stop_text : CommandStop → List ℕ → List ℕ
stop_text (stop.Set why) name = refusal_text why
stop_text (stop.Fault fault) name =
    codes "fault " ++ (fault_kind fault.kind ++ 32 ∷ data_path_text fault)
stop_text (stop.Data why) name = data_text why
stop_text stop.Read name = codes "read fault" ++ 10 ∷ []
stop_text stop.Write name = codes "write fault" ++ 10 ∷ []
stop_text stop.NoTemplate name = codes "no template " ++ (legible name ++ 10 ∷ [])
stop_text stop.Memory name = codes "memory" ++ 10 ∷ []

-- a stop was reported with this status, and its lines were written, or that of out of memory was
abbrev pub Says : CommandStop → List ℕ → Status → Option (List ℕ) → Option (List ℕ) → Type 0
Says why name s old new =
    ((s ≡ status_for why) × Appends old new (stop_text why name))
    ⊎ ((s ≡ status.Memory) × Appends old new (stop_text stop.Memory name))

-- The lines of a command's status. Whatever the devices tell, they are those of one cause; and it is that of what the folder holds and the
-- input has, where these are known.
abbrev pub StatusText : Option FolderContents → Option (List ℕ) → List ℕ → List ℕ → Status → List ℕ → Type 0
StatusText held input dir name status.Ok text = text ≡ []
StatusText held input dir name status.Usage text = ⊥
StatusText held input dir name status.NetFault text = ⊥
StatusText held input dir name status.SpawnFault text = ⊥
StatusText held input dir name status.SeatFault text = ⊥
StatusText held input dir name status.ExecFault text =
    (fault : ExecFault) × FaultsWith held input dir name fault
    × (text ≡ stop_text (stop.Fault fault) name)
StatusText held input dir name status.SetRefused text =
    (why : MakeRefused) × IsSetRefusedFor held dir why × (text ≡ refusal_text why)
StatusText held input dir name status.DataRefused text =
    (why : DataRefused) × IsInputRefusedFor input why × (text ≡ stop_text (stop.Data why) name)
StatusText held input dir name status.ReadFault text = text ≡ stop_text stop.Read name
StatusText held input dir name status.WriteFault text = text ≡ stop_text stop.Write name
StatusText held input dir name status.NoTemplate text = text ≡ stop_text stop.NoTemplate name
StatusText held input dir name status.Memory text = text ≡ stop_text stop.Memory name
