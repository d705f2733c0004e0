-- The statuses of `serve`, their causes and their lines.
use Rattle.std.specs.Prelude.{◌≡◌, ◌⊎◌, ℕ, codes, List, [], ◌∷◌, ◌++◌, Option, IfSome, Result, Ok, Err, ⊤}
use Rattle.page_check.specs.CheckedSets.{CheckedData}
use Rattle.page_check.specs.RefusalTexts.{refusal_text}
use Rattle.page_check.specs.Refusing.{FilesRefuse}
use Rattle.page_check.specs.declared.refused.MakeRefused.{MakeRefused}
use Rattle.page_datum.specs.TemplateFiles.{files_of}
use Rattle.page_io.specs.FolderContents.{FolderContents}
use Rattle.page_serve.specs.declared.stop.ServeStop.{ServeStop}
use Rattle.page_serve.specs.declared.stop.ServeStop.TheVariants as serve
use Rattle.page_tool.specs.Exact.{Ends}
use Rattle.page_tool.specs.Lines.{stop_text}
use Rattle.page_tool.specs.LoadedSets.{IsLoadedSetOf, IsRefusedFor, IsSet, IsSetRefusedFor}
use Rattle.page_tool.specs.declared.status.Status.{Status}
use Rattle.page_tool.specs.declared.status.Status.TheVariants as status
use Rattle.page_tool.specs.declared.stop.CommandStop.{CommandStop}
use Rattle.page_tool.specs.declared.stop.CommandStop.TheVariants as stop

-- the status of each answer of serving a set
abbrev pub status_served : Result ⊤ ServeStop → Status
status_served (Ok _) = status.Ok
status_served (Err serve.Net) = status.NetFault
status_served (Err serve.Spawn) = status.SpawnFault
status_served (Err serve.Seat) = status.SeatFault
status_served (Err serve.Write) = status.WriteFault
status_served (Err serve.Memory) = status.Memory

-- its line for people
abbrev pub serve_text : Result ⊤ ServeStop → List ℕ
serve_text (Ok _) = []
serve_text (Err serve.Net) = codes "net fault" ++ 10 ∷ []
serve_text (Err serve.Spawn) = codes "spawn fault" ++ 10 ∷ []
serve_text (Err serve.Seat) = codes "seat fault" ++ 10 ∷ []
serve_text (Err serve.Write) = stop_text stop.Write []
serve_text (Err serve.Memory) = stop_text stop.Memory []

-- how making the first set answers, with the directory for reloads
abbrev pub BeginServeAnswers : Option FolderContents → List ℕ → Result (CheckedData × List ℕ) CommandStop → Type 0
BeginServeAnswers held dir (Ok begun) = IfSome held (λ h. IsLoadedSetOf h dir begun.0) × (begun.1 ≡ dir)
BeginServeAnswers held dir (Err (stop.Set why)) = IsSetRefusedFor held dir why
BeginServeAnswers held dir (Err stop.Read) = ⊤
BeginServeAnswers held dir (Err stop.Memory) = ⊤
BeginServeAnswers held dir (Err _) = ⊥

-- why `serve` ends in each status: but for refused files, a read fault and want of memory, the files
-- of the directory are a set
abbrev pub ServeStatusCause : Option FolderContents → List ℕ → Status → Type 0
ServeStatusCause held dir status.Ok = IfSome held (λ h. IsSet h dir)
ServeStatusCause held dir status.SetRefused =
    IfSome held (λ h. (why : MakeRefused) × IsRefusedFor h dir why)
ServeStatusCause held dir status.ReadFault = ⊤
ServeStatusCause held dir status.WriteFault = IfSome held (λ h. IsSet h dir)
ServeStatusCause held dir status.NetFault = IfSome held (λ h. IsSet h dir)
ServeStatusCause held dir status.SpawnFault = IfSome held (λ h. IsSet h dir)
ServeStatusCause held dir status.SeatFault = IfSome held (λ h. IsSet h dir)
ServeStatusCause held dir status.Memory = ⊤
ServeStatusCause held dir _ = ⊥

-- which devices failed in a call: its folder, its output, its net, its spawner, its seats
pub record ServeFailures : Type 1 where
  pub folder : Type 0
  pub output : Type 0
  pub net : Type 0
  pub spawner : Type 0
  pub seats : Type 0

-- done, or the status of a device that failed in this call, or out of memory
abbrev pub ServeEnds : ServeFailures → Status → Type 0
ServeEnds rose status.Ok = ⊤
ServeEnds rose status.ReadFault = rose.folder
ServeEnds rose status.WriteFault = rose.output
ServeEnds rose status.NetFault = rose.net
ServeEnds rose status.SpawnFault = rose.spawner
ServeEnds rose status.SeatFault = rose.seats
ServeEnds rose status.Memory = ⊤
ServeEnds rose _ = ⊥

-- which causes lead to which status: refused files, and else that all was done
pub record ServeExact (held : Option FolderContents) (dir : List ℕ) (rose : ServeFailures) (s : Status) : Type 0 where
  pub refused : IfSome held (λ h.
      FilesRefuse (files_of h dir).list → Ends status.SetRefused rose.folder s)
  pub complete : IfSome held (λ h. IsSet h dir → ServeEnds rose s)

-- the lines for people at each status
abbrev pub ServeLines : Option FolderContents → List ℕ → Status → List ℕ → Type 0
ServeLines held dir status.Ok text = text ≡ []
ServeLines held dir status.SetRefused text =
    (why : MakeRefused) × IsSetRefusedFor held dir why × (text ≡ refusal_text why)
ServeLines held dir status.ReadFault text = text ≡ stop_text stop.Read []
ServeLines held dir status.WriteFault text = text ≡ stop_text stop.Write []
ServeLines held dir status.NetFault text = text ≡ serve_text (Err serve.Net)
ServeLines held dir status.SpawnFault text = text ≡ serve_text (Err serve.Spawn)
ServeLines held dir status.SeatFault text = text ≡ serve_text (Err serve.Seat)
ServeLines held dir status.Memory text = text ≡ stop_text stop.Memory []
ServeLines held dir _ text = ⊥
