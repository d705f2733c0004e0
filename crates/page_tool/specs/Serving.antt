-- What `serve` does, and what it promises.
use Rattle.std.specs.Prelude.{◌≡◌, ◌≤◌, ◌⊎◌, ℕ, List, [], ◌∷◌, Option, IfSome, IsTrue, Result, Ok, Err, ⊤}
use Rattle.std.specs.Io.KnownBytes.{Appends}
use Rattle.page_check.specs.CheckedSets.{CheckedData}
use Rattle.page_check.specs.WithoutErrors.{HaveNoError}
use Rattle.page_datum.specs.TemplateFiles.{files_of}
use Rattle.page_io.specs.Causes.{Rose}
use Rattle.page_net.specs.Doors.{DoorTold}
use Rattle.page_serve.specs.ServeAnswers.{ServeAnswers}
use Rattle.page_serve.specs.declared.stop.ServeStop.{ServeStop}
use Rattle.page_serve.specs.declared.stop.ServeStop.TheVariants as serve
use Rattle.page_server.specs.Answering.{Answering, AnswersBySet}
use Rattle.page_set.specs.Executions.{IsExecution, IsSoundPageOfFiles, execution_of}
use Rattle.page_tool.specs.Command.{is_accepted}
use Rattle.page_tool.specs.Devices.{Devices, IsUnread}
use Rattle.page_tool.specs.LoadedSets.{IsLoadedSetOf}
use Rattle.page_tool.specs.ServeDevices.{ServeDevices}
use Rattle.page_tool.specs.ServeStatuses.{ServeExact, ServeFailures, ServeLines, ServeStatusCause}
use Rattle.page_tool.specs.ServeWords.{Service}
use Rattle.page_tool.specs.declared.status.Status.{Status}
use Rattle.page_tool.specs.declared.status.Status.TheVariants as status

-- the replies of a set: a page is sound, so that it has the structure of its template whatever the
-- data, and each value reads back
abbrev pub set_answers : Answering CheckedData
set_answers = AnswersBySet (λ s root datum. execution_of s.files.list s.forest root datum) (λ s. s.files) IsExecution IsSoundPageOfFiles

-- the folder holds what it held, and its count of faults did not fall
pub record IsFolderAsBefore (before after : Devices) : Type 0 where
  pub held : after.held ≡ before.held
  pub later : before.folder_faults ≤ after.folder_faults

-- which devices failed in the call
abbrev pub serve_failures : {D : Type 0} → Devices → Devices → ServeDevices D → ServeDevices D → ServeFailures
serve_failures before after serve_before serve_after = record {
  folder = Rose before.folder_faults after.folder_faults;
  output = Rose before.output_faults after.output_faults;
  net = Rose serve_before.net_faults serve_after.net_faults;
  spawner = Rose serve_before.spawner_faults serve_after.spawner_faults;
  seats = Rose serve_before.seats_faults serve_after.seats_faults;
}

-- there was no set to serve: neither the net, the spawner nor the seats were asked for anything, and nothing was written
pub record IsUnserved {D : Type 0} (before after : Devices) (serve_before serve_after : ServeDevices D) : Type 0 where
  pub unasked : serve_after ≡ serve_before
  pub unwritten : (after.taken ≡ before.taken) × (after.output_faults ≡ before.output_faults)
  pub folder : IsFolderAsBefore before after

module _ {D L : Type 0} (told : D → Option (DoorTold L)) (door_faults : D → ℕ)
    (left taken : L → Option (List ℕ)) (link_faults : L → ℕ) where
  -- The set of the directory's files was served, or its serving stopped: at `Ok` the net has its doors back, one for each worker, each
  -- worker began at this set and served the links of its door, and the lines of all workers were written.
  pub record ServesSet (service : Service) (before after : Devices) (serve_before serve_after : ServeDevices D)
      (answer : Result ⊤ ServeStop) : Type 0 where
    pub set : CheckedData
    pub made : IfSome before.held (λ h. IsLoadedSetOf h service.dir set)
    pub answers : ServeAnswers told door_faults set_answers left taken link_faults (set ∷ []) service.workers service.links
        serve_before.doors serve_after.doors before.taken after.taken (IsFolderAsBefore before after) answer

  -- what was done at each status
  abbrev pub ServeDoes : Service → Devices → Devices → ServeDevices D → ServeDevices D → Status → Type 0
  ServeDoes service before after serve_before serve_after status.Ok =
      ServesSet service before after serve_before serve_after (Ok tt)
  ServeDoes service before after serve_before serve_after status.NetFault =
      ServesSet service before after serve_before serve_after (Err serve.Net)
  ServeDoes service before after serve_before serve_after status.SpawnFault =
      ServesSet service before after serve_before serve_after (Err serve.Spawn)
  ServeDoes service before after serve_before serve_after status.SeatFault =
      ServesSet service before after serve_before serve_after (Err serve.Seat)
  ServeDoes service before after serve_before serve_after status.WriteFault =
      ServesSet service before after serve_before serve_after (Err serve.Write)
  ServeDoes service before after serve_before serve_after status.Memory =
      IsUnserved before after serve_before serve_after
      ⊎ ServesSet service before after serve_before serve_after (Err serve.Memory)
  ServeDoes service before after serve_before serve_after _ = IsUnserved before after serve_before serve_after

  -- `serve` ended in a status, with its devices as they were before and as they are after
  pub record RunsServe (service : Service) (before after : Devices) (serve_before serve_after : ServeDevices D) (s : Status) : Type 0 where
    pub does : ServeDoes service before after serve_before serve_after s
    -- each status has its cause
    pub cause : ServeStatusCause before.held service.dir s
    pub read : s ≡ status.ReadFault → Rose before.folder_faults after.folder_faults
    pub write : s ≡ status.WriteFault → Rose before.output_faults after.output_faults
    pub net : s ≡ status.NetFault → Rose serve_before.net_faults serve_after.net_faults
    pub spawner : s ≡ status.SpawnFault → Rose serve_before.spawner_faults serve_after.spawner_faults
    pub seats : s ≡ status.SeatFault → Rose serve_before.seats_faults serve_after.seats_faults
    -- and where a cause holds, no other status comes, unless a device failed or memory ran out
    pub exact : ServeExact before.held service.dir (serve_failures before after serve_before serve_after) s
    -- files that were accepted have no error on a path of a root, or on two, and only files that have one are refused
    pub error_free : IsTrue (is_accepted s) → IfSome before.held (λ h. HaveNoError (files_of h service.dir).list)
    pub complete : s ≡ status.SetRefused → IfSome before.held (λ h. HaveNoError (files_of h service.dir).list → ⊥)
    -- the lines for people are those of the status, unless their sink failed
    pub lines : Rose before.people_faults after.people_faults
        ⊎ ((text : List ℕ) × ServeLines before.held service.dir s text × Appends before.said after.said text)
    -- the input is not read, and no count of faults falls; of the folder's, where workers could have reloaded, nothing is known
    pub unread : IsUnread before.left before.input_faults after.left after.input_faults
    pub output_later : before.output_faults ≤ after.output_faults
    pub people_later : before.people_faults ≤ after.people_faults
    pub net_later : serve_before.net_faults ≤ serve_after.net_faults
    pub spawner_later : serve_before.spawner_faults ≤ serve_after.spawner_faults
    pub seats_later : serve_before.seats_faults ≤ serve_after.seats_faults
