-- How serving ends.
use Rattle.std.specs.Prelude.{◌≡◌, ◌⊎◌, ℕ, true, false, List, Option, Result, Ok, Err, ⊤}
use Rattle.std.specs.Io.KnownBytes.{Appends}
use Rattle.page_io.specs.Whole.{AppendsPart}
use Rattle.page_net.specs.Doors.{DoorTold}
use Rattle.page_net.specs.Nets.{NetTold}
use Rattle.page_server.specs.Answering.{Answering}
use Rattle.page_worker.specs.declared.ended.Ended.{Ended}
use Rattle.set_publisher.specs.Values.{Published, Watched}
use Rattle.page_serve.specs.DoorMoves.{ReturnsDoors, TakesDoors}
use Rattle.page_serve.specs.Seating.{SeatsAll}
use Rattle.page_serve.specs.SummaryLines.{has_door_fault, summary_lines}
use Rattle.page_serve.specs.Workers.{HaveServed}
use Rattle.page_serve.specs.declared.stop.ServeStop.{ServeStop}
use Rattle.page_serve.specs.declared.stop.ServeStop.TheVariants as stop

-- what is written of workers' ends: all lines, or a prefix of them where the output fails, or nothing where memory runs out. The answer
-- tells where a worker's door has failed
abbrev pub ReportAnswers : {D : Type 0} → List (Ended D) → Option (List ℕ) → Option (List ℕ) → Result ⊤ ServeStop → Type 0
ReportAnswers ends out0 out (Ok _) = (has_door_fault ends ≡ false) × Appends out0 out (summary_lines 1 ends)
ReportAnswers ends out0 out (Err stop.Net) = (has_door_fault ends ≡ true) × Appends out0 out (summary_lines 1 ends)
ReportAnswers ends out0 out (Err stop.Write) = AppendsPart out0 out (summary_lines 1 ends)
ReportAnswers ends out0 out (Err stop.Memory) = out ≡ out0
ReportAnswers ends out0 out (Err _) = ⊥

module _ {V D L : Type 0} (told : D → Option (DoorTold L)) (door_faults : D → ℕ) where
  -- a door and a viewer for each of so many workers; or why not, and the doors that were given are back
  abbrev pub PlacesAnswers : Published V → ℕ → Option (NetTold D) → Option (NetTold D)
      → Result (List D × List (Watched V)) ServeStop → Type 0
  PlacesAnswers desk count old now (Ok places) =
      TakesDoors door_faults told count old now places.0 × SeatsAll desk count places.1
  PlacesAnswers desk count old now (Err stop.Spawn) = ⊥
  PlacesAnswers desk count old now (Err stop.Write) = ⊥
  PlacesAnswers desk count old now (Err _) = ReturnsDoors door_faults told count old now

  module _ (answers : Answering V) (left taken : L → Option (List ℕ)) (link_faults : L → ℕ) where
    -- so many workers served, and this is the answer to their ends
    pub record WorkersServe (sets : List V) (count most : ℕ) (old now : Option (NetTold D)) (out0 out : Option (List ℕ))
        (result : Result ⊤ ServeStop) : Type 0 where
      pub ends : List (Ended D)
      pub served : HaveServed answers told door_faults left taken link_faults sets count most old now ends
      pub written : ReportAnswers ends out0 out result

    -- no worker served, and nothing was written; the doors that the net gave are back as they were given
    pub record NoneServes (count : ℕ) (old now : Option (NetTold D)) (out0 out : Option (List ℕ)) : Type 0 where
      pub back : ReturnsDoors door_faults told count old now
      pub unwritten : out ≡ out0

    -- The answers, with what the net and the output have got. Where a door or a viewer's place was not given, the folder is as it was (kept).
    abbrev pub ServeAnswers : List V → ℕ → ℕ → Option (NetTold D) → Option (NetTold D) → Option (List ℕ) → Option (List ℕ)
        → Type 0 → Result ⊤ ServeStop → Type 0
    ServeAnswers sets count most old now out0 out kept (Ok u) = WorkersServe sets count most old now out0 out (Ok u)
    ServeAnswers sets count most old now out0 out kept (Err stop.Net) =
        (NoneServes count old now out0 out × kept) ⊎ WorkersServe sets count most old now out0 out (Err stop.Net)
    ServeAnswers sets count most old now out0 out kept (Err stop.Spawn) = NoneServes count old now out0 out
    ServeAnswers sets count most old now out0 out kept (Err stop.Seat) = NoneServes count old now out0 out × kept
    ServeAnswers sets count most old now out0 out kept (Err stop.Write) =
        WorkersServe sets count most old now out0 out (Err stop.Write)
    ServeAnswers sets count most old now out0 out kept (Err stop.Memory) =
        NoneServes count old now out0 out ⊎ WorkersServe sets count most old now out0 out (Err stop.Memory)

-- why serving stops: the net, the spawner, the seats or the output failed in this call
abbrev pub ServeCause : {T : Type 0} → Type 0 → Type 0 → Type 0 → Type 0 → Result T ServeStop → Type 0
ServeCause net_rose spawn_rose seats_rose out_rose (Ok _) = ⊤
ServeCause net_rose spawn_rose seats_rose out_rose (Err stop.Net) = net_rose
ServeCause net_rose spawn_rose seats_rose out_rose (Err stop.Spawn) = spawn_rose
ServeCause net_rose spawn_rose seats_rose out_rose (Err stop.Seat) = seats_rose
ServeCause net_rose spawn_rose seats_rose out_rose (Err stop.Write) = out_rose
ServeCause net_rose spawn_rose seats_rose out_rose (Err stop.Memory) = ⊤

-- all was done, or memory ran out
abbrev pub IsDoneOrOutOfMemory : Result ⊤ ServeStop → Type 0
IsDoneOrOutOfMemory (Ok _) = ⊤
IsDoneOrOutOfMemory (Err stop.Memory) = ⊤
IsDoneOrOutOfMemory (Err _) = ⊥
