-- Workers, each at a door of its own, and how they ended.
use Rattle.std.specs.Prelude.{◌≡◌, ℕ, List, length, map, Option, None, Result, Ok, Err, ⊤}
use Rattle.page_net.specs.Doors.{DoorTold, IsFreshDoor}
use Rattle.page_net.specs.Nets.{NetTold}
use Rattle.page_net.specs.Tellings.{BothTold}
use Rattle.page_server.specs.Answering.{Answering}
use Rattle.page_spawn.specs.Ends.{AllFulfil}
use Rattle.page_spawn.specs.Gates.{Each}
use Rattle.page_worker.specs.DoorWork.{EndsWork}
use Rattle.page_worker.specs.DoorWorkers.{DoorWorker}
use Rattle.page_worker.specs.declared.ended.Ended.{Ended}
use Rattle.set_publisher.specs.Values.{Watched}
use Rattle.page_serve.specs.DoorMoves.{MovesDoors}
use Rattle.page_serve.specs.declared.stop.ServeStop.{ServeStop}
use Rattle.page_serve.specs.declared.stop.ServeStop.TheVariants as stop
use Rattle.page_serve.specs.declared.workers.NotRun.{NotRun}

-- the doors of workers' ends
abbrev pub doors_of_ends : {D : Type 0} → List (Ended D) → List D
doors_of_ends ends = map (λ e. e.door) ends

module _ {V D C : Type 0} where
  -- the doors of workers
  abbrev pub doors_of_workers : List (DoorWorker V D C) → List D
  doors_of_workers workers = map (λ w. w.door) workers

  -- workers at these doors, in order, with these viewers; each serves at most so many links
  pub record AreWorkersAt (doors : List D) (viewers : List (Watched V)) (most : ℕ) (workers : List (DoorWorker V D C)) : Type 0 where
    pub doors_are : doors_of_workers workers ≡ doors
    pub viewers_are : map (λ w. w.viewer) workers ≡ viewers
    pub links_are : Each (λ w. w.links ≡ most) workers

module _ {V D L : Type 0} (answers : Answering V)
    (told : D → Option (DoorTold L)) (door_faults : D → ℕ)
    (left taken : L → Option (List ℕ)) (link_faults : L → ℕ) where
  -- a worker served the links of its door, and ended so. Its clerk tells no replies
  abbrev pub HasEnded : DoorWorker V D ⊤ → Ended D → Type 0
  HasEnded = EndsWork answers told door_faults left taken link_faults (λ _. None)

  -- workers at these doors ended so, in order
  pub record WorkersEnd (doors : List D) (viewers : List (Watched V)) (most : ℕ) (ends : List (Ended D)) : Type 0 where
    pub workers : List (DoorWorker V D ⊤)
    pub are_at : AreWorkersAt doors viewers most workers
    pub ended : AllFulfil HasEnded workers ends

  -- all workers ended, or none has run, and its door is back as it was
  abbrev pub RunWorkersAnswers : List D → List (Watched V) → ℕ → Result (List (Ended D)) (NotRun D) → Type 0
  RunWorkersAnswers doors viewers most (Ok ends) = WorkersEnd doors viewers most ends
  RunWorkersAnswers doors viewers most (Err e) = e.doors ≡ doors

  -- a worker at a door as its net gave it, whose viewer had seen these sets, and which serves at most so many links, ended so
  pub record IsServed (sets : List V) (most : ℕ) (ended : Ended D) : Type 0 where
    pub worker : DoorWorker V D ⊤
    pub fresh : IsFreshDoor (door_faults worker.door) (told worker.door)
    pub began : worker.viewer.sets ≡ sets
    pub links : worker.links ≡ most
    pub ends : HasEnded worker ended

  -- so many such workers ended so, in their order, and the doors that the net gave for them are back, as the workers left them
  pub record HaveServed (sets : List V) (count most : ℕ) (old now : Option (NetTold D)) (ends : List (Ended D)) : Type 0 where
    pub count_is : length ends ≡ count
    pub served : Each (IsServed sets most) ends
    pub back : BothTold old now (λ o n. MovesDoors o n count (doors_of_ends ends))

-- the spawner failed, or memory ran out
abbrev pub IsSpawnStop : Type 0 → ServeStop → Type 0
IsSpawnStop rose stop.Spawn = rose
IsSpawnStop rose stop.Memory = ⊤
IsSpawnStop rose _ = ⊥

-- why the workers are not run: the spawner failed, or memory ran out
abbrev pub SpawnCause : {T D : Type 0} → Type 0 → Result T (NotRun D) → Type 0
SpawnCause rose (Ok _) = ⊤
SpawnCause rose (Err e) = IsSpawnStop rose e.stop
