-- What a worker does at its door.
use Rattle.std.specs.Prelude.{◌≡◌, ◌⊎◌, ◌≤◌, ℕ, Bool, true, false, List, [], Option, IfSome}
use mathlib.Core.List.{IsPrefix}
use Rattle.page_io.specs.Causes.{Rose}
use Rattle.page_http.specs.declared.reply.Reply.{Reply}
use Rattle.page_net.specs.Doors.{DoorTold}
use Rattle.page_net.specs.Tellings.{BothTold}
use Rattle.page_server.specs.Answering.{Answering}
use Rattle.page_worker.specs.DoorWorkers.{DoorWorker}
use Rattle.page_worker.specs.LinksServed.{AreLinksServed, Carried, LinkServed, PassesLinks, carried}
use Rattle.page_worker.specs.Summaries.{IsSummaryOf}
use Rattle.page_worker.specs.declared.ended.Ended.{Ended}
use Rattle.page_worker.specs.declared.work_end.WorkEnd.{WorkEnd}

-- where the door tells its links, none is to come
abbrev pub HasNoLinkToCome : {L : Type 0} → Option (DoorTold L) → Type 0
HasNoLinkToCome told = IfSome told (λ t. t.coming ≡ [])

module _ {V D L : Type 0} (answers : Answering V)
    (told : D → Option (DoorTold L)) (door_faults : D → ℕ)
    (left taken : L → Option (List ℕ)) (link_faults : L → ℕ) where
  -- these links came through a door, were served one after another, and went back as they were left. What the viewer has seen only grew
  pub record ServesLinks (door0 door : D) (first last : Carried V) (links : List (LinkServed L)) : Type 0 where
    pub served : AreLinksServed answers left taken link_faults first links last
    pub passed : BothTold (told door0) (told door) (λ old now. PassesLinks old now links)
    pub grows : IsPrefix first.viewer.sets last.viewer.sets
    pub later : door_faults door0 ≤ door_faults door

  module _ {C : Type 0} (given : C → Option (List Reply)) where
    -- why a worker's work ended after so many links: the door failed, which it has counted; or these were all that the worker serves, or
    -- none is to come
    abbrev pub StopsWork : DoorWorker V D C → DoorWorker V D C → ℕ → Bool → Type 0
    StopsWork old now links true = Rose (door_faults old.door) (door_faults now.door)
    StopsWork old now links false = (links ≡ old.links) ⊎ HasNoLinkToCome (told now.door)

    -- a worker served links, no more than it may, and this is their summary
    pub record ServesDoor (old now : DoorWorker V D C) (end : WorkEnd) : Type 0 where
      pub links : List (LinkServed L)
      pub serves : ServesLinks old.door now.door (carried old.viewer (given old.clerk)) (carried now.viewer (given now.clerk)) links
      pub summary : IsSummaryOf links end
      pub within : end.links ≤ old.links
      pub stops : StopsWork old now end.links end.door_fault
      pub most : now.links ≡ old.links

    -- how a worker ended: it served links, and its door is as they left it
    pub record EndsWork (worker : DoorWorker V D C) (ended : Ended D) : Type 0 where
      pub left_off : DoorWorker V D C
      pub serves : ServesDoor worker left_off ended.end
      pub door_is : ended.door ≡ left_off.door
