-- The steps of a worker's work: one link, or none any more.
use Rattle.std.specs.Prelude.{◌≡◌, ◌≤◌, ◌+◌, ℕ, false, true, List, [], ◌∷◌, Option, None, Some, Result, Ok, Err}
use Rattle.page_io.specs.Causes.{Rose}
use Rattle.page_http.specs.declared.reply.Reply.{Reply}
use Rattle.page_net.specs.Doors.{DoorTold, TakesLinkBack}
use Rattle.page_net.specs.Tellings.{BothTold}
use Rattle.page_server.specs.Answering.{Answering}
use Rattle.page_server.specs.declared.end.LinkEnd.{LinkEnd}
use Rattle.page_worker.specs.DoorWork.{HasNoLinkToCome, ServesLinks}
use Rattle.page_worker.specs.LinksServed.{Carried, IsLinkServed, LinkServed, PassesLinks}
use Rattle.page_worker.specs.Summaries.{IsSummaryOf, number_behind}
use Rattle.page_worker.specs.declared.work_end.WorkEnd.{WorkEnd}

-- the summary of no links
abbrev pub no_work : WorkEnd
no_work = record { links = 0; requests = 0; last = 0; door_fault = false }

-- the same summary where the door failed
abbrev pub failed_work : WorkEnd → WorkEnd
failed_work end = record end { door_fault = true }

-- the summary of one link more
abbrev pub work_with : WorkEnd → LinkEnd → WorkEnd
work_with end link = record {
  links = end.links + 1;
  requests = end.requests + link.requests;
  last = number_behind end.last link;
  door_fault = end.door_fault;
}

module _ {V D L : Type 0} (answers : Answering V)
    (told : D → Option (DoorTold L)) (door_faults : D → ℕ)
    (left taken : L → Option (List ℕ)) (link_faults : L → ℕ) where
  -- this link was served, and went back as it was left
  pub record ServesThis (door0 door : D) (before after : Carried V) (link : L) (end : LinkEnd) : Type 0 where
    pub back : L
    pub served : IsLinkServed answers left taken link_faults before (record { came = link; back = back; end = end }) after
    pub returned : BothTold (told door0) (told door) (λ old now. TakesLinkBack old now back)
    pub same_faults : door_faults door ≡ door_faults door0

  -- a link came through the door, was served, and went back
  pub record ServesOne (door0 door : D) (before after : Carried V) (end : LinkEnd) : Type 0 where
    pub link : LinkServed L
    pub ends : link.end ≡ end
    pub served : IsLinkServed answers left taken link_faults before link after
    pub passed : BothTold (told door0) (told door) (λ old now. PassesLinks old now (link ∷ []))
    pub later : door_faults door0 ≤ door_faults door

  -- no link came, and what the door tells is as before
  pub record ServesNone (door0 door : D) (before after : Carried V) : Type 0 where
    pub same : after ≡ before
    pub told_same : BothTold (told door0) (told door) (λ old now. now ≡ old)
    pub later : door_faults door0 ≤ door_faults door

  -- the next link, or that none is to come, or that the door failed
  abbrev pub ServesNext : {E : Type 0} → D → D → Carried V → Carried V → Result (Option LinkEnd) E → Type 0
  ServesNext door0 door before after (Ok (Some end)) = ServesOne door0 door before after end
  ServesNext door0 door before after (Ok None) = ServesNone door0 door before after × HasNoLinkToCome (told door)
  ServesNext door0 door before after (Err e) = ServesNone door0 door before after × Rose (door_faults door0) (door_faults door)

  -- links were served, of which this is the summary
  pub record HasServedLinks (door0 door : D) (first last : Carried V) (end : WorkEnd) : Type 0 where
    pub links : List (LinkServed L)
    pub serves : ServesLinks answers told door_faults left taken link_faults door0 door first last links
    pub summary : IsSummaryOf links end
    pub unfailed : end.door_fault ≡ false
