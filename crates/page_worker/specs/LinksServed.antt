-- The links that a worker served, one after another.
use Rattle.std.specs.Prelude.{◌≡◌, ◌<◌, ◌≤◌, ◌+◌, ℕ, List, [], ◌∷◌, ◌++◌, length, map, Option}
use mathlib.Core.List.{IsPrefix}
use Rattle.page_io.specs.Causes.{Rose}
use Rattle.page_http.specs.declared.reply.Reply.{Reply}
use Rattle.page_net.specs.Doors.{DoorTold}
use Rattle.page_server.specs.Answering.{Answering}
use Rattle.page_server.specs.Sessions.{ServesLink, session}
use Rattle.page_server.specs.declared.end.LinkEnd.{LinkEnd}
use Rattle.page_server.specs.declared.end.LinkWhy.TheVariants as why
use Rattle.set_publisher.specs.Values.{Watched}

-- a link as it came through the door, as it went back, and how it ended
pub record LinkServed (L : Type 0) : Type 0 where
  pub came : L
  pub back : L
  pub end : LinkEnd

-- what goes from one link to the next: what the viewer has seen, and the replies that the clerk gave, where it tells them
pub record Carried (V : Type 0) : Type 0 where
  pub viewer : Watched V
  pub given : Option (List Reply)

abbrev pub carried : {V : Type 0} → Watched V → Option (List Reply) → Carried V
carried viewer given = record { viewer = viewer; given = given }

module _ {V L : Type 0} (answers : Answering V) (left taken : L → Option (List ℕ)) (faults : L → ℕ) where
  -- one link was served: what `serve_link` promises of it
  pub record IsLinkServed (before : Carried V) (s : LinkServed L) (after : Carried V) : Type 0 where
    pub serves : ServesLink answers
        (session (left s.came) (taken s.came) before.given before.viewer)
        (session (left s.back) (taken s.back) after.given after.viewer) s.end
    pub desk : after.viewer.book ≡ before.viewer.book
    pub grows : IsPrefix before.viewer.sets after.viewer.sets
    pub last : 0 < s.end.requests → (length before.viewer.sets ≤ s.end.last) × (s.end.last ≤ length after.viewer.sets)
    pub later : faults s.came ≤ faults s.back
    pub cause : s.end.why ≡ why.LinkFault → Rose (faults s.came) (faults s.back)

  -- links were served in this order, each with what the one before it left to the viewer and the clerk
  pub data AreLinksServed (first : Carried V) : List (LinkServed L) → Carried V → Type 0 where
    no_links : AreLinksServed first [] first
    next_link : (links : List (LinkServed L)) (before : Carried V) (s : LinkServed L) (after : Carried V)
        → AreLinksServed first links before → IsLinkServed before s after
        → AreLinksServed first (links ++ s ∷ []) after

-- these links came through a door, those first that were first to come, and went back in the same order as they were left
pub record PassesLinks {L : Type 0} (old now : DoorTold L) (links : List (LinkServed L)) : Type 0 where
  pub coming : old.coming ≡ map (λ s. s.came) links ++ now.coming
  pub given : now.given ≡ old.given + length links
  pub back : now.back ≡ old.back ++ map (λ s. s.back) links
