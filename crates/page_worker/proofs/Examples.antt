-- What the definitions allow on small values, and what they do not.
use Rattle.std.proofs.Common.{rules, arith, ◌≡◌, ◌⊎◌, ℕ, Bool, true, false, List, [], ◌∷◌, Option, None, Some, refl, ap, length, inl, inr}
use Rattle.page_http.specs.declared.reply.Reply.{Reply}
use Rattle.page_net.specs.Doors.{DoorTold}
use Rattle.page_server.specs.Answering.{Answering}
use Rattle.page_server.specs.declared.end.LinkEnd.{LinkEnd}
use Rattle.page_server.specs.declared.end.LinkWhy.{LinkWhy}
use Rattle.page_server.specs.declared.end.LinkWhy.TheVariants as why
use Rattle.set_publisher.specs.Values.{Watched}
use Rattle.page_worker.specs.DoorWork.{StopsWork}
use Rattle.page_worker.specs.DoorWorkers.{DoorWorker}
use Rattle.page_worker.specs.LinksServed.{LinkServed, PassesLinks}
use Rattle.page_worker.specs.Summaries.{IsSummaryOf, requests_on, last_number_on}

-- links are numbers, and each goes back as ten times what it was
abbrev ended : ℕ → ℕ → LinkEnd
ended requests last = record { requests = requests; last = last; why = why.Closed }

abbrev first : LinkServed ℕ
first = record { came = 1; back = 10; end = ended 2 7 }

abbrev second : LinkServed ℕ
second = record { came = 2; back = 20; end = ended 1 8 }

abbrev silent : LinkServed ℕ
silent = record { came = 3; back = 30; end = ended 0 0 }

abbrev links : List (LinkServed ℕ)
links = first ∷ second ∷ silent ∷ []

-- requests are added up, and a link without a reply has no number
all_requests : requests_on links ≡ 3
all_requests = refl

last_number : last_number_on 0 links ≡ 8
last_number = refl

no_number : last_number_on 0 (silent ∷ silent ∷ []) ≡ 0
no_number = refl

summed_up : IsSummaryOf links (record { links = 3; requests = 3; last = 8; door_fault = false })
summed_up = record { count = refl; requests = refl; last = refl }

-- the requests of the last link alone are no summary, nor is its number where it had no reply, nor fewer links
last_link_alone : IsSummaryOf (first ∷ second ∷ []) (record { links = 2; requests = 1; last = 8; door_fault = false }) → ⊥
last_link_alone h = omega (arith, h.requests)

number_of_silence : IsSummaryOf links (record { links = 3; requests = 3; last = 0; door_fault = false }) → ⊥
number_of_silence h = omega (arith, h.last)

one_link_less : IsSummaryOf links (record { links = 2; requests = 3; last = 8; door_fault = false }) → ⊥
one_link_less h = omega (arith, h.count)

-- doors, before any link, after two, and after two of which one was dropped
abbrev before : DoorTold ℕ
before = record { coming = 1 ∷ 2 ∷ 3 ∷ []; given = 0; back = [] }

abbrev after_two : DoorTold ℕ
after_two = record { coming = 3 ∷ []; given = 2; back = 10 ∷ 20 ∷ [] }

abbrev one_dropped : DoorTold ℕ
one_dropped = record { coming = 3 ∷ []; given = 2; back = 10 ∷ [] }

two_pass : PassesLinks before after_two (first ∷ second ∷ [])
two_pass = record { coming = refl; given = refl; back = refl }

-- no link is dropped, or goes back as it came, out of order, or out of turn
not_dropped : PassesLinks before one_dropped (first ∷ second ∷ []) → ⊥
not_dropped h = search (rules, ap length h.back)

not_unserved : PassesLinks before (record after_two { back = 1 ∷ 2 ∷ [] }) (first ∷ second ∷ []) → ⊥
not_unserved h = search (rules, h.back)

not_out_of_order : PassesLinks before (record after_two { back = 20 ∷ 10 ∷ [] }) (first ∷ second ∷ []) → ⊥
not_out_of_order h = search (rules, h.back)

not_out_of_turn : PassesLinks before after_two (second ∷ first ∷ []) → ⊥
not_out_of_turn h = search (rules, h.coming)

module _ {V : Type 0} (answers : Answering V) (left taken : ℕ → Option (List ℕ)) (given : ℕ → Option (List Reply)) (viewer : Watched V) where
  -- a door is what it tells, with its count of faults
  abbrev told : Option (DoorTold ℕ) × ℕ → Option (DoorTold ℕ)
  told door = door.0

  abbrev faults : Option (DoorTold ℕ) × ℕ → ℕ
  faults door = door.1

  abbrev worker_at : Option (DoorTold ℕ) → ℕ → DoorWorker V (Option (DoorTold ℕ) × ℕ) ℕ
  worker_at door count = record { door = (door, count); viewer = viewer; clerk = 0; links = 2 }

  abbrev Stops : Option (DoorTold ℕ) → ℕ → ℕ → Bool → Type 0
  Stops door count served fault =
      StopsWork answers told faults left taken (λ _. 0) given (worker_at (Some before) 4) (worker_at door count) served fault

  -- the work ends after two links, where none is to come, and where the door failed
  all_served : Stops (Some after_two) 4 2 false
  all_served = inl refl

  none_to_come : Stops (Some (record after_two { coming = [] })) 4 1 false
  none_to_come = inr refl

  door_failed : Stops (Some after_two) 5 1 true
  door_failed = omega arith

  -- it does not end after one link while another is to come, and no door has failed whose count did not rise
  not_while_one_comes : Stops (Some after_two) 4 1 false → ⊥
  not_while_one_comes (inl h) = omega (arith, h)
  not_while_one_comes (inr h) = search (rules, h)

  not_without_a_fault : Stops (Some after_two) 4 1 true → ⊥
  not_without_a_fault h = omega (arith, h)
