-- The definitions on small values: what holds, and what does not.
use Rattle.std.proofs.Common.{rules, arith, ◌≡◌, ℕ, ◌-◌, ◌^◌, true, false, List, [], ◌∷◌, None, Some, Result, Ok, Err, refl, ap, length}
use Rattle.page_net.specs.declared.door.Came.{Came}
use Rattle.page_net.specs.declared.door.Came.TheVariants as came
use Rattle.page_net.specs.Doors.{DoorTold, Accepts, GivesLink, TakesLinkBack, HasLinkOut, IsDoorBounded, IsFreshDoor}
use Rattle.page_net.specs.Nets.{NetTold, CountsDoor}
use Rattle.page_net.specs.Tellings.{BothTold}
use Rattle.page_net.specs.Loans.{Loaned, Lends, door_told}

-- doors whose links are numbers
abbrev none_out : DoorTold ℕ
none_out = record { coming = 5 ∷ 6 ∷ []; given = 1; back = 4 ∷ [] }

abbrev one_out : DoorTold ℕ
one_out = record { coming = 6 ∷ []; given = 2; back = 4 ∷ [] }

abbrev both_back : DoorTold ℕ
both_back = record { coming = 6 ∷ []; given = 2; back = 4 ∷ 7 ∷ [] }

abbrev link : ℕ → Result (Came ℕ) ℕ
link n = Ok (came.Link n)

abbrev closed : Result (Came ℕ) ℕ
closed = Ok came.Closed

abbrev failed : Result (Came ℕ) ℕ
failed = Err 0

-- the first link comes, and no other one
first_comes : Accepts none_out one_out (link 5)
first_comes = record { first = refl; given = refl; back = refl }

second_does_not_come : Accepts none_out one_out (link 6) → ⊥
second_does_not_come h = search (rules, h.first)

-- a door is not closed while a link is to come, and is where none is
not_closed_yet : Accepts none_out none_out closed → ⊥
not_closed_yet h = search (rules, h.0)

closed_at_last : Accepts (record none_out { coming = [] }) (record none_out { coming = [] }) closed
closed_at_last = (refl, refl)

nothing_comes_of_nothing : Accepts (record none_out { coming = [] }) one_out (link 5) → ⊥
nothing_comes_of_nothing h = search (rules, h.first)

-- a door that failed lost no link
failed_keeps : Accepts none_out none_out failed
failed_keeps = refl

failed_loses_none : Accepts none_out one_out failed → ⊥
failed_loses_none h = search (rules, ap (λ (t : DoorTold ℕ). t.given) h)

-- a link goes back behind those that are back, as it was left; it is not dropped
goes_back : TakesLinkBack one_out both_back 7
goes_back = record { coming = refl; given = refl; back = refl }

not_dropped : TakesLinkBack one_out one_out 7 → ⊥
not_dropped h = search (rules, ap length h.back)

-- none may go back where none is out
may_go_back : HasLinkOut (Some one_out)
may_go_back = omega arith

may_not_go_back : HasLinkOut (Some both_back) → ⊥
may_not_go_back h = omega (arith, h)

too_many_back : IsDoorBounded (Some (record both_back { given = 1 })) → ⊥
too_many_back h = omega (arith, h)

-- a door that tells goes on telling, and one that does not never does
falls_silent : BothTold (Some none_out) None (λ old now. now ≡ old) → ⊥
falls_silent h = h

begins_to_tell : BothTold None (Some none_out) (λ old now. now ≡ old) → ⊥
begins_to_tell h = h

-- a door is not fresh once it failed, or got a link back
fresh : IsFreshDoor 0 (Some (record one_out { back = [] }))
fresh = record { unfailed = refl; unserved = refl }

not_fresh : IsFreshDoor 0 (Some one_out) → ⊥
not_fresh h = search (rules, h.unserved)

-- a net counts a door that failed, once, and no other
counts_one : CountsDoor 3 4 2
counts_one = record { later = omega arith; failed = λ _. omega arith; fine = λ is. search (rules, is) }

forgets_one : CountsDoor 3 3 2 → ⊥
forgets_one h = omega (arith, h.failed (omega arith))

counts_without_cause : CountsDoor 3 4 0 → ⊥
counts_without_cause h = omega (arith, h.fine refl)

stands_at_the_end : CountsDoor (2 ^ 64 - 1) (2 ^ 64 - 1) 1
stands_at_the_end = record { later = omega arith; failed = λ _. omega arith; fine = λ _. refl }
