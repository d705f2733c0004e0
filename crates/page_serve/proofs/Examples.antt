-- The definitions on small values: what holds, and what does not.
use Rattle.std.proofs.Common.{arith, rules, ◌≡◌, ◌≢◌, ◌⊎◌, ℕ, true, false, List, [], ◌∷◌, ◌++◌, codes, length, Option, Some, None, Result, Ok, Err, inl, inr, refl, ap}
use Rattle.std.specs.Fmt.{digits}
use Rattle.page_net.specs.Nets.{NetTold}
use Rattle.page_worker.specs.declared.ended.Ended.{Ended}
use Rattle.page_worker.specs.declared.work_end.WorkEnd.{WorkEnd}
use Rattle.page_serve.specs.DoorMoves.{HasFailedDoor, HaveDoorsOut, MovesDoors}
use Rattle.page_serve.specs.ServeAnswers.{IsDoneOrOutOfMemory, ReportAnswers, ServeCause}
use Rattle.page_serve.specs.SummaryLines.{has_door_fault, summary_lines}
use Rattle.page_serve.specs.declared.stop.ServeStop.{ServeStop}
use Rattle.page_serve.specs.declared.stop.ServeStop.TheVariants as stop

-- doors that are numbers: how many of their calls failed. One is out, one is back
abbrev one_back : NetTold ℕ
one_back = record { given = 2; back = 5 ∷ [] }

-- two more were given, and went back in order
abbrev three_back : NetTold ℕ
three_back = record { given = 4; back = 5 ∷ 6 ∷ 7 ∷ [] }

two_moved : MovesDoors one_back three_back 2 (6 ∷ 7 ∷ [])
two_moved = record { given = refl; back = refl }

out_of_order : MovesDoors one_back three_back 2 (7 ∷ 6 ∷ []) → ⊥
out_of_order m = cc m.back

one_kept : MovesDoors one_back three_back 2 (6 ∷ []) → ⊥
one_kept m = cc m.back

one_more_given : MovesDoors one_back three_back 3 (6 ∷ 7 ∷ []) → ⊥
one_more_given m = omega (arith, m.given)

one_is_out : HaveDoorsOut 1 (Some one_back)
one_is_out = omega arith

two_are_out : HaveDoorsOut 2 (Some one_back) → ⊥
two_are_out out = omega (arith, out)

-- a door fails or none does
second_failed : HasFailedDoor (λ n. n) (0 ∷ 3 ∷ [])
second_failed = inr (inl (omega arith))

none_failed : HasFailedDoor (λ n. n) (0 ∷ 0 ∷ []) → ⊥
none_failed (inl first) = omega (arith, first)
none_failed (inr (inl second)) = omega (arith, second)
none_failed (inr (inr none)) = none

-- two workers: one link and one request, and one link and two requests
abbrev first_end : WorkEnd
first_end = record { links = 1; requests = 1; last = 1; door_fault = false }

abbrev second_end : WorkEnd
second_end = record { links = 1; requests = 2; last = 1; door_fault = false }

abbrev failed_end : WorkEnd
failed_end = record { links = 0; requests = 0; last = 0; door_fault = true }

abbrev at_door : WorkEnd → Ended ℕ
at_door end = record { end = end; door = 0 }

abbrev both : List (Ended ℕ)
both = at_door first_end ∷ at_door second_end ∷ []

abbrev both_lines : List ℕ
both_lines = codes "worker 1: links 1 requests 1 set 1" ++ 10 ∷ (codes "worker 2: links 1 requests 2 set 1" ++ 10 ∷ [])

lines_of_both : summary_lines 1 both ≡ both_lines
unfolding digits
lines_of_both = refl

no_fault : has_door_fault both ≡ false
no_fault = refl

a_fault : has_door_fault (at_door first_end ∷ at_door failed_end ∷ []) ≡ true
a_fault = refl

-- all is well where no door failed and all lines were written, and not with a part of them
abbrev ok : Result (Unit {0}) ServeStop
ok = Ok tt

all_is_well : ReportAnswers both (Some []) (Some both_lines) ok
unfolding digits
all_is_well = (refl, refl)

a_part_is_not : ReportAnswers both (Some []) (Some (codes "worker 1")) ok → ⊥
unfolding digits
a_part_is_not report = cc report.1

no_door_failed : ReportAnswers both (Some []) (Some both_lines) (Err stop.Net) → ⊥
no_door_failed report = cc report.0

-- the net's fault has the net's cause, and no other
wrong_cause : ServeCause {T = Unit {0}} ⊥ (Unit {0}) (Unit {0}) (Unit {0}) (Err stop.Net) → ⊥
wrong_cause cause = cause

right_cause : ServeCause {T = Unit {0}} (Unit {0}) ⊥ ⊥ ⊥ (Err stop.Net)
right_cause = tt

a_stop_is_not_done : IsDoneOrOutOfMemory (Err stop.Seat) → ⊥
a_stop_is_not_done done = done
