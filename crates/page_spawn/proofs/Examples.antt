-- The definitions on small values: what holds, and what does not.
use Rattle.std.proofs.Common.{◌≡◌, ℕ, ◌+◌, ◌^◌, ◌-◌, true, false, List, [], ◌∷◌, Result, Err, refl, arith, rules}
use Rattle.page_spawn.specs.Ends.{AllFulfil, SpawnAnswers}
use Rattle.page_spawn.specs.Faults.{SpawnCounts, FailsAs, has_failed, one_call_later, never, numbered, untold}
use Rattle.page_spawn.specs.Gates.{DoesAsTold}
use Rattle.page_spawn.specs.declared.spawner.SpawnStop.{SpawnStop}
use Rattle.page_spawn.specs.declared.spawner.SpawnStop.TheVariants as stop
use Rattle.page_spawn.specs.declared.turn.BehindGate.TheVariants as behind

-- a worker that has a number, and ends with the next one
abbrev adds_one : ℕ → ℕ → Type 0
adds_one worker end = end ≡ worker + 1

-- ends stand at the places of their workers
in_order : AllFulfil adds_one (4 ∷ 7 ∷ []) (5 ∷ 8 ∷ [])
in_order = (refl, (refl, tt))

out_of_order : AllFulfil adds_one (4 ∷ 7 ∷ []) (8 ∷ 5 ∷ []) → ⊥
out_of_order ends = cc ends.0

-- no end is left out, and none is added
end_left_out : AllFulfil adds_one (4 ∷ 7 ∷ []) (5 ∷ []) → ⊥
end_left_out ends = ends.1

end_added : AllFulfil adds_one (4 ∷ []) (5 ∷ 5 ∷ []) → ⊥
end_added ends = ends.1

no_workers : AllFulfil adds_one [] []
no_workers = tt

-- all workers come back, in their order
all_back : SpawnAnswers adds_one (4 ∷ 7 ∷ []) (Err (stop.Failed (4 ∷ 7 ∷ [])))
all_back = refl

back_out_of_order : SpawnAnswers adds_one (4 ∷ 7 ∷ []) (Err (stop.Failed (7 ∷ 4 ∷ []))) → ⊥
back_out_of_order back = cc back

one_lost : SpawnAnswers adds_one (4 ∷ 7 ∷ []) (Err (stop.Memory (4 ∷ []))) → ⊥
one_lost back = cc back

-- the count rises where the call failed, or stands at its end, and stays otherwise
abbrev failed : Result (List ℕ) (SpawnStop ℕ)
failed = Err (stop.Failed [])

abbrev no_memory : Result (List ℕ) (SpawnStop ℕ)
no_memory = Err (stop.Memory [])

rises : SpawnCounts 3 4 failed
rises = omega arith

stays_at_failed : SpawnCounts 3 3 failed → ⊥
stays_at_failed counts = omega (arith, counts)

stands_at_its_end : SpawnCounts (2 ^ 64 - 1) (2 ^ 64 - 1) failed
stands_at_its_end = omega arith

rises_at_memory : SpawnCounts 3 4 no_memory → ⊥
rises_at_memory counts = cc counts

-- the second call is to fail: the first one does not, the second one does, the third one does not
abbrev second_fails : List ℕ
second_fails = 2 ∷ []

first_call : FailsAs (numbered second_fails 0) true → ⊥
first_call told = search (rules, told.0 refl)

second_call : FailsAs (one_call_later (numbered second_fails 0)) false → ⊥
second_call told = cc (told.1 (search rules))

third_call : FailsAs (one_call_later (one_call_later (numbered second_fails 0))) true → ⊥
third_call told = search (rules, told.0 refl)

-- a spawner that never fails does not, and one that does not tell it may fail or not
never_fails : FailsAs never (has_failed failed) → ⊥
never_fails told = cc told

never_stops_for_it : FailsAs never (has_failed no_memory)
never_stops_for_it = refl

may_fail : FailsAs untold (has_failed failed)
may_fail = tt

-- behind an open gate the worker ends, behind a shut one it comes back
works : DoesAsTold adds_one 4 (behind.Ended 5) true
works = (refl, refl)

works_behind_a_shut_gate : DoesAsTold adds_one 4 (behind.Ended 5) false → ⊥
works_behind_a_shut_gate does = cc does.0

back_from_an_open_gate : DoesAsTold adds_one 4 (behind.Back 4) true → ⊥
back_from_an_open_gate does = cc does.0

another_comes_back : DoesAsTold adds_one 4 (behind.Back 5) false → ⊥
another_comes_back does = cc does.1
