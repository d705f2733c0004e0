-- The ends of workers.
use Rattle.std.specs.Prelude.{◌≡◌, List, [], ◌∷◌, Result, Ok, Err, ⊤}
use Rattle.page_spawn.specs.declared.spawner.SpawnStop.{SpawnStop}
use Rattle.page_spawn.specs.declared.spawner.SpawnStop.TheVariants as stop

-- There are as many ends as workers, and at each place the fact holds of the worker and the end there.
abbrev pub AllFulfil : {W E : Type 0} → (W → E → Type 0) → List W → List E → Type 0
AllFulfil fulfils [] [] = ⊤
AllFulfil fulfils [] (e ∷ es) = ⊥
AllFulfil fulfils (w ∷ ws) [] = ⊥
AllFulfil fulfils (w ∷ ws) (e ∷ es) = fulfils w e × AllFulfil fulfils ws es

-- What running these workers answers: all their ends, or all the workers.
abbrev pub SpawnAnswers : {W E : Type 0} → (W → E → Type 0) → List W → Result (List E) (SpawnStop W) → Type 0
SpawnAnswers fulfils workers (Ok ends) = AllFulfil fulfils workers ends
SpawnAnswers fulfils workers (Err (stop.Failed back)) = back ≡ workers
SpawnAnswers fulfils workers (Err (stop.Memory back)) = back ≡ workers
