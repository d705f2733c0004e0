-- Workers behind a start gate.
use Rattle.std.specs.Prelude.{◌≡◌, Bool, true, false, List, [], ◌∷◌, ⊤}
use Rattle.page_spawn.specs.declared.turn.BehindGate.{BehindGate}
use Rattle.page_spawn.specs.declared.turn.BehindGate.TheVariants as behind

-- Behind an open gate the worker has ended, and its fact holds; behind a shut one it is as it was.
abbrev pub DoesAsTold : {W E : Type 0} → (W → E → Type 0) → W → BehindGate E W → Bool → Type 0
DoesAsTold fulfils worker (behind.Ended end) opened = (opened ≡ true) × fulfils worker end
DoesAsTold fulfils worker (behind.Back back) opened = (opened ≡ false) × (back ≡ worker)

-- Something holds of each value of a list.
abbrev pub Each : {X : Type 0} → (X → Type 0) → List X → Type 0
Each P [] = ⊤
Each P (x ∷ xs) = P x × Each P xs
