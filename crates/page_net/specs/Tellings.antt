-- What a value tells of itself before and after a call.
use Rattle.std.specs.Prelude.{Option, Some, None, ⊤}

-- a value that tells goes on telling, and this holds of what it told and tells; one that does not tell never does
abbrev pub BothTold : {T : Type 0} → Option T → Option T → (T → T → Type 0) → Type 0
BothTold None None P = ⊤
BothTold None (Some now) P = ⊥
BothTold (Some old) None P = ⊥
BothTold (Some old) (Some now) P = P old now
