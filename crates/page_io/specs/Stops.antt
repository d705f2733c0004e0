-- What a call answers that stops at a cause of its own, or out of memory.
use Rattle.std.specs.Prelude.{◌≡◌, Result, Ok, Err, ⊤}
use Rattle.page_io.specs.declared.stop.Stop.{Stop}
use Rattle.page_io.specs.declared.stop.Stop.TheVariants as stop

-- the value that is wanted, as contracts see it, or the cause that is wanted
abbrev pub StopAnswers : {X Y W : Type 0} → (X → Y) → Result X (Stop W) → Result Y W → Type 0
StopAnswers view (Ok x) wanted = wanted ≡ Ok (view x)
StopAnswers view (Err (stop.Cause why)) wanted = wanted ≡ Err why
StopAnswers view (Err stop.Memory) wanted = ⊤
