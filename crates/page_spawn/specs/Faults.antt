-- When a spawner's call fails.
use Rattle.std.specs.Prelude.{◌≡◌, ℕ, ◌+◌, ◌-◌, ◌^◌, ◌↔◌, min, Bool, true, false, IsTrue}
use Rattle.std.specs.Prelude.{List, Contains, Result, Ok, Err, ⊤}
use Rattle.page_io.specs.Causes.{Rose}
use Rattle.page_spawn.specs.declared.spawner.SpawnStop.{SpawnStop}
use Rattle.page_spawn.specs.declared.spawner.SpawnStop.TheVariants as stop

-- whether a call failed
abbrev pub has_failed : {W E : Type 0} → Result (List E) (SpawnStop W) → Bool
has_failed (Ok ends) = false
has_failed (Err (stop.Failed back)) = true
has_failed (Err (stop.Memory back)) = false

-- A count of faults rises in a call that fails, and in no other.
abbrev pub SpawnCounts : {W E : Type 0} → ℕ → ℕ → Result (List E) (SpawnStop W) → Type 0
SpawnCounts before now (Ok ends) = now ≡ before
SpawnCounts before now (Err (stop.Failed back)) = Rose before now
SpawnCounts before now (Err (stop.Memory back)) = now ≡ before

-- Which calls of a spawner fail: none; those with these numbers, counted from 1, of which so many calls were made; or it does not tell.
pub data Failing : Type 0 where
  never : Failing
  numbered : List ℕ → ℕ → Failing
  untold : Failing

-- The number of the call after so many. It stands still at the end of its type.
abbrev pub next_call : ℕ → ℕ
next_call made = min (made + 1) (2 ^ 64 - 1)

-- The same after one more call.
abbrev pub one_call_later : Failing → Failing
one_call_later never = never
one_call_later (numbered fail made) = numbered fail (next_call made)
one_call_later untold = untold

-- The next call fails, or does not, as the spawner tells it.
abbrev pub FailsAs : Failing → Bool → Type 0
FailsAs never failed = failed ≡ false
FailsAs (numbered fail made) failed = IsTrue failed ↔ Contains fail (next_call made)
FailsAs untold failed = ⊤
