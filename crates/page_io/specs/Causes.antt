-- When a device's call may answer that it failed.
use Rattle.std.specs.Prelude.{ℕ, ◌+◌, ◌-◌, ◌^◌, ◌≤◌, min, Result, OnErr, IsErrOf}
use Rattle.page_io.specs.declared.stop.IoStop.{IoStop}
use Rattle.page_io.specs.declared.stop.IoStop.TheVariants as stop

-- a count of faults rose; at the end of its type it stands still, and standing there is a rise
abbrev pub Rose : ℕ → ℕ → Type 0
Rose before now = min (before + 1) (2 ^ 64 - 1) ≤ now

-- the count does not fall, and a call fails only where it rose
pub record HasCause {T E : Type 0} (before now : ℕ) (result : Result T E) : Type 0 where
  pub later : before ≤ now
  pub failed : OnErr result (Rose before now)

-- the same for a call that may also run out of memory
pub record HasStop {T : Type 0} (before now : ℕ) (result : Result T IoStop) : Type 0 where
  pub later : before ≤ now
  pub failed : IsErrOf result stop.Failed → Rose before now
