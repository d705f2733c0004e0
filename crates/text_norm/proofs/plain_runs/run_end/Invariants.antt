use Rattle.std.proofs.Common.{ℕ, ◌≤◌, ◌<◌, get_or}
use Rattle.text_norm.specs.Resting.{Differs}
use Rattle.text_norm.proofs.plain_runs.run_end.Given as goal

abbrev pub invariant-loop-at : goal.invariant-loop-at
invariant-loop-at l = (i : ℕ) → l.fn.index ≤ i → i < l.at → Differs (get_or l.bytes i 0)
