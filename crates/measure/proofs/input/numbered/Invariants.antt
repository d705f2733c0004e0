use Rattle.std.proofs.Common.{◌≤◌, length, string_bytes}
use Rattle.measure.proofs.input.numbered.Given as goal

abbrev pub invariant-loop-number : goal.invariant-loop-number
invariant-loop-number l = length (string_bytes l.text) ≤ l.size
