use Rattle.std.proofs.Common.{◌≤◌, length, string_bytes}
use Rattle.measure.proofs.template_sets.linked.Given as goal

abbrev pub invariant-loop-number : goal.invariant-loop-number
invariant-loop-number l = length (string_bytes l.text) ≤ l.size
