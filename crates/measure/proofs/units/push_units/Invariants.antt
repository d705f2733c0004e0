use Rattle.std.proofs.Common.{◌-◌, ◌≤◌, length, string_bytes}
use Rattle.measure.proofs.units.push_units.Given as goal

abbrev pub invariant-loop-text : goal.invariant-loop-text
invariant-loop-text l = length (string_bytes l.text) ≤ l.room

abbrev pub decreases-loop-text : goal.decreases-loop-text
decreases-loop-text l = l.room - length (string_bytes l.text)
