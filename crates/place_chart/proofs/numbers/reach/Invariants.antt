use Rattle.std.proofs.Common.{◌+◌, ◌-◌, length}
use Rattle.place_chart.specs.Numbers.{AreSameNumbers}
use Rattle.place_chart.proofs.numbers.reach.Given as goal

abbrev pub invariant-loop-numbers : goal.invariant-loop-numbers
invariant-loop-numbers l = AreSameNumbers l.fn.numbers.items l.numbers.items

abbrev pub decreases-loop-numbers : goal.decreases-loop-numbers
decreases-loop-numbers l = l.template + 1 - length l.numbers.items
