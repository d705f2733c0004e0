use Rattle.std.proofs.Common.{◌≡◌, ◌-◌, length, drop}
use Rattle.tpl_eval.proofs.variable_stack.VariableStack.truncate.Given as goal

abbrev pub invariant-loop-self : goal.invariant-loop-self
invariant-loop-self l = drop (length l.self - l.count) l.self ≡ drop (length l.fn.self - l.count) l.fn.self

abbrev pub decreases-loop-self : goal.decreases-loop-self
decreases-loop-self l = length l.self
