use Rattle.std.proofs.Common.{◌<◌, length, ◌∙◌}
use native.Mathlib.Omega.{arith}
use Rattle.tpl_eval.proofs.NewestNumbers.{drop_on}
use Rattle.tpl_eval.proofs.variable_stack.VariableStack.truncate.Goals as goal

pub loop-self-preserved : goal.loop-self-preserved
loop-self-preserved c =
    let more : c.args.count < length c.loop-self.self = omega (arith, c.loop-self-test.true, c.len.ensures) in
    drop_on c.args.count c.loop-self.self c.drop_newest.new.self more c.drop_newest.ensures ∙ c.loop-self.invariant
