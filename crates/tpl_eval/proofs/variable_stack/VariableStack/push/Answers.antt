use Rattle.std.proofs.Common.{◌∙◌}
use Rattle.tpl_eval.proofs.NewestNumbers.{push_found}
use Rattle.tpl_eval.proofs.variable_stack.VariableStack.push.Goals as goal

pub invariant_of-self-in-Ok : goal.invariant_of-self-in-Ok
invariant_of-self-in-Ok c =
    push_found c.self.inside.all.items c.push.new.self.items c.args.self.now c.self.inside.newest c.insert.new.self (record { name = c.args.name; value = c.args.value; hidden = c.number_of-hidden.result }) c.len-number.result
    c.in_ok-push.ensures.items c.self.view_is (c.len-number.ensures ∙ c.self.inside.all.ok.0) c.self.invariant c.number_of-hidden.ensures.number c.in-Ok.ensures.updates
