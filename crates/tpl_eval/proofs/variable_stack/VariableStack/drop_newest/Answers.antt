use Rattle.tpl_eval.proofs.NewestNumbers.{drop_found, drop_again}
use Rattle.tpl_eval.proofs.variable_stack.VariableStack.drop_newest.Goals as goal

pub invariant_of-self : goal.invariant_of-self
invariant_of-self c =
    drop_again c.insert.result c.self.inside.all.items c.pop.new.self.items c.in-Some.variable c.in-Some-hidden.number c.self.inside.newest c.insert.new.self c.in-Some.ensures.items c.in-Some-hidden.is c.self.invariant
    c.insert.ensures.updates c.insert.ensures.absent

pub invariant_of-self-in-Some : goal.invariant_of-self-in-Some
invariant_of-self-in-Some c =
    drop_found c.self.inside.all.items c.pop.new.self.items c.in-Some.variable c.self.inside.newest c.in-Some.ensures.items c.in_default-hidden.is c.self.invariant
