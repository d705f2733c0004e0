use Rattle.std.proofs.Common.{sym, ◌∙◌}
use Rattle.tpl_eval.specs.Values.{value_view}
use Rattle.tpl_eval.proofs.NewestNumbers.{set_assigned, set_found, none_assigned}
use Rattle.tpl_eval.proofs.variable_stack.VariableStack.assign.Goals as goal
use Rattle.tpl_eval.proofs.variable_stack.VariableStack.assign.Goals.{in-Made-1, in-Lent-1}

pub invariant_of-self : goal.invariant_of-self
invariant_of-self c = set_found c.self.inside.all.items c.self.inside.newest c.in-Some.number c.index_mut.result.now c.args.value c.index_mut.ensures.value c.self.invariant

pub invariant_of-self-in-Some-2 : goal.invariant_of-self-in-Some-2
invariant_of-self-in-Some-2 c = set_found c.self.inside.all.items c.self.inside.newest c.in-Some.number c.index_mut.result.now c.args.value c.index_mut.ensures.value c.self.invariant

pub returns-in-Some : goal.returns-in-Some
returns-in-Some c =
    let number = sym c.number_of.ensures.number ∙ c.in-Some.is in
    let is = set_assigned c.self.inside.all.items c.args.self.now c.args.name.now c.in-Some.number c.index_mut.result.now c.args.value c.self.view_is number c.index_mut.ensures.value in
    elim c.match-index_mut-value.branch [ in-Made-1 w ↦ w.self-is ∙ is | in-Lent-1 w ↦ w.self-is ∙ is ]

pub returns-in_default : goal.returns-in_default
returns-in_default c = none_assigned c.args.name.now (value_view c.args.value) c.args.self.now (sym c.number_of.ensures.number ∙ c.in_default.is)
