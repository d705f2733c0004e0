use Rattle.std.proofs.Common.{◌≡◌, sym, ◌∙◌}
use Rattle.std.proofs.lemmas.Result.{IfOk-weaker}
use Rattle.tpl_eval.specs.Evaluating.{variable_value}
use Rattle.tpl_eval.specs.Values.{value_view}
use Rattle.tpl_eval.proofs.NewestNumbers.{no_value, value_at}
use Rattle.tpl_eval.proofs.variable_stack.VariableStack.value_of.Goals as goal

pub returns-in-None : goal.returns-in-None
returns-in-None c = sym (no_value c.args.name.now c.args.self.now (sym c.number_of.ensures.number ∙ c.in-None.is))

pub returns-in-Some : goal.returns-in-Some
returns-in-Some c =
    let v = c.index.result.now in
    let stored = value_at c.self.inside.all.items c.args.self.now c.args.name.now c.in-Some.number v c.self.view_is (sym c.number_of.ensures.number ∙ c.in-Some.is) c.index.ensures in
    IfOk-weaker c.copy.result (λ copy. value_view copy ≡ value_view v.value) (λ copy. value_view copy ≡ variable_value c.args.name.now c.args.self.now) (λ copy e. e ∙ stored.1) c.copy.ensures
