use Rattle.std.proofs.Common.{◌≡◌, drop}
use Rattle.tpl_eval.specs.Evaluating.{evaluated_within}
use Rattle.tpl_eval.specs.Values.{value_view}
use Rattle.tpl_eval.proofs.value.fields_within.Given as goal

abbrev pub invariant-loop-name : goal.invariant-loop-name
invariant-loop-name l = evaluated_within (value_view l.value) (drop l.name-index l.name-items) ≡ evaluated_within (value_view l.fn.value) l.name-items
