use Rattle.std.proofs.Common.{◌∙◌, ap}
use Rattle.tpl_eval.specs.Values.{values_view}
use Rattle.tpl_eval.proofs.Operands.{values_view-push}
use Rattle.tpl_eval.proofs.pipe.with_piped.Goals as goal

pub returns-in_ok-push-in-Some : goal.returns-in_ok-push-in-Some
returns-in_ok-push-in-Some c = rw c.in-Some.is (ap values_view c.in_ok-push-in-Some.ensures.items ∙ values_view-push _ c.in-Some.value)
