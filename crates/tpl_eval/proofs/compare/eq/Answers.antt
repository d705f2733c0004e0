use Rattle.std.proofs.Common.{◌∙◌, List, ap, arith}
use Rattle.std.proofs.lemmas.List.{take_rest}
use Rattle.page_datum.specs.View.{ref_view}
use Rattle.tpl_eval.specs.Functions.{equals_one}
use Rattle.tpl_eval.specs.Values.{values_view}
use Rattle.tpl_eval.specs.declared.value.Value.{Value}
use Rattle.tpl_eval.proofs.Arguments.{eq_lacks, eq_several}
use Rattle.tpl_eval.proofs.compare.eq.Goals as goal

pub returns-then-args-lt2 : goal.returns-then-args-lt2
returns-then-args-lt2 c = eq_lacks c.args.args.now (omega (arith, c.if-args-lt2.true))

pub returns : goal.returns
returns c = eq_several c.args.args.now c.index-args-0.result (ref_view c.datum.result) c.equals_one.result c.as_truth.result (omega (arith, c.if-args-lt2.false)) c.index-args-0.is c.datum.ensures (c.equals_one.ensures ∙ ap (λ (vs : List Value). equals_one (ref_view c.datum.result) (values_view vs)) (take_rest c.args.args.now 1)) c.as_truth.ensures
