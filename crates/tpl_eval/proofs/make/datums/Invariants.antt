use Rattle.std.proofs.Common.{◌≡◌, ◌++◌, drop}
use Rattle.tpl_format.specs.Answers.{datas}
use Rattle.tpl_eval.specs.Values.{values_view}
use Rattle.tpl_eval.proofs.make.datums.Given as goal

abbrev pub invariant-loop-value : goal.invariant-loop-value
invariant-loop-value l = datas l.lent.items ++ values_view (drop l.value-index l.values) ≡ values_view l.values
