use Rattle.std.proofs.Common.{◌≡◌, drop}
use Rattle.page_datum.specs.View.{ref_view}
use Rattle.tpl_eval.specs.Functions.{equals_one}
use Rattle.tpl_eval.specs.Values.{values_view}
use Rattle.tpl_eval.proofs.compare.equals_one.Given as goal

abbrev pub invariant-loop-other : goal.invariant-loop-other
invariant-loop-other l = equals_one (ref_view l.x) (values_view (drop l.other-index l.others)) ≡ equals_one (ref_view l.x) (values_view l.others)
