use Rattle.std.proofs.Common.{◌≡◌}
use Rattle.tpl_eval.specs.Functions.{index_all}
use Rattle.tpl_eval.specs.Values.{values_view}
use Rattle.tpl_eval.proofs.Indexing.{parts_from}
use Rattle.tpl_eval.proofs.make.index_all.Given as goal

abbrev pub invariant-loop-arg : goal.invariant-loop-arg
invariant-loop-arg l = parts_from l.part l.arg-iterator.rest.items ≡ index_all (values_view l.fn.args.items)
