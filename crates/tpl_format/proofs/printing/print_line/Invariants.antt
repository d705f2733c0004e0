use Rattle.std.proofs.Common.{◌≡◌, ◌++◌, drop, false}
use Rattle.tpl_format.specs.Answers.{datas}
use Rattle.tpl_format.specs.Prints.{line_from}
use Rattle.tpl_format.proofs.printing.print_line.Given as goal

abbrev pub invariant-loop-datum : goal.invariant-loop-datum
invariant-loop-datum l = l.out ++ line_from l.later (datas (drop l.datum-index l.args)) ≡ line_from false (datas l.args)
