use Rattle.std.proofs.Common.{◌≡◌, ◌++◌, ◌≤◌, drop, length, false}
use Rattle.tpl_format.specs.Answers.{datas, max_format_text}
use Rattle.tpl_format.specs.Prints.{args_from}
use Rattle.tpl_format.proofs.printing.print_args.Given as goal

abbrev pub invariant-loop-datum : goal.invariant-loop-datum
invariant-loop-datum l = (l.out ++ args_from l.apart (datas (drop l.datum-index l.args)) ≡ args_from false (datas l.args)) × (length l.out ≤ max_format_text)
