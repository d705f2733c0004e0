use Rattle.tpl_eval.proofs.Arguments.{slice_passed}
use Rattle.tpl_eval.proofs.make.slice_all.Goals as goal

pub returns-in-len4-up : goal.returns-in-len4-up
returns-in-len4-up c = slice_passed c.args.args.now c.in-len4-up.len_at_least
