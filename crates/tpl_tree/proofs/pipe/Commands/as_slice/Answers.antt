use Rattle.tpl_tree.proofs.Smaller.{commands_smaller}
use Rattle.tpl_tree.proofs.pipe.Commands.as_slice.Goals as goal

pub returns-clause-smaller : goal.returns-clause-smaller
returns-clause-smaller c = rw (← c.self.view_is, ← c.as_slice.ensures.value) (commands_smaller c.as_slice.result.now)
