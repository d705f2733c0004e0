use Rattle.tpl_tree.proofs.Smaller.{operands_smaller}
use Rattle.tpl_tree.proofs.pipe.Operands.as_slice.Goals as goal

pub returns-clause-smaller : goal.returns-clause-smaller
returns-clause-smaller c = rw (← c.self.view_is, ← c.as_slice.ensures.value) (operands_smaller c.as_slice.result.now)
