use Rattle.page_datum.proofs.Smaller.{items_smaller}
use Rattle.page_datum.proofs.datum.Items.as_slice.Goals as goal

pub returns-clause-smaller : goal.returns-clause-smaller
returns-clause-smaller c = rw (← c.self.view_is, ← c.as_slice.ensures.value) (items_smaller c.as_slice.result.now)
