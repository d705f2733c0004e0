use Rattle.std.proofs.Common.{◌∙◌}
use Rattle.page_datum.proofs.Counts.{item_count-items_view}
use Rattle.page_datum.proofs.datum.Items.len.Goals as goal

pub returns-clause-count : goal.returns-clause-count
returns-clause-count c = rw (← c.self.view_is) (c.len.ensures ∙ c.self.inside.items.ok.0 ∙ item_count-items_view c.self.inside.items.items)
