use Rattle.std.proofs.Common.{◌∙◌}
use Rattle.page_datum.proofs.Counts.{entry_count-entries_view}
use Rattle.page_datum.proofs.datum.Entries.len.Goals as goal

pub returns-clause-count : goal.returns-clause-count
returns-clause-count c = rw (← c.self.view_is) (c.len.ensures ∙ c.self.inside.entries.ok.0 ∙ entry_count-entries_view c.self.inside.entries.items)
