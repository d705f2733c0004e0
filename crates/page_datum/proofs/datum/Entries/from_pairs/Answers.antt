use Rattle.std.proofs.Common.{rules, ◌≡◌, ap, ◌∙◌}
use Rattle.page_datum.specs.Data.{DataDict, no_entries, value_at}
use Rattle.page_datum.specs.Putting.{put_all}
use Rattle.page_datum.specs.View.{entries_view}
use Rattle.page_datum.proofs.Puts.{keys_ascend, value_at-put_all}
use Rattle.page_datum.proofs.datum.Entries.from_pairs.Goals as goal

pub from_ascending-requires : goal.from_ascending-requires
from_ascending-requires c =
    let collected : c.in_ok-entries.entries.items ≡ c.in_ok-sorted.sorted.entries = search rules in
    rw collected (keys_ascend c.in_ok-sorted.sorted.entries c.into_iter.ensures.into_iter_gives.5)

pub returns-clause-last : goal.returns-clause-last
returns-clause-last c = λ key.
    let pairs = entries_view c.args.pairs.items in
    let made : c.from_ascending.result ≡ put_all pairs no_entries = search rules in
    ap (λ (entries : DataDict). value_at key entries) made ∙ value_at-put_all key pairs no_entries
