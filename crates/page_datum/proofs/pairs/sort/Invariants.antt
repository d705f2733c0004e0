use Rattle.std.proofs.Common.{◌≡◌}
use Rattle.page_datum.specs.Data.{no_entries}
use Rattle.page_datum.specs.Putting.{put_all}
use Rattle.page_datum.specs.View.{entries_view}
use Rattle.page_datum.proofs.pairs.sort.Given as goal

abbrev pub invariant-loop-key : goal.invariant-loop-key
invariant-loop-key l =
    put_all (entries_view l.key-iterator.rest.items) (entries_view l.sorted.entries)
    ≡ put_all (entries_view l.fn.pairs.items) no_entries
