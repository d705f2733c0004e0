use Rattle.std.proofs.Common.{◌≡◌, ◌+◌, ◌*◌, take}
use Rattle.page_datum.specs.Sizes.{data_size, dict_size, list_size}
use Rattle.page_datum.specs.View.{view, items_view, entries_view}
use Rattle.page_datum.proofs.copy.+copy.Given as goal

abbrev pub invariant-copy_entries-loop-key : goal.invariant-copy_entries-loop-key
invariant-copy_entries-loop-key l = entries_view l.copies.items ≡ entries_view (take l.key-index l.key-items)

abbrev pub invariant-copy_values-loop-value : goal.invariant-copy_values-loop-value
invariant-copy_values-loop-value l = items_view l.copies.items ≡ items_view (take l.value-index l.values)

abbrev pub decreases-copy : goal.decreases-copy
decreases-copy a = 2 * data_size (view a.datum.now)

abbrev pub decreases-copy_values : goal.decreases-copy_values
decreases-copy_values a = 2 * list_size (items_view a.values.now) + 1

abbrev pub decreases-copy_entries : goal.decreases-copy_entries
decreases-copy_entries a = 2 * dict_size a.entries.now + 1
