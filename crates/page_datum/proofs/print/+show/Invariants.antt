use Rattle.std.proofs.Common.{◌≡◌, ◌+◌, ◌*◌, ◌++◌, codes, drop}
use Rattle.page_datum.specs.Printed.{shown}
use Rattle.page_datum.specs.Data.{dict, list}
use Rattle.page_datum.specs.Sizes.{data_size, dict_size, list_size}
use Rattle.page_datum.specs.View.{view, items_view, entries_view}
use Rattle.page_datum.proofs.Left.{left_items, left_entries}
use Rattle.page_datum.proofs.print.+show.Given as goal

abbrev pub invariant-show_dict-loop-key : goal.invariant-show_dict-loop-key
invariant-show_dict-loop-key l = (l.out ++ left_entries l.first (entries_view (drop l.key-index l.key-items))) ++ codes "]" ≡ l.fn.out ++ shown (dict (entries_view l.key-items))

abbrev pub invariant-show_list-loop-value : goal.invariant-show_list-loop-value
invariant-show_list-loop-value l = (l.out ++ left_items l.first (items_view (drop l.value-index l.values))) ++ codes "]" ≡ l.fn.out ++ shown (list (items_view l.values))

abbrev pub decreases-show : goal.decreases-show
decreases-show a = 2 * data_size (view a.datum.now)

abbrev pub decreases-show_list : goal.decreases-show_list
decreases-show_list a = 2 * list_size (items_view a.values.now) + 1

abbrev pub decreases-show_dict : goal.decreases-show_dict
decreases-show_dict a = 2 * dict_size a.entries.now + 1
