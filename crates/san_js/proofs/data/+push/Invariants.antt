use Rattle.std.proofs.Common.{◌≡◌, ◌+◌, ◌*◌, ◌++◌, codes, drop, string_bytes}
use Rattle.js_lexer.specs.Sanitizers.{json}
use Rattle.js_lexer.specs.ScriptBack.{AreJsonItems, AreJsonEntries}
use Rattle.page_datum.specs.Data.{dict, list}
use Rattle.page_datum.specs.Sizes.{data_size, dict_size, list_size}
use Rattle.page_datum.specs.View.{view, items_view, entries_view}
use Rattle.san_js.proofs.Left.{left_in_list, left_in_dict}
use Rattle.san_js.proofs.data.+push.Given as goal

abbrev pub invariant-push_dict-loop-key : goal.invariant-push_dict-loop-key
invariant-push_dict-loop-key l = record {
  written : (string_bytes l.out ++ left_in_dict l.first (entries_view (drop l.key-index l.key-items))) ++ codes "}"
      ≡ string_bytes l.fn.out ++ json (dict (entries_view l.key-items));
  whole : AreJsonEntries (entries_view (drop l.key-index l.key-items)) → AreJsonEntries (entries_view l.key-items);
}

abbrev pub invariant-push_list-loop-value : goal.invariant-push_list-loop-value
invariant-push_list-loop-value l = record {
  written : (string_bytes l.out ++ left_in_list l.first (items_view (drop l.value-index l.values))) ++ codes "]"
      ≡ string_bytes l.fn.out ++ json (list (items_view l.values));
  whole : AreJsonItems (items_view (drop l.value-index l.values)) → AreJsonItems (items_view l.values);
}

abbrev pub decreases-push_datum : goal.decreases-push_datum
decreases-push_datum a = 2 * data_size (view a.datum.now)

abbrev pub decreases-push_list : goal.decreases-push_list
decreases-push_list a = 2 * list_size (items_view a.values.now) + 1

abbrev pub decreases-push_dict : goal.decreases-push_dict
decreases-push_dict a = 2 * dict_size a.entries.now + 1
