use Rattle.std.proofs.Common.{◌≡◌}
use Rattle.serde_json.specs.View.{items_view as json_items, members_view as json_members}
use Rattle.page_datum.specs.Reading.{items_of, entries_of}
use Rattle.page_datum.specs.View.{items_view, entries_view}
use Rattle.page_datum.proofs.Takes.{items_then, entries_then}
use Rattle.page_datum.proofs.take.+take.Given as goal

abbrev pub invariant-take_items-loop-item : goal.invariant-take_items-loop-item
invariant-take_items-loop-item l = items_then (items_view l.taken.items) (items_of l.taken.len (json_items l.item-iterator.rest.items)) ≡ items_of 0 (json_items l.fn.items.items)

abbrev pub invariant-take_members-loop-key : goal.invariant-take_members-loop-key
invariant-take_members-loop-key l = record {
  can : (goal.iterator-take_members-loop-key).can_next l.key-iterator;
  ends : (goal.iterator-take_members-loop-key).is_finite l.key-iterator;
  rest : entries_then (entries_view l.taken.items) (entries_of (json_members l.key-iterator)) ≡ entries_of (json_members l.fn.members.entries);
}
