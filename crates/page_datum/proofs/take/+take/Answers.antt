use Rattle.std.proofs.Common.{arith, sym, ◌∙◌}
use Rattle.page_datum.specs.View.{items_view, entries_view}
use Rattle.page_datum.proofs.Takes.{none_left, item_taken, items_taken, entry_taken, entries_taken, keys_ascend}
use Rattle.page_datum.proofs.take.+take.Goals as goal

pub take_items-loop-item-preserved : goal.take_items-loop-item-preserved
take_items-loop-item-preserved t c =
    let l = c.loop-item in
    rw c.in_ok-push-in-Ok.ensures.items (item_taken l.taken.items c.in-Ok.datum l.taken.len _ c.in-Some.item l.item-iterator.rest.items c.next.new.self.rest.items _ c.in-Some.ensures.steps.0 c.in-Ok.ensures l.taken.ok.0 (omega (arith, l.taken.ok.0, c.in_ok-push-in-Ok.ensures.len)) l.invariant)

pub take_items-returns : goal.take_items-returns
take_items-returns t c =
    rw c.from.ensures (items_taken (items_view c.loop-item.taken.items) c.loop-item.taken.len c.loop-item.item-iterator.rest.items _ (none_left c.loop-item.item-iterator.rest.items (sym c.loop-item.item-iterator.rest.ok.0 ∙ c.in-None.ensures.steps.0)) c.loop-item.invariant)

pub take_members-loop-key-preserved : goal.take_members-loop-key-preserved
take_members-loop-key-preserved t c = record {
  can = tt;
  ends = tt;
  rest =
      let l = c.loop-key in
      rw c.in_ok-push-in-Ok.ensures.items (entry_taken l.taken.items (c.from.result, c.in-Ok.datum) c.in-Some.key c.in-Some.value l.key-iterator c.next.new.self _ c.in-Some.ensures.steps c.from.ensures c.in-Ok.ensures l.invariant.rest);
}

pub take_members-from_ascending-requires : goal.take_members-from_ascending-requires
take_members-from_ascending-requires t c =
    let all = entries_taken (entries_view c.loop-key.taken.items) c.loop-key.key-iterator _ c.in-None.ensures.steps.0 c.loop-key.invariant.rest in
    keys_ascend c.args.members.entries _ all c.into_iter-key-iterator.ensures.into_iter_gives.5

pub take_members-returns : goal.take_members-returns
take_members-returns t c =
    rw c.from_ascending.ensures (entries_taken (entries_view c.loop-key.taken.items) c.loop-key.key-iterator _ c.in-None.ensures.steps.0 c.loop-key.invariant.rest)
