use Rattle.std.proofs.Common.{arith, ◌∙◌}
use Rattle.page_datum.proofs.Copies.{item_copied, entry_copied}
use Rattle.page_datum.proofs.Smaller.{item_below}
use Rattle.page_datum.proofs.copy.+copy.Goals as goal

pub copy_values-loop-value-preserved : goal.copy_values-loop-value-preserved
copy_values-loop-value-preserved t c =
    let l = c.loop-value in
    rw c.in_ok-push.ensures.items (item_copied l.copies.items c.args.values.now l.value-index c.value-item.result c.in_ok-copy.field-0 c.loop-value-test.true c.value-item.is c.in_ok-copy.ensures l.invariant)

pub copy_entries-loop-key-preserved : goal.copy_entries-loop-key-preserved
copy_entries-loop-key-preserved t c =
    let l = c.loop-key in
    rw c.in_ok-push.ensures.items (entry_copied l.copies.items c.as_slice-key-items.result.now l.key-index c.loop-key-item.result (c.in_ok-key.key, c.in_ok-copy.field-0) c.loop-key-test.true c.loop-key-item.is (c.in_ok-key.ensures ∙ c.as_str.ensures) c.in_ok-copy.ensures l.invariant)

pub copy_values-copy-requires : goal.copy_values-copy-requires
copy_values-copy-requires t c = (omega (arith, c.decreases, item_below c.args.values.now c.loop-value.value-index c.value-item.result c.loop-value-test.true c.value-item.is), tt)
