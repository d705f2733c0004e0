use Rattle.std.proofs.Common.{◌∙◌, sym, ap, ℤ, pos, nat_abs}
use Rattle.std.proofs.Math.Facts.{to_z-of_z}
use lib.Signed.{lt_z}
use Rattle.page_datum.specs.View.{items_view}
use Rattle.tpl_value.proofs.Parts.{item_before, item_from}
use Rattle.tpl_value.proofs.pick.item_at.Goals as goal

pub returns-then-at-lt0 : goal.returns-then-at-lt0
returns-then-at-lt0 c = item_before c.args.at (items_view c.args.items.now) (ap (λ (n : ℤ). lt_z n (pos 0)) (sym (to_z-of_z c.ranges.at)) ∙ c.if-at-lt0.true)

pub returns : goal.returns
returns c = item_from c.args.at c.unsigned_abs.result (items_view c.args.items.now) c.numbered_item.result (ap (λ (n : ℤ). lt_z n (pos 0)) (sym (to_z-of_z c.ranges.at)) ∙ c.if-at-lt0.false) (c.unsigned_abs.ensures.value ∙ ap nat_abs (to_z-of_z c.ranges.at)) c.numbered_item.ensures
