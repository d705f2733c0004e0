use Rattle.std.proofs.Common.{◌<◌, ◌^◌, w64, arith, refl}
use Rattle.std.proofs.lemmas.Int.{to_z_pos}
use Rattle.page_datum.specs.View.{items_view}
use Rattle.tpl_exec.proofs.Elements.{item_here, item_nowhere}
use Rattle.tpl_exec.proofs.element.item_at.Goals as goal

pub returns-in-Some-clause-element : goal.returns-in-Some-clause-element
returns-in-Some-clause-element c =
    let h = c.in-Some.ensures.lookup.3 in
    let small : c.args.at < 2 ^ 63 = search arith in
    rw (to_z_pos w64 c.args.at small, c.as_ref.ensures) (item_here c.args.values.now (items_view c.args.values.now) c.args.at c.in-Some.value.now refl h.0 h.1)

pub returns-in-None-clause-element : goal.returns-in-None-clause-element
returns-in-None-clause-element c = item_nowhere c.args.values.now (items_view c.args.values.now) c.args.at refl c.in-None.ensures.lookup.3
