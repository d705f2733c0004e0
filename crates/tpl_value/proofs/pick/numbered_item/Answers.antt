use Rattle.tpl_value.proofs.Parts.{item_here, item_nowhere}
use Rattle.tpl_value.proofs.pick.numbered_item.Goals as goal

pub returns-in-Some : goal.returns-in-Some
returns-in-Some c = let h = c.in-Some.ensures.lookup.3 in item_here c.args.items.now c.args.number c.in-Some.item.now h.0 h.1

pub returns-in-None : goal.returns-in-None
returns-in-None c = item_nowhere c.args.items.now c.args.number c.in-None.ensures.lookup.3
