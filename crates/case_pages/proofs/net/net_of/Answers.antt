use Rattle.std.proofs.Common.{sym, subst}
use Rattle.std.proofs.lemmas.List.Elements.{All-push}
use Rattle.std.specs.Prelude.{All}
use Rattle.case_pages.proofs.FreshDoors.{IsFresh}
use Rattle.case_pages.proofs.net.net_of.Goals as goal

pub loop-door-preserved : goal.loop-door-preserved
loop-door-preserved c =
    subst (All IsFresh) (sym c.in_ok-push.ensures.ok)
    (All-push IsFresh c.loop-door.doors c.in_ok-door_of.field-0 c.loop-door.invariant c.in_ok-door_of.ensures)
