use Rattle.std.proofs.Common.{sym}
use Rattle.place_show.proofs.TextsInBeginnings.{keeps-side}
use Rattle.place_show.proofs.Unknowns.{is-unknown}
use Rattle.place_show.proofs.beginnings.keeps.Goals as goal

pub returns-in-Some : goal.returns-in-Some
returns-in-Some c = λ t s own.
    keeps-side c.args.text.now c.args.place c.in-Some.open (is-unknown c.args.place c.in-Some.open (sym c.in-Some.ensures)) s own (c.leads_apart.ensures t)
