use Rattle.std.proofs.Common.{refl, sym}
use Rattle.place_show.proofs.TextsInBeginnings.{own-colon}
use Rattle.place_show.proofs.Unknowns.{is-unknown}
use Rattle.place_show.proofs.beginnings.colon.Goals as goal

pub returns-else-not-takes-clause-within : goal.returns-else-not-takes-clause-within
returns-else-not-takes-clause-within c = c.in-Err.ensures.bound

pub returns-else-not-takes-clause-clash : goal.returns-else-not-takes-clause-clash
returns-else-not-takes-clause-clash c = λ s own.
    own-colon c.args.text.now c.args.place c.in-Some.open (is-unknown c.args.place c.in-Some.open (sym c.in-Some.ensures)) s own c.in-Err.refused (sym c.in-Err.ensures.place)
    (c.if-not-takes.ensures refl)
