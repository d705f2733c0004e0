use Rattle.std.proofs.Common.{refl, sym, subst}
use Rattle.place_core.proofs.Semilattices.{of_some}
use Rattle.place_show.proofs.GoingTogether.{next-on}
use Rattle.place_show.specs.Together.{GoBoth, GoOnTogether, LastPlaces}
use Rattle.place_trace.specs.Replays.{replay_data}
use Rattle.place_show.proofs.together.next_together.Goals as goal

pub returns-in-Some-clause-goes : goal.returns-in-Some-clause-goes
returns-in-Some-clause-goes c = λ ways w0 v0 h.
    let forest = c.args.flows.now in
    let w = c.back_together.new.one in
    let v = c.back_together.new.other in
    let w1 = c.take_together.new.one in
    let v1 = c.take_together.new.other in
    let both = of_some (GoBoth forest (replay_data w) (replay_data v) (replay_data w1) (replay_data v1)) c.in_ok-found.field-0 c.in-Some.found (c.in_ok-found.ensures.goes ways) c.in-Some.is in
    subst (λ (x : LastPlaces). GoOnTogether forest w0 v0 w1 v1 x) (sym c.latest.ensures)
    (next-on forest w0 v0 w v w1 v1 c.args.last c.in-Some.found both (c.if-not-back_together.ensures refl w0 v0 c.args.last h))
