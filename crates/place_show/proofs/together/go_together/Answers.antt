use Rattle.std.proofs.Common.{refl}
use Rattle.place_show.proofs.GoingTogether.{start-together}
use Rattle.place_show.proofs.together.go_together.Goals as goal

pub returns-then-spells_apart : goal.returns-then-spells_apart
returns-then-spells_apart c =
    let w = c.args.one.now in
    let v = c.args.other.now in
    c.all_together.ensures w v
    (λ is js. start-together c.args.flows.now w v is js
    (record { own = w.place; other_own = v.place; stands = is.own; other_stands = js.own; apart = c.if-spells_apart.ensures.0 refl }))
