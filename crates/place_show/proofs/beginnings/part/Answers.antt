use Rattle.std.proofs.Common.{sym}
use Rattle.place_show.proofs.TextsInBeginnings.{part-of}
use Rattle.place_show.proofs.beginnings.part.Goals as goal

pub returns : goal.returns
returns c = λ t s r own other.
    part-of c.args.text.now c.args.one c.args.other c.in-Some.both (sym c.in-Some.ensures) s r own other
    (λ h. (let t = c.if-has_apart.ensures.1 h in cc)) (c.leads_apart.ensures t)
