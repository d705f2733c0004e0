use Rattle.std.proofs.Common.{sym, subst}
use Rattle.html_step.specs.HoleLaws.{IsHoleOrigin}
use Rattle.html_step.proofs.HoleShows.{from-hole-at}
use Rattle.html_step.proofs.hole_evidences.hole_from.Goals as goal

pub returns : goal.returns
returns c =
    let a = c.requires.accepted in
    subst (IsHoleOrigin c.args.place c.args.member) (sym c.origin.ensures) (from-hole-at c.args.place a.0 a.1 c.args.member c.requires.valid a.2 a.3)
