use Rattle.std.proofs.Common.{All, sym, subst}
use Rattle.std.proofs.lemmas.List.Elements.{All-push}
use Rattle.place_trace.specs.UnchosenWays.{IsUnchosenWay}
use Rattle.place_trace.proofs.unchosen_ways.UnchosenWays.add.Goals as goal

pub returns : goal.returns
returns c = λ forest is ways.
    subst (All (IsUnchosenWay forest)) (sym c.in_ok-push.ensures.items) (All-push (IsUnchosenWay forest) c.args.self.now.ways.items c.args.way ways is)
