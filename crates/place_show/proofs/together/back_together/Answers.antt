use Rattle.std.proofs.Common.{refl}
use Rattle.place_show.proofs.GoingTogether.{back-alike}
use Rattle.place_show.proofs.together.back_together.Goals as goal

pub returns-then-not-went : goal.returns-then-not-went
returns-then-not-went c = λ t w0 v0 last h.
    back-alike c.args.flows.now w0 v0 c.loop-turn.one c.loop-turn.other c.go_back-went.new.self c.go_back-other_went.new.self last c.go_back-went.result c.go_back-other_went.result
    (c.if-not-are_alike.ensures refl) c.go_back-went.ensures.moves c.go_back-other_went.ensures.moves (c.loop-turn.invariant w0 v0 last h)

pub loop-turn-preserved : goal.loop-turn-preserved
loop-turn-preserved c = λ w0 v0 last h.
    back-alike c.args.flows.now w0 v0 c.loop-turn.one c.loop-turn.other c.go_back-went.new.self c.go_back-other_went.new.self last c.go_back-went.result c.go_back-other_went.result
    (c.if-not-are_alike.ensures refl) c.go_back-went.ensures.moves c.go_back-other_went.ensures.moves (c.loop-turn.invariant w0 v0 last h)
