use Rattle.std.proofs.Common.{◌∙◌, arith}
use Rattle.place_infer.proofs.solver.Solver.follow_point.Goals as goal

pub loop-turn-preserved : goal.loop-turn-preserved
loop-turn-preserved c =
    let before = c.loop-turn.invariant.length in let more = c.follow_edge.ensures.length in
    record {
      sound = λ roots first h. c.in_ok-follow_edge-in-Some.ensures.sound roots first (c.loop-turn.invariant.sound roots first h);
      keeps = c.in_ok-follow_edge-in-Some.ensures.keeps ∙ c.loop-turn.invariant.keeps;
      length = omega (arith, before, more);
    }
