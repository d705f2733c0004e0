use Rattle.std.proofs.Common.{◌≡◌, ◌≤◌, length}
use Rattle.place_derive.specs.Logs.{is_kept}
use Rattle.place_derive.specs.Soundness.{StaysSound}
use Rattle.place_infer.proofs.solver.Solver.follow_point.Given as goal

abbrev pub invariant-loop-turn : goal.invariant-loop-turn
invariant-loop-turn l = record {
  sound : StaysSound l.flows l.initial.self.derived l.self.derived;
  keeps : is_kept l.self.derived.log ≡ is_kept l.initial.self.derived.log;
  length : length l.initial.self.derived.summaries ≤ length l.self.derived.summaries;
}
