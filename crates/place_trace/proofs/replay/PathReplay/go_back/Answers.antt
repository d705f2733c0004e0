use Rattle.std.proofs.Common.{◌≡◌, ◌<◌, ◌-◌, List, length, Some, refl, subst, slice_get}
use Rattle.tpl_tree.specs.Forests.{ForestData}
use Rattle.place_trace.specs.declared.replay.ReplayedCall.{ReplayedCall}
use Rattle.place_trace.specs.Replays.{replay_data}
use Rattle.place_trace.proofs.Replaying.{went-back}
use Rattle.place_trace.proofs.replay.PathReplay.go_back.Goals as goal

pub returns-in-Some-clause-path : goal.returns-in-Some-clause-path
returns-in-Some-clause-path c = λ is.
    (went-back c.args.flows.now (replay_data c.args.self.now) _ is c.in-Some.call
    (subst (λ (f : ForestData). c.in-Some.call.template < length f) c.forest.ensures (subst (λ n. c.in-Some.call.template < n) c.count.ensures.count c.in-Some.ensures.within))
    (c.same_point.ensures c.if-not-same_point.false)
    (c.close.ensures (subst (λ (os : List ReplayedCall). slice_get os (length os - 1) ≡ Some c.in-Some.call) c.as_slice.ensures.value c.in-Some.ensures.last))
    refl refl refl refl refl).0

pub returns-in-Some-clause-moves : goal.returns-in-Some-clause-moves
returns-in-Some-clause-moves c = record {
  same_root = refl;
  goes = λ is.
      went-back c.args.flows.now (replay_data c.args.self.now) _ is c.in-Some.call
      (subst (λ (f : ForestData). c.in-Some.call.template < length f) c.forest.ensures (subst (λ n. c.in-Some.call.template < n) c.count.ensures.count c.in-Some.ensures.within))
      (c.same_point.ensures c.if-not-same_point.false)
      (c.close.ensures (subst (λ (os : List ReplayedCall). slice_get os (length os - 1) ≡ Some c.in-Some.call) c.as_slice.ensures.value c.in-Some.ensures.last))
      refl refl refl refl refl;
}
