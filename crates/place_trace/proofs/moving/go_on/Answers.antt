use Rattle.std.proofs.Common.{sym, ◌∙◌, subst}
use Rattle.tpl_paths.specs.Edges.{Point}
use Rattle.place_trace.specs.Moving.{HasEntered}
use Rattle.place_trace.specs.Replays.{replay_data}
use Rattle.place_trace.proofs.Replaying.{entered, arrived}
use Rattle.place_trace.proofs.moving.go_on.Goals as goal

pub returns-in_ok-arrive-in-Reaches-clause-path : goal.returns-in_ok-arrive-in-Reaches-clause-path
returns-in_ok-arrive-in-Reaches-clause-path c = λ up e at from end is.
    (arrived c.args.flows.now (replay_data c.args.replay.now) (replay_data c.arrive.new.replay) is c.args.number up e c.args.to c.in-Reaches.place c.choice-choice.result at from end (c.choice-choice.ensures e at)
    (sym (c.transfer.ensures e at) ∙ c.in-Reaches.is) c.in_ok-arrive-in-Reaches.ensures).0

pub returns-in_ok-arrive-in-Reaches-clause-moves : goal.returns-in_ok-arrive-in-Reaches-clause-moves
returns-in_ok-arrive-in-Reaches-clause-moves c = λ up e at from end. record {
  same_root = c.in_ok-arrive-in-Reaches.ensures.same_root;
  goes = λ is. arrived c.args.flows.now (replay_data c.args.replay.now) (replay_data c.arrive.new.replay) is c.args.number up e c.args.to c.in-Reaches.place c.choice-choice.result at from end (c.choice-choice.ensures e at)
      (sym (c.transfer.ensures e at) ∙ c.in-Reaches.is) c.in_ok-arrive-in-Reaches.ensures;
}

pub returns-in_ok-enter-in-Enters-clause-path : goal.returns-in_ok-enter-in-Enters-clause-path
returns-in_ok-enter-in-Enters-clause-path c = λ up e at from end is.
    (entered c.args.flows.now (replay_data c.args.replay.now) (replay_data c.enter.new.replay) is c.args.number up e c.args.to c.in-Enters.callee c.in-Enters.place at from end (sym (c.transfer.ensures e at) ∙ c.in-Enters.is)
    (subst (λ (k : Point). HasEntered (replay_data c.args.replay.now) (replay_data c.enter.new.replay) c.in-Enters.callee k c.args.to c.in-Enters.place) c.start.ensures c.in_ok-enter-in-Enters.ensures)).0

pub returns-in_ok-enter-in-Enters-clause-moves : goal.returns-in_ok-enter-in-Enters-clause-moves
returns-in_ok-enter-in-Enters-clause-moves c = λ up e at from end. record {
  same_root = c.in_ok-enter-in-Enters.ensures.same_root;
  goes = λ is. entered c.args.flows.now (replay_data c.args.replay.now) (replay_data c.enter.new.replay) is c.args.number up e c.args.to c.in-Enters.callee c.in-Enters.place at from end (sym (c.transfer.ensures e at) ∙ c.in-Enters.is)
      (subst (λ (k : Point). HasEntered (replay_data c.args.replay.now) (replay_data c.enter.new.replay) c.in-Enters.callee k c.args.to c.in-Enters.place) c.start.ensures c.in_ok-enter-in-Enters.ensures);
}
