use Rattle.std.proofs.Common.{◌∙◌, sym}
use Rattle.std.proofs.lemmas.Result.{on_ok_weaker}
use Rattle.place_flow.specs.Flows.{edges_at}
use Rattle.place_flow.specs.declared.point_state.PointState.TheVariants.{At, Conflict}
use Rattle.place_derive.proofs.Stepping.{edge_found, found_at}
use Rattle.place_derive.proofs.derived.Derived.propagate.Goals as goal

pub returns-in-At-clause-sound : goal.returns-in-At-clause-sound
returns-in-At-clause-sound c =
    let forest = c.args.flows.now in
    let summary = c.summary-summary.result.now in
    let f = edge_found (edges_at forest summary.template) c.args.number c.in-Some.from c.in-Some.to (sym c.ends.ensures ∙ c.in-Some.is) in
    on_ok_weaker c.propagate_from.result (λ sound roots first. sound roots first f.edge
    (found_at forest c.args.self.now.summaries c.args.n c.args.number summary c.in-Some.from c.in-Some.to (At c.in-At.source) f c.summary-summary.ensures (sym c.in-At.is ∙ c.point_state_at.ensures)))
    c.propagate_from.ensures.sound

pub returns-in-Conflict-clause-sound : goal.returns-in-Conflict-clause-sound
returns-in-Conflict-clause-sound c =
    let forest = c.args.flows.now in
    let summary = c.summary-summary.result.now in
    let f = edge_found (edges_at forest summary.template) c.args.number c.in-Some.from c.in-Some.to (sym c.ends.ensures ∙ c.in-Some.is) in
    on_ok_weaker c.propagate_conflict.result (λ sound roots first. sound forest roots first f.edge
    (found_at forest c.args.self.now.summaries c.args.n c.args.number summary c.in-Some.from c.in-Some.to Conflict f c.summary-summary.ensures (sym c.in-Conflict.is ∙ c.point_state_at.ensures)))
    c.propagate_conflict.ensures.sound
