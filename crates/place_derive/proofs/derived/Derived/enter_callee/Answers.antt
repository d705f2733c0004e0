use Rattle.std.proofs.Common.{◌∙◌, sym}
use Rattle.std.proofs.lemmas.Result.{on_ok_weaker}
use Rattle.place_flow.specs.declared.point_state.PointState.TheVariants.{At}
use Rattle.place_derive.proofs.Stepping.{call_grows, edge_stays}
use Rattle.place_derive.proofs.derived.Derived.enter_callee.Goals as goal

pub returns-in-Enters-clause-sound : goal.returns-in-Enters-clause-sound
returns-in-Enters-clause-sound c =
    on_ok_weaker c.enter.result (λ sound roots first e i s h. sound roots first h.log tt h.is
    (call_grows c.args.flows.now roots first c.args.self.now.summaries h.log c.args.self.now.conflict c.args.edge e c.args.source c.in-Enters.callee c.in-Enters.place i (sym c.in-Enters.is ∙ s) h.sound) h.sound)
    c.enter.ensures.sound

pub returns-in-Enters-clause-stays : goal.returns-in-Enters-clause-stays
returns-in-Enters-clause-stays c =
    on_ok_weaker c.enter.result (λ stays e i. edge_stays c.args.flows.now c.args.self.now.summaries c.enter.new.self.summaries c.args.edge e (At c.args.source) stays i) c.enter.ensures.stays
