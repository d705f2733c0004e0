use Rattle.std.proofs.Common.{◌≡◌, ◌∙◌, ap}
use Rattle.place_flow.specs.Transfer.{step_of}
use Rattle.place_flow.specs.declared.point_state.PointState.TheVariants.{At}
use Rattle.place_chart.specs.Charts.{given, step_given}
use Rattle.place_chart.specs.Summaries.{chart_of}
use Rattle.place_derive.proofs.derived.Derived.propagate_from.Goals as goal

pub returns-clause-sound : goal.returns-clause-sound
returns-clause-sound c = λ roots first e i h.
    let forest = c.args.flows.now in
    let summaries = c.enter_callee.new.self.summaries in
    let r = c.args.edge in
    let source = c.args.source in
    let step : c.transfer-step.result ≡ step_of forest r.template e source = c.transfer-step.ensures e i.is_edge in
    let by : c.through_step-by.result ≡ given forest (chart_of summaries) r.template e (At source) = c.through_step-by.ensures ∙ ap (step_given (chart_of summaries)) step in
    c.in_ok-point.ensures.sound forest roots first e (c.in_ok-entered.ensures.stays e i) by (c.in_ok-entered.ensures.sound roots first e i step h)
