use Rattle.std.proofs.Common.{sym, ◌∙◌}
use Rattle.place_chart.proofs.Pairs.{chart_found, chart_none}
use Rattle.place_chart.proofs.summaries.Summaries.point_state_of_pair.Goals as goal

pub returns-in-Some : goal.returns-in-Some
returns-in-Some c = c.point_state_at.ensures ∙ sym (chart_found c.args.self.now c.args.template c.args.entry c.in-Some.n c.summary.result.now c.args.point (sym c.in-Some.ensures.number) c.summary.ensures)

pub returns-in-None : goal.returns-in-None
returns-in-None c = sym (chart_none c.args.self.now c.args.template c.args.entry c.args.point (sym c.in-None.ensures.number))
