use Rattle.place_infer.proofs.FoundCharts.{is-least}
use Rattle.place_infer.proofs.finding.find_chart.Goals as goal

pub returns-then-are_entered : goal.returns-then-are_entered
returns-then-are_entered c = is-least c.args.flows.now c.args.roots.now c.in_ok-derived.derived.summaries c.in_ok-summaries.summaries c.in_ok-derived.ensures.sound.log c.in_ok-derived.derived.conflict
    c.in_ok-derived.ensures.sound.sound c.in_ok-summaries.ensures (c.are_closed.ensures c.if-are_closed.true) (c.are_entered.ensures c.if-are_entered.true)
