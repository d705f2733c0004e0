use Rattle.std.proofs.Common.{◌≤◌, List, All, length, subst, arith}
use Rattle.place_core.specs.declared.place.Place.TheVariants as place
use Rattle.place_infer.proofs.JudgedCharts.{chart-of-set, end-refused, too-many, conflict-refused}
use Rattle.place_infer.specs.ChartViews.{ArePairCalls}
use Rattle.place_infer.specs.Inferring.{EndsInText, IsChartOfSet}
use Rattle.place_chart.specs.Least.{IsLeastChart}
use Rattle.place_chart.specs.Summaries.{IsConflictFreeSummary, chart_of}
use Rattle.place_chart.specs.declared.summary.Summary.{Summary}
use Rattle.tpl_paths.specs.Edges.{finish_point}
use Rattle.place_infer.proofs.inferring.judged.Goals as goal

pub returns-then-count-gt-LIMIT : goal.returns-then-count-gt-LIMIT
returns-then-count-gt-LIMIT c = λ flows same least. (let count = c.count.ensures in let many = c.if-count-gt-LIMIT.true in too-many c.args.forest.now c.args.names.now c.args.roots.now c.args.found same least (omega (arith, count, many)))

pub returns-in-Some : goal.returns-in-Some
returns-in-Some c = λ flows same least.
    let count = c.count.ensures in let few = c.if-count-gt-LIMIT.false in
    conflict-refused c.args.forest.now c.args.names.now c.args.roots.now c.args.found c.in-Some.field-0 same least (omega (arith, count, few)) c.in-Some.ensures c.explained.result (c.explained.ensures flows)

pub returns-in-Some-ends_elsewhere : goal.returns-in-Some-ends_elsewhere
returns-in-Some-ends_elsewhere c = λ flows same least.
    let count = c.count.ensures in let few = c.if-count-gt-LIMIT.false in
    end-refused c.args.forest.now c.args.names.now c.args.roots.now c.args.found same least c.in_default.ensures (omega (arith, count, few)) c.in-Some-ends_elsewhere.root c.in-Some-ends_elsewhere.ensures.0 c.in-Some-ends_elsewhere.ensures.1
    c.explained_end.result (c.explained_end.ensures flows)

pub returns : goal.returns
returns c = λ flows same least.
    let forest = c.args.forest.now in let names = c.args.names.now in let roots = c.args.roots.now in
    let chart = c.in_ok-chart_of_summaries.field-0 in
    let count = c.count.ensures in let limit = c.if-count-gt-LIMIT.false in
    let few : length c.args.found ≤ 8192 = omega (arith, count, limit) in
    subst (λ (summaries : List Summary). IsLeastChart forest roots place.Text summaries → All IsConflictFreeSummary summaries → length summaries ≤ 8192 → All (λ t. EndsInText (chart_of summaries t place.Text finish_point)) roots → ArePairCalls forest summaries chart.calls → IsChartOfSet forest names chart)
    c.in_ok-chart_of_summaries.ensures.summaries (chart-of-set forest names roots chart same) least c.in_default.ensures few c.in_default-ends_elsewhere.ensures c.in_ok-chart_of_summaries.ensures.calls
