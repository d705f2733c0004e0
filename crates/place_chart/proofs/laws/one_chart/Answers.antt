use Rattle.place_chart.proofs.Agreeing.{one-chart}
use Rattle.place_chart.proofs.laws.one_chart.Goals as goal

pub returns : goal.returns
returns c = one-chart
