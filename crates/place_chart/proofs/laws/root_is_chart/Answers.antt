use Rattle.place_chart.proofs.ConflictFreeCharts.{root-is-chart}
use Rattle.place_chart.proofs.laws.root_is_chart.Goals as goal

pub returns : goal.returns
returns c = root-is-chart
