use Rattle.place_chart.proofs.ConflictCharts.{conflict-everywhere}
use Rattle.place_chart.proofs.laws.conflict_everywhere.Goals as goal

pub returns : goal.returns
returns c = conflict-everywhere
