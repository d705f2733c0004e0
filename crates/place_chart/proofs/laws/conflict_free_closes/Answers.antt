use Rattle.place_chart.proofs.ConflictFreeCharts.{conflict_free-closes}
use Rattle.place_chart.proofs.laws.conflict_free_closes.Goals as goal

pub returns : goal.returns
returns c = conflict_free-closes
