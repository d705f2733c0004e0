use Rattle.place_chart.proofs.Counts.{one-count}
use Rattle.place_chart.proofs.laws.one_count.Goals as goal

pub returns : goal.returns
returns c = one-count
