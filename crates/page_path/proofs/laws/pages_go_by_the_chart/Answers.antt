use Rattle.page_path.proofs.Together.{pages-go-by-the-chart}
use Rattle.page_path.proofs.laws.pages_go_by_the_chart.Goals as goal

pub returns : goal.returns
returns c = pages-go-by-the-chart
