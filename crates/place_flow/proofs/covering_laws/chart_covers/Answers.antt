use Rattle.place_flow.proofs.HtmlCovers.{chart-covers}
use Rattle.place_flow.proofs.covering_laws.chart_covers.Goals as goal

pub returns : goal.returns
returns c = chart-covers
