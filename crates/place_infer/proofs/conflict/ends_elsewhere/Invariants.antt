use Rattle.std.proofs.Common.{All, take}
use Rattle.place_core.specs.declared.place.Place.TheVariants as place
use Rattle.place_infer.specs.Inferring.{EndsInText}
use Rattle.place_chart.specs.Summaries.{chart_of}
use Rattle.tpl_paths.specs.Edges.{finish_point}
use Rattle.place_infer.proofs.conflict.ends_elsewhere.Given as goal

abbrev pub invariant-loop-root : goal.invariant-loop-root
invariant-loop-root l = All (λ t. EndsInText (chart_of l.summaries t place.Text finish_point)) (take l.root-index l.roots)
