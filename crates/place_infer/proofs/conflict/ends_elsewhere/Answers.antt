use Rattle.std.proofs.Common.{All, ℕ, take_all, subst}
use Rattle.std.proofs.lemmas.List.Elements.{All-more}
use Rattle.place_core.specs.declared.place.Place.TheVariants as place
use Rattle.place_infer.specs.Inferring.{EndsInText}
use Rattle.place_chart.specs.Summaries.{chart_of}
use Rattle.tpl_paths.specs.Edges.{finish_point}
use Rattle.place_infer.proofs.conflict.ends_elsewhere.Goals as goal

pub loop-root-preserved : goal.loop-root-preserved
loop-root-preserved c = All-more (λ (t : ℕ). EndsInText (chart_of c.args.summaries.now t place.Text finish_point)) c.args.roots.now c.loop-root.root-index 0 c.loop-root-test.true c.loop-root.invariant (subst EndsInText c.point_state_of_pair.ensures (c.ends_in_text.ensures.text c.if-not-ends_in_text.false))

pub returns : goal.returns
returns c = subst (All (λ (t : ℕ). EndsInText (chart_of c.args.summaries.now t place.Text finish_point))) (take_all c.loop-root.root-index c.args.roots.now c.loop-root-test.false) c.loop-root.invariant
