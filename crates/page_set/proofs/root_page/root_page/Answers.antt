use Rattle.std.proofs.Common.{◌∙◌, ℕ, List, [], Err, ap, refl, sym, subst}
use Rattle.std.specs.Prelude.{unwrap_or}
use Rattle.page_check.proofs.RootStarts.{root_found}
use Rattle.page_datum.specs.View.{view}
use Rattle.page_set.proofs.ChartedRoots.{charted-root, of-root}
use Rattle.page_writer.specs.Composing.{ComposeAnswers, IsComposed}
use Rattle.tpl_exec.specs.declared.stop.ExecStop.{ExecStop}
use Rattle.tpl_exec.specs.declared.stop.ExecStop.TheVariants.{Fault}
use Rattle.tpl_tree.specs.Forests.{ForestData, tree_name_at, number_named}
use Rattle.page_set.proofs.root_page.root_page.Goals as goal

pub unreachable-requires : goal.unreachable-requires
unreachable-requires c =
    let set = c.args.checked.now in let root = c.args.root.now in
    root_found set set root refl c.forest-forest.ensures.checked (sym c.if-not-is_root.ensures)
    (c.in-None.ensures.number ∙ ap (number_named root) c.forest-forest.ensures.forest)

pub compose-requires-clause-set : goal.compose-requires-clause-set
compose-requires-clause-set c =
    let set = c.args.checked.now in let root = c.args.root.now in
    rw (c.forest-forest.ensures.forest, c.chart-chart.ensures)
    (charted-root set root c.in-Some.template c.forest-forest.ensures.checked (sym c.if-not-is_root.ensures)
    (c.in-Some.ensures.number ∙ ap (number_named root) c.forest-forest.ensures.forest))

pub returns-in-Ok-clause-answers : goal.returns-in-Ok-clause-answers
returns-in-Ok-clause-answers c = (
  sym c.if-not-is_root.ensures,
  of-root (λ (forest : ForestData) (root : List ℕ). IsComposed forest root (view c.args.datum.now) c.in-Ok.made)
      c.forest-forest.result.now c.args.checked.now c.args.root.now c.in-Some.template c.forest-forest.ensures.forest c.in-Some.ensures.number c.in-Ok.ensures,
)

pub returns-in-Err-Fault-clause-answers : goal.returns-in-Err-Fault-clause-answers
returns-in-Err-Fault-clause-answers c = (
  sym c.if-not-is_root.ensures,
  of-root (λ (forest : ForestData) (root : List ℕ). ComposeAnswers forest root (view c.args.datum.now) (Err (Fault c.in-Err-Fault.fault)))
      c.forest-forest.result.now c.args.checked.now c.args.root.now c.in-Some.template c.forest-forest.ensures.forest c.in-Some.ensures.number
      (subst (λ (stop : ExecStop). ComposeAnswers c.forest-forest.result.now (unwrap_or (tree_name_at c.forest-forest.result.now c.in-Some.template) []) (view c.args.datum.now) (Err stop))
      c.in-Err-Fault.field-0-is c.in-Err-Fault.ensures),
)
