use Rattle.std.proofs.Common.{ℕ, List, sym, ◌∙◌, subst}
use Rattle.place_core.specs.declared.place.Place.TheVariants as place
use Rattle.place_chart.specs.Least.{IsLeastChart}
use Rattle.tpl_tree.specs.Forests.{ForestData}
use Rattle.place_infer.proofs.WithoutErrors.{infers-all}
use Rattle.place_infer.proofs.inferring.infer.Goals as goal

pub returns-clause-answers : goal.returns-clause-answers
returns-clause-answers c =
    let summaries = c.in_ok-found.found in
    let numbers = c.in_ok-numbers.ensures in
    let is = subst (λ (x : ForestData). IsLeastChart x c.deref.result.now place.Text summaries) c.in_ok-flows.ensures c.in_ok-found.ensures in
    let same = c.deref-2.ensures.value ∙ numbers in
    c.judged.ensures c.in_ok-flows.ensures same (subst (λ (ds : List ℕ). IsLeastChart c.args.forest.now ds place.Text summaries) (c.deref.ensures.value ∙ sym c.deref-2.ensures.value) is)

pub returns-clause-complete : goal.returns-clause-complete
returns-clause-complete c = λ up. infers-all c.args.forest.now c.args.roots.now c.judged.result up (returns-clause-answers c)
