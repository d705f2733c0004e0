-- In the chart of a set the calls are those that nodes name.
use Rattle.std.proofs.Common.{◌≡◌, ℕ, ◌<◌, Option, Some, None, refl, sym, ◌∙◌, subst, inl, inr, arith}
use Rattle.std.proofs.lemmas.Bool.{cases_lt}
use Rattle.std.specs.Prelude.{slice_get}
use Rattle.place_explain.specs.Explaining.{PairCalls, nodes_of_summary}
use Rattle.place_explain.specs.Laws.{AreCallsByName, CallsByName}
use Rattle.place_flow.specs.Flows.{nodes_at}
use Rattle.place_infer.proofs.KeptCalls.{no-call}
use Rattle.place_infer.specs.ChartViews.{ArePairCalls, ChartData}
use Rattle.place_chart.specs.declared.summary.Summary.{Summary}
use Rattle.tpl_tree.specs.Forests.{ForestData}
use Rattle.tpl_tree.specs.Trees.{nodes_size}

named_of : (forest : ForestData) (chart : ChartData) (n node m : ℕ) (summary : Option Summary) → ArePairCalls forest chart.summaries chart.calls → slice_get chart.summaries n ≡ summary → PairCalls forest chart n node m → CallsByName forest chart n node m
named_of forest chart n node m None calls is call =
    let within : node < nodes_size (nodes_of_summary forest None) = subst (λ (summary : Option Summary). node < nodes_size (nodes_of_summary forest summary)) is call.within in
    absurd (omega (arith, within))
named_of forest chart n node m (Some summary) calls is call = record { summary = summary; is_summary = is; call = sym (calls n node summary is) ∙ call.call }

of_named : (forest : ForestData) (chart : ChartData) (n node m : ℕ) → ArePairCalls forest chart.summaries chart.calls → CallsByName forest chart n node m → PairCalls forest chart n node m
of_named forest chart n node m calls h = record {
  within = elim (cases_lt node (nodes_size (nodes_at forest h.summary.template))) [
    | inl lt ↦ subst (λ (summary : Option Summary). node < nodes_size (nodes_of_summary forest summary)) (sym h.is_summary) lt
    | inr past ↦ absurd (let wrong : None ≡ Some m = sym (no-call forest chart.summaries h.summary node (nodes_at forest h.summary.template) refl past) ∙ h.call in cc)
  ];
  call = calls n node h.summary h.is_summary ∙ h.call;
}

pub calls-by-name : AreCallsByName
calls-by-name forest names chart h n node m = (named_of forest chart n node m (slice_get chart.summaries n) h.calls refl, of_named forest chart n node m h.calls)
