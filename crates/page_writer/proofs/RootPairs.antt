-- A writer begins with the pair of a root.
use Rattle.std.proofs.Common.{◌≡◌, ℕ, ◌<◌, List, [], ◌∷◌, Option, Some, None, length, map, sym, ap, ◌∙◌, subst}
use Rattle.std.specs.Global.{Vec}
use Rattle.std.specs.Prelude.{unwrap_or}
use Rattle.page_path.specs.Laws.{IsRootOf}
use Rattle.page_writer.proofs.OpenPairs.{AreNumbers, number_at}
use Rattle.page_writer.proofs.WholePages.{Begins, first}
use Rattle.page_writer.specs.Composing.{IsCharted}
use Rattle.page_writer.specs.Outputs.{AreOutputs}
use Rattle.page_writer.specs.Writing.{IsPageBegun}
use Rattle.page_writer.specs.declared.output.Output.{Output}
use Rattle.page_writer.specs.declared.writer.PageWriter.{PageWriter}
use Rattle.place_flow.specs.Covering.{Pair}
use Rattle.place_core.proofs.Semilattices.{none_some}
use Rattle.place_core.specs.declared.place.Place.{Place}
use Rattle.place_core.specs.declared.place.Place.TheVariants as place
use Rattle.place_infer.specs.ChartViews.{ChartData, pair_at}
use Rattle.place_chart.specs.Exact.{places_of}
use Rattle.place_chart.specs.Summaries.{pair_number}
use Rattle.place_flow.proofs.NamedParts.{has_name, numbered}
use Rattle.tpl_paths.specs.Edges.{start_in}
use Rattle.tpl_tree.specs.Forests.{ForestData, HasAscendingNames, tree_name_at, number_named}

abbrev entry_in : List (Pair Place) → Place
entry_in [] = place.Text
entry_in (p ∷ ps) = p.entry

-- a root's template, entered in text, has a number
has_number : (forest : ForestData) (names : List (List ℕ)) (chart : ChartData) (root : List ℕ) → IsRootOf forest names chart root
    → (n : ℕ) × (pair_at chart.summaries (number_named root forest) place.Text ≡ Some n)
has_number forest names chart root is =
    let covered = is.is.covers root is.number is.among is.numbered [] tt in
    let in_text : covered.entry ≡ place.Text = sym (ap entry_in covered.stack) in
    number_at forest chart.summaries root place.Text (start_in forest root) covered.place
    (subst (λ (entry : Place). places_of forest chart.summaries root entry (start_in forest root) ≡ Some covered.place) in_text covered.there)

abbrev pub name_of : ForestData → ℕ → List ℕ
name_of forest root = unwrap_or (tree_name_at forest root) []

-- the number of a template's name is its own
own_number : (forest : ForestData) (root : ℕ) → HasAscendingNames forest → root < length forest
    → number_named (name_of forest root) forest ≡ Some root
own_number forest root up lt =
    let h = has_name forest root lt in
    ap (λ (o : Option (List ℕ)). number_named (unwrap_or o []) forest) h.1 ∙ numbered forest root h.0 up h.1

module _ (forest : ForestData) (chart : ChartData) (root : ℕ) (lt : root < length forest)
    (set : IsCharted forest chart (name_of forest root)) where
  by_name : (start : Option ℕ) → start ≡ pair_number chart.summaries root place.Text
      → pair_at chart.summaries (number_named (name_of forest root) forest) place.Text ≡ start
  by_name start found = ap (λ (o : Option ℕ). pair_at chart.summaries o place.Text) (own_number forest root set.1.ascend lt) ∙ sym found

  pub has_start : (start : Option ℕ) → start ≡ pair_number chart.summaries root place.Text → start ≡ None → ⊥
  has_start start found none =
      let there = has_number forest set.0 chart (name_of forest root) set.1 in
      none_some there.0 (sym none ∙ sym (by_name start found) ∙ there.1)

  pub begins : (outputs : List (Vec Output)) (start : Option ℕ) (n : ℕ) (w : PageWriter)
      → AreOutputs forest chart (map (λ row. row.items) outputs)
      → start ≡ pair_number chart.summaries root place.Text → start ≡ Some n → IsPageBegun outputs n w
      → Begins forest chart (name_of forest root) (map (λ row. row.items) outputs) w
  begins outputs start n w are found is begun = record {
    names = set.0;
    is = set.1;
    are = are;
    at = record {
      goes_by = ap (map (λ row. row.items)) begun.outputs;
      numbers = subst (λ (ns : List ℕ). AreNumbers forest chart.summaries ns (first (name_of forest root)).pairs) (sym begun.pairs)
          (by_name start found ∙ is, tt);
    };
    page = begun.page;
  }
