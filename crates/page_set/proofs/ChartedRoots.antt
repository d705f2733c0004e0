-- A root of checked files is one of a set that has a chart.
use Rattle.std.proofs.Common.{◌≡◌, true, ℕ, List, [], Some, ◌∙◌, sym, ap, subst}
use Rattle.std.specs.Prelude.{unwrap_or}
use Rattle.page_check.proofs.RootStarts.{root_listed}
use Rattle.page_check.specs.CheckedSets.{CheckedData, IsChecked}
use Rattle.page_check.specs.Roots.{is_root, roots_of}
use Rattle.page_writer.specs.Composing.{IsCharted}
use Rattle.place_flow.proofs.NamedParts.{named}
use Rattle.tpl_tree.specs.Forests.{ForestData, tree_name_at, number_named}

-- the name of a root's template is the root's
pub own-name : (c : CheckedData) (root : List ℕ) (t : ℕ) → Some t ≡ number_named root c.forest → unwrap_or (tree_name_at c.forest t) [] ≡ root
own-name c root t is = ap (λ o. unwrap_or o []) (named c.forest t root (sym is))

pub charted-root : (c : CheckedData) (root : List ℕ) (t : ℕ) → IsChecked c → is_root c.files.list root ≡ true → Some t ≡ number_named root c.forest
    → IsCharted c.forest c.chart (unwrap_or (tree_name_at c.forest t) [])
charted-root c root t is known number =
    subst (IsCharted c.forest c.chart) (sym (own-name c root t number)) (
      roots_of c.files.list,
      record {
        ascend = is.templates.ascend;
        is = is.charted;
        among = root_listed c.files.list root known;
        number = t;
        numbered = sym number;
      },
    )

-- what holds of the template by its number holds of the root
pub of-root : (P : ForestData → List ℕ → Type 0) (forest : ForestData) (c : CheckedData) (root : List ℕ) (t : ℕ) → forest ≡ c.forest → Some t ≡ number_named root forest
    → P forest (unwrap_or (tree_name_at forest t) []) → P c.forest root
of-root P forest c root t same number p =
    subst (P c.forest) (own-name c root t (number ∙ ap (number_named root) same))
    (subst (λ (f : ForestData). P f (unwrap_or (tree_name_at f t) [])) same p)
