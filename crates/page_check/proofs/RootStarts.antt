-- Each root starts at a pair of the chart.
use Rattle.std.proofs.Common.{◌≡◌, ℕ, suc, ◌<◌, Bool, true, false, ◌&&◌, ◌||◌, not, nat_eq, List, [], ◌∷◌, Option, Some, None, length, option_map, refl, sym, ◌∙◌, subst, arith}
use Rattle.std.specs.Prelude.{Contains, IfSome, MatchOption, if◌then◌else◌}
use Rattle.std.proofs.lemmas.List.Elements.{All-contains}
use Rattle.std.specs.Cmp.Lexicographic.{bytes_decides, pointwise}
use Rattle.page_check.proofs.RootTemplates.{root_numbered}
use Rattle.page_check.specs.CheckedSets.{CheckedData, IsChecked, StartsAt, root_start, start_of_template}
use Rattle.page_check.specs.Roots.{is_partial, is_root, roots_of}
use Rattle.page_check.specs.declared.root_start.RootStart.{RootStart}
use Rattle.page_datum.specs.declared.files.NamedFile.{NamedFile}
use Rattle.place_core.specs.declared.place.Place.{Place}
use Rattle.place_core.specs.declared.place.Place.TheVariants as place
use Rattle.place_flow.specs.Flows.{start_at}
use Rattle.place_flow.specs.PointStates.{PointStateBelow}
use Rattle.place_flow.specs.declared.point_state.PointState.TheVariants.{At}
use Rattle.place_infer.proofs.JudgedCharts.{root-in}
use Rattle.place_infer.specs.Inferring.{root_numbers}
use Rattle.place_chart.proofs.Pairs.{chart_none, number_within}
use Rattle.place_chart.specs.Charts.{IsEntered}
use Rattle.place_chart.specs.Summaries.{chart_of, pair_number}
use Rattle.place_chart.specs.declared.summary.Summary.{Summary}
use Rattle.tpl_paths.specs.Edges.{Point}
use Rattle.tpl_tree.specs.Forests.{number_named}

more_in : (x : List ℕ) (xs : List (List ℕ)) (y : List ℕ) → Contains xs y → Contains (x ∷ xs) y
more_in x xs y c = (let lt = c.1 in (suc c.0, omega (arith, lt), c.2))

-- a root is among the names of the roots
listed_at : (file : NamedFile) (files : List NamedFile) (root : List ℕ) (p s : Bool) → pointwise nat_eq file.name root ≡ s → ((s && not p) || is_root files root) ≡ true
    → (is_root files root ≡ true → Contains (roots_of files) root) → Contains (if p then roots_of files else file.name ∷ roots_of files) root
listed_at file files root true true e h rest = rest h
listed_at file files root true false e h rest = rest h
listed_at file files root false true e h rest = (0, omega arith, (bytes_decides file.name root).0 e)
listed_at file files root false false e h rest = more_in file.name (roots_of files) root (rest h)

pub root_listed : (files : List NamedFile) (root : List ℕ) → is_root files root ≡ true → Contains (roots_of files) root
root_listed [] root h = cc
root_listed (file ∷ files) root h = listed_at file files root (is_partial file.name) (pointwise nat_eq file.name root) refl h (root_listed files root)

-- a pair at which something stands has a number
has_pair : (rows : List Summary) (t : ℕ) (p : Place) (k : Point) → PointStateBelow (At p) (chart_of rows t p k) → pair_number rows t p ≡ None → ⊥
has_pair rows t p k at none = subst (PointStateBelow (At p)) (chart_none rows t p k none) at

-- the template of a root is entered in text
entered : (c : CheckedData) (root : List ℕ) (t : ℕ) → IsChecked c → is_root c.files.list root ≡ true → number_named root c.forest ≡ Some t → IsEntered c.forest (chart_of c.chart.summaries) t place.Text
entered c root t is h named =
    let names = roots_of c.files.list in
    All-contains (λ (u : ℕ). IsEntered c.forest (chart_of c.chart.summaries) u place.Text) (root_numbers c.forest names) t is.charted.least.entered
    (root-in c.forest names root t (root_listed c.files.list root h) named)

starts_by : (c : CheckedData) (root : List ℕ) (t : ℕ) (n : Option ℕ) → IsChecked c → is_root c.files.list root ≡ true → number_named root c.forest ≡ Some t → pair_number c.chart.summaries t place.Text ≡ n
    → MatchOption (option_map (root_start t) n) (is_root c.files.list root ≡ false) (StartsAt c root)
starts_by c root t None is h named e = absurd (has_pair c.chart.summaries t place.Text (start_at c.forest t) (entered c root t is h named) e)
starts_by c root t (Some n) is h named e =
    record { is = h; named = named; starts = e; within = subst (λ (o : Option ℕ). IfSome o (λ m. m < length c.chart.summaries)) e (number_within c.chart.summaries t place.Text) }

-- where a root's template is looked up in what is checked, its pair is found
pub starts : (d c : CheckedData) (root : List ℕ) (t : ℕ) (r : Option RootStart) → d ≡ c → IsChecked d → is_root c.files.list root ≡ true → Some t ≡ number_named root d.forest → r ≡ start_of_template d.chart t
    → MatchOption r (is_root c.files.list root ≡ false) (StartsAt c root)
starts d c root t r same is h named e =
    subst (λ (x : CheckedData). is_root x.files.list root ≡ true → MatchOption r (is_root x.files.list root ≡ false) (StartsAt x root)) same
    (λ there. subst (λ (o : Option RootStart). MatchOption o (is_root d.files.list root ≡ false) (StartsAt d root)) (sym e)
    (starts_by d root t (pair_number d.chart.summaries t place.Text) is there (sym named) refl)) h

no_number : (n : ℕ) → None ≡ Some n → ⊥
no_number n e = cc

missing : (c : CheckedData) (root : List ℕ) → IsChecked c → None ≡ number_named root c.forest → is_root c.files.list root ≡ true → ⊥
missing c root is none h = (let n = root_numbered root c.files.list c.forest h is.templates in no_number n.number (none ∙ n.is))

-- and the template is found
pub root_found : (d c : CheckedData) (root : List ℕ) → d ≡ c → IsChecked d → is_root c.files.list root ≡ true → None ≡ number_named root d.forest → ⊥
root_found d c root same is h none = subst (λ (x : CheckedData). is_root x.files.list root ≡ true → ⊥) same (missing d root is none) h
