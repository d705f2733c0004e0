-- A pair has one explanation, since its pairs have one order.
use Rattle.std.proofs.Common.{◌≡◌, ◌⊎◌, ℕ, suc, ◌+◌, true, false, List, [], ◌∷◌, get_or, Ordering, Less, Equal, Greater, refl, sym, ap, ◌∙◌, subst, inl, inr, eq-eqb, arith}
use Rattle.std.proofs.lemmas.Bool.{cases_eq}
use Rattle.std.proofs.lemmas.Cmp.{nat_cmp_total, then_total, on_total, tied_itself}
use Rattle.std.proofs.lemmas.List.Elements.{All-contains, All-from_recursion}
use Rattle.std.proofs.lemmas.Map.Keys.{apart_from_distinct, sorted_from_all_adjacent, sorted_head, sorted_tail}
use Rattle.std.proofs.lemmas.Map.Made.{Contains-tail}
use Rattle.std.specs.Cmp.{IsTotalOrder}
use Rattle.std.specs.Cmp.Lexicographic.{on_texts}
use Rattle.std.specs.FinMap.{nat_cmp-IsAntisymmetric}
use Rattle.std.specs.List.{IsDistinct}
use Rattle.std.specs.List.Sorted.{IsStrictlySortedBy}
use Rattle.std.specs.Ordering.{is_lt, ordering_reverse, ordering_then}
use Rattle.std.specs.Prelude.{Contains, IsSortedByKey, flat_map, nat_eq, slice_get}
use Rattle.place_explain.proofs.Orders.{own_number}
use Rattle.place_explain.specs.Explaining.{Key, key_cmp, pair_key_of}
use Rattle.place_explain.specs.Laws.{HaveOneText}
use Rattle.place_explain.specs.PairText.{pair_text}
use Rattle.place_infer.specs.ChartViews.{ChartData}
use Rattle.tpl_tree.specs.Forests.{ForestData}

key_total : IsTotalOrder key_cmp
key_total = then_total (then_total (on_texts (λ (k : Key). k.0)) (on_texts (λ (k : Key). k.1))) (on_total (λ (k : Key). k.2) nat_cmp_total)

-- what ties has one number
last_ties : (o p : Ordering) → ordering_then o p ≡ Equal → p ≡ Equal
last_ties Less p e = cc
last_ties Equal p e = e
last_ties Greater p e = cc

abbrev pair_cmp : ForestData → ChartData → ℕ → ℕ → Ordering
pair_cmp forest chart n m = key_cmp (pair_key_of forest chart n) (pair_key_of forest chart m)

one_pair : (forest : ForestData) (chart : ChartData) (n m : ℕ) → pair_cmp forest chart n m ≡ Equal → n ≡ m
one_pair forest chart n m e =
    sym (own_number forest (slice_get chart.summaries n) n)
    ∙ nat_cmp-IsAntisymmetric (pair_key_of forest chart n).2 (pair_key_of forest chart m).2 (last_ties _ _ e)
    ∙ own_number forest (slice_get chart.summaries m) m

pair_total : (forest : ForestData) (chart : ChartData) → IsTotalOrder (pair_cmp forest chart)
pair_total forest chart = on_total (pair_key_of forest chart) key_total

-- so pairs in order, each once, ascend
less_by : (o p : Ordering) → o ≡ ordering_reverse p → is_lt p ≡ false → (p ≡ Equal → ⊥) → o ≡ Less
less_by o Less e not_less apart = absurd (let wrong : true ≡ false = not_less in cc)
less_by o Equal e not_less apart = absurd (apart refl)
less_by o Greater e not_less apart = e

ascend : (forest : ForestData) (chart : ChartData) (pairs : List ℕ) → IsDistinct nat_eq pairs → IsSortedByKey (pair_key_of forest chart) key_cmp pairs → IsStrictlySortedBy (pair_cmp forest chart) pairs
ascend forest chart pairs once sorted = sorted_from_all_adjacent (pair_total forest chart) pairs 0 (λ k lt.
    let n = get_or pairs k 0 in let m = get_or pairs (k + 1) 0 in
    less_by (pair_cmp forest chart n m) (pair_cmp forest chart m n) ((pair_total forest chart).antisymm n m) (sorted k 0 (omega arith) lt)
    (λ e. let same : m ≡ n = one_pair forest chart m n e in
    let apart : nat_eq n m ≡ false = apart_from_distinct nat_eq pairs k (k + 1) 0 once (omega arith) lt in
    let wrong : true ≡ false = sym (eq-eqb n m (sym same)) ∙ apart in cc))

-- two lists that ascend and have the same elements are one
module _ {R : ℕ → ℕ → Ordering} (o : IsTotalOrder R) where
  after : (x : ℕ) (xs : List ℕ) (y : ℕ) → IsStrictlySortedBy R (x ∷ xs) → Contains (x ∷ xs) y → (x ≡ y) ⊎ (R x y ≡ Less)
  after x xs y up has = elim (cases_eq x y) [
    | inl same ↦ inl same
    | inr other ↦ inr (All-contains (λ z. R x z ≡ Less) xs y (All-from_recursion (λ z. R x z ≡ Less) xs (sorted_head R x xs up)) (Contains-tail x xs y other has))
  ]

  not_both : (x y : ℕ) → R x y ≡ Less → R y x ≡ Less → ⊥
  not_both x y less back = let wrong : Less ≡ Equal = sym (o.trans x y x less back) ∙ tied_itself o x in cc

  in_tail : (x : ℕ) (xs ys : List ℕ) → IsStrictlySortedBy R (x ∷ xs) → ((n : ℕ) → Contains (x ∷ xs) n → Contains (x ∷ ys) n) → (n : ℕ) → Contains xs n → Contains ys n
  in_tail x xs ys up within n has =
      let less : R x n ≡ Less = All-contains (λ z. R x z ≡ Less) xs n (All-from_recursion (λ z. R x z ≡ Less) xs (sorted_head R x xs up)) has in
      Contains-tail x ys n (λ same. let wrong : Less ≡ Equal = sym less ∙ subst (λ (z : ℕ). R x z ≡ Equal) same (tied_itself o x) in cc) (within n (longer has))
    where
      longer : Contains xs n → Contains (x ∷ xs) n
      longer h = (suc h.0, omega (arith, h.1), h.2)

  one_list : (xs ys : List ℕ) → IsStrictlySortedBy R xs → IsStrictlySortedBy R ys → ((n : ℕ) → Contains xs n → Contains ys n) → ((n : ℕ) → Contains ys n → Contains xs n) → xs ≡ ys
  one_list [] [] up rise there back = refl
  one_list [] (y ∷ ys) up rise there back = absurd (let h = back y (0, omega arith, refl) in omega (arith, h.1))
  one_list (x ∷ xs) [] up rise there back = absurd (let h = there x (0, omega arith, refl) in omega (arith, h.1))
  one_list (x ∷ xs) (y ∷ ys) up rise there back =
      let first : x ≡ y = elim (after y ys x rise (there x (0, omega arith, refl))) [
        | inl same ↦ sym same
        | inr less ↦ elim (after x xs y up (back y (0, omega arith, refl))) [
          | inl same ↦ same
          | inr more ↦ absurd (not_both x y more less)
        ]
      ] in
      let rise_x = subst (λ (z : ℕ). IsStrictlySortedBy R (z ∷ ys)) (sym first) rise in
      let there_x = subst (λ (z : ℕ). (n : ℕ) → Contains (x ∷ xs) n → Contains (z ∷ ys) n) (sym first) there in
      let back_x = subst (λ (z : ℕ). (n : ℕ) → Contains (z ∷ ys) n → Contains (x ∷ xs) n) (sym first) back in
      let more = one_list xs ys (sorted_tail R x xs up) (sorted_tail R x ys rise_x) (in_tail x xs ys up there_x) (in_tail x ys xs rise_x back_x) in
      λ i. first i ∷ more i

pub one-text : HaveOneText
one-text forest chart start one other h g =
    let same : h.pairs ≡ g.pairs = one_list (pair_total forest chart) h.pairs g.pairs (ascend forest chart h.pairs h.once h.ordered) (ascend forest chart g.pairs g.once g.ordered)
    (λ n has. (g.reached n).1 ((h.reached n).0 has)) (λ n has. (h.reached n).1 ((g.reached n).0 has)) in
    h.lines ∙ ap (flat_map (pair_text forest chart)) same ∙ sym g.lines
