-- Marks of the numbers in a list.
use Rattle.std.proofs.Common.{◌≡◌, ℕ, zero, suc, ◌<◌, ◌≤◌, Bool, true, false, List, [], ◌∷◌, ◌++◌, length, get_or, refl, sym, ap, ◌∙◌, subst, cond, inl, inr, arith, replicate}
use Rattle.std.proofs.lemmas.Bool.{cases_eq, cases_lt, eqb-true}
use Rattle.std.proofs.lemmas.Cmp.{nat_eq_equiv}
use Rattle.std.proofs.lemmas.List.{get_or_past, get_or-replicate, get_or-set_other, get_or-set_same, length-replicate, length_push}
use Rattle.std.proofs.lemmas.List.Elements.{Contains-append_left, Contains-get_or, Contains-push, Contains-push_cases}
use Rattle.std.proofs.lemmas.List.Sums.{count_by-le-length, sum_by-set}
use Rattle.std.proofs.lemmas.Map.Keys.{IsDistinct-from_apart, IsDistinct-push}
use Rattle.std.proofs.lemmas.Map.Views.{Contains-from_any}
use Rattle.std.proofs.Math.ListN.{set}
use Rattle.std.specs.List.{count_by, list_any}
use Rattle.std.specs.Prelude.{All, Contains, nat_eq}
use Rattle.place_explain.specs.Numbers.{AreMarked}

-- nothing is marked
unmarked : (limit n : ℕ) → get_or (replicate limit false) n false ≡ false
unmarked limit n = elim (cases_lt n limit) [
  | inl lt ↦ get_or-replicate limit n false false lt
  | inr ge ↦ get_or_past (replicate limit false) n false (omega (arith, ge, length-replicate limit false))
]

none_marked : (limit : ℕ) → count_by (λ mark. mark) (replicate limit false) ≡ 0
none_marked zero = refl
none_marked (suc limit) = none_marked limit

pub marks_none : (limit : ℕ) → AreMarked [] (replicate limit false)
marks_none limit = record {
  marked = λ n. (λ h. absurd (omega (arith, h.1)), λ h. absurd (let not : false ≡ true = sym (unmarked limit n) ∙ h in cc));
  once = IsDistinct-from_apart nat_eq [] (λ i j d lt inside. absurd (omega (arith, inside)));
  count = none_marked limit;
}

-- one more
absent : (list : List ℕ) (n : ℕ) (any : Bool) → (Contains list n → ⊥) → list_any (nat_eq n) list ≡ any → list_any (nat_eq n) list ≡ false
absent list n false lacks is = is
absent list n true lacks is = absurd (lacks (Contains-from_any (λ x y e. eqb-true x y e) n list is))

pushed_mark : (list : List ℕ) (marks : List Bool) (n m : ℕ) → AreMarked list marks → n < length marks → Contains (list ++ n ∷ []) m → get_or (set marks n true) m false ≡ true
pushed_mark list marks n m h lt has = elim (cases_eq m n) [
  | inl same ↦ subst (λ (k : ℕ). get_or (set marks n true) k false ≡ true) (sym same) (get_or-set_same marks n true false lt)
  | inr other ↦ get_or-set_other marks n m true false other
      ∙ elim (Contains-push_cases list n m has) [
        | inl old ↦ (h.marked m).0 old
        | inr new ↦ absurd (other (sym new))
      ]
]

pushed_number : (list : List ℕ) (marks : List Bool) (n m : ℕ) → AreMarked list marks → get_or (set marks n true) m false ≡ true → Contains (list ++ n ∷ []) m
pushed_number list marks n m h is = elim (cases_eq m n) [
  | inl same ↦ subst (λ (k : ℕ). Contains (list ++ n ∷ []) k) (sym same) (Contains-push list n)
  | inr other ↦ Contains-append_left list (n ∷ []) m ((h.marked m).1 (sym (get_or-set_other marks n m true false other) ∙ is))
]

pub marks_push : (list : List ℕ) (marks : List Bool) (n : ℕ) → AreMarked list marks → n < length marks → get_or marks n false ≡ false → AreMarked (list ++ n ∷ []) (set marks n true)
marks_push list marks n h lt is = record {
  marked = λ m. (pushed_mark list marks n m h lt, pushed_number list marks n m h);
  once = IsDistinct-push nat_eq_equiv list n h.once (absent list n (list_any (nat_eq n) list) (λ has. let not : false ≡ true = sym is ∙ (h.marked n).0 has in cc) refl);
  count = (let one = sum_by-set (λ (mark : Bool). cond mark 1 0) marks n true false lt in let was = ap {B = ℕ} (λ (mark : Bool). cond mark 1 0) is in let count = h.count in
      omega (arith, one, was, count, length_push list n));
}

-- what is marked is below the limit
below_at : (marks : List Bool) (n : ℕ) → get_or marks n false ≡ true → n < length marks
below_at marks n is = elim (cases_lt n (length marks)) [
  | inl lt ↦ lt
  | inr ge ↦ absurd (let not : false ≡ true = sym (get_or_past marks n false ge) ∙ is in cc)
]

pub marks_below : (list : List ℕ) (marks : List Bool) → AreMarked list marks → All (λ n. n < length marks) list
marks_below list marks h = λ k d lt. below_at marks (get_or list k d) ((h.marked (get_or list k d)).0 (Contains-get_or list k d lt))

pub marks_few : (list : List ℕ) (marks : List Bool) → AreMarked list marks → length list ≤ length marks
marks_few list marks h = let few = count_by-le-length (λ (mark : Bool). mark) marks in let count = h.count in omega (arith, few, count)
