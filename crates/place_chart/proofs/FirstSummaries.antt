-- The first summary of a pair.
use Rattle.std.proofs.Common.{◌≡◌, ℕ, zero, suc, List, [], ◌∷◌, Bool, true, false, refl, sym, ap, ◌∙◌, subst, Some, None, inl, inr, ◌⊎◌}
use Rattle.std.specs.Prelude.{◌==◌, ◌&&◌, if◌then◌else◌, All, slice_get}
use Rattle.std.proofs.lemmas.Bool.{eq-eqb, eqb-true}
use Rattle.place_core.specs.declared.place.Place.{Place}
use Rattle.place_core.proofs.Equality.{the_same}
use Rattle.place_core.proofs.Semilattices.{none_some, one_value}
use Rattle.place_chart.specs.Summaries.{summary_of, same_place}
use Rattle.place_chart.specs.declared.summary.Summary.{Summary}
use Rattle.place_chart.proofs.Elements.{of_all}

-- a summary of a pair, with its number
pub record IsSummaryOf (summaries : List Summary) (t : ℕ) (p : Place) (summary : Summary) : Type 0 where
  pub number : ℕ
  pub is : slice_get summaries number ≡ Some summary
  pub template : summary.template ≡ t
  pub entry : summary.entry ≡ p

later : (r : Summary) (summaries : List Summary) (t : ℕ) (p : Place) (summary : Summary) → IsSummaryOf summaries t p summary → IsSummaryOf (r ∷ summaries) t p summary
later r summaries t p summary i = record { number = suc i.number; is = i.is; template = i.template; entry = i.entry }

at_head : (r : Summary) (summaries : List Summary) (t : ℕ) (p : Place) (a b : Bool) → (r.template == t) ≡ a → same_place r.entry p ≡ b → ((summary : Summary) → summary_of summaries t p ≡ Some summary → IsSummaryOf summaries t p summary)
    → (summary : Summary) → (if a && b then Some r else summary_of summaries t p) ≡ Some summary → IsSummaryOf (r ∷ summaries) t p summary
at_head r summaries t p true true e f rest summary g =
    subst (λ (x : Summary). IsSummaryOf (r ∷ summaries) t p x) (one_value r summary g) (record { number = zero; is = refl; template = eqb-true r.template t e; entry = (the_same r.entry p).0 f })
at_head r summaries t p true false e f rest summary g = later r summaries t p summary (rest summary g)
at_head r summaries t p false b e f rest summary g = later r summaries t p summary (rest summary g)

-- the first summary of a pair is one of the pair
pub first_is : (summaries : List Summary) (t : ℕ) (p : Place) (summary : Summary) → summary_of summaries t p ≡ Some summary → IsSummaryOf summaries t p summary
first_is [] t p summary e = absurd (none_some summary e)
first_is (r ∷ summaries) t p summary e = at_head r summaries t p (r.template == t) (same_place r.entry p) refl refl (first_is summaries t p) summary e

-- likewise, so what all summaries are, the first of a pair is
pub first_summary_is : (P : Summary → Type 0) (summaries : List Summary) (t : ℕ) (p : Place) (summary : Summary) → All P summaries → summary_of summaries t p ≡ Some summary → P summary
first_summary_is P summaries t p summary all e = (let i = first_is summaries t p summary e in of_all P summaries i.number summary i.is all)

-- a pair that a summary has, has a first summary
abbrev pub HasFirst : List Summary → ℕ → Place → Type 0
HasFirst summaries t p = (summary : Summary) × (summary_of summaries t p ≡ Some summary)

no : false ≡ true → ⊥
no e = cc

first_from : (r : Summary) (summaries : List Summary) (t : ℕ) (p : Place) (a b : Bool) → HasFirst summaries t p ⊎ ((a ≡ true) × (b ≡ true)) → (summary : Summary) × ((if a && b then Some r else summary_of summaries t p) ≡ Some summary)
first_from r summaries t p true true h = (r, refl)
first_from r summaries t p true false (inl h) = h
first_from r summaries t p true false (inr h) = absurd (no h.1)
first_from r summaries t p false b (inl h) = h
first_from r summaries t p false b (inr h) = absurd (no h.0)

pub has_first : (summaries : List Summary) (i : ℕ) (summary : Summary) → slice_get summaries i ≡ Some summary → HasFirst summaries summary.template summary.entry
has_first [] i summary e = absurd (none_some summary e)
has_first (r ∷ summaries) zero summary e =
    let s : r ≡ summary = one_value r summary e in
    first_from r summaries summary.template summary.entry (r.template == summary.template) (same_place r.entry summary.entry)
    (inr (eq-eqb r.template summary.template (ap (λ (x : Summary). x.template) s), (the_same r.entry summary.entry).1 (ap (λ (x : Summary). x.entry) s)))
has_first (r ∷ summaries) (suc i) summary e = first_from r summaries summary.template summary.entry (r.template == summary.template) (same_place r.entry summary.entry) (inl (has_first summaries i summary e))

-- a pair without a first summary is that of no summary
pub none_has : (summaries : List Summary) (t : ℕ) (p : Place) (i : ℕ) (summary : Summary) → summary_of summaries t p ≡ None → slice_get summaries i ≡ Some summary → summary.template ≡ t → summary.entry ≡ p → ⊥
none_has summaries t p i summary none is e f =
    let h = has_first summaries i summary is in
    none_some h.0 (sym none ∙ ap (λ (x : Place). summary_of summaries t x) (sym f) ∙ ap (λ (u : ℕ). summary_of summaries u summary.entry) (sym e) ∙ h.1)
