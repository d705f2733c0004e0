-- Two least charts of the same roots have as many pairs.
use Rattle.std.proofs.Common.{◌≡◌, ℕ, zero, suc, ◌<◌, ◌≤◌, List, [], ◌∷◌, refl, sym, ap, ◌∙◌, Option, Some, None, length, arith}
use Rattle.std.specs.Prelude.{slice_get}
use Rattle.std.proofs.lemmas.Option.{slice_get_within}
use Rattle.place_core.specs.declared.place.Place.{Place}
use Rattle.place_core.proofs.Semilattices.{none_some, one_value}
use Rattle.place_chart.specs.Least.{IsLeastChart}
use Rattle.place_chart.specs.declared.summary.Summary.{Summary}
use Rattle.tpl_tree.specs.Forests.{ForestData}
use Rattle.place_chart.specs.Unique.{OneCount}
use Rattle.place_chart.proofs.Agreeing.{pair_too}
use Rattle.place_chart.proofs.Counting.{no_more}

none_past : (summaries : List Summary) (i : ℕ) → slice_get summaries i ≡ None → i < length summaries → ⊥
none_past [] i e lt = omega (arith, lt)
none_past (r ∷ summaries) zero e lt = none_some r (sym e)
none_past (r ∷ summaries) (suc i) e lt = none_past summaries i e (omega (arith, lt))

module _ (forest : ForestData) (roots : List ℕ) (first : Place) (summaries others : List Summary) (g : IsLeastChart forest roots first summaries) (h : IsLeastChart forest roots first others) where
  -- the number of a summary of the one in the other
  too_at : (i : ℕ) (o : Option Summary) → slice_get summaries i ≡ o → ℕ
  too_at i None e = zero
  too_at i (Some summary) e = (pair_too forest roots first summaries others g h i summary e).number

  below_at : (i : ℕ) (o : Option Summary) (e : slice_get summaries i ≡ o) → i < length summaries → too_at i o e < length others
  unfolding too_at
  below_at i None e lt = absurd (none_past summaries i e lt)
  below_at i (Some summary) e lt = (let w = pair_too forest roots first summaries others g h i summary e in slice_get_within others w.number w.other w.is)

  one_at : (i j : ℕ) (o q : Option Summary) (e : slice_get summaries i ≡ o) (f : slice_get summaries j ≡ q) → i < length summaries → j < length summaries → too_at i o e ≡ too_at j q f → i ≡ j
  unfolding too_at
  one_at i j None q e f lt lu s = absurd (none_past summaries i e lt)
  one_at i j (Some summary) None e f lt lu s = absurd (none_past summaries j f lu)
  one_at i j (Some summary) (Some last) e f lt lu s =
      let v = pair_too forest roots first summaries others g h i summary e in
      let w = pair_too forest roots first summaries others g h j last f in
      let same : v.other ≡ w.other = one_value v.other w.other (sym v.is ∙ ap (slice_get others) s ∙ w.is) in
      g.apart i j summary last e f (sym v.template ∙ ap (λ (r : Summary). r.template) same ∙ w.template) (sym v.entry ∙ ap (λ (r : Summary). r.entry) same ∙ w.entry)

  none_more : length summaries ≤ length others
  none_more = no_more (length summaries) (length others) (λ i. too_at i (slice_get summaries i) refl) (λ i lt. below_at i (slice_get summaries i) refl lt)
      (λ i j lt lu e. one_at i j (slice_get summaries i) (slice_get summaries j) refl refl lt lu e)

pub one-count : OneCount
one-count forest roots first summaries others v g h =
    let a = none_more forest roots first summaries others g h in
    let b = none_more forest roots first others summaries h g in
    omega (arith, a, b)
