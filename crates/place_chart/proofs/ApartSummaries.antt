-- Summaries each of which has a pair of its own.
use Rattle.std.proofs.Common.{◌≡◌, ℕ, List, [], ◌∷◌, ◌++◌, sym, ap, ◌∙◌, Some, None, inl, inr}
use Rattle.std.specs.Prelude.{slice_get}
use Rattle.place_core.proofs.Semilattices.{none_some}
use Rattle.place_chart.specs.Summaries.{chart_of, summary_of, point_state_in, point_state_of}
use Rattle.place_chart.specs.declared.summary.Summary.{Summary}
use Rattle.place_chart.proofs.Elements.{push_cases}
use Rattle.place_chart.proofs.FirstSummaries.{first_is, has_first, none_has}
use Rattle.tpl_paths.specs.Edges.{Point}

-- as `IsLeastChart` has it
abbrev pub AreApart : List Summary → Type 0
AreApart summaries = (i j : ℕ) (summary other : Summary) → slice_get summaries i ≡ Some summary → slice_get summaries j ≡ Some other → summary.template ≡ other.template → summary.entry ≡ other.entry → i ≡ j

-- then each is the summary of its pair
pub own_summary : (summaries : List Summary) (i : ℕ) (summary : Summary) → AreApart summaries → slice_get summaries i ≡ Some summary → summary_of summaries summary.template summary.entry ≡ Some summary
own_summary summaries i summary apart e =
    let h = has_first summaries i summary e in
    let f = first_is summaries summary.template summary.entry h.0 h.1 in
    let same : f.number ≡ i = apart f.number i h.0 summary f.is e f.template f.entry in
    h.1 ∙ sym f.is ∙ ap (slice_get summaries) same ∙ e

-- likewise, and what it has, the chart has
pub own_point_state : (summaries : List Summary) (i : ℕ) (summary : Summary) (k : Point) → AreApart summaries → slice_get summaries i ≡ Some summary → chart_of summaries summary.template summary.entry k ≡ point_state_in summary k
own_point_state summaries i summary k apart e = ap (λ o. point_state_of o k) (own_summary summaries i summary apart e)

pub none_apart : AreApart []
none_apart i j summary other e f g h = absurd (none_some summary e)

-- a summary of a pair that no other has
pub push_apart : (summaries : List Summary) (new : Summary) → AreApart summaries → summary_of summaries new.template new.entry ≡ None → AreApart (summaries ++ new ∷ [])
push_apart summaries new apart none i j summary other e f g h = elim (push_cases summaries new summary i e) [
  | inl u ↦ elim (push_cases summaries new other j f) [
    | inl v ↦ apart i j summary other u v g h
    | inr v ↦ absurd (none_has summaries new.template new.entry i summary none u (g ∙ ap (λ (x : Summary). x.template) (sym v.1)) (h ∙ ap (λ (x : Summary). x.entry) (sym v.1)))
  ]
  | inr u ↦ elim (push_cases summaries new other j f) [
    | inl v ↦ absurd (none_has summaries new.template new.entry j other none v (sym g ∙ ap (λ (x : Summary). x.template) (sym u.1)) (sym h ∙ ap (λ (x : Summary). x.entry) (sym u.1)))
    | inr v ↦ u.0 ∙ sym v.0
  ]
]
