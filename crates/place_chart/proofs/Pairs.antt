-- The summary of a pair, and its number.
use Rattle.std.proofs.Common.{◌≡◌, ℕ, suc, ◌<◌, List, [], ◌∷◌, Bool, true, false, refl, sym, ap, ◌∙◌, Option, Some, None, length, arith}
use Rattle.std.specs.Prelude.{IfSome, option_and_then, option_map, slice_get, if◌then◌else◌}
use Rattle.place_core.specs.declared.place.Place.{Place}
use Rattle.place_chart.specs.Summaries.{chart_of, is_pair, pair_number, summary_of, point_state_in, point_state_of}
use Rattle.place_chart.specs.declared.summary.Summary.{Summary}
use Rattle.place_chart.proofs.FirstSummaries.{first_is}
use Rattle.tpl_paths.specs.Edges.{Point}

behind_first : (summary : Summary) (summaries : List Summary) (o : Option ℕ) → option_and_then (slice_get (summary ∷ summaries)) (option_map suc o) ≡ option_and_then (slice_get summaries) o
behind_first summary summaries None = refl
behind_first summary summaries (Some n) = refl

first_numbered : (summary : Summary) (summaries : List Summary) (t : ℕ) (p : Place) (b : Bool) → summary_of summaries t p ≡ option_and_then (slice_get summaries) (pair_number summaries t p)
    → (if b then Some summary else summary_of summaries t p) ≡ option_and_then (slice_get (summary ∷ summaries)) (if b then Some 0 else option_map suc (pair_number summaries t p))
first_numbered summary summaries t p true e = refl
first_numbered summary summaries t p false e = e ∙ sym (behind_first summary summaries (pair_number summaries t p))

pub summary_numbered : (summaries : List Summary) (t : ℕ) (p : Place) → summary_of summaries t p ≡ option_and_then (slice_get summaries) (pair_number summaries t p)
summary_numbered [] t p = refl
summary_numbered (summary ∷ summaries) t p = first_numbered summary summaries t p (is_pair summary t p) (summary_numbered summaries t p)

-- the summary that has the pair's number
pub summary_found : (summaries : List Summary) (t : ℕ) (p : Place) (n : ℕ) (summary : Summary) → pair_number summaries t p ≡ Some n → slice_get summaries n ≡ Some summary → summary_of summaries t p ≡ Some summary
summary_found summaries t p n summary e f = summary_numbered summaries t p ∙ ap (option_and_then (slice_get summaries)) e ∙ f

pub none_found : (summaries : List Summary) (t : ℕ) (p : Place) → pair_number summaries t p ≡ None → summary_of summaries t p ≡ None
none_found summaries t p e = summary_numbered summaries t p ∙ ap (option_and_then (slice_get summaries)) e

-- likewise, has its template and its place
pub found_is : (summaries : List Summary) (t : ℕ) (p : Place) (n : ℕ) (summary : Summary) → pair_number summaries t p ≡ Some n → slice_get summaries n ≡ Some summary → (summary.template ≡ t) × (summary.entry ≡ p)
found_is summaries t p n summary e f = (let i = first_is summaries t p summary (summary_found summaries t p n summary e f) in (i.template, i.entry))

-- what the chart of summaries has at a pair with a summary, and at one without
pub chart_found : (summaries : List Summary) (t : ℕ) (p : Place) (n : ℕ) (summary : Summary) (k : Point) → pair_number summaries t p ≡ Some n → slice_get summaries n ≡ Some summary → chart_of summaries t p k ≡ point_state_in summary k
chart_found summaries t p n summary k e f = ap (λ (o : Option Summary). point_state_of o k) (summary_found summaries t p n summary e f)

pub chart_none : (summaries : List Summary) (t : ℕ) (p : Place) (k : Point) → pair_number summaries t p ≡ None → chart_of summaries t p k ≡ point_state_of None k
chart_none summaries t p k e = ap (λ (o : Option Summary). point_state_of o k) (none_found summaries t p e)

within_first : (b : Bool) (o : Option ℕ) (n : ℕ) → IfSome o (λ i. i < n) → IfSome (if b then Some 0 else option_map suc o) (λ i. i < suc n)
within_first true o n h = omega arith
within_first false None n h = tt
within_first false (Some i) n h = omega (arith, h)

pub number_within : (summaries : List Summary) (t : ℕ) (p : Place) → IfSome (pair_number summaries t p) (λ n. n < length summaries)
number_within [] t p = tt
number_within (summary ∷ summaries) t p = within_first (is_pair summary t p) (pair_number summaries t p) (length summaries) (number_within summaries t p)
