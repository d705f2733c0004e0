-- The numbers of the summaries of each template.
use Rattle.std.specs.Prelude.{◌≡◌, ℕ, ◌==◌, Bool, false, List, [], ◌∷◌, ◌++◌, if◌then◌else◌, Option, Some, None, suc, slice_get}
use Rattle.std.specs.Global.{Vec}
use Rattle.place_core.specs.declared.place.Place.{Place}
use Rattle.place_chart.specs.Summaries.{same_place}
use Rattle.place_chart.specs.declared.summary.Summary.{Summary}

-- the numbers of the summaries of a template, where the first summary has this number
abbrev pub numbers_from : List Summary → ℕ → ℕ → List ℕ
numbers_from [] n t = []
numbers_from (summary ∷ summaries) n t = if summary.template == t then n ∷ numbers_from summaries (suc n) t else numbers_from summaries (suc n) t

abbrev pub numbers_of : Option (Vec ℕ) → List ℕ
numbers_of None = []
numbers_of (Some numbers) = numbers.items

-- for each template the numbers of its summaries
abbrev pub AreNumbers : List Summary → List (Vec ℕ) → Type 0
AreNumbers summaries lists = (t : ℕ) → numbers_of (slice_get lists t) ≡ numbers_from summaries 0 t

-- the same numbers for each template
abbrev pub AreSameNumbers : List (Vec ℕ) → List (Vec ℕ) → Type 0
AreSameNumbers old new = (t : ℕ) → numbers_of (slice_get new t) ≡ numbers_of (slice_get old t)

-- one number more for a template
abbrev pub HasOneMore : List (Vec ℕ) → List (Vec ℕ) → ℕ → ℕ → Type 0
HasOneMore old new template n = (t : ℕ) → numbers_of (slice_get new t) ≡ (if template == t then numbers_of (slice_get old t) ++ n ∷ [] else numbers_of (slice_get old t))

-- whether a summary, if there is one, has a place as its entry
abbrev pub is_at : Option Summary → Place → Bool
is_at None p = false
is_at (Some summary) p = same_place summary.entry p

-- the first of some summaries, by their numbers, that has a place as its entry
abbrev pub number_in_list : List Summary → List ℕ → Place → Option ℕ
number_in_list summaries [] p = None
number_in_list summaries (n ∷ ns) p = if is_at (slice_get summaries n) p then Some n else number_in_list summaries ns p
