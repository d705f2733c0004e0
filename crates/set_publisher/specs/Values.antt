-- A desk and a viewer, as contracts see them.
use Rattle.std.specs.Prelude.{◌≡◌, ℕ, ◌-◌, List, Some, slice_get, refl}
use Rattle.std.specs.Coded.{Coded, code_by, coded×, coded_ℕ, coded_list}
use Rattle.logbook.specs.Pages.{Book, book_coded}

-- the list of a desk: which one it is, and the sets in it
pub record Published (V : Type 0) : Type 0 where
  pub book : Book
  pub sets : List V

-- what a viewer has seen of a list, and how often it has looked, and how often in vain
pub record Watched (V : Type 0) : Type 0 where
  pub book : Book
  pub sets : List V
  pub looks : ℕ
  pub misses : ℕ

module _ {V : Type 0} (set : Coded V) where
  abbrev pub published_code : Coded (Published V)
  published_code =
      code_by (Book × List V) (coded× book_coded (coded_list set)) (λ p. (p.book, p.sets)) (λ t. record { book = t.0; sets = t.1 }) (λ _. refl)

  abbrev pub watched_code : Coded (Watched V)
  watched_code =
      code_by (Book × (List V × (ℕ × ℕ))) (coded× book_coded (coded× (coded_list set) (coded× coded_ℕ coded_ℕ)))
      (λ w. (w.book, (w.sets, (w.looks, w.misses)))) (λ t. record { book = t.0; sets = t.1.0; looks = t.1.1.0; misses = t.1.1.1 }) (λ _. refl)

-- sets are numbered from 1
abbrev pub IsPublishedSetOf : {V : Type 0} → List V → ℕ → V → Type 0
IsPublishedSetOf sets number set = slice_get sets (number - 1) ≡ Some set
