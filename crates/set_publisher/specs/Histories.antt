-- The list of sets in its book, and what the step on it tells.
use Rattle.std.specs.Prelude.{◌≡◌, ℕ, ◌==◌, true, List, [], ◌∷◌, ◌++◌, length, MatchBool}
use Rattle.logbook.specs.Pages.{Cell, Step, View, Book, Named}

-- the first word is the length of the list. A book has two words, of which the second stays 0
abbrev pub IsCounted : {V : Type 0} → List Cell → List V → Type 0
IsCounted cells log = cells ≡ (length log, true) ∷ (0, true) ∷ []

abbrev pub head_of : Book → Named
head_of b = record { tracked = true; key = 0; book = b }

-- where the list was as long as was thought, it is what was seen, and then the set
abbrev pub Appends : {V A : Type 0} → Step V → View V A → ℕ → View V A → Type 0
Appends s v found w = MatchBool (found == s.old) (w.0 ≡ v.0 ++ s.ask ∷ []) (Unit {0})
