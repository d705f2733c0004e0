-- Looking for a character goes row by row.
use Rattle.std.proofs.Common.{◌≡◌, ◌≢◌, ℕ, ◌+◌, ◌<◌, ◌≤◌, cond, eqb, List, [], length, get_or, drop, None, Some, Bor, refl, add-one, arith}
use Rattle.std.proofs.Math.ListN.{drop_of_length-le}
use Rattle.std.proofs.Math.Seq.{drop-cons}
use Rattle.std.proofs.lemmas.Bool.Decides.{nat_tests}
use Rattle.esc_table.specs.Rows.{rows_of, found}

-- what stands at a place after the last one
abbrev nothing : Bor (List ℕ)
nothing = record { ref_ptr = (0, 0); now = [] }

-- the row at a place is looked at, and then those after it
found_from : (characters : List ℕ) (replacements : List (Bor (List ℕ))) (i character : ℕ) → i < length characters → i < length replacements → found (rows_of (drop i characters) (drop i replacements)) character ≡ cond (eqb (get_or characters i 0) character) (Some (get_or replacements i nothing).now) (found (rows_of (drop (i + 1) characters) (drop (i + 1) replacements)) character)
found_from characters replacements i character h k = rw (drop-cons characters i 0, drop-cons replacements i nothing, add-one) refl

pub found_here : (characters : List ℕ) (replacements : List (Bor (List ℕ))) (i character : ℕ) → i < length characters → i < length replacements → get_or characters i 0 ≡ character → found (rows_of (drop i characters) (drop i replacements)) character ≡ Some (get_or replacements i nothing).now
found_here characters replacements i character h k e = let f = found_from characters replacements i character h k in grind (arith, nat_tests)

pub found_later : (characters : List ℕ) (replacements : List (Bor (List ℕ))) (i character : ℕ) → i < length characters → i < length replacements → get_or characters i 0 ≢ character → found (rows_of (drop (i + 1) characters) (drop (i + 1) replacements)) character ≡ found (rows_of (drop i characters) (drop i replacements)) character
found_later characters replacements i character h k e = let f = found_from characters replacements i character h k in grind (arith, nat_tests)

pub found_nowhere : (characters : List ℕ) (replacements : List (Bor (List ℕ))) (i character : ℕ) → length characters ≤ i → found (rows_of (drop i characters) replacements) character ≡ None
found_nowhere characters replacements i character h = rw (drop_of_length-le characters h) refl
