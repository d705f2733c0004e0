-- Lists between commas, one element after another.
use Rattle.std.proofs.Common.{ℕ, ◌+◌, ◌≡◌, ◌≤◌, Bool, true, false, ◌||◌, List, length, take, drop, Some, None, arith, refl, ap, sym, ◌∙◌}
use Rattle.std.proofs.lemmas.Grind.{common_steps}
use Rattle.std.proofs.lemmas.List.{drop-drop}
use Rattle.std.proofs.lemmas.List.Quantifiers.{position-Some}
use Rattle.std.proofs.lemmas.List.Sums.{position_or_len_is, fails_before_first}
use Rattle.std.proofs.lemmas.List.Splits.{slice_split_first, slice_split_none}
use Rattle.std.specs.List.{list_any, position, position_or_len, All}
use Rattle.page_http.specs.Fields.{is_comma}
use Rattle.page_http.specs.Closing.{is_close_option, lists_close}

or_false : (b : Bool) → (b || false) ≡ b
or_false true = refl
or_false false = refl

none_passes : (xs : List ℕ) → position is_comma xs ≡ None → All (λ x. is_comma x ≡ false) xs
none_passes xs h k d inside =
    let at : length xs ≤ position_or_len is_comma xs = grind (arith, common_steps) in
    fails_before_first is_comma xs k d (omega (arith, at, inside))

-- a list without a comma has one element
pub no_comma : (xs : List ℕ) → position is_comma xs ≡ None → lists_close xs ≡ (is_close_option xs || false)
no_comma xs h = ap (list_any is_close_option) (slice_split_none is_comma xs (none_passes xs h))

pub first_comma : (xs before after : List ℕ) (k : ℕ) → position is_comma xs ≡ Some k
    → before ≡ take k xs → after ≡ drop (k + 1) xs
    → lists_close xs ≡ (is_close_option before || lists_close after)
first_comma xs before after k h b a =
    let s = position-Some is_comma xs k 0 h in
    let at : position_or_len is_comma xs ≡ k = position_or_len_is is_comma xs k 0 (omega (arith, s.0)) s.2 (λ inside. s.1) in
    let cut = slice_split_first is_comma xs 0 (omega (arith, at, s.0)) in
    ap (list_any is_close_option) (rw at at cut) ∙ rw (b, a) refl

pub found_close : (xs before : List ℕ) (k : ℕ) → position is_comma xs ≡ Some k → before ≡ take k xs
    → is_close_option before ≡ true → true ≡ lists_close xs
found_close xs before k h b ends_connection =
    sym (first_comma xs before (drop (k + 1) xs) k h b refl ∙ ap (λ (z : Bool). z || lists_close (drop (k + 1) xs)) ends_connection)

pub passed_comma : (xs before others after : List ℕ) (k : ℕ) → position is_comma xs ≡ Some k → before ≡ take k xs
    → others ≡ drop k xs → after ≡ drop 1 others → is_close_option before ≡ false → lists_close after ≡ lists_close xs
passed_comma xs before others after k h b o a open_ =
    sym (first_comma xs before after k h b (a ∙ ap (drop 1) o ∙ drop-drop 1 k xs) ∙ ap (λ (z : Bool). z || lists_close after) open_)

pub last_element : (xs : List ℕ) → position is_comma xs ≡ None → is_close_option xs ≡ lists_close xs
last_element xs h = sym (no_comma xs h ∙ or_false (is_close_option xs))
