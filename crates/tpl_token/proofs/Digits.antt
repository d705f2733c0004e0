-- Digits, and how the library reads them.
use Rattle.std.proofs.Common.{◌≡◌, ℕ, ◌<◌, ◌≤◌, ◌^◌, true, false, ◌&&◌, List, [], ◌∷◌, length, Some, None, Result, Ok, Err, nat_eq, nat_lt, refl, sym, ap, ◌∙◌, arith, rules}
use Rattle.std.proofs.lemmas.Bool.Decides.{nat_tests}
use Rattle.std.proofs.lemmas.Str.Ascii.{IsAscii-nil, IsAscii-cons}
use Rattle.std.specs.Char.{is_digit, digit_value}
use Rattle.std.specs.List.{list_all}
use Rattle.std.specs.Result.{result_ok}
use Rattle.std.specs.Str.{IsAscii}
use Rattle.std.specs.Str.Parse.{AllDigits, ParsesUnsigned, without_leading_plus, digits_value}
use Rattle.tpl_token.specs.Numbers.{numeral, below}
use Rattle.tpl_token.proofs.Marks.{both, either, split}

-- a digit is ASCII, and no plus
pub digit_is : (base b : ℕ) → base ≤ 36 → is_digit b base ≡ true → b < 128
digit_is base b small is = grind (arith, nat_tests)

plus_is_none : (base d : ℕ) → base ≤ 36 → nat_eq d 43 ≡ true → is_digit d base ≡ true → ⊥
plus_is_none base d small plus is = grind (arith, nat_tests)

pub digits_ascii : (base : ℕ) (ds : List ℕ) → base ≤ 36 → list_all (λ b. is_digit b base) ds ≡ true → IsAscii ds
digits_ascii base [] small all = IsAscii-nil
digits_ascii base (d ∷ ds) small all =
    let h = both (is_digit d base) (list_all (λ b. is_digit b base) ds) all in
    IsAscii-cons d ds (digit_is base d small h.0) (digits_ascii base ds small h.1)

pub AllDigits-from_all : (base : ℕ) (ds : List ℕ) → list_all (λ b. is_digit b base) ds ≡ true → AllDigits base ds
AllDigits-from_all base [] all = search rules
AllDigits-from_all base (d ∷ ds) all =
    let h = both (is_digit d base) (list_all (λ b. is_digit b base) ds) all in
    ((let e : digit_value d < base = grind (arith, nat_tests) in e), AllDigits-from_all base ds h.1)

without_plus : (base : ℕ) (ds : List ℕ) → base ≤ 36 → list_all (λ b. is_digit b base) ds ≡ true → without_leading_plus ds ≡ ds
without_plus base [] small all = refl
without_plus base (d ∷ ds) small all =
    let h = both (is_digit d base) (list_all (λ b. is_digit b base) ds) all in
    either (nat_eq d 43) (λ t. absurd (plus_is_none base d small t h.0)) (λ f. rw f refl)

below_yes : (limit n : ℕ) → n < limit → below limit (Some n) ≡ Some n
below_yes limit n h =
    let e : nat_lt n limit ≡ true = grind (arith, nat_tests) in
    rw e refl

below_no : (limit n : ℕ) → (n < limit → ⊥) → below limit (Some n) ≡ None
below_no limit n h =
    let e : nat_lt n limit ≡ false = grind (arith, nat_tests) in
    rw e refl

pub numeral_some : (base d : ℕ) (ds : List ℕ) → list_all (λ b. is_digit b base) (d ∷ ds) ≡ true → numeral base (d ∷ ds) ≡ Some (digits_value base (d ∷ ds))
numeral_some base d ds all =
    let e : nat_lt 0 (length (d ∷ ds)) ≡ true = grind (arith, nat_tests) in
    rw (e, all) refl

-- only digits are a numeral
pub numeral_all : (base : ℕ) (ds : List ℕ) (n : ℕ) → numeral base ds ≡ Some n → list_all (λ b. is_digit b base) ds ≡ true
numeral_all base ds n e = split (nat_lt 0 (length ds) && list_all (λ b. is_digit b base) ds) e (λ t _. (both (nat_lt 0 (length ds)) _ t).1) (λ _ f. cc)

-- what the library reads is the numeral, where 64 bits hold it
pub reads_numeral : {E : Type 0} (base : ℕ) (ds : List ℕ) (r : Result ℕ E) → base ≤ 36 → list_all (λ b. is_digit b base) ds ≡ true → ParsesUnsigned 64 base ds r → result_ok r ≡ below (2 ^ 64) (numeral base ds)
reads_numeral base [] (Ok x) small all h = absurd (omega (arith, h.0.0.0))
reads_numeral base [] (Err e) small all h = refl
reads_numeral base (d ∷ ds) (Ok x) small all h =
    let same = without_plus base (d ∷ ds) small all in
    let fits = rw same at h.0.1 in
    let value = rw same at h.1 in
    ap Some value ∙ sym (ap (below (2 ^ 64)) (numeral_some base d ds all) ∙ below_yes (2 ^ 64) (digits_value base (d ∷ ds)) fits)
reads_numeral base (d ∷ ds) (Err e) small all h =
    let same = without_plus base (d ∷ ds) small all in
    let unfit : digits_value base (d ∷ ds) < 2 ^ 64 → ⊥ = λ fits. (rw same at h) (((omega arith), AllDigits-from_all base (d ∷ ds) all), fits) in
    sym (ap (below (2 ^ 64)) (numeral_some base d ds all) ∙ below_no (2 ^ 64) (digits_value base (d ∷ ds)) unfit)
