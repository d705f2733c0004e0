-- A number is a sign, or none, and letters and digits, of which the first is a digit.
use Rattle.std.proofs.Common.{◌≡◌, ℕ, ◌≤◌, true, false, ◌&&◌, List, [], ◌∷◌, ◌++◌, length, drop, Option, Some, None, option_and_then, ℤ, nat_lt, refl, sym, ap, ◌∙◌, arith, true≢false, codes}
use Rattle.std.proofs.lemmas.Bool.Decides.{nat_tests}
use Rattle.std.proofs.lemmas.List.Sums.{prefix_len-le-length}
use Rattle.std.specs.Char.{is_digit, is_ascii_digit}
use Rattle.std.specs.List.{list_all, prefix_len}
use Rattle.tpl_token.specs.Characters.{begins, first_is, is_sign, is_word_byte, is_word_start}
use Rattle.tpl_token.specs.Numbers.{numeral, magnitude, number, unsigned, signed}
use Rattle.tpl_token.specs.Refusals.{begins_number}
use Rattle.tpl_token.specs.Scanning.{number_len}
use Rattle.tpl_token.proofs.Digits.{numeral_all}
use Rattle.tpl_token.proofs.Marks.{split, either, both, begins-is, run-is, run_stops, one_more}

digit_word : (base b : ℕ) → base ≤ 16 → is_digit b base ≡ true → is_word_byte b ≡ true
digit_word base b small is = grind (arith, nat_tests)

digits_words : (base : ℕ) (ds : List ℕ) → base ≤ 16 → list_all (λ b. is_digit b base) ds ≡ true → list_all is_word_byte ds ≡ true
digits_words base [] small all = refl
digits_words base (d ∷ ds) small all =
    let h = both (is_digit d base) (list_all (λ b. is_digit b base) ds) all in
    rw (digit_word base d small h.0) (digits_words base ds small h.1)

-- of letters and digits, a digit first
pub record IsDigital (bytes : List ℕ) : Type 0 where
  pub words : list_all is_word_byte bytes ≡ true
  pub digit : first_is is_ascii_digit bytes ≡ true

hexadecimal : (bytes : List ℕ) (m : ℕ) → begins (codes "0x") bytes ≡ true → numeral 16 (drop 2 bytes) ≡ Some m → IsDigital bytes
hexadecimal bytes m mark e =
    let is = begins-is (codes "0x") bytes mark in
    let words : list_all is_word_byte (48 ∷ 120 ∷ drop 2 bytes) ≡ true = digits_words 16 (drop 2 bytes) (omega arith) (numeral_all 16 (drop 2 bytes) m e) in
    record { words = ap (list_all is_word_byte) is ∙ words; digit = ap (first_is is_ascii_digit) is }

decimal : (bytes : List ℕ) (m : ℕ) → numeral 10 bytes ≡ Some m → IsDigital bytes
decimal [] m e = cc
decimal (b ∷ bs) m e =
    let all = numeral_all 10 (b ∷ bs) m e in
    let first = (both (is_digit b 10) (list_all (λ b. is_digit b 10) bs) all).0 in
    record { words = digits_words 10 (b ∷ bs) (omega arith) all; digit = grind (arith, nat_tests) }

magnitude_digital : (bytes : List ℕ) (m : ℕ) → magnitude bytes ≡ Some m → IsDigital bytes
magnitude_digital bytes m e =
    split (begins (codes "0x") bytes) e (hexadecimal bytes m)
    (λ _ e. split (begins (codes "0") bytes && nat_lt 1 (length bytes)) e (λ _ e. cc) (λ _ e. decimal bytes m e))

then_some : {A B : Type 0} (f : A → Option B) (o : Option A) (c : B) → option_and_then f o ≡ Some c → (n : A) × (o ≡ Some n)
then_some f None c e = cc
then_some f (Some n) c e = (n, refl)

pub number_digital : (bytes : List ℕ) (n : ℤ) → number bytes ≡ Some n → IsDigital (unsigned bytes)
number_digital bytes n e =
    let h = then_some (signed (begins (codes "-") bytes)) (magnitude (unsigned bytes)) n e in
    magnitude_digital (unsigned bytes) h.0 h.1

-- a number ends where its letters and digits do
pub number_len-is : (bytes rest : List ℕ) → IsDigital (unsigned bytes) → first_is is_word_byte rest ≡ false → number_len (bytes ++ rest) ≡ length bytes
number_len-is [] rest h ends = absurd (true≢false (sym h.digit))
number_len-is (b ∷ bs) rest h ends = either (is_sign b)
    (λ t. let words : list_all is_word_byte bs ≡ true = rw t at h.words in
    rw (t, run-is is_word_byte bs rest words ends) (one_more (length bs)))
    (λ f. let words : list_all is_word_byte (b ∷ bs) ≡ true = rw f at h.words in
    rw f (run-is is_word_byte (b ∷ bs) rest words ends))

-- it begins as one
pub number_begins : (bytes rest : List ℕ) → IsDigital (unsigned bytes) → begins_number (bytes ++ rest) ≡ true
number_begins [] rest h = absurd (true≢false (sym h.digit))
number_begins (b ∷ bs) rest h = either (is_sign b)
    (λ t. let d : is_ascii_digit b ≡ false = grind (arith, nat_tests) in rw (d, t) refl)
    (λ f. let d : first_is is_ascii_digit (b ∷ bs) ≡ true = rw f at h.digit in rw d refl)

pub number_no_word : (bytes rest : List ℕ) → IsDigital (unsigned bytes) → first_is is_word_start (bytes ++ rest) ≡ false
number_no_word [] rest h = absurd (true≢false (sym h.digit))
number_no_word (b ∷ bs) rest h = either (is_sign b)
    (λ t. let e : is_word_start b ≡ false = grind (arith, nat_tests) in e)
    (λ f. let d : is_ascii_digit b ≡ true = rw f at h.digit in let e : is_word_start b ≡ false = grind (arith, nat_tests) in e)

pub number_len-fits : (bytes : List ℕ) → number_len bytes ≤ length bytes
number_len-fits [] = omega arith
number_len-fits (b ∷ bs) = either (is_sign b)
    (λ t. rw t (omega (arith, prefix_len-le-length is_word_byte bs)))
    (λ f. rw f (prefix_len-le-length is_word_byte (b ∷ bs)))

pub number_ends : (bytes : List ℕ) → first_is is_word_byte (drop (number_len bytes) bytes) ≡ false
number_ends [] = refl
number_ends (b ∷ bs) = either (is_sign b)
    (λ t. rw (t, one_more (prefix_len is_word_byte bs)) (run_stops is_word_byte bs))
    (λ f. rw f (run_stops is_word_byte (b ∷ bs)))
