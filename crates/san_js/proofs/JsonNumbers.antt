-- A whole number of 64 bits is written as a number of JSON.
use Rattle.std.proofs.Common.{◌≡◌, ◌<◌, ◌^◌, ◌==◌, ℕ, suc, ℤ, pos, negsuc, Bool, false, cond, drop, get_or, true, List, [], ◌∷◌, ◌++◌, option_and_then, sym, ap, ◌∙◌, arith}
use Rattle.std.proofs.lemmas.Bool.{ne_eqb}
use Rattle.std.proofs.lemmas.Fmt.{first_decimal}
use Rattle.std.specs.Fmt.{decimal, signed_decimal}
use Rattle.json.specs.Lex.{token, lex, between}
use Rattle.json.specs.Print.{IsNumber}
use Rattle.json.specs.Token.{number}
use Rattle.json.specs.Word.{head, ends_word, after_whole, after_fraction, after_exponent, after_number}
use Rattle.json.proofs.Printed.Decimals.{IsNumber-decimal}
use Rattle.json.proofs.Printed.Numbers.{lex-number}
use Rattle.js_lexer.specs.ScriptBack.{IsWholeNumber}

no-minus : (bytes : List ℕ) → 48 < get_or bytes 0 0 → head bytes == 45 ≡ false
no-minus [] h = absurd (omega (arith, h))
no-minus (b ∷ bs) h = ne_eqb b 45 (λ e. omega (arith, e, h))

-- a minus before a number that has none
negative-number : (bytes : List ℕ) → head bytes == 45 ≡ false → IsNumber bytes → IsNumber (45 ∷ bytes)
unfolding after_number
negative-number bytes e h =
    ap (λ (x : Bool). option_and_then after_exponent (option_and_then after_fraction (after_whole (cond x (drop 1 bytes) bytes)))) (sym e) ∙ h

whole-number : (n : ℤ) → IsWholeNumber n → IsNumber (signed_decimal n)
whole-number (pos n) h = IsNumber-decimal n (omega (arith, h))
whole-number (negsuc n) h =
    let small : suc n < 2 ^ 64 = omega (arith, h) in
    negative-number (decimal (suc n)) (no-minus (decimal (suc n)) (first_decimal (suc n) (omega arith) small)) (IsNumber-decimal (suc n) small)

-- a number is one lexeme, where a word ends behind it
pub lex-whole : (n : ℤ) (rest : List ℕ) → IsWholeNumber n → ends_word rest ≡ true
    → lex between (signed_decimal n ++ rest) ≡ token (number (signed_decimal n)) ∷ lex between rest
lex-whole n rest h ended = lex-number (signed_decimal n) rest (whole-number n h) ended
