-- Texts without a character, and with a first one.
use Rattle.std.proofs.Common.{◌≡◌, ℕ, List, [], ◌∷◌, ◌++◌, sym, ap, ◌∙◌, encode_utf8, length, arith, ◌+◌, length-append}
use Rattle.std.specs.Char.{len_utf8}
use Rattle.std.specs.Str.{chars}
use Rattle.std.proofs.lemmas.Str.{chars-nil, length-encode}

pub chars-none : (bytes : List ℕ) → length bytes ≡ 0 → chars bytes ≡ []
chars-none [] e = chars-nil
chars-none (b ∷ bytes) e = absurd (omega (arith, e))

pub length-first : (bytes rest : List ℕ) (c : ℕ) → bytes ≡ encode_utf8 c ++ rest → length bytes ≡ len_utf8 c + length rest
length-first bytes rest c e = ap length e ∙ length-append (encode_utf8 c) rest ∙ ap (λ (n : ℕ). n + length rest) (length-encode c)

-- the text, as the iterator holds it before and after the character
pub behind : (text before after rest : List ℕ) (c : ℕ) → before ≡ text → before ≡ encode_utf8 c ++ after → rest ≡ after → text ≡ encode_utf8 c ++ rest
behind text before after rest c e f g = sym e ∙ f ∙ ap (λ (xs : List ℕ). encode_utf8 c ++ xs) (sym g)
