-- The first bytes of what is written of a datum in code: a space, a digit or a letter or a bracket, a quotation mark, or a `-` with a digit behind it.
-- So bytes that begin with a comment, and a `-` apart from its digits, are of no datum.
use Rattle.std.proofs.Common.{◌≡◌, ℕ, pos, negsuc, zero, suc, ◌+◌, ◌/◌, ◌%◌, ◌==◌, arith, ◌||◌, ◌&&◌, nat_le, nat_lt, Bool, true, false, List, [], ◌∷◌, ◌++◌, reverse, if◌then◌else◌, refl, sym, ◌∙◌}
use Rattle.std.proofs.lemmas.Bool.Decides.{nat_tests}
use Rattle.std.specs.Fmt.{decimal, digits, digits_onto, digit_glyph}
use Rattle.page_datum.specs.Data.{Data, null, truth, int, text, list, dict}
use Rattle.js_lexer.specs.Sanitizers.{begins_joined, json, js_value}

abbrev pub begins_glyph : List ℕ → Bool
begins_glyph [] = false
begins_glyph (b ∷ bs) = nat_le 48 b

abbrev pub begins_value : List ℕ → Bool
begins_value [] = false
begins_value (b ∷ bs) = b == 32 || (b == 34 || (nat_le 48 b || (b == 45 && begins_glyph bs)))

glyph-large : (x : Bool) (d : ℕ) → nat_le 48 (if x then 48 + d else 87 + d) ≡ true
glyph-large true d = grind (arith, nat_tests)
glyph-large false d = grind (arith, nat_tests)

-- of two lists, whichever is taken
glyph-if : (x : Bool) (bs cs : List ℕ) → begins_glyph bs ≡ true → begins_glyph cs ≡ true → begins_glyph (if x then bs else cs) ≡ true
glyph-if true bs cs h k = h
glyph-if false bs cs h k = k

digits-begin : (k n d : ℕ) (acc : List ℕ) → begins_glyph (digits_onto k 10 false n (digit_glyph false d ∷ acc)) ≡ true
digits-begin zero n d acc = glyph-large (nat_lt d 10) d
digits-begin (suc k) n d acc =
    glyph-if (n / 10 == 0) (digit_glyph false (n % 10) ∷ (digit_glyph false d ∷ acc)) (digits_onto k 10 false (n / 10) (digit_glyph false (n % 10) ∷ (digit_glyph false d ∷ acc)))
    (glyph-large (nat_lt (n % 10) 10) (n % 10)) (digits-begin k (n / 10) (n % 10) (digit_glyph false d ∷ acc))

decimal-begins : (n : ℕ) → begins_glyph (decimal n) ≡ true
unfolding digits
decimal-begins n =
    glyph-if (n / 10 == 0) (digit_glyph false (n % 10) ∷ []) (digits_onto 63 10 false (n / 10) (digit_glyph false (n % 10) ∷ []))
    (glyph-large (nat_lt (n % 10) 10) (n % 10)) (digits-begin 63 (n / 10) (n % 10) [])

or-true : (x : Bool) → x || true ≡ true
or-true true = refl
or-true false = refl

or-some : (x y : Bool) → y ≡ true → x || y ≡ true
or-some x y h = rw h (or-true x)

or-first : (x y : Bool) → x ≡ true → x || y ≡ true
or-first x y h = rw h refl

glyph-begins : (bs : List ℕ) → begins_glyph bs ≡ true → begins_value bs ≡ true
glyph-begins [] h = h
glyph-begins (b ∷ bs) h = or-some (b == 32) _ (or-some (b == 34) _ (or-first (nat_le 48 b) _ h))

json-begins : (d : Data) → begins_value (json d) ≡ true
json-begins null = refl
json-begins (truth true) = refl
json-begins (truth false) = refl
json-begins (int (pos n)) = glyph-begins (decimal n) (decimal-begins n)
json-begins (int (negsuc n)) = decimal-begins (suc n)
json-begins (text _) = refl
json-begins (list _) = refl
json-begins (dict _) = refl

spaced-begins : (x : Bool) (bytes : List ℕ) → begins_value bytes ≡ true → begins_value (if x then 32 ∷ (bytes ++ 32 ∷ []) else bytes) ≡ true
spaced-begins true bytes h = refl
spaced-begins false bytes h = h

pub value-begins : (d : Data) → begins_value (js_value d) ≡ true
value-begins d = spaced-begins (begins_joined (json d) || begins_joined (reverse (json d))) (json d) (json-begins d)

no-true : false ≡ true → ⊥
no-true e = cc

-- bytes that begin otherwise are of no datum
pub no-value : (bytes : List ℕ) → begins_value bytes ≡ false → (d : Data) → bytes ≡ js_value d → ⊥
no-value bytes h d e = no-true (sym h ∙ rw e (value-begins d))
