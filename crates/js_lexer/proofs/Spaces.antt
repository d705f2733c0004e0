-- A number has a digit at its end, so it stands between spaces.
use Rattle.std.proofs.Common.{◌≡◌, ℕ, zero, suc, ℤ, pos, negsuc, ◌/◌, ◌%◌, ◌==◌, ◌||◌, Bool, true, false, List, [], ◌∷◌, ◌++◌, reverse, if◌then◌else◌, refl, ap, ◌∙◌, arith}
use Rattle.std.specs.Fmt.{decimal, digits, digits_onto, digit_glyph, signed_decimal}
use Rattle.std.proofs.lemmas.Bool.{agree_below_at, cond_both}
use Rattle.std.proofs.lemmas.List.{reverse-append}
use Rattle.js_lexer.specs.Sanitizers.{is_joined, begins_joined, spaced}

abbrev EndsJoined : List ℕ → Type 0
EndsJoined bytes = begins_joined (reverse bytes) ≡ true

front-joined : (xs ys : List ℕ) → begins_joined xs ≡ true → begins_joined (xs ++ ys) ≡ true
front-joined [] ys h = cc
front-joined (x ∷ xs) ys h = h

more-before : (b : ℕ) (bytes : List ℕ) → EndsJoined bytes → EndsJoined (b ∷ bytes)
more-before b bytes h = ap begins_joined (reverse-append (b ∷ []) bytes) ∙ front-joined (reverse bytes) (b ∷ []) h

glyph-joined : (n : ℕ) → is_joined (digit_glyph false (n % 10)) ≡ true
glyph-joined n = agree_below_at (λ d. is_joined (digit_glyph false d)) (λ d. true) 10 (n % 10) refl (omega arith)

digits-joined : (k n : ℕ) (bytes : List ℕ) → EndsJoined bytes → EndsJoined (digits_onto k 10 false n bytes)
digits-joined zero n bytes h = h
digits-joined (suc k) n bytes h =
    cond_both (n / 10 == 0) _ _ EndsJoined (λ e. more-before (digit_glyph false (n % 10)) bytes h)
    (λ e. digits-joined k (n / 10) (digit_glyph false (n % 10) ∷ bytes) (more-before (digit_glyph false (n % 10)) bytes h))

decimal-joined : (n : ℕ) → EndsJoined (decimal n)
unfolding digits
decimal-joined n =
    cond_both (n / 10 == 0) _ _ EndsJoined (λ e. glyph-joined n)
    (λ e. digits-joined 63 (n / 10) (digit_glyph false (n % 10) ∷ []) (glyph-joined n))

number-joined : (n : ℤ) → EndsJoined (signed_decimal n)
number-joined (pos n) = decimal-joined n
number-joined (negsuc n) = more-before 45 (decimal (suc n)) (decimal-joined (suc n))

either-true : (x : Bool) (bytes : List ℕ) → (if x || true then 32 ∷ (bytes ++ 32 ∷ []) else bytes) ≡ 32 ∷ (bytes ++ 32 ∷ [])
either-true true bytes = refl
either-true false bytes = refl

pub number-spaced : (n : ℤ) → spaced (signed_decimal n) ≡ 32 ∷ (signed_decimal n ++ 32 ∷ [])
number-spaced n =
    let bytes = signed_decimal n in
    ap (λ (x : Bool). if begins_joined bytes || x then 32 ∷ (bytes ++ 32 ∷ []) else bytes) (number-joined n) ∙ either-true (begins_joined bytes) bytes
