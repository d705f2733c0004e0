-- No text has more characters than bytes, as it stands or with its references undone.
use Rattle.std.proofs.Common.{◌≡◌, ◌+◌, ◌-◌, ◌*◌, ◌^◌, ◌<◌, ◌≤◌, ℕ, zero, suc, Bool, length, drop, List, [], ◌∷◌, Option, Some, None, refl, ap, arith}
use Rattle.std.specs.Char.{len_utf8}
use Rattle.std.specs.Str.{chars, chars_after, continuation_len, lead_bits}
use Rattle.place_core.specs.page.Characters.{before_rest, char_at, characters_at, characters_within}
use Rattle.place_core.specs.page.Offsets.{with_offsets}

after-count : (n c : ℕ) (bs : List ℕ) → length (chars_after n c bs) ≤ length bs + 1
after-count zero c [] = omega arith
after-count zero c (b ∷ bs) = omega (arith, after-count (continuation_len b) (lead_bits b) bs)
after-count (suc n) c [] = omega arith
after-count (suc n) c (b ∷ bs) = omega (arith, after-count n (c * 64 + (b - 128)) bs)

chars-count : (bs : List ℕ) → length (chars bs) ≤ length bs
unfolding chars
chars-count [] = omega arith
chars-count (b ∷ bs) = omega (arith, after-count (continuation_len b) (lead_bits b) bs)

offsets-count : (at : ℕ) (cs : List ℕ) → length (with_offsets at cs) ≡ length cs
offsets-count at [] = refl
offsets-count at (c ∷ cs) = ap suc (offsets-count (at + len_utf8 c) cs)

before-count : (o : Option (ℕ × ℕ)) (at most : ℕ) (rest : ℕ → List (ℕ × ℕ)) → ((len : ℕ) → length (rest len) ≤ most)
    → length (before_rest o at rest) ≤ suc most
before-count None at most rest h = omega arith
before-count (Some first) at most rest h = omega (arith, h first.1)

within-count : (most : ℕ) (attribute cut : Bool) (at : ℕ) (bytes : List ℕ) → length (characters_within most attribute cut at bytes) ≤ most
within-count zero attribute cut at bytes = omega arith
within-count (suc most) attribute cut at bytes =
    before-count (char_at attribute cut bytes) at most (λ (len : ℕ). characters_within most attribute cut (at + len) (drop len bytes))
    (λ len. within-count most attribute cut (at + len) (drop len bytes))

pub text_count : (cs : List (ℕ × ℕ)) (at : ℕ) (text : List ℕ) → cs ≡ with_offsets at (chars text) → length text < 2 ^ 32 → length cs ≤ 2 ^ 120
text_count cs at text e h = omega (arith, ap length e, offsets-count at (chars text), chars-count text, h)

pub value_count : (cs : List (ℕ × ℕ)) (attribute cut : Bool) (at : ℕ) (value : List ℕ) → cs ≡ characters_at attribute cut at value → length value < 2 ^ 32
    → length cs ≤ 2 ^ 120
value_count cs attribute cut at value e h = omega (arith, ap length e, within-count (length value) attribute cut at value, h)
