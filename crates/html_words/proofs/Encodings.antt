-- The decoder reads what the encoder writes.
use Rattle.std.proofs.Common.{◌≡◌, ℕ, ◌+◌, ◌-◌, ◌*◌, ◌/◌, ◌%◌, ◌<◌, ◌≤◌, true, false, List, ◌∷◌, ◌++◌, encode_utf8, refl, ◌∙◌, arith, inl, inr, ◌⊎◌}
use Rattle.std.proofs.lemmas.Bool.{cases_lt, and_from, le-leb, lt-ltb, le-ltb, ne_eqb, eq-eqb}
use Rattle.std.proofs.lemmas.Bool.Decides.{nat_tests}
use Rattle.std.specs.Int.{is_in_range}
use Rattle.std.specs.Str.Lossy.{second_byte_min, second_byte_max}
use Rattle.std.specs.Str.{continuation_len, lead_bits}
use Rattle.place_core.specs.page.Utf8.{Partial, Before, Within, partial_begun, gone_on, is_lead, decoded, more_bits}

-- a number that is the code of a character
pub record IsCode (c : ℕ) : Type 0 where
  pub low : c < 1114112
  pub whole : (c < 55296) ⊎ (57344 ≤ c)

pub in_range : (least most b : ℕ) → least ≤ b → b ≤ most → is_in_range least most b ≡ true
in_range least most b h k = and_from _ _ (le-leb least b h) (le-leb b most k)

-- a lead byte, by how many bytes follow it
pub leads : (b : ℕ) (ys : List ℕ) → 194 ≤ b → b ≤ 244 → decoded Before (b ∷ ys) ≡ decoded (Within (partial_begun b)) ys
leads b ys h k = rw (le-ltb b 128 (omega arith), in_range 194 244 b h k) refl

-- a byte that goes on, and is not the last
pub goes : (p : Partial) (b : ℕ) (ys : List ℕ) → p.lower ≤ b → b ≤ p.upper → (p.needed ≡ 1 → ⊥) → decoded (Within p) (b ∷ ys) ≡ decoded (Within (gone_on p b)) ys
goes p b ys h k more = rw (in_range p.lower p.upper b h k, ne_eqb p.needed 1 more) refl

-- a byte that is the last
pub ends : (p : Partial) (b : ℕ) (ys : List ℕ) → p.lower ≤ b → b ≤ p.upper → p.needed ≡ 1 → decoded (Within p) (b ∷ ys) ≡ more_bits p b ∷ decoded Before ys
ends p b ys h k last = rw (in_range p.lower p.upper b h k, eq-eqb p.needed 1 last) refl

pub one_byte : (b : ℕ) (ys : List ℕ) → b < 128 → decoded Before (b ∷ ys) ≡ b ∷ decoded Before ys
one_byte b ys h =
    let short : is_lead b ≡ false = grind (arith, nat_tests) in
    rw (lt-ltb b 128 h, short) refl

-- what the second byte may be
least_of : (x y : ℕ) → 128 ≤ y → (x ≡ 224 → 160 ≤ y) → (x ≡ 240 → 144 ≤ y) → second_byte_min x ≤ y
least_of x y h e f = grind (arith, nat_tests)

most_of : (x y : ℕ) → y ≤ 191 → (x ≡ 237 → y ≤ 159) → (x ≡ 244 → y ≤ 143) → y ≤ second_byte_max x
most_of x y h e f = grind (arith, nat_tests)

two_bytes : (x y c : ℕ) (ys : List ℕ) → 194 ≤ x → x < 224 → 128 ≤ y → y ≤ 191 → (x - 192) * 64 + (y - 128) ≡ c → decoded Before (x ∷ y ∷ ys) ≡ c ∷ decoded Before ys
two_bytes x y c ys h k l m e =
    let one : continuation_len x ≡ 1 = grind (arith, nat_tests) in
    let bits : lead_bits x ≡ x - 192 = grind (arith, nat_tests) in
    leads x (y ∷ ys) h (omega arith)
    ∙ ends (partial_begun x) y ys (least_of x y l (λ e. absurd (omega arith)) (λ e. absurd (omega arith))) (most_of x y m (λ e. absurd (omega arith)) (λ e. absurd (omega arith))) one
    ∙ rw (bits, e) refl

three_bytes : (x y z c : ℕ) (ys : List ℕ) → 224 ≤ x → x < 240 → second_byte_min x ≤ y → y ≤ second_byte_max x → 128 ≤ z → z ≤ 191 → ((x - 224) * 64 + (y - 128)) * 64 + (z - 128) ≡ c → decoded Before (x ∷ y ∷ z ∷ ys) ≡ c ∷ decoded Before ys
three_bytes x y z c ys h k l m i j e =
    let two : continuation_len x ≡ 2 = grind (arith, nat_tests) in
    let bits : lead_bits x ≡ x - 224 = grind (arith, nat_tests) in
    leads x (y ∷ z ∷ ys) (omega arith) (omega arith)
    ∙ goes (partial_begun x) y (z ∷ ys) l m (λ e. omega (arith, two))
    ∙ ends (gone_on (partial_begun x) y) z ys i j (omega (arith, two))
    ∙ rw (bits, e) refl

four_bytes : (x y z w c : ℕ) (ys : List ℕ) → 240 ≤ x → x ≤ 244 → second_byte_min x ≤ y → y ≤ second_byte_max x → 128 ≤ z → z ≤ 191 → 128 ≤ w → w ≤ 191 → (((x - 240) * 64 + (y - 128)) * 64 + (z - 128)) * 64 + (w - 128) ≡ c → decoded Before (x ∷ y ∷ z ∷ w ∷ ys) ≡ c ∷ decoded Before ys
four_bytes x y z w c ys h k l m i j g n e =
    let three : continuation_len x ≡ 3 = grind (arith, nat_tests) in
    let bits : lead_bits x ≡ x - 240 = grind (arith, nat_tests) in
    leads x (y ∷ z ∷ w ∷ ys) (omega arith) (omega arith)
    ∙ goes (partial_begun x) y (z ∷ w ∷ ys) l m (λ e. omega (arith, three))
    ∙ goes (gone_on (partial_begun x) y) z (w ∷ ys) i j (λ e. omega (arith, three))
    ∙ ends (gone_on (gone_on (partial_begun x) y) z) w ys g n (omega (arith, three))
    ∙ rw (bits, e) refl

-- the parts of a number in base 64
quarter : (c : ℕ) → 64 * (c / 64) + c % 64 ≡ c
quarter c = omega arith

twice : (c : ℕ) → c / 4096 ≡ c / 64 / 64
twice c = omega arith

thrice : (c : ℕ) → c / 262144 ≡ c / 64 / 64 / 64
thrice c = omega arith

-- a surrogate is no code
surrogate_is_none : (c : ℕ) {P : Type 0} → IsCode c → 55296 ≤ c → c < 57344 → P
surrogate_is_none c code h k = elim code.whole [ inl low ↦ absurd (omega arith) | inr high ↦ absurd (omega arith) ]

after_237 : (c : ℕ) → IsCode c → c / 4096 ≡ 13 → c / 64 % 64 ≤ 31
after_237 c code e = elim (cases_lt c 55296) [
  | inl low ↦ (omega (arith, twice c, quarter c, quarter (c / 64)))
  | inr high ↦ surrogate_is_none c code high (omega (arith, twice c, quarter c, quarter (c / 64)))
]

pub encoded : (c : ℕ) (ys : List ℕ) → IsCode c → decoded Before (encode_utf8 c ++ ys) ≡ c ∷ decoded Before ys
unfolding lib.Utf8.encode
encoded c ys code = elim (cases_lt c 128) [
  | inl small ↦ rw (lt-ltb c 128 small) (one_byte c ys small)
  | inr h ↦ elim (cases_lt c 2048) [
    | inl two ↦ rw (le-ltb c 128 h, lt-ltb c 2048 two) (two_bytes (192 + c / 64) (128 + c % 64) c ys (omega arith) (omega arith) (omega arith) (omega arith) (omega (arith, quarter c)))
    | inr k ↦ elim (cases_lt c 65536) [
      | inl three ↦ rw (le-ltb c 128 h, le-ltb c 2048 k, lt-ltb c 65536 three)
          (three_bytes (224 + c / 4096) (128 + c / 64 % 64) (128 + c % 64) c ys (omega arith) (omega (arith, twice c, quarter c, quarter (c / 64)))
          (least_of (224 + c / 4096) (128 + c / 64 % 64) (omega arith) (λ e. (omega (arith, twice c, quarter c, quarter (c / 64)))) (λ e. absurd (omega (arith, twice c, quarter c, quarter (c / 64)))))
          (most_of (224 + c / 4096) (128 + c / 64 % 64) (omega arith) (λ e. omega (arith, after_237 c code (omega arith))) (λ e. absurd (omega (arith, twice c, quarter c, quarter (c / 64)))))
          (omega arith) (omega arith) (omega (arith, twice c, quarter c, quarter (c / 64))))
      | inr l ↦ rw (le-ltb c 128 h, le-ltb c 2048 k, le-ltb c 65536 l)
          (four_bytes (240 + c / 262144) (128 + c / 4096 % 64) (128 + c / 64 % 64) (128 + c % 64) c ys (omega arith) (omega (arith, twice c, thrice c, quarter c, quarter (c / 64), quarter (c / 64 / 64)))
          (least_of (240 + c / 262144) (128 + c / 4096 % 64) (omega arith) (λ e. absurd (omega arith)) (λ e. (omega (arith, twice c, thrice c, quarter c, quarter (c / 64), quarter (c / 64 / 64)))))
          (most_of (240 + c / 262144) (128 + c / 4096 % 64) (omega arith) (λ e. absurd (omega arith)) (λ e. (omega (arith, twice c, thrice c, quarter c, quarter (c / 64), quarter (c / 64 / 64)))))
          (omega arith) (omega arith) (omega arith) (omega arith) (omega (arith, twice c, thrice c, quarter c, quarter (c / 64), quarter (c / 64 / 64))))
    ]
  ]
]
