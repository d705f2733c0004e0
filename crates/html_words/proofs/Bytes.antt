-- What a byte is to a reference that is open, by tests in place of classes.
use Rattle.std.proofs.Common.{◌≡◌, ℕ, zero, suc, ◌≤◌, ◌==◌, ◌||◌, Bool, true, false, cond, List, [], ◌∷◌, ◌++◌, nat_lt, refl, sym, ap, ◌∙◌, arith, inl, inr, true≢false}
use Rattle.std.proofs.lemmas.Bool.{cases_lt, and_right, lt-leb, ltb-true, eqb-true, ne_eqb, agree_below, agree_below_at}
use Rattle.std.proofs.lemmas.Bool.Decides.{nat_tests}
use Rattle.std.specs.Char.{is_ascii_alphanumeric, is_ascii_digit, is_ascii_hexdigit}
use Rattle.std.specs.Int.{is_in_range}
use Rattle.place_core.specs.page.Classes.{Class, White, ExclamationMark, QuotationMark, NumberSign, Ampersand, Apostrophe, HyphenMinus, Solidus, Digit, Semicolon, LessThan, EqualsSign, GreaterThan, QuestionMark, GraveAccent, Letter, OtherByte, class_of, is_equals_sign}
use Rattle.place_core.specs.page.References.{Reference, Open, Form, Begun, Named, Hashed, Decimal, HexMark, Hexadecimal, ReferenceStep, Grows, Closes, Breaks, turn, Closed, begin_reference, plain_bytes, flushed, undone_byte, next_reference}

-- what a byte does to an open reference
abbrev pub turn_at : Form → ℕ → ReferenceStep
turn_at Begun b = cond (b == 35) (Grows Hashed) (cond (is_ascii_alphanumeric b) (Grows Named) Breaks)
turn_at Named b = cond (is_ascii_alphanumeric b) (Grows Named) (cond (b == 59) Closes Breaks)
turn_at Hashed b = cond (b == 88 || b == 120) (Grows HexMark) (cond (is_ascii_digit b) (Grows Decimal) Breaks)
turn_at Decimal b = cond (is_ascii_digit b) (Grows Decimal) (cond (b == 59) Closes Breaks)
turn_at HexMark b = cond (is_ascii_hexdigit b) (Grows Hexadecimal) Breaks
turn_at Hexadecimal b = cond (is_ascii_hexdigit b) (Grows Hexadecimal) (cond (b == 59) Closes Breaks)

-- Bytes below 256 are tried one by one; to compare them, turns are numbered.
abbrev number_of : ReferenceStep → ℕ
number_of (Grows Begun) = 0
number_of (Grows Named) = 1
number_of (Grows Hashed) = 2
number_of (Grows Decimal) = 3
number_of (Grows HexMark) = 4
number_of (Grows Hexadecimal) = 5
number_of Closes = 6
number_of Breaks = 7

abbrev numbered_turn : ℕ → ReferenceStep
numbered_turn zero = Grows Begun
numbered_turn (suc zero) = Grows Named
numbered_turn (suc (suc zero)) = Grows Hashed
numbered_turn (suc (suc (suc zero))) = Grows Decimal
numbered_turn (suc (suc (suc (suc zero)))) = Grows HexMark
numbered_turn (suc (suc (suc (suc (suc zero))))) = Grows Hexadecimal
numbered_turn (suc (suc (suc (suc (suc (suc zero)))))) = Closes
numbered_turn (suc (suc (suc (suc (suc (suc (suc n))))))) = Breaks

back : (t : ReferenceStep) → numbered_turn (number_of t) ≡ t
back (Grows Begun) = refl
back (Grows Named) = refl
back (Grows Hashed) = refl
back (Grows Decimal) = refl
back (Grows HexMark) = refl
back (Grows Hexadecimal) = refl
back Closes = refl
back Breaks = refl

abbrev agrees : Form → ℕ → Bool
agrees f b = number_of (turn (class_of b) f) == number_of (turn_at f b)

tried : (f : Form) → agree_below (agrees f) (λ b. true) 256 ≡ true
unfolding class_of
tried Begun = refl
tried Named = refl
tried Hashed = refl
tried Decimal = refl
tried HexMark = refl
tried Hexadecimal = refl

past : (least most b : ℕ) → 256 ≤ b → nat_lt most 256 ≡ true → is_in_range least most b ≡ false
past least most b h e = and_right _ _ (lt-leb b most (omega (arith, ltb-true most 256 e)))

not_one : (b c : ℕ) → 256 ≤ b → nat_lt c 256 ≡ true → (b == c) ≡ false
not_one b c h e = ne_eqb b c (λ same. omega (arith, ltb-true c 256 e))

-- the other bytes are of no class of their own
no_class : (b : ℕ) → 256 ≤ b → class_of b ≡ OtherByte
unfolding class_of
no_class b h = rw (past 9 10 b h refl, past 12 13 b h refl, past 32 32 b h refl, not_one b 33 h refl, not_one b 34 h refl, not_one b 35 h refl, not_one b 38 h refl, not_one b 39 h refl, not_one b 45 h refl, not_one b 47 h refl, past 48 57 b h refl, not_one b 59 h refl, not_one b 60 h refl, not_one b 61 h refl, not_one b 62 h refl, not_one b 63 h refl, not_one b 96 h refl, past 65 70 b h refl, past 97 102 b h refl, not_one b 88 h refl, not_one b 120 h refl, past 65 90 b h refl, past 97 122 b h refl) refl

no_turn : (f : Form) (b : ℕ) → 256 ≤ b → turn_at f b ≡ Breaks
no_turn f b h =
    let digit : is_ascii_digit b ≡ false = grind (arith, nat_tests) in
    let hexadecimal : is_ascii_hexdigit b ≡ false = grind (arith, nat_tests) in
    let letter : is_ascii_alphanumeric b ≡ false = grind (arith, nat_tests) in
    by b digit hexadecimal letter (ne_eqb b 35 (λ e. omega arith)) (ne_eqb b 59 (λ e. omega arith)) (ne_eqb b 88 (λ e. omega arith)) (ne_eqb b 120 (λ e. omega arith)) f
  where
    by : (b : ℕ) → is_ascii_digit b ≡ false → is_ascii_hexdigit b ≡ false → is_ascii_alphanumeric b ≡ false → (b == 35) ≡ false → (b == 59) ≡ false → (b == 88) ≡ false → (b == 120) ≡ false → (f : Form) → turn_at f b ≡ Breaks
    by b d h l e35 e59 e88 e120 Begun = rw (e35, l) refl
    by b d h l e35 e59 e88 e120 Named = rw (l, e59) refl
    by b d h l e35 e59 e88 e120 Hashed = rw (e88, e120, d) refl
    by b d h l e35 e59 e88 e120 Decimal = rw (d, e59) refl
    by b d h l e35 e59 e88 e120 HexMark = rw h refl
    by b d h l e35 e59 e88 e120 Hexadecimal = rw (h, e59) refl

other_turn : (f : Form) → turn OtherByte f ≡ Breaks
other_turn Begun = refl
other_turn Named = refl
other_turn Hashed = refl
other_turn Decimal = refl
other_turn HexMark = refl
other_turn Hexadecimal = refl

pub turns : (f : Form) (b : ℕ) → turn (class_of b) f ≡ turn_at f b
turns f b = elim (cases_lt b 256) [
  | inl low ↦
      let same = eqb-true (number_of (turn (class_of b) f)) (number_of (turn_at f b)) (agree_below_at (agrees f) (λ b. true) 256 b (tried f) low) in
      sym (back (turn (class_of b) f)) ∙ ap numbered_turn same ∙ back (turn_at f b)
  | inr high ↦ ap (λ (c : Class). turn c f) (no_class b high) ∙ other_turn f ∙ sym (no_turn f b high)
]

-- any byte but an ampersand is plain where no reference is open
abbrev is_ampersand : Class → Bool
is_ampersand Ampersand = true
is_ampersand _ = false

tried_ampersand : agree_below (λ b. is_ampersand (class_of b)) (λ b. b == 38) 256 ≡ true
unfolding class_of
tried_ampersand = refl

ampersands : (b : ℕ) → is_ampersand (class_of b) ≡ (b == 38)
ampersands b = elim (cases_lt b 256) [
  | inl low ↦ agree_below_at (λ b. is_ampersand (class_of b)) (λ b. b == 38) 256 b tried_ampersand low
  | inr high ↦ ap is_ampersand (no_class b high) ∙ sym (ne_eqb b 38 (λ e. omega arith))
]

plain_class : (b : ℕ) (c : Class) → is_ampersand c ≡ false → (begin_reference c ≡ Closed) × (plain_bytes c b ≡ b ∷ [])
plain_class b White e = (refl, refl)
plain_class b ExclamationMark e = (refl, refl)
plain_class b QuotationMark e = (refl, refl)
plain_class b NumberSign e = (refl, refl)
plain_class b Ampersand e = absurd (true≢false e)
plain_class b Apostrophe e = (refl, refl)
plain_class b HyphenMinus e = (refl, refl)
plain_class b Solidus e = (refl, refl)
plain_class b Digit e = (refl, refl)
plain_class b Semicolon e = (refl, refl)
plain_class b LessThan e = (refl, refl)
plain_class b EqualsSign e = (refl, refl)
plain_class b GreaterThan e = (refl, refl)
plain_class b QuestionMark e = (refl, refl)
plain_class b GraveAccent e = (refl, refl)
plain_class b (Letter l) e = (refl, refl)
plain_class b OtherByte e = (refl, refl)

-- A text with its references undone, where it is cut at its end or not.

abbrev pub settled_at : Bool → Bool → Reference → List ℕ
settled_at cut attribute Closed = []
settled_at cut attribute (Open f held) = cond cut (38 ∷ held) (flushed attribute false f held)

abbrev pub undone_at : Bool → Bool → Reference → List ℕ → List ℕ
undone_at cut attribute r [] = settled_at cut attribute r
undone_at cut attribute r (b ∷ bs) = undone_byte attribute r (class_of b) b ++ undone_at cut attribute (next_reference r (class_of b) b) bs

pub plain : (cut attribute : Bool) (b : ℕ) (bs : List ℕ) → (b == 38) ≡ false → undone_at cut attribute Closed (b ∷ bs) ≡ b ∷ undone_at cut attribute Closed bs
plain cut attribute b bs e =
    let h = plain_class b (class_of b) (ampersands b ∙ e) in
    rw (h.0, h.1) refl

tried_equals : agree_below (λ b. is_equals_sign (class_of b)) (λ b. b == 61) 256 ≡ true
unfolding class_of
tried_equals = refl

pub equals : (b : ℕ) → is_equals_sign (class_of b) ≡ (b == 61)
equals b = elim (cases_lt b 256) [
  | inl low ↦ agree_below_at (λ b. is_equals_sign (class_of b)) (λ b. b == 61) 256 b tried_equals low
  | inr high ↦ ap is_equals_sign (no_class b high) ∙ sym (ne_eqb b 61 (λ e. omega arith))
]
