-- What the class of a byte says of the byte.
use Rattle.std.proofs.Common.{◌≡◌, ◌∙◌, inl, inr, ℕ, ◌==◌, ◌≤◌, ◌||◌, ◌&&◌, nat_eq, nat_le, nat_lt, not, Bool, true, false, codes, refl, sym, ap, arith}
use Rattle.std.proofs.lemmas.Bool.{cases_lt, ne_eqb, agree_below, agree_below_at}
use Rattle.std.proofs.lemmas.Bool.Decides.{nat_tests}
use Rattle.std.specs.Char.{is_ascii_digit, is_ascii_alphabetic, to_ascii_lowercase}
use Rattle.std.specs.List.{list_any}
use Rattle.js_lexer.specs.Classes.{class_of, is_space, is_line_terminator}
use Rattle.js_lexer.specs.declared.class.ScriptClass.{ScriptClass}
use Rattle.js_lexer.specs.declared.class.ScriptClass.TheVariants as class

abbrev pub is_less : ScriptClass → Bool
is_less class.LessThan = true
is_less c = false

abbrev pub is_hash : ScriptClass → Bool
is_hash class.NumberSign = true
is_hash c = false

abbrev pub is_minus : ScriptClass → Bool
is_minus class.Minus = true
is_minus c = false

abbrev pub is_bang : ScriptClass → Bool
is_bang class.ExclamationMark = true
is_bang c = false

abbrev pub is_solidus : ScriptClass → Bool
is_solidus class.Solidus = true
is_solidus c = false

abbrev pub is_greater : ScriptClass → Bool
is_greater class.GreaterThan = true
is_greater c = false

abbrev pub is_backslash : ScriptClass → Bool
is_backslash class.Backslash = true
is_backslash c = false

abbrev pub is_grave : ScriptClass → Bool
is_grave class.GraveAccent = true
is_grave c = false

abbrev pub is_letter : ScriptClass → Bool
is_letter class.Letter = true
is_letter c = false

-- past ASCII
space-none : (b : ℕ) → 128 ≤ b → is_space b ≡ false
space-none b h = grind (h, arith, nat_tests)

line-none : (b : ℕ) → 128 ≤ b → is_line_terminator b ≡ false
line-none b h = grind (h, arith, nat_tests)

digit-none : (b : ℕ) → 128 ≤ b → is_ascii_digit b ≡ false
digit-none b h = grind (h, arith, nat_tests)

letter-there : (b : ℕ) → 128 ≤ b → (is_ascii_alphabetic b || (b == 95 || nat_le 128 b)) ≡ true
letter-there b h = grind (h, arith, nat_tests)

pub class-high : (b : ℕ) → 128 ≤ b → class_of b ≡ class.Letter
unfolding class_of
class-high b h = rw (space-none b h, line-none b h, digit-none b h, letter-there b h) refl

lower-high : (b k : ℕ) → 128 ≤ b → nat_lt k 128 ≡ true → (to_ascii_lowercase b == k) ≡ false
lower-high b k h g = grind (h, g, arith, nat_tests)

self-high : (b k : ℕ) → 128 ≤ b → nat_lt k 128 ≡ true → (b == k) ≡ false
self-high b k h g = grind (h, g, arith, nat_tests)

abbrev lower-is : ℕ → ℕ → Bool
lower-is k b = to_ascii_lowercase b == k

abbrev self-is : ℕ → ℕ → Bool
self-is k b = b == k

lower-test : (f : ScriptClass → Bool) (k : ℕ) → agree_below (lower-is k) (λ b. f (class_of b)) 128 ≡ true → f class.Letter ≡ false → nat_lt k 128 ≡ true
    → (b : ℕ) → (to_ascii_lowercase b == k) ≡ f (class_of b)
lower-test f k t e g b = elim (cases_lt b 128) [
  | inl low ↦ agree_below_at (lower-is k) (λ b. f (class_of b)) 128 b t low
  | inr high ↦ lower-high b k high g ∙ sym (ap f (class-high b high) ∙ e)
]

self-test : (f : ScriptClass → Bool) (k : ℕ) → agree_below (self-is k) (λ b. f (class_of b)) 128 ≡ true → f class.Letter ≡ false → nat_lt k 128 ≡ true
    → (b : ℕ) → (b == k) ≡ f (class_of b)
self-test f k t e g b = elim (cases_lt b 128) [
  | inl low ↦ agree_below_at (self-is k) (λ b. f (class_of b)) 128 b t low
  | inr high ↦ self-high b k high g ∙ sym (ap f (class-high b high) ∙ e)
]

less-table : agree_below (lower-is 60) (λ b. is_less (class_of b)) 128 ≡ true
unfolding class_of
less-table = refl

hash-table : agree_below (lower-is 35) (λ b. is_hash (class_of b)) 128 ≡ true
unfolding class_of
hash-table = refl

minus-table : agree_below (lower-is 45) (λ b. is_minus (class_of b)) 128 ≡ true
unfolding class_of
minus-table = refl

bang-table : agree_below (lower-is 33) (λ b. is_bang (class_of b)) 128 ≡ true
unfolding class_of
bang-table = refl

solidus-table : agree_below (lower-is 47) (λ b. is_solidus (class_of b)) 128 ≡ true
unfolding class_of
solidus-table = refl

greater-table : agree_below (lower-is 62) (λ b. is_greater (class_of b)) 128 ≡ true
unfolding class_of
greater-table = refl

backslash-table : agree_below (self-is 92) (λ b. is_backslash (class_of b)) 128 ≡ true
unfolding class_of
backslash-table = refl

grave-table : agree_below (self-is 96) (λ b. is_grave (class_of b)) 128 ≡ true
unfolding class_of
grave-table = refl

-- the bytes of markup, and the backslash, by a class
pub record Tests (c : ScriptClass) (b : ℕ) : Type 0 where
  pub less : (to_ascii_lowercase b == 60) ≡ is_less c
  pub hash : (to_ascii_lowercase b == 35) ≡ is_hash c
  pub minus : (to_ascii_lowercase b == 45) ≡ is_minus c
  pub bang : (to_ascii_lowercase b == 33) ≡ is_bang c
  pub solidus : (to_ascii_lowercase b == 47) ≡ is_solidus c
  pub greater : (to_ascii_lowercase b == 62) ≡ is_greater c
  pub backslash : (b == 92) ≡ is_backslash c
  pub grave : (b == 96) ≡ is_grave c

pub tests-of : (b : ℕ) → Tests (class_of b) b
tests-of b = record {
  less = lower-test is_less 60 less-table refl refl b;
  hash = lower-test is_hash 35 hash-table refl refl b;
  minus = lower-test is_minus 45 minus-table refl refl b;
  bang = lower-test is_bang 33 bang-table refl refl b;
  solidus = lower-test is_solidus 47 solidus-table refl refl b;
  greater = lower-test is_greater 62 greater-table refl refl b;
  backslash = self-test is_backslash 92 backslash-table refl refl b;
  grave = self-test is_grave 96 grave-table refl refl b;
}

-- the letters of `script`
abbrev pub in_script : ℕ → Bool
in_script l = list_any (nat_eq l) (codes "script")

abbrev letter-missed : ℕ → Bool
letter-missed b = in_script (to_ascii_lowercase b) && not (is_letter (class_of b))

letters-table : agree_below letter-missed (λ b. false) 128 ≡ true
unfolding class_of
letters-table = refl

not-missed : (x y : Bool) → (x && not y) ≡ false → x ≡ true → y ≡ true
not-missed true true e h = refl
not-missed true false e h = cc
not-missed false y e h = cc

letter-is : (c : ScriptClass) → is_letter c ≡ true → c ≡ class.Letter
letter-is class.Letter e = refl
letter-is _ e = cc

pub script-letter : (b : ℕ) → in_script (to_ascii_lowercase b) ≡ true → class_of b ≡ class.Letter
script-letter b h = elim (cases_lt b 128) [
  | inl low ↦
      letter-is (class_of b)
      (not-missed (in_script (to_ascii_lowercase b)) (is_letter (class_of b)) (agree_below_at letter-missed (λ b. false) 128 b letters-table low) h)
  | inr high ↦ class-high b high
]

line-13 : class_of 13 ≡ class.LineEnd
unfolding class_of
line-13 = refl

pub not-return : (b : ℕ) → (class_of b ≡ class.LineEnd → ⊥) → (b == 13) ≡ false
not-return b h = ne_eqb b 13 (λ e. h (ap class_of e ∙ line-13))
