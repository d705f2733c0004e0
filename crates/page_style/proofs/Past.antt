-- A byte past ASCII, of whatever character, and what follows it.
use Rattle.std.proofs.Common.{◌≡◌, ℕ, ◌<◌, ◌≤◌, ◌==◌, ◌||◌, Bool, true, false, refl, arith}
use Rattle.std.proofs.lemmas.Bool.{ne_eqb}
use Rattle.std.proofs.lemmas.Bool.Decides.{nat_tests}
use Rattle.std.specs.Char.{is_ascii_alphanumeric, is_ascii_hexdigit, to_ascii_lowercase}
use Rattle.css_lexer.specs.Classes.{style_class}
use Rattle.css_lexer.specs.declared.class.StyleClass.TheVariants as class
use Rattle.page_style.specs.Parts.{is_past_ascii}

pub record IsPast (b : ℕ) : Type 0 where
  pub kind : style_class b ≡ class.WordByte
  pub digit : is_ascii_hexdigit b ≡ false
  pub spells_u : (to_ascii_lowercase b == 117) ≡ false
  pub spells_r : (to_ascii_lowercase b == 114) ≡ false
  pub spells_l : (to_ascii_lowercase b == 108) ≡ false
  pub carriage : (b == 13) ≡ false
  pub line : (b == 10) ≡ false

or-last : (x y z : Bool) → (x || (y || (z || true))) ≡ true
or-last true y z = refl
or-last false true z = refl
or-last false false true = refl
or-last false false false = refl

word-byte : (b : ℕ) → 128 ≤ b → is_past_ascii b ≡ true → style_class b ≡ class.WordByte
unfolding style_class
word-byte b h p =
    let other : (n : ℕ) → n < 128 → (b == n) ≡ false = λ n low. ne_eqb b n (λ e. omega (arith, h, e, low)) in
    rw (other 9 (omega arith), other 32 (omega arith), other 10 (omega arith), other 12 (omega arith), other 13 (omega arith), p, or-last (is_ascii_alphanumeric b) (b == 95) (b == 45)) refl

pub past : (b : ℕ) → is_past_ascii b ≡ true → IsPast b
past b p =
    let h : 128 ≤ b = grind (arith, nat_tests) in
    record {
      kind = word-byte b h p;
      digit = grind (arith, nat_tests);
      spells_u = grind (arith, nat_tests);
      spells_r = grind (arith, nat_tests);
      spells_l = grind (arith, nat_tests);
      carriage = ne_eqb b 13 (λ e. omega (arith, h, e));
      line = ne_eqb b 10 (λ e. omega (arith, h, e));
    }
