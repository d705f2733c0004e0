-- What holds of each byte, by computing it for all 256.
use Rattle.std.proofs.Common.{◌≡◌, ◌≢◌, ◌⊎◌, ℕ, zero, suc, ◌<◌, ◌+◌, ◌*◌, ◌/◌, ◌%◌, ◌==◌, ◌&&◌, nat_lt, Bool, true, false, refl, sym, ap, ◌∙◌, inl, inr, subst, arith}
use Rattle.std.specs.Prelude.{nat_le, not}
use Rattle.std.specs.Char.{is_ascii_hexdigit, to_ascii_lowercase}
use Rattle.std.proofs.lemmas.Bool.{and_parts, eqb-true, ltb-true}
use Rattle.std.proofs.lemmas.Bool.Decides.{eqb_tells}
use Rattle.url_lexer.specs.Back.{hexadecimal_value}
use Rattle.url_lexer.specs.Classes.{url_class_of}
use Rattle.url_lexer.specs.Kept.{is_kept_in_url, is_unreserved}
use Rattle.url_lexer.specs.Sanitizers.{hexadecimal_digit}
use Rattle.url_lexer.specs.declared.class.UrlClass.{UrlClass}
use Rattle.url_lexer.specs.declared.class.UrlClass.TheVariants as class

abbrev all_below : ℕ → (ℕ → Bool) → Bool
all_below zero f = true
all_below (suc n) f = f n && all_below n f

below-step : (n b : ℕ) (f : ℕ → Bool) → f n ≡ true → b < suc n → (b < n → f b ≡ true) → ((b == n) ≡ true) × (b ≡ n) ⊎ ((b == n) ≡ false) × (b ≢ n) → f b ≡ true
below-step n b f h l k (inl same) = subst (λ (i : ℕ). f i ≡ true) (sym same.1) h
below-step n b f h l k (inr other) = k (omega (arith, l, other.1))

below : (n b : ℕ) (f : ℕ → Bool) → all_below n f ≡ true → b < n → f b ≡ true
below zero b f h l = absurd (omega (arith, l))
below (suc n) b f h l = let p = and_parts (f n) (all_below n f) h in below-step n b f p.0 l (below n b f p.1) (eqb_tells b n)

of-byte : (f : ℕ → Bool) → all_below 256 f ≡ true → (b : ℕ) → nat_lt b 256 ≡ true → f b ≡ true
of-byte f h b l = below 256 b f h (ltb-true b 256 l)

abbrev implies : Bool → Bool → Bool
implies true y = y
implies false y = true

modus : (x y : Bool) → implies x y ≡ true → x ≡ true → y ≡ true
modus true y h e = h
modus false y h e = cc

-- tests of classes
abbrev is_hexadecimal : UrlClass → Bool
is_hexadecimal class.Hexadecimal = true
is_hexadecimal c = false

abbrev pub is_word : UrlClass → Bool
is_word class.Hexadecimal = true
is_word class.Other = true
is_word c = false

abbrev is_mark : UrlClass → Bool
is_mark class.Colon = true
is_mark class.Slash = true
is_mark class.QueryMark = true
is_mark c = false

abbrev is_colon : UrlClass → Bool
is_colon class.Colon = true
is_colon c = false

abbrev is_slash : UrlClass → Bool
is_slash class.Slash = true
is_slash c = false

abbrev is_percent : UrlClass → Bool
is_percent class.Percent = true
is_percent c = false

hexadecimal-is : (c : UrlClass) → is_hexadecimal c ≡ true → c ≡ class.Hexadecimal
hexadecimal-is class.Hexadecimal e = refl
hexadecimal-is _ e = cc

slash-is : (c : UrlClass) → is_slash c ≡ true → c ≡ class.Slash
slash-is class.Slash e = refl
slash-is _ e = cc

-- a hexadecimal digit
abbrev fact_digit : ℕ → Bool
fact_digit b = implies (is_ascii_hexdigit b) (is_hexadecimal (url_class_of b) && is_unreserved b)

all-digit : all_below 256 fact_digit ≡ true
unfolding url_class_of
all-digit = refl

digit-parts : (b : ℕ) → nat_lt b 256 ≡ true → is_ascii_hexdigit b ≡ true → (is_hexadecimal (url_class_of b) ≡ true) × (is_unreserved b ≡ true)
digit-parts b l h = and_parts (is_hexadecimal (url_class_of b)) (is_unreserved b) (modus (is_ascii_hexdigit b) (is_hexadecimal (url_class_of b) && is_unreserved b) (of-byte fact_digit all-digit b l) h)

pub digit-class : (b : ℕ) → nat_lt b 256 ≡ true → is_ascii_hexdigit b ≡ true → url_class_of b ≡ class.Hexadecimal
digit-class b l h = hexadecimal-is (url_class_of b) (digit-parts b l h).0

pub digit-unreserved : (b : ℕ) → nat_lt b 256 ≡ true → is_ascii_hexdigit b ≡ true → is_unreserved b ≡ true
digit-unreserved b l h = (digit-parts b l h).1

-- the marks are kept
abbrev fact_mark : ℕ → Bool
fact_mark b = implies (is_mark (url_class_of b)) (is_kept_in_url b)

all-mark : all_below 256 fact_mark ≡ true
unfolding url_class_of
all-mark = refl

pub mark-kept : (b : ℕ) (c : UrlClass) → nat_lt b 256 ≡ true → url_class_of b ≡ c → is_mark c ≡ true → is_kept_in_url b ≡ true
mark-kept b c l e h = modus (is_mark (url_class_of b)) (is_kept_in_url b) (of-byte fact_mark all-mark b l) (ap is_mark e ∙ h)

-- the marks are no digits
abbrev fact_apart : ℕ → Bool
fact_apart b = implies (is_mark (url_class_of b)) (not (is_ascii_hexdigit b))

all-apart : all_below 256 fact_apart ≡ true
unfolding url_class_of
all-apart = refl

not-true : (x : Bool) → not x ≡ true → x ≡ false
not-true false e = refl
not-true true e = cc

pub hex-mark : (b : ℕ) (c : UrlClass) → nat_lt b 256 ≡ true → url_class_of b ≡ c → is_mark c ≡ true → is_ascii_hexdigit b ≡ false
hex-mark b c l e h = not-true (is_ascii_hexdigit b) (modus (is_mark (url_class_of b)) (not (is_ascii_hexdigit b)) (of-byte fact_apart all-apart b l) (ap is_mark e ∙ h))

-- a byte that is kept begins no triple
abbrev fact_kept : ℕ → Bool
fact_kept b = implies (is_kept_in_url b) (not (b == 37))

all-kept : all_below 256 fact_kept ≡ true
all-kept = refl

pub kept-no-percent : (b : ℕ) → nat_lt b 256 ≡ true → is_kept_in_url b ≡ true → (b == 37) ≡ false
kept-no-percent b l k = not-true (b == 37) (modus (is_kept_in_url b) (not (b == 37)) (of-byte fact_kept all-kept b l) k)

-- the two digits of a triple are the number of its byte
abbrev fact_value : ℕ → Bool
fact_value b = (hexadecimal_value (hexadecimal_digit (b / 16)) * 16 + hexadecimal_value (hexadecimal_digit (b % 16))) == b

all-value : all_below 256 fact_value ≡ true
all-value = refl

pub value-back : (b : ℕ) → nat_lt b 256 ≡ true → hexadecimal_value (hexadecimal_digit (b / 16)) * 16 + hexadecimal_value (hexadecimal_digit (b % 16)) ≡ b
value-back b l = eqb-true (hexadecimal_value (hexadecimal_digit (b / 16)) * 16 + hexadecimal_value (hexadecimal_digit (b % 16))) b (of-byte fact_value all-value b l)

-- unreserved bytes are letters of a scheme
abbrev fact_word : ℕ → Bool
fact_word b = implies (is_unreserved b) (is_word (url_class_of b))

all-word : all_below 256 fact_word ≡ true
unfolding url_class_of
all-word = refl

pub unreserved-word : (b : ℕ) → nat_lt b 256 ≡ true → is_unreserved b ≡ true → is_word (url_class_of b) ≡ true
unreserved-word b l h = modus (is_unreserved b) (is_word (url_class_of b)) (of-byte fact_word all-word b l) h

-- one byte of each of these classes
abbrev fact_percent : ℕ → Bool
fact_percent b = implies (is_percent (url_class_of b)) (b == 37)

all-percent : all_below 256 fact_percent ≡ true
unfolding url_class_of
all-percent = refl

pub percent-is : (b : ℕ) → nat_lt b 256 ≡ true → url_class_of b ≡ class.Percent → b ≡ 37
percent-is b l e = eqb-true b 37 (modus (is_percent (url_class_of b)) (b == 37) (of-byte fact_percent all-percent b l) (ap is_percent e))

abbrev fact_colon : ℕ → Bool
fact_colon b = implies (is_colon (url_class_of b)) (b == 58)

all-colon : all_below 256 fact_colon ≡ true
unfolding url_class_of
all-colon = refl

pub colon-is : (b : ℕ) → nat_lt b 256 ≡ true → url_class_of b ≡ class.Colon → (b == 58) ≡ true
colon-is b l e = modus (is_colon (url_class_of b)) (b == 58) (of-byte fact_colon all-colon b l) (ap is_colon e)

abbrev fact_slash : ℕ → Bool
fact_slash b = implies (b == 47) (is_slash (url_class_of b))

all-slash : all_below 256 fact_slash ≡ true
unfolding url_class_of
all-slash = refl

pub slash-class : (b : ℕ) → nat_lt b 256 ≡ true → (b == 47) ≡ true → url_class_of b ≡ class.Slash
slash-class b l e = slash-is (url_class_of b) (modus (b == 47) (is_slash (url_class_of b)) (of-byte fact_slash all-slash b l) e)

-- letters, from what they are in lower case
abbrev pub is_lower : ℕ → Bool
is_lower x = nat_le 97 x && nat_le x 122

abbrev fact_lower : ℕ → Bool
fact_lower b = implies (is_lower (to_ascii_lowercase b)) (is_unreserved b)

all-lower : all_below 256 fact_lower ≡ true
all-lower = refl

pub lower-unreserved : (b : ℕ) → nat_lt b 256 ≡ true → is_lower (to_ascii_lowercase b) ≡ true → is_unreserved b ≡ true
lower-unreserved b l h = modus (is_lower (to_ascii_lowercase b)) (is_unreserved b) (of-byte fact_lower all-lower b l) h

-- the two digits of a triple
abbrev is_good : ℕ → Bool
is_good d = is_hexadecimal (url_class_of d) && (is_unreserved d && is_ascii_hexdigit d)

abbrev fact_triple : ℕ → Bool
fact_triple b = is_good (hexadecimal_digit (b / 16)) && is_good (hexadecimal_digit (b % 16))

all-triple : all_below 256 fact_triple ≡ true
unfolding url_class_of
all-triple = refl

pub record IsDigit (d : ℕ) : Type 0 where
  pub of_class : url_class_of d ≡ class.Hexadecimal
  pub unreserved : is_unreserved d ≡ true
  pub digit : is_ascii_hexdigit d ≡ true

good-digit : (d : ℕ) → is_good d ≡ true → IsDigit d
good-digit d h =
    let p = and_parts (is_hexadecimal (url_class_of d)) (is_unreserved d && is_ascii_hexdigit d) h in
    let q = and_parts (is_unreserved d) (is_ascii_hexdigit d) p.1 in
    record { of_class = hexadecimal-is (url_class_of d) p.0; unreserved = q.0; digit = q.1 }

triple-parts : (b : ℕ) → nat_lt b 256 ≡ true → (is_good (hexadecimal_digit (b / 16)) ≡ true) × (is_good (hexadecimal_digit (b % 16)) ≡ true)
triple-parts b l = and_parts (is_good (hexadecimal_digit (b / 16))) (is_good (hexadecimal_digit (b % 16))) (of-byte fact_triple all-triple b l)

pub first-digit : (b : ℕ) → nat_lt b 256 ≡ true → IsDigit (hexadecimal_digit (b / 16))
first-digit b l = good-digit (hexadecimal_digit (b / 16)) (triple-parts b l).0

pub second-digit : (b : ℕ) → nat_lt b 256 ≡ true → IsDigit (hexadecimal_digit (b % 16))
second-digit b l = good-digit (hexadecimal_digit (b % 16)) (triple-parts b l).1

pub percent-class : url_class_of 37 ≡ class.Percent
unfolding url_class_of
percent-class = refl

pub colon-class : url_class_of 58 ≡ class.Colon
unfolding url_class_of
colon-class = refl
