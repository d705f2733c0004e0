-- What a reference stands for is a character.
use Rattle.std.proofs.Common.{◌≡◌, ℕ, ◌<◌, ◌==◌, ◌||◌, ◌&&◌, Bool, true, false, cond, List, [], ◌∷◌, nat_eq, nat_lt, nat_le, bytes_eq, refl, arith, inl, inr}
use Rattle.std.proofs.lemmas.Bool.{and_parts, or_parts, and_cases, ltb-true, leb-false}
use Rattle.std.specs.Char.{is_ascii_alphanumeric, is_ascii_digit, is_ascii_hexdigit}
use Rattle.std.specs.List.{list_all, starts_with}
use Rattle.place_core.specs.page.Characters.{itself, begins_at, whole_at, short_at, reference_name_at, number_from, hashed_at, reference_at, letter_run, after_run}
use Rattle.place_core.specs.page.References.{ReferenceRow, names, short_names, numbers, named_in, number_at, numbered_reference, number_in_reference, replacement}
use Rattle.html_words.proofs.Encodings.{IsCode}

pub low : (c : ℕ) → c < 55296 → IsCode c
low c h = record { low = omega arith; whole = inl h }

replaced : IsCode replacement
replaced = record { low = omega arith; whole = inr (omega arith) }

code_if : (b : Bool) (x y : ℕ) → (b ≡ true → IsCode x) → (b ≡ false → IsCode y) → IsCode (cond b x y)
code_if true x y f g = f refl
code_if false x y f g = g refl

-- the characters of a table are below the surrogates
abbrev pub are_low : {A : Type 0} → List (ReferenceRow A) → Bool
are_low rows = list_all (λ r. nat_lt r.code 55296) rows

pub named_code : (rows : List (ReferenceRow (List ℕ))) (name : List ℕ) → are_low rows ≡ true → IsCode (named_in rows name)
named_code [] name e = replaced
named_code (r ∷ rows) name e =
    let h = and_parts (nat_lt r.code 55296) (are_low rows) e in
    code_if (bytes_eq r.key name) _ _ (λ t. low r.code (ltb-true r.code 55296 h.0)) (λ f. named_code rows name h.1)

number_code : (rows : List (ReferenceRow ℕ)) (n : ℕ) → are_low rows ≡ true → IsCode n → IsCode (number_at rows n)
number_code [] n e k = k
number_code (r ∷ rows) n e k =
    let h = and_parts (nat_lt r.code 55296) (are_low rows) e in
    code_if (r.key == n) _ _ (λ t. low r.code (ltb-true r.code 55296 h.0)) (λ f. number_code rows n h.1 k)

good_number : (n : ℕ) → (n == 0 || (nat_le 1114112 n || (nat_le 55296 n && nat_le n 57343))) ≡ false → IsCode n
good_number n e =
    let rest = (or_parts (n == 0) _ e).1 in
    let parts = or_parts (nat_le 1114112 n) _ rest in
    let below : n < 1114112 = leb-false 1114112 n parts.0 in
    elim (and_cases (nat_le 55296 n) (nat_le n 57343) parts.1) [
      | inl f ↦ record { low = below; whole = inl (leb-false 55296 n f) }
      | inr f ↦ record { low = below; whole = inr (omega (arith, leb-false n 57343 f)) }
    ]

pub numbered_code : (n : ℕ) → IsCode (numbered_reference n)
numbered_code n = code_if (n == 0 || (nat_le 1114112 n || (nat_le 55296 n && nat_le n 57343))) _ _ (λ t. replaced) (λ f. number_code numbers n refl (good_number n f))

-- the character of what was found
pub record HasCode (found : ℕ × ℕ) : Type 0 where
  pub code : IsCode found.0

pub has_if : (b : Bool) (x y : ℕ × ℕ) → (b ≡ true → HasCode x) → (b ≡ false → HasCode y) → HasCode (cond b x y)
has_if true x y f g = f refl
has_if false x y f g = g refl

pub is_itself : HasCode itself
is_itself = record { code = low 38 (omega arith) }

begins_code : (rows : List (ReferenceRow (List ℕ))) (name : List ℕ) → are_low rows ≡ true → HasCode (begins_at rows name)
begins_code [] name e = is_itself
begins_code (r ∷ rows) name e =
    let h = and_parts (nat_lt r.code 55296) (are_low rows) e in
    has_if (starts_with nat_eq name r.key) _ _ (λ t. record { code = low r.code (ltb-true r.code 55296 h.0) }) (λ f. begins_code rows name h.1)

whole_code : (rows : List (ReferenceRow (List ℕ))) (name : List ℕ) → are_low rows ≡ true → HasCode (whole_at rows name)
whole_code [] name e = is_itself
whole_code (r ∷ rows) name e =
    let h = and_parts (nat_lt r.code 55296) (are_low rows) e in
    has_if (bytes_eq r.key name) _ _ (λ t. record { code = low r.code (ltb-true r.code 55296 h.0) }) (λ f. whole_code rows name h.1)

short_code : (attribute equals : Bool) (name : List ℕ) → HasCode (short_at attribute equals name)
short_code true true name = is_itself
short_code true false name = whole_code short_names name refl
short_code false equals name = begins_code short_names name refl

name_code : (attribute : Bool) (name rest : List ℕ) → HasCode (reference_name_at attribute name rest)
name_code attribute name [] = short_code attribute false name
name_code attribute name (b ∷ rest) = has_if (b == 59) _ _ (λ t. record { code = named_code names name refl }) (λ f. short_code attribute (b == 61) name)

from_code : (base front : ℕ) (digits rest : List ℕ) → HasCode (number_from base front digits rest)
from_code base front [] rest = is_itself
from_code base front (d ∷ ds) rest = record { code = numbered_code (number_in_reference base 0 (d ∷ ds)) }

hashed_code : (bs : List ℕ) → HasCode (hashed_at bs)
hashed_code [] = is_itself
hashed_code (b ∷ bs) = has_if (b == 88 || b == 120) _ _ (λ t. from_code 16 3 (letter_run is_ascii_hexdigit bs) (after_run is_ascii_hexdigit bs)) (λ f. from_code 10 2 (letter_run is_ascii_digit (b ∷ bs)) (after_run is_ascii_digit (b ∷ bs)))

pub reference_code : (attribute : Bool) (bs : List ℕ) → HasCode (reference_at attribute bs)
reference_code attribute [] = is_itself
reference_code attribute (b ∷ bs) = has_if (b == 35) _ _ (λ t. hashed_code bs)
    (λ f. has_if (is_ascii_alphanumeric b) _ _ (λ t. name_code attribute (letter_run is_ascii_alphanumeric (b ∷ bs)) (after_run is_ascii_alphanumeric (b ∷ bs))) (λ g. is_itself))
