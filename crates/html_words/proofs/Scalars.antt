-- What a reference stands for is a character.
use Rattle.std.proofs.Common.{◌≡◌, sym, ℕ, ◌<◌, ◌≤◌, ◌&&◌, Bool, true, false, cond, List, [], ◌∷◌, Option, Some, None, bytes_eq, nat_lt, refl, inl, inr, arith}
use Rattle.std.specs.Prelude.{⊤}
use Rattle.std.proofs.lemmas.Bool.{lt-ltb, le-leb, le-ltb, ltb-true, and_parts}
use Rattle.std.specs.Char.{IsScalar}
use Rattle.place_core.specs.page.References.{ReferenceRow, names, short_names, named_in, numbered_reference, number_in_reference}
use Rattle.html_words.specs.ShortNames.{short_in}
use Rattle.html_words.proofs.Codes.{low, are_low, named_code, numbered_code}
use Rattle.html_words.proofs.Encodings.{IsCode}

pub is_scalar : (c : ℕ) → IsCode c → IsScalar c
is_scalar c k = elim k.whole [
  | inl h ↦ rw (lt-ltb c 55296 h) refl
  | inr h ↦ rw (le-ltb c 55296 (omega (arith, h)), le-leb 57344 c h, lt-ltb c 1114112 k.low) refl
]

pub named_scalar : (name : List ℕ) → IsScalar (named_in names name)
named_scalar name = is_scalar (named_in names name) (named_code names name refl)

pub numbered_scalar : (base : ℕ) (digits : List ℕ) → IsScalar (numbered_reference (number_in_reference base 0 digits))
numbered_scalar base digits = is_scalar _ (numbered_code (number_in_reference base 0 digits))

-- of a short name
abbrev IsFoundCode : Option ℕ → Type 0
IsFoundCode None = ⊤
IsFoundCode (Some c) = IsCode c

found_if : (b : Bool) (c : ℕ) (o : Option ℕ) → IsCode c → IsFoundCode o → IsFoundCode (cond b (Some c) o)
found_if true c o k h = k
found_if false c o k h = h

short_found : (rows : List (ReferenceRow (List ℕ))) (name : List ℕ) → are_low rows ≡ true → IsFoundCode (short_in rows name)
short_found [] name e = tt
short_found (r ∷ rows) name e =
    let h = and_parts (nat_lt r.code 55296) (are_low rows) e in
    found_if (bytes_eq r.key name) r.code (short_in rows name) (low r.code (ltb-true r.code 55296 h.0)) (short_found rows name h.1)

found_scalar : (o : Option ℕ) (c : ℕ) → o ≡ Some c → IsFoundCode o → IsScalar c
found_scalar None c e h = cc
found_scalar (Some d) c e h = (let same : d ≡ c = cc in rw (← same) (is_scalar d h))

pub short_scalar : (name : List ℕ) (c : ℕ) → Some c ≡ short_in short_names name → IsScalar c
short_scalar name c e = found_scalar (short_in short_names name) c (sym e) (short_found short_names name refl)
