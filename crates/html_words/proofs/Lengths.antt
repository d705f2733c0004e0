-- How many bytes the first character takes, and that more room than bytes changes no characters.
use Rattle.std.proofs.Common.{◌≡◌, ℕ, zero, suc, ◌+◌, ◌-◌, ◌≤◌, ◌==◌, Bool, true, false, cond, ◌&&◌, List, [], ◌∷◌, length, take, drop, Option, Some, None, refl, ap, arith, bytes_eq, nat_eq, nat_lt, ◌||◌}
use Rattle.std.proofs.lemmas.List.{length-take, length-drop}
use Rattle.std.proofs.lemmas.List.Sums.{prefix_len-le-length}
use Rattle.std.proofs.lemmas.Slice.Eq.{bytes_eq-Decides}
use Rattle.std.specs.Char.{is_ascii_alphanumeric, is_ascii_digit, is_ascii_hexdigit}
use Rattle.std.specs.List.{starts_with, prefix_len}
use Rattle.std.specs.Option.{unwrap_or}
use Rattle.place_core.specs.page.Characters.{begins_at, whole_at, short_at, reference_name_at, semicolon_len, number_from, hashed_at, reference_at, character_at, char_at, characters_within, characters_at, letter_run, after_run, is_broken_off}
use Rattle.place_core.specs.page.References.{ReferenceRow, short_names, replacement}
use Rattle.place_core.specs.page.Utf8.{Partial, utf8_followed, first_character, partial_begun, utf8_goes_on, gone_on, is_lead}

-- of that many bytes, some and not too many
pub record IsWithin (n : ℕ) (found : ℕ × ℕ) : Type 0 where
  pub some : 1 ≤ found.1
  pub most : found.1 ≤ n

one_of : (n c : ℕ) → IsWithin (suc n) (c, 1)
one_of n c = record { some = omega arith; most = omega arith }

either_within : {n : ℕ} (b : Bool) (x y : ℕ × ℕ) → (b ≡ true → IsWithin n x) → (b ≡ false → IsWithin n y) → IsWithin n (cond b x y)
either_within true x y f g = f refl
either_within false x y f g = g refl

-- a short name at the beginning of a name is no longer than it
pub front_fits : (key name : List ℕ) → bytes_eq key (take (length key) name) ≡ true → length key ≤ length name
front_fits key name e = omega (arith, ap length ((bytes_eq-Decides key (take (length key) name)).0 e), length-take (length key) name)

begins_within : (rows : List (ReferenceRow (List ℕ))) (name : List ℕ) → IsWithin (suc (length name)) (begins_at rows name)
begins_within [] name = one_of (length name) _
begins_within (r ∷ rows) name = either_within (starts_with nat_eq name r.key) _ _
    (λ t. record { some = omega arith; most = omega (arith, front_fits r.key name t) })
    (λ f. begins_within rows name)

whole_within : (rows : List (ReferenceRow (List ℕ))) (name : List ℕ) → IsWithin (suc (length name)) (whole_at rows name)
whole_within [] name = one_of (length name) _
whole_within (r ∷ rows) name = either_within (bytes_eq r.key name) _ _ (λ t. record { some = omega arith; most = omega arith }) (λ f. whole_within rows name)

short_within : (attribute equals : Bool) (name : List ℕ) → IsWithin (suc (length name)) (short_at attribute equals name)
short_within true true name = one_of (length name) _
short_within true false name = whole_within short_names name
short_within false equals name = begins_within short_names name

wider : {m n : ℕ} {found : ℕ × ℕ} → IsWithin m found → m ≤ n → IsWithin n found
wider h le = record { some = h.some; most = omega (arith, h.most, le) }

name_within : (attribute : Bool) (name rest : List ℕ) → IsWithin (suc (length name + length rest)) (reference_name_at attribute name rest)
name_within attribute name [] = wider (short_within attribute false name) (omega arith)
name_within attribute name (b ∷ rest) = either_within (b == 59) _ _
    (λ t. record { some = omega arith; most = omega arith })
    (λ f. wider (short_within attribute (b == 61) name) (omega arith))

semicolon_within : (rest : List ℕ) → semicolon_len rest ≤ length rest
semicolon_within [] = omega arith
semicolon_within (b ∷ rest) = elim (b == 59) as (λ t. cond t 1 0 ≤ suc (length rest)) [ true ↦ omega arith | false ↦ omega arith ]

number_within : (base front : ℕ) (digits rest : List ℕ) → 1 ≤ front → IsWithin (front + (length digits + length rest)) (number_from base front digits rest)
number_within base front [] rest h = record { some = omega arith; most = omega arith }
number_within base front (d ∷ ds) rest h = record { some = omega arith; most = omega (arith, semicolon_within rest) }

run_rest : (p : ℕ → Bool) (bytes : List ℕ) → length (letter_run p bytes) + length (after_run p bytes) ≡ length bytes
run_rest p bytes = omega (arith, length-take (prefix_len p bytes) bytes, length-drop (prefix_len p bytes) bytes, prefix_len-le-length p bytes)

hashed_within : (bytes : List ℕ) → IsWithin (suc (suc (length bytes))) (hashed_at bytes)
hashed_within [] = record { some = omega arith; most = omega arith }
hashed_within (b ∷ bs) = either_within (b == 88 || b == 120) _ _
    (λ t. wider (number_within 16 3 (letter_run is_ascii_hexdigit bs) (after_run is_ascii_hexdigit bs) (omega arith)) (omega (arith, run_rest is_ascii_hexdigit bs)))
    (λ f. wider (number_within 10 2 (letter_run is_ascii_digit (b ∷ bs)) (after_run is_ascii_digit (b ∷ bs)) (omega arith)) (omega (arith, run_rest is_ascii_digit (b ∷ bs))))

pub reference_within : (attribute : Bool) (bytes : List ℕ) → IsWithin (suc (length bytes)) (reference_at attribute bytes)
reference_within attribute [] = one_of 0 _
reference_within attribute (b ∷ bs) = either_within (b == 35) _ _
    (λ t. hashed_within bs)
    (λ f. either_within (is_ascii_alphanumeric b) _ _
    (λ t. wider (name_within attribute (letter_run is_ascii_alphanumeric (b ∷ bs)) (after_run is_ascii_alphanumeric (b ∷ bs))) (omega (arith, run_rest is_ascii_alphanumeric (b ∷ bs))))
    (λ f. one_of (suc (length bs)) _))

-- a character that is followed, after that many bytes of it
abbrev pub Fits : ℕ → ℕ → Option (ℕ × ℕ) → Type 0
Fits seen n None = Unit {0}
Fits seen n (Some found) = (seen + 1 ≤ found.1) × (found.1 ≤ seen + n)

fits_if : (seen n : ℕ) (b : Bool) (x y : Option (ℕ × ℕ)) → Fits seen n x → Fits seen n y → Fits seen n (cond b x y)
fits_if seen n true x y f g = f
fits_if seen n false x y f g = g

fits_longer : (seen n : ℕ) (found : Option (ℕ × ℕ)) → Fits (seen + 1) n found → Fits seen (suc n) found
fits_longer seen n None h = tt
fits_longer seen n (Some found) h = (omega (arith, h.0), omega (arith, h.1))

pub followed_fits : (p : Partial) (bs : List ℕ) → Fits p.seen (length bs) (utf8_followed p bs)
followed_fits p [] = tt
followed_fits p (b ∷ bs) = fits_if p.seen (suc (length bs)) (utf8_goes_on p b) _ None
    (fits_if p.seen (suc (length bs)) (p.needed == 1) _ _ (omega arith, omega arith) (fits_longer p.seen (length bs) (utf8_followed (gone_on p b) bs) (followed_fits (gone_on p b) bs)))
    tt

unwrapped : (n : ℕ) (found : Option (ℕ × ℕ)) (otherwise : ℕ × ℕ) → Fits 1 n found → IsWithin (suc n) otherwise → IsWithin (suc n) (unwrap_or found otherwise)
unwrapped n None otherwise h k = k
unwrapped n (Some found) otherwise h k = record { some = omega (arith, h.0); most = omega (arith, h.1) }

first_within : (b : ℕ) (bs : List ℕ) → IsWithin (suc (length bs)) (first_character b bs)
first_within b bs = either_within (nat_lt b 128) _ _
    (λ t. one_of (length bs) _)
    (λ f. either_within (is_lead b) _ _
    (λ t. unwrapped (length bs) (utf8_followed (partial_begun b) bs) (replacement, 1) (followed_fits (partial_begun b) bs) (one_of (length bs) _))
    (λ f. one_of (length bs) _))

pub character_within : (attribute cut : Bool) (b : ℕ) (bs : List ℕ) → IsWithin (suc (length bs)) (character_at attribute cut b bs)
character_within attribute cut b bs = either_within (b == 38) _ _
    (λ t. either_within (cut && is_broken_off bs) _ _ (λ t. one_of (length bs) _) (λ f. reference_within attribute bs))
    (λ f. first_within b bs)

-- more room than bytes gives the same characters
pub same_within : (m n : ℕ) (attribute cut : Bool) (at : ℕ) (bytes : List ℕ) → length bytes ≤ m → length bytes ≤ n → characters_within m attribute cut at bytes ≡ characters_within n attribute cut at bytes
same_within zero zero attribute cut at bytes h k = refl
same_within zero (suc n) attribute cut at [] h k = refl
same_within zero (suc n) attribute cut at (b ∷ bs) h k = absurd (omega (arith, h))
same_within (suc m) zero attribute cut at [] h k = refl
same_within (suc m) zero attribute cut at (b ∷ bs) h k = absurd (omega (arith, k))
same_within (suc m) (suc n) attribute cut at [] h k = refl
same_within (suc m) (suc n) attribute cut at (b ∷ bs) h k =
    let first = character_at attribute cut b bs in
    let within : IsWithin (suc (length bs)) first = character_within attribute cut b bs in
    let left : length (drop first.1 (b ∷ bs)) ≡ suc (length bs) - first.1 = length-drop first.1 (b ∷ bs) in
    ap (λ (cs : List (ℕ × ℕ)). (first.0, at) ∷ cs) (same_within m n attribute cut (at + first.1) (drop first.1 (b ∷ bs)) (omega (arith, within.some, left)) (omega (arith, within.some, left)))

-- the first character, and those after it
pub next_character : (attribute cut : Bool) (at b : ℕ) (bs : List ℕ) → characters_at attribute cut at (b ∷ bs) ≡ ((character_at attribute cut b bs).0, at) ∷ characters_at attribute cut (at + (character_at attribute cut b bs).1) (drop (character_at attribute cut b bs).1 (b ∷ bs))
next_character attribute cut at b bs =
    let first = character_at attribute cut b bs in
    let within : IsWithin (suc (length bs)) first = character_within attribute cut b bs in
    let left : length (drop first.1 (b ∷ bs)) ≡ suc (length bs) - first.1 = length-drop first.1 (b ∷ bs) in
    ap (λ (cs : List (ℕ × ℕ)). (first.0, at) ∷ cs) (same_within (length bs) (length (drop first.1 (b ∷ bs))) attribute cut (at + first.1) (drop first.1 (b ∷ bs)) (omega (arith, within.some, left)) (omega arith))

pub first_of_rest : (attribute cut : Bool) (at : ℕ) (bytes rest : List ℕ) (code len : ℕ) → Some (code, len) ≡ char_at attribute cut bytes → rest ≡ drop len bytes → characters_at attribute cut at bytes ≡ (code, at) ∷ characters_at attribute cut (at + len) rest
first_of_rest attribute cut at [] rest code len e f = cc
first_of_rest attribute cut at (b ∷ bs) rest code len e f =
    let same : (code, len) ≡ character_at attribute cut b bs = cc in
    rw (f, ap (λ (p : ℕ × ℕ). p.0) same, ap (λ (p : ℕ × ℕ). p.1) same) (next_character attribute cut at b bs)
