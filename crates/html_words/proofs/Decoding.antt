-- A character is decoded byte by byte as it is found by looking ahead, also where references are undone after it.
use Rattle.std.proofs.Common.{◌≡◌, ℕ, zero, suc, ◌+◌, ◌-◌, ◌<◌, ◌≤◌, ◌==◌, Bool, true, false, List, [], ◌∷◌, ◌++◌, length, drop, Option, Some, None, encode_utf8, refl, sym, ap, ◌∙◌, subst, arith, inl, inr}
use Rattle.std.proofs.lemmas.Bool.{and_left, and_right, and_parts, cases_lt, lt-leb, leb-true, le-ltb, lt-ltb, eqb-true, eqb-false, cond-true, cond-false}
use Rattle.std.proofs.lemmas.Bool.Decides.{nat_tests}
use Rattle.place_core.specs.page.References.{Closed, replacement}
use Rattle.place_core.specs.page.Utf8.{Partial, Before, Within, gone_on, utf8_goes_on, is_lead, more_bits, replacements, decoded, decoded_before, next_before, utf8_followed}
use Rattle.html_words.proofs.Bytes.{plain, undone_at}
use Rattle.html_words.proofs.Encodings.{goes, ends}
use Rattle.html_words.proofs.Lengths.{followed_fits, Fits}
use Rattle.html_words.proofs.Machine.{either, undone_ampersand, ampersand_at}

replacements-append : (n : ℕ) (xs ys : List ℕ) → replacements n xs ++ ys ≡ replacements n (xs ++ ys)
replacements-append zero xs ys = refl
replacements-append (suc n) xs ys = ap (λ (cs : List ℕ). replacement ∷ cs) (replacements-append n xs ys)

one_more_replacement : (n : ℕ) (cs : List ℕ) → replacements n (replacement ∷ cs) ≡ replacement ∷ replacements n cs
one_more_replacement zero cs = refl
one_more_replacement (suc n) cs = ap (λ (cs : List ℕ). replacement ∷ cs) (one_more_replacement n cs)

-- a byte with which no character begins
pub lone : (b : ℕ) (ys : List ℕ) → 128 ≤ b → is_lead b ≡ false → decoded Before (b ∷ ys) ≡ replacement ∷ decoded Before ys
lone b ys h e = rw (le-ltb b 128 h, e) refl

-- bytes that do not go on with a character
abbrev Stops : Partial → List ℕ → Type 0
Stops p [] = Unit {0}
Stops p (x ∷ xs) = utf8_goes_on p x ≡ false

stopped : (p : Partial) (xs : List ℕ) → Stops p xs → decoded (Within p) xs ≡ replacements p.seen (decoded Before xs)
stopped p [] h = refl
stopped p (x ∷ xs) h = rw h (replacements-append p.seen (decoded_before x) (decoded (next_before x) xs))

-- no character goes on with the first byte of another
pub record IsMiddle (p : Partial) : Type 0 where
  pub least : 128 ≤ p.lower
  pub most : p.upper ≤ 191

below_middle : (p : Partial) (x : ℕ) → IsMiddle p → x < 128 → utf8_goes_on p x ≡ false
below_middle p x h k = and_left _ _ (lt-leb p.lower x (omega (arith, h.least)))

above_middle : (p : Partial) (x : ℕ) → IsMiddle p → 192 ≤ x → utf8_goes_on p x ≡ false
above_middle p x h k = and_right _ _ (lt-leb x p.upper (omega (arith, h.most)))

encoded_stops : (p : Partial) (c : ℕ) (ys : List ℕ) → IsMiddle p → Stops p (encode_utf8 c ++ ys)
unfolding lib.Utf8.encode
encoded_stops p c ys h = elim (cases_lt c 128) [
  | inl small ↦ rw (lt-ltb c 128 small) (below_middle p c h small)
  | inr one ↦ elim (cases_lt c 2048) [
    | inl two ↦ rw (le-ltb c 128 one, lt-ltb c 2048 two) (above_middle p _ h (omega arith))
    | inr k ↦ elim (cases_lt c 65536) [
      | inl three ↦ rw (le-ltb c 128 one, le-ltb c 2048 k, lt-ltb c 65536 three) (above_middle p _ h (omega arith))
      | inr l ↦ rw (le-ltb c 128 one, le-ltb c 2048 k, le-ltb c 65536 l) (above_middle p _ h (omega arith))
    ]
  ]
]

-- What is decoded within a character, from bytes with references undone, is the character that follows, and then what stands after it; or where
-- none follows, U+FFFD for each byte that was read, and then the bytes from there on.
abbrev pub Follows : Bool → Bool → Partial → List ℕ → Option (ℕ × ℕ) → Type 0
Follows cut attribute p bs None = decoded (Within p) (undone_at cut attribute Closed bs) ≡ replacements p.seen (decoded Before (undone_at cut attribute Closed bs))
Follows cut attribute p bs (Some found) = decoded (Within p) (undone_at cut attribute Closed bs) ≡ found.0 ∷ decoded Before (undone_at cut attribute Closed (drop (found.1 - p.seen) bs))

in_middle : (p : Partial) (b : ℕ) → IsMiddle p → utf8_goes_on p b ≡ true → (128 ≤ b) × (b ≤ 191) × (p.lower ≤ b) × (b ≤ p.upper)
in_middle p b h e =
    let parts = and_parts _ _ e in
    let l : p.lower ≤ b = leb-true p.lower b parts.0 in
    let u : b ≤ p.upper = leb-true b p.upper parts.1 in
    (omega (arith, h.least), omega (arith, h.most), l, u)

middle_is_plain : (b : ℕ) → 128 ≤ b → (b == 38) ≡ false
middle_is_plain b h = grind (arith, nat_tests)

middle_is_no_lead : (b : ℕ) → b ≤ 191 → is_lead b ≡ false
middle_is_no_lead b h = grind (arith, nat_tests)

-- the last byte of a character
last_follows : (cut attribute : Bool) (p : Partial) (b : ℕ) (bs : List ℕ) → IsMiddle p → utf8_goes_on p b ≡ true → p.needed ≡ 1 → Follows cut attribute p (b ∷ bs) (Some (more_bits p b, p.seen + 1))
last_follows cut attribute p b bs h e last =
    let within = in_middle p b h e in
    let one : p.seen + 1 - p.seen ≡ 1 = omega arith in
    rw (one, plain cut attribute b bs (middle_is_plain b within.0)) (ends p b (undone_at cut attribute Closed bs) within.2 within.3 last)

-- one that is not the last
next_follows : (cut attribute : Bool) (p : Partial) (b : ℕ) (bs : List ℕ) (found : Option (ℕ × ℕ)) → IsMiddle p → utf8_goes_on p b ≡ true → (p.needed ≡ 1 → ⊥) → Fits (p.seen + 1) (length bs) found → Follows cut attribute (gone_on p b) bs found → Follows cut attribute p (b ∷ bs) found
next_follows cut attribute p b bs None h e more fits f =
    let within = in_middle p b h e in
    let suc_seen : p.seen + 1 ≡ suc p.seen = omega arith in
    rw (plain cut attribute b bs (middle_is_plain b within.0))
    (goes p b (undone_at cut attribute Closed bs) within.2 within.3 more
    ∙ f
    ∙ rw suc_seen (sym (one_more_replacement p.seen (decoded Before (undone_at cut attribute Closed bs))))
    ∙ ap (replacements p.seen) (sym (lone b (undone_at cut attribute Closed bs) within.0 (middle_is_no_lead b within.1))))
next_follows cut attribute p b bs (Some found) h e more fits f =
    let within = in_middle p b h e in
    let len : found.1 - p.seen ≡ suc (found.1 - (p.seen + 1)) = omega (arith, fits.0) in
    rw (len, plain cut attribute b bs (middle_is_plain b within.0)) (goes p b (undone_at cut attribute Closed bs) within.2 within.3 more ∙ f)

other_stops : (cut attribute : Bool) (p : Partial) (b : ℕ) (bs : List ℕ) → IsMiddle p → utf8_goes_on p b ≡ false → Stops p (undone_at cut attribute Closed (b ∷ bs))
other_stops cut attribute p b bs h e = either (b == 38)
    (λ t. let same : b ≡ 38 = eqb-true b 38 t in
    rw (same, undone_ampersand cut attribute bs) (encoded_stops p (ampersand_at cut attribute bs).0 (undone_at cut attribute Closed (drop ((ampersand_at cut attribute bs).1 - 1) bs)) h))
    (λ f. rw (plain cut attribute b bs f) e)

pub follows : (cut attribute : Bool) (p : Partial) (bs : List ℕ) → IsMiddle p → Follows cut attribute p bs (utf8_followed p bs)
follows cut attribute p [] h = refl
follows cut attribute p (b ∷ bs) h = either (utf8_goes_on p b)
    (λ t. either (p.needed == 1)
    (λ l. subst (Follows cut attribute p (b ∷ bs)) (sym (cond-true (utf8_goes_on p b) _ _ t ∙ cond-true (p.needed == 1) _ _ l)) (last_follows cut attribute p b bs h t (eqb-true p.needed 1 l)))
    (λ m. subst (Follows cut attribute p (b ∷ bs)) (sym (cond-true (utf8_goes_on p b) _ _ t ∙ cond-false (p.needed == 1) _ _ m))
    (next_follows cut attribute p b bs (utf8_followed (gone_on p b) bs) h t (eqb-false p.needed 1 m) (followed_fits (gone_on p b) bs)
    (follows cut attribute (gone_on p b) bs (record { least = omega arith; most = omega arith })))))
    (λ f. subst (Follows cut attribute p (b ∷ bs)) (sym (cond-false (utf8_goes_on p b) _ _ f)) (stopped p (undone_at cut attribute Closed (b ∷ bs)) (other_stops cut attribute p b bs h f)))
