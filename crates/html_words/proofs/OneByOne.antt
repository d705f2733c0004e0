-- Undoing references byte by byte and by looking ahead give the same characters.
use Rattle.std.proofs.Common.{◌&&◌, ◌++◌, true, ◌≡◌, ℕ, zero, suc, ◌+◌, ◌-◌, ◌≤◌, ◌==◌, Bool, false, List, [], ◌∷◌, length, drop, map, nat_lt, Option, Some, None, refl, sym, ap, ◌∙◌, subst, arith}
use Rattle.std.proofs.lemmas.Bool.{and_parts, ltb-true, ltb-false, leb-true, eqb-true, cond-true, cond-false}
use Rattle.std.proofs.lemmas.Bool.Decides.{nat_tests}
use Rattle.std.proofs.lemmas.List.{length-drop}
use Rattle.std.specs.Option.{unwrap_or}
use Rattle.place_core.specs.page.Characters.{is_broken_off, character_at, characters_within}
use Rattle.place_core.specs.page.Classes.{class_of}
use Rattle.place_core.specs.page.References.{Reference, Open, undone_byte, next_reference, Closed, undone, replacement}
use Rattle.place_core.specs.page.Utf8.{Before, partial_begun, is_lead, decoded, utf8_followed, first_character}
use Rattle.html_words.proofs.Bytes.{plain, undone_at}
use Rattle.html_words.proofs.Codes.{HasCode, has_if, is_itself, reference_code}
use Rattle.html_words.proofs.Decoding.{Follows, IsMiddle, follows, lone}
use Rattle.html_words.proofs.Encodings.{encoded, leads, one_byte}
use Rattle.html_words.proofs.Lengths.{Fits, IsWithin, character_within, followed_fits}
use Rattle.html_words.proofs.Machine.{either, undone_ampersand, ampersand_at}
use Rattle.html_words.specs.Laws.{UndoneIsOneByOne, CutIsOneByOne, undone_cut}

-- what is decoded is this character, and then what stands after it
abbrev Tells : Bool → Bool → ℕ → List ℕ → ℕ × ℕ → Type 0
Tells cut attribute b bs found = decoded Before (undone_at cut attribute Closed (b ∷ bs)) ≡ found.0 ∷ decoded Before (undone_at cut attribute Closed (drop found.1 (b ∷ bs)))

pub drop_some : (n b : ℕ) (bs : List ℕ) → 1 ≤ n → drop n (b ∷ bs) ≡ drop (n - 1) bs
drop_some n b bs h = let same : n ≡ suc (n - 1) = omega arith in ap (λ (k : ℕ). drop k (b ∷ bs)) same

ampersand_code : (cut attribute : Bool) (bs : List ℕ) → HasCode (ampersand_at cut attribute bs)
ampersand_code cut attribute bs = has_if (cut && is_broken_off bs) _ _ (λ t. is_itself) (λ f. reference_code attribute bs)

ampersand_within : (cut attribute : Bool) (bs : List ℕ) → IsWithin (suc (length bs)) (ampersand_at cut attribute bs)
ampersand_within cut attribute bs = character_within attribute cut 38 bs

ampersand_tells : (cut attribute : Bool) (bs : List ℕ) → Tells cut attribute 38 bs (ampersand_at cut attribute bs)
ampersand_tells cut attribute bs =
    let found = ampersand_at cut attribute bs in
    rw (drop_some found.1 38 bs (ampersand_within cut attribute bs).some)
    (ap (decoded Before) (undone_ampersand cut attribute bs) ∙ encoded found.0 (undone_at cut attribute Closed (drop (found.1 - 1) bs)) (ampersand_code cut attribute bs).code)

begun_in_middle : (b : ℕ) → IsMiddle (partial_begun b)
begun_in_middle b = record { least = grind (arith, nat_tests); most = grind (arith, nat_tests) }

lead_tells : (cut attribute : Bool) (b : ℕ) (bs : List ℕ) (found : Option (ℕ × ℕ)) → (b == 38) ≡ false → 194 ≤ b → b ≤ 244 → Fits 1 (length bs) found → Follows cut attribute (partial_begun b) bs found → Tells cut attribute b bs (unwrap_or found (replacement, 1))
lead_tells cut attribute b bs None other least most fits f = rw (plain cut attribute b bs other) (leads b (undone_at cut attribute Closed bs) least most ∙ f)
lead_tells cut attribute b bs (Some found) other least most fits f =
    rw (drop_some found.1 b bs (omega (arith, fits.0)), plain cut attribute b bs other) (leads b (undone_at cut attribute Closed bs) least most ∙ f)

first_tells : (cut attribute : Bool) (b : ℕ) (bs : List ℕ) → (b == 38) ≡ false → Tells cut attribute b bs (first_character b bs)
first_tells cut attribute b bs other = either (nat_lt b 128)
    (λ t. subst (Tells cut attribute b bs) (sym (cond-true (nat_lt b 128) _ _ t)) (rw (plain cut attribute b bs other) (one_byte b (undone_at cut attribute Closed bs) (ltb-true b 128 t))))
    (λ f. either (is_lead b)
    (λ t.
    let range = and_parts _ _ t in
    subst (Tells cut attribute b bs) (sym (cond-false (nat_lt b 128) _ _ f ∙ cond-true (is_lead b) _ _ t))
    (lead_tells cut attribute b bs (utf8_followed (partial_begun b) bs) other (leb-true 194 b range.0) (leb-true b 244 range.1) (followed_fits (partial_begun b) bs) (follows cut attribute (partial_begun b) bs (begun_in_middle b))))
    (λ g. subst (Tells cut attribute b bs) (sym (cond-false (nat_lt b 128) _ _ f ∙ cond-false (is_lead b) _ _ g))
    (rw (plain cut attribute b bs other) (lone b (undone_at cut attribute Closed bs) (ltb-false b 128 f) g))))

character_tells : (cut attribute : Bool) (b : ℕ) (bs : List ℕ) → Tells cut attribute b bs (character_at attribute cut b bs)
character_tells cut attribute b bs = either (b == 38)
    (λ t. subst (Tells cut attribute b bs) (sym (cond-true (b == 38) _ _ t)) (let same : b ≡ 38 = eqb-true b 38 t in rw same (ampersand_tells cut attribute bs)))
    (λ f. subst (Tells cut attribute b bs) (sym (cond-false (b == 38) _ _ f)) (first_tells cut attribute b bs f))

within_tells : (most : ℕ) (cut attribute : Bool) (at : ℕ) (bytes : List ℕ) → length bytes ≤ most → decoded Before (undone_at cut attribute Closed bytes) ≡ map (λ (c : ℕ × ℕ). c.0) (characters_within most attribute cut at bytes)
within_tells zero cut attribute at [] h = refl
within_tells zero cut attribute at (b ∷ bs) h = absurd (omega (arith, h))
within_tells (suc most) cut attribute at [] h = refl
within_tells (suc most) cut attribute at (b ∷ bs) h =
    let found = character_at attribute cut b bs in
    let within : IsWithin (suc (length bs)) found = character_within attribute cut b bs in
    let left : length (drop found.1 (b ∷ bs)) ≡ suc (length bs) - found.1 = length-drop found.1 (b ∷ bs) in
    character_tells cut attribute b bs ∙ ap (λ (cs : List ℕ). found.0 ∷ cs) (within_tells most cut attribute (at + found.1) (drop found.1 (b ∷ bs)) (omega (arith, within.some, left)))

-- where the end is no cut, and where it is

pub not_cut : (attribute : Bool) (r : Reference) (bytes : List ℕ) → undone_at false attribute r bytes ≡ undone attribute r bytes
not_cut attribute Closed [] = refl
not_cut attribute (Open f held) [] = refl
not_cut attribute r (b ∷ bs) = ap (λ (xs : List ℕ). undone_byte attribute r (class_of b) b ++ xs) (not_cut attribute (next_reference r (class_of b) b) bs)

cut_off : (attribute : Bool) (r : Reference) (bytes : List ℕ) → undone_at true attribute r bytes ≡ undone_cut attribute r bytes
cut_off attribute Closed [] = refl
cut_off attribute (Open f held) [] = refl
cut_off attribute r (b ∷ bs) = ap (λ (xs : List ℕ). undone_byte attribute r (class_of b) b ++ xs) (cut_off attribute (next_reference r (class_of b) b) bs)

pub one_by_one : UndoneIsOneByOne
one_by_one attribute bytes = ap (decoded Before) (sym (not_cut attribute Closed bytes)) ∙ within_tells (length bytes) false attribute 0 bytes (omega arith)

pub one_by_one_cut : CutIsOneByOne
one_by_one_cut attribute bytes = ap (decoded Before) (sym (cut_off attribute Closed bytes)) ∙ within_tells (length bytes) true attribute 0 bytes (omega arith)
