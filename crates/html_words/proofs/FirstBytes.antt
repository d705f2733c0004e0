-- The first byte of a value with its references undone.
use Rattle.std.proofs.Common.{◌≡◌, ℕ, zero, suc, ◌-◌, ◌<◌, ◌≤◌, ◌==◌, nat_lt, true, false, cond, List, [], ◌∷◌, ◌++◌, length, drop, Some, None, encode_utf8, refl, sym, ap, ◌∙◌, subst, arith, inl, inr}
use Rattle.std.proofs.lemmas.Bool.{cases_lt, lt-ltb, le-ltb, eqb-true, ne_eqb, cond-true, cond-false}
use Rattle.std.proofs.lemmas.Bool.Decides.{nat_tests}
use Rattle.std.proofs.lemmas.Option.{some_pair_parts}
use Rattle.std.specs.Char.{is_ascii_whitespace}
use Rattle.place_core.specs.page.Characters.{reference_at}
use Rattle.place_core.specs.page.References.{Closed}
use Rattle.place_core.specs.page.Words.{trimmed_start}
use Rattle.html_words.proofs.Bytes.{plain}
use Rattle.html_words.proofs.Lengths.{character_within}
use Rattle.html_words.proofs.Machine.{either, behind_more, undone_ampersand}
use Rattle.html_words.proofs.OneByOne.{drop_some, not_cut}
use Rattle.html_words.specs.ScriptTypes.{undone_value, reference_or_byte, first_ascii, is_type_end, is_type_word}

undone_plain : (b : ℕ) (bs : List ℕ) → (b == 38) ≡ false → undone_value (b ∷ bs) ≡ b ∷ undone_value bs
undone_plain b bs other = sym (not_cut true Closed (b ∷ bs)) ∙ plain false true b bs other ∙ ap (λ (xs : List ℕ). b ∷ xs) (not_cut true Closed bs)

undone_reference : (bs : List ℕ) → undone_value (38 ∷ bs) ≡ encode_utf8 (reference_at true bs).0 ++ undone_value (drop (reference_at true bs).1 (38 ∷ bs))
undone_reference bs =
    let found = reference_at true bs in
    sym (not_cut true Closed (38 ∷ bs))
    ∙ undone_ampersand false true bs
    ∙ ap (λ (xs : List ℕ). encode_utf8 found.0 ++ xs) (not_cut true Closed (drop (found.1 - 1) bs) ∙ ap undone_value (sym (drop_some found.1 38 bs (character_within true false 38 bs).some)))

-- the first byte of a character's encoding
ascii_encoded : (c : ℕ) (ys : List ℕ) → c < 128 → first_ascii (encode_utf8 c ++ ys) ≡ Some (c, ys)
unfolding lib.Utf8.encode
ascii_encoded c ys h = rw (lt-ltb c 128 h) (cond-true (nat_lt c 128) _ _ (lt-ltb c 128 h))

not_ascii : (x : ℕ) (xs : List ℕ) → 128 ≤ x → first_ascii (x ∷ xs) ≡ None
not_ascii x xs h = rw (le-ltb x 128 h) refl

other_encoded : (c : ℕ) (ys : List ℕ) → 128 ≤ c → first_ascii (encode_utf8 c ++ ys) ≡ None
unfolding lib.Utf8.encode
other_encoded c ys one = elim (cases_lt c 2048) [
  | inl two ↦ rw (le-ltb c 128 one, lt-ltb c 2048 two) (not_ascii _ _ (omega arith))
  | inr k ↦ elim (cases_lt c 65536) [
    | inl three ↦ rw (le-ltb c 128 one, le-ltb c 2048 k, lt-ltb c 65536 three) (not_ascii _ _ (omega arith))
    | inr l ↦ rw (le-ltb c 128 one, le-ltb c 2048 k, le-ltb c 65536 l) (not_ascii _ _ (omega arith))
  ]
]

some_encoded : (c : ℕ) (ys : List ℕ) → 1 ≤ length (encode_utf8 c ++ ys)
unfolding lib.Utf8.encode
some_encoded c ys = elim (cases_lt c 128) [
  | inl one ↦ rw (lt-ltb c 128 one) (omega arith)
  | inr h ↦ elim (cases_lt c 2048) [
    | inl two ↦ rw (le-ltb c 128 h, lt-ltb c 2048 two) (omega arith)
    | inr k ↦ elim (cases_lt c 65536) [
      | inl three ↦ rw (le-ltb c 128 h, le-ltb c 2048 k, lt-ltb c 65536 three) (omega arith)
      | inr l ↦ rw (le-ltb c 128 h, le-ltb c 2048 k, le-ltb c 65536 l) (omega arith)
    ]
  ]
]

-- what the first byte of a value with references undone is, where this was found
record IsFirst (bytes : List ℕ) (found : ℕ × ℕ) : Type 0 where
  ascii : found.0 < 128 → first_ascii (undone_value bytes) ≡ Some (found.0, undone_value (drop found.1 bytes))
  some : 1 ≤ length (undone_value bytes)
  other : 128 ≤ found.0 → first_ascii (undone_value bytes) ≡ None

reference_first : (bs : List ℕ) → IsFirst (38 ∷ bs) (reference_at true bs)
reference_first bs = record {
  ascii = λ h. ap first_ascii (undone_reference bs) ∙ ascii_encoded (reference_at true bs).0 _ h;
  some = rw (undone_reference bs) (some_encoded (reference_at true bs).0 _);
  other = λ h. ap first_ascii (undone_reference bs) ∙ other_encoded (reference_at true bs).0 _ h;
}

plain_first : (b : ℕ) (bs : List ℕ) → (b == 38) ≡ false → IsFirst (b ∷ bs) (b, 1)
plain_first b bs e = record {
  ascii = λ h. ap first_ascii (undone_plain b bs e) ∙ cond-true (nat_lt b 128) _ _ (lt-ltb b 128 h);
  some = rw (undone_plain b bs e) (omega arith);
  other = λ h. ap first_ascii (undone_plain b bs e) ∙ not_ascii b _ h;
}

first_found : (b : ℕ) (bs : List ℕ) → IsFirst (b ∷ bs) (cond (b == 38) (reference_at true bs) (b, 1))
first_found b bs = either (b == 38)
    (λ t. subst (IsFirst (b ∷ bs)) (sym (cond-true (b == 38) _ _ t)) (let same : b ≡ 38 = eqb-true b 38 t in rw same (reference_first bs)))
    (λ f. subst (IsFirst (b ∷ bs)) (sym (cond-false (b == 38) _ _ f)) (plain_first b bs f))

found_first : (bytes : List ℕ) (code len : ℕ) → Some (code, len) ≡ reference_or_byte bytes → IsFirst bytes (code, len)
found_first [] code len e = cc
found_first (b ∷ bs) code len e =
    let same : (code, len) ≡ cond (b == 38) (reference_at true bs) (b, 1) = cc in
    subst (IsFirst (b ∷ bs)) (sym same) (first_found b bs)

pub ascii_found : (bytes rest : List ℕ) (code len : ℕ) → Some (code, len) ≡ reference_or_byte bytes → code < 128 → rest ≡ drop len bytes → Some (code, undone_value rest) ≡ first_ascii (undone_value bytes)
ascii_found bytes rest code len e h f = rw f (sym ((found_first bytes code len e).ascii h))

pub other_found : (bytes : List ℕ) (code len : ℕ) → Some (code, len) ≡ reference_or_byte bytes → 128 ≤ code → None ≡ first_ascii (undone_value bytes)
other_found bytes code len e h = sym ((found_first bytes code len e).other h)

-- What is known by the first byte.

high_is_no_semicolon : (x : ℕ) → nat_lt x 128 ≡ false → (x == 59) ≡ false
high_is_no_semicolon x e = grind (arith, nat_tests)

high_is_no_white : (x : ℕ) → nat_lt x 128 ≡ false → is_ascii_whitespace x ≡ false
high_is_no_white x e = grind (arith, nat_tests)

high_ends_none : (u : List ℕ) → 1 ≤ length u → None ≡ first_ascii u → is_type_end u ≡ false
high_ends_none [] some e = absurd (omega (arith, some))
high_ends_none (x ∷ xs) some e = either (nat_lt x 128)
    (λ t. let found : None ≡ Some (x, xs) = e ∙ cond-true (nat_lt x 128) _ _ t in cc)
    (λ f. rw (high_is_no_semicolon x f, high_is_no_white x f) refl)

-- where no byte of ASCII is first, a type ends only with the value
pub ends_with_value : (bytes : List ℕ) → None ≡ first_ascii (undone_value bytes) → is_type_end (undone_value bytes) ≡ (length bytes == 0)
ends_with_value [] e = refl
ends_with_value (b ∷ bs) e = high_ends_none (undone_value (b ∷ bs)) (first_found b bs).some e ∙ sym (ne_eqb (suc (length bs)) 0 (λ z. omega arith))

ascii_is : (u v : List ℕ) (b : ℕ) → Some (b, v) ≡ first_ascii u → (u ≡ b ∷ v) × (nat_lt b 128 ≡ true)
ascii_is [] v b e = cc
ascii_is (x ∷ xs) v b e = either (nat_lt x 128)
    (λ t.
    let parts = some_pair_parts b x v xs (e ∙ cond-true (nat_lt x 128) _ _ t) in
    rw (parts.0, parts.1) (refl, t))
    (λ f. let none : Some (b, v) ≡ None = e ∙ cond-false (nat_lt x 128) _ _ f in cc)

pub white_passed : (u v : List ℕ) (b : ℕ) → Some (b, v) ≡ first_ascii u → is_ascii_whitespace b ≡ true → trimmed_start v ≡ trimmed_start u
white_passed u v b e w = rw (ascii_is u v b e).0 (sym (behind_more is_ascii_whitespace b v w))

-- no word goes on where no byte of ASCII is first
no_word : (c : ℕ) (cs u : List ℕ) → None ≡ first_ascii u → is_type_word (c ∷ cs) u ≡ false
no_word c cs [] e = refl
no_word c cs (x ∷ xs) e = either (nat_lt x 128)
    (λ t. let found : None ≡ Some (x, xs) = e ∙ cond-true (nat_lt x 128) _ _ t in cc)
    (λ f. rw f refl)

pub no_word_from : (n : ℕ) (word u : List ℕ) → n < length word → None ≡ first_ascii u → is_type_word (drop n word) u ≡ false
no_word_from zero [] u h e = absurd (omega (arith, h))
no_word_from zero (c ∷ cs) u h e = no_word c cs u e
no_word_from (suc n) [] u h e = absurd (omega (arith, h))
no_word_from (suc n) (c ∷ cs) u h e = no_word_from n cs u (omega (arith, h)) e
