-- A number that stops past the last code point stands for the same character.
use Rattle.std.proofs.Common.{◌≡◌, ℕ, ◌+◌, ◌*◌, ◌<◌, ◌≤◌, List, [], ◌∷◌, length, drop, get_or, min, refl, sym, ◌∙◌, arith, inl, inr}
use Rattle.std.proofs.lemmas.Bool.{cases_lt, cond-true, or_left, or_right, le-leb}
use Rattle.std.proofs.lemmas.List.{drop_more}
use Rattle.std.proofs.Math.Nat.{mul-le-mul_left}
use Rattle.place_core.specs.page.References.{number_in_reference, digit_of, numbered_reference}

grows : (n base : ℕ) → 1 ≤ base → n ≤ n * base
grows n base h = omega (arith, mul-le-mul_left {m = 1} {n = base} n h)

number_in-rises : (base n : ℕ) (bs : List ℕ) → 1 ≤ base → n ≤ number_in_reference base n bs
number_in-rises base n [] h = omega arith
number_in-rises base n (b ∷ bs) h = omega (arith, grows n base h, number_in-rises base (n * base + digit_of b) bs h)

capped : (base n : ℕ) (bs : List ℕ) → 1 ≤ base → min (number_in_reference base (min n 1114112) bs) 1114112 ≡ min (number_in_reference base n bs) 1114112
capped base n bs h = elim (cases_lt n 1114112) [
  | inl lt ↦ (let same : min n 1114112 ≡ n = omega arith in rw same refl)
  | inr ge ↦ (let same : min n 1114112 ≡ 1114112 = omega arith in rw same (omega (arith, number_in-rises base 1114112 bs h, number_in-rises base n bs h)))
]

pub digit_more : (base n i value next : ℕ) (all : List ℕ) (z d : ℕ) → 1 ≤ base → i < length all → value ≡ digit_of (get_or all i d) → next ≡ min (n * base + value) 1114112 → min (number_in_reference base n (drop i all)) 1114112 ≡ z → min (number_in_reference base next (drop (i + 1) all)) 1114112 ≡ z
digit_more base n i value next all z d h within e f g =
    let here = rw (drop_more all i d within) at g in
    rw (f, e) (capped base (n * base + digit_of (get_or all i d)) (drop (i + 1) all) h ∙ here)

pub numbered_capped : (n : ℕ) → numbered_reference (min n 1114112) ≡ numbered_reference n
numbered_capped n = elim (cases_lt n 1114112) [
  | inl lt ↦ (let same : min n 1114112 ≡ n = omega arith in rw same refl)
  | inr ge ↦ (let same : min n 1114112 ≡ 1114112 = omega arith in rw same (sym (cond-true _ _ _ (or_right _ _ (or_left _ _ (le-leb 1114112 n ge))))))
]
