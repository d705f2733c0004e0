-- Numbers below n that go to numbers below m, each to one of its own, are no more than these.
use Rattle.std.proofs.Common.{◌≡◌, ℕ, zero, suc, ◌<◌, ◌≤◌, refl, sym, ◌∙◌, inl, inr, arith}
use Rattle.std.specs.Prelude.{◌==◌, if◌then◌else◌}
use Rattle.std.proofs.lemmas.Bool.{cases_eq, eq-eqb, ne_eqb}

swapped : (ℕ → ℕ) → ℕ → ℕ → ℕ → ℕ
swapped f last top i = if f i == top then f last else f i

swapped_top : (f : ℕ → ℕ) (last top i : ℕ) → f i ≡ top → swapped f last top i ≡ f last
unfolding swapped
swapped_top f last top i e = rw (eq-eqb (f i) top e) refl

swapped_other : (f : ℕ → ℕ) (last top i : ℕ) → (f i ≡ top → ⊥) → swapped f last top i ≡ f i
unfolding swapped
swapped_other f last top i e = rw (ne_eqb (f i) top e) refl

swapped_below : (n m : ℕ) (f : ℕ → ℕ) → ((i : ℕ) → i < suc n → f i < suc m) → ((i j : ℕ) → i < suc n → j < suc n → f i ≡ f j → i ≡ j) → (i : ℕ) → i < n → swapped f n m i < m
swapped_below n m f below one i lt = elim (cases_eq (f i) m) [
  | inl e ↦ (let b = below n (omega arith) in
      let d : f n ≡ m → ⊥ = (λ h. (let s = one i n (omega (arith, lt)) (omega arith) (e ∙ sym h) in omega (arith, s, lt))) in
      let r = swapped_top f n m i e in omega (arith, r, b, d))
  | inr e ↦ (let b = below i (omega (arith, lt)) in let r = swapped_other f n m i e in omega (arith, r, b, e))
]

swapped_one : (n m : ℕ) (f : ℕ → ℕ) → ((i j : ℕ) → i < suc n → j < suc n → f i ≡ f j → i ≡ j) → (i j : ℕ) → i < n → j < n → swapped f n m i ≡ swapped f n m j → i ≡ j
swapped_one n m f one i j lt lu e = elim (cases_eq (f i) m) [
  | inl a ↦ elim (cases_eq (f j) m) [
    | inl b ↦ one i j (omega (arith, lt)) (omega (arith, lu)) (a ∙ sym b)
    | inr b ↦ (let s = one n j (omega arith) (omega (arith, lu)) (sym (swapped_top f n m i a) ∙ e ∙ swapped_other f n m j b) in absurd (omega (arith, s, lu)))
  ]
  | inr a ↦ elim (cases_eq (f j) m) [
    | inl b ↦ (let s = one i n (omega (arith, lt)) (omega arith) (sym (swapped_other f n m i a) ∙ e ∙ swapped_top f n m j b) in absurd (omega (arith, s, lt)))
    | inr b ↦ one i j (omega (arith, lt)) (omega (arith, lu)) (sym (swapped_other f n m i a) ∙ e ∙ swapped_other f n m j b)
  ]
]

pub no_more : (n m : ℕ) (f : ℕ → ℕ) → ((i : ℕ) → i < n → f i < m) → ((i j : ℕ) → i < n → j < n → f i ≡ f j → i ≡ j) → n ≤ m
no_more zero m f below one = omega arith
no_more (suc n) zero f below one = (let b = below zero (omega arith) in absurd (omega (arith, b)))
no_more (suc n) (suc m) f below one = (let h = no_more n m (swapped f n m) (swapped_below n m f below one) (swapped_one n m f one) in omega (arith, h))
