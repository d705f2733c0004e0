-- The elements of a list by their numbers.
use Rattle.std.proofs.Common.{◌≡◌, ℕ, zero, suc, ◌<◌, List, [], ◌∷◌, ◌++◌, refl, ap, subst, Some, length, inl, inr, ◌⊎◌, take, get_or, arith}
use Rattle.std.specs.Prelude.{All, slice_get, slice_set}
use Rattle.std.proofs.lemmas.List.Elements.{All-get_or}
use Rattle.std.proofs.lemmas.Option.{get_or_from_slice_get, slice_get-get_or, slice_get_within}
use Rattle.place_core.proofs.Semilattices.{none_some}

-- what all are, each is, and the other way
pub of_all : {A : Type 0} (P : A → Type 0) (xs : List A) (i : ℕ) (x : A) → slice_get xs i ≡ Some x → All P xs → P x
of_all P xs i x e all = subst P (get_or_from_slice_get xs i x x e) (All-get_or P xs i x (slice_get_within xs i x e) all)

pub each_is : {A : Type 0} (P : A → Type 0) (xs : List A) (i : ℕ) (x : A) → All P xs → slice_get xs i ≡ Some x → P x
each_is P xs i x all e = of_all P xs i x e all

pub all_of : {A : Type 0} (P : A → Type 0) (xs : List A) → ((i : ℕ) (x : A) → slice_get xs i ≡ Some x → P x) → All P xs
all_of P xs h i d lt = h i (get_or xs i d) (slice_get-get_or xs i d lt)

pub get_left : {A : Type 0} (xs ys : List A) (i : ℕ) (x : A) → slice_get xs i ≡ Some x → slice_get (xs ++ ys) i ≡ Some x
get_left [] ys i x e = absurd (none_some x e)
get_left (z ∷ xs) ys zero x e = e
get_left (z ∷ xs) ys (suc i) x e = get_left xs ys i x e

-- a list with one more
pub get_last : {A : Type 0} (xs : List A) (x : A) → slice_get (xs ++ x ∷ []) (length xs) ≡ Some x
get_last [] x = refl
get_last (y ∷ xs) x = get_last xs x

pub set_last : {A : Type 0} (xs : List A) (x y : A) → slice_set (xs ++ x ∷ []) (length xs) y ≡ xs ++ y ∷ []
set_last [] x y = refl
set_last (z ∷ xs) x y = ap (λ ys. z ∷ ys) (set_last xs x y)

pub push_cases : {A : Type 0} (xs : List A) (x y : A) (i : ℕ) → slice_get (xs ++ x ∷ []) i ≡ Some y → (slice_get xs i ≡ Some y) ⊎ ((i ≡ length xs) × (x ≡ y))
push_cases [] x y zero e = inr (refl, cc)
push_cases [] x y (suc i) e = absurd (none_some y e)
push_cases (z ∷ xs) x y zero e = inl e
push_cases (z ∷ xs) x y (suc i) e = elim (push_cases xs x y i e) [
  | inl h ↦ inl h
  | inr h ↦ inr (ap suc h.0, h.1)
]

-- those before a number
pub taken_at : {A : Type 0} (xs : List A) (i j : ℕ) (x : A) → slice_get (take i xs) j ≡ Some x → (j < i) × (slice_get xs j ≡ Some x)
taken_at [] zero j x e = absurd (none_some x e)
taken_at [] (suc i) j x e = absurd (none_some x e)
taken_at (y ∷ xs) zero j x e = absurd (none_some x e)
taken_at (y ∷ xs) (suc i) zero x e = (omega arith, e)
taken_at (y ∷ xs) (suc i) (suc j) x e = (let h = taken_at xs i j x e in let lt = h.0 in (omega (arith, lt), h.1))
