-- First parts of one list.
use Rattle.std.proofs.Common.{◌≡◌, ℕ, zero, suc, ◌<◌, ◌≤◌, List, [], ◌∷◌, ◌++◌, length, slice_get, Some, refl, ap, sym, ◌∙◌}
use Rattle.std.proofs.Common.{arith, append-nil, append_assoc, length-append}
use mathlib.Core.List.{IsPrefix}

pub begins_self : {A : Type 0} (xs : List A) → IsPrefix xs xs
begins_self xs = ([], append-nil xs)

pub begins_trans : {A : Type 0} (xs ys zs : List A) → IsPrefix xs ys → IsPrefix ys zs → IsPrefix xs zs
begins_trans xs ys zs p q = (p.0 ++ q.0, sym (append_assoc xs p.0 q.0) ∙ (ap (λ w. w ++ q.0) p.1 ∙ q.1))

-- of two first parts of one list the shorter begins the longer
pub shorter_begins : {A : Type 0} (xs ys zs : List A) → IsPrefix xs zs → IsPrefix ys zs → length xs ≤ length ys → IsPrefix xs ys
shorter_begins [] ys zs p q le = (ys, refl)
shorter_begins (x ∷ xs) [] zs p q le = absurd (omega arith)
shorter_begins (x ∷ xs) (y ∷ ys) [] p q le = absurd (cc (p.1))
shorter_begins (x ∷ xs) (y ∷ ys) (z ∷ zs) p q le =
    let heads : x ≡ y = cc (p.1, q.1) in
    let rest = shorter_begins xs ys zs (p.0, cc (p.1)) (q.0, cc (q.1)) (omega arith) in
    (rest.0, cc (heads, rest.1))

-- a first part as long as the whole is the whole
pub prefix_whole : {A : Type 0} (xs ys : List A) → IsPrefix xs ys → length ys ≤ length xs → xs ≡ ys
prefix_whole [] [] p le = refl
prefix_whole [] (y ∷ ys) p le = absurd (omega arith)
prefix_whole (x ∷ xs) [] p le = absurd (cc (p.1))
prefix_whole (x ∷ xs) (y ∷ ys) p le =
    let rest = prefix_whole xs ys (p.0, cc (p.1)) (omega arith) in cc (p.1, rest)

pub begins_length : {A : Type 0} (xs ys : List A) → IsPrefix xs ys → length xs ≤ length ys
begins_length xs ys p = omega (arith, sym (ap length p.1) ∙ length-append xs p.0)

-- what stands in a first part stands in the whole, at the same place
pub begins_get : {A : Type 0} (xs ys : List A) (k : ℕ) → IsPrefix xs ys → k < length xs → slice_get ys k ≡ slice_get xs k
begins_get [] ys k p l = absurd (omega arith)
begins_get (x ∷ xs) [] k p l = absurd (cc (p.1))
begins_get (x ∷ xs) (y ∷ ys) zero p l = cc (p.1)
begins_get (x ∷ xs) (y ∷ ys) (suc k) p l = begins_get xs ys k (p.0, cc (p.1)) (omega arith)

pub is_there : {A : Type 0} (xs : List A) (k : ℕ) → k < length xs → (x : A) × (slice_get xs k ≡ Some x)
is_there [] k l = absurd (omega arith)
is_there (x ∷ xs) zero l = (x, refl)
is_there (x ∷ xs) (suc k) l = is_there xs k (omega arith)
