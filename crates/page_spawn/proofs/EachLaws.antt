-- What holds of each value on a stack, when one is put on it or taken from it.
use Rattle.std.proofs.Common.{◌≡◌, List, [], ◌∷◌, ◌++◌, subst, sym}
use Rattle.page_spawn.specs.Gates.{Each}

each_append : {X : Type 0} (P : X → Type 0) (xs : List X) (x : X) → Each P xs → P x → Each P (xs ++ x ∷ [])
each_append P [] x each this = (this, tt)
each_append P (y ∷ xs) x each this = (each.0, each_append P xs x each.1 this)

each_below : {X : Type 0} (P : X → Type 0) (xs : List X) (x : X) → Each P (xs ++ x ∷ []) → Each P xs
each_below P [] x each = tt
each_below P (y ∷ xs) x each = (each.0, each_below P xs x each.1)

each_last : {X : Type 0} (P : X → Type 0) (xs : List X) (x : X) → Each P (xs ++ x ∷ []) → P x
each_last P [] x each = each.0
each_last P (y ∷ xs) x each = each_last P xs x each.1

pub each_pushed : {X : Type 0} (P : X → Type 0) (xs ys : List X) (x : X) → Each P xs → ys ≡ xs ++ x ∷ [] → P x → Each P ys
each_pushed {X = X} P xs ys x each push this = subst (λ (z : List X). Each P z) (sym push) (each_append P xs x each this)

pub each_popped : {X : Type 0} (P : X → Type 0) (xs ys : List X) (x : X) → Each P ys → ys ≡ xs ++ x ∷ [] → Each P xs
each_popped {X = X} P xs ys x each pop = each_below P xs x (subst (λ (z : List X). Each P z) pop each)

pub each_of_popped : {X : Type 0} (P : X → Type 0) (xs ys : List X) (x : X) → Each P ys → ys ≡ xs ++ x ∷ [] → P x
each_of_popped {X = X} P xs ys x each pop = each_last P xs x (subst (λ (z : List X). Each P z) pop each)
