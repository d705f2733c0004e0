-- Known bytes, in two steps.
use Rattle.std.proofs.Common.{ℕ, List, ◌++◌, Option, None, Some, append_assoc, sym, ap, ◌∙◌}
use Rattle.std.specs.Io.KnownBytes.{Appends, Consumes}

pub Appends-twice : (a b c : Option (List ℕ)) (xs ys : List ℕ) → Appends a b xs → Appends b c ys → Appends a c (xs ++ ys)
Appends-twice None b c xs ys h k = tt
Appends-twice (Some a) None c xs ys h k = absurd h
Appends-twice (Some a) (Some b) None xs ys h k = k
Appends-twice (Some a) (Some b) (Some c) xs ys h k = k ∙ ap (λ (z : List ℕ). z ++ ys) h ∙ append_assoc a xs ys

pub Consumes-twice : (a b c : Option (List ℕ)) (xs ys : List ℕ) → Consumes a b xs → Consumes b c ys → Consumes a c (xs ++ ys)
Consumes-twice None b c xs ys h k = tt
Consumes-twice (Some a) None c xs ys h k = absurd h
Consumes-twice (Some a) (Some b) None xs ys h k = k
Consumes-twice (Some a) (Some b) (Some c) xs ys h k = h ∙ ap (λ (z : List ℕ). xs ++ z) k ∙ sym (append_assoc xs ys c)
