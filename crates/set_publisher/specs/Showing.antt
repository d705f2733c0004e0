-- What is shown begins with what each seat has seen of it.
use Rattle.std.specs.Prelude.{◌≡◌, ℕ, List, [], ◌∷◌, ◌++◌, Option, None, Some, IfSome}
use mathlib.Core.Option.{some}
use mathlib.Core.List.{IsPrefix}
use lib.ListN.{get_elem?}
use Rattle.set_publisher.specs.declared.known.Known.{Known}

module _ {V : Type 0} where
  -- of the same list, the first begins the second
  abbrev pub Begins : Known V → Known V → Type 0
  Begins p q = (q.seen.book ≡ p.seen.book) × IsPrefix p.seen.log q.seen.log

  -- of the same list, the second has this set more
  abbrev pub GrowsBy : Known V → V → Known V → Type 0
  GrowsBy p set q = (q.seen.book ≡ p.seen.book) × (q.seen.log ≡ p.seen.log ++ set ∷ [])

  abbrev pub Fits : Option (Known V) → Known V → Type 0
  Fits v p = IfSome v (λ q. Begins q p)

  -- how many sets a reader saw where it entered last
  abbrev pub shown_at : Option (Option (Known V)) → Option ℕ
  shown_at None = None
  shown_at (Some None) = None
  shown_at (Some (Some p)) = Some p.number

  module _ {S : Type 0} (known_of : S → Known V) where
    abbrev pub Keeps : S → List (Option (Known V)) → Type 0
    Keeps x views = (seat : ℕ) (v : Option (Known V)) → get_elem? views seat ≡ some v → Fits v (known_of x)

    abbrev pub Enters : Option (Known V) → S → S → Option (Known V) → Type 0
    Enters v x y w = (w ≡ Some (known_of y)) × Fits v (known_of y)
