-- What a look answers, and a comparison of what is known.
use Rattle.std.specs.Prelude.{◌≡◌, ℕ, ◌<◌, ◌⊎◌, Bool, List, length, MatchBool}
use mathlib.Core.List.{IsPrefix}
use Rattle.page_io.specs.Causes.{Rose}
use Rattle.set_publisher.specs.Values.{IsPublishedSetOf}
use Rattle.set_publisher.specs.declared.looked.Looked.{Looked}
use Rattle.set_publisher.specs.declared.looked.Looked.TheVariants.{Same, New}

-- a fact where nothing is new, and another one of what is new
abbrev pub MatchLooked : {T : Type 0} → Looked T → Type 0 → (T → Type 0) → Type 0
MatchLooked Same same new = same
MatchLooked (New x) same new = new x

-- more is seen than before; the number is the length of the list that is now seen, and the set its last one
abbrev pub Finds : {V : Type 0} → List V → List V → ℕ → V → Type 0
Finds old now number set = (length old < number) × (number ≡ length now) × IsPublishedSetOf now number set

-- nothing was found: what is seen is as it was, and the misses rose
abbrev pub LookMisses : {V : Type 0} → List V → List V → ℕ → ℕ → Type 0
LookMisses old now before after = (now ≡ old) × Rose before after

-- a look either found the list, or missed it
abbrev pub LooksOnce : {V : Type 0} → List V → List V → ℕ → ℕ → Type 0
LooksOnce old now before after = (after ≡ before) ⊎ (Rose before after × (now ≡ old))

-- of two first parts of one list, the other one begins this one, or is longer and begins with it
abbrev pub IsReaderBegun : {V : Type 0} → List V → List V → Bool → Type 0
IsReaderBegun this other begun = MatchBool begun (IsPrefix other this) ((length this < length other) × IsPrefix this other)
