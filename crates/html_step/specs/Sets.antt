-- How a set is printed: a blank, and its members joined by `+`; nothing where it is empty.
use Rattle.std.specs.Prelude.{ℕ, Bool, true, false, not, ◌&&◌, codes, List, [], ◌∷◌, ◌++◌}

-- a member, with whether the set has it
pub record Member : Type 0 where
  pub there : Bool
  pub word : List ℕ

abbrev pub member : Bool → List ℕ → Member
member there word = record { there = there; word = word }

abbrev pub separator : Bool → List ℕ
separator true = codes " "
separator false = codes "+"

-- what is printed of a member, which is the first one or not
abbrev pub member_text : Bool → Bool → List ℕ → List ℕ
member_text true first word = separator first ++ word
member_text false first word = []

abbrev pub member_set_text : Bool → List Member → List ℕ
member_set_text first [] = []
member_set_text first (m ∷ ms) = member_text m.there first m.word ++ member_set_text (first && not m.there) ms

-- what is printed only where something holds
abbrev pub flag_text : Bool → List ℕ → List ℕ
flag_text true word = word
flag_text false word = []
