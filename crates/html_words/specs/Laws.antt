-- How references are undone, in two ways that give the same.
use Rattle.std.specs.Prelude.{◌≡◌, ℕ, Bool, true, false, List, [], ◌∷◌, ◌++◌, map}
use Rattle.place_core.specs.page.Characters.{characters_at}
use Rattle.place_core.specs.page.Classes.{class_of}
use Rattle.place_core.specs.page.References.{Reference, Closed, as_it_stands, undone, undone_byte, next_reference}
use Rattle.place_core.specs.page.Utf8.{Before, decoded}

-- The bytes of a text or a value, read one after the other with references undone and then decoded, are the characters that are found one after the
-- other by looking ahead.
abbrev pub UndoneIsOneByOne : Type 0
UndoneIsOneByOne = (attribute : Bool) (bytes : List ℕ) → decoded Before (undone attribute Closed bytes) ≡ map (λ (c : ℕ × ℕ). c.0) (characters_at attribute false 0 bytes)

-- Where a text is cut at its end, a reference that is open there is told as it stands, and all else as in `undone`.
abbrev pub undone_cut : Bool → Reference → List ℕ → List ℕ
undone_cut attribute r [] = as_it_stands r
undone_cut attribute r (b ∷ bs) = undone_byte attribute r (class_of b) b ++ undone_cut attribute (next_reference r (class_of b) b) bs

-- likewise, and they too are the characters that are found one after the other
abbrev pub CutIsOneByOne : Type 0
CutIsOneByOne = (attribute : Bool) (bytes : List ℕ) → decoded Before (undone_cut attribute Closed bytes) ≡ map (λ (c : ℕ × ℕ). c.0) (characters_at attribute true 0 bytes)
