-- The characters of a text, each with its place.
use Rattle.std.specs.Prelude.{ℕ, ◌+◌, List, [], ◌∷◌}
use Rattle.std.specs.Char.{len_utf8}

-- characters, each with the place of its first byte, the first at this one
abbrev pub with_offsets : ℕ → List ℕ → List (ℕ × ℕ)
with_offsets at [] = []
with_offsets at (c ∷ cs) = (c, at) ∷ with_offsets (at + len_utf8 c) cs
