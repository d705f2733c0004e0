-- Bytes with something else instead of each byte of one kind.
use Rattle.std.specs.Prelude.{ℕ, ◌==◌, Bool, if◌then◌else◌, codes, List, [], ◌∷◌, ◌++◌}

-- the bytes, with other bytes instead of each mark, which may depend on what comes after it
abbrev pub replaced_bytes : ℕ → (List ℕ → List ℕ) → List ℕ → List ℕ
replaced_bytes mark by [] = []
replaced_bytes mark by (b ∷ bs) = if b == mark then by bs ++ replaced_bytes mark by bs else b ∷ replaced_bytes mark by bs

-- these bytes, whatever comes after the mark
abbrev pub always : List ℕ → List ℕ → List ℕ
always by after = by

-- a brace comes next: the first of these bytes, or that of the action that follows them
abbrev pub joins : Bool → List ℕ → Bool
joins followed [] = followed
joins followed (b ∷ bs) = b == 123

-- a brace before these bytes: where it would join the next one, with a comment, which takes the space before it away
abbrev pub brace : Bool → List ℕ → List ℕ
brace followed after = if joins followed after then codes "{ {{- /**/}}" else codes "{"

-- a text, which an action follows or not, so that no `{{` stands in it, nor where it ends
abbrev pub guarded : Bool → List ℕ → List ℕ
guarded followed bytes = replaced_bytes 123 (brace followed) bytes

-- the value of a string, as it is written between double quotes
abbrev pub print_escaped : List ℕ → List ℕ
print_escaped value = replaced_bytes 10 (always (codes "\\n")) (replaced_bytes 34 (always (codes "\\\"")) (replaced_bytes 92 (always (codes "\\\\")) value))
