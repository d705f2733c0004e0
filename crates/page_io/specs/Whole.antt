-- What reading a source to its end and writing all of some bytes do, where the bytes are told.
use Rattle.std.specs.Prelude.{ℕ, ◌+◌, ◌≤◌, List, length, take, Option}
use Rattle.std.specs.Io.KnownBytes.{Consumes, IsAtEnd, Appends}

-- these bytes were read: all that was left, or max + 1 of them
pub record ReadsUpTo (max : ℕ) (old new : Option (List ℕ)) (bytes : List ℕ) : Type 0 where
  pub read : Consumes old new bytes
  pub short : length bytes ≤ max → IsAtEnd new
  pub bound : length bytes ≤ max + 1

-- the bytes taken grew by a prefix of these
abbrev pub AppendsPart : Option (List ℕ) → Option (List ℕ) → List ℕ → Type 0
AppendsPart old new bytes = (n : ℕ) × (n ≤ length bytes) × Appends old new (take n bytes)
