-- The bytes that are kept of what was read.
use Rattle.std.specs.Prelude.{◌≡◌, ℕ, List, ◌++◌, Option}
use Rattle.std.specs.Io.KnownBytes.{Consumes}

-- what came stands behind what was there
pub record IsReadBehind (left0 left : Option (List ℕ)) (old new : List ℕ) : Type 0 where
  pub more : List ℕ
  pub grown : new ≡ old ++ more
  pub came : Consumes left0 left more
