-- A text that grows by a prefix of another.
use Rattle.std.specs.Prelude.{◌≡◌, ℕ, ◌≤◌, List, ◌++◌, length, take}

-- new is old with a prefix of lines after it
abbrev pub HasPrefix : List ℕ → List ℕ → List ℕ → Type 0
HasPrefix old new lines = (n : ℕ) × (n ≤ length lines) × (new ≡ old ++ take n lines)
