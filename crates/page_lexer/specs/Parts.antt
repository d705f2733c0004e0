-- The bytes from one place of a list up to, and without, another.
use Rattle.std.specs.Prelude.{ℕ, ◌-◌, List, take, drop}

abbrev pub part : List ℕ → ℕ → ℕ → List ℕ
part bytes from to = take (to - from) (drop from bytes)
