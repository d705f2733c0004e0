-- What has been read of a text, from one place to another.
use Rattle.std.specs.Prelude.{ℕ, List, take, drop}

abbrev pub pending : List ℕ → ℕ → ℕ → List ℕ
pending text from k = drop from (take k text)
