-- The lines of a text.
use Rattle.std.specs.Prelude.{ℕ, ◌==◌, List, count_by}

-- how many line feeds
abbrev pub line_feeds : List ℕ → ℕ
line_feeds bytes = count_by (λ b. b == 10) bytes
