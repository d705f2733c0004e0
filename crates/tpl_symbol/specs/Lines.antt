-- The lines of a text, counted from 1. A line feed ends its line.
use Rattle.std.specs.Prelude.{ℕ, ◌+◌, ◌-◌, ◌==◌, List, take, if◌then◌else◌}
use Rattle.page_io.specs.Lines.{line_feeds}

-- the line on which the byte at this offset stands
abbrev pub line_of : List ℕ → ℕ → ℕ
line_of text offset = line_feeds (take offset text) + 1

-- the line of the last byte of a stretch, and 1 where it is empty
abbrev pub last_line : List ℕ → ℕ → ℕ → ℕ
last_line text begins ends = if begins == ends then 1 else line_of text (ends - 1)
