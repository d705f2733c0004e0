use Rattle.std.proofs.Common.{◌≡◌, ◌++◌, drop, map, take}
use Rattle.std.specs.Char.{to_ascii_lowercase}
use Rattle.url_lexer.specs.SchemeOf.{letters_of as letters_of_bytes}
use Rattle.page_url.proofs.reading.left_out_at.Given as goal

abbrev pub invariant-loop-at : goal.invariant-loop-at
invariant-loop-at l = map to_ascii_lowercase (take l.at l.bytes) ++ letters_of_bytes (drop l.at l.bytes) ≡ letters_of_bytes l.bytes
