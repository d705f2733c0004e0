use Rattle.std.proofs.Common.{◌≡◌, ◌++◌, length, map, string_bytes}
use denote.Text.{Utf8}
use denote.Shadow.{shadow}
use Rattle.std.specs.Char.{to_ascii_lowercase}
use Rattle.url_lexer.specs.SchemeOf.{letters_of as letters_of_bytes}
use Rattle.page_url.proofs.reading.letters_of.Given as goal

abbrev pub invariant-loop-at : goal.invariant-loop-at
invariant-loop-at l = shadow (Utf8 l.rest) × (map to_ascii_lowercase (string_bytes l.out) ++ letters_of_bytes l.rest ≡ letters_of_bytes l.fn.text)

abbrev pub decreases-loop-at : goal.decreases-loop-at
decreases-loop-at l = length l.rest
