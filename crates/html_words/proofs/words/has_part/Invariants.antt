use Rattle.std.proofs.Common.{◌≡◌, length}
use Rattle.std.specs.Str.{str_to_ascii_lowercase}
use Rattle.place_core.specs.page.Words.{has_part as has_part_of}
use Rattle.html_words.proofs.words.has_part.Given as goal

abbrev pub invariant-loop-after : goal.invariant-loop-after
invariant-loop-after l = has_part_of (str_to_ascii_lowercase l.part) (str_to_ascii_lowercase l.rest) ≡ has_part_of (str_to_ascii_lowercase l.fn.part) (str_to_ascii_lowercase l.fn.name)

abbrev pub decreases-loop-after : goal.decreases-loop-after
decreases-loop-after l = length l.rest
