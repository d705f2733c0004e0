use Rattle.std.proofs.Common.{◌≡◌, ◌+◌, ◌++◌, length}
use Rattle.page_lexer.specs.Contents.{escapes}
use Rattle.page_lexer.proofs.contents.push_escapes.Given as goal

abbrev pub invariant-loop-after : goal.invariant-loop-after
invariant-loop-after l = record {
  left : l.tokens ++ escapes l.at l.rest ≡ l.fn.tokens ++ escapes l.fn.from l.fn.bytes;
  fits : l.at + length l.rest ≡ l.fn.from + length l.fn.bytes;
}

abbrev pub decreases-loop-after : goal.decreases-loop-after
decreases-loop-after l = length l.rest
