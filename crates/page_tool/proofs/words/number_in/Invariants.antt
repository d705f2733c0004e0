use Rattle.std.proofs.Common.{◌≡◌, ◌≤◌, drop}
use Rattle.page_tool.specs.Words.{digits_after}
use Rattle.page_tool.proofs.words.number_in.Given as goal

-- the digits to come, after the number so far, are the number of all; and it is no greater than the most
abbrev pub invariant-loop-byte : goal.invariant-loop-byte
invariant-loop-byte l = (digits_after l.most l.number (drop l.byte-index l.bytes) ≡ digits_after l.most 0 l.bytes) × (l.number ≤ l.most)
