use Rattle.std.proofs.Common.{◌≡◌, ◌+◌, ◌≤◌, drop}
use Rattle.tpl_format.specs.Operands.{characters as characters_of}
use Rattle.tpl_format.proofs.fill.characters.Given as goal

-- the characters so far and those of the rest are all, and are no more than the bytes so far
abbrev pub invariant-loop-byte : goal.invariant-loop-byte
invariant-loop-byte l = (l.count + characters_of (drop l.byte-index l.byte-items) ≡ characters_of l.byte-items) × (l.count ≤ l.byte-index)
