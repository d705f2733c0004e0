use Rattle.std.proofs.Common.{◌≡◌, ◌+◌, ◌-◌, ◌≤◌, length, drop}
use Rattle.tpl_token.specs.Texts.{bytes_before}
use Rattle.tpl_token.proofs.bytes.bytes_before.Given as goal

abbrev pub invariant-loop-at : goal.invariant-loop-at
invariant-loop-at l = record {
  within : l.at ≤ length l.bytes;
  counts : l.at + bytes_before l.mark (drop l.at l.bytes) ≡ bytes_before l.mark l.bytes;
}

abbrev pub decreases-loop-at : goal.decreases-loop-at
decreases-loop-at l = length l.bytes - l.at
