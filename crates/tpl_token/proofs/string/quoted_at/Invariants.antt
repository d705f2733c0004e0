use Rattle.std.proofs.Common.{◌≡◌, ◌+◌, ◌-◌, ◌<◌, ◌≤◌, length, drop, string_bytes}
use Rattle.std.specs.Str.{IsCharBoundary}
use Rattle.tpl_token.specs.Scanning.{after_part, quoted}
use Rattle.tpl_token.proofs.string.quoted_at.Given as goal

abbrev pub invariant-loop-at : goal.invariant-loop-at
invariant-loop-at l = record {
  begun : l.start < l.at;
  within : l.at ≤ length l.text;
  cut : IsCharBoundary l.text l.at;
  reads : after_part (string_bytes l.value) (l.at - (l.start + 1)) (quoted 0 (drop l.at l.text)) ≡ quoted 0 (drop (l.start + 1) l.text);
}

abbrev pub decreases-loop-at : goal.decreases-loop-at
decreases-loop-at l = length l.text - l.at
