use Rattle.std.proofs.Common.{◌≡◌, ◌++◌, ◌-◌, ◌≤◌, length, drop, string_bytes}
use Rattle.std.specs.Str.{IsCharBoundary}
use Rattle.tpl_token.specs.Scanning.{without_returns}
use Rattle.tpl_token.proofs.string.without_returns.Given as goal

abbrev pub invariant-loop-at : goal.invariant-loop-at
invariant-loop-at l = record {
  within : l.at ≤ length l.text;
  cut : IsCharBoundary l.text l.at;
  copied : string_bytes l.copy ++ without_returns (drop l.at l.text) ≡ without_returns l.text;
}

abbrev pub decreases-loop-at : goal.decreases-loop-at
decreases-loop-at l = length l.text - l.at
