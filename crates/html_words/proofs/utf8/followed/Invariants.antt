use Rattle.std.proofs.Common.{◌≡◌, ◌≤◌, ◌<◌, ◌+◌, drop}
use Rattle.place_core.specs.page.Utf8.{partial_begun, utf8_followed as followed_of}
use Rattle.html_words.proofs.utf8.followed.Given as goal

abbrev pub invariant-loop-at : goal.invariant-loop-at
invariant-loop-at l = record {
  left : followed_of (record { needed = l.needed; lower = l.lower; upper = l.upper; bits = l.bits; seen = l.at + 1 }) (drop l.at l.rest) ≡ followed_of (partial_begun l.fn.lead) l.fn.rest;
  some : 1 ≤ l.needed;
  few : l.needed ≤ 3;
  lower : 128 ≤ l.lower;
  upper : l.upper ≤ 191;
  first : l.bits < 131072;
  second : 2 ≤ l.needed → l.bits < 2048;
  third : 3 ≤ l.needed → l.bits < 32;
}
