use Rattle.std.proofs.Common.{◌-◌, ◌≤◌, length, string_bytes}
use Rattle.url_lexer.specs.Sanitizers.{url_query}
use Rattle.san_url.specs.Runs.{IsWrittenBetween}
use Rattle.san_url.proofs.query.push_url_query.Given as goal

abbrev pub invariant-loop-at : goal.invariant-loop-at
invariant-loop-at l = record {
  within : l.at ≤ length l.text;
  written : IsWrittenBetween url_query l.text 0 l.at (string_bytes l.fn.out) (string_bytes l.out);
}

abbrev pub decreases-loop-at : goal.decreases-loop-at
decreases-loop-at l = length l.text - l.at
