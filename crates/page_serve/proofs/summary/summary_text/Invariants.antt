use Rattle.std.proofs.Common.{◌≡◌, ◌+◌, ◌++◌, drop}
use Rattle.page_serve.specs.SummaryLines.{summary_lines}
use Rattle.page_serve.proofs.summary.summary_text.Given as goal

abbrev pub invariant-loop-ended : goal.invariant-loop-ended
invariant-loop-ended g l = record {
  number : l.before ≡ l.ended-index;
  lines : l.text ++ summary_lines (l.before + 1) (drop l.ended-index l.ends) ≡ summary_lines 1 l.ends;
}
