use Rattle.page_url.proofs.Schemes.{IsPassed}
use Rattle.page_url.proofs.reading.colon_at.Given as goal

abbrev pub invariant-loop-at : goal.invariant-loop-at
invariant-loop-at l = IsPassed l.bytes l.at
