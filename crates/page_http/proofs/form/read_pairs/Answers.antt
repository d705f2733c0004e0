use Rattle.page_http.proofs.Pairs.{pairs_read}
use Rattle.page_http.proofs.form.read_pairs.Goals as goal

pub returns : goal.returns
returns c = pairs_read _ _ _ c.in-None.ensures.steps.0 c.loop-name.invariant
