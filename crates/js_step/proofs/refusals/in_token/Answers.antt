use Rattle.js_step.proofs.FirstCauses.{the-next}
use Rattle.js_step.proofs.refusals.in_token.Goals as goal

pub returns-in-None : goal.returns-in-None
returns-in-None c = the-next _ _ _ c.in-None.ensures c.in_line_or_markup.ensures
