use Rattle.std.proofs.Common.{sym}
use Rattle.js_step.proofs.FirstCauses.{the-first}
use Rattle.js_step.proofs.refusals.on_some.Goals as goal

pub returns-in_default : goal.returns-in_default
returns-in_default c = rw (sym c.senses_differ.ensures) (the-first _ _ _ c.on_two_senses.ensures c.in_default.not-None)
