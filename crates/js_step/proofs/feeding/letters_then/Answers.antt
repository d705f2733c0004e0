use Rattle.std.proofs.Common.{sym}
use Rattle.js_step.proofs.KeptWordSteps.{points-append}
use Rattle.js_step.proofs.feeding.letters_then.Goals as goal

pub returns-clause-point : goal.returns-clause-point
returns-clause-point c = λ p h. rw (points-append _ _ p, sym c.class_of.ensures) (c.stepped.ensures.point _ (c.letters-behind.ensures.point p h))
