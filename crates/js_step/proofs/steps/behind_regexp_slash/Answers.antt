use Rattle.std.proofs.Common.{◌∙◌}
use Rattle.js_step.proofs.SlashSteps.{begins-regexp}
use Rattle.js_step.proofs.steps.behind_regexp_slash.Goals as goal

pub returns-in_default : goal.returns-in_default
returns-in_default c = λ fs. c.in_regexp.ensures fs ∙ begins-regexp c.args.class c.args.byte fs c.in_default.not-Solidus c.in_default.not-Asterisk
