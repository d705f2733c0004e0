use Rattle.std.proofs.Common.{◌∙◌}
use Rattle.page_script.proofs.SlashSteps.{begins-regexp}
use Rattle.page_script.proofs.steps.behind_regexp_slash.Goals as goal

pub returns-in_default : goal.returns-in_default
returns-in_default c = λ w fs. c.in_regexp.ensures w fs ∙ begins-regexp c.args.class c.args.byte fs c.in_default.not-Solidus c.in_default.not-Asterisk
