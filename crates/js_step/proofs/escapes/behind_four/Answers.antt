use Rattle.std.proofs.Common.{◌∙◌, sym}
use Rattle.js_step.proofs.LongEscapes.{behind_five}
use Rattle.js_step.proofs.escapes.behind_four.Goals as goal

pub returns : goal.returns
returns c = c.begun.ensures ∙ sym (behind_five c.args.regexp c.args.first c.args.second c.args.third c.args.fourth c.args.byte)
