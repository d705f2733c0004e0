use Rattle.std.proofs.Common.{◌∙◌, ap}
use Rattle.html_words.proofs.Numbers.{numbered_capped}
use Rattle.place_core.specs.page.References.{number_in_reference, numbered_reference}
use Rattle.html_words.proofs.number.numbered_in.Goals as goal

pub returns : goal.returns
returns c = c.numbered.ensures ∙ ap numbered_reference c.number_in.ensures ∙ numbered_capped (number_in_reference c.args.base 0 c.args.digits.now)
