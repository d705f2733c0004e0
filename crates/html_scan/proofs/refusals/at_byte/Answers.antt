use Rattle.std.proofs.Common.{◌∙◌, ap, Option}
use Rattle.std.specs.Str.{str_to_ascii_lowercase}
use Rattle.place_core.specs.page.Tags.{tag_of_name}
use Rattle.place_core.specs.place.Errors.{at_hand}
use Rattle.place_core.specs.declared.code.Code.{Code}
use Rattle.html_scan.specs.Slices.{pending}
use Rattle.html_scan.proofs.refusals.at_byte.Goals as goal

pub returns-in-InTagName-clause-error : goal.returns-in-InTagName-clause-error
returns-in-InTagName-clause-error c =
    let name = str_to_ascii_lowercase (pending c.args.text.now c.in-InTagName.from c.args.index) in
    rw c.in-InTagName.is
    (c.at_hand.ensures.error ∙ ap (λ (o : Option Code). at_hand o) (c.in_tag_name.ensures (tag_of_name c.in-InTagName.ends name)))

pub returns-in-BeforeType-clause-error : goal.returns-in-BeforeType-clause-error
returns-in-BeforeType-clause-error c =
    rw c.in-BeforeType.is
    (c.at_hand-in-BeforeType.ensures.error ∙ ap (λ (o : Option Code). at_hand o) (c.in_quotes.ensures c.in-BeforeType.field-0))
