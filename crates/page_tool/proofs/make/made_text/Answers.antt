use Rattle.page_datum.specs.View.{view}
use Rattle.page_tool.proofs.MadeTexts.{stop-answers, text-is}
use Rattle.page_tool.proofs.make.made_text.Goals as goal

pub returns-in-Err-page_length : goal.returns-in-Err-page_length
returns-in-Err-page_length c =
    stop-answers c.args.sections c.in-Ok.set (view c.in-Ok-made_datum.datum) _ c.in-Err-page_length.stop c.in-Ok.ensures c.in-Ok-made_datum.ensures
    c.in-Err-page_length.ensures.meant c.in-Err-page_length.ensures.length

pub returns-in-Ok-line : goal.returns-in-Ok-line
returns-in-Ok-line c =
    text-is c.args.sections c.in-Ok.set (view c.in-Ok-made_datum.datum) _ _ c.in-Ok-page_length.bytes c.in-Ok-line.text c.in-Ok.ensures
    c.in-Ok-made_datum.ensures c.in-Ok-page_length.ensures.meant c.in-Ok-page_length.ensures.length c.counts-places.ensures.pairs c.in-Ok-line.ensures
