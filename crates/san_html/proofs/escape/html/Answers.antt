use Rattle.san_html.specs.ReadBack.{IsBackInText, IsBackInRcdata, IsBackInBlock}
use Rattle.san_html.specs.Sanitizers.{html, html_rows}
use Rattle.san_html.proofs.EscapedText.{back-in-text, back-in-rcdata, back-in-block}
use Rattle.san_html.proofs.Results.{for-result, for-text}
use Rattle.san_html.proofs.escape.html.Goals as goal

pub returns-clause-in_text : goal.returns-clause-in_text
returns-clause-in_text c =
    let text = c.args.text.now in
    for-result (IsBackInText text) (html text) (for-text IsBackInText html_rows back-in-text text c.utf8.text) c.escape.result c.escape.ensures

pub returns-clause-in_rcdata : goal.returns-clause-in_rcdata
returns-clause-in_rcdata c =
    let text = c.args.text.now in
    for-result (IsBackInRcdata text) (html text) (for-text IsBackInRcdata html_rows back-in-rcdata text c.utf8.text) c.escape.result c.escape.ensures

pub returns-clause-in_block : goal.returns-clause-in_block
returns-clause-in_block c =
    let text = c.args.text.now in
    for-result (IsBackInBlock text) (html text) (for-text IsBackInBlock html_rows back-in-block text c.utf8.text) c.escape.result c.escape.ensures
