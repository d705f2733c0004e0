use Rattle.san_html.specs.ReadBack.{IsBackInQuoted}
use Rattle.san_html.specs.Sanitizers.{html, html_rows}
use Rattle.san_html.proofs.EscapedText.{back-in-quoted}
use Rattle.san_html.proofs.Results.{for-result, for-text}
use Rattle.san_html.proofs.escape.attr.Goals as goal

pub returns-clause-in_quoted : goal.returns-clause-in_quoted
returns-clause-in_quoted c =
    let text = c.args.text.now in
    for-result (IsBackInQuoted text) (html text) (for-text IsBackInQuoted html_rows back-in-quoted text c.utf8.text) c.escape.result c.escape.ensures
