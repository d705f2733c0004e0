use Rattle.std.proofs.Common.{◌∙◌, ◌+◌}
use Rattle.html_scan.specs.ClassViews.{class_at}
use Rattle.html_scan.specs.ScanViews.{open_form_at, triple_at}
use Rattle.html_scan.proofs.UrlsFed.{fed_breaks, fed_goes_on}
use Rattle.html_scan.proofs.urls.in_reference.Goals as goal

pub returns-in-Grows-clause-scan : goal.returns-in-Grows-clause-scan
returns-in-Grows-clause-scan c = λ text inside here read.
    c.at_point.ensures.scan text (c.args.index + 1)
    ∙ fed_goes_on c.args.place c.args.quotes c.args.url.parts (triple_at c.args.url.triple) (open_form_at c.args.open.form) (open_form_at c.in-Grows.form)
    text c.args.read.now (c.args.open.from + 1) c.args.index c.args.byte (class_at c.args.class) c.requires.from inside here read
    (rw c.in-Grows.is at c.turn.ensures)

pub returns-in-Breaks-clause-scan : goal.returns-in-Breaks-clause-scan
returns-in-Breaks-clause-scan c = λ text inside here read.
    c.at_plain_byte.ensures.scan text inside
    ∙ fed_breaks c.args.place c.args.quotes c.args.url.parts c.broken-url.result.parts (triple_at c.args.url.triple) (triple_at c.broken-url.result.triple)
    (open_form_at c.args.open.form) c.args.read.now (class_at c.args.class) c.args.byte c.is_equals.result (rw c.in-Breaks.is at c.turn.ensures)
    c.is_equals.ensures c.broken-url.ensures.parts c.broken-url.ensures.triple
