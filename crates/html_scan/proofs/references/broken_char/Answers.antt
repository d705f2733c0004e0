use Rattle.html_scan.proofs.Shortened.{before_equals, before_others, decimal, hexadecimal, otherwise}
use Rattle.html_scan.proofs.references.broken_char.Goals as goal

pub returns-then-equals : goal.returns-then-equals
returns-then-equals c = before_equals c.args.form c.args.equals c.args.pending.now c.in-Named.is c.if-equals.true

pub returns-else-equals : goal.returns-else-equals
returns-else-equals c =
    before_others c.args.form c.args.equals c.args.pending.now c.short_char.result c.in-Named.is c.if-equals.false c.short_char.ensures

pub returns-in-Decimal : goal.returns-in-Decimal
returns-in-Decimal c =
    decimal c.args.form c.args.equals c.args.pending.now c.behind.result.now c.numbered_char.result c.in-Decimal.is c.behind.ensures c.numbered_char.ensures

pub returns-in-Hexadecimal : goal.returns-in-Hexadecimal
returns-in-Hexadecimal c =
    hexadecimal c.args.form c.args.equals c.args.pending.now c.behind-in-Hexadecimal.result.now c.numbered_char-in-Hexadecimal.result
    c.in-Hexadecimal.is c.behind-in-Hexadecimal.ensures c.numbered_char-in-Hexadecimal.ensures

pub returns-in_default : goal.returns-in_default
returns-in_default c = otherwise c.args.form c.args.equals c.args.pending.now c.in_default.not-Named c.in_default.not-Decimal c.in_default.not-Hexadecimal
