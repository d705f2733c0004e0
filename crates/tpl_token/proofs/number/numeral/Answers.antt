use Rattle.std.proofs.Common.{sym, ◌∙◌}
use Rattle.std.proofs.lemmas.Str.{IsUtf8-from_ascii}
use Rattle.tpl_token.proofs.Digits.{digits_ascii, reads_numeral}
use Rattle.tpl_token.proofs.number.numeral.Goals as goal

pub returns-in-Ok : goal.returns-in-Ok
returns-in-Ok c =
    let all = sym c.are_digits.ensures ∙ c.if-not-are_digits.false in
    let same = c.in-Ok.ensures.cases.0 in
    c.ok.ensures.value ∙ reads_numeral c.args.base c.args.digits.now c.from_str_radix.result c.requires.most all (rw same at c.from_str_radix.ensures.value)

pub returns-in-Err : goal.returns-in-Err
returns-in-Err c =
    let all = sym c.are_digits.ensures ∙ c.if-not-are_digits.false in
    absurd (c.in-Err.ensures.cases.0 (IsUtf8-from_ascii c.args.digits.now (digits_ascii c.args.base c.args.digits.now c.requires.most all)))
