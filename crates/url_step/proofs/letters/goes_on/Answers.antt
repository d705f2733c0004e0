use Rattle.std.proofs.Common.{◌≡◌, Some, None, ap, sym, ◌∙◌, ltb-true, ltb-false, nat_eq}
use Rattle.url_lexer.specs.Prefixes.{is_letter, letter_behind}
use Rattle.url_step.proofs.WordLetters.{letter-none, letter-there}
use Rattle.url_step.proofs.letters.goes_on.Goals as goal

pub returns-in-Some-clause-is : goal.returns-in-Some-clause-is
returns-in-Some-clause-is c =
    let there : letter_behind c.args.word.now c.from.result ≡ Some c.in-Some.letter.now =
    letter-there c.args.word.now c.from.result c.in-Some.letter.now (ltb-true _ _ (sym c.in-Some.ensures.lookup.0)) c.in-Some.ensures.lookup.1 in
    let same : c.from.result ≡ c.args.count = c.from.ensures in
    ap (nat_eq c.in-Some.letter.now) c.to_ascii_lowercase.ensures.value ∙ ap (λ z. is_letter z c.args.byte) (sym there) ∙ ap (λ z. is_letter (letter_behind c.args.word.now z) c.args.byte) same

pub returns-in-None-clause-is : goal.returns-in-None-clause-is
returns-in-None-clause-is c =
    let none : letter_behind c.args.word.now c.from.result ≡ None =
    letter-none c.args.word.now c.from.result (ltb-false _ _ (sym c.in-None.ensures.lookup.0)) in
    let same : c.from.result ≡ c.args.count = c.from.ensures in
    ap (λ z. is_letter z c.args.byte) (sym none) ∙ ap (λ z. is_letter (letter_behind c.args.word.now z) c.args.byte) same
