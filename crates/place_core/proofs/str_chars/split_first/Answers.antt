use Rattle.std.proofs.Common.{◌∙◌, ap, length, sym}
use Rattle.std.proofs.lemmas.Str.{chars_past_char}
use Rattle.place_core.proofs.Texts.{chars-none, length-first, behind}
use Rattle.place_core.proofs.str_chars.split_first.Goals as goal

pub returns-in-None-clause-first : goal.returns-in-None-clause-first
returns-in-None-clause-first c = chars-none c.args.text.now (ap length (sym c.chars-characters.ensures.rest) ∙ c.in-None.ensures.steps.0.0)

pub returns-in-Some-clause-first : goal.returns-in-Some-clause-first
returns-in-Some-clause-first c =
    chars_past_char c.args.text.now c.as_str.result.now c.in-Some.character c.utf8.text
    (behind c.args.text.now c.chars-characters.result.rest.now c.next.new.self.rest.now c.as_str.result.now c.in-Some.character c.chars-characters.ensures.rest c.in-Some.ensures.steps.0 c.as_str.ensures)

pub returns-in-Some-clause-len : goal.returns-in-Some-clause-len
returns-in-Some-clause-len c =
    length-first c.args.text.now c.as_str.result.now c.in-Some.character
    (behind c.args.text.now c.chars-characters.result.rest.now c.next.new.self.rest.now c.as_str.result.now c.in-Some.character c.chars-characters.ensures.rest c.in-Some.ensures.steps.0 c.as_str.ensures)
