use Rattle.std.proofs.Common.{◌∙◌, sym}
use Rattle.html_words.proofs.FirstBytes.{no_word_from}
use Rattle.html_words.specs.ScriptTypes.{undone_value}
use Rattle.html_words.proofs.script_value.is_type_word.Goals as goal

pub returns-in-None : goal.returns-in-None
returns-in-None c = sym (no_word_from c.loop-letter.letter-index c.args.word.now (undone_value c.loop-letter.rest.now) c.loop-letter-test.true c.in-None.ensures.first) ∙ c.loop-letter.invariant
