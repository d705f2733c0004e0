use Rattle.std.proofs.Common.{◌≡◌, drop}
use Rattle.html_words.specs.ScriptTypes.{undone_value, is_type_word as is_type_word_of}
use Rattle.html_words.proofs.script_value.is_type_word.Given as goal

abbrev pub invariant-loop-letter : goal.invariant-loop-letter
invariant-loop-letter l = is_type_word_of (drop l.letter-index l.word) (undone_value l.rest) ≡ is_type_word_of l.fn.word (undone_value l.fn.value)
