use Rattle.std.proofs.Common.{◌≡◌, drop}
use Rattle.css_lexer.specs.Sanitizers.{holds_word, style_spelled}
use Rattle.san_css.proofs.unsafe_words.is_spelled_in.Given as goal

abbrev pub invariant-loop-at : goal.invariant-loop-at
invariant-loop-at l = holds_word l.word (style_spelled (drop l.at l.text)) ≡ holds_word l.word (style_spelled l.text)
