use Rattle.std.proofs.Common.{◌≡◌, drop}
use Rattle.css_lexer.specs.Sanitizers.{holds_word}
use Rattle.san_css.proofs.unsafe_words.holds_bytes.Given as goal

abbrev pub invariant-loop-at : goal.invariant-loop-at
invariant-loop-at l = holds_word l.part (drop l.at l.text) ≡ holds_word l.part l.text
