use Rattle.std.proofs.Common.{◌≡◌, drop, nat_eq}
use Rattle.std.specs.List.{starts_with}
use Rattle.css_lexer.specs.Sanitizers.{style_spelled}
use Rattle.san_css.proofs.unsafe_words.spells.Given as goal

abbrev pub invariant-loop-byte : goal.invariant-loop-byte
invariant-loop-byte l = starts_with nat_eq (style_spelled (drop l.byte-index l.text)) l.left ≡ starts_with nat_eq (style_spelled l.text) l.word
