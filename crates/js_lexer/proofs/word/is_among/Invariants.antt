use Rattle.std.proofs.Common.{◌≡◌, map, drop}
use Rattle.js_lexer.specs.Words.{is_among_words as is_among_of}
use Rattle.js_lexer.proofs.word.is_among.Given as goal

abbrev pub invariant-loop-other : goal.invariant-loop-other
invariant-loop-other l = is_among_of (map (λ other. other.now) (drop l.other-index l.words)) l.word ≡ is_among_of (map (λ other. other.now) l.fn.words) l.fn.word
