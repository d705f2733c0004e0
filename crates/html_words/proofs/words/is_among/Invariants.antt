use Rattle.std.proofs.Common.{◌≡◌, map, drop}
use Rattle.std.specs.Str.{str_to_ascii_lowercase}
use Rattle.place_core.specs.page.Words.{is_among as is_among_of}
use Rattle.html_words.proofs.words.is_among.Given as goal

abbrev pub invariant-loop-word : goal.invariant-loop-word
invariant-loop-word l = is_among_of (map (λ word. str_to_ascii_lowercase word.now) (drop l.word-index l.words)) (str_to_ascii_lowercase l.name) ≡ is_among_of (map (λ word. str_to_ascii_lowercase word.now) l.fn.words) (str_to_ascii_lowercase l.fn.name)
