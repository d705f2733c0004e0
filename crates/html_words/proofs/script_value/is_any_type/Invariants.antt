use Rattle.std.proofs.Common.{◌≡◌, drop, map}
use Rattle.html_words.specs.ScriptTypes.{undone_value, is_any_type as is_any_type_of}
use Rattle.html_words.proofs.script_value.is_any_type.Given as goal

abbrev pub invariant-loop-word : goal.invariant-loop-word
invariant-loop-word l = is_any_type_of (map (λ word. word.now) (drop l.word-index l.words)) (undone_value l.value) ≡ is_any_type_of (map (λ word. word.now) l.fn.words) (undone_value l.fn.value)
