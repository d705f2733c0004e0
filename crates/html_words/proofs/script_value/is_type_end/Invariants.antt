use Rattle.std.proofs.Common.{◌≡◌, length}
use Rattle.html_words.specs.ScriptTypes.{undone_value, is_type_end as is_type_end_of}
use Rattle.html_words.proofs.script_value.is_type_end.Given as goal

abbrev pub invariant-loop-byte : goal.invariant-loop-byte
invariant-loop-byte l = is_type_end_of (undone_value l.rest) ≡ is_type_end_of (undone_value l.fn.value)

abbrev pub decreases-loop-byte : goal.decreases-loop-byte
decreases-loop-byte l = length l.rest
