use Rattle.std.proofs.Common.{◌≡◌, length}
use Rattle.place_core.specs.page.Words.{trimmed_start}
use Rattle.html_words.specs.ScriptTypes.{undone_value}
use Rattle.html_words.proofs.script_value.after_white.Given as goal

abbrev pub invariant-loop-byte : goal.invariant-loop-byte
invariant-loop-byte l = trimmed_start (undone_value l.rest) ≡ trimmed_start (undone_value l.fn.value)

abbrev pub decreases-loop-byte : goal.decreases-loop-byte
decreases-loop-byte l = length l.rest
