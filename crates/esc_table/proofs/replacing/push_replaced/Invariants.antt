use Rattle.std.proofs.Common.{length, string_bytes}
use Rattle.esc_table.specs.Replaced.{StepWrites}
use Rattle.esc_table.proofs.replacing.push_replaced.Given as goal
use denote.Shadow.{shadow}
use denote.Text.{Utf8}

abbrev pub invariant-loop-rest : goal.invariant-loop-rest
invariant-loop-rest g l = record {
  written : StepWrites l.table l.text l.rest (string_bytes l.fn.out) (string_bytes l.out);
  utf8 : shadow (Utf8 l.rest);
}

abbrev pub decreases-loop-rest : goal.decreases-loop-rest
decreases-loop-rest g l = length l.rest
