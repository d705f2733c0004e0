use Rattle.std.proofs.Common.{length, string_bytes}
use Rattle.san_css.specs.Strings.{StringRestWrites}
use Rattle.san_css.proofs.string.push_css_string.Given as goal
use denote.Shadow.{shadow}
use denote.Text.{Utf8}

abbrev pub invariant-loop-rest : goal.invariant-loop-rest
invariant-loop-rest l = record {
  written : StringRestWrites l.text l.rest (string_bytes l.fn.out) (string_bytes l.out);
  utf8 : shadow (Utf8 l.rest);
}

abbrev pub decreases-loop-rest : goal.decreases-loop-rest
decreases-loop-rest l = length l.rest
