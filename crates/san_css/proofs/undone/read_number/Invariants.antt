use Rattle.std.proofs.Common.{◌≡◌, ◌≤◌, ◌<◌, ◌^◌, ◌-◌, drop}
use Rattle.std.specs.Str.{IsCharBoundary}
use Rattle.css_lexer.specs.Unescaping.{Digits, style_undone}
use Rattle.san_css.proofs.undone.read_number.Given as goal

abbrev pub invariant-loop-len : goal.invariant-loop-len
invariant-loop-len l = record {
  few : l.len ≤ 6;
  fits : l.number < 16 ^ l.len;
  cut : IsCharBoundary l.text l.len;
  value : style_undone (Digits (6 - l.len) l.number) (drop l.len l.text) ≡ style_undone (Digits 6 0) l.text;
}

abbrev pub decreases-loop-len : goal.decreases-loop-len
decreases-loop-len l = 6 - l.len
