use denote.Shadow.{shadow}
use denote.Text.{Utf8}
use Rattle.std.proofs.Common.{◌≡◌, ◌++◌, length, string_bytes}
use Rattle.css_lexer.specs.Unescaping.{AsItIs, style_undone}
use Rattle.san_css.proofs.undone.push_undone.Given as goal

abbrev pub invariant-loop-front : goal.invariant-loop-front
invariant-loop-front l = record {
  utf8 : shadow (Utf8 l.rest);
  written : string_bytes l.out ++ style_undone AsItIs l.rest ≡ string_bytes l.fn.out ++ style_undone AsItIs l.text;
}

abbrev pub decreases-loop-front : goal.decreases-loop-front
decreases-loop-front l = length l.rest
