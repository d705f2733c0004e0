use Rattle.std.proofs.Common.{◌≡◌, drop}
use Rattle.css_step.specs.StyleCharacters.{style_point_at, style_point_behind}
use Rattle.css_step.proofs.characters.after_bytes.Given as goal

abbrev pub invariant-loop-byte : goal.invariant-loop-byte
invariant-loop-byte l = style_point_behind (style_point_at l.here) (drop l.byte-index l.bytes) ≡ style_point_behind (style_point_at l.fn.point) l.fn.bytes
