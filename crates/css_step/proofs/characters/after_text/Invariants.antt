use Rattle.std.proofs.Common.{◌≡◌, length}
use Rattle.css_step.specs.StyleCharacters.{after_style_characters, style_characters_from, style_point_at}
use Rattle.css_step.proofs.characters.after_text.Given as goal

abbrev pub invariant-loop-code : goal.invariant-loop-code
invariant-loop-code g l =
    style_characters_from l.mode l.end (g.C.Chars.left l.left) (style_point_at l.point)
    ≡ after_style_characters l.fn.mode (g.C.Chars.left l.fn.chars) l.fn.place

abbrev pub decreases-loop-code : goal.decreases-loop-code
decreases-loop-code g l = length (g.C.Chars.left l.left)
