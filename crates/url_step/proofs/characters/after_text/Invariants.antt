use Rattle.std.proofs.Common.{◌≡◌, length}
use Rattle.url_step.specs.PartTexts.{after_characters, characters_from}
use Rattle.url_step.proofs.characters.after_text.Given as goal

abbrev pub invariant-loop-code : goal.invariant-loop-code
invariant-loop-code g l = characters_from l.mode l.end (g.C.Chars.left l.left) l.point ≡ after_characters l.fn.mode (g.C.Chars.left l.fn.chars) l.fn.place

abbrev pub decreases-loop-code : goal.decreases-loop-code
decreases-loop-code g l = length (g.C.Chars.left l.left)
