use Rattle.std.proofs.Common.{◌≡◌, length}
use Rattle.js_step.specs.ScriptCharacters.{script_byte_place}
use Rattle.js_step.proofs.characters.byte_place.Given as goal

abbrev pub invariant-loop-code : goal.invariant-loop-code
invariant-loop-code g l =
    script_byte_place l.ahead l.end (g.C.Chars.left l.left) ≡ script_byte_place l.fn.byte 0 (g.C.Chars.left l.fn.chars)

abbrev pub decreases-loop-code : goal.decreases-loop-code
decreases-loop-code g l = length (g.C.Chars.left l.left)
