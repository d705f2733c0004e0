use Rattle.std.proofs.Common.{◌≡◌, ◌≤◌, ◌+◌, ◌*◌, length}
use Rattle.js_step.specs.ScriptCharacters.{after_script_characters, script_characters_from, script_read_at}
use Rattle.js_step.specs.ScriptScanViews.{ScriptScanFits}
use Rattle.js_step.proofs.characters.after_text.Given as goal

abbrev pub invariant-loop-code : goal.invariant-loop-code
invariant-loop-code g l =
    (script_characters_from l.mode l.fn.place (g.C.Chars.left l.fn.chars) (g.C.Chars.left l.left) (script_read_at l.read)
    ≡ after_script_characters l.fn.mode (g.C.Chars.left l.fn.chars) l.fn.place)
    × ScriptScanFits l.read.count l.read.scan
    × (l.read.count + 4 * length (g.C.Chars.left l.left) ≤ 4 * length (g.C.Chars.left l.fn.chars))

abbrev pub decreases-loop-code : goal.decreases-loop-code
decreases-loop-code g l = length (g.C.Chars.left l.left)
