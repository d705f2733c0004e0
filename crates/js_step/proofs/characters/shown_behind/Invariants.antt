use Rattle.std.proofs.Common.{◌≡◌, ◌≤◌, ◌+◌, ◌*◌, length, take}
use Rattle.js_step.specs.ScriptCharacters.{script_read_at, script_read_behind, script_read_start, script_text_bytes}
use Rattle.js_step.specs.ScriptScanViews.{ScriptScanFits}
use Rattle.js_step.proofs.characters.shown_behind.Given as goal

abbrev pub invariant-loop-code : goal.invariant-loop-code
invariant-loop-code g l =
    (script_read_behind (script_read_at l.read) (take l.ahead (script_text_bytes (g.C.Chars.left l.left)))
    ≡ script_read_behind (script_read_start l.fn.place) (take l.fn.bytes (script_text_bytes (g.C.Chars.left l.fn.chars))))
    × ScriptScanFits l.read.count l.read.scan
    × (l.read.count + 4 * length (g.C.Chars.left l.left) ≤ 4 * length (g.C.Chars.left l.fn.chars))

abbrev pub decreases-loop-code : goal.decreases-loop-code
decreases-loop-code g l = length (g.C.Chars.left l.left)
