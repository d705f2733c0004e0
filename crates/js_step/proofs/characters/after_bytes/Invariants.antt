use Rattle.std.proofs.Common.{◌≡◌, ◌+◌, drop}
use Rattle.js_step.specs.ScriptCharacters.{script_read_behind, script_read_at}
use Rattle.js_step.specs.ScriptScanViews.{ScriptScanFits}
use Rattle.js_step.proofs.characters.after_bytes.Given as goal

abbrev pub invariant-loop-byte : goal.invariant-loop-byte
invariant-loop-byte l =
    (script_read_behind (script_read_at l.here) (drop l.byte-index l.bytes) ≡ script_read_behind (script_read_at l.fn.read) l.fn.bytes)
    × ScriptScanFits l.here.count l.here.scan × (l.here.count ≡ l.fn.read.count + l.byte-index)
