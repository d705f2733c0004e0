use Rattle.std.proofs.Common.{◌≡◌, ◌*◌, drop}
use Rattle.page_script.specs.FoundViews.{script_state_at}
use Rattle.page_script.specs.ReadViews.{BracesFit}
use Rattle.page_script.specs.ScriptPieces.{script_pieces_from, script_pieces_of}
use Rattle.page_script.proofs.pieces.script_pieces.Given as goal

abbrev pub invariant-loop-byte : goal.invariant-loop-byte
invariant-loop-byte l = (script_pieces_from (drop l.byte-index l.byte-items) (script_state_at l.scan) ≡ script_pieces_of l.text) × BracesFit (3 * l.byte-index) l.scan.point.literals
