use Rattle.std.proofs.Common.{◌∙◌, ap, arith}
use Rattle.page_script.specs.FoundViews.{script_pieces_at, script_state_at}
use Rattle.page_script.proofs.PiecesAreText.{finished_are_text}
use Rattle.page_script.proofs.pieces.script_pieces.Goals as goal

pub with_texts-requires : goal.with_texts-requires
with_texts-requires c =
    finished_are_text c.args.text.now c.as_bytes-byte-items.result.now c.loop-byte.byte-index (script_state_at c.loop-byte.scan) (script_pieces_at c.as_slice.result.now) c.utf8.text c.loop-byte.invariant.0
    (omega (arith, c.loop-byte-test.false)) (ap script_pieces_at c.as_slice.ensures ∙ c.in_ok-raws.ensures)
