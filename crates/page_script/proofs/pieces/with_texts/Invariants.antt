use Rattle.std.proofs.Common.{◌≡◌, ◌++◌, drop}
use Rattle.page_script.specs.FoundViews.{script_pieces_at}
use Rattle.page_script.specs.PieceTexts.{AreText}
use Rattle.page_script.proofs.pieces.with_texts.Given as goal

abbrev pub invariant-loop-raw : goal.invariant-loop-raw
invariant-loop-raw l = (l.pieces ++ script_pieces_at (drop l.raw-index l.raws) ≡ script_pieces_at l.raws) × AreText (script_pieces_at (drop l.raw-index l.raws))
