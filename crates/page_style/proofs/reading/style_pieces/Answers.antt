use Rattle.std.proofs.Common.{◌≡◌, List, IfOk, subst, arith}
use Rattle.css_lexer.specs.States.{style_start}
use Rattle.page_piece.specs.declared.piece.Piece.{Piece}
use Rattle.page_style.specs.Reading.{no_pieces, style_point}
use Rattle.page_style.proofs.PartReads.{all_read, reads_from, start_read}
use Rattle.page_style.proofs.reading.style_pieces.Goals as goal

pub loop-at-init : goal.loop-at-init
loop-at-init c =
    start_read c.args.text.now c.new-pieces.result c.utf8.text c.new-pieces.ensures.done c.new-pieces.ensures.growing c.new-pieces.ensures.from
    c.new-pieces.ensures.to

pub loop-at-preserved : goal.loop-at-preserved
loop-at-preserved c =
    reads_from c.args.text.now c.loop-at.at c.part_at-part.result c.loop-at.state c.in_ok-state.state c.loop-at.pieces c.read_part.new.pieces
    (style_point style_start no_pieces) c.part_at-part.ensures.from c.loop-at-test.true c.loop-at.invariant c.part_at-part.ensures.to
    c.part_at-part.ensures.cut c.in_ok-state.ensures

pub returns : goal.returns
returns c =
    subst (λ (all : List Piece). IfOk c.all.result (λ pieces. pieces ≡ all))
    (all_read c.args.text.now c.loop-at.at c.loop-at.state c.loop-at.pieces c.loop-at.invariant (omega (arith, c.loop-at-test.false))) c.all.ensures
