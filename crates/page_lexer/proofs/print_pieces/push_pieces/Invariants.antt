use Rattle.std.proofs.Common.{◌≡◌, ◌++◌, drop}
use Rattle.page_lexer.specs.Printing.{piece_lines}
use Rattle.page_lexer.proofs.print_pieces.push_pieces.Given as goal

abbrev pub invariant-loop-piece : goal.invariant-loop-piece
invariant-loop-piece l = l.out ++ piece_lines l.front (drop l.piece-index l.piece-items) ≡ l.fn.out ++ piece_lines l.front l.piece-items
