use Rattle.std.proofs.Common.{◌-◌, length}
use Rattle.css_lexer.specs.States.{style_start}
use Rattle.page_style.specs.Reading.{no_pieces, style_point}
use Rattle.page_style.proofs.PartReads.{IsRead}
use Rattle.page_style.proofs.reading.style_pieces.Given as goal

abbrev pub invariant-loop-at : goal.invariant-loop-at
invariant-loop-at l = IsRead l.text l.at l.state l.pieces (style_point style_start no_pieces)

abbrev pub decreases-loop-at : goal.decreases-loop-at
decreases-loop-at l = length l.text - l.at
