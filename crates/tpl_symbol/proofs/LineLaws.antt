-- Lines are counted on from an offset.
use Rattle.std.proofs.Common.{◌≡◌, ℕ, ◌+◌, ◌-◌, ◌≤◌, List, take, drop, ap, ◌∙◌, arith}
use Rattle.std.proofs.Math.Seq.{take-add}
use Rattle.page_io.proofs.Feeds.{line_feeds-append}
use Rattle.page_io.specs.Lines.{line_feeds}
use Rattle.tpl_symbol.specs.Lines.{line_of}

-- the line at a later offset
pub line_of-later : (text : List ℕ) (at offset : ℕ) → at ≤ offset → line_of text offset ≡ line_of text at + line_feeds (take (offset - at) (drop at text))
line_of-later text at offset later =
    let whole : at + (offset - at) ≡ offset = omega arith in
    let parts : line_feeds (take (at + (offset - at)) text) ≡ line_feeds (take at text) + line_feeds (take (offset - at) (drop at text)) =
    ap line_feeds (take-add at (offset - at) text) ∙ line_feeds-append (take at text) (take (offset - at) (drop at text)) in
    omega (arith, parts, ap (λ (n : ℕ). line_feeds (take n text)) whole)
