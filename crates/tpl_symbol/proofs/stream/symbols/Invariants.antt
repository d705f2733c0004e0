use Rattle.std.proofs.Common.{◌≡◌, ◌-◌, ◌≤◌, length}
use Rattle.std.specs.List.{All}
use Rattle.tpl_symbol.proofs.Lengths.{IsWithin}
use Rattle.tpl_symbol.proofs.LowLines.{HasLowLines}
use Rattle.tpl_symbol.specs.Lines.{line_of}
use Rattle.tpl_symbol.specs.Symbols.{symbols_from, symbols_of}
use Rattle.tpl_token.specs.Spans.{AreCuts, Ascend}
use Rattle.tpl_symbol.proofs.stream.symbols.Given as goal

abbrev pub invariant-loop-token : goal.invariant-loop-token
invariant-loop-token l = record {
  within : l.end ≤ length l.text;
  spans : Ascend l.end (length l.text) l.left;
  cuts : AreCuts l.text l.left;
  counted : l.counter.line ≡ line_of l.text l.counter.at;
  later : l.counter.at ≤ l.end - 1;
  texts : All (IsWithin l.end) l.symbols.items;
  lines : All HasLowLines l.symbols.items;
  rest : symbols_from l.text l.symbols.items l.end l.comment_before l.left ≡ symbols_of l.text l.tokens;
}

abbrev pub decreases-loop-token : goal.decreases-loop-token
decreases-loop-token l = length l.left
