use Rattle.std.proofs.Common.{◌≡◌, length, reverse}
use Rattle.std.specs.List.{All}
use Rattle.tpl_symbol.specs.Symbols.{IsFineSymbol}
use Rattle.tpl_parse.specs.Phases.{phase_of}
use Rattle.tpl_parse.specs.Steps.{parser_run, state}
use Rattle.tpl_parse.proofs.reader.run_symbols.Given as goal

abbrev pub invariant-loop-symbol : goal.invariant-loop-symbol
invariant-loop-symbol l = record {
  reads : parser_run (state l.builder (phase_of l.position l.action)) (reverse l.left.items) ≡ parser_run (state l.initial.builder (phase_of l.initial.position l.initial.action)) l.fn.symbols;
  fine : All IsFineSymbol (reverse l.left.items);
}

abbrev pub decreases-loop-symbol : goal.decreases-loop-symbol
decreases-loop-symbol l = length l.left.items
