use Rattle.std.proofs.Common.{◌≡◌, [], ◌∷◌, ◌++◌, List, ap, ◌∙◌, sym, subst, reverse}
use Rattle.std.proofs.lemmas.List.{reverse-append}
use Rattle.std.proofs.lemmas.List.Elements.{All-rest}
use Rattle.std.specs.List.{All}
use Rattle.tpl_parse.proofs.SymbolSteps.{reads_on}
use Rattle.tpl_parse.specs.Phases.{phase_of}
use Rattle.tpl_parse.specs.Steps.{state}
use Rattle.tpl_symbol.specs.Symbols.{IsFineSymbol}
use Rattle.tpl_symbol.specs.declared.symbol.Symbol.{Symbol}
use Rattle.tpl_parse.proofs.reader.run_symbols.Goals as goal

pub loop-symbol-preserved : goal.loop-symbol-preserved
loop-symbol-preserved c =
    let l = c.loop-symbol in
    let rest = c.pop.new.self.items in
    let symbol = c.in-Some.symbol in
    let next : reverse l.left.items ≡ symbol ∷ reverse rest = ap reverse c.in-Some.ensures.items ∙ reverse-append rest (symbol ∷ []) in
    let same : reverse c.release.new.left.items ≡ reverse rest = ap reverse c.release.ensures in
    let reads = sym (reads_on (state l.builder (phase_of l.position l.action)) _ (reverse l.left.items) (reverse rest) symbol next c.in-Ok.ensures) ∙ l.invariant.reads in
    let fine : All IsFineSymbol (reverse rest) = All-rest IsFineSymbol symbol (reverse rest) (reverse l.left.items) next l.invariant.fine in
    rw same (record { reads = reads; fine = fine })
