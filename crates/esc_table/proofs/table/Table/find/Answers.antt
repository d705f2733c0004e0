use Rattle.std.proofs.Common.{sym, ◌∙◌, drop, arith}
use Rattle.esc_table.proofs.Looking.{found_here, found_later, found_nowhere}
use Rattle.esc_table.proofs.table.Table.find.Goals as goal

pub returns-then-key-character : goal.returns-then-key-character
returns-then-key-character g c =
    let rows = c.self.inside in
    sym c.loop-i.invariant ∙ found_here rows.characters.now rows.replacements.now c.loop-i.i _ (omega arith) (omega arith) c.if-key-character.true

pub loop-i-preserved : goal.loop-i-preserved
loop-i-preserved g c =
    let rows = c.self.inside in
    found_later rows.characters.now rows.replacements.now c.loop-i.i _ (omega arith) (omega arith) c.if-key-character.false ∙ c.loop-i.invariant

pub returns : goal.returns
returns g c =
    let rows = c.self.inside in
    sym c.loop-i.invariant ∙ found_nowhere rows.characters.now (drop c.loop-i.i rows.replacements.now) c.loop-i.i _ (omega arith)
