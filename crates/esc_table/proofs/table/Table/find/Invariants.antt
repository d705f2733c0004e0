use Rattle.std.proofs.Common.{◌≡◌, drop}
use Rattle.esc_table.specs.Rows.{rows_of, found}
use Rattle.esc_table.proofs.table.Table.find.Given as goal

abbrev pub invariant-loop-i : goal.invariant-loop-i
invariant-loop-i g l =
    found (rows_of (drop l.i l.characters) (drop l.i l.replacements)) l.character ≡ found l.self l.character
