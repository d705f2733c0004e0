use Rattle.std.proofs.Common.{◌≡◌, map, drop}
use Rattle.place_core.specs.page.References.{reference_row}
use Rattle.place_core.specs.page.Characters.{whole_at}
use Rattle.html_words.proofs.names.whole_in.Given as goal

abbrev pub invariant-loop-row : goal.invariant-loop-row
invariant-loop-row l = whole_at (map (λ r. reference_row r.0.now r.1) (drop l.row-index l.rows)) l.name ≡ whole_at (map (λ r. reference_row r.0.now r.1) l.fn.rows) l.fn.name
