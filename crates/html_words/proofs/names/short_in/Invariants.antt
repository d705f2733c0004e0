use Rattle.std.proofs.Common.{◌≡◌, map, drop}
use Rattle.place_core.specs.page.References.{reference_row}
use Rattle.html_words.specs.ShortNames.{short_in}
use Rattle.html_words.proofs.names.short_in.Given as goal

abbrev pub invariant-loop-row : goal.invariant-loop-row
invariant-loop-row l = short_in (map (λ r. reference_row r.0.now r.1) (drop l.row-index l.rows)) l.name ≡ short_in (map (λ r. reference_row r.0.now r.1) l.fn.rows) l.fn.name
