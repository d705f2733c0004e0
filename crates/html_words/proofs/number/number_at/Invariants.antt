use Rattle.std.proofs.Common.{◌≡◌, map, drop}
use Rattle.place_core.specs.page.References.{number_at as number_at_of, reference_row}
use Rattle.html_words.proofs.number.number_at.Given as goal

abbrev pub invariant-loop-row : goal.invariant-loop-row
invariant-loop-row l = number_at_of (map (λ r. reference_row r.0 r.1) (drop l.row-index l.rows)) l.number ≡ number_at_of (map (λ r. reference_row r.0 r.1) l.fn.rows) l.fn.number
