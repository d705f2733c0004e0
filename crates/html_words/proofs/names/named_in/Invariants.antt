use Rattle.std.proofs.Common.{◌≡◌, map, drop}
use Rattle.place_core.specs.page.References.{named_in as named_in_of, reference_row}
use Rattle.html_words.proofs.names.named_in.Given as goal

abbrev pub invariant-loop-row : goal.invariant-loop-row
invariant-loop-row l = named_in_of (map (λ r. reference_row r.0.now r.1) (drop l.row-index l.rows)) l.name ≡ named_in_of (map (λ r. reference_row r.0.now r.1) l.fn.rows) l.fn.name
