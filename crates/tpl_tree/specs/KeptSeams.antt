-- The seams that a node has, as they are kept.
use Rattle.std.specs.Prelude.{List, [], Option, Some, None}
use Rattle.tpl_symbol.specs.declared.symbol.Seam.{Seam}

abbrev pub seams_view : Option (List Seam) → List Seam
seams_view None = []
seams_view (Some seams) = seams
