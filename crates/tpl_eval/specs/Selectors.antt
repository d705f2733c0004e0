-- The part of a value that the name of a field or a key leads to.
use Rattle.std.specs.Prelude.{Option, Result}
use Rattle.page_datum.specs.Data.{Data}
use Rattle.page_datum.specs.View.{ref_view}
use Rattle.page_datum.specs.declared.fault.FaultKind.{FaultKind}
use Rattle.page_datum.specs.declared.fault.FaultKind.TheVariants.{NoField, NotIndexable}
use Rattle.tpl_eval.specs.Functions.{found_or_null}
use Rattle.tpl_eval.specs.declared.value.Selector.{Selector}
use Rattle.tpl_eval.specs.declared.value.Selector.TheVariants.{Field, Key}
use Rattle.tpl_value.specs.Picking.{field_of, index_of}

abbrev pub selected_by : Selector → Data → Result (Option Data) FaultKind
selected_by (Field name) x = field_of name.now x
selected_by (Key key) x = index_of x (ref_view key)

abbrev pub part_by : Selector → Data → Result Data FaultKind
part_by by x = found_or_null (selected_by by x)

-- why a text has no part
abbrev pub part_of_text : Selector → FaultKind
part_of_text (Field name) = NoField
part_of_text (Key key) = NotIndexable
