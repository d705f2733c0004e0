-- A dot that holds later.
use Rattle.std.specs.Prelude.{Option, Some, None, Box}
use Rattle.std.specs.declared.alloc.Global.{Global}
use Rattle.page_datum.specs.Data.{Data}
use Rattle.tpl_eval.specs.Values.{value_view}
use Rattle.tpl_eval.specs.declared.value.Value.{Value}

-- a dot that holds after a control, also in a box of its own
abbrev pub dot_view : Option Value → Option Data
dot_view (Some dot) = Some (value_view dot)
dot_view None = None

abbrev pub outer_view : Option (Box Value Global) → Option Data
outer_view (Some dot) = Some (value_view dot.value)
outer_view None = None
