-- What an evaluation sees, in the code and as data.
use Rattle.std.specs.Prelude.{Option, Some, None}
use Rattle.page_datum.specs.Data.{Data}
use Rattle.tpl_eval.specs.Evaluating.{ScopeData}
use Rattle.tpl_eval.specs.Values.{value_view}
use Rattle.tpl_eval.specs.declared.scope.Scope.{Scope}
use Rattle.tpl_eval.specs.declared.value.Value.{Value}

abbrev pub scope_view : Scope → ScopeData
scope_view s = record { dot = value_view s.dot.now; variables = s.variables.now }

-- a piped value, where there is one
abbrev pub piped_view : Option Value → Option Data
piped_view (Some v) = Some (value_view v)
piped_view None = None
