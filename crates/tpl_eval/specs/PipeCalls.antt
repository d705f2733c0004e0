-- What the functions of the code give that evaluate the parts of pipes.
use Rattle.std.specs.Prelude.{◌≡◌, ℕ, ◌++◌, Option, None, Result, Vec}
use Rattle.std.specs.declared.alloc.Global.{Global}
use Rattle.page_datum.specs.declared.stop.ValueStop.{ValueStop}
use Rattle.tpl_eval.specs.Evaluating.{base_value, command_value, deciding_value, dropped_value, function_value, operand_value, operand_values, pipe_value, with_piped}
use Rattle.tpl_eval.specs.Scopes.{piped_view, scope_view}
use Rattle.tpl_eval.specs.Values.{AllAnswers, OutcomeAnswers, values_view}
use Rattle.tpl_eval.specs.declared.scope.Scope.{Scope}
use Rattle.tpl_eval.specs.declared.value.Value.{Value}
use Rattle.tpl_symbol.specs.declared.func.Func.{Func}
use Rattle.tpl_tree.specs.Pipes.{OperandsData, single}
use Rattle.tpl_tree.specs.View.{base_view, command_view, operand_view}
use Rattle.tpl_tree.specs.declared.pipe.Base.{Base}
use Rattle.tpl_tree.specs.declared.pipe.Command.{Command}
use Rattle.tpl_tree.specs.declared.pipe.Operand.{Operand}
use Rattle.tpl_tree.specs.declared.pipe.Pipe.{Pipe}

abbrev pub CommandAnswers : Scope → Command → Option Value → ℕ → Result (Value × ℕ) ValueStop → Type 0
CommandAnswers s c piped steps result = OutcomeAnswers (command_value (scope_view s) (command_view c) (piped_view piped) steps) result

-- an operand as a command
abbrev pub SingleAnswers : Scope → Operand → ℕ → Result (Value × ℕ) ValueStop → Type 0
SingleAnswers s o steps result = OutcomeAnswers (command_value (scope_view s) (single (operand_view o)) None steps) result

abbrev pub DroppedAnswers : Scope → OperandsData → Option Value → ℕ → Result (Value × ℕ) ValueStop → Type 0
DroppedAnswers s operands piped steps result = OutcomeAnswers (dropped_value (scope_view s) operands (piped_view piped) steps) result

abbrev pub DecidingAnswers : Scope → Func → OperandsData → Option Value → ℕ → Result (Value × ℕ) ValueStop → Type 0
DecidingAnswers s f operands piped steps result = OutcomeAnswers (deciding_value (scope_view s) f None operands (piped_view piped) steps) result

abbrev pub FunctionCallAnswers : Scope → Func → OperandsData → Option Value → ℕ → Result (Value × ℕ) ValueStop → Type 0
FunctionCallAnswers s f operands piped steps result =
    OutcomeAnswers (function_value f (piped_view piped) (deciding_value (scope_view s) f None operands (piped_view piped) steps) (operand_values (scope_view s) operands steps)) result

abbrev pub OperandAnswers : Scope → Operand → ℕ → Result (Value × ℕ) ValueStop → Type 0
OperandAnswers s o steps result = OutcomeAnswers (operand_value (scope_view s) (operand_view o) steps) result

abbrev pub BaseAnswers : Scope → Base → ℕ → Result (Value × ℕ) ValueStop → Type 0
BaseAnswers s b steps result = OutcomeAnswers (base_value (scope_view s) (base_view b) steps) result

abbrev pub OperandsAnswers : Scope → OperandsData → ℕ → Result (Vec Value Global × ℕ) ValueStop → Type 0
OperandsAnswers s operands steps result = AllAnswers (operand_values (scope_view s) operands steps) result

abbrev pub EvaluateAnswers : Scope → Pipe → ℕ → Result (Value × ℕ) ValueStop → Type 0
EvaluateAnswers s pipe steps result = OutcomeAnswers (pipe_value (scope_view s) pipe.commands None steps) result

-- arguments with a piped value as the last one
abbrev pub IsPipedTo : Vec Value Global → Option Value → Vec Value Global → Type 0
IsPipedTo args piped all = values_view all.items ≡ values_view args.items ++ with_piped (piped_view piped)
