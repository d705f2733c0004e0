use Rattle.std.proofs.Common.{◌≡◌, drop, None}
use Rattle.tpl_tree.specs.View.{commands_view, operands_view}
use Rattle.tpl_eval.specs.Evaluating.{pipe_value, deciding_value, operand_values}
use Rattle.tpl_eval.specs.Scopes.{piped_view, scope_view}
use Rattle.tpl_eval.specs.Values.{values_view}
use Rattle.tpl_eval.proofs.Operands.{all_then}
use Rattle.tpl_eval.proofs.pipe.+evaluate.Given as goal

abbrev pub invariant-pipe_value-loop-command : goal.invariant-pipe_value-loop-command
invariant-pipe_value-loop-command l = pipe_value (scope_view l.scope) (commands_view (drop l.command-index l.command-items)) (piped_view l.piped) l.steps ≡ pipe_value (scope_view l.scope) (commands_view l.command-items) None l.fn.steps

abbrev pub invariant-deciding_value-loop-operand : goal.invariant-deciding_value-loop-operand
invariant-deciding_value-loop-operand l = deciding_value (scope_view l.scope) l.func (piped_view l.last) (operands_view (drop l.operand-index l.operand-items)) (piped_view l.piped) l.steps ≡ deciding_value (scope_view l.scope) l.func None (operands_view l.operand-items) (piped_view l.fn.piped) l.fn.steps

abbrev pub invariant-operand_values-loop-operand : goal.invariant-operand_values-loop-operand
invariant-operand_values-loop-operand l = all_then (values_view l.values.items) (operand_values (scope_view l.scope) (operands_view (drop l.operand-index l.operand-items)) l.steps) ≡ operand_values (scope_view l.scope) (operands_view l.operand-items) l.fn.steps
