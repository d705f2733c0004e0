use Rattle.std.proofs.Common.{◌≡◌, ◌++◌, drop}
use Rattle.tpl_print.specs.Pipes.{pipe_text, operands_text}
use Rattle.tpl_print.proofs.Left.{left_commands}
use Rattle.tpl_tree.specs.View.{commands_view, operands_view}
use Rattle.tpl_print.proofs.pipe.+push.Given as goal

abbrev pub invariant-push_commands-loop-command : goal.invariant-push_commands-loop-command
invariant-push_commands-loop-command l = l.out ++ left_commands l.first (commands_view (drop l.command-index l.command-items)) ≡ l.fn.out ++ pipe_text (commands_view l.command-items)

abbrev pub invariant-push_operands-loop-operand : goal.invariant-push_operands-loop-operand
invariant-push_operands-loop-operand l = l.out ++ operands_text (operands_view (drop l.operand-index l.operand-items)) ≡ l.fn.out ++ operands_text (operands_view l.operand-items)
