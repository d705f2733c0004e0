use Rattle.std.proofs.Common.{◌≡◌, take}
use Rattle.tpl_tree.proofs.copy.+copy.Given as goal

abbrev pub invariant-copy_commands-loop-command : goal.invariant-copy_commands-loop-command
invariant-copy_commands-loop-command l = l.copies.items ≡ take l.command-index l.command-items

abbrev pub invariant-copy_operands-loop-operand : goal.invariant-copy_operands-loop-operand
invariant-copy_operands-loop-operand l = l.copies.items ≡ take l.operand-index l.operand-items
