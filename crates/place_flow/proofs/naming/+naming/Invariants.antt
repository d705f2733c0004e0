use Rattle.std.proofs.Common.{◌≡◌, drop}
use Rattle.tpl_tree.specs.View.{commands_view, operands_view}
use Rattle.place_flow.specs.Naming.{names_escaper, operands_name_escaper}
use Rattle.place_flow.proofs.naming.+naming.Given as goal

abbrev pub invariant-names_escaper-loop-command : goal.invariant-names_escaper-loop-command
invariant-names_escaper-loop-command l =
    names_escaper (commands_view (drop l.command-index l.command-items)) ≡ names_escaper (commands_view l.command-items)

abbrev pub invariant-operands_name_escaper-loop-operand : goal.invariant-operands_name_escaper-loop-operand
invariant-operands_name_escaper-loop-operand l =
    operands_name_escaper (operands_view (drop l.operand-index l.operand-items)) ≡ operands_name_escaper (operands_view l.operand-items)
