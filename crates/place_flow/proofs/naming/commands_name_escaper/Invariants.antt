use Rattle.std.proofs.Common.{◌≡◌, drop}
use Rattle.tpl_tree.specs.View.{commands_view}
use Rattle.place_flow.specs.Naming.{names_escaper}
use Rattle.place_flow.proofs.naming.commands_name_escaper.Given as goal

abbrev pub invariant-loop-command : goal.invariant-loop-command
invariant-loop-command l = names_escaper (commands_view (drop l.command-index l.commands)) ≡ names_escaper (commands_view l.commands)
