-- Each command of a pipe and each operand of a call is smaller than the whole.
use Rattle.std.proofs.Common.{zero, suc, ◌<◌, List, [], ◌∷◌, arith}
use Rattle.std.specs.List.{All}
use Rattle.tpl_tree.specs.Sizes.{pipe_size, command_size, operands_size, operand_size}
use Rattle.tpl_tree.specs.View.{command_view, commands_view, operand_view, operands_view}
use Rattle.tpl_tree.specs.declared.pipe.Command.{Command}
use Rattle.tpl_tree.specs.declared.pipe.Operand.{Operand}

pub commands_smaller : (cs : List Command) → All (λ c. command_size (command_view c) < pipe_size (commands_view cs)) cs
commands_smaller [] k d inside = absurd (omega arith)
commands_smaller (x ∷ cs) zero d inside = omega arith
commands_smaller (x ∷ cs) (suc k) d inside = omega (arith, commands_smaller cs k d (omega arith))

pub operands_smaller : (os : List Operand) → All (λ o. operand_size (operand_view o) < operands_size (operands_view os)) os
operands_smaller [] k d inside = absurd (omega arith)
operands_smaller (x ∷ os) zero d inside = omega arith
operands_smaller (x ∷ os) (suc k) d inside = omega (arith, operands_smaller os k d (omega arith))
