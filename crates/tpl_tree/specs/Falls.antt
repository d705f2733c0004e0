-- No command of a pipe and no operand of a call is deeper than the whole is large.
use Rattle.std.specs.Prelude.{◌≤◌, List, [], ◌∷◌}
use Rattle.std.proofs.Common.{arith}
use Rattle.tpl_tree.specs.Sizes.{pipe_size, command_size, operands_size, operand_size, base_size}
use Rattle.tpl_tree.specs.View.{base_view, operand_view, command_view, operands_view, commands_view}
use Rattle.tpl_tree.specs.declared.pipe.Base.{Base}
use Rattle.tpl_tree.specs.declared.pipe.Base.TheVariants as base
use Rattle.tpl_tree.specs.declared.pipe.Command.{Command}
use Rattle.tpl_tree.specs.declared.pipe.Command.TheVariants as command_kind
use Rattle.tpl_tree.specs.declared.pipe.Operand.{Operand}
use Rattle.tpl_tree.specs.declared.pipe.Commands.TheDeep.{deep-Base, deep-Command, deep-Operand}
use denote.Param.Weighed.{most}

base_falls : (b : Base) → deep-Base b ≤ base_size (base_view b)
base_falls (base.Str value) = omega arith
base_falls (base.Number n) = omega arith
base_falls (base.Bool b) = omega arith
base_falls base.Nil = omega arith
base_falls base.Dot = omega arith
base_falls (base.Variable name) = omega arith
base_falls (base.Paren p) = omega arith

operand_falls : (o : Operand) → deep-Operand o ≤ operand_size (operand_view o)
operand_falls o = omega (arith, base_falls o.base)

command_falls : (c : Command) → deep-Command c ≤ command_size (command_view c)
command_falls (command_kind.Single o) = omega (arith, operand_falls o)
command_falls (command_kind.Call f os) = omega arith

pub most_le-operands_size : (os : List Operand) → most deep-Operand os ≤ operands_size (operands_view os)
most_le-operands_size [] = omega arith
most_le-operands_size (o ∷ os) = omega (arith, operand_falls o, most_le-operands_size os)

pub most_le-pipe_size : (cs : List Command) → most deep-Command cs ≤ pipe_size (commands_view cs)
most_le-pipe_size [] = omega arith
most_le-pipe_size (c ∷ cs) = omega (arith, command_falls c, most_le-pipe_size cs)
