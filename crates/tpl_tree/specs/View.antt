-- What pipes and their parts stand for.
use Rattle.std.specs.Prelude.{List, [], ◌∷◌}
use Rattle.tpl_tree.specs.Pipes.{PipeData, no_commands, command, CommandData, single, call, OperandsData, no_operands, operand, OperandData, with_fields, BaseData, str, number, truth, nil, dot, variable, paren}
use Rattle.tpl_tree.specs.declared.pipe.Base.{Base}
use Rattle.tpl_tree.specs.declared.pipe.Base.TheVariants as base
use Rattle.tpl_tree.specs.declared.pipe.Command.{Command}
use Rattle.tpl_tree.specs.declared.pipe.Command.TheVariants as command_kind
use Rattle.tpl_tree.specs.declared.pipe.Operand.{Operand}
use Rattle.tpl_tree.specs.declared.pipe.Pipe.{Pipe}

abbrev pub pipe_view : Pipe → PipeData
pipe_view p = p.commands

abbrev pub base_view : Base → BaseData
base_view (base.Str value) = str value
base_view (base.Number n) = number n
base_view (base.Bool b) = truth b
base_view base.Nil = nil
base_view base.Dot = dot
base_view (base.Variable name) = variable name
base_view (base.Paren p) = paren (pipe_view p)

abbrev pub operand_view : Operand → OperandData
operand_view o = with_fields (base_view o.base) o.fields

abbrev pub command_view : Command → CommandData
command_view (command_kind.Single o) = single (operand_view o)
command_view (command_kind.Call f os) = call f os

abbrev pub operands_view : List Operand → OperandsData
operands_view [] = no_operands
operands_view (o ∷ os) = operand (operand_view o) (operands_view os)

abbrev pub commands_view : List Command → PipeData
commands_view [] = no_commands
commands_view (c ∷ cs) = command (command_view c) (commands_view cs)
