-- A size of pipes, which is larger than that of each of their parts: what a recursion over pipes goes down by.
use Rattle.std.specs.Prelude.{ℕ, ◌+◌}
use Rattle.tpl_tree.specs.Pipes.{PipeData, no_commands, command, CommandData, single, call, OperandsData, no_operands, operand, OperandData, with_fields, BaseData, str, number, truth, nil, dot, variable, paren}

abbrev mutual
  pub pipe_size : PipeData → ℕ
  pipe_size no_commands = 0
  pipe_size (command c rest) = 1 + command_size c + pipe_size rest

  pub command_size : CommandData → ℕ
  command_size (single o) = 1 + operand_size o
  command_size (call f os) = 1 + operands_size os

  pub operands_size : OperandsData → ℕ
  operands_size no_operands = 0
  operands_size (operand o rest) = 1 + operand_size o + operands_size rest

  pub operand_size : OperandData → ℕ
  operand_size (with_fields b fields) = 1 + base_size b

  pub base_size : BaseData → ℕ
  base_size (str value) = 1
  base_size (number n) = 1
  base_size (truth b) = 1
  base_size nil = 1
  base_size dot = 1
  base_size (variable name) = 1
  -- one for the base, and one for the pipe around its commands
  base_size (paren p) = 2 + pipe_size p
