-- Whether an escaper stands in a pipe.
use Rattle.std.specs.Prelude.{Bool, true, false, ◌||◌}
use Rattle.tpl_symbol.specs.declared.func.Func.{Func}
use Rattle.tpl_symbol.specs.declared.func.Func.TheVariants as func
use Rattle.tpl_tree.specs.Pipes.{PipeData, no_commands, command, CommandData, single, call, OperandsData, no_operands, operand, OperandData, with_fields, BaseData, str, number, truth, nil, dot, variable, paren}

-- `html` or `urlquery`
abbrev pub is_escaper_function : Func → Bool
is_escaper_function func.Html = true
is_escaper_function func.Urlquery = true
is_escaper_function f = false

abbrev mutual
  -- an escaper stands anywhere in a pipe, also within parentheses
  pub names_escaper : PipeData → Bool
  names_escaper no_commands = false
  names_escaper (command c rest) = command_names_escaper c || names_escaper rest

  pub command_names_escaper : CommandData → Bool
  command_names_escaper (single o) = operand_names_escaper o
  command_names_escaper (call f operands) = is_escaper_function f || operands_name_escaper operands

  pub operands_name_escaper : OperandsData → Bool
  operands_name_escaper no_operands = false
  operands_name_escaper (operand o rest) = operand_names_escaper o || operands_name_escaper rest

  pub operand_names_escaper : OperandData → Bool
  operand_names_escaper (with_fields base names) = base_names_escaper base

  pub base_names_escaper : BaseData → Bool
  base_names_escaper (str bytes) = false
  base_names_escaper (number n) = false
  base_names_escaper (truth b) = false
  base_names_escaper nil = false
  base_names_escaper dot = false
  base_names_escaper (variable name) = false
  base_names_escaper (paren p) = names_escaper p
