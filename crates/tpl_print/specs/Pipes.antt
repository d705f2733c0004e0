-- How pipes are printed: a space before each token, except for fields after an operand.
use Rattle.std.specs.Prelude.{ℕ, Bool, true, false, codes, List, [], ◌∷◌, ◌++◌}
use Rattle.std.specs.Fmt.{signed_decimal}
use Rattle.tpl_print.specs.Replaced.{print_escaped}
use Rattle.tpl_symbol.specs.Names.{function_name}
use Rattle.tpl_tree.specs.Pipes.{PipeData, no_commands, command, CommandData, single, call, OperandsData, no_operands, operand, OperandData, with_fields, BaseData, str, number, truth, nil, dot, variable, paren}

-- fields, each after its dot
abbrev pub fields_text : List (List ℕ) → List ℕ
fields_text [] = []
fields_text (name ∷ names) = codes "." ++ (name ++ fields_text names)

abbrev pub is_none : {A : Type 0} → List A → Bool
is_none [] = true
is_none (x ∷ xs) = false

abbrev mutual
  -- the commands of a pipe, with a bar between two
  pub pipe_text : PipeData → List ℕ
  pipe_text no_commands = []
  pipe_text (command c more) = command_text c ++ calls_text more

  pub calls_text : PipeData → List ℕ
  calls_text no_commands = []
  calls_text (command c more) = codes " |" ++ (command_text c ++ calls_text more)

  pub command_text : CommandData → List ℕ
  command_text (single o) = printed_operand o
  command_text (call f os) = codes " " ++ (function_name f ++ operands_text os)

  pub operands_text : OperandsData → List ℕ
  operands_text no_operands = []
  operands_text (operand o os) = printed_operand o ++ operands_text os

  pub printed_operand : OperandData → List ℕ
  printed_operand (with_fields b fields) = codes " " ++ (base_text b (is_none fields) ++ fields_text fields)

  -- a base, after which fields stand or not: of `.a` the dot is the field's
  pub base_text : BaseData → Bool → List ℕ
  base_text (str value) alone = codes "\"" ++ (print_escaped value ++ codes "\"")
  base_text (number n) alone = signed_decimal n
  base_text (truth true) alone = codes "true"
  base_text (truth false) alone = codes "false"
  base_text nil alone = codes "nil"
  base_text dot true = codes "."
  base_text dot false = []
  base_text (variable name) alone = codes "$" ++ name
  base_text (paren p) alone = codes "(" ++ (pipe_text p ++ codes " )")
