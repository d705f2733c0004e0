-- Pipes: what an action computes.
use Rattle.std.specs.Prelude.{ℕ, ℤ, Bool, List}
use Rattle.tpl_symbol.specs.declared.func.Func.{Func}

mutual
  -- commands, of which each gives its value to the next one
  pub data PipeData : Type 0 where
    no_commands : PipeData
    command : CommandData → PipeData → PipeData

  -- an operand alone, or a function and its operands
  pub data CommandData : Type 0 where
    single : OperandData → CommandData
    call : Func → OperandsData → CommandData

  -- the operands of a call, in order
  pub data OperandsData : Type 0 where
    no_operands : OperandsData
    operand : OperandData → OperandsData → OperandsData

  -- a base, and the names of the fields that follow it
  pub data OperandData : Type 0 where
    with_fields : BaseData → List (List ℕ) → OperandData

  -- a string by its value, a variable by its name without `$`
  pub data BaseData : Type 0 where
    str : List ℕ → BaseData
    number : ℤ → BaseData
    truth : Bool → BaseData
    nil : BaseData
    dot : BaseData
    variable : List ℕ → BaseData
    paren : PipeData → BaseData
