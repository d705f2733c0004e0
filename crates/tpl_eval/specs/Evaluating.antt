-- What pipes give (Go's `text/template`, "Arguments" and "Pipelines", in a profile).
use Rattle.std.specs.Prelude.{◌≡◌, ℕ, Bool, true, false, not, ◌&&◌, List, [], ◌∷◌, ◌++◌, Option, Some, None, Result, Ok, Err, if◌then◌else◌, bytes_eq}
use Rattle.page_datum.specs.Data.{Data, null, int, text}
use Rattle.page_datum.specs.Data as datum
use Rattle.page_datum.specs.declared.fault.FaultKind.{FaultKind}
use Rattle.page_datum.specs.declared.fault.FaultKind.TheVariants.{WrongCount}
use Rattle.tpl_eval.specs.Functions.{Outcome, function_called, counted, on_ok, or_null}
use Rattle.tpl_symbol.specs.declared.func.Func.{Func}
use Rattle.tpl_symbol.specs.declared.func.Func.TheVariants as func
use Rattle.tpl_tree.specs.Pipes.{PipeData, no_commands, command, CommandData, single, call, OperandsData, no_operands, operand, OperandData, with_fields, BaseData, str, number, truth, nil, dot, variable, paren}
use Rattle.tpl_value.specs.Picking.{field_of}
use Rattle.tpl_value.specs.Truth.{truth_of}

-- variables with their values, the newest first; `$` has the empty name
abbrev pub Variables : Type 0
Variables = List (List ℕ × Data)

-- what an evaluation sees: dot and the variables
pub record ScopeData : Type 0 where
  pub dot : Data
  pub variables : Variables

-- the value of the newest variable of a name
abbrev pub variable_value : List ℕ → Variables → Data
variable_value name [] = null
variable_value name (v ∷ vs) = if bytes_eq v.0 name then v.1 else variable_value name vs

-- another value for the newest variable of a name
abbrev pub scope_assigned : List ℕ → Data → Variables → Variables
scope_assigned name value [] = []
scope_assigned name value (v ∷ vs) = if bytes_eq v.0 name then (name, value) ∷ vs else v ∷ scope_assigned name value vs

-- the value of a field, and of that the value of the next one
abbrev pub evaluated_within : Data → List (List ℕ) → Result Data FaultKind
evaluated_within x [] = Ok x
evaluated_within x (name ∷ names) = on_ok (field_of name x) (λ part. evaluated_within (or_null part) names)

-- a function that does not evaluate all of its arguments
abbrev pub is_lazy : Func → Bool
is_lazy func.And = true
is_lazy func.Or = true
is_lazy f = false

-- an argument that decides: an empty one for `and`, one that is not for `or`
abbrev pub decides : Func → Data → Bool
decides func.And x = not (truth_of x)
decides f x = truth_of x

-- `html` or `urlquery`
abbrev pub is_escaper_call : Func → Bool
is_escaper_call func.Html = true
is_escaper_call func.Urlquery = true
is_escaper_call f = false

-- the piped value as the last argument
abbrev pub with_piped : Option Data → List Data
with_piped (Some x) = x ∷ []
with_piped None = []

-- exactly one argument, written or piped
abbrev pub has_one_operand : OperandsData → Option Data → Bool
has_one_operand no_operands (Some x) = true
has_one_operand no_operands None = false
has_one_operand (operand o no_operands) None = true
has_one_operand (operand o no_operands) (Some x) = false
has_one_operand (operand o (operand p rest)) piped = false

-- a pipe of one operand, and the operand that is dot itself
abbrev pub IsAlone : OperandData → PipeData → Type 0
IsAlone o pipe = pipe ≡ command (single o) no_commands

abbrev pub dot_alone : OperandData
dot_alone = with_fields dot []

-- where no argument decides: the piped value, or the last operand
abbrev pub undecided : Option Data → Option Data → ℕ → Outcome Data
undecided last (Some x) steps = Ok (x, steps)
undecided (Some x) None steps = Ok (x, steps)
undecided None None steps = Err WrongCount

-- what a function gives, given what its first deciding argument is, or what all of them are
abbrev pub function_value : Func → Option Data → Outcome Data → Outcome (List Data) → Outcome Data
function_value f piped deciding args = if is_lazy f then deciding else on_ok args (λ v. function_called f (v.0 ++ with_piped piped) v.1)

abbrev mutual
  -- the commands of a pipe, each given the value of the one before it
  pub pipe_value : ScopeData → PipeData → Option Data → ℕ → Outcome Data
  pipe_value s no_commands (Some x) steps = Ok (x, steps)
  pipe_value s no_commands None steps = Ok (null, steps)
  pipe_value s (command c rest) piped steps = on_ok (command_value s c piped steps) (λ v. pipe_value s rest (Some v.0) v.1)

  -- a command, which is a step; an escaper with exactly one argument is dropped
  pub command_value : ScopeData → CommandData → Option Data → ℕ → Outcome Data
  command_value s (single o) piped steps = on_ok (counted 1 steps) (λ now. operand_value s o now)
  command_value s (call f operands) piped steps =
      if is_escaper_call f && has_one_operand operands piped then dropped_value s operands piped steps
      else on_ok (counted 1 steps) (λ now. function_value f piped (deciding_value s f None operands piped now) (operand_values s operands now))

  -- an escaper is dropped: its argument stands in its place, an operand as a command
  pub dropped_value : ScopeData → OperandsData → Option Data → ℕ → Outcome Data
  dropped_value s (operand o rest) piped steps = on_ok (counted 1 steps) (λ now. operand_value s o now)
  dropped_value s no_operands (Some x) steps = Ok (x, steps)
  dropped_value s no_operands None steps = Err WrongCount

  -- the first argument that decides, or the last one, given the operand before them, if there is one
  pub deciding_value : ScopeData → Func → Option Data → OperandsData → Option Data → ℕ → Outcome Data
  deciding_value s f last no_operands piped steps = undecided last piped steps
  deciding_value s f last (operand o rest) piped steps = on_ok (operand_value s o steps) (λ v. if decides f v.0 then Ok v else deciding_value s f (Some v.0) rest piped v.1)

  -- operands, from left to right
  pub operand_values : ScopeData → OperandsData → ℕ → Outcome (List Data)
  operand_values s no_operands steps = Ok ([], steps)
  operand_values s (operand o rest) steps = on_ok (operand_value s o steps) (λ v. on_ok (operand_values s rest v.1) (λ w. Ok (v.0 ∷ w.0, w.1)))

  -- a base, and fields within it
  pub operand_value : ScopeData → OperandData → ℕ → Outcome Data
  operand_value s (with_fields base names) steps = on_ok (base_value s base steps) (λ v. on_ok (evaluated_within v.0 names) (λ x. Ok (x, v.1)))

  -- what stands first in an operand
  pub base_value : ScopeData → BaseData → ℕ → Outcome Data
  base_value s (str bytes) steps = Ok (text bytes, steps)
  base_value s (number n) steps = Ok (int n, steps)
  base_value s (truth b) steps = Ok (datum.truth b, steps)
  base_value s nil steps = Ok (null, steps)
  base_value s dot steps = Ok (s.dot, steps)
  base_value s (variable name) steps = Ok (variable_value name s.variables, steps)
  base_value s (paren p) steps = pipe_value s p None steps
