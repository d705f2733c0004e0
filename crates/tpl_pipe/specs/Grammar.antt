-- The grammar of pipes over the symbols of a file. Each relation says: these are the symbols up to the rest.
use Rattle.std.specs.Prelude.{◌≡◌, ℕ, suc, true, false, List, [], ◌∷◌, ⊤}
use Rattle.tpl_pipe.specs.Reading.{variable_declared}
use Rattle.tpl_symbol.specs.declared.symbol.Symbol.{Symbol}
use Rattle.tpl_symbol.specs.declared.symbol.SymbolKind.{SymbolKind}
use Rattle.tpl_symbol.specs.declared.symbol.SymbolKind.TheVariants as kind
use Rattle.tpl_symbol.specs.declared.word.Word.TheVariants as word
use Rattle.tpl_tree.specs.Pipes.{PipeData, no_commands, command, CommandData, single, call, OperandsData, no_operands, operand, OperandData, with_fields, BaseData, str, number, truth, nil, dot, variable, paren}

-- one symbol of this kind
abbrev pub SymbolStands : SymbolKind → List Symbol → List Symbol → Type 0
SymbolStands what [] rest = ⊥
SymbolStands what (s ∷ symbols) rest = (s.kind ≡ what) × (symbols ≡ rest)

-- a field that touches what stands before it
abbrev pub Touching : List ℕ → List Symbol → List Symbol → Type 0
Touching name [] rest = ⊥
Touching name (s ∷ symbols) rest = (s.kind ≡ kind.Field name) × (s.touches ≡ true) × (symbols ≡ rest)

-- all the fields of an operand: white space, or anything else, ends them
abbrev pub AreFields : List (List ℕ) → List Symbol → List Symbol → Type 0
AreFields [] symbols rest = (symbols ≡ rest) × ((name : List ℕ) (more : List Symbol) → Touching name symbols more → ⊥)
AreFields (name ∷ names) symbols rest = (more : List Symbol) × Touching name symbols more × AreFields names more rest

-- `nil` is no whole command
abbrev pub IsNil : OperandData → Type 0
IsNil (with_fields nil fields) = ⊤
IsNil _ = ⊥

abbrev mutual
  -- a pipe, where variables of these names are declared, and so many more parentheses may be opened: a command, and calls after bars
  pub IsPipe : List (List ℕ) → ℕ → PipeData → List Symbol → List Symbol → Type 0
  IsPipe variables room no_commands symbols rest = ⊥
  IsPipe variables room (command c more) symbols rest =
      (following : List Symbol) × IsFirst variables room c symbols following × AreCalls variables room more following rest

  -- an operand alone, or a call
  pub IsFirst : List (List ℕ) → ℕ → CommandData → List Symbol → List Symbol → Type 0
  IsFirst variables room (single o) symbols rest = (IsNil o → ⊥) × IsOperand variables room o symbols rest
  IsFirst variables room (call f os) symbols rest =
      (following : List Symbol) × SymbolStands (kind.Function f) symbols following × AreOperands variables room os following rest

  pub AreCalls : List (List ℕ) → ℕ → PipeData → List Symbol → List Symbol → Type 0
  AreCalls variables room no_commands symbols rest = symbols ≡ rest
  AreCalls variables room (command c more) symbols rest =
      (bar following : List Symbol) × SymbolStands kind.Bar symbols bar × IsCall variables room c bar following × AreCalls variables room more following rest

  -- a function and its operands
  pub IsCall : List (List ℕ) → ℕ → CommandData → List Symbol → List Symbol → Type 0
  IsCall variables room (single o) symbols rest = ⊥
  IsCall variables room (call f os) symbols rest =
      (following : List Symbol) × SymbolStands (kind.Function f) symbols following × AreOperands variables room os following rest

  pub AreOperands : List (List ℕ) → ℕ → OperandsData → List Symbol → List Symbol → Type 0
  AreOperands variables room no_operands symbols rest = symbols ≡ rest
  AreOperands variables room (operand o os) symbols rest =
      (following : List Symbol) × IsOperand variables room o symbols following × AreOperands variables room os following rest

  pub IsOperand : List (List ℕ) → ℕ → OperandData → List Symbol → List Symbol → Type 0
  IsOperand variables room (with_fields b fields) symbols rest = IsBase variables room b fields symbols rest

  -- a base with these fields: the first of `.a.b` need not touch, and strings, numbers and words have none
  pub IsBase : List (List ℕ) → ℕ → BaseData → List (List ℕ) → List Symbol → List Symbol → Type 0
  IsBase variables room (str value) [] symbols rest = SymbolStands (kind.Str value) symbols rest
  IsBase variables room (number n) [] symbols rest = SymbolStands (kind.Number n) symbols rest
  IsBase variables room (truth true) [] symbols rest = SymbolStands (kind.Word word.True) symbols rest
  IsBase variables room (truth false) [] symbols rest = SymbolStands (kind.Word word.False) symbols rest
  IsBase variables room nil [] symbols rest = SymbolStands (kind.Word word.Nil) symbols rest
  IsBase variables room dot [] symbols rest = SymbolStands kind.Dot symbols rest
  IsBase variables room dot (name ∷ names) symbols rest =
      (following : List Symbol) × SymbolStands (kind.Field name) symbols following × AreFields names following rest
  IsBase variables room (variable name) fields symbols rest =
      (following : List Symbol) × (variable_declared variables name ≡ true) × SymbolStands (kind.Variable name) symbols following × AreFields fields following rest
  IsBase variables (suc room) (paren p) fields symbols rest =
      (inner end following : List Symbol) × SymbolStands kind.Left symbols inner × IsPipe variables room p inner end × SymbolStands kind.Right end following × AreFields fields following rest
  IsBase variables room b fields symbols rest = ⊥
