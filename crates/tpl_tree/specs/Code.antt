-- Pipes as trees of numbers, and back: the toolchain asks for such a code of a type with private contents in a circle of types.
use Rattle.std.specs.Prelude.{◌≡◌, refl, ℕ, zero, suc, pos, negsuc, true, false, List, [], ◌∷◌}
use Rattle.std.specs.Coded.{Coded, code_by}
use Rattle.tpl_tree.specs.Pipes.{PipeData, no_commands, command, CommandData, single, call, OperandsData, no_operands, operand, OperandData, with_fields, BaseData, str, number, truth, nil, dot, variable, paren}
use Rattle.tpl_symbol.specs.declared.func.Func.{Func}
use Rattle.tpl_symbol.specs.declared.func.Func.TheVariants as func
use Rattle.page_io.specs.BytesCode.{bytes_tree, bytes_from, bytes_from-bytes_tree}
use base.Stored.{Gv, gnil, gnum, gcons}
use denote.Struct.Codes.{itself}

abbrev pub names_tree : List (List ℕ) → Gv
names_tree [] = gnil
names_tree (n ∷ ns) = gcons (bytes_tree n) (names_tree ns)

abbrev pub names_from : Gv → List (List ℕ)
names_from (gcons n ns) = bytes_from n ∷ names_from ns
names_from _ = []

names_from-names_tree : (ns : List (List ℕ)) → names_from (names_tree ns) ≡ ns
names_from-names_tree [] = refl
names_from-names_tree (n ∷ ns) = λ i. bytes_from-bytes_tree n i ∷ names_from-names_tree ns i

-- the number of a function
abbrev pub func_number : Func → ℕ
func_number func.And = 0
func_number func.Or = 1
func_number func.Not = 2
func_number func.Eq = 3
func_number func.Ne = 4
func_number func.Lt = 5
func_number func.Le = 6
func_number func.Gt = 7
func_number func.Ge = 8
func_number func.Index = 9
func_number func.Slice = 10
func_number func.Len = 11
func_number func.Print = 12
func_number func.Println = 13
func_number func.Printf = 14
func_number func.Html = 15
func_number func.Urlquery = 16

abbrev pub func_of : ℕ → Func
func_of zero = func.And
func_of (suc zero) = func.Or
func_of (suc (suc zero)) = func.Not
func_of (suc (suc (suc zero))) = func.Eq
func_of (suc (suc (suc (suc zero)))) = func.Ne
func_of (suc (suc (suc (suc (suc zero))))) = func.Lt
func_of (suc (suc (suc (suc (suc (suc zero)))))) = func.Le
func_of (suc (suc (suc (suc (suc (suc (suc zero))))))) = func.Gt
func_of (suc (suc (suc (suc (suc (suc (suc (suc zero)))))))) = func.Ge
func_of (suc (suc (suc (suc (suc (suc (suc (suc (suc zero))))))))) = func.Index
func_of (suc (suc (suc (suc (suc (suc (suc (suc (suc (suc zero)))))))))) = func.Slice
func_of (suc (suc (suc (suc (suc (suc (suc (suc (suc (suc (suc zero))))))))))) = func.Len
func_of (suc (suc (suc (suc (suc (suc (suc (suc (suc (suc (suc (suc zero)))))))))))) = func.Print
func_of (suc (suc (suc (suc (suc (suc (suc (suc (suc (suc (suc (suc (suc zero))))))))))))) = func.Println
func_of (suc (suc (suc (suc (suc (suc (suc (suc (suc (suc (suc (suc (suc (suc zero)))))))))))))) = func.Printf
func_of (suc (suc (suc (suc (suc (suc (suc (suc (suc (suc (suc (suc (suc (suc (suc zero))))))))))))))) = func.Html
func_of _ = func.Urlquery

func_of-func_number : (f : Func) → func_of (func_number f) ≡ f
func_of-func_number func.And = refl
func_of-func_number func.Or = refl
func_of-func_number func.Not = refl
func_of-func_number func.Eq = refl
func_of-func_number func.Ne = refl
func_of-func_number func.Lt = refl
func_of-func_number func.Le = refl
func_of-func_number func.Gt = refl
func_of-func_number func.Ge = refl
func_of-func_number func.Index = refl
func_of-func_number func.Slice = refl
func_of-func_number func.Len = refl
func_of-func_number func.Print = refl
func_of-func_number func.Println = refl
func_of-func_number func.Printf = refl
func_of-func_number func.Html = refl
func_of-func_number func.Urlquery = refl

abbrev mutual
  pub pipe_tree : PipeData → Gv
  pipe_tree no_commands = gnil
  pipe_tree (command c rest) = gcons (command_tree c) (pipe_tree rest)

  pub command_tree : CommandData → Gv
  command_tree (single o) = gcons gnil (operand_tree o)
  command_tree (call f os) = gcons (gnum (func_number f)) (operands_tree os)

  pub operands_tree : OperandsData → Gv
  operands_tree no_operands = gnil
  operands_tree (operand o rest) = gcons (operand_tree o) (operands_tree rest)

  pub operand_tree : OperandData → Gv
  operand_tree (with_fields b fields) = gcons (base_tree b) (names_tree fields)

  pub base_tree : BaseData → Gv
  base_tree nil = gnil
  base_tree dot = gcons (gnum 0) gnil
  base_tree (truth false) = gcons (gnum 1) gnil
  base_tree (truth true) = gcons (gnum 2) gnil
  base_tree (number (pos n)) = gcons (gnum 3) (gnum n)
  base_tree (number (negsuc n)) = gcons (gnum 4) (gnum n)
  base_tree (str value) = gcons (gnum 5) (bytes_tree value)
  base_tree (variable name) = gcons (gnum 6) (bytes_tree name)
  base_tree (paren p) = gcons (gnum 7) (pipe_tree p)

abbrev mutual
  pub pipe_from : Gv → PipeData
  pipe_from (gcons c rest) = command (command_from c) (pipe_from rest)
  pipe_from _ = no_commands

  pub command_from : Gv → CommandData
  command_from (gcons gnil o) = single (operand_from o)
  command_from (gcons (gnum f) os) = call (func_of f) (operands_from os)
  command_from _ = single (with_fields nil [])

  pub operands_from : Gv → OperandsData
  operands_from (gcons o rest) = operand (operand_from o) (operands_from rest)
  operands_from _ = no_operands

  pub operand_from : Gv → OperandData
  operand_from (gcons b fields) = with_fields (base_from b) (names_from fields)
  operand_from _ = with_fields nil []

  pub base_from : Gv → BaseData
  base_from (gcons (gnum zero) _) = dot
  base_from (gcons (gnum (suc zero)) _) = truth false
  base_from (gcons (gnum (suc (suc zero))) _) = truth true
  base_from (gcons (gnum (suc (suc (suc zero)))) (gnum n)) = number (pos n)
  base_from (gcons (gnum (suc (suc (suc (suc zero))))) (gnum n)) = number (negsuc n)
  base_from (gcons (gnum (suc (suc (suc (suc (suc zero)))))) value) = str (bytes_from value)
  base_from (gcons (gnum (suc (suc (suc (suc (suc (suc zero))))))) name) = variable (bytes_from name)
  base_from (gcons (gnum (suc (suc (suc (suc (suc (suc (suc zero)))))))) p) = paren (pipe_from p)
  base_from _ = nil

mutual
  pub pipe_from-pipe_tree : (p : PipeData) → pipe_from (pipe_tree p) ≡ p
  pipe_from-pipe_tree no_commands = refl
  pipe_from-pipe_tree (command c rest) = λ i. command (command_from-command_tree c i) (pipe_from-pipe_tree rest i)

  command_from-command_tree : (c : CommandData) → command_from (command_tree c) ≡ c
  command_from-command_tree (single o) = λ i. single (operand_from-operand_tree o i)
  command_from-command_tree (call f os) = λ i. call (func_of-func_number f i) (operands_from-operands_tree os i)

  pub operands_from-operands_tree : (os : OperandsData) → operands_from (operands_tree os) ≡ os
  operands_from-operands_tree no_operands = refl
  operands_from-operands_tree (operand o rest) = λ i. operand (operand_from-operand_tree o i) (operands_from-operands_tree rest i)

  operand_from-operand_tree : (o : OperandData) → operand_from (operand_tree o) ≡ o
  operand_from-operand_tree (with_fields b fields) = λ i. with_fields (base_from-base_tree b i) (names_from-names_tree fields i)

  base_from-base_tree : (b : BaseData) → base_from (base_tree b) ≡ b
  base_from-base_tree nil = refl
  base_from-base_tree dot = refl
  base_from-base_tree (truth false) = refl
  base_from-base_tree (truth true) = refl
  base_from-base_tree (number (pos n)) = refl
  base_from-base_tree (number (negsuc n)) = refl
  base_from-base_tree (str value) = λ i. str (bytes_from-bytes_tree value i)
  base_from-base_tree (variable name) = λ i. variable (bytes_from-bytes_tree name i)
  base_from-base_tree (paren p) = λ i. paren (pipe_from-pipe_tree p i)

abbrev pub pipe_code : Coded PipeData
pipe_code = code_by Gv itself pipe_tree pipe_from pipe_from-pipe_tree

abbrev pub operands_code : Coded OperandsData
operands_code = code_by Gv itself operands_tree operands_from operands_from-operands_tree
