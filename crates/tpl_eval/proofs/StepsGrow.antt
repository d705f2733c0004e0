-- What is evaluated has at least the steps before it, and at most those that an execution may have.
use Rattle.std.proofs.Common.{ℕ, ◌+◌, ◌≤◌, true, false, ◌&&◌, List, ◌∷◌, ◌++◌, Option, Some, None, Result, Ok, Err, nat_lt, arith, if◌then◌else◌}
use Rattle.std.proofs.lemmas.Bool.{cond_both, ltb-false}
use Rattle.page_datum.specs.Data.{Data}
use Rattle.page_datum.specs.declared.fault.FaultKind.{FaultKind}
use Rattle.tpl_eval.specs.Evaluating.{ScopeData, base_value, command_value, decides, deciding_value, dropped_value, function_value, has_one_operand, is_escaper_call, is_lazy, operand_value, operand_values, pipe_value, undecided, with_piped, evaluated_within}
use Rattle.tpl_eval.specs.Functions.{Outcome, bytes_made, function_called, counted, eq_of, format_made, free, ge_of, gt_of, index_all, le_of, len_of, lt_of, made, max_steps, ne_of, not_of, on_ok, paid, slice_all}
use Rattle.tpl_format.specs.Formats.{formatted_args}
use Rattle.tpl_format.specs.Prints.{printed_text}
use Rattle.tpl_symbol.specs.declared.func.Func.{Func}
use Rattle.tpl_symbol.specs.declared.func.Func.TheVariants as func
use Rattle.tpl_tree.specs.Pipes.{PipeData, no_commands, command, CommandData, single, call, OperandsData, no_operands, operand, OperandData, with_fields, BaseData, str, number, truth, nil, dot, variable, paren}

-- steps from so many on, within the limit
abbrev pub Within : ℕ → ℕ → Type 0
Within least steps = (least ≤ steps) × (steps ≤ max_steps)

-- so an answer of steps, and one of a value and steps
abbrev pub Counts : ℕ → Result ℕ FaultKind → Type 0
Counts least (Ok steps) = Within least steps
Counts least (Err kind) = Unit {0}

abbrev pub Grows : {A : Type 0} → ℕ → Outcome A → Type 0
Grows least (Ok v) = Within least v.1
Grows least (Err kind) = Unit {0}

-- that many steps more
pub counts : (more steps : ℕ) → Counts (steps + more) (counted more steps)
counts more steps = cond_both (nat_lt max_steps (steps + more)) _ _ (Counts (steps + more)) (λ t. tt)
    (λ f. (omega arith, ltb-false max_steps (steps + more) f))

-- from fewer steps on
pub grows_from : {A : Type 0} (least n : ℕ) (out : Outcome A) → least ≤ n → Grows n out → Grows least out
grows_from least n (Ok v) l h = (omega (arith, l, h.0), h.1)
grows_from least n (Err kind) l h = tt

-- what follows has no fewer steps
pub then_grows : {A B : Type 0} (n : ℕ) (out : Outcome A) (f : A × ℕ → Outcome B) → Grows n out → ((v : A × ℕ) → v.1 ≤ max_steps → Grows v.1 (f v)) → Grows n (on_ok out f)
then_grows n (Ok v) f h k = grows_from n v.1 (f v) h.0 (k v h.1)
then_grows n (Err kind) f h k = tt

counts_grow : {A : Type 0} (more n : ℕ) (found : Result ℕ FaultKind) (f : ℕ → Outcome A) → Counts (n + more) found → ((now : ℕ) → now ≤ max_steps → Grows now (f now)) → Grows n (on_ok found f)
counts_grow more n (Ok now) f h k = grows_from n now (f now) (omega (arith, h.0)) (k now h.1)
counts_grow more n (Err kind) f h k = tt

pub counted_grows : {A : Type 0} (more n : ℕ) (f : ℕ → Outcome A) → ((now : ℕ) → now ≤ max_steps → Grows now (f now)) → Grows n (on_ok (counted more n) f)
counted_grows more n f k = counts_grow more n (counted more n) f (counts more n) k

-- what a function gives
free_grows : (n : ℕ) (found : Result Data FaultKind) → n ≤ max_steps → Grows n (free n found)
free_grows n (Ok x) l = (omega arith, l)
free_grows n (Err kind) l = tt

paid_grows : (n : ℕ) (found : Result Data FaultKind) → n ≤ max_steps → Grows n (paid n found)
paid_grows n (Ok x) l = counted_grows (bytes_made x) n (λ now. Ok (x, now)) (λ now k. (omega arith, k))
paid_grows n (Err kind) l = tt

called_grows : (f : Func) (args : List Data) (n : ℕ) → n ≤ max_steps → Grows n (function_called f args n)
called_grows func.And args n l = tt
called_grows func.Or args n l = tt
called_grows func.Not args n l = free_grows n (not_of args) l
called_grows func.Eq args n l = free_grows n (eq_of args) l
called_grows func.Ne args n l = free_grows n (ne_of args) l
called_grows func.Lt args n l = free_grows n (lt_of args) l
called_grows func.Le args n l = free_grows n (le_of args) l
called_grows func.Gt args n l = free_grows n (gt_of args) l
called_grows func.Ge args n l = free_grows n (ge_of args) l
called_grows func.Index args n l = free_grows n (index_all args) l
called_grows func.Slice args n l = paid_grows n (slice_all args) l
called_grows func.Len args n l = free_grows n (len_of args) l
called_grows func.Print args n l = paid_grows n (made (printed_text false args)) l
called_grows func.Println args n l = paid_grows n (made (printed_text true args)) l
called_grows func.Printf args n l = paid_grows n (format_made (formatted_args args)) l
called_grows func.Html args n l = tt
called_grows func.Urlquery args n l = tt

undecided_grows : (last piped : Option Data) (n : ℕ) → n ≤ max_steps → Grows n (undecided last piped n)
undecided_grows last (Some x) n l = (omega arith, l)
undecided_grows (Some x) None n l = (omega arith, l)
undecided_grows None None n l = tt

function_grows : (f : Func) (piped : Option Data) (deciding : Outcome Data) (args : Outcome (List Data)) (n : ℕ) → Grows n deciding → Grows n args → Grows n (function_value f piped deciding args)
function_grows f piped deciding args n d a = cond_both (is_lazy f) _ _ (Grows n) (λ t. d)
    (λ e. then_grows n args (λ v. function_called f (v.0 ++ with_piped piped) v.1) a (λ v l. called_grows f (v.0 ++ with_piped piped) v.1 l))

found_grows : {A : Type 0} (n : ℕ) (found : Result A FaultKind) → n ≤ max_steps → Grows n (on_ok found (λ x. Ok (x, n)))
found_grows n (Ok x) l = (omega arith, l)
found_grows n (Err kind) l = tt

mutual
  pub pipe_grows : (s : ScopeData) (p : PipeData) (piped : Option Data) (n : ℕ) → n ≤ max_steps → Grows n (pipe_value s p piped n)
  pipe_grows s no_commands (Some x) n l = (omega arith, l)
  pipe_grows s no_commands None n l = (omega arith, l)
  pipe_grows s (command c rest) piped n l = then_grows n (command_value s c piped n) (λ v. pipe_value s rest (Some v.0) v.1) (command_grows s c piped n l) (λ v k. pipe_grows s rest (Some v.0) v.1 k)

  command_grows : (s : ScopeData) (c : CommandData) (piped : Option Data) (n : ℕ) → n ≤ max_steps → Grows n (command_value s c piped n)
  command_grows s (single o) piped n l = counted_grows 1 n (λ now. operand_value s o now) (λ now k. operand_grows s o now k)
  command_grows s (call f operands) piped n l = cond_both (is_escaper_call f && has_one_operand operands piped) _ _ (Grows n)
      (λ t. dropped_grows s operands piped n l)
      (λ e. counted_grows 1 n (λ now. function_value f piped (deciding_value s f None operands piped now) (operand_values s operands now))
      (λ now k. function_grows f piped (deciding_value s f None operands piped now) (operand_values s operands now) now (deciding_grows s f None operands piped now k) (operands_grow s operands now k)))

  dropped_grows : (s : ScopeData) (os : OperandsData) (piped : Option Data) (n : ℕ) → n ≤ max_steps → Grows n (dropped_value s os piped n)
  dropped_grows s (operand o rest) piped n l = counted_grows 1 n (λ now. operand_value s o now) (λ now k. operand_grows s o now k)
  dropped_grows s no_operands (Some x) n l = (omega arith, l)
  dropped_grows s no_operands None n l = tt

  deciding_grows : (s : ScopeData) (f : Func) (last : Option Data) (os : OperandsData) (piped : Option Data) (n : ℕ) → n ≤ max_steps → Grows n (deciding_value s f last os piped n)
  deciding_grows s f last no_operands piped n l = undecided_grows last piped n l
  deciding_grows s f last (operand o rest) piped n l = then_grows n (operand_value s o n) (λ v. if decides f v.0 then Ok v else deciding_value s f (Some v.0) rest piped v.1) (operand_grows s o n l)
      (λ v k. cond_both (decides f v.0) (Ok v) (deciding_value s f (Some v.0) rest piped v.1) (Grows v.1) (λ t. (omega arith, k)) (λ e. deciding_grows s f (Some v.0) rest piped v.1 k))

  operands_grow : (s : ScopeData) (os : OperandsData) (n : ℕ) → n ≤ max_steps → Grows n (operand_values s os n)
  operands_grow s no_operands n l = (omega arith, l)
  operands_grow s (operand o rest) n l = then_grows n (operand_value s o n) (λ v. on_ok (operand_values s rest v.1) (λ w. Ok (v.0 ∷ w.0, w.1))) (operand_grows s o n l)
      (λ v k. then_grows v.1 (operand_values s rest v.1) (λ w. Ok (v.0 ∷ w.0, w.1)) (operands_grow s rest v.1 k) (λ w j. (omega arith, j)))

  operand_grows : (s : ScopeData) (o : OperandData) (n : ℕ) → n ≤ max_steps → Grows n (operand_value s o n)
  operand_grows s (with_fields base names) n l = then_grows n (base_value s base n) (λ v. on_ok (evaluated_within v.0 names) (λ x. Ok (x, v.1))) (base_grows s base n l)
      (λ v k. found_grows v.1 (evaluated_within v.0 names) k)

  base_grows : (s : ScopeData) (b : BaseData) (n : ℕ) → n ≤ max_steps → Grows n (base_value s b n)
  base_grows s (str bytes) n l = (omega arith, l)
  base_grows s (number x) n l = (omega arith, l)
  base_grows s (truth x) n l = (omega arith, l)
  base_grows s nil n l = (omega arith, l)
  base_grows s dot n l = (omega arith, l)
  base_grows s (variable name) n l = (omega arith, l)
  base_grows s (paren p) n l = pipe_grows s p None n l
