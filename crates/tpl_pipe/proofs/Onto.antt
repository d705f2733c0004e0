-- What was read of a list, last first, is the list in its order.
use Rattle.std.proofs.Common.{◌≡◌, List, [], ◌∷◌, ◌++◌, reverse, refl, sym, ap, ◌∙◌, append_assoc, append-nil}
use Rattle.std.proofs.lemmas.Grind.{reverse_onto}
use Rattle.tpl_pipe.specs.Levels.{operands_onto, commands_onto}
use Rattle.tpl_tree.specs.Pipes.{no_commands, no_operands}
use Rattle.tpl_tree.specs.View.{commands_view, operands_view}
use Rattle.tpl_tree.specs.declared.pipe.Command.{Command}
use Rattle.tpl_tree.specs.declared.pipe.Operand.{Operand}

-- the first of a list is the last after the others
first_after : {X : Type 0} (x : X) (xs ys : List X) → reverse (x ∷ xs) ++ ys ≡ reverse xs ++ (x ∷ ys)
first_after x xs ys = ap (λ zs. zs ++ ys) (reverse_onto xs x []) ∙ append_assoc (reverse xs) (x ∷ []) ys

operands_more : (xs ys : List Operand) → operands_onto xs (operands_view ys) ≡ operands_view (reverse xs ++ ys)
operands_more [] ys = refl
operands_more (x ∷ xs) ys = operands_more xs (x ∷ ys) ∙ ap operands_view (sym (first_after x xs ys))

commands_more : (xs ys : List Command) → commands_onto xs (commands_view ys) ≡ commands_view (reverse xs ++ ys)
commands_more [] ys = refl
commands_more (x ∷ xs) ys = commands_more xs (x ∷ ys) ∙ ap commands_view (sym (first_after x xs ys))

pub operands_in_order : (xs : List Operand) → operands_view (reverse xs) ≡ operands_onto xs no_operands
operands_in_order xs = ap operands_view (sym (append-nil (reverse xs))) ∙ sym (operands_more xs [])

pub commands_in_order : (xs : List Command) → commands_view (reverse xs) ≡ commands_onto xs no_commands
commands_in_order xs = ap commands_view (sym (append-nil (reverse xs))) ∙ sym (commands_more xs [])

pub commands_with_last : (xs : List Command) (x : Command) → commands_view (reverse xs ++ x ∷ []) ≡ commands_onto (x ∷ xs) no_commands
commands_with_last xs x = ap commands_view (sym (reverse_onto xs x [])) ∙ commands_in_order (x ∷ xs)
