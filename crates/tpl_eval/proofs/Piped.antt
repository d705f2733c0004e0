-- How many operands there are, and a piped value.
use Rattle.std.proofs.Common.{◌≡◌, ◌==◌, List, [], ◌∷◌, length, refl, arith, Some, None}
use Rattle.std.proofs.lemmas.Bool.{ne_eqb}
use Rattle.page_datum.specs.Data.{Data}
use Rattle.tpl_eval.specs.Evaluating.{has_one_operand}
use Rattle.tpl_tree.specs.View.{operands_view}
use Rattle.tpl_tree.specs.declared.pipe.Operand.{Operand}

pub one_piped : (os : List Operand) (x : Data) → (length os == 0) ≡ has_one_operand (operands_view os) (Some x)
one_piped [] x = refl
one_piped (o ∷ []) x = refl
one_piped (o ∷ p ∷ os) x = ne_eqb (length (o ∷ p ∷ os)) 0 (λ h. omega (arith, h))

pub one_written : (os : List Operand) → (length os == 1) ≡ has_one_operand (operands_view os) None
one_written [] = refl
one_written (o ∷ []) = refl
one_written (o ∷ p ∷ os) = ne_eqb (length (o ∷ p ∷ os)) 1 (λ h. omega (arith, h))
