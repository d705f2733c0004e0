-- How many operands there are.
use Rattle.std.proofs.Common.{◌≡◌, ◌==◌, List, [], ◌∷◌, length, refl, arith, true, false}
use Rattle.std.proofs.lemmas.Bool.{ne_eqb}
use Rattle.place_flow.specs.Uses.{has_one_command}
use Rattle.tpl_tree.specs.View.{operands_view}
use Rattle.tpl_tree.specs.declared.pipe.Operand.{Operand}

pub one_piped : (os : List Operand) → (length os == 0) ≡ has_one_command true (operands_view os)
one_piped [] = refl
one_piped (o ∷ []) = refl
one_piped (o ∷ p ∷ os) = ne_eqb (length (o ∷ p ∷ os)) 0 (λ h. omega (arith, h))

pub one_written : (os : List Operand) → (length os == 1) ≡ has_one_command false (operands_view os)
one_written [] = refl
one_written (o ∷ []) = refl
one_written (o ∷ p ∷ os) = ne_eqb (length (o ∷ p ∷ os)) 1 (λ h. omega (arith, h))
