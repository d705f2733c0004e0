-- A text may be cut where the library cuts it: at each place within it that is not in the middle of a character.
use Rattle.std.proofs.Common.{◌≡◌, ℕ, ◌≤◌, List, length, false, refl, arith, rules, tests, inl, inr}
use Rattle.std.proofs.lemmas.Bool.{cases_lt}
use Rattle.std.proofs.lemmas.Bool.Decides.{nat_tests}
use Rattle.std.proofs.lemmas.List.{get_or_past}
use Rattle.std.specs.Str.{IsCharBoundary}
use Rattle.tpl_value.specs.Slicing.{is_inside}

pub cuts-boundary : (bytes : List ℕ) (at : ℕ) → at ≤ length bytes → is_inside bytes at ≡ false → IsCharBoundary bytes at
cuts-boundary bytes at within outside = (within, λ inside high. search (tests, rules))

pub boundary-cuts : (bytes : List ℕ) (at : ℕ) → IsCharBoundary bytes at → is_inside bytes at ≡ false
boundary-cuts bytes at boundary = elim (cases_lt at (length bytes)) [
  | inl inside ↦ (let high = boundary.1 inside in grind (arith, nat_tests, high))
  | inr past ↦ rw (get_or_past bytes at 0 past) refl
]
