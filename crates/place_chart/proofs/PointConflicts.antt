-- A point of a summary that is in conflict.
use Rattle.std.proofs.Common.{◌≡◌, ℕ, zero, suc, ◌+◌, ◌*◌, List, refl, sym, ap, ◌∙◌, arith, inl, inr, ◌⊎◌}
use Rattle.place_flow.specs.declared.point_state.PointState.{PointState}
use Rattle.place_chart.specs.Conflicts.{HasConflict, HasConflictBefore, HasInnerConflict}
use Rattle.place_chart.specs.Summaries.{inner_state}
use Rattle.place_chart.specs.declared.summary.Summary.{Summary}
use Rattle.tpl_paths.specs.declared.point.Point.TheVariants as point

pub conflict_before : (summary : Summary) → HasConflictBefore summary.before.items → HasConflict summary
conflict_before summary h = record { point = point.Before h.node; conflict = h.conflict }

-- each number is that of a point within a control
Third : ℕ → Type 0
Third m = (n : ℕ) × ((m ≡ 3 * n) ⊎ ((m ≡ 3 * n + 1) ⊎ (m ≡ 3 * n + 2)))

third : (m : ℕ) → Third m
unfolding Third
third zero = (0, inl (omega arith))
third (suc m) = (let t = third m in elim t.1 [
  | inl e ↦ (t.0, inr (inl (omega (arith, e))))
  | inr f ↦ elim f [
    | inl e ↦ (t.0, inr (inr (omega (arith, e))))
    | inr e ↦ (suc t.0, inl (omega (arith, e)))
  ]
])

pub conflict_inner : (summary : Summary) → HasInnerConflict summary.inner → HasConflict summary
unfolding Third
conflict_inner summary h = (let t = third h.number in elim t.1 [
  | inl e ↦ record { point = point.Again t.0; conflict = ap (inner_state summary.inner) (sym e) ∙ h.conflict }
  | inr f ↦ elim f [
    | inl e ↦ record { point = point.Head t.0; conflict = ap (inner_state summary.inner) (sym e) ∙ h.conflict }
    | inr e ↦ record { point = point.Past t.0; conflict = ap (inner_state summary.inner) (sym e) ∙ h.conflict }
  ]
])
