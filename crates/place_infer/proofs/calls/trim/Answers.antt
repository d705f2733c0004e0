use Rattle.std.proofs.Common.{◌≡◌, ◌-◌, ◌+◌, ◌≤◌, ℕ, zero, suc, List, [], ◌∷◌, Option, Some, None, refl, ap, ◌∙◌, subst, length, take, arith}
use Rattle.std.specs.Prelude.{slice_get, slice_index_or}
use Rattle.place_infer.proofs.calls.trim.Goals as goal

-- a list without its last element, which is no call
without_last : (xs : List (Option ℕ)) (n : ℕ) → slice_get xs n ≡ Some None → length xs ≤ n + 1 → (j : ℕ) → slice_index_or (take n xs) j None ≡ slice_index_or xs j None
without_last [] n e le j = cc
without_last (x ∷ []) zero e le zero = cc
without_last (x ∷ []) zero e le (suc j) = refl
without_last (x ∷ y ∷ xs) zero e le j = absurd (omega (arith, le))
without_last (x ∷ xs) (suc n) e le zero = refl
without_last (x ∷ xs) (suc n) e le (suc j) = without_last xs n e (omega (arith, le)) j

pub loop-calls-preserved : goal.loop-calls-preserved
loop-calls-preserved c = λ j.
    let calls = c.loop-calls.calls in
    let items = calls.items in
    let n = length items - 1 in
    let last : slice_get items n ≡ Some None = subst (λ (xs : List (Option ℕ)). slice_get xs (length xs - 1) ≡ Some None) c.as_slice.ensures.value (c.ends_without.ensures c.loop-calls-test.true) in
    let rest : c.pop.new.self.items ≡ take n items = c.pop.ensures.rest ∙ ap (λ (k : ℕ). take (k - 1) items) calls.ok.0 in
    ap (λ (xs : List (Option ℕ)). slice_index_or xs j None) rest ∙ without_last items n last (omega arith) j ∙ c.loop-calls.invariant j
