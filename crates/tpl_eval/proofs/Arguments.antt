-- How many arguments there are, and which.
use Rattle.std.proofs.Common.{◌≡◌, ◌<◌, ◌≤◌, Bool, List, [], ◌∷◌, length, drop, get_or, Result, Ok, Err, refl, sym, ap, ◌∙◌, subst, arith}
use Rattle.page_datum.specs.Data.{Data}
use Rattle.page_datum.specs.declared.datum_ref.DatumRef.{DatumRef}
use Rattle.page_datum.specs.declared.fault.FaultKind.{FaultKind}
use Rattle.page_datum.specs.declared.fault.FaultKind.TheVariants.{WrongCount}
use Rattle.tpl_eval.specs.Functions.{as_truth, eq_of, equals_one, one_of, slice_all, two_of}
use Rattle.tpl_eval.specs.Values.{FunctionAnswers, value_view, values_view}
use Rattle.tpl_eval.specs.declared.value.Value.{Value}

-- another number of arguments
pub one_wrong : (vs : List Value) → (length vs ≡ 1 → ⊥) → one_of (values_view vs) ≡ Err WrongCount
one_wrong [] other = refl
one_wrong (x ∷ []) other = absurd (other refl)
one_wrong (x ∷ y ∷ vs) other = refl

pub two_wrong : (vs : List Value) → (length vs ≡ 2 → ⊥) → two_of (values_view vs) ≡ Err WrongCount
two_wrong [] other = refl
two_wrong (x ∷ []) other = refl
two_wrong (x ∷ y ∷ []) other = absurd (other refl)
two_wrong (x ∷ y ∷ z ∷ vs) other = refl

pub slice_passed : (vs : List Value) → 4 ≤ length vs → slice_all (values_view vs) ≡ Err WrongCount
slice_passed [] l = refl
slice_passed (x ∷ []) l = absurd (omega (arith, l))
slice_passed (x ∷ y ∷ []) l = absurd (omega (arith, l))
slice_passed (x ∷ y ∷ z ∷ []) l = absurd (omega (arith, l))
slice_passed (x ∷ y ∷ z ∷ w ∷ vs) l = refl

pub eq_lacks : (vs : List Value) → length vs < 2 → eq_of (values_view vs) ≡ Err WrongCount
eq_lacks [] l = refl
eq_lacks (x ∷ []) l = refl
eq_lacks (x ∷ y ∷ vs) l = absurd (omega (arith, l))

-- the only argument, and both of two
pub one_here : (vs : List Value) (v : Value) (x : Data) → length vs ≡ 1 → v ≡ get_or vs 0 v → x ≡ value_view v → one_of (values_view vs) ≡ Ok x
one_here [] v x l first same = absurd (omega (arith, l))
one_here (y ∷ []) v x l first same = ap (λ (d : Data). one_of (d ∷ [])) (sym (same ∙ ap value_view first))
one_here (y ∷ z ∷ vs) v x l first same = absurd (omega (arith, l))

pub two_here : (vs : List Value) (v w : Value) (x y : Data) → length vs ≡ 2 → v ≡ get_or vs 0 v → w ≡ get_or vs 1 w → x ≡ value_view v → y ≡ value_view w → two_of (values_view vs) ≡ Ok (x, y)
two_here [] v w x y l first second same other = absurd (omega (arith, l))
two_here (a ∷ []) v w x y l first second same other = absurd (omega (arith, l))
two_here (a ∷ b ∷ []) v w x y l first second same other =
    ap (λ (d : Data). two_of (d ∷ value_view b ∷ [])) (sym (same ∙ ap value_view first))
    ∙ ap (λ (d : Data). two_of (x ∷ d ∷ [])) (sym (other ∙ ap value_view second))
two_here (a ∷ b ∷ c ∷ vs) v w x y l first second same other = absurd (omega (arith, l))

-- the first argument, and the others
pub eq_several : (vs : List Value) (v : Value) (x : Data) (same : Result Bool FaultKind) (result : Result DatumRef FaultKind) → 2 ≤ length vs → v ≡ get_or vs 0 v → x ≡ value_view v
    → same ≡ equals_one x (values_view (drop 1 vs)) → FunctionAnswers (as_truth same) result → FunctionAnswers (eq_of (values_view vs)) result
eq_several [] v x same result l first view-x e h = absurd (omega (arith, l))
eq_several (y ∷ []) v x same result l first view-x e h = absurd (omega (arith, l))
eq_several (y ∷ z ∷ vs) v x same result l first view-x e h =
    subst (λ (d : Data). FunctionAnswers (as_truth (equals_one d (values_view (z ∷ vs)))) result) (view-x ∙ ap value_view first)
    (subst (λ (b : Result Bool FaultKind). FunctionAnswers (as_truth b) result) e h)
