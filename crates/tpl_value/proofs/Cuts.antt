-- The values of a list between two places.
use Rattle.std.proofs.Common.{◌≡◌, ℕ, zero, suc, ℤ, List, [], ◌∷◌, length, take, drop, Result, Ok, refl, sym, ap, ◌∙◌, subst}
use Rattle.page_datum.specs.Data.{Data, list, DataList, item, item_count}
use Rattle.page_datum.specs.View.{view, items_view}
use Rattle.page_datum.specs.declared.datum.Datum.{Datum}
use Rattle.page_datum.specs.declared.fault.FaultKind.{FaultKind}
use Rattle.tpl_value.specs.Slicing.{first_items, later_items, bounds_of, items_part, CutAnswers, SliceAnswers}
use Rattle.page_datum.specs.declared.datum_ref.DatumRef.{DatumRef}

pub counted : (ds : List Datum) → item_count (items_view ds) ≡ length ds
counted [] = refl
counted (d ∷ ds) = ap suc (counted ds)

firsts : (n : ℕ) (ds : List Datum) → first_items n (items_view ds) ≡ items_view (take n ds)
firsts zero [] = refl
firsts (suc n) [] = refl
firsts zero (d ∷ ds) = refl
firsts (suc n) (d ∷ ds) = ap (item (view d)) (firsts n ds)

laters : (n : ℕ) (ds : List Datum) → later_items n (items_view ds) ≡ items_view (drop n ds)
laters zero [] = refl
laters (suc n) [] = refl
laters zero (d ∷ ds) = refl
laters (suc n) (d ∷ ds) = laters n ds

-- the values between two places
pub between : (count from : ℕ) (ds : List Datum) → first_items count (later_items from (items_view ds)) ≡ items_view (take count (drop from ds))
between count from ds = ap (first_items count) (laters from ds) ∙ firsts count (drop from ds)

abbrev pub part : DataList → Result Data FaultKind
part items = Ok (list items)

-- the part of a list, by the places that the code sees
pub slice_list : (ds : List Datum) (from to first last : ℤ) (result : Result DatumRef FaultKind) → first ≡ from → last ≡ to
    → CutAnswers (items_part (items_view ds) (bounds_of first last (length ds))) result → SliceAnswers (list (items_view ds)) from to result
slice_list ds from to first last result e f h =
    subst (λ (z : ℤ). CutAnswers (items_part (items_view ds) (bounds_of from z (item_count (items_view ds)))) result) f
    (subst (λ (z : ℤ). CutAnswers (items_part (items_view ds) (bounds_of z last (item_count (items_view ds)))) result) e
    (subst (λ (n : ℕ). CutAnswers (items_part (items_view ds) (bounds_of first last n)) result) (sym (counted ds)) h))
