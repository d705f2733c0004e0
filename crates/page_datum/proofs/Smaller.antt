-- Each item of a list and each value of a dictionary is smaller than the whole.
use Rattle.std.proofs.Common.{◌≡◌, ℕ, zero, suc, ◌+◌, ◌*◌, ◌<◌, List, [], ◌∷◌, length, get_or, arith, subst, sym}
use Rattle.std.specs.List.{All}
use Rattle.page_datum.specs.Sizes.{data_size, list_size, dict_size}
use Rattle.page_datum.specs.View.{view, items_view, entries_view}
use Rattle.page_datum.specs.declared.datum.Datum.{Datum}

pub items_smaller : (ds : List Datum) → All (λ d. data_size (view d) < list_size (items_view ds)) ds
items_smaller [] k d inside = absurd (omega arith)
items_smaller (x ∷ ds) zero d inside = omega arith
items_smaller (x ∷ ds) (suc k) d inside = omega (arith, items_smaller ds k d (omega arith))

pub values_smaller : (es : List (List ℕ × Datum)) → All (λ e. data_size (view e.1) < dict_size (entries_view es)) es
values_smaller [] k d inside = absurd (omega arith)
values_smaller (x ∷ es) zero d inside = omega arith
values_smaller (x ∷ es) (suc k) d inside = omega (arith, values_smaller es k d (omega arith))

-- what a recursion over a list goes down by, from the list to one of its items
pub item_below : (ds : List Datum) (n : ℕ) (d : Datum) → n < length ds → d ≡ get_or ds n d → 2 * data_size (view d) < 2 * list_size (items_view ds) + 1
item_below ds n d inside here =
    let small = subst (λ (x : Datum). data_size (view x) < list_size (items_view ds)) (sym here) (items_smaller ds n d inside) in
    omega (arith, small)
