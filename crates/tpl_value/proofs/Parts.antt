-- Parts of lists and dictionaries, as the code sees them and as data.
use Rattle.std.proofs.Common.{◌≡◌, ℕ, ◌==◌, not, List, [], ◌∷◌, length, refl, sym, ap, arith, zero, suc, ◌<◌, ◌≤◌, get_or, Ok, Err, Result, Option, Some, ℤ, pos, negsuc, nat_abs, true, false, ◌∙◌, subst, true≢false}
use lib.Signed.{lt_z}
use Rattle.std.proofs.lemmas.Bool.{ne_eqb, le-ltb}
use Rattle.page_datum.specs.Data.{Data, DataList}
use Rattle.page_datum.specs.View.{view, items_view, entries_view}
use Rattle.page_datum.specs.declared.datum.Datum.{Datum}
use Rattle.page_datum.specs.declared.fault.FaultKind.{FaultKind}
use Rattle.page_datum.specs.declared.fault.FaultKind.TheVariants.{IndexRange}
use Rattle.tpl_value.specs.Picking.{item_at, item_of, PickAnswers}
use Rattle.tpl_value.specs.declared.pick.Picked.{Picked}
use Rattle.tpl_value.specs.Truth.{has_entries, has_items}

pub some-items : (ds : List Datum) → not (length ds == 0) ≡ has_items (items_view ds)
some-items [] = refl
some-items (d ∷ ds) = ap not (ne_eqb (length (d ∷ ds)) 0 (λ h. omega (arith, h)))

pub some-entries : (es : List (List ℕ × Datum)) → not (length es == 0) ≡ has_entries (entries_view es)
some-entries [] = refl
some-entries (e ∷ es) = ap not (ne_eqb (length (e ∷ es)) 0 (λ h. omega (arith, h)))

abbrev found : Datum → Result (Option Data) FaultKind
found x = Ok (Some (view x))

ok-view : (x y : Datum) → x ≡ y → found x ≡ Ok (Some (view y))
ok-view x y e = ap found e

pub item_here : (xs : List Datum) (n : ℕ) (x : Datum) → n < length xs → ((d : Datum) → x ≡ get_or xs n d) → item_at n (items_view xs) ≡ Ok (Some (view x))
item_here [] n x l e = absurd (omega (arith, l))
item_here (y ∷ ys) zero x l e = ok-view y x (sym (e y))
item_here (y ∷ ys) (suc n) x l e = item_here ys n x (omega (arith, l)) e

pub item_nowhere : (xs : List Datum) (n : ℕ) → length xs ≤ n → item_at n (items_view xs) ≡ Err IndexRange
item_nowhere [] n l = refl
item_nowhere (y ∷ ys) zero l = absurd (omega (arith, l))
item_nowhere (y ∷ ys) (suc n) l = item_nowhere ys n (omega (arith, l))

-- a number below 0 is none of an item, and any other is its own size
pub item_before : (at : ℤ) (items : DataList) → lt_z at (pos 0) ≡ true → item_of at items ≡ Err IndexRange
item_before (pos n) items h = absurd (true≢false (sym h ∙ le-ltb n 0 (omega arith)))
item_before (negsuc n) items h = refl

pub item_from : (at : ℤ) (n : ℕ) (items : DataList) (result : Result Picked FaultKind) → lt_z at (pos 0) ≡ false → n ≡ nat_abs at → PickAnswers (item_at n items) result → PickAnswers (item_of at items) result
item_from (pos m) n items result h e p = subst (λ (k : ℕ). PickAnswers (item_at k items) result) e p
item_from (negsuc m) n items result h e p = cc
