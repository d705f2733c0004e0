-- The elements of a list or a dictionary, as the code sees them.
use Rattle.std.proofs.Common.{◌≡◌, ℕ, zero, suc, ◌+◌, ◌<◌, ◌≤◌, nat_lt, true, pos, List, [], ◌∷◌, length, get_or, drop, refl, sym, ap, ◌∙◌, subst, arith}
use Rattle.std.proofs.lemmas.Bool.Decides.{nat_tests}
use Rattle.std.proofs.lemmas.List.{drop_more}
use Rattle.std.proofs.Math.ListN.{drop_of_length-le}
use Rattle.page_datum.specs.Data.{Data, int, text, DataList, no_items, item, DataDict, no_entries, entry, item_count, entry_count}
use Rattle.page_datum.specs.View.{view, items_view, entries_view}
use Rattle.page_datum.specs.declared.datum.Datum.{Datum}
use Rattle.tpl_exec.specs.Elements.{is_some}
use Rattle.tpl_exec.specs.Meaning.{keyed, numbered_elements}

numbered-length : (ds : List Datum) (n : ℕ) → length (numbered_elements n (items_view ds)) ≡ length ds
numbered-length [] n = refl
numbered-length (d ∷ ds) n = ap suc (numbered-length ds (suc n))

numbered-get : (ds : List Datum) (n at sum : ℕ) (v : Datum) (d : Data × Data) → at < length ds → ((e : Datum) → v ≡ get_or ds at e) → sum ≡ n + at
    → get_or (numbered_elements n (items_view ds)) at d ≡ (int (pos sum), view v)
numbered-get [] n at sum v d inside here is = absurd (omega (arith, inside))
numbered-get (x ∷ ds) n zero sum v d inside here is =
    let same : n ≡ sum = omega (arith, is) in
    ap (λ (k : ℕ). (int (pos k), view x)) same ∙ ap (λ (y : Datum). (int (pos sum), view y)) (sym (here x))
numbered-get (x ∷ ds) n (suc at) sum v d inside here is = numbered-get ds (suc n) at sum v d (omega (arith, inside)) here (omega (arith, is))

keyed-length : (es : List (List ℕ × Datum)) → length (keyed (entries_view es)) ≡ length es
keyed-length [] = refl
keyed-length (e ∷ es) = ap suc (keyed-length es)

keyed-get : (es : List (List ℕ × Datum)) (at : ℕ) (v : List ℕ × Datum) (d : Data × Data) → at < length es → ((e : List ℕ × Datum) → v ≡ get_or es at e)
    → get_or (keyed (entries_view es)) at d ≡ (text v.0, view v.1)
keyed-get [] at v d inside here = absurd (omega (arith, inside))
keyed-get (x ∷ es) zero v d inside here = ap (λ (y : List ℕ × Datum). (text y.0, view y.1)) (sym (here x))
keyed-get (x ∷ es) (suc at) v d inside here = keyed-get es at v d (omega (arith, inside)) here

-- the item with a number, and none
pub item_here : (ds : List Datum) (items : DataList) (at : ℕ) (v : Datum) → items_view ds ≡ items → at < length ds → ((e : Datum) → v ≡ get_or ds at e)
    → drop at (numbered_elements 0 items) ≡ (int (pos at), view v) ∷ drop (at + 1) (numbered_elements 0 items)
item_here ds items at v all inside here = subst (λ (w : DataList). drop at (numbered_elements 0 w) ≡ (int (pos at), view v) ∷ drop (at + 1) (numbered_elements 0 w)) all
    (let within : at < length (numbered_elements 0 (items_view ds)) = omega (arith, inside, numbered-length ds 0) in
    drop_more (numbered_elements 0 (items_view ds)) at (int (pos at), view v) within
    ∙ ap (λ (e : Data × Data). e ∷ drop (at + 1) (numbered_elements 0 (items_view ds))) (numbered-get ds 0 at at v (int (pos at), view v) inside here (omega arith)))

pub item_nowhere : (ds : List Datum) (items : DataList) (at : ℕ) → items_view ds ≡ items → length ds ≤ at → drop at (numbered_elements 0 items) ≡ []
item_nowhere ds items at all after = subst (λ (w : DataList). drop at (numbered_elements 0 w) ≡ []) all
    (drop_of_length-le (numbered_elements 0 (items_view ds)) (omega (arith, after, numbered-length ds 0)))

-- the entry with a number, and none
pub entry_here : (es : List (List ℕ × Datum)) (keys : DataDict) (at : ℕ) (v : List ℕ × Datum) → entries_view es ≡ keys → at < length es → ((e : List ℕ × Datum) → v ≡ get_or es at e)
    → drop at (keyed keys) ≡ (text v.0, view v.1) ∷ drop (at + 1) (keyed keys)
entry_here es keys at v all inside here = subst (λ (w : DataDict). drop at (keyed w) ≡ (text v.0, view v.1) ∷ drop (at + 1) (keyed w)) all
    (let within : at < length (keyed (entries_view es)) = omega (arith, inside, keyed-length es) in
    drop_more (keyed (entries_view es)) at (text v.0, view v.1) within
    ∙ ap (λ (e : Data × Data). e ∷ drop (at + 1) (keyed (entries_view es))) (keyed-get es at v (text v.0, view v.1) inside here))

pub entry_nowhere : (es : List (List ℕ × Datum)) (keys : DataDict) (at : ℕ) → entries_view es ≡ keys → length es ≤ at → drop at (keyed keys) ≡ []
entry_nowhere es keys at all after = subst (λ (w : DataDict). drop at (keyed w) ≡ []) all
    (drop_of_length-le (keyed (entries_view es)) (omega (arith, after, keyed-length es)))

count_keyed : (keys : DataDict) → length (keyed keys) ≡ entry_count keys
count_keyed no_entries = refl
count_keyed (entry key value rest) = ap suc (count_keyed rest)

pub entry_past : (keys : DataDict) (at : ℕ) → entry_count keys ≤ at → drop at (keyed keys) ≡ []
entry_past keys at after = drop_of_length-le (keyed keys) (omega (arith, after, count_keyed keys))

-- whether there are some
pub some_values : (ds : List Datum) → nat_lt 0 (length ds) ≡ is_some (numbered_elements 0 (items_view ds))
some_values [] = refl
some_values (d ∷ ds) =
    let some : nat_lt 0 (length (d ∷ ds)) ≡ true = grind (arith, nat_tests) in
    some

pub some_entries : (keys : DataDict) (n : ℕ) → n ≡ entry_count keys → nat_lt 0 n ≡ is_some (keyed keys)
some_entries no_entries n is = ap (nat_lt 0) is
some_entries (entry key value rest) n is =
    let some : nat_lt 0 (suc (entry_count rest)) ≡ true = grind (arith, nat_tests) in
    ap (nat_lt 0) is ∙ some
