-- The items and the entries that are copied, one after another.
use Rattle.std.proofs.Common.{◌≡◌, ℕ, ◌+◌, ◌<◌, List, [], ◌∷◌, ◌++◌, length, get_or, take, refl, sym, ap, ◌∙◌}
use Rattle.std.proofs.lemmas.Grind.{take_at_read}
use Rattle.page_datum.specs.Data.{Data, DataList, no_items, item, DataDict, no_entries, entry}
use Rattle.page_datum.specs.View.{view, items_view, entries_view}
use Rattle.page_datum.specs.declared.datum.Datum.{Datum}
use Rattle.page_datum.proofs.Takes.{more_items, more_entries}

items_view-push : (ds : List Datum) (d : Datum) → items_view (ds ++ d ∷ []) ≡ more_items (items_view ds) (item (view d) no_items)
items_view-push [] d = refl
items_view-push (x ∷ ds) d = ap (item (view x)) (items_view-push ds d)

entries_view-push : (es : List (List ℕ × Datum)) (e : List ℕ × Datum) → entries_view (es ++ e ∷ []) ≡ more_entries (entries_view es) (entry e.0 (view e.1) no_entries)
entries_view-push [] e = refl
entries_view-push (x ∷ es) e = ap (entry x.0 (view x.1)) (entries_view-push es e)

-- one more item was copied
pub item_copied : (copies items : List Datum) (n : ℕ) (it copy : Datum) → n < length items → it ≡ get_or items n it → view copy ≡ view it
    → items_view copies ≡ items_view (take n items) → items_view (copies ++ copy ∷ []) ≡ items_view (take (n + 1) items)
item_copied copies items n it copy inside here same h =
    items_view-push copies copy
    ∙ ap (λ (ds : DataList). more_items ds (item (view copy) no_items)) h
    ∙ ap (λ (d : Data). more_items (items_view (take n items)) (item d no_items)) (same ∙ ap view here)
    ∙ sym (items_view-push (take n items) (get_or items n it))
    ∙ ap items_view (sym (take_at_read items n it inside).1)

-- one more entry was copied
pub entry_copied : (copies entries : List (List ℕ × Datum)) (n : ℕ) (it copy : List ℕ × Datum) → n < length entries → it ≡ get_or entries n it → copy.0 ≡ it.0 → view copy.1 ≡ view it.1
    → entries_view copies ≡ entries_view (take n entries) → entries_view (copies ++ copy ∷ []) ≡ entries_view (take (n + 1) entries)
entry_copied copies entries n it copy inside here key same h =
    entries_view-push copies copy
    ∙ ap (λ (es : DataDict). more_entries es (entry copy.0 (view copy.1) no_entries)) h
    ∙ ap (λ (k : List ℕ). more_entries (entries_view (take n entries)) (entry k (view copy.1) no_entries)) (key ∙ ap (λ (e : List ℕ × Datum). e.0) here)
    ∙ ap (λ (d : Data). more_entries (entries_view (take n entries)) (entry (get_or entries n it).0 d no_entries)) (same ∙ ap (λ (e : List ℕ × Datum). view e.1) here)
    ∙ sym (entries_view-push (take n entries) (get_or entries n it))
    ∙ ap entries_view (sym (take_at_read entries n it inside).1)
