-- Pairs of a form, one after another.
use Rattle.std.proofs.Common.{ℕ, ◌≡◌, List, [], ◌∷◌, ◌++◌, refl, sym, ap, ◌∙◌}
use Rattle.page_datum.specs.Data.{Data, text, DataDict, no_entries, entry}
use Rattle.page_datum.specs.View.{view, entries_view}
use Rattle.page_datum.specs.declared.datum.Datum.{Datum}
use Rattle.page_http.specs.Forms.{text_of, pair_entries, followed_by}

pub followed_push : (es : List (List ℕ × Datum)) (e : List ℕ × Datum) (more : DataDict)
    → followed_by (entries_view (es ++ e ∷ [])) more ≡ followed_by (entries_view es) (entry e.0 (view e.1) more)
followed_push [] e more = refl
followed_push (x ∷ es) e more = ap (entry x.0 (view x.1)) (followed_push es e more)

pub followed_none : (entries : DataDict) → followed_by entries no_entries ≡ entries
followed_none no_entries = refl
followed_none (entry key value rest) = ap (entry key value) (followed_none rest)

-- one pair more was read
pub pair_read : (old new : DataDict) (name value : List ℕ) (left rest : List (List ℕ × List ℕ)) (all : DataDict)
    → ((more : DataDict) → followed_by new more ≡ followed_by old (entry (text_of name) (text (text_of value)) more))
    → left ≡ (name, value) ∷ rest → followed_by old (pair_entries left) ≡ all → followed_by new (pair_entries rest) ≡ all
pair_read old new name value left rest all grows first h =
    grows (pair_entries rest) ∙ ap (λ (z : List (List ℕ × List ℕ)). followed_by old (pair_entries z)) (sym first) ∙ h

-- all pairs were read
pub pairs_read : (made : DataDict) (left : List (List ℕ × List ℕ)) (all : DataDict) → left ≡ []
    → followed_by made (pair_entries left) ≡ all → made ≡ all
pairs_read made left all none h =
    sym (followed_none made) ∙ ap (λ (z : List (List ℕ × List ℕ)). followed_by made (pair_entries z)) (sym none) ∙ h
