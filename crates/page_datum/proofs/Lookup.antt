-- The value at a key is the value of the entry with the key's number.
use Rattle.std.proofs.Common.{◌≡◌, ℕ, Bool, suc, List, [], ◌∷◌, get_or, true, false, bytes_eq, Option, Some, None, option_map, refl, ap, ◌∙◌}
use Rattle.std.specs.Map.{keys_of}
use Rattle.page_io.specs.Keys.{HaveAscendingKeys, key_number}
use Rattle.page_datum.specs.Data.{Data, keys, HasAscendingKeys, value_at}
use Rattle.page_datum.specs.View.{view, entries_view}
use Rattle.page_datum.specs.declared.datum.Datum.{Datum}

abbrev pub Pair : Type 0
Pair = List ℕ × Datum

same_keys : (es : List Pair) → keys (entries_view es) ≡ keys_of es
same_keys [] = refl
same_keys (e ∷ es) = ap (λ (ks : List (List ℕ)). e.0 ∷ ks) (same_keys es)

-- the keys ascend before and after values are seen as data
pub have_ascending : (es : List Pair) → HasAscendingKeys (entries_view es) → HaveAscendingKeys es
have_ascending es up = rw (← same_keys es) up

-- a value by the number of its entry, if there is one
abbrev numbered : List Pair → Pair → Option ℕ → Option Data
numbered es d at = option_map (λ (i : ℕ). view (get_or es i d).1) at

later : (e d : Pair) (es : List Pair) (at : Option ℕ) → numbered (e ∷ es) d (option_map suc at) ≡ numbered es d at
later e d es None = refl
later e d es (Some i) = refl

at_head : (key : List ℕ) (e d : Pair) (es : List Pair) (b : Bool) → bytes_eq e.0 key ≡ b → numbered es d (key_number key es) ≡ value_at key (entries_view es)
    → numbered (e ∷ es) d (key_number key (e ∷ es)) ≡ value_at key (entries_view (e ∷ es))
at_head key e d es true is h = rw is refl
at_head key e d es false is h = rw is (later e d es (key_number key es) ∙ h)

pub value_at-numbered : (key : List ℕ) (es : List Pair) (d : Pair) → option_map (λ (i : ℕ). view (get_or es i d).1) (key_number key es) ≡ value_at key (entries_view es)
value_at-numbered key [] d = refl
value_at-numbered key (e ∷ es) d = at_head key e d es (bytes_eq e.0 key) refl (value_at-numbered key es d)
