-- The items and the entries that are taken of a JSON value, one after another.
use Rattle.std.proofs.Common.{◌≡◌, ℕ, suc, List, [], ◌∷◌, ◌++◌, length, Result, Ok, Err, String, Global, string_bytes, string_cmp, Less, refl, sym, ap, ◌∙◌, subst, arith}
use Rattle.std.specs.Fmt.{decimal}
use Rattle.std.specs.Cmp.Lexicographic.{slice_cmp}
use Rattle.std.specs.List.{AllByRecursion}
use Rattle.std.specs.List.Sorted.{IsStrictlySortedBy}
use Rattle.std.specs.Map.{keys_of}
use Rattle.std.specs.Ordering.{nat_cmp}
use Rattle.serde_json.specs.Data as json
use Rattle.serde_json.specs.View as json_view
use Rattle.serde_json.specs.declared.value.Value as value
use Rattle.page_datum.specs.Data.{Data, DataList, no_items, item, DataDict, no_entries, entry, keys}
use Rattle.page_datum.specs.Reading.{Path, data_of, items_of, entries_of, with_item, with_entry, within_part}
use Rattle.page_datum.specs.View.{view, items_view, entries_view}
use Rattle.page_datum.specs.declared.datum.Datum.{Datum}

-- items and then others, and entries and then others
abbrev pub more_items : DataList → DataList → DataList
more_items no_items more = more
more_items (item d rest) more = item d (more_items rest more)

abbrev pub more_entries : DataDict → DataDict → DataDict
more_entries no_entries more = more
more_entries (entry key d rest) more = entry key d (more_entries rest more)

-- what was taken, and then what the rest gives
abbrev pub items_then : DataList → Result DataList Path → Result DataList Path
items_then taken (Ok rest) = Ok (more_items taken rest)
items_then taken (Err path) = Err path

abbrev pub entries_then : DataDict → Result DataDict Path → Result DataDict Path
entries_then taken (Ok rest) = Ok (more_entries taken rest)
entries_then taken (Err path) = Err path

more_items-push : (ds : List Datum) (d : Datum) (rest : DataList) → more_items (items_view (ds ++ d ∷ [])) rest ≡ more_items (items_view ds) (item (view d) rest)
more_items-push [] d rest = refl
more_items-push (x ∷ ds) d rest = ap (item (view x)) (more_items-push ds d rest)

more_items-none : (items : DataList) → more_items items no_items ≡ items
more_items-none no_items = refl
more_items-none (item d rest) = ap (item d) (more_items-none rest)

more_entries-push : (es : List (List ℕ × Datum)) (e : List ℕ × Datum) (rest : DataDict) → more_entries (entries_view (es ++ e ∷ [])) rest ≡ more_entries (entries_view es) (entry e.0 (view e.1) rest)
more_entries-push [] e rest = refl
more_entries-push (x ∷ es) e rest = ap (entry x.0 (view x.1)) (more_entries-push es e rest)

more_entries-none : (entries : DataDict) → more_entries entries no_entries ≡ entries
more_entries-none no_entries = refl
more_entries-none (entry key d rest) = ap (entry key d) (more_entries-none rest)

moved_item : (ds : List Datum) (d : Datum) (o : Result DataList Path) → items_then (items_view (ds ++ d ∷ [])) o ≡ items_then (items_view ds) (with_item (decimal (length ds)) (Ok (view d)) o)
moved_item ds d (Ok rest) = ap Ok (more_items-push ds d rest)
moved_item ds d (Err path) = refl

moved_entry : (es : List (List ℕ × Datum)) (e : List ℕ × Datum) (o : Result DataDict Path) → entries_then (entries_view (es ++ e ∷ [])) o ≡ entries_then (entries_view es) (with_entry e.0 (Ok (view e.1)) o)
moved_entry es e (Ok rest) = ap Ok (more_entries-push es e rest)
moved_entry es e (Err path) = refl

-- one more item was taken
pub item_taken : (ds : List Datum) (d : Datum) (n m : ℕ) (v : value.Value) (left rest : List value.Value) (all : Result DataList Path)
    → left ≡ v ∷ rest → data_of (json_view.view v) ≡ Ok (view d) → n ≡ length ds → m ≡ suc (length ds)
    → items_then (items_view ds) (items_of n (json_view.items_view left)) ≡ all
    → items_then (items_view (ds ++ d ∷ [])) (items_of m (json_view.items_view rest)) ≡ all
item_taken ds d n m v left rest all first is count next h =
    let step : items_of n (json_view.items_view left) ≡ with_item (decimal (length ds)) (Ok (view d)) (items_of m (json_view.items_view rest)) = rw (first, is, count, next) refl in
    moved_item ds d (items_of m (json_view.items_view rest)) ∙ ap (items_then (items_view ds)) (sym step) ∙ h

-- an item with a number that is not whole
pub item_not_whole : (taken : DataList) (n : ℕ) (v : value.Value) (left rest : List value.Value) (path : Path) (all : Result DataList Path)
    → left ≡ v ∷ rest → data_of (json_view.view v) ≡ Err path
    → items_then taken (items_of n (json_view.items_view left)) ≡ all → all ≡ Err (within_part (decimal n) path)
item_not_whole taken n v left rest path all first is h =
    let step : items_of n (json_view.items_view left) ≡ Err (within_part (decimal n) path) = rw (first, is) refl in
    sym h ∙ ap (items_then taken) step

pub none_left : {A : Type 0} (xs : List A) → length xs ≡ 0 → xs ≡ []
none_left [] e = refl
none_left (x ∷ xs) e = absurd (omega (arith, e))

-- all items were taken
pub items_taken : (taken : DataList) (n : ℕ) (left : List value.Value) (all : Result DataList Path) → left ≡ []
    → items_then taken (items_of n (json_view.items_view left)) ≡ all → all ≡ Ok taken
items_taken taken n left all none h =
    let step : items_of n (json_view.items_view left) ≡ Ok no_items = rw none refl in
    sym h ∙ ap (items_then taken) step ∙ ap Ok (more_items-none taken)

-- one more entry was taken
pub entry_taken : (es : List (List ℕ × Datum)) (e : List ℕ × Datum) (k : String Global) (v : value.Value) (left rest : List (String Global × value.Value)) (all : Result DataDict Path)
    → left ≡ (k, v) ∷ rest → e.0 ≡ string_bytes k → data_of (json_view.view v) ≡ Ok (view e.1)
    → entries_then (entries_view es) (entries_of (json_view.members_view left)) ≡ all
    → entries_then (entries_view (es ++ e ∷ [])) (entries_of (json_view.members_view rest)) ≡ all
entry_taken es e k v left rest all first key is h =
    let step : entries_of (json_view.members_view left) ≡ with_entry e.0 (Ok (view e.1)) (entries_of (json_view.members_view rest)) = rw (first, is, key) refl in
    moved_entry es e (entries_of (json_view.members_view rest)) ∙ ap (entries_then (entries_view es)) (sym step) ∙ h

-- an entry with a number that is not whole
pub entry_not_whole : (taken : DataDict) (k : String Global) (v : value.Value) (left rest : List (String Global × value.Value)) (path : Path) (all : Result DataDict Path)
    → left ≡ (k, v) ∷ rest → data_of (json_view.view v) ≡ Err path
    → entries_then taken (entries_of (json_view.members_view left)) ≡ all → all ≡ Err (within_part (string_bytes k) path)
entry_not_whole taken k v left rest path all first is h =
    let step : entries_of (json_view.members_view left) ≡ Err (within_part (string_bytes k) path) = rw (first, is) refl in
    sym h ∙ ap (entries_then taken) step

-- all entries were taken
pub entries_taken : (taken : DataDict) (left : List (String Global × value.Value)) (all : Result DataDict Path) → left ≡ []
    → entries_then taken (entries_of (json_view.members_view left)) ≡ all → all ≡ Ok taken
entries_taken taken left all none h =
    let step : entries_of (json_view.members_view left) ≡ Ok no_entries = rw none refl in
    sym h ∙ ap (entries_then taken) step ∙ ap Ok (more_entries-none taken)

-- the entries have the object's keys
abbrev member_keys : json.Members → List (List ℕ)
member_keys json.no_members = []
member_keys (json.member k d ms) = k ∷ member_keys ms

keys_with : (k : List ℕ) (ms : json.Members) (first : Result Data Path) (o : Result DataDict Path) (d : DataDict) → ((r : DataDict) → o ≡ Ok r → keys r ≡ member_keys ms) → with_entry k first o ≡ Ok d → keys d ≡ k ∷ member_keys ms
keys_with k ms (Err path) o d h e = absurd (let no : with_entry k (Err path) o ≡ Ok d = e in cc)
keys_with k ms (Ok first) (Err path) d h e = absurd (let no : with_entry k (Ok first) (Err path) ≡ Ok d = e in cc)
keys_with k ms (Ok first) (Ok r) d h e =
    let same : entry k first r ≡ d = cc in
    ap keys (sym same) ∙ ap (λ (ks : List (List ℕ)). k ∷ ks) (h r refl)

keys_same : (ms : json.Members) (d : DataDict) → entries_of ms ≡ Ok d → keys d ≡ member_keys ms
keys_same json.no_members d e = let same : no_entries ≡ d = cc in ap keys (sym same)
keys_same (json.member k v ms) d e = keys_with k ms (data_of v) (entries_of ms) d (λ r h. keys_same ms r h) e

below_all : (k : String Global) (es : List (String Global × value.Value)) → AllByRecursion (λ y. string_cmp k y ≡ Less) (keys_of es)
    → AllByRecursion (λ y. slice_cmp nat_cmp (string_bytes k) y ≡ Less) (member_keys (json_view.members_view es))
below_all k [] h = tt
below_all k (e ∷ es) h = (h.0, below_all k es h.1)

ascending : (es : List (String Global × value.Value)) → IsStrictlySortedBy string_cmp (keys_of es) → IsStrictlySortedBy (slice_cmp nat_cmp) (member_keys (json_view.members_view es))
unfolding IsStrictlySortedBy
ascending [] h = tt
ascending (e ∷ es) h = (below_all e.0 es h.0, ascending es h.1)

-- and they ascend as the object's do
pub keys_ascend : (es : List (String Global × value.Value)) (d : DataDict) → entries_of (json_view.members_view es) ≡ Ok d → IsStrictlySortedBy string_cmp (keys_of es) → IsStrictlySortedBy (slice_cmp nat_cmp) (keys d)
keys_ascend es d e h = subst (λ (ks : List (List ℕ)). IsStrictlySortedBy (slice_cmp nat_cmp) ks) (sym (keys_same (json_view.members_view es) d e)) (ascending es h)
