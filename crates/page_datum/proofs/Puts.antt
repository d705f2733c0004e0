-- Putting entries into a sorted map puts them into the dictionary that it stands for.
use Rattle.std.proofs.Common.{◌≡◌, ℕ, List, [], ◌∷◌, Bool, true, false, Option, Some, if◌then◌else◌, bytes_eq, Ordering, Less, Equal, Greater, refl, sym, ap, ◌∙◌, subst}
use Rattle.std.proofs.lemmas.Cmp.{nat_list_cmp_total, tied_itself}
use Rattle.std.proofs.lemmas.Slice.Eq.{bytes_eq-Decides}
use Rattle.std.specs.BTreeMap.{insert_entry}
use Rattle.std.specs.Cmp.Lexicographic.{slice_cmp, texts_ties}
use Rattle.std.specs.List.Sorted.{IsStrictlySortedBy}
use Rattle.std.specs.Map.{keys_of}
use Rattle.std.specs.Ordering.{nat_cmp, match_ordering, is_eq}
use Rattle.page_datum.specs.Data.{Data, DataDict, no_entries, entry, keys, HasAscendingKeys, value_at}
use Rattle.page_datum.specs.Putting.{put_entry, put_all, last_entry_from}
use Rattle.page_datum.specs.View.{view, entries_view}
use Rattle.page_datum.specs.declared.datum.Datum.{Datum}

entries_view-match_ordering : (o : Ordering) (a b c : List (List ℕ × Datum))
    → entries_view (match_ordering o a b c) ≡ match_ordering o (entries_view a) (entries_view b) (entries_view c)
entries_view-match_ordering Less a b c = refl
entries_view-match_ordering Equal a b c = refl
entries_view-match_ordering Greater a b c = refl

-- an entry that is inserted is put
pub entries_view-insert_entry : (es : List (List ℕ × Datum)) (key : List ℕ) (value : Datum)
    → entries_view (insert_entry (slice_cmp nat_cmp) es key value) ≡ put_entry key (view value) (entries_view es)
entries_view-insert_entry [] key value = refl
entries_view-insert_entry (e ∷ es) key value =
    entries_view-match_ordering (slice_cmp nat_cmp key e.0) _ _ _ ∙ rw (entries_view-insert_entry es key value)

-- one more pair was inserted
pub pair_put : (left rest old new : List (List ℕ × Datum)) (key : List ℕ) (value : Datum) (all : DataDict)
    → left ≡ (key, value) ∷ rest → new ≡ insert_entry (slice_cmp nat_cmp) old key value
    → put_all (entries_view left) (entries_view old) ≡ all → put_all (entries_view rest) (entries_view new) ≡ all
pair_put left rest old new key value all first inserted h =
    let same : entries_view new ≡ put_entry key (view value) (entries_view old) =
    ap entries_view inserted ∙ entries_view-insert_entry old key value in
    let step : put_all (entries_view left) (entries_view old) ≡ put_all (entries_view rest) (put_entry key (view value) (entries_view old)) = rw first refl in
    rw same (sym step ∙ h)

-- the dictionary has the map's keys
pub keys_same : (es : List (List ℕ × Datum)) → keys (entries_view es) ≡ keys_of es
keys_same [] = refl
keys_same (e ∷ es) = ap (λ (ks : List (List ℕ)). e.0 ∷ ks) (keys_same es)

pub keys_ascend : (es : List (List ℕ × Datum)) → IsStrictlySortedBy (slice_cmp nat_cmp) (keys_of es) → HasAscendingKeys (entries_view es)
keys_ascend es h = subst (λ (ks : List (List ℕ)). IsStrictlySortedBy (slice_cmp nat_cmp) ks) (sym (keys_same es)) h

again : (b : Bool) (x y z : Option Data)
    → (if b then x else z) ≡ (if b then x else (if b then y else z))
again true x y z = refl
again false x y z = refl

swapped : (b c : Bool) (x y z : Option Data) → (b ≡ true → c ≡ true → ⊥)
    → (if b then x else (if c then y else z)) ≡ (if c then y else (if b then x else z))
swapped true true x y z apart = absurd (apart refl refl)
swapped true false x y z apart = refl
swapped false true x y z apart = refl
swapped false false x y z apart = refl

put_at : (o : Ordering) (key k other : List ℕ) (d value : Data) (rest : DataDict)
    → slice_cmp nat_cmp k other ≡ o
    → value_at key (put_entry k d rest) ≡ (if bytes_eq k key then Some d else value_at key rest)
    → value_at key (match_ordering o (entry k d (entry other value rest)) (entry other d rest) (entry other value (put_entry k d rest)))
    ≡ (if bytes_eq k key then Some d else (if bytes_eq other key then Some value else value_at key rest))
put_at Less key k other d value rest is later = refl
put_at Equal key k other d value rest is later =
    let same : k ≡ other = (bytes_eq-Decides k other).0 (texts_ties k other ∙ ap is_eq is) in
    rw same (again (bytes_eq other key) (Some d) (Some value) (value_at key rest))
put_at Greater key k other d value rest is later =
    rw later (swapped (bytes_eq other key) (bytes_eq k key) (Some value) (Some d) (value_at key rest)
    (λ there here.
    let same : k ≡ other = (bytes_eq-Decides k key).0 here ∙ sym ((bytes_eq-Decides other key).0 there) in
    let tied : slice_cmp nat_cmp k other ≡ Equal = rw same (tied_itself nat_list_cmp_total other) in
    let clash : Equal ≡ Greater = sym tied ∙ is in
    cc))

-- what stands at a key, where an entry is put
value_at-put : (key k : List ℕ) (d : Data) (es : DataDict)
    → value_at key (put_entry k d es) ≡ (if bytes_eq k key then Some d else value_at key es)
value_at-put key k d no_entries = refl
value_at-put key k d (entry other value rest) =
    put_at (slice_cmp nat_cmp k other) key k other d value rest refl (value_at-put key k d rest)

-- and where pairs are put
pub value_at-put_all : (key : List ℕ) (pairs es : DataDict)
    → value_at key (put_all pairs es) ≡ last_entry_from key (value_at key es) pairs
value_at-put_all key no_entries es = refl
value_at-put_all key (entry k d pairs) es =
    value_at-put_all key pairs (put_entry k d es) ∙ ap (λ (found : Option Data). last_entry_from key found pairs) (value_at-put key k d es)
