-- The values of data: null, truth values, whole numbers, texts, lists, and dictionaries.
use Rattle.std.specs.Prelude.{◌≡◌, ℕ, suc, ℤ, Bool, List, [], ◌∷◌, Option, Some, None}
use Rattle.std.specs.Prelude.{if◌then◌else◌, bytes_eq}
use Rattle.std.specs.List.Sorted.{IsStrictlySortedBy}
use Rattle.std.specs.Cmp.Lexicographic.{slice_cmp}
use Rattle.std.specs.Ordering.{nat_cmp}

mutual
  pub data Data : Type 0 where
    null : Data
    truth : Bool → Data
    int : ℤ → Data
    text : List ℕ → Data
    list : DataList → Data
    dict : DataDict → Data

  pub data DataList : Type 0 where
    no_items : DataList
    item : Data → DataList → DataList

  pub data DataDict : Type 0 where
    no_entries : DataDict
    entry : List ℕ → Data → DataDict → DataDict

-- how many values a list has, and how many entries a dictionary
abbrev pub item_count : DataList → ℕ
item_count no_items = 0
item_count (item value rest) = suc (item_count rest)

abbrev pub entry_count : DataDict → ℕ
entry_count no_entries = 0
entry_count (entry key value rest) = suc (entry_count rest)

-- a dictionary
abbrev pub IsDict : Data → Type 0
IsDict datum = (entries : DataDict) × (datum ≡ dict entries)

-- the keys of a dictionary, in order
abbrev pub keys : DataDict → List (List ℕ)
keys no_entries = []
keys (entry key value rest) = key ∷ keys rest

-- the keys ascend in byte order, each once
abbrev pub HasAscendingKeys : DataDict → Type 0
HasAscendingKeys entries = IsStrictlySortedBy (slice_cmp nat_cmp) (keys entries)

-- the value of the first entry with this key
abbrev pub value_at : List ℕ → DataDict → Option Data
value_at key no_entries = None
value_at key (entry other value rest) = if bytes_eq other key then Some value else value_at key rest
