-- The datum that a JSON text (RFC 8259) stands for, and how reading it answers.
use Rattle.std.specs.Prelude.{◌≡◌, ℕ, ℤ, suc, ◌<◌, ◌≤◌, List, [], ◌∷◌, ◌++◌, length, true, false}
use Rattle.std.specs.Prelude.{Option, Some, None, Result, Ok, Err, ⊤}
use Rattle.std.specs.Str.{IsUtf8}
use Rattle.std.specs.Fmt.{decimal}
use Rattle.serde_json.specs.Data as json
use Rattle.serde_json.specs.Find.{as_i64}
use Rattle.serde_json.specs.Read.{read}
use Rattle.page_datum.specs.Data.{Data, null, truth, int, text, list, dict, DataList, no_items}
use Rattle.page_datum.specs.Data.{item, DataDict, no_entries, entry}
use Rattle.page_datum.specs.Depth.{is_too_deep}
use Rattle.page_datum.specs.View.{view}
use Rattle.page_datum.specs.declared.datum.Datum.{Datum}
use Rattle.page_datum.specs.declared.refused.DataRefused.{DataRefused}
use Rattle.page_datum.specs.declared.refused.DataRefused.TheVariants.{TooLong, TooDeep, NotJson}
use Rattle.page_datum.specs.declared.refused.DataRefused.TheVariants.{NotWhole, Memory}

-- the most bytes that data may have
abbrev pub max_length : ℕ
max_length = 8388608

-- the bytes are JSON text of this value, as the JSON reader's own definition has it
pub record IsJson (bytes : List ℕ) (value : json.Data) : Type 0 where
  pub utf8 : IsUtf8 bytes
  pub reads : read bytes ≡ Some value

-- What a JSON value stands for is a value, or, where a number in it is none of `i64`, the path of
-- the first such number, depth first and with keys in order: the keys and numbers of items that
-- lead to it.
abbrev pub Path : Type 0
Path = List ℕ

-- a path within the value of a key or an item: a dot, the key or the number of the item, and the
-- path there
abbrev pub within_part : List ℕ → Path → Path
within_part step path = 46 ∷ (step ++ path)

-- a whole number, or the path here, which is empty
abbrev pub whole_of : Option ℤ → Result Data Path
whole_of (Some n) = Ok (int n)
whole_of None = Err []

-- one more item before them, and one more entry
abbrev pub with_item : List ℕ → Result Data Path → Result DataList Path → Result DataList Path
with_item number (Ok d) (Ok rest) = Ok (item d rest)
with_item number (Ok d) (Err path) = Err path
with_item number (Err path) rest = Err (within_part number path)

abbrev pub with_entry : List ℕ → Result Data Path → Result DataDict Path → Result DataDict Path
with_entry key (Ok d) (Ok rest) = Ok (entry key d rest)
with_entry key (Ok d) (Err path) = Err path
with_entry key (Err path) rest = Err (within_part key path)

abbrev pub as_list : Result DataList Path → Result Data Path
as_list (Ok items) = Ok (list items)
as_list (Err path) = Err path

abbrev pub as_dict : Result DataDict Path → Result Data Path
as_dict (Ok entries) = Ok (dict entries)
as_dict (Err path) = Err path

abbrev mutual
  -- the data that a JSON value stands for
  pub data_of : json.Data → Result Data Path
  data_of json.null = Ok null
  data_of (json.boolean b) = Ok (truth b)
  data_of (json.number n) = whole_of (as_i64 n)
  data_of (json.string s) = Ok (text s)
  data_of (json.array items) = as_list (items_of 0 items)
  data_of (json.object members) = as_dict (entries_of members)

  -- its items, from the one with this number on
  pub items_of : ℕ → json.Items → Result DataList Path
  items_of n json.no_items = Ok no_items
  items_of n (json.item d rest) = with_item (decimal n) (data_of d) (items_of (suc n) rest)

  pub entries_of : json.Members → Result DataDict Path
  entries_of json.no_members = Ok no_entries
  entries_of (json.member key d rest) = with_entry key (data_of d) (entries_of rest)

-- a path as it is shown: the root is a dot
abbrev pub shown_path : Path → List ℕ
shown_path [] = 46 ∷ []
shown_path path = path

-- bytes that are neither too long nor too deep
pub record Fits (bytes : List ℕ) : Type 0 where
  pub short : length bytes ≤ max_length
  pub flat : is_too_deep bytes ≡ false

-- the bytes stand for this datum
abbrev pub IsDatum : List ℕ → Data → Type 0
IsDatum bytes d = Fits bytes × (value : json.Data) × IsJson bytes value × (data_of value ≡ Ok d)

-- why bytes are no datum; the number of `TooLong` is left open, since who reads up to the limit
-- does not know it
abbrev pub IsNoDatum : DataRefused → List ℕ → Type 0
IsNoDatum (TooLong len) bytes = max_length < length bytes
IsNoDatum TooDeep bytes = (length bytes ≤ max_length) × (is_too_deep bytes ≡ true)
IsNoDatum NotJson bytes = Fits bytes × ((value : json.Data) → IsJson bytes value → ⊥)
IsNoDatum (NotWhole shown) bytes =
    Fits bytes × (value : json.Data) × (path : Path) × IsJson bytes value
    × (data_of value ≡ Err path) × (shown ≡ shown_path path)
IsNoDatum Memory bytes = ⊥

-- what reading answers, and why
abbrev pub ReadDatumAnswers : List ℕ → Result Datum DataRefused → Type 0
ReadDatumAnswers bytes (Ok datum) = IsDatum bytes (view datum)
ReadDatumAnswers bytes (Err (TooLong len)) = (len ≡ length bytes) × (max_length < length bytes)
ReadDatumAnswers bytes (Err Memory) = ⊤
ReadDatumAnswers bytes (Err why) = IsNoDatum why bytes
