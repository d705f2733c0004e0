-- The data of forms and queries (URL Standard, section 5.1).
use Rattle.std.specs.Prelude.{◌≡◌, ℕ, List, [], ◌∷◌}
use Rattle.std.specs.Str.Lossy.{utf8_lossy}
use Rattle.form_urlencoded.specs.Form.{decode, raw_pairs}
use Rattle.page_datum.specs.Data.{Data, text, dict, DataDict, no_entries, entry}
use Rattle.page_datum.specs.Putting.{put_all}
use Rattle.page_datum.specs.View.{entries_view}
use Rattle.page_datum.specs.declared.datum.Datum.{Datum}

-- the text of an encoded name or value: a plus is a space, two hex digits behind a percent sign are
-- a byte, and what is no UTF-8 is U+FFFD
abbrev pub text_of : List ℕ → List ℕ
text_of encoded = utf8_lossy (decode encoded)

-- pairs as entries, in their order
abbrev pub pair_entries : List (List ℕ × List ℕ) → DataDict
pair_entries [] = no_entries
pair_entries (pair ∷ pairs) = entry (text_of pair.0) (text (text_of pair.1)) (pair_entries pairs)

-- the pairs of a form, which stand between the `&`; an empty piece is none
abbrev pub form_pairs : List ℕ → DataDict
form_pairs form = pair_entries (raw_pairs form)

-- the dictionary of a form: of the values of a name the last stands
abbrev pub form_data : List ℕ → Data
form_data form = dict (put_all (form_pairs form) no_entries)

-- entries with those of other entries behind them
abbrev pub followed_by : DataDict → DataDict → DataDict
followed_by no_entries more = more
followed_by (entry key value rest) more = entry key value (followed_by rest more)

-- one pair more
abbrev pub pushed : List (List ℕ × Datum) → List (List ℕ × Datum) → List ℕ → List ℕ → Type 0
pushed old new name value =
    (more : DataDict) → followed_by (entries_view new) more
    ≡ followed_by (entries_view old) (entry (text_of name) (text (text_of value)) more)
