-- No byte that is written for a value in a script is a `<`, with which the end tag of the element begins: each `<` of a text has a row, and no row writes one.
use Rattle.std.proofs.Common.{◌≡◌, ℕ, ℤ, pos, negsuc, zero, suc, ◌/◌, ◌%◌, ◌==◌, ◌&&◌, not, Bool, true, false, List, [], ◌∷◌, ◌++◌, reverse, refl, arith}
use Rattle.std.specs.Prelude.{if◌then◌else◌, ◌||◌}
use Rattle.std.specs.Fmt.{decimal, digits, digits_onto, digit_glyph, signed_decimal}
use Rattle.std.specs.List.{list_any}
use Rattle.std.proofs.lemmas.Bool.{agree_below_at, and_parts, cond_both, not-true, or_parts}
use Rattle.js_lexer.proofs.OpenBytes.{EachWritten, apart-from, leaves, written-at}
use Rattle.js_lexer.specs.Sanitizers.{Rows, begins_joined, escaped_at, escaped_from, js_regexp, js_string, js_value, json, json_entries, json_items, json_more_entries, json_more_items, json_text, regexp_rows, string_rows, taken_at, text_rows}
use Rattle.page_datum.specs.Data.{Data, null, truth, int, text, list, dict, DataList, no_items, item, DataDict, no_entries, entry}

abbrev pub HasNoLess : List ℕ → Type 0
HasNoLess bytes = list_any (λ b. b == 60) bytes ≡ false

none-append : (xs ys : List ℕ) → HasNoLess xs → HasNoLess ys → HasNoLess (xs ++ ys)
none-append [] ys g h = h
none-append (x ∷ xs) ys g h =
    let parts = or_parts (x == 60) (list_any (λ b. b == 60) xs) g in
    rw (parts.0, none-append xs ys parts.1 h) refl

none-then : (b : ℕ) (bs : List ℕ) → (b == 60) ≡ false → HasNoLess bs → HasNoLess (b ∷ bs)
none-then b bs g h = rw (g, h) refl

-- A text, by its rows.
abbrev rows_have_none : Rows → Bool
rows_have_none [] = true
rows_have_none (row ∷ rows) = not (list_any (λ b. b == 60) row.1) && rows_have_none rows

each-row : (rows : Rows) → rows_have_none rows ≡ true → EachWritten HasNoLess rows
each-row [] h = tt
each-row (row ∷ rows) h =
    let parts = and_parts (not (list_any (λ b. b == 60) row.1)) (rows_have_none rows) h in
    (not-true (list_any (λ b. b == 60) row.1) parts.0, each-row rows parts.1)

escaped-none : (rows : Rows) → EachWritten HasNoLess rows → ((bs : List ℕ) → leaves rows (60 ∷ bs) ≡ false) → (n : ℕ) (bs : List ℕ) → HasNoLess (escaped_from rows n bs)
escaped-none rows each none zero [] = refl
escaped-none rows each none (suc n) [] = refl
escaped-none rows each none (suc n) (b ∷ bs) = escaped-none rows each none n bs
escaped-none rows each none zero (b ∷ bs) =
    none-append (escaped_at rows (b ∷ bs)) (escaped_from rows (taken_at rows (b ∷ bs)) bs)
    (written-at HasNoLess rows b bs each (λ h. none-then b [] (apart-from rows 60 none b bs h (b == 60) refl) refl)) (escaped-none rows each none (taken_at rows (b ∷ bs)) bs)

string-rows-none : rows_have_none string_rows ≡ true
string-rows-none = refl

string-rows-have : (bs : List ℕ) → leaves string_rows (60 ∷ bs) ≡ false
unfolding lib.Utf8.encode
string-rows-have bs = refl

regexp-rows-none : rows_have_none regexp_rows ≡ true
regexp-rows-none = refl

regexp-rows-have : (bs : List ℕ) → leaves regexp_rows (60 ∷ bs) ≡ false
unfolding lib.Utf8.encode
regexp-rows-have bs = refl

text-rows-none : rows_have_none text_rows ≡ true
text-rows-none = refl

text-rows-have : (bs : List ℕ) → leaves text_rows (60 ∷ bs) ≡ false
unfolding lib.Utf8.encode
text-rows-have bs = refl

pub string-none : (value : List ℕ) → HasNoLess (js_string value)
string-none value = escaped-none string_rows (each-row string_rows string-rows-none) string-rows-have 0 value

pub regexp-none : (value : List ℕ) → HasNoLess (js_regexp value)
regexp-none [] = refl
regexp-none (b ∷ bs) = escaped-none regexp_rows (each-row regexp_rows regexp-rows-none) regexp-rows-have 0 (b ∷ bs)

-- Data, as JSON.
glyph-none : (n : ℕ) → (digit_glyph false (n % 10) == 60) ≡ false
glyph-none n = agree_below_at (λ d. digit_glyph false d == 60) (λ d. false) 10 (n % 10) refl (omega arith)

digits-none : (k n : ℕ) (bytes : List ℕ) → HasNoLess bytes → HasNoLess (digits_onto k 10 false n bytes)
digits-none zero n bytes h = h
digits-none (suc k) n bytes h =
    let here = none-then (digit_glyph false (n % 10)) bytes (glyph-none n) h in
    cond_both (n / 10 == 0) _ _ HasNoLess (λ e. here) (λ e. digits-none k (n / 10) (digit_glyph false (n % 10) ∷ bytes) here)

decimal-none : (n : ℕ) → HasNoLess (decimal n)
unfolding digits
decimal-none n =
    let here = none-then (digit_glyph false (n % 10)) [] (glyph-none n) refl in
    cond_both (n / 10 == 0) _ _ HasNoLess (λ e. here) (λ e. digits-none 63 (n / 10) (digit_glyph false (n % 10) ∷ []) here)

number-none : (n : ℤ) → HasNoLess (signed_decimal n)
number-none (pos n) = decimal-none n
number-none (negsuc n) = none-then 45 (decimal (suc n)) refl (decimal-none (suc n))

text-none : (t : List ℕ) → HasNoLess (json_text t)
text-none t =
    let inner = escaped_from text_rows 0 t in
    none-then 34 (inner ++ 34 ∷ []) refl (none-append inner (34 ∷ []) (escaped-none text_rows (each-row text_rows text-rows-none) text-rows-have 0 t) refl)

mutual
  json-none : (d : Data) → HasNoLess (json d)
  json-none null = refl
  json-none (truth true) = refl
  json-none (truth false) = refl
  json-none (int n) = number-none n
  json-none (text t) = text-none t
  json-none (list items) = none-then 91 (json_items items ++ 93 ∷ []) refl (none-append (json_items items) (93 ∷ []) (items-none items) refl)
  json-none (dict entries) = none-then 123 (json_entries entries ++ 125 ∷ []) refl (none-append (json_entries entries) (125 ∷ []) (entries-none entries) refl)

  items-none : (items : DataList) → HasNoLess (json_items items)
  items-none no_items = refl
  items-none (item d rest) = none-append (json d) (json_more_items rest) (json-none d) (more-items-none rest)

  more-items-none : (items : DataList) → HasNoLess (json_more_items items)
  more-items-none no_items = refl
  more-items-none (item d rest) = none-then 44 (json d ++ json_more_items rest) refl (none-append (json d) (json_more_items rest) (json-none d) (more-items-none rest))

  entries-none : (entries : DataDict) → HasNoLess (json_entries entries)
  entries-none no_entries = refl
  entries-none (entry key d rest) =
      none-append (json_text key) (58 ∷ (json d ++ json_more_entries rest)) (text-none key)
      (none-then 58 (json d ++ json_more_entries rest) refl (none-append (json d) (json_more_entries rest) (json-none d) (more-entries-none rest)))

  more-entries-none : (entries : DataDict) → HasNoLess (json_more_entries entries)
  more-entries-none no_entries = refl
  more-entries-none (entry key d rest) =
      none-then 44 (json_text key ++ 58 ∷ (json d ++ json_more_entries rest)) refl
      (none-append (json_text key) (58 ∷ (json d ++ json_more_entries rest)) (text-none key)
      (none-then 58 (json d ++ json_more_entries rest) refl (none-append (json d) (json_more_entries rest) (json-none d) (more-entries-none rest))))

spaced-none : (x : Bool) (bytes : List ℕ) → HasNoLess bytes → HasNoLess (if x then 32 ∷ (bytes ++ 32 ∷ []) else bytes)
spaced-none true bytes h = none-then 32 (bytes ++ 32 ∷ []) refl (none-append bytes (32 ∷ []) h refl)
spaced-none false bytes h = h

pub value-none : (d : Data) → HasNoLess (js_value d)
value-none d = spaced-none (begins_joined (json d) || begins_joined (reverse (json d))) (json d) (json-none d)
