-- What is written for a text of UTF-8 in a string or a regular expression of a script is UTF-8. None of its bytes is NUL, whatever the text, nor
-- is one of what is written for a datum.
use Rattle.std.proofs.Common.{◌≡◌, ℕ, zero, suc, ℤ, pos, negsuc, ◌<◌, ◌/◌, ◌%◌, ◌==◌, ◌&&◌, ◌||◌, not, nat_lt, Bool, true, false, codes, List, [], ◌∷◌, ◌++◌, Option, Some, reverse, unwrap_or, if◌then◌else◌, encode_utf8, refl, sym, subst, arith, IsUtf8}
use Rattle.std.specs.Fmt.{decimal, digits, digits_onto, digit_glyph, signed_decimal}
use Rattle.std.specs.List.{list_all}
use Rattle.std.specs.Str.{all_scalars, encode_utf8_all}
use Rattle.std.proofs.lemmas.Bool.{agree_below_at, and_parts, cond_both, eqb-true, ltb-true, not-true}
use Rattle.std.proofs.lemmas.Str.{IsUtf8-append, IsUtf8-encode, IsUtf8-nil, encode_ascii}
use lib.Utf8.{low_scalar, scalar}
use Rattle.esc_table.specs.Replaced.{replaced, replaced_all, row_written}
use Rattle.esc_table.specs.Rows.{found}
use Rattle.esc_table.proofs.Runs.{replaced-encodes}
use Rattle.js_lexer.specs.Sanitizers.{Rows, begins_joined, escaped, escaped_at, escaped_from, empty_expression, js_regexp, js_string, js_value, json, json_entries, json_items, json_more_entries, json_more_items, json_text, regexp_rows, script_stands_at, spaced, string_rows, taken_at, text_rows}
use Rattle.page_datum.specs.Data.{Data, null, truth, int, text, list, dict, DataList, no_items, item, DataDict, no_entries, entry}
use Rattle.san_js.proofs.Characters.{replaced-escaped}
use Rattle.san_js.specs.ScriptRows.{escape_rows_of}

-- bytes of ASCII that are not NUL are UTF-8
abbrev is_own : ℕ → Bool
is_own b = nat_lt b 128 && not (b == 0)

low-then : (b : ℕ) (bs : List ℕ) → b < 128 → IsUtf8 bs → IsUtf8 (b ∷ bs)
low-then b bs l u = IsUtf8-append (b ∷ []) bs (subst IsUtf8 (encode_ascii b l) (IsUtf8-encode b (low_scalar b (omega (arith, l))))) u

own-utf8 : (bs : List ℕ) → list_all is_own bs ≡ true → IsUtf8 bs
own-utf8 [] e = IsUtf8-nil
own-utf8 (b ∷ bs) e =
    let parts = and_parts (is_own b) (list_all is_own bs) e in
    low-then b bs (ltb-true b 128 (and_parts (nat_lt b 128) (not (b == 0)) parts.0).0) (own-utf8 bs parts.1)

-- no byte is NUL
abbrev pub HaveNoNul : List ℕ → Type 0
HaveNoNul [] = Unit {0}
HaveNoNul (b ∷ bs) = ((b == 0) ≡ false) × HaveNoNul bs

own-no-nul : (bs : List ℕ) → list_all is_own bs ≡ true → HaveNoNul bs
own-no-nul [] e = tt
own-no-nul (b ∷ bs) e =
    let parts = and_parts (is_own b) (list_all is_own bs) e in
    (not-true (b == 0) (and_parts (nat_lt b 128) (not (b == 0)) parts.0).1, own-no-nul bs parts.1)

no-nul-append : (xs ys : List ℕ) → HaveNoNul xs → HaveNoNul ys → HaveNoNul (xs ++ ys)
no-nul-append [] ys g h = h
no-nul-append (x ∷ xs) ys g h = (g.0, no-nul-append xs ys g.1 h)

-- what each row writes is such bytes
abbrev is_own_row : ℕ × List ℕ → Bool
is_own_row row = list_all is_own row.1

strings-own : list_all is_own_row string_rows ≡ true
strings-own = refl

regexps-own : list_all is_own_row regexp_rows ≡ true
regexps-own = refl

texts-own : list_all is_own_row text_rows ≡ true
texts-own = refl

-- so what is written for a text is UTF-8, character by character
found-utf8 : (rows : Rows) (c : ℕ) → list_all is_own_row rows ≡ true → IsUtf8 (encode_utf8 c)
    → IsUtf8 (unwrap_or (found (escape_rows_of rows) c) (encode_utf8 c))
found-utf8 [] c e u = u
found-utf8 (row ∷ rows) c e u =
    let parts = and_parts (is_own_row row) (list_all is_own_row rows) e in
    cond_both (row.0 == c) (Some row.1) (found (escape_rows_of rows) c) (λ (o : Option (List ℕ)). IsUtf8 (unwrap_or o (encode_utf8 c)))
    (λ f. own-utf8 row.1 parts.0) (λ f. found-utf8 rows c parts.1 u)

all-utf8 : (rows : Rows) (cs : List ℕ) → list_all is_own_row rows ≡ true → all_scalars cs ≡ true
    → IsUtf8 (replaced_all (escape_rows_of rows) cs)
all-utf8 rows [] own e = IsUtf8-nil
all-utf8 rows (c ∷ cs) own e =
    let parts = and_parts (scalar c) (all_scalars cs) e in
    let here = found-utf8 rows c own (IsUtf8-encode c parts.0) in
    IsUtf8-append (row_written (escape_rows_of rows) c) (replaced_all (escape_rows_of rows) cs) here (all-utf8 rows cs own parts.1)

escaped-utf8 : (rows : Rows) (value : List ℕ) → list_all is_own_row rows ≡ true → IsUtf8 value → IsUtf8 (escaped rows value)
escaped-utf8 rows value own u =
    let table = escape_rows_of rows in
    let written = subst IsUtf8 (sym (replaced-encodes table u.0 u.1.0)) (all-utf8 rows u.0 own u.1.0) in
    subst IsUtf8 (replaced-escaped rows value u) (subst (λ (bytes : List ℕ). IsUtf8 (replaced table bytes)) u.1.1 written)

pub string-utf8 : (value : List ℕ) → IsUtf8 value → IsUtf8 (js_string value)
string-utf8 value u = escaped-utf8 string_rows value strings-own u

pub regexp-utf8 : (value : List ℕ) → IsUtf8 value → IsUtf8 (js_regexp value)
regexp-utf8 [] u = own-utf8 empty_expression refl
regexp-utf8 (b ∷ bs) u = escaped-utf8 regexp_rows (b ∷ bs) regexps-own u

-- A byte that is not NUL may stay, and for NUL there is a row.
other-no-nul : (rows : Rows) (b : ℕ) (bs : List ℕ) → list_all is_own_row rows ≡ true → (b == 0) ≡ false
    → HaveNoNul (escaped_at rows (b ∷ bs))
other-no-nul [] b bs own e = (e, tt)
other-no-nul (row ∷ rows) b bs own e =
    let parts = and_parts (is_own_row row) (list_all is_own_row rows) own in
    cond_both (script_stands_at row.0 (b ∷ bs)) row.1 (escaped_at rows (b ∷ bs)) HaveNoNul (λ f. own-no-nul row.1 parts.0)
    (λ f. other-no-nul rows b bs parts.1 e)

abbrev ClearsNul : Rows → Type 0
ClearsNul rows = (bs : List ℕ) → HaveNoNul (escaped_at rows (0 ∷ bs))

strings-clear : ClearsNul string_rows
unfolding lib.Utf8.encode
strings-clear bs = own-no-nul (codes "\\u0000") refl

regexps-clear : ClearsNul regexp_rows
unfolding lib.Utf8.encode
regexps-clear bs = own-no-nul (codes "\\u0000") refl

texts-clear : ClearsNul text_rows
unfolding lib.Utf8.encode
texts-clear bs = own-no-nul (codes "\\u0000") refl

byte-no-nul : (rows : Rows) (b : ℕ) (bs : List ℕ) → list_all is_own_row rows ≡ true → ClearsNul rows → (x : Bool) → (b == 0) ≡ x
    → HaveNoNul (escaped_at rows (b ∷ bs))
byte-no-nul rows b bs own clear true e = subst (λ (c : ℕ). HaveNoNul (escaped_at rows (c ∷ bs))) (sym (eqb-true b 0 e)) (clear bs)
byte-no-nul rows b bs own clear false e = other-no-nul rows b bs own e

escaped-no-nul : (rows : Rows) → list_all is_own_row rows ≡ true → ClearsNul rows → (n : ℕ) (bs : List ℕ)
    → HaveNoNul (escaped_from rows n bs)
escaped-no-nul rows own clear zero [] = tt
escaped-no-nul rows own clear (suc n) [] = tt
escaped-no-nul rows own clear (suc n) (b ∷ bs) = escaped-no-nul rows own clear n bs
escaped-no-nul rows own clear zero (b ∷ bs) =
    no-nul-append (escaped_at rows (b ∷ bs)) (escaped_from rows (taken_at rows (b ∷ bs)) bs) (byte-no-nul rows b bs own clear (b == 0) refl)
    (escaped-no-nul rows own clear (taken_at rows (b ∷ bs)) bs)

pub string-no-nul : (value : List ℕ) → HaveNoNul (js_string value)
string-no-nul value = escaped-no-nul string_rows strings-own strings-clear 0 value

pub regexp-no-nul : (value : List ℕ) → HaveNoNul (js_regexp value)
regexp-no-nul [] = own-no-nul empty_expression refl
regexp-no-nul (b ∷ bs) = escaped-no-nul regexp_rows regexps-own regexps-clear 0 (b ∷ bs)

-- a number is a minus sign and digits
glyph-no-nul : (n : ℕ) → (digit_glyph false (n % 10) == 0) ≡ false
glyph-no-nul n = agree_below_at (λ d. digit_glyph false d == 0) (λ d. false) 10 (n % 10) refl (omega arith)

digits-no-nul : (k n : ℕ) (bytes : List ℕ) → HaveNoNul bytes → HaveNoNul (digits_onto k 10 false n bytes)
digits-no-nul zero n bytes h = h
digits-no-nul (suc k) n bytes h =
    cond_both (n / 10 == 0) _ _ HaveNoNul (λ e. (glyph-no-nul n, h))
    (λ e. digits-no-nul k (n / 10) (digit_glyph false (n % 10) ∷ bytes) (glyph-no-nul n, h))

decimal-no-nul : (n : ℕ) → HaveNoNul (decimal n)
unfolding digits
decimal-no-nul n =
    cond_both (n / 10 == 0) _ _ HaveNoNul (λ e. (glyph-no-nul n, tt))
    (λ e. digits-no-nul 63 (n / 10) (digit_glyph false (n % 10) ∷ []) (glyph-no-nul n, tt))

number-no-nul : (n : ℤ) → HaveNoNul (signed_decimal n)
number-no-nul (pos n) = decimal-no-nul n
number-no-nul (negsuc n) = (refl, decimal-no-nul (suc n))

text-no-nul : (value : List ℕ) → HaveNoNul (json_text value)
text-no-nul value =
    (refl, no-nul-append (escaped text_rows value) (34 ∷ []) (escaped-no-nul text_rows texts-own texts-clear 0 value) (refl, tt))

mutual
  json-no-nul : (d : Data) → HaveNoNul (json d)
  json-no-nul null = own-no-nul (codes "null") refl
  json-no-nul (truth true) = own-no-nul (codes "true") refl
  json-no-nul (truth false) = own-no-nul (codes "false") refl
  json-no-nul (int n) = number-no-nul n
  json-no-nul (text t) = text-no-nul t
  json-no-nul (list items) = (refl, no-nul-append (json_items items) (93 ∷ []) (items-no-nul items) (refl, tt))
  json-no-nul (dict entries) = (refl, no-nul-append (json_entries entries) (125 ∷ []) (entries-no-nul entries) (refl, tt))

  items-no-nul : (items : DataList) → HaveNoNul (json_items items)
  items-no-nul no_items = tt
  items-no-nul (item d rest) = no-nul-append (json d) (json_more_items rest) (json-no-nul d) (more-items-no-nul rest)

  more-items-no-nul : (items : DataList) → HaveNoNul (json_more_items items)
  more-items-no-nul no_items = tt
  more-items-no-nul (item d rest) = (refl, no-nul-append (json d) (json_more_items rest) (json-no-nul d) (more-items-no-nul rest))

  entries-no-nul : (entries : DataDict) → HaveNoNul (json_entries entries)
  entries-no-nul no_entries = tt
  entries-no-nul (entry key d rest) =
      no-nul-append (json_text key) (58 ∷ (json d ++ json_more_entries rest)) (text-no-nul key)
      (refl, no-nul-append (json d) (json_more_entries rest) (json-no-nul d) (more-entries-no-nul rest))

  more-entries-no-nul : (entries : DataDict) → HaveNoNul (json_more_entries entries)
  more-entries-no-nul no_entries = tt
  more-entries-no-nul (entry key d rest) = (
    refl,
    no-nul-append (json_text key) (58 ∷ (json d ++ json_more_entries rest)) (text-no-nul key)
        (refl, no-nul-append (json d) (json_more_entries rest) (json-no-nul d) (more-entries-no-nul rest)),
  )

spaced-no-nul : (bytes : List ℕ) → HaveNoNul bytes → HaveNoNul (spaced bytes)
spaced-no-nul bytes h =
    cond_both (begins_joined bytes || begins_joined (reverse bytes)) (32 ∷ (bytes ++ 32 ∷ [])) bytes HaveNoNul
    (λ e. (refl, no-nul-append bytes (32 ∷ []) h (refl, tt))) (λ e. h)

pub value-no-nul : (d : Data) → HaveNoNul (js_value d)
value-no-nul d = spaced-no-nul (json d) (json-no-nul d)
