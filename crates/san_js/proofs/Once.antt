-- Rows whose character has a row before them never count.
use Rattle.std.proofs.Common.{◌≡◌, ℕ, ◌==◌, ◌||◌, Bool, true, false, List, [], ◌∷◌, ◌++◌, Option, None, unwrap_or, chars, encode_utf8, refl, sym, ap, ◌∙◌, inl, inr}
use Rattle.std.specs.Prelude.{IsUtf8}
use Rattle.std.proofs.lemmas.Bool.{cases_Bool, eqb-true}
use Rattle.esc_table.specs.Rows.{EscapeRow, found}
use Rattle.esc_table.specs.Replaced.{row_written, replaced_all, replaced}
use Rattle.js_lexer.specs.Sanitizers.{escaped, text_rows}
use Rattle.san_js.specs.ScriptRows.{escape_rows_of, is_among_characters, each_row_once, text_rows_once}
use Rattle.san_js.proofs.Characters.{replaced-escaped}

abbrev unless : Bool → Option (List ℕ) → Option (List ℕ)
unless true o = None
unless false o = o

none-unless : (x : Bool) → None ≡ unless x None
none-unless true = refl
none-unless false = refl

found-once : (before : List ℕ) (rows : List EscapeRow) (c : ℕ) → found (each_row_once before rows) c ≡ unless (is_among_characters before c) (found rows c)
found-once before [] c = none-unless (is_among_characters before c)
found-once before (row ∷ rows) c = elim (cases_Bool (is_among_characters before row.character)) [
  | inl t ↦ elim (cases_Bool (row.character == c)) [
    | inl same ↦
        let among : is_among_characters before c ≡ true = ap (is_among_characters before) (sym (eqb-true row.character c same)) ∙ t in
        rw (t, among) (found-once (row.character ∷ before) rows c ∙ ap (λ (x : Bool). unless (x || is_among_characters before c) (found rows c)) same)
    | inr other ↦ rw (t, other) (found-once (row.character ∷ before) rows c ∙ ap (λ (x : Bool). unless (x || is_among_characters before c) (found rows c)) other)
  ]
  | inr f ↦ elim (cases_Bool (row.character == c)) [
    | inl same ↦
        let apart : is_among_characters before c ≡ false = ap (is_among_characters before) (sym (eqb-true row.character c same)) ∙ f in
        rw (f, same, apart) refl
    | inr other ↦ rw (f, other) (found-once (row.character ∷ before) rows c ∙ ap (λ (x : Bool). unless (x || is_among_characters before c) (found rows c)) other)
  ]
]

all-once : (rows : List EscapeRow) (cs : List ℕ) → replaced_all (each_row_once [] rows) cs ≡ replaced_all rows cs
all-once rows [] = refl
all-once rows (c ∷ cs) =
    ap (λ (o : Option (List ℕ)). unwrap_or o (encode_utf8 c) ++ replaced_all (each_row_once [] rows) cs) (found-once [] rows c)
    ∙ ap (λ (more : List ℕ). row_written rows c ++ more) (all-once rows cs)

pub replaced-once : (rows : List EscapeRow) (text : List ℕ) → replaced (each_row_once [] rows) text ≡ replaced rows text
replaced-once rows text = all-once rows (chars text)

pub text-escaped : (text : List ℕ) → IsUtf8 text → replaced text_rows_once text ≡ escaped text_rows text
text-escaped text u = replaced-once (escape_rows_of text_rows) text ∙ replaced-escaped text_rows text u
