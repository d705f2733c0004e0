-- Rows that are applied byte by byte, as the definition has them, are applied to each character.
use Rattle.std.proofs.Common.{◌≡◌, ℕ, zero, suc, ◌<◌, ◌≤◌, ◌-◌, ◌==◌, true, false, List, [], ◌∷◌, ◌++◌, Option, None, Some, is_some, unwrap_or, length, take, take_at, drop, encode_utf8, nat_lt, if◌then◌else◌, refl, sym, ap, subst, ◌∙◌, inl, inr, arith}
use Rattle.std.specs.Prelude.{IsUtf8, encode_utf8_all}
use Rattle.std.specs.Cmp.Lexicographic.{pointwise, bytes_decides}
use Rattle.std.proofs.lemmas.Bool.{cases_Bool, cond_both, eqb-true, eq-eqb, ne_eqb, true≢false, le-ltb}
use Rattle.std.proofs.lemmas.List.{take-append-drop}
use Rattle.std.proofs.lemmas.Str.{encode_same}
use Rattle.esc_table.specs.Rows.{found}
use Rattle.esc_table.specs.Replaced.{row_written, replaced_all, replaced}
use Rattle.esc_table.proofs.Runs.{replaced-encodes}
use Rattle.js_lexer.specs.Sanitizers.{Rows, script_stands_at, escaped_at, taken_at, escaped_from, escaped, regexp_rows, js_regexp}
use Rattle.san_js.specs.ScriptRows.{escape_rows_of}

-- bytes with which a character goes on
abbrev AllContinue : List ℕ → Type 0
AllContinue [] = Unit {0}
AllContinue (b ∷ bs) = ((128 ≤ b) × (b < 192)) × AllContinue bs

-- a byte with which a character begins, and such bytes
abbrev IsLed : List ℕ → Type 0
IsLed [] = ⊥
IsLed (b ∷ bs) = (128 ≤ b → 192 ≤ b) × AllContinue bs

led : (c : ℕ) → IsLed (encode_utf8 c)
unfolding lib.Utf8.encode
led c =
    cond_both (nat_lt c 128) _ _ IsLed (λ e. (λ h. absurd (true≢false (sym e ∙ le-ltb c 128 h)), tt))
    (λ e. cond_both (nat_lt c 2048) _ _ IsLed (λ e. (λ h. omega arith, ((omega arith, omega arith), tt)))
    (λ e. cond_both (nat_lt c 65536) _ _ IsLed (λ e. (λ h. omega arith, ((omega arith, omega arith), ((omega arith, omega arith), tt))))
    (λ e. (λ h. omega arith, ((omega arith, omega arith), ((omega arith, omega arith), ((omega arith, omega arith), tt)))))))

-- a character stands at the beginning of another one's bytes where it is that one
stands-same : (k c : ℕ) (rest : List ℕ) → script_stands_at k (encode_utf8 c ++ rest) ≡ true → k ≡ c
stands-same k c rest h =
    let bytes = encode_utf8 c ++ rest in
    let n = length (encode_utf8 k) in
    (encode_same k c (drop n bytes) rest (ap (λ (front : List ℕ). front ++ drop n bytes) ((bytes_decides (encode_utf8 k) (take n bytes)).0 h) ∙ take-append-drop n bytes)).0

stands-itself : (c : ℕ) (rest : List ℕ) → script_stands_at c (encode_utf8 c ++ rest) ≡ true
stands-itself c rest =
    (bytes_decides (encode_utf8 c) (take (length (encode_utf8 c)) (encode_utf8 c ++ rest))).1 (sym (take_at (encode_utf8 c) rest (length (encode_utf8 c)) refl))

stands : (k c : ℕ) (rest : List ℕ) → script_stands_at k (encode_utf8 c ++ rest) ≡ (k == c)
stands k c rest = elim (cases_Bool (k == c)) [
  | inl same ↦ subst (λ (n : ℕ). script_stands_at n (encode_utf8 c ++ rest) ≡ true) (sym (eqb-true k c same)) (stands-itself c rest) ∙ sym same
  | inr other ↦ elim (cases_Bool (script_stands_at k (encode_utf8 c ++ rest))) [
    | inl t ↦ absurd (true≢false (sym (eq-eqb k c (stands-same k c rest t)) ∙ other))
    | inr f ↦ f ∙ sym other
  ]
]

-- none stands where a character goes on
none-inside : (d : ℕ) (rest bytes : List ℕ) → 128 ≤ d → d < 192 → IsLed bytes → pointwise (λ x y. x == y) bytes (take (length bytes) (d ∷ rest)) ≡ false
none-inside d rest [] low high is = absurd is
none-inside d rest (b ∷ bs) low high is = rw (ne_eqb b d (λ e. absurd (omega (arith, e, high, is.0 (omega (arith, e, low)))))) refl

escaped-inside : (rows : Rows) (d : ℕ) (rest : List ℕ) → 128 ≤ d → d < 192 → escaped_at rows (d ∷ rest) ≡ d ∷ []
escaped-inside [] d rest low high = refl
escaped-inside (row ∷ rows) d rest low high = rw (none-inside d rest (encode_utf8 row.0) low high (led row.0)) (escaped-inside rows d rest low high)

taken-inside : (rows : Rows) (d : ℕ) (rest : List ℕ) → 128 ≤ d → d < 192 → taken_at rows (d ∷ rest) ≡ 0
taken-inside [] d rest low high = refl
taken-inside (row ∷ rows) d rest low high = rw (none-inside d rest (encode_utf8 row.0) low high (led row.0)) (taken-inside rows d rest low high)

stays : (rows : Rows) (bytes rest : List ℕ) → AllContinue bytes → escaped_from rows 0 (bytes ++ rest) ≡ bytes ++ escaped_from rows 0 rest
stays rows [] rest h = refl
stays rows (b ∷ bs) rest h =
    rw (escaped-inside rows b (bs ++ rest) h.0.0 h.0.1, taken-inside rows b (bs ++ rest) h.0.0 h.0.1) (ap (λ (more : List ℕ). b ∷ more) (stays rows bs rest h.1))

skips : (rows : Rows) (bytes rest : List ℕ) (n : ℕ) → n ≡ length bytes → escaped_from rows n (bytes ++ rest) ≡ escaped_from rows 0 rest
skips rows [] rest n e = ap (λ (m : ℕ). escaped_from rows m rest) e
skips rows (b ∷ bs) rest zero e = absurd (omega (arith, e))
skips rows (b ∷ bs) rest (suc n) e = skips rows bs rest n (omega (arith, e))

-- the row of the first character counts
escaped-first : (rows : Rows) (c : ℕ) (rest : List ℕ) → escaped_at rows (encode_utf8 c ++ rest) ≡ unwrap_or (found (escape_rows_of rows) c) (take 1 (encode_utf8 c ++ rest))
escaped-first [] c rest = refl
escaped-first (row ∷ rows) c rest = elim (cases_Bool (row.0 == c)) [
  | inl same ↦ rw (stands row.0 c rest, same) refl
  | inr other ↦ rw (stands row.0 c rest, other) (escaped-first rows c rest)
]

taken-first : (rows : Rows) (c : ℕ) (rest : List ℕ) → taken_at rows (encode_utf8 c ++ rest) ≡ (if is_some (found (escape_rows_of rows) c) then length (encode_utf8 c) - 1 else 0)
taken-first [] c rest = refl
taken-first (row ∷ rows) c rest = elim (cases_Bool (row.0 == c)) [
  | inl same ↦ rw (stands row.0 c rest, same) (ap (λ (n : ℕ). length (encode_utf8 n) - 1) (eqb-true row.0 c same))
  | inr other ↦ rw (stands row.0 c rest, other) (taken-first rows c rest)
]

by-row : (rows : Rows) (bytes rest : List ℕ) (o : Option (List ℕ)) → IsLed bytes → escaped_at rows (bytes ++ rest) ≡ unwrap_or o (take 1 (bytes ++ rest)) → taken_at rows (bytes ++ rest) ≡ (if is_some o then length bytes - 1 else 0) → escaped_from rows 0 (bytes ++ rest) ≡ unwrap_or o bytes ++ escaped_from rows 0 rest
by-row rows [] rest o is e k = absurd is
by-row rows (b ∷ bs) rest None is e k = rw (e, k) (ap (λ (more : List ℕ). b ∷ more) (stays rows bs rest is.1))
by-row rows (b ∷ bs) rest (Some written) is e k = rw (e, k) (ap (λ (more : List ℕ). written ++ more) (skips rows bs rest (length (b ∷ bs) - 1) (omega arith)))

escaped-character : (rows : Rows) (c : ℕ) (rest : List ℕ) → escaped_from rows 0 (encode_utf8 c ++ rest) ≡ row_written (escape_rows_of rows) c ++ escaped_from rows 0 rest
escaped-character rows c rest = by-row rows (encode_utf8 c) rest (found (escape_rows_of rows) c) (led c) (escaped-first rows c rest) (taken-first rows c rest)

escaped-characters : (rows : Rows) (cs : List ℕ) → escaped_from rows 0 (encode_utf8_all cs) ≡ replaced_all (escape_rows_of rows) cs
escaped-characters rows [] = refl
escaped-characters rows (c ∷ cs) =
    escaped-character rows c (encode_utf8_all cs) ∙ ap (λ (more : List ℕ). row_written (escape_rows_of rows) c ++ more) (escaped-characters rows cs)

-- a text is written as the table has it
pub replaced-escaped : (rows : Rows) (text : List ℕ) → IsUtf8 text → replaced (escape_rows_of rows) text ≡ escaped rows text
replaced-escaped rows text u =
    subst (λ (bytes : List ℕ). replaced (escape_rows_of rows) bytes ≡ escaped rows bytes) u.1.1
    (replaced-encodes (escape_rows_of rows) u.0 u.1.0 ∙ sym (escaped-characters rows u.0))

regexp-some : (text : List ℕ) → 0 < length text → escaped regexp_rows text ≡ js_regexp text
regexp-some [] some = absurd (omega (arith, some))
regexp-some (b ∷ bs) some = refl

pub regexp-escaped : (text : List ℕ) → IsUtf8 text → 0 < length text → replaced (escape_rows_of regexp_rows) text ≡ js_regexp text
regexp-escaped text u some = replaced-escaped regexp_rows text u ∙ regexp-some text some
