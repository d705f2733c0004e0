-- A run of bytes with which no character of a table begins is replaced by itself, and a text may be cut after it.
use Rattle.std.proofs.Common.{◌≡◌, ◌≢◌, ◌⊎◌, ◌+◌, suc, append_assoc, append-nil, ℕ, ◌<◌, ◌≤◌, ◌==◌, ◌++◌, Bool, true, false, List, [], ◌∷◌, length, take, drop, get_or, set, replicate, Option, None, refl, sym, ap, ◌∙◌, inl, inr, subst, arith, encode_utf8, unwrap_or, nat_lt, Bor}
use Rattle.std.specs.List.{list_all, prefix_len}
use Rattle.std.specs.Str.{IsUtf8, IsCharBoundary, encode_utf8_all}
use Rattle.std.proofs.Math.ListN.{get_or-eq_default}
use Rattle.std.proofs.lemmas.Bool.{cases_Bool, cases_lt, eqb-true, true≢false, and_parts, cond_both, le-ltb}
use Rattle.std.proofs.lemmas.Bool.Decides.{nat_tests}
use Rattle.std.proofs.lemmas.List.{get_or-set_same, get_or-set_other, get_or-replicate, take-append-drop, length-set}
use Rattle.std.proofs.lemmas.List.Folds.{list_all-append}
use Rattle.std.proofs.lemmas.List.Sums.{prefix_len_stops}
use Rattle.std.proofs.lemmas.Str.{chars-nil, chars_past_char, IsUtf8-take, length-encode, len_utf8_bounds}
use Rattle.esc_table.specs.Kept.{characters_of, first_byte, is_kept_byte, kept_of, kept_by}
use Rattle.esc_table.specs.Rows.{EscapeRow, found, rows_of}
use Rattle.esc_table.specs.Replaced.{StepWrites, row_written, replaced, replaced_all}
use Rattle.esc_table.proofs.Runs.{replaced-append, replaced-encodes}

-- a byte that is taken out is not kept, and what is kept was kept before
set_other : (kept : List Bool) (i b : ℕ) → is_kept_byte (set kept i false) b ≡ true → b ≢ i
set_other kept i b e same = elim (cases_lt i (length kept)) [
  | inl inside ↦ absurd (true≢false (sym e ∙ ap (is_kept_byte (set kept i false)) same ∙ get_or-set_same kept i false false inside))
  | inr outside ↦ absurd (true≢false (sym e ∙ get_or-eq_default (set kept i false) false (omega (arith, length-set kept i false, outside, same))))
]

set_kept : (kept : List Bool) (i b : ℕ) → is_kept_byte (set kept i false) b ≡ true → is_kept_byte kept b ≡ true
set_kept kept i b e = sym (get_or-set_other kept i b false false (set_other kept i b e)) ∙ e

was_kept : (characters : List ℕ) (kept : List Bool) (b : ℕ) → is_kept_byte (kept_of kept characters) b ≡ true → is_kept_byte kept b ≡ true
was_kept [] kept b e = e
was_kept (c ∷ cs) kept b e = set_kept kept (first_byte c) b (was_kept cs (set kept (first_byte c) false) b e)

-- a character that begins with a byte that is kept has no row
none_found : (rows : List EscapeRow) (kept : List Bool) (c : ℕ) → is_kept_byte (kept_of kept (characters_of rows)) (first_byte c) ≡ true → found rows c ≡ None
none_found [] kept c e = refl
none_found (row ∷ rows) kept c e = elim (cases_Bool (row.character == c)) [
  | inl same ↦ absurd (set_other kept (first_byte row.character) (first_byte c) (was_kept (characters_of rows) (set kept (first_byte row.character) false) (first_byte c) e) (ap first_byte (sym (eqb-true row.character c same))))
  | inr other ↦ rw other (none_found rows (set kept (first_byte row.character) false) c e)
]

differs : (a b : ℕ) → (a == b) ≡ false → b ≢ a
differs a b e same = grind (arith, nat_tests)

-- a byte that is not kept was not, or a character begins with it
none_kept : (characters : List ℕ) (kept : List Bool) (b : ℕ) → is_kept_byte (kept_of kept characters) b ≡ false → (is_kept_byte kept b ≡ false) ⊎ ((c : ℕ) × (first_byte c ≡ b))
none_kept [] kept b e = inl e
none_kept (c ∷ cs) kept b e = elim (none_kept cs (set kept (first_byte c) false) b e) [
  | inl now ↦ elim (cases_Bool (first_byte c == b)) [
    | inl same ↦ inr (c, eqb-true (first_byte c) b same)
    | inr other ↦ inl (sym (get_or-set_other kept (first_byte c) b false false (differs (first_byte c) b other)) ∙ now)
  ]
  | inr begins ↦ inr begins
]

-- no character begins with a byte with which one goes on
leads : (c : ℕ) → 128 ≤ first_byte c → 192 ≤ first_byte c
unfolding lib.Utf8.encode
leads c =
    cond_both (nat_lt c 128) _ _ (λ (bytes : List ℕ). 128 ≤ get_or bytes 0 0 → 192 ≤ get_or bytes 0 0) (λ e h. absurd (true≢false (sym e ∙ le-ltb c 128 h)))
    (λ e. cond_both (nat_lt c 2048) _ _ (λ (bytes : List ℕ). 128 ≤ get_or bytes 0 0 → 192 ≤ get_or bytes 0 0) (λ e h. omega arith)
    (λ e. cond_both (nat_lt c 65536) _ _ (λ (bytes : List ℕ). 128 ≤ get_or bytes 0 0 → 192 ≤ get_or bytes 0 0) (λ e h. omega arith)
    (λ e h. omega arith)))

-- a text may be cut after a run of bytes that are kept
pub cut_behind : (rows : List EscapeRow) (text : List ℕ) (run : ℕ) → run ≡ prefix_len (is_kept_byte (kept_by rows)) text → run ≤ length text → IsCharBoundary text run
cut_behind rows text run is fits = (
  fits,
  λ inside high.
      let stops : is_kept_byte (kept_by rows) (get_or text run 0) ≡ false = ap (λ (i : ℕ). is_kept_byte (kept_by rows) (get_or text i 0)) is ∙ prefix_len_stops (is_kept_byte (kept_by rows)) text 0 (omega (arith, is, inside)) in
      elim (none_kept (characters_of rows) (replicate 256 true) (get_or text run 0) stops) [
        | inl out ↦ elim (cases_lt (get_or text run 0) 256) [
          | inl small ↦ absurd (true≢false (sym (get_or-replicate 256 (get_or text run 0) true false small) ∙ out))
          | inr large ↦ omega (arith, large)
        ]
        | inr begins ↦ subst (λ (b : ℕ). 128 ≤ b → 192 ≤ b) begins.1 (leads begins.0) high
      ],
)

first_passes : (p : ℕ → Bool) (bytes : List ℕ) → 0 < length bytes → list_all p bytes ≡ true → p (get_or bytes 0 0) ≡ true
first_passes p [] some all = absurd (omega arith)
first_passes p (b ∷ bs) some all = (and_parts (p b) (list_all p bs) all).0

begins_some : (c : ℕ) → 0 < length (encode_utf8 c)
begins_some c = omega (arith, length-encode c, (len_utf8_bounds c).0)

stands : (rows : List EscapeRow) (c : ℕ) → list_all (is_kept_byte (kept_by rows)) (encode_utf8 c) ≡ true → row_written rows c ≡ encode_utf8 c
stands rows c all = ap (λ (o : Option (List ℕ)). unwrap_or o (encode_utf8 c)) (none_found rows (replicate 256 true) c (first_passes (is_kept_byte (kept_by rows)) (encode_utf8 c) (begins_some c) all))

-- characters of bytes that are kept stand for themselves
all_stand : (rows : List EscapeRow) (cs : List ℕ) → list_all (is_kept_byte (kept_by rows)) (encode_utf8_all cs) ≡ true → replaced_all rows cs ≡ encode_utf8_all cs
all_stand rows [] all = refl
all_stand rows (c ∷ cs) all =
    let parts = and_parts (list_all (is_kept_byte (kept_by rows)) (encode_utf8 c)) (list_all (is_kept_byte (kept_by rows)) (encode_utf8_all cs)) (sym (list_all-append (is_kept_byte (kept_by rows)) (encode_utf8 c) (encode_utf8_all cs)) ∙ all) in
    rw (stands rows c parts.0, all_stand rows cs parts.1) refl

text_stands : (rows : List EscapeRow) (text : List ℕ) → IsUtf8 text → list_all (is_kept_byte (kept_by rows)) text ≡ true → replaced rows text ≡ text
text_stands rows text u all =
    subst (λ (bytes : List ℕ). list_all (is_kept_byte (kept_by rows)) bytes ≡ true → replaced rows bytes ≡ bytes) u.1.1
    (λ all. replaced-encodes rows u.0 u.1.0 ∙ all_stand rows u.0 all) all

one_more : (n : ℕ) → 1 + n ≡ suc n
one_more n = omega arith

run_kept : (p : ℕ → Bool) (bytes : List ℕ) → list_all p (take (prefix_len p bytes) bytes) ≡ true
run_kept p [] = refl
run_kept p (b ∷ bs) = elim (cases_Bool (p b)) [
  | inl t ↦ rw (t, one_more (prefix_len p bs)) (rw t (run_kept p bs))
  | inr f ↦ rw f refl
]

-- a text is replaced by the run at its prefix, and then as what is after it is
pub run_then : (rows : List EscapeRow) (text : List ℕ) (run : ℕ) → IsUtf8 text → run ≡ prefix_len (is_kept_byte (kept_by rows)) text → run ≤ length text → replaced rows text ≡ take run text ++ replaced rows (drop run text)
run_then rows text run u is fits =
    let front : IsUtf8 (take run text) = IsUtf8-take text run u (cut_behind rows text run is fits) in
    let all : list_all (is_kept_byte (kept_by rows)) (take run text) ≡ true = ap (λ (n : ℕ). list_all (is_kept_byte (kept_by rows)) (take n text)) is ∙ run_kept (is_kept_byte (kept_by rows)) text in
    ap (replaced rows) (sym (take-append-drop run text)) ∙ replaced-append rows (take run text) (drop run text) front ∙ ap (λ (bytes : List ℕ). bytes ++ replaced rows (drop run text)) (text_stands rows (take run text) front all)

-- the same, of what was written before and after the run
pub run_written : (rows : List EscapeRow) (text : List ℕ) (run : ℕ) (before front behind after : List ℕ) → IsUtf8 text → run ≡ prefix_len (is_kept_byte (kept_by rows)) text → run ≤ length text → front ≡ take run text → behind ≡ drop run text → after ≡ before ++ front → after ++ replaced rows behind ≡ before ++ replaced rows text
run_written rows text run before front behind after u is fits f b e =
    let whole : front ++ replaced rows behind ≡ replaced rows text = ap (λ (bytes : List ℕ). bytes ++ replaced rows behind) f ∙ ap (λ (bytes : List ℕ). take run text ++ replaced rows bytes) b ∙ sym (run_then rows text run u is fits) in
    ap (λ (bytes : List ℕ). bytes ++ replaced rows behind) e ∙ append_assoc before front (replaced rows behind) ∙ ap (λ (bytes : List ℕ). before ++ bytes) whole

-- and of the character at the beginning
pub first_written : (rows : List EscapeRow) (text rest before after : List ℕ) (c : ℕ) → IsUtf8 text → text ≡ encode_utf8 c ++ rest → after ≡ before ++ row_written rows c → after ++ replaced rows rest ≡ before ++ replaced rows text
first_written rows text rest before after c u is e =
    let whole : row_written rows c ++ replaced rows rest ≡ replaced rows text = ap (replaced_all rows) (sym (chars_past_char text rest c u is)) in
    ap (λ (bytes : List ℕ). bytes ++ replaced rows rest) e ∙ append_assoc before (row_written rows c) (replaced rows rest) ∙ ap (λ (bytes : List ℕ). before ++ bytes) whole

-- where nothing is left, all is written
pub all_written : (rows : List EscapeRow) (text rest before after : List ℕ) → length rest ≡ 0 → StepWrites rows text rest before after → after ≡ before ++ replaced rows text
all_written rows text [] before after none e = sym (append-nil after) ∙ ap (λ (cs : List ℕ). after ++ replaced_all rows cs) (sym chars-nil) ∙ e
all_written rows text (b ∷ bs) before after none e = absurd (omega (arith, none))

-- the run that the code finds
pub run_by : (rows : List EscapeRow) (kept : List Bool) (bytes text : List ℕ) (run : ℕ) → run ≡ prefix_len (is_kept_byte kept) bytes → bytes ≡ text → kept ≡ kept_by rows → run ≡ prefix_len (is_kept_byte (kept_by rows)) text
run_by rows kept bytes text run is same by = is ∙ ap (prefix_len (is_kept_byte kept)) same ∙ ap (λ (k : List Bool). prefix_len (is_kept_byte k) text) by

-- a table has its characters
pub characters_are : (characters : List ℕ) (replacements : List (Bor (List ℕ))) → length characters ≤ length replacements → characters_of (rows_of characters replacements) ≡ characters
characters_are [] replacements fits = refl
characters_are (c ∷ cs) [] fits = absurd (omega (arith, fits))
characters_are (c ∷ cs) (r ∷ rs) fits = ap (λ (xs : List ℕ). c ∷ xs) (characters_are cs rs (omega (arith, fits)))
