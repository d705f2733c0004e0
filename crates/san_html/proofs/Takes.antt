-- A text that a table is applied to is read back in a place where each row is, and where each character without a row stands for itself.
use Rattle.std.proofs.Common.{◌≡◌, ℕ, ◌≤◌, ◌<◌, ◌==◌, ◌&&◌, ◌||◌, not, Bool, true, false, List, [], ◌∷◌, ◌++◌, Option, None, is_some, refl, sym, ap, ◌∙◌, encode_utf8, inl, inr, append_assoc, nat_lt, arith}
use Rattle.std.specs.Str.{encode_utf8_all}
use Rattle.std.proofs.lemmas.Bool.{cases_lt, true≢false, cond_both, agree_below, agree_below_at, and_parts, ne_eqb, not-true, le-ltb}
use Rattle.std.proofs.lemmas.Str.{encode_ascii}
use Rattle.esc_table.specs.Rows.{EscapeRow, found}
use Rattle.esc_table.specs.Replaced.{row_written, replaced_all}
use Rattle.place_core.specs.page.Classes.{Class, OtherByte, class_of}
use Rattle.place_core.specs.page.Events.{LexEvent}
use Rattle.place_core.specs.page.Html.{read}
use Rattle.place_core.specs.page.States.{Page, LexState, config}
use Rattle.place_core.specs.page.Tags.{Value, ValueState, languages, with_byte, with_bytes}
use Rattle.place_core.proofs.Bytes.{class-high}
use Rattle.place_core.proofs.Readings.{read-append, with_bytes-append}
use Rattle.san_html.specs.ReadBack.{as_byte, read_as_text}
use Rattle.san_html.proofs.Rows.{AllRows, written-has}

-- bytes past ASCII, of which every character past ASCII is made
abbrev pub AllHigh : List ℕ → Type 0
AllHigh [] = Unit {0}
AllHigh (b ∷ bs) = (128 ≤ b) × AllHigh bs

pub encode-high : (c : ℕ) → 128 ≤ c → AllHigh (encode_utf8 c)
unfolding lib.Utf8.encode
encode-high c h =
    cond_both (nat_lt c 128) _ _ AllHigh (λ e. absurd (true≢false (sym e ∙ le-ltb c 128 h)))
    (λ e. cond_both (nat_lt c 2048) _ _ AllHigh (λ e. (omega arith, (omega arith, tt)))
    (λ e. cond_both (nat_lt c 65536) _ _ AllHigh (λ e. (omega arith, (omega arith, (omega arith, tt))))
    (λ e. (omega arith, (omega arith, (omega arith, (omega arith, tt)))))))

pub as_text-append : (xs ys : List ℕ) → read_as_text (xs ++ ys) ≡ read_as_text xs ++ read_as_text ys
as_text-append [] ys = refl
as_text-append (x ∷ xs) ys = ap (λ (zs : List ℕ). as_byte x ++ zs) (as_text-append xs ys) ∙ sym (append_assoc (as_byte x) (read_as_text xs) (read_as_text ys))

high-byte : (b : ℕ) → 128 ≤ b → as_byte b ≡ b ∷ []
high-byte b h = rw (ne_eqb b 0 (λ e. omega (arith, e, h))) refl

pub high-text : (bs : List ℕ) → AllHigh bs → read_as_text bs ≡ bs
high-text [] h = refl
high-text (b ∷ bs) h = rw (high-byte b h.0, high-text bs h.1) refl

-- what bytes of a text tell, by the value so far; outside of values it counts for nothing
abbrev pub Emitting : Type 0
Emitting = Value ValueState → List ℕ → List LexEvent → List LexEvent

-- A place of a page, by the value so far: how bytes are told there, and the classes of bytes that stand for themselves.
pub record Place (at : Value ValueState → LexState ValueState) (emits : Emitting) (own : Class → Bool) : Type 0 where
  pub byte : (b : ℕ) (v : Value ValueState) (t : List LexEvent) → own (class_of b) ≡ true → read Page (b ∷ []) (config (at v) t) ≡ config (at (with_byte languages v b)) (emits v (b ∷ []) t)
  pub none : (v : Value ValueState) (t : List LexEvent) → emits v [] t ≡ t
  pub more : (v : Value ValueState) (xs ys : List ℕ) (t : List LexEvent) → emits v (xs ++ ys) t ≡ emits (with_bytes languages v xs) ys (emits v xs t)
  pub high : own OtherByte ≡ true

-- bytes that are read there as a character of a text
abbrev pub Takes : (Value ValueState → LexState ValueState) → Emitting → ℕ → List ℕ → Type 0
Takes at emits c bytes = (v : Value ValueState) (t : List LexEvent) → read Page bytes (config (at v) t) ≡ config (at (with_bytes languages v (read_as_text (encode_utf8 c)))) (emits v (read_as_text (encode_utf8 c)) t)

high-bytes : (at : Value ValueState → LexState ValueState) (emits : Emitting) (own : Class → Bool) → Place at emits own → (bs : List ℕ) → AllHigh bs → (v : Value ValueState) (t : List LexEvent) → read Page bs (config (at v) t) ≡ config (at (with_bytes languages v bs)) (emits v bs t)
high-bytes at emits own p [] h v t = ap (config (at v)) (sym (p.none v t))
high-bytes at emits own p (b ∷ bs) h v t =
    ap (read Page bs) (p.byte b v t (ap own (class-high b h.0) ∙ p.high))
    ∙ high-bytes at emits own p bs h.1 (with_byte languages v b) (emits v (b ∷ []) t)
    ∙ ap (config (at (with_bytes languages v (b ∷ bs)))) (sym (p.more v (b ∷ []) bs t))

-- whether a byte of ASCII has a row, or is not NUL and stands for itself
abbrev pub is_covered : List EscapeRow → (Class → Bool) → ℕ → Bool
is_covered rows own b = is_some (found rows b) || (own (class_of b) && not (b == 0))

abbrev pub all_true : ℕ → Bool
all_true b = true

no : false ≡ true → ⊥
no e = cc

pub covered : (rows : List EscapeRow) (own : Class → Bool) (c : ℕ) → agree_below (is_covered rows own) all_true 128 ≡ true → c < 128 → found rows c ≡ None → (own (class_of c) && not (c == 0)) ≡ true
covered rows own c all h e = ap (λ (o : Option (List ℕ)). is_some o || (own (class_of c) && not (c == 0))) (sym e) ∙ agree_below_at (is_covered rows own) all_true 128 c all h

own-low : (at : Value ValueState → LexState ValueState) (emits : Emitting) (own : Class → Bool) → Place at emits own → (c : ℕ) → c < 128 → (own (class_of c) && not (c == 0)) ≡ true → Takes at emits c (encode_utf8 c)
own-low at emits own p c h e v t =
    let parts = and_parts (own (class_of c)) (not (c == 0)) e in
    let kept : read_as_text (c ∷ []) ≡ c ∷ [] = rw (not-true (c == 0) parts.1) refl in
    rw (encode_ascii c h) (p.byte c v t parts.0 ∙ ap (λ (xs : List ℕ). config (at (with_bytes languages v xs)) (emits v xs t)) (sym kept))

own-high : (at : Value ValueState → LexState ValueState) (emits : Emitting) (own : Class → Bool) → Place at emits own → (c : ℕ) → 128 ≤ c → Takes at emits c (encode_utf8 c)
own-high at emits own p c h v t =
    high-bytes at emits own p (encode_utf8 c) (encode-high c h) v t
    ∙ ap (λ (xs : List ℕ). config (at (with_bytes languages v xs)) (emits v xs t)) (sym (high-text (encode_utf8 c) (encode-high c h)))

pub takes-written : (at : Value ValueState → LexState ValueState) (emits : Emitting) (own : Class → Bool) (rows : List EscapeRow) → Place at emits own → AllRows (Takes at emits) rows → agree_below (is_covered rows own) all_true 128 ≡ true → (c : ℕ) → Takes at emits c (row_written rows c)
takes-written at emits own rows p all tested c =
    written-has (Takes at emits) rows c all (λ none. elim (cases_lt c 128) [
      | inl low ↦ own-low at emits own p c low (covered rows own c tested low none)
      | inr high ↦ own-high at emits own p c high
    ])

-- the whole text
pub takes-text : (at : Value ValueState → LexState ValueState) (emits : Emitting) (own : Class → Bool) (rows : List EscapeRow) → Place at emits own → AllRows (Takes at emits) rows → agree_below (is_covered rows own) all_true 128 ≡ true → (cs : List ℕ) (v : Value ValueState) (t : List LexEvent) → read Page (replaced_all rows cs) (config (at v) t) ≡ config (at (with_bytes languages v (read_as_text (encode_utf8_all cs)))) (emits v (read_as_text (encode_utf8_all cs)) t)
takes-text at emits own rows p all tested [] v t = ap (config (at v)) (sym (p.none v t))
takes-text at emits own rows p all tested (c ∷ cs) v t =
    let first = read_as_text (encode_utf8 c) in
    let others = read_as_text (encode_utf8_all cs) in
    read-append Page (row_written rows c) (replaced_all rows cs) (config (at v) t)
    ∙ ap (read Page (replaced_all rows cs)) (takes-written at emits own rows p all tested c v t)
    ∙ takes-text at emits own rows p all tested cs (with_bytes languages v first) (emits v first t)
    ∙ ap (config (at (with_bytes languages (with_bytes languages v first) others))) (sym (p.more v first others t))
    ∙ ap (λ (w : Value ValueState). config (at w) (emits v (first ++ others) t)) (sym (with_bytes-append languages v first others))
    ∙ ap (λ (xs : List ℕ). config (at (with_bytes languages v xs)) (emits v xs t)) (sym (as_text-append (encode_utf8 c) (encode_utf8_all cs)))
