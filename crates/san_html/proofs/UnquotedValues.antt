-- Text that `attr_nospace` writes, in unquoted values and where one is to begin.
use Rattle.std.proofs.Common.{◌≡◌, ◌≢◌, ℕ, ◌<◌, ◌==◌, ◌&&◌, not, Bool, true, false, List, [], ◌∷◌, ◌++◌, IsUtf8, refl, sym, ap, ◌∙◌, subst, encode_utf8, inl, inr, length, arith}
use Rattle.std.specs.Char.{is_ascii_whitespace}
use Rattle.std.specs.Str.{encode_utf8_all}
use Rattle.std.proofs.lemmas.Bool.{cases_lt, cases_Bool, and_parts, agree_below, true≢false}
use Rattle.std.proofs.lemmas.Str.{encode_ascii, length-encode, len_utf8_bounds}
use Rattle.esc_table.specs.Replaced.{row_written, replaced_all}
use Rattle.place_core.specs.page.Classes.{Class, White, QuotationMark, Ampersand, Apostrophe, GreaterThan, class_of}
use Rattle.place_core.specs.page.Events.{LexEvent}
use Rattle.place_core.specs.page.Html.{read}
use Rattle.place_core.specs.page.Plain.{IsPlainInState, begins_at_once}
use Rattle.place_core.specs.page.References.{meaning, flushed}
use Rattle.place_core.specs.page.States.{Page, BeforeAttributeValue, config}
use Rattle.place_core.specs.page.Tags.{Tag, Value, ValueOf, ValueState, OfKind, languages, attribute_value_of, emitted_bytes, Unquoted}
use Rattle.place_core.specs.declared.kind.Kind.{Kind}
use Rattle.place_core.specs.declared.kind.Kind.TheVariants as kind
use Rattle.place_core.proofs.Bytes.{class-high, class-white}
use Rattle.place_core.proofs.Readings.{is_own_in_unquoted, begins_unquoted, unquoted-byte, unbegun-byte, emitted_bytes-append}
use Rattle.san_html.specs.ReadBack.{as_byte, read_as_text, as_unquoted, in_value, read_value, IsBackInUnquoted}
use Rattle.san_html.specs.Sanitizers.{attr_nospace, attr_nospace_rows, failsafe}
use Rattle.san_html.proofs.EscapedText.{plain-in-kind}
use Rattle.san_html.proofs.Results.{for-text}
use Rattle.san_html.proofs.Rows.{AllRows, written-has}
use Rattle.san_html.proofs.Takes.{AllHigh, encode-high, Place, Takes, is_covered, all_true, covered, takes-text}

unquoted-place : (tag : Tag) → Place (in_value Unquoted tag) (emitted_bytes languages) is_own_in_unquoted
unquoted-place tag = record { byte = λ b v t h. unquoted-byte languages b tag v t h; none = λ v t. refl; more = emitted_bytes-append languages; high = refl }

unquoted-rows : (tag : Tag) → AllRows (Takes (in_value Unquoted tag) (emitted_bytes languages)) attr_nospace_rows
unfolding class_of meaning flushed lib.Utf8.encode
unquoted-rows tag = (λ v t. refl, (λ v t. refl, (λ v t. refl, (λ v t. refl, (λ v t. refl, (λ v t. refl, (λ v t. refl, (λ v t. refl, (λ v t. refl, (λ v t. refl, (λ v t. refl, (λ v t. refl, (λ v t. refl, (λ v t. refl, (λ v t. refl, tt)))))))))))))))

unquoted-covered : agree_below (is_covered attr_nospace_rows is_own_in_unquoted) all_true 128 ≡ true
unfolding class_of
unquoted-covered = refl

unquoted-reads : (tag : Tag) (v : Value ValueState) (cs : List ℕ) (t : List LexEvent) → read Page (replaced_all attr_nospace_rows cs) (config (in_value Unquoted tag v) t) ≡ read_value Unquoted tag v (read_as_text (encode_utf8_all cs)) t
unquoted-reads tag v cs t = takes-text (in_value Unquoted tag) (emitted_bytes languages) is_own_in_unquoted attr_nospace_rows (unquoted-place tag) (unquoted-rows tag) unquoted-covered cs v t

-- what is written for a character begins with a byte that begins an unquoted value
abbrev begins : List ℕ → Bool
begins [] = false
begins (b ∷ bs) = begins_unquoted (class_of b)

abbrev Begins : ℕ → List ℕ → Type 0
Begins c bytes = begins bytes ≡ true

begins-rows : AllRows Begins attr_nospace_rows
unfolding class_of
begins-rows = (refl, (refl, (refl, (refl, (refl, (refl, (refl, (refl, (refl, (refl, (refl, (refl, (refl, (refl, (refl, tt)))))))))))))))

own-begins : (c : Class) → is_own_in_unquoted c ≡ true → begins_unquoted c ≡ true
own-begins White h = h
own-begins QuotationMark h = h
own-begins Ampersand h = refl
own-begins Apostrophe h = h
own-begins GreaterThan h = h
own-begins _ h = refl

low-begins : (c : ℕ) → c < 128 → (is_own_in_unquoted (class_of c) && not (c == 0)) ≡ true → Begins c (encode_utf8 c)
low-begins c h e = rw (encode_ascii c h) (own-begins (class_of c) (and_parts (is_own_in_unquoted (class_of c)) (not (c == 0)) e).0)

bytes-begin : (bs : List ℕ) → AllHigh bs → bs ≢ [] → begins bs ≡ true
bytes-begin [] h n = absurd (n refl)
bytes-begin (b ∷ bs) h n = ap begins_unquoted (class-high b h.0)

encode-some : (c : ℕ) → encode_utf8 c ≢ []
encode-some c e = omega (arith, ap length e, length-encode c, (len_utf8_bounds c).0)

written-begins : (c : ℕ) → begins (row_written attr_nospace_rows c) ≡ true
written-begins c = written-has Begins attr_nospace_rows c begins-rows (λ none. elim (cases_lt c 128) [
  | inl low ↦ low-begins c low (covered attr_nospace_rows is_own_in_unquoted c unquoted-covered low none)
  | inr high ↦ bytes-begin (encode_utf8 c) (encode-high c high) (encode-some c)
])

begins-append : (xs ys : List ℕ) → begins xs ≡ true → begins (xs ++ ys) ≡ true
begins-append [] ys h = cc
begins-append (x ∷ xs) ys h = h

unbegun : (bytes : List ℕ) (tag : Tag) (k : Kind) (t : List LexEvent) → begins bytes ≡ true → read Page bytes (config (BeforeAttributeValue tag k) t) ≡ read Page bytes (config (in_value Unquoted tag (attribute_value_of languages k)) t)
unbegun [] tag k t h = cc
unbegun (b ∷ bs) tag k t h = unbegun-byte languages b bs tag k t h

-- likewise, and is no white space
no-white : (b : ℕ) → begins_unquoted (class_of b) ≡ true → not (is_ascii_whitespace b) ≡ true
no-white b h = elim (cases_Bool (is_ascii_whitespace b)) [
  | inl e ↦ absurd (true≢false (sym h ∙ ap begins_unquoted (class-white b e)))
  | inr e ↦ rw e refl
]

at-once : (bytes : List ℕ) → begins bytes ≡ true → begins_at_once bytes ≡ true
at-once [] h = h
at-once (b ∷ bs) h = no-white b h

-- a text that is not empty
unquoted-some : (text : List ℕ) → text ≢ [] → as_unquoted text ≡ read_as_text text
unquoted-some [] n = absurd (n refl)
unquoted-some (b ∷ bs) n = refl

byte-some : (b : ℕ) (bs : List ℕ) → as_byte b ++ bs ≢ []
byte-some b bs = elim (cases_Bool (b == 0)) [
  | inl e ↦ rw e (λ h. cc)
  | inr e ↦ rw e (λ h. cc)
]

text-some : (text : List ℕ) → text ≢ [] → read_as_text text ≢ []
text-some [] n = absurd (n refl)
text-some (b ∷ bs) n = byte-some b (read_as_text bs)

abbrev of_plain : Value ValueState
of_plain = ValueOf (OfKind kind.Plain)

unquoted-plain : (tag : Tag) (text bytes : List ℕ) → text ≢ [] → read Page bytes (config (in_value Unquoted tag of_plain) []) ≡ read_value Unquoted tag of_plain (read_as_text text) []
    → IsPlainInState (OfKind kind.Plain) Unquoted tag bytes (read Page bytes (config (in_value Unquoted tag of_plain) []))
unquoted-plain tag text bytes n e = plain-in-kind Unquoted tag (read_as_text text) bytes (read Page bytes (config (in_value Unquoted tag of_plain) [])) (text-some text n) e

back : (text bytes : List ℕ) → text ≢ [] → begins bytes ≡ true → ((tag : Tag) (v : Value ValueState) (t : List LexEvent) → read Page bytes (config (in_value Unquoted tag v) t) ≡ read_value Unquoted tag v (read_as_text text) t) → IsBackInUnquoted text bytes
back text bytes n h reads = record {
  plain = λ tag t. (λ m. refl, unquoted-plain tag text bytes n (reads tag of_plain []));
  reads = λ tag v t. rw (unquoted-some text n) (reads tag v t);
  plain_unbegun = λ tag t. (λ m. refl, (at-once bytes h, subst (IsPlainInState (OfKind kind.Plain) Unquoted tag bytes) (sym (unbegun bytes tag kind.Plain [] h)) (unquoted-plain tag text bytes n (reads tag of_plain []))));
  reads_unbegun = λ tag k t. unbegun bytes tag k t h ∙ rw (unquoted-some text n) (reads tag (attribute_value_of languages k) t);
}

abbrev BackSome : List ℕ → List ℕ → Type 0
BackSome text bytes = text ≢ [] → IsBackInUnquoted text bytes

back-some : (cs : List ℕ) → BackSome (encode_utf8_all cs) (replaced_all attr_nospace_rows cs)
back-some [] n = absurd (n refl)
back-some (c ∷ cs) n = back (encode_utf8_all (c ∷ cs)) (replaced_all attr_nospace_rows (c ∷ cs)) n (begins-append (row_written attr_nospace_rows c) (replaced_all attr_nospace_rows cs) (written-begins c)) (λ tag v t. unquoted-reads tag v (c ∷ cs) t)

-- the empty text
back-failsafe : IsBackInUnquoted [] failsafe
unfolding class_of
back-failsafe = record {
  plain = λ tag t. (λ m. refl, plain-in-kind Unquoted tag failsafe failsafe (read Page failsafe (config (in_value Unquoted tag of_plain) [])) (λ e. cc) refl);
  reads = λ tag v t. refl;
  plain_unbegun = λ tag t. (λ m. refl, (refl, plain-in-kind Unquoted tag failsafe failsafe (read Page failsafe (config (BeforeAttributeValue tag kind.Plain) [])) (λ e. cc) refl));
  reads_unbegun = λ tag k t. refl;
}

pub unquoted-back : (text : List ℕ) → IsUtf8 text → IsBackInUnquoted text (attr_nospace text)
unquoted-back [] u = back-failsafe
unquoted-back (b ∷ bs) u = for-text BackSome attr_nospace_rows back-some (b ∷ bs) u (λ e. cc)
