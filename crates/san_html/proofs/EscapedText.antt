-- Text that `html` writes, in text, in title and textarea, in data blocks and in quoted values.
use Rattle.std.proofs.Common.{◌≡◌, ℕ, ◌≤◌, ◌<◌, ◌==◌, ◌&&◌, not, Bool, true, false, List, [], ◌∷◌, ◌++◌, refl, sym, ap, ◌∙◌, encode_utf8, inl, inr}
use Rattle.std.specs.List.{list_all}
use Rattle.std.specs.Str.{encode_utf8_all}
use Rattle.std.proofs.lemmas.Bool.{cases_lt, and_parts, and_from, agree_below, not-true}
use Rattle.std.proofs.lemmas.Str.{encode_ascii}
use Rattle.esc_table.specs.Replaced.{row_written, replaced_all}
use Rattle.place_core.specs.page.Classes.{class_of}
use Rattle.place_core.specs.page.Events.{LexEvent, TextByte, BlockByte, ValueByte, event_text_bytes, block_bytes, value_bytes}
use Rattle.place_core.specs.page.Html.{read}
use Rattle.place_core.specs.page.Plain.{only_text, only_block, HasBytes, IsPlain, IsPlainInState}
use Rattle.place_core.specs.page.References.{Closed, meaning, flushed, undone}
use Rattle.place_core.specs.page.States.{Page, Text, Config, config}
use Rattle.place_core.specs.page.Tags.{Tag, Value, ValueOf, Deciding, ValueState, OfKind, OfUrl, OfStyle, OfScript, feed_value, languages, with_byte, with_bytes, emitted_bytes, Quoting, DoubleQuoted, SingleQuoted, Unquoted}
use Rattle.place_core.specs.declared.element.Element.{Element}
use Rattle.place_core.specs.declared.element.Element.TheVariants as element
use Rattle.place_core.specs.declared.kind.Kind.{Kind}
use Rattle.place_core.specs.declared.kind.Kind.TheVariants as kind
use Rattle.place_core.proofs.Bytes.{class-high}
use Rattle.place_core.proofs.Readings.{is_own_in_text, is_own_in_block, is_own_in_quoted, text-byte, rcdata-byte, block-byte, double-byte, single-byte, undone-byte, text_bytes-append, emitted_bytes-append}
use Rattle.san_html.specs.ReadBack.{read_as_text, reads_quoted, in_rcdata, in_block, in_value, read_value, IsBackInText, IsBackInRcdata, IsBackInBlock, IsBackInQuoted}
use Rattle.san_html.specs.Sanitizers.{html_rows}
use Rattle.san_html.proofs.Rows.{AllRows, written-has}
use Rattle.san_html.proofs.Takes.{AllHigh, encode-high, as_text-append, Emitting, Place, Takes, is_covered, all_true, covered, takes-text, high-text}

-- bytes that stand for themselves
abbrev emitting_text : Emitting
emitting_text v = event_text_bytes

text-place : Place (λ (v : Value ValueState). Text Closed) emitting_text is_own_in_text
text-place = record { byte = λ b v t h. text-byte b t h; none = λ v t. refl; more = λ v. text_bytes-append; high = refl }

rcdata-place : (e : Element) → Place (λ (v : Value ValueState). in_rcdata e) emitting_text is_own_in_text
rcdata-place e = record { byte = λ b v t h. rcdata-byte b e t h; none = λ v t. refl; more = λ v. text_bytes-append; high = refl }

double-place : (tag : Tag) → Place (in_value DoubleQuoted tag) (emitted_bytes languages) is_own_in_quoted
double-place tag = record { byte = λ b v t h. double-byte languages b tag v t h; none = λ v t. refl; more = emitted_bytes-append languages; high = refl }

single-place : (tag : Tag) → Place (in_value SingleQuoted tag) (emitted_bytes languages) is_own_in_quoted
single-place tag = record { byte = λ b v t h. single-byte languages b tag v t h; none = λ v t. refl; more = emitted_bytes-append languages; high = refl }

-- the rows are read as their characters
text-rows : AllRows (Takes (λ (v : Value ValueState). Text Closed) emitting_text) html_rows
unfolding class_of meaning flushed lib.Utf8.encode
text-rows = (λ v t. refl, (λ v t. refl, (λ v t. refl, (λ v t. refl, (λ v t. refl, (λ v t. refl, (λ v t. refl, tt)))))))

rcdata-rows : (e : Element) → AllRows (Takes (λ (v : Value ValueState). in_rcdata e) emitting_text) html_rows
unfolding class_of meaning flushed lib.Utf8.encode
rcdata-rows e = (λ v t. refl, (λ v t. refl, (λ v t. refl, (λ v t. refl, (λ v t. refl, (λ v t. refl, (λ v t. refl, tt)))))))

double-rows : (tag : Tag) → AllRows (Takes (in_value DoubleQuoted tag) (emitted_bytes languages)) html_rows
unfolding class_of meaning flushed lib.Utf8.encode
double-rows tag = (λ v t. refl, (λ v t. refl, (λ v t. refl, (λ v t. refl, (λ v t. refl, (λ v t. refl, (λ v t. refl, tt)))))))

single-rows : (tag : Tag) → AllRows (Takes (in_value SingleQuoted tag) (emitted_bytes languages)) html_rows
unfolding class_of meaning flushed lib.Utf8.encode
single-rows tag = (λ v t. refl, (λ v t. refl, (λ v t. refl, (λ v t. refl, (λ v t. refl, (λ v t. refl, (λ v t. refl, tt)))))))

-- every other byte of ASCII stands for itself
text-covered : agree_below (is_covered html_rows is_own_in_text) all_true 128 ≡ true
unfolding class_of
text-covered = refl

quoted-covered : agree_below (is_covered html_rows is_own_in_quoted) all_true 128 ≡ true
unfolding class_of
quoted-covered = refl

-- what is told is bytes of that place alone
only-text : (bs : List ℕ) (t : List LexEvent) → only_text t ≡ true → only_text (event_text_bytes bs t) ≡ true
only-text [] t e = e
only-text (b ∷ bs) t e = only-text bs (TextByte b ∷ t) e

only-block : (bs : List ℕ) (t : List LexEvent) → only_block t ≡ true → only_block (block_bytes bs t) ≡ true
only-block [] t e = e
only-block (b ∷ bs) t e = only-block bs (BlockByte b ∷ t) e

-- a value of a kind holds nothing but the kind
pub same-kind : (k : Kind) (bs : List ℕ) → with_bytes languages (ValueOf (OfKind k)) bs ≡ ValueOf (OfKind k)
same-kind k [] = refl
same-kind k (b ∷ bs) = same-kind k bs

-- Bytes of a value are told as they are. Of a style and a script nothing is said: they tell what they read, and not their bytes.
abbrev pub AreTold : Value ValueState → List ℕ → List LexEvent → Type 0
AreTold (ValueOf (OfStyle s)) bs t = Unit {0}
AreTold (ValueOf (OfScript s)) bs t = Unit {0}
AreTold v bs t = emitted_bytes languages v bs t ≡ value_bytes bs t

pub value-told : (bs : List ℕ) (v : Value ValueState) (t : List LexEvent) → AreTold v bs t
value-told bs (ValueOf (OfStyle s)) t = tt
value-told bs (ValueOf (OfScript s)) t = tt
value-told [] (ValueOf (OfKind k)) t = refl
value-told [] (ValueOf (OfUrl u)) t = refl
value-told [] (Deciding k before) t = refl
value-told (b ∷ bs) (ValueOf (OfKind k)) t = value-told bs (ValueOf (OfKind k)) (ValueByte b ∷ t)
value-told (b ∷ bs) (ValueOf (OfUrl u)) t = value-told bs (ValueOf (feed_value (OfUrl u) b)) (ValueByte b ∷ t)
value-told (b ∷ bs) (Deciding k before) t = value-told bs (with_byte languages (Deciding k before) b) (ValueByte b ∷ t)

-- bytes that a value of kind Plain reads as a text are plain in it
pub plain-in-kind : (q : Quoting) (tag : Tag) (text bytes : List ℕ) (d : Config ValueState) → HasBytes q text → d ≡ read_value q tag (ValueOf (OfKind kind.Plain)) text []
    → IsPlainInState (OfKind kind.Plain) q tag bytes d
plain-in-kind q tag text bytes d some e = rw e (record {
  value = text;
  after = OfKind kind.Plain;
  within = ap (in_value q tag) (same-kind kind.Plain text);
  emitted = value-told text (ValueOf (OfKind kind.Plain)) [];
  some = some;
  leads = refl;
})

-- bytes that tell nothing but a text are plain
text-plain : (text bytes : List ℕ) (t : List LexEvent) → read Page bytes (config (Text Closed) []) ≡ config (Text Closed) (event_text_bytes text []) → IsPlain bytes (config (Text Closed) t)
text-plain text bytes t e = (λ n. refl, rw e (refl, only-text text [] refl))

rcdata-plain : (x : Element) (text bytes : List ℕ) (t : List LexEvent) → read Page bytes (config (in_rcdata x) []) ≡ config (in_rcdata x) (event_text_bytes text []) → IsPlain bytes (config (in_rcdata x) t)
rcdata-plain x text bytes t e = (λ n. refl, rw e (refl, only-text text [] refl))

block-plain : (text bytes : List ℕ) (t : List LexEvent) → read Page bytes (config in_block []) ≡ config in_block (block_bytes text []) → IsPlain bytes (config in_block t)
block-plain text bytes t e = (λ n. refl, rw e (refl, only-block text [] refl))

quoted-plain : (q : Quoting) (tag : Tag) (text bytes : List ℕ) (t : List LexEvent) → reads_quoted q ≡ true → read Page bytes (config (in_value q tag (ValueOf (OfKind kind.Plain))) []) ≡ read_value q tag (ValueOf (OfKind kind.Plain)) text []
    → IsPlain bytes (config (in_value q tag (ValueOf (OfKind kind.Plain))) t)
quoted-plain DoubleQuoted tag text bytes t q e = (λ n. refl, plain-in-kind DoubleQuoted tag text bytes (read Page bytes (config (in_value DoubleQuoted tag (ValueOf (OfKind kind.Plain))) [])) tt e)
quoted-plain SingleQuoted tag text bytes t q e = (λ n. refl, plain-in-kind SingleQuoted tag text bytes (read Page bytes (config (in_value SingleQuoted tag (ValueOf (OfKind kind.Plain))) [])) tt e)
quoted-plain Unquoted tag text bytes t q e = cc

-- in text the value counts for nothing
abbrev no_value : Value ValueState
no_value = ValueOf (OfKind kind.Plain)

text-reads : (cs : List ℕ) (t : List LexEvent) → read Page (replaced_all html_rows cs) (config (Text Closed) t) ≡ config (Text Closed) (event_text_bytes (read_as_text (encode_utf8_all cs)) t)
text-reads cs t = takes-text (λ (v : Value ValueState). Text Closed) emitting_text is_own_in_text html_rows text-place text-rows text-covered cs no_value t

rcdata-reads : (e : Element) (cs : List ℕ) (t : List LexEvent) → read Page (replaced_all html_rows cs) (config (in_rcdata e) t) ≡ config (in_rcdata e) (event_text_bytes (read_as_text (encode_utf8_all cs)) t)
rcdata-reads e cs t = takes-text (λ (v : Value ValueState). in_rcdata e) emitting_text is_own_in_text html_rows (rcdata-place e) (rcdata-rows e) text-covered cs no_value t

quoted-reads : (q : Quoting) (tag : Tag) (v : Value ValueState) (cs : List ℕ) (t : List LexEvent) → reads_quoted q ≡ true → read Page (replaced_all html_rows cs) (config (in_value q tag v) t) ≡ read_value q tag v (read_as_text (encode_utf8_all cs)) t
quoted-reads DoubleQuoted tag v cs t q = takes-text (in_value DoubleQuoted tag) (emitted_bytes languages) is_own_in_quoted html_rows (double-place tag) (double-rows tag) quoted-covered cs v t
quoted-reads SingleQuoted tag v cs t q = takes-text (in_value SingleQuoted tag) (emitted_bytes languages) is_own_in_quoted html_rows (single-place tag) (single-rows tag) quoted-covered cs v t
quoted-reads Unquoted tag v cs t q = cc

pub back-in-text : (cs : List ℕ) → IsBackInText (encode_utf8_all cs) (replaced_all html_rows cs)
back-in-text cs = record {
  plain = λ t. text-plain (read_as_text (encode_utf8_all cs)) (replaced_all html_rows cs) t (text-reads cs []);
  reads = text-reads cs;
}

pub back-in-rcdata : (cs : List ℕ) → IsBackInRcdata (encode_utf8_all cs) (replaced_all html_rows cs)
back-in-rcdata cs = record {
  plain = λ e t. rcdata-plain e (read_as_text (encode_utf8_all cs)) (replaced_all html_rows cs) t (rcdata-reads e cs []);
  reads = λ e t. rcdata-reads e cs t;
}

pub back-in-quoted : (cs : List ℕ) → IsBackInQuoted (encode_utf8_all cs) (replaced_all html_rows cs)
back-in-quoted cs = record {
  plain = λ q tag t h. quoted-plain q tag (read_as_text (encode_utf8_all cs)) (replaced_all html_rows cs) t h (quoted-reads q tag (ValueOf (OfKind kind.Plain)) cs [] h);
  reads = λ q tag v t h. quoted-reads q tag v cs t h;
}

-- in a data block: none of the bytes is a `<`
abbrev IsOwn : ℕ → List ℕ → Type 0
IsOwn c bytes = list_all (λ b. is_own_in_block (class_of b)) bytes ≡ true

own-rows : AllRows IsOwn html_rows
unfolding class_of
own-rows = (refl, (refl, (refl, (refl, (refl, (refl, (refl, tt)))))))

own-covered : agree_below (is_covered html_rows is_own_in_block) all_true 128 ≡ true
unfolding class_of
own-covered = refl

own-high : (bs : List ℕ) → AllHigh bs → list_all (λ b. is_own_in_block (class_of b)) bs ≡ true
own-high [] h = refl
own-high (b ∷ bs) h = rw (class-high b h.0) (own-high bs h.1)

own-low : (c : ℕ) → c < 128 → (is_own_in_block (class_of c) && not (c == 0)) ≡ true → IsOwn c (encode_utf8 c)
own-low c h e = rw (encode_ascii c h, (and_parts (is_own_in_block (class_of c)) (not (c == 0)) e).0) refl

own-written : (c : ℕ) → IsOwn c (row_written html_rows c)
own-written c = written-has IsOwn html_rows c own-rows (λ none. elim (cases_lt c 128) [
  | inl low ↦ own-low c low (covered html_rows is_own_in_block c own-covered low none)
  | inr high ↦ own-high (encode_utf8 c) (encode-high c high)
])

block-bytes-read : (bs : List ℕ) (t : List LexEvent) → list_all (λ b. is_own_in_block (class_of b)) bs ≡ true → read Page bs (config in_block t) ≡ config in_block (block_bytes bs t)
block-bytes-read [] t h = refl
block-bytes-read (b ∷ bs) t h =
    let parts = and_parts (is_own_in_block (class_of b)) (list_all (λ b. is_own_in_block (class_of b)) bs) h in
    ap (read Page bs) (block-byte b element.DataBlock t parts.0) ∙ block-bytes-read bs (BlockByte b ∷ t) parts.1

all-append : (p : ℕ → Bool) (xs ys : List ℕ) → list_all p xs ≡ true → list_all p ys ≡ true → list_all p (xs ++ ys) ≡ true
all-append p [] ys h k = k
all-append p (x ∷ xs) ys h k = and_from (p x) (list_all p (xs ++ ys)) (and_parts (p x) (list_all p xs) h).0 (all-append p xs ys (and_parts (p x) (list_all p xs) h).1 k)

replaced-own : (cs : List ℕ) → list_all (λ b. is_own_in_block (class_of b)) (replaced_all html_rows cs) ≡ true
replaced-own [] = refl
replaced-own (c ∷ cs) = all-append (λ b. is_own_in_block (class_of b)) (row_written html_rows c) (replaced_all html_rows cs) (own-written c) (replaced-own cs)

block-reads : (cs : List ℕ) (t : List LexEvent) → read Page (replaced_all html_rows cs) (config in_block t) ≡ config in_block (block_bytes (replaced_all html_rows cs) t)
block-reads cs t = block-bytes-read (replaced_all html_rows cs) t (replaced-own cs)

-- with references undone the bytes of a character are the character
abbrev Undoes : ℕ → List ℕ → Type 0
Undoes c bytes = (ys : List ℕ) → undone false Closed (bytes ++ ys) ≡ read_as_text (encode_utf8 c) ++ undone false Closed ys

undoes-rows : AllRows Undoes html_rows
unfolding class_of meaning flushed lib.Utf8.encode
undoes-rows = (λ ys. refl, (λ ys. refl, (λ ys. refl, (λ ys. refl, (λ ys. refl, (λ ys. refl, (λ ys. refl, tt)))))))

undone-high : (bs : List ℕ) → AllHigh bs → (ys : List ℕ) → undone false Closed (bs ++ ys) ≡ bs ++ undone false Closed ys
undone-high [] h ys = refl
undone-high (b ∷ bs) h ys = undone-byte false b (bs ++ ys) (ap is_own_in_text (class-high b h.0)) ∙ ap (λ (xs : List ℕ). b ∷ xs) (undone-high bs h.1 ys)

undoes-low : (c : ℕ) → c < 128 → (is_own_in_text (class_of c) && not (c == 0)) ≡ true → Undoes c (encode_utf8 c)
undoes-low c h e ys =
    let parts = and_parts (is_own_in_text (class_of c)) (not (c == 0)) e in
    let kept : read_as_text (c ∷ []) ≡ c ∷ [] = rw (not-true (c == 0) parts.1) refl in
    rw (encode_ascii c h) (undone-byte false c ys parts.0 ∙ ap (λ (xs : List ℕ). xs ++ undone false Closed ys) (sym kept))

undoes-high : (c : ℕ) → 128 ≤ c → Undoes c (encode_utf8 c)
undoes-high c h ys = undone-high (encode_utf8 c) (encode-high c h) ys ∙ ap (λ (xs : List ℕ). xs ++ undone false Closed ys) (sym (high-text (encode_utf8 c) (encode-high c h)))

undoes-written : (c : ℕ) → Undoes c (row_written html_rows c)
undoes-written c = written-has Undoes html_rows c undoes-rows (λ none. elim (cases_lt c 128) [
  | inl low ↦ undoes-low c low (covered html_rows is_own_in_text c text-covered low none)
  | inr high ↦ undoes-high c high
])

undoes-all : (cs : List ℕ) → undone false Closed (replaced_all html_rows cs) ≡ read_as_text (encode_utf8_all cs)
undoes-all [] = refl
undoes-all (c ∷ cs) =
    undoes-written c (replaced_all html_rows cs)
    ∙ ap (λ (xs : List ℕ). read_as_text (encode_utf8 c) ++ xs) (undoes-all cs)
    ∙ sym (as_text-append (encode_utf8 c) (encode_utf8_all cs))

pub back-in-block : (cs : List ℕ) → IsBackInBlock (encode_utf8_all cs) (replaced_all html_rows cs)
back-in-block cs = record {
  plain = λ t. block-plain (replaced_all html_rows cs) (replaced_all html_rows cs) t (block-reads cs []);
  reads = block-reads cs;
  undoes = undoes-all cs;
}
