-- Names that `attr_name` writes, where a name may begin.
use Rattle.std.proofs.Common.{◌≡◌, ◌≢◌, ℕ, ◌<◌, ◌==◌, ◌&&◌, ◌||◌, not, Bool, true, false, List, [], ◌∷◌, ◌++◌, refl, sym, ap, ◌∙◌, subst, inl, inr, length, arith, append_assoc, append-nil, cond, get_or, nat_lt, ◌+◌, ◌↔◌}
use Rattle.std.specs.Int.{is_in_range}
use Rattle.std.specs.Char.{is_ascii_alphanumeric, to_ascii_lowercase}
use Rattle.std.specs.List.{list_all}
use Rattle.std.specs.Str.{str_to_ascii_lowercase}
use Rattle.std.proofs.lemmas.Bool.{cases_Bool, cases_lt, and_parts, agree_below, agree_below_at, true≢false, false≢true, or_from, cond_both, eqb-true, eqb-false, not-true, ltb-true, ltb-false}
use Rattle.place_core.specs.page.Classes.{class_of}
use Rattle.place_core.specs.page.Events.{LexEvent, AttributeBegins, AttributeNameByte, attribute_name_bytes}
use Rattle.place_core.specs.page.Html.{read}
use Rattle.place_core.specs.page.Plain.{IsPlainName, IsPlain}
use Rattle.place_core.specs.page.States.{Page, LexState, BeforeAttributeName, AttributeName, AfterAttributeName, AfterAttributeValue, SelfClosingStartTag, Config, config}
use Rattle.place_core.specs.page.Tags.{Tag, ValueState, without_value}
use Rattle.place_core.specs.declared.element.Element.TheVariants as element
use Rattle.place_core.specs.page.Words.{is_special, is_plain_name, kind_on, is_among, special_names}
use Rattle.place_core.proofs.Bytes.{range-high}
use Rattle.place_core.proofs.Readings.{is_name_class, first-name-byte, name-byte, after-name-byte, solidus-byte}
use Rattle.san_html.specs.ReadBack.{as_name, BeginsName, IsBackInTag}
use Rattle.san_html.specs.Sanitizers.{attr_name, failsafe, is_attribute_name}

-- a letter or a digit is read as a byte of a name, and stays one in lower case
abbrev is_word_byte : ℕ → Bool
is_word_byte b = not (is_ascii_alphanumeric b) || (is_name_class (class_of b) && (is_ascii_alphanumeric (to_ascii_lowercase b) && to_ascii_lowercase (to_ascii_lowercase b) == to_ascii_lowercase b))

abbrev all_true : ℕ → Bool
all_true b = true

word-bytes : agree_below is_word_byte all_true 128 ≡ true
unfolding class_of
word-bytes = refl

word-low : (b : ℕ) → is_ascii_alphanumeric b ≡ true → b < 128
word-low b h = elim (cases_lt b 128) [
  | inl low ↦ low
  | inr high ↦ absurd (false≢true (sym (or_from (is_in_range 48 57 b || is_in_range 65 90 b) (is_in_range 97 122 b) (or_from (is_in_range 48 57 b) (is_in_range 65 90 b) (range-high 48 57 b high (omega arith)) (range-high 65 90 b high (omega arith))) (range-high 97 122 b high (omega arith))) ∙ h))
]

record Word (b : ℕ) : Type 0 where
  class : is_name_class (class_of b) ≡ true
  lower : is_ascii_alphanumeric (to_ascii_lowercase b) ≡ true
  twice : to_ascii_lowercase (to_ascii_lowercase b) ≡ to_ascii_lowercase b

word : (b : ℕ) → is_ascii_alphanumeric b ≡ true → Word b
word b h =
    let tested = agree_below_at is_word_byte all_true 128 b word-bytes (word-low b h) in
    let all = ap (λ (x : Bool). not x || (is_name_class (class_of b) && (is_ascii_alphanumeric (to_ascii_lowercase b) && to_ascii_lowercase (to_ascii_lowercase b) == to_ascii_lowercase b))) (sym h) ∙ tested in
    let parts = and_parts (is_name_class (class_of b)) (is_ascii_alphanumeric (to_ascii_lowercase b) && to_ascii_lowercase (to_ascii_lowercase b) == to_ascii_lowercase b) all in
    let more = and_parts (is_ascii_alphanumeric (to_ascii_lowercase b)) (to_ascii_lowercase (to_ascii_lowercase b) == to_ascii_lowercase b) parts.1 in
    record { class = parts.0; lower = more.0; twice = eqb-true (to_ascii_lowercase (to_ascii_lowercase b)) (to_ascii_lowercase b) more.1 }

lower-twice : (bs : List ℕ) → list_all is_ascii_alphanumeric bs ≡ true → str_to_ascii_lowercase (str_to_ascii_lowercase bs) ≡ str_to_ascii_lowercase bs
lower-twice [] h = refl
lower-twice (b ∷ bs) h =
    let parts = and_parts (is_ascii_alphanumeric b) (list_all is_ascii_alphanumeric bs) h in
    rw ((word b parts.0).twice, lower-twice bs parts.1) refl

lower-all : (bs : List ℕ) → list_all is_ascii_alphanumeric bs ≡ true → list_all is_ascii_alphanumeric (str_to_ascii_lowercase bs) ≡ true
lower-all [] h = refl
lower-all (b ∷ bs) h =
    let parts = and_parts (is_ascii_alphanumeric b) (list_all is_ascii_alphanumeric bs) h in
    rw ((word b parts.0).lower) (lower-all bs parts.1)

-- being special does not depend on case
abbrev is_special_in_lower : List ℕ → Bool
is_special_in_lower name = not (is_plain_name (kind_on element.Other name)) || (not (is_plain_name (kind_on element.Script name)) || is_among special_names name)

special-lower : (bs : List ℕ) → list_all is_ascii_alphanumeric bs ≡ true → is_special (str_to_ascii_lowercase bs) ≡ is_special bs
special-lower bs h = ap is_special_in_lower (lower-twice bs h)

-- a word is read as a name
rest-reads : (tag : Tag) (bs name : List ℕ) (t : List LexEvent) → list_all is_ascii_alphanumeric bs ≡ true → read Page bs (config (AttributeName tag name) t) ≡ config (AttributeName tag (name ++ str_to_ascii_lowercase bs)) (attribute_name_bytes (str_to_ascii_lowercase bs) t)
rest-reads tag [] name t h = ap (λ (n : List ℕ). config (AttributeName tag n) t) (sym (append-nil name))
rest-reads tag (b ∷ bs) name t h =
    let parts = and_parts (is_ascii_alphanumeric b) (list_all is_ascii_alphanumeric bs) h in
    ap (read Page bs) (name-byte b tag name t (word b parts.0).class)
    ∙ rest-reads tag bs (name ++ to_ascii_lowercase b ∷ []) (AttributeNameByte (to_ascii_lowercase b) ∷ t) parts.1
    ∙ ap (λ (n : List ℕ). config (AttributeName tag n) (attribute_name_bytes (str_to_ascii_lowercase (b ∷ bs)) t)) (append_assoc name (to_ascii_lowercase b ∷ []) (str_to_ascii_lowercase bs))

abbrev Whole : LexState ValueState → Tag → List ℕ → List LexEvent → Type 0
Whole s tag bytes t = read Page bytes (config s t) ≡ config (AttributeName tag (str_to_ascii_lowercase bytes)) (attribute_name_bytes (str_to_ascii_lowercase bytes) (AttributeBegins ∷ t))

word-reads : (tag : Tag) (b : ℕ) (bs : List ℕ) (t : List LexEvent) → list_all is_ascii_alphanumeric (b ∷ bs) ≡ true → Whole (BeforeAttributeName tag) tag (b ∷ bs) t
word-reads tag b bs t h =
    let parts = and_parts (is_ascii_alphanumeric b) (list_all is_ascii_alphanumeric bs) h in
    ap (read Page bs) (first-name-byte b tag t (word b parts.0).class)
    ∙ rest-reads tag bs (to_ascii_lowercase b ∷ []) (AttributeNameByte (to_ascii_lowercase b) ∷ AttributeBegins ∷ t) parts.1

-- wherever a name may begin
begun : (s : LexState ValueState) (tag : Tag) (b : ℕ) (bs : List ℕ) (t : List LexEvent) → BeginsName s tag → list_all is_ascii_alphanumeric (b ∷ bs) ≡ true → Whole s tag (b ∷ bs) t
begun (BeforeAttributeName before) tag b bs t i h = rw i (word-reads before b bs t h)
begun (AfterAttributeName before k) tag b bs t i h = rw i (after-name-byte b bs before k t (word b (and_parts (is_ascii_alphanumeric b) (list_all is_ascii_alphanumeric bs) h).0).class ∙ word-reads (without_value before k) b bs t h)
begun (AfterAttributeValue before) tag b bs t i h = rw i (word-reads before b bs t h)
begun (SelfClosingStartTag before) tag b bs t i h = rw i (solidus-byte b bs before t (word b (and_parts (is_ascii_alphanumeric b) (list_all is_ascii_alphanumeric bs) h).0).class ∙ word-reads before b bs t h)
begun _ tag b bs t i h = absurd i

whole : (s : LexState ValueState) (tag : Tag) (bytes : List ℕ) (t : List LexEvent) → BeginsName s tag → bytes ≢ [] → list_all is_ascii_alphanumeric bytes ≡ true → Whole s tag bytes t
whole s tag [] t i n h = absurd (n refl)
whole s tag (b ∷ bs) t i n h = begun s tag b bs t i h

-- so it is plain there
lower-some : (bs : List ℕ) → bs ≢ [] → str_to_ascii_lowercase bs ≢ []
lower-some [] n e = n refl
lower-some (b ∷ bs) n e = cc

named : (tag : Tag) (bytes : List ℕ) (d : Config ValueState) → bytes ≢ [] → list_all is_ascii_alphanumeric bytes ≡ true → is_special bytes ≡ false → d ≡ config (AttributeName tag (str_to_ascii_lowercase bytes)) (attribute_name_bytes (str_to_ascii_lowercase bytes) (AttributeBegins ∷ [])) → IsPlainName tag bytes d
named tag bytes d n h s e = rw e (record { within = refl; emitted = refl; some = n; letters = h; harmless = s })

plain : (s : LexState ValueState) (tag : Tag) (bytes : List ℕ) (t : List LexEvent) → BeginsName s tag → bytes ≢ [] → list_all is_ascii_alphanumeric bytes ≡ true → is_special bytes ≡ false → IsPlain bytes (config s t)
plain (BeforeAttributeName before) tag bytes t i n h f = (λ m. refl, named before bytes _ n h f (whole (BeforeAttributeName before) before bytes [] refl n h))
plain (AfterAttributeName before k) tag bytes t i n h f = (λ m. refl, named (without_value before k) bytes _ n h f (whole (AfterAttributeName before k) (without_value before k) bytes [] refl n h))
plain (AfterAttributeValue before) tag bytes t i n h f = (λ m. refl, named before bytes _ n h f (whole (AfterAttributeValue before) before bytes [] refl n h))
plain (SelfClosingStartTag before) tag bytes t i n h f = (λ m. refl, named before bytes _ n h f (whole (SelfClosingStartTag before) before bytes [] refl n h))
plain _ tag bytes t i n h f = absurd i

back-word : (text bytes : List ℕ) → bytes ≢ [] → list_all is_ascii_alphanumeric bytes ≡ true → is_special bytes ≡ false → str_to_ascii_lowercase bytes ≡ as_name text → IsBackInTag text bytes
back-word text bytes n h f e = record {
  plain = λ s tag t i. plain s tag bytes t i n h f;
  reads = λ s tag t i. rw (sym e) (whole s tag bytes t i n h);
}

-- a name that data may make, in lower case, and the failsafe
some-length : (bs : List ℕ) → not (length bs == 0) ≡ true → bs ≢ []
some-length bs h e = eqb-false (length bs) 0 (not-true (length bs == 0) h) (ap length e)

name-back : (text : List ℕ) → is_attribute_name text ≡ true → IsBackInTag text (str_to_ascii_lowercase text)
name-back text e =
    let parts = and_parts (not (length text == 0)) (list_all is_ascii_alphanumeric text && not (is_special text)) e in
    let more = and_parts (list_all is_ascii_alphanumeric text) (not (is_special text)) parts.1 in
    back-word text (str_to_ascii_lowercase text) (lower-some text (some-length text parts.0)) (lower-all text more.0) (special-lower text more.0 ∙ not-true (is_special text) more.1)
    (lower-twice text more.0 ∙ ap (λ (b : Bool). str_to_ascii_lowercase (cond b text failsafe)) (sym e))

failsafe-back : (text : List ℕ) → is_attribute_name text ≡ false → IsBackInTag text failsafe
failsafe-back text e = back-word text failsafe (λ n. cc) refl refl (ap (λ (b : Bool). str_to_ascii_lowercase (cond b text failsafe)) (sym e))

pub tag-back : (text : List ℕ) → IsBackInTag text (attr_name text)
tag-back text = elim (cases_Bool (is_attribute_name text)) [
  | inl e ↦ subst (λ (b : Bool). IsBackInTag text (cond b (str_to_ascii_lowercase text) failsafe)) (sym e) (name-back text e)
  | inr e ↦ subst (λ (b : Bool). IsBackInTag text (cond b (str_to_ascii_lowercase text) failsafe)) (sym e) (failsafe-back text e)
]

-- a name in lower case is not the failsafe, which begins with a capital
no-capital : (b : ℕ) → to_ascii_lowercase b ≢ 90
no-capital b = cond_both (nat_lt b 65) b (cond (nat_lt b 91) (b + 32) b) (λ n. n ≢ 90) (λ low e. omega (arith, ltb-true b 65 low, e))
    (λ high. cond_both (nat_lt b 91) (b + 32) b (λ n. n ≢ 90) (λ low e. omega (arith, ltb-false b 65 high, e)) (λ more e. omega (arith, ltb-false b 91 more, e)))

not-failsafe : (text : List ℕ) → str_to_ascii_lowercase text ≢ failsafe
not-failsafe [] e = cc
not-failsafe (b ∷ bs) e = no-capital b (ap (λ (xs : List ℕ). get_or xs 0 0) e)

pub name-exact : (text : List ℕ) → (attr_name text ≡ failsafe) ↔ (is_attribute_name text ≡ false)
name-exact text = elim (cases_Bool (is_attribute_name text)) [
  | inl e ↦ subst (λ (b : Bool). (cond b (str_to_ascii_lowercase text) failsafe ≡ failsafe) ↔ (b ≡ false)) (sym e) (λ f. absurd (not-failsafe text f), λ f. absurd (true≢false f))
  | inr e ↦ subst (λ (b : Bool). (cond b (str_to_ascii_lowercase text) failsafe ≡ failsafe) ↔ (b ≡ false)) (sym e) (λ f. refl, λ f. refl)
]
