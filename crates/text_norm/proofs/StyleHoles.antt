-- What the chain of a hole in a style promises, by the place in the style: the characters that its bytes are read as are plain in each state of
-- a page that is alike to the path's.
use Rattle.std.proofs.Common.{◌≡◌, ◌≢◌, ℕ, Bool, true, false, List, [], ◌∷◌, ◌++◌, length, Option, Some, None, option_map, if◌then◌else◌, inl, inr, refl, sym, ap, ◌∙◌, subst, arith, encode_utf8}
use Rattle.std.specs.Prelude.{bytes_eq}
use Rattle.std.proofs.lemmas.Bool.{and_parts}
use Rattle.std.proofs.lemmas.Str.{length-encode, len_utf8_bounds}
use Rattle.css_lexer.specs.Alike.{IsOfPage, AreAlikeOutside, the_same, hole_between, hole_less_than, hole_word, split_word, cut_solidus, cut_less_than, cut_star, StylesAlike, outside, in_url, unbegun, unbegun_ended}
use Rattle.css_lexer.specs.Classes.{style_class}
use Rattle.css_lexer.specs.Escapes.{StyleEscape, NoEscape, AfterBackslash, HexDigits, AfterReturn}
use Rattle.css_lexer.specs.Events.{StyleEvent}
use Rattle.css_lexer.specs.PartSpots.{has_read_nothing, is_at_start, is_no_triple, is_scheme_ahead, may_begin_text, part_spot}
use Rattle.css_lexer.specs.Paths.{out_settled, style_emits_settled, style_settled}
use Rattle.css_lexer.specs.Plain.{BeginsApart, InRun, IsPlainInStyle, LeadsPlainForm, MayBePlain, StyleLeadsPlain}
use Rattle.css_lexer.specs.ReadBack.{IsBackInCode, IsBackInString}
use Rattle.css_lexer.specs.Spots.{QuotedUrlSpot, UrlSpot}
use Rattle.css_lexer.specs.States.{Quote, DoubleQuote, SingleQuote, UrlWord, SpellsU, SpellsUr, SpellsUrl, SpellsOther, Outside, Between, AfterLessThan, Word, AfterSolidus, Comment, InString, BadUrl, BehindHole, SplitWord, SolidusAtCut, LessThanAtCut, StarAtCut, UrlForm, Fresh, Bare, Quoted, Ended, Style, Out, InUrl, style_start}
use Rattle.css_lexer.specs.StaysInUrl.{StaysInUrl, UrlTakesHole, fed, form_behind}
use Rattle.css_lexer.specs.Steps.{StyleReading, feed_style, read_style, style_emits, style_reading}
use Rattle.css_lexer.specs.Urls.{url_refusal, urls}
use Rattle.css_lexer.proofs.RawReading.{failsafe-stays}
use Rattle.css_step.specs.StyleScans.{style_hole_error}
use Rattle.html_step.specs.Holes.{css_chain, last_of}
use Rattle.js_lexer.specs.Events.{ScriptEvent}
use Rattle.page_datum.specs.Data.{Data}
use Rattle.page_datum.specs.Printed.{printed}
use Rattle.place_core.specs.page.Classes.{Class, Ampersand, class_of, is_equals_sign}
use Rattle.place_core.specs.page.Events.{LexEvent, InsideStyle, ValueByte, told_in_style, value_bytes, InsideScript, told_in_script}
use Rattle.place_core.specs.page.Html.{emits_value, ends_value, next_value, read}
use Rattle.place_core.specs.page.Plain.{HasBytes, IsPlain, IsPlainInState, in_plain_value}
use Rattle.place_core.specs.page.References.{Form, Begun, Named, Hashed, Decimal, HexMark, Hexadecimal, Reference, Closed, Open, ReferenceRow, ReferenceStep, Grows, Closes, Breaks, flushed, flushed_name, meaning, plain_bytes, reference_turned, settled, short_names, turn, turn_bytes, whole_in}
use Rattle.place_core.specs.page.States.{AttributeValue, BeforeAttributeValue, Config, InContent, InLanguage, LexState, Page, config}
use Rattle.place_core.specs.page.Tags.{DoubleQuoted, LeadsPlainInStyle, OfKind, OfStyle, OfUrl, Quoting, SingleQuoted, Tag, Unquoted, Value, ValueOf, ValueState, emitted_bytes, emitted_end, emits_state, end_tag, ends_state, languages, with_bytes, OfScript, value_is_script, value_may_end, value_after_cut, feed_value}
use Rattle.place_core.specs.place.StatePlaces.{quotes_at}
use Rattle.place_core.specs.place.StyleParts.{style_place}
use Rattle.place_core.specs.place.UrlParts.{parts_of}
use Rattle.place_core.specs.declared.css.Css.{Css}
use Rattle.place_core.specs.declared.css.Css.TheVariants as css
use Rattle.place_core.specs.declared.kind.Kind.TheVariants as kind
use Rattle.place_core.specs.declared.san.San.TheVariants as san
use Rattle.san_html.proofs.EscapedText.{same-kind, value-told}
use Rattle.san_html.specs.ReadBack.{in_value, read_as_text, read_value}
use Rattle.san_html.specs.Sanitizers.{failsafe}
use Rattle.url_lexer.specs.Alike.{UrlsAlike}
use Rattle.url_lexer.specs.Events.{UrlEvent}
use Rattle.url_lexer.specs.Parts.{UrlPart, UrlStart, UrlOpen, UrlOpenhole, UrlPrequery, UrlQuery, UrlBad}
use Rattle.url_lexer.specs.Plain.{IsPlainInUrl, UrlLeadsPlain}
use Rattle.url_lexer.specs.Refusals.{refuses_hole_in}
use Rattle.url_lexer.specs.Spots.{where_whole}
use Rattle.url_lexer.specs.States.{Url, feed_all, feed_url, url_start}
use Rattle.url_lexer.specs.Triples.{Triple, NoTriple, AfterPercent, AfterDigit}
use Rattle.url_step.specs.PartSets.{parts_hole_error}
use Rattle.text_norm.specs.Fillings.{url_bytes}
use Rattle.text_norm.specs.HoleLaws.{IsBackBy, IsBackByLast, IsBackInLanguage, leaves_out}
use Rattle.text_norm.proofs.EmittedAlike.{EmitsAlike, IsOwn, after-value, over-alike}
use Rattle.text_norm.proofs.StatesBeside.{StandBeside}
use Rattle.text_norm.proofs.StyleRaw.{byte-told}
use Rattle.text_norm.proofs.UrlHoles.{failsafe-plain, last-read, url-fed, url-has-part, url-promise, url-value, value-some}

-- A value that is a style tells what the style by itself tells.
abbrev pub style_config : Quoting → Tag → StyleReading Url UrlEvent → List LexEvent → Config ValueState
style_config q tag r t = config (in_value q tag (ValueOf (OfStyle r.at))) (told_in_style r.told t)

pub style-read : (q : Quoting) (tag : Tag) (bs : List ℕ) (w : Style Url) (es : List (StyleEvent UrlEvent)) (t : List LexEvent)
    → read_value q tag (ValueOf (OfStyle w)) bs (told_in_style es t) ≡ style_config q tag (read_style urls bs (style_reading w es)) t
style-read q tag [] w es t = refl
style-read q tag (b ∷ bs) w es t =
    ap (λ (z : List LexEvent). read_value q tag (ValueOf (OfStyle (feed_style urls w b))) bs z) (byte-told w b es t)
    ∙ style-read q tag bs (feed_style urls w b) (style_emits urls w b es) t

-- Bytes that a value reads as none are none: whatever is read tells something, and nothing that was told is untold.
cons-some : {A : Type 0} (a : A) (rest : List A) → a ∷ rest ≢ []
cons-some a rest e = cc

abbrev Told : List LexEvent → List LexEvent → Type 0
Told t u = u ≢ []

abbrev Itself : ValueState → ValueState → Type 0
Itself v w = v ≡ w

keeps-told : (e : LexEvent) (t u : List LexEvent) → IsOwn e → Told t u → Told (e ∷ t) (e ∷ u)
keeps-told e t u o f = cons-some e u

style-told : (es : List (StyleEvent UrlEvent)) (t : List LexEvent) → t ≢ [] → told_in_style es t ≢ []
style-told [] t n = n
style-told (e ∷ es) t n = cons-some (InsideStyle e) (told_in_style es t)

script-told : (es : List ScriptEvent) (t : List LexEvent) → t ≢ [] → told_in_script es t ≢ []
script-told [] t n = n
script-told (e ∷ es) t n = cons-some (InsideScript e) (told_in_script es t)

state-told : (v : ValueState) (b : ℕ) (t : List LexEvent) → t ≢ [] → emits_state v b t ≢ []
state-told (OfKind k) b t n = cons-some _ t
state-told (OfUrl u) b t n = cons-some _ t
state-told (OfStyle s) b t n = style-told _ t n
state-told (OfScript s) b t n = script-told _ t n

end-told : (v : ValueState) (t : List LexEvent) → t ≢ [] → ends_state v t ≢ []
end-told (OfKind k) t n = n
end-told (OfUrl u) t n = cons-some _ t
end-told (OfStyle s) t n = style-told _ t n
end-told (OfScript s) t n = script-told _ t n

told-emits : EmitsAlike ValueState languages Itself Told
told-emits = record {
  fed = record {
    starts = λ k. refl;
    feeds = λ v w b a. ap (λ (z : ValueState). feed_value z b) a;
    cuts = λ v w a. ap value_after_cut a;
    scripts = λ v w a. ap value_is_script a;
    may_ends = λ v w a. ap value_may_end a;
  };
  emits = λ v w b t u a n. state-told w b u n;
  ends = λ v w t u a n. end-told w u n;
}

beside-itself : (s : LexState ValueState) → StandBeside Itself s s
beside-itself (AttributeValue q tag (ValueOf v) r) = (v, refl, refl)
beside-itself (InContent e (InLanguage v) h) = (v, refl, refl)
beside-itself _ = refl

stays-told : (bytes : List ℕ) (s : LexState ValueState) (t : List LexEvent) → t ≢ [] → (read Page bytes (config s t)).emitted ≢ []
stays-told bytes s t n = (over-alike Told keeps-told ValueState languages Itself told-emits Page bytes (config s t) (config s t) (beside-itself s) n).1

-- what a reference tells
encode-some : (c : ℕ) → encode_utf8 c ≢ []
encode-some c e = omega (arith, ap length e, length-encode c, (len_utf8_bounds c).0)

if-some : (c : Bool) (xs ys : List ℕ) → xs ≢ [] → ys ≢ [] → (if c then xs else ys) ≢ []
if-some true xs ys m n = m
if-some false xs ys m n = n

append-some : (xs ys : List ℕ) → xs ≢ [] → xs ++ ys ≢ []
append-some [] ys n = absurd (n refl)
append-some (x ∷ xs) ys n = cons-some x (xs ++ ys)

whole-some : (rows : List (ReferenceRow (List ℕ))) (name : List ℕ) → whole_in rows name ≢ []
whole-some [] name = cons-some 38 name
whole-some (r ∷ rows) name = if-some (bytes_eq r.key name) (encode_utf8 r.code) (whole_in rows name) (encode-some r.code) (whole-some rows name)

name-some : (equals : Bool) (name : List ℕ) → flushed_name true equals name ≢ []
name-some true name = cons-some 38 name
name-some false name = whole-some short_names name

flushed-some : (equals : Bool) (f : Form) (bytes : List ℕ) → flushed true equals f bytes ≢ []
unfolding flushed
flushed-some equals Named bytes = name-some equals bytes
flushed-some equals Decimal bytes = encode-some _
flushed-some equals Hexadecimal bytes = encode-some _
flushed-some equals Begun bytes = cons-some 38 bytes
flushed-some equals Hashed bytes = cons-some 38 bytes
flushed-some equals HexMark bytes = cons-some 38 bytes

-- a value that is a URL, which tells its end
abbrev url_value : Url → Value ValueState
url_value u = ValueOf (OfUrl u)

more-told : (bs : List ℕ) (u : Url) (t : List LexEvent) → t ≢ [] → emitted_bytes languages (url_value u) bs t ≢ []
more-told [] u t n = n
more-told (b ∷ bs) u t n = more-told bs (feed_url u b) (ValueByte b ∷ t) (cons-some (ValueByte b) t)

bytes-told : (bs : List ℕ) (u : Url) → bs ≢ [] → emitted_bytes languages (url_value u) bs [] ≢ []
bytes-told [] u n = absurd (n refl)
bytes-told (b ∷ bs) u n = more-told bs (feed_url u b) (ValueByte b ∷ []) (cons-some (ValueByte b) [])

url-end-told : (u : Url) (bs : List ℕ) (t : List LexEvent) → emitted_end languages (with_bytes languages (url_value u) bs) t ≢ []
url-end-told u bs t = subst (λ (z : Value ValueState). emitted_end languages z t ≢ []) (sym (url-fed bs u)) (cons-some _ t)

emitted-in : (c d : Config ValueState) → c ≡ d → c.emitted ≡ d.emitted
emitted-in c d e = ap (λ (z : Config ValueState). z.emitted) e

abbrev at_url : Quoting → Tag → Url → Reference → LexState ValueState
at_url q tag u r = AttributeValue q tag (url_value u) r

-- The value does not end with the bytes,
ended-read : (q : Quoting) (tag : Tag) (u z : Url) (r : Reference) (c : Class) (b : ℕ) (bs : List ℕ)
    → read Page bs (config (next_value languages true q c b tag (url_value u) r) (emits_value languages true q c b (url_value u) r []))
    ≡ config (at_url q tag z Closed) [] → ⊥
ended-read q tag u z r c b bs e =
    let at = next_value languages true q c b tag (url_value u) r in
    let before = emitted_bytes languages (url_value u) (settled true r) [] in
    let end = emitted_end languages (with_bytes languages (url_value u) (settled true r)) before in
    let told = after-value Told keeps-told q c b end end (url-end-told u (settled true r) before) in
    stays-told bs at (emits_value languages true q c b (url_value u) r []) told (emitted-in _ _ e)

-- nor do they leave a reference open, or end one
abbrev IsOpenAt : LexState ValueState → Bool
IsOpenAt (AttributeValue q tag v (Open f h)) = true
IsOpenAt s = false

true-false : true ≡ false → ⊥
true-false e = cc

turned-read : (n : ReferenceStep) (q : Quoting) (tag : Tag) (u z : Url) (f : Form) (h : List ℕ) (c : Class) (b : ℕ) (bs : List ℕ)
    → ((g : Form) (i : List ℕ) → read Page bs (config (at_url q tag u (Open g i)) []) ≡ config (at_url q tag z Closed) [] → ⊥)
    → read Page bs (config (AttributeValue q tag (with_bytes languages (url_value u) (turn_bytes true n f h c b)) (reference_turned n h c b))
    (emitted_bytes languages (url_value u) (turn_bytes true n f h c b) [])) ≡ config (at_url q tag z Closed) [] → ⊥
turned-read (Grows g) q tag u z f h c b bs later e = later g (h ++ b ∷ []) e
turned-read Closes q tag u z f h c b bs later e =
    let more = encode_utf8 (meaning f h) in
    stays-told bs (AttributeValue q tag (with_bytes languages (url_value u) more) Closed) (emitted_bytes languages (url_value u) more [])
    (bytes-told more u (encode-some (meaning f h))) (emitted-in _ _ e)
turned-read Breaks q tag u z f h c b bs later e =
    let name = flushed true (is_equals_sign c) f h in
    let more = name ++ plain_bytes c b in
    let at = AttributeValue q tag (with_bytes languages (url_value u) more) (reference_turned Breaks h c b) in
    stays-told bs at (emitted_bytes languages (url_value u) more [])
    (bytes-told more u (append-some name (plain_bytes c b) (flushed-some (is_equals_sign c) f h))) (emitted-in _ _ e)

open-by : (ends : Bool) (q : Quoting) (tag : Tag) (u z : Url) (f : Form) (h : List ℕ) (c : Class) (b : ℕ) (bs : List ℕ)
    → ((g : Form) (i : List ℕ) → read Page bs (config (at_url q tag u (Open g i)) []) ≡ config (at_url q tag z Closed) [] → ⊥)
    → read Page bs (config (next_value languages ends q c b tag (url_value u) (Open f h))
    (emits_value languages ends q c b (url_value u) (Open f h) []))
    ≡ config (at_url q tag z Closed) [] → ⊥
open-by true q tag u z f h c b bs later e = ended-read q tag u z (Open f h) c b bs e
open-by false q tag u z f h c b bs later e = turned-read (turn c f) q tag u z f h c b bs later e

open-read : (bs : List ℕ) (q : Quoting) (tag : Tag) (u z : Url) (f : Form) (h : List ℕ)
    → read Page bs (config (at_url q tag u (Open f h)) []) ≡ config (at_url q tag z Closed) [] → ⊥
open-read [] q tag u z f h e = true-false (ap (λ (d : Config ValueState). IsOpenAt d.at) e)
open-read (b ∷ bs) q tag u z f h e = open-by (ends_value q (class_of b)) q tag u z f h (class_of b) b bs (λ g i k. open-read bs q tag u z g i k) e

first-read : (ends : Bool) (q : Quoting) (tag : Tag) (u z : Url) (c : Class) (b : ℕ) (bs : List ℕ)
    → read Page bs (config (next_value languages ends q c b tag (url_value u) Closed) (emits_value languages ends q c b (url_value u) Closed []))
    ≡ config (at_url q tag z Closed) [] → ⊥
first-read true q tag u z c b bs e = ended-read q tag u z Closed c b bs e
first-read false q tag u z Ampersand b bs e = open-read bs q tag u z Begun [] e
first-read false q tag u z c b bs e =
    stays-told bs (at_url q tag (feed_url u b) Closed) (ValueByte b ∷ []) (cons-some (ValueByte b) []) (emitted-in _ _ e)

none-read : (bytes : List ℕ) (q : Quoting) (tag : Tag) (u : Url)
    → read Page bytes (config (at_url q tag u Closed) []) ≡ config (at_url q tag u Closed) [] → bytes ≡ []
none-read [] q tag u e = refl
none-read (b ∷ bs) q tag u e = absurd (first-read (ends_value q (class_of b)) q tag u u (class_of b) b bs e)

value-none : (q : Quoting) (chars bytes : List ℕ) → IsBackByLast (last_of (quotes_at q)) chars bytes → url_bytes q chars ≡ [] → bytes ≡ []
value-none DoubleQuoted chars bytes k e =
    none-read bytes DoubleQuoted end_tag url_start
    (k.reads DoubleQuoted end_tag (url_value url_start) [] refl
    ∙ ap (λ (z : List ℕ). read_value DoubleQuoted end_tag (url_value url_start) (read_as_text z) []) e)
value-none SingleQuoted chars bytes k e =
    none-read bytes SingleQuoted end_tag url_start
    (k.reads SingleQuoted end_tag (url_value url_start) [] refl
    ∙ ap (λ (z : List ℕ). read_value SingleQuoted end_tag (url_value url_start) (read_as_text z) []) e)
value-none Unquoted chars bytes k e = absurd (value-some Unquoted chars e)

-- A page is in no state that is of paths alone.
abbrev pub IsPageStyle : Style Url → Type 0
IsPageStyle (Out s) = IsOfPage s
IsPageStyle (InUrl f u) = Unit {0}

of-page : (s r : Outside) → AreAlikeOutside s r → IsOfPage r
of-page s r (the_same z o) = o
of-page s r (hole_between solidus less) = tt
of-page s r (hole_less_than solidus less) = tt
of-page s r (hole_word solidus less w) = tt
of-page s r (split_word w e) = tt
of-page s r (cut_solidus k) = tt
of-page s r cut_less_than = tt
of-page s r (cut_star star) = tt

pub are-pages : (s w : Style Url) → StylesAlike urls s w → IsPageStyle w
are-pages (Out s) (Out r) (outside a) = of-page s r a
are-pages (Out s) (InUrl f u) a = tt
are-pages (InUrl f u) (Out r) a = elim a [ ]
are-pages (InUrl f u) (InUrl h w) a = tt

-- The path's states in code, where a text may begin, and in comments.
abbrev pub IsCode : Outside → Type 0
IsCode (Between k) = Unit {0}
IsCode (BehindHole solidus less) = Unit {0}
IsCode (SplitWord NoEscape) = Unit {0}
IsCode (SolidusAtCut k) = Unit {0}
IsCode LessThanAtCut = Unit {0}
IsCode s = ⊥

abbrev IsInComment : Outside → Type 0
IsInComment (Comment false) = Unit {0}
IsInComment StarAtCut = Unit {0}
IsInComment s = ⊥

-- The page's state, by the path's: in a run,
same-run : (s : Outside) → IsCode s → IsOfPage s → InRun (out_settled s)
same-run (Between k) c g = tt
same-run (SolidusAtCut k) c g = tt
same-run (BehindHole solidus less) c g = absurd g
same-run (SplitWord e) c g = absurd g
same-run LessThanAtCut c g = absurd g
same-run AfterLessThan c g = absurd c
same-run (Word w e) c g = absurd c
same-run (AfterSolidus k) c g = absurd c
same-run (Comment star) c g = absurd c
same-run (InString q e) c g = absurd c
same-run BadUrl c g = absurd c
same-run StarAtCut c g = absurd c

split-run : (w : UrlWord) (e : StyleEscape) → IsCode (SplitWord e) → InRun (Word w e)
split-run w NoEscape c = tt
split-run w AfterBackslash c = absurd c
split-run w (HexDigits k) c = absurd c
split-run w AfterReturn c = absurd c

code-run : (s r : Outside) → AreAlikeOutside s r → IsCode s → IsOfPage r → InRun (out_settled r)
code-run s r (the_same z o) c g = same-run z c g
code-run s r (hole_between solidus less) c g = tt
code-run s r (hole_less_than solidus less) c g = tt
code-run s r (hole_word solidus less w) c g = tt
code-run s r (split_word w e) c g = split-run w e c
code-run s r (cut_solidus k) c g = tt
code-run s r cut_less_than c g = tt
code-run s r (cut_star star) c g = absurd c

-- in the string,
pub string-same : (q : Quote) (r : Outside) → AreAlikeOutside (InString q NoEscape) r → r ≡ InString q NoEscape
string-same q r (the_same z o) = refl

-- and in a comment.
same-comment : (s : Outside) → IsInComment s → IsOfPage s → (star : Bool) × (s ≡ Comment star)
same-comment (Comment false) c g = (false, refl)
same-comment (Comment true) c g = absurd c
same-comment StarAtCut c g = absurd g
same-comment (Between k) c g = absurd c
same-comment AfterLessThan c g = absurd c
same-comment (Word w e) c g = absurd c
same-comment (AfterSolidus k) c g = absurd c
same-comment (InString q e) c g = absurd c
same-comment BadUrl c g = absurd c
same-comment (BehindHole solidus less) c g = absurd c
same-comment (SplitWord e) c g = absurd c
same-comment (SolidusAtCut k) c g = absurd c
same-comment LessThanAtCut c g = absurd c

comment-star : (s r : Outside) → AreAlikeOutside s r → IsInComment s → IsOfPage r → (star : Bool) × (r ≡ Comment star)
comment-star s r (the_same z o) c g = same-comment z c g
comment-star s r (hole_between solidus less) c g = absurd c
comment-star s r (hole_less_than solidus less) c g = absurd c
comment-star s r (hole_word solidus less w) c g = absurd c
comment-star s r (split_word w e) c g = absurd c
comment-star s r (cut_solidus k) c g = absurd c
comment-star s r cut_less_than c g = absurd c
comment-star s r (cut_star star) c g = (star, refl)

-- what is plain there is plain in each state of a page that is alike
abbrev pub PlainAtAll : Style Url → List ℕ → Type 0
PlainAtAll s bs = (w : Style Url) → StylesAlike urls s w → IsPageStyle w → IsPlainInStyle urls bs w

pub in-code : (bs : List ℕ) (s : Outside) → IsCode s → ((r : Outside) → InRun (out_settled r) → IsPlainInStyle urls bs (Out r)) → PlainAtAll (Out s) bs
in-code bs s c p (Out r) (outside a) g = p r (code-run s r a c g)
in-code bs s c p (InUrl f u) a g = elim a [ ]

pub in-string : (bs : List ℕ) (q : Quote) → IsPlainInStyle urls bs (Out (InString q NoEscape)) → PlainAtAll (Out (InString q NoEscape)) bs
in-string bs q p (Out r) (outside a) g = subst (λ (z : Outside). IsPlainInStyle urls bs (Out z)) (sym (string-same q r a)) p
in-string bs q p (InUrl f u) a g = elim a [ ]

in-comment : (bs : List ℕ) (s : Outside) → IsInComment s → ((star : Bool) → IsPlainInStyle urls bs (Out (Comment star))) → PlainAtAll (Out s) bs
in-comment bs s c p (Out r) (outside a) g =
    let star = comment-star s r a c g in
    subst (λ (z : Outside). IsPlainInStyle urls bs (Out z)) (sym star.1) (p star.0)
in-comment bs s c p (InUrl f u) a g = elim a [ ]

-- In a URL: what is plain for it and stays in its url token.
fed-all : (bs : List ℕ) (u : Url) → fed urls u bs ≡ feed_all u bs
fed-all [] u = refl
fed-all (b ∷ bs) u = fed-all bs (feed_url u b)

form-leads : (f : UrlForm) (bs : List ℕ) → UrlTakesHole f → LeadsPlainForm f (form_behind f bs)
form-leads Fresh [] o = inl refl
form-leads Fresh (b ∷ bs) o = inr refl
form-leads Bare [] o = refl
form-leads Bare (b ∷ bs) o = refl
form-leads (Quoted q NoEscape) [] o = refl
form-leads (Quoted q NoEscape) (b ∷ bs) o = refl
form-leads (Quoted q AfterBackslash) bs o = absurd o
form-leads (Quoted q (HexDigits k)) bs o = absurd o
form-leads (Quoted q AfterReturn) bs o = absurd o
form-leads Ended bs o = absurd o

url-apart : (bs : List ℕ) (f : UrlForm) (u : Url) → BeginsApart urls bs (InUrl f u)
url-apart [] f u = tt
url-apart (b ∷ bs) f u = refl

in-url-plain : (bs : List ℕ) (f : UrlForm) (u : Url) → UrlTakesHole f → StaysInUrl urls bs → IsPlainInUrl bs u → IsPlainInStyle urls bs (InUrl f u)
in-url-plain bs f u o s p = record {
  apart = url-apart bs f u;
  leads = subst (λ (z : Style Url). StyleLeadsPlain urls (InUrl f u) z) (sym (s.leads f u o))
      (form-leads f bs o, subst (λ (z : Url). UrlLeadsPlain u z) (sym (fed-all bs u)) p.leads);
  allowed = (s.allowed, p.allowed);
  tells = s.tells f u o;
}

pub in-urls : (bs : List ℕ) (f : UrlForm) (u : Url) → UrlTakesHole f → StaysInUrl urls bs → ((w : Url) → UrlsAlike u w → IsPlainInUrl bs w)
    → PlainAtAll (InUrl f u) bs
in-urls bs f u o s p (Out r) a g = elim a [ ]
in-urls bs f u o s p (InUrl h w) (in_url i a) g = in-url-plain bs f w o s (p w a)
in-urls bs Bare u o s p (InUrl Fresh w) (unbegun a) g = in-url-plain bs Fresh w tt s (p w a)
in-urls bs Ended u o s p (InUrl Fresh w) (unbegun_ended a) g = absurd o

-- The failsafe of a value without quotes is plain in code, in a string and in a comment.
word-failsafe : (w : UrlWord) → IsPlainInStyle urls failsafe (Out (Word w NoEscape))
unfolding style_class
word-failsafe SpellsU = record { apart = refl; leads = (tt, tt); allowed = refl; tells = refl }
word-failsafe SpellsUr = record { apart = refl; leads = (tt, tt); allowed = refl; tells = refl }
word-failsafe SpellsUrl = record { apart = refl; leads = (tt, tt); allowed = refl; tells = refl }
word-failsafe SpellsOther = record { apart = refl; leads = (tt, tt); allowed = refl; tells = refl }

pub code-failsafe : (r : Outside) → InRun (out_settled r) → IsPlainInStyle urls failsafe (Out r)
unfolding style_class
code-failsafe (Between k) o = record { apart = refl; leads = (tt, tt); allowed = refl; tells = refl }
code-failsafe AfterLessThan o = record { apart = refl; leads = (tt, tt); allowed = refl; tells = refl }
code-failsafe (AfterSolidus k) o = record { apart = refl; leads = (tt, tt); allowed = refl; tells = refl }
code-failsafe (SolidusAtCut k) o = record { apart = refl; leads = (tt, tt); allowed = refl; tells = refl }
code-failsafe (Word w NoEscape) o = word-failsafe w
code-failsafe (Word w AfterBackslash) o = absurd o
code-failsafe (Word w (HexDigits k)) o = absurd o
code-failsafe (Word w AfterReturn) o = absurd o
code-failsafe (Comment star) o = absurd o
code-failsafe (InString q e) o = absurd o
code-failsafe BadUrl o = absurd o
code-failsafe (BehindHole solidus less) o = absurd o
code-failsafe (SplitWord e) o = absurd o
code-failsafe LessThanAtCut o = absurd o
code-failsafe StarAtCut o = absurd o

pub string-failsafe : (q : Quote) → IsPlainInStyle urls failsafe (Out (InString q NoEscape))
unfolding style_class
string-failsafe DoubleQuote = record { apart = refl; leads = refl; allowed = refl; tells = refl }
string-failsafe SingleQuote = record { apart = refl; leads = refl; allowed = refl; tells = refl }

comment-failsafe : (star : Bool) → IsPlainInStyle urls failsafe (Out (Comment star))
unfolding style_class
comment-failsafe true = record { apart = refl; leads = inl refl; allowed = inr refl; tells = refl }
comment-failsafe false = record { apart = refl; leads = inl refl; allowed = inr refl; tells = refl }

comment-none : (star : Bool) → IsPlainInStyle urls [] (Out (Comment star))
comment-none star = record { apart = tt; leads = inr refl; allowed = inl refl; tells = refl }

-- A hole in a style at the state of a path: the value that its bytes are read as, in a style and in any other value, which is plain in each state of
-- a page that is alike.
pub record IsStyleHole (q : Quoting) (s : Style Url) (bytes : List ℕ) : Type 0 where
  pub value : List ℕ
  pub plain : (w : Style Url) → StylesAlike urls s w → IsPageStyle w → IsPlainInStyle urls value w
  pub some : HasBytes q value
  pub none : value ≡ [] → bytes ≡ []
  pub reads : (tag : Tag) (v : Value ValueState) (t : List LexEvent) → read Page bytes (config (in_value q tag v) t) ≡ read_value q tag v value t

either-plain : (q : Quoting) (chars : List ℕ) (s : Style Url) → PlainAtAll s chars → PlainAtAll s failsafe → PlainAtAll s (url_bytes q chars)
either-plain DoubleQuoted chars s p f = p
either-plain SingleQuoted chars s p f = p
either-plain Unquoted [] s p f = f
either-plain Unquoted (b ∷ bs) s p f = p

hole-by : (q : Quoting) (s : Style Url) (chars bytes : List ℕ) → read_as_text chars ≡ chars → IsBackByLast (last_of (quotes_at q)) chars bytes
    → PlainAtAll s chars → PlainAtAll s failsafe → IsStyleHole q s bytes
hole-by q s chars bytes e k p f = record {
  value = url_bytes q chars;
  plain = either-plain q chars s p f;
  some = value-some q chars;
  none = value-none q chars bytes k;
  reads = λ tag v t. last-read q chars bytes e k tag v t;
}

code-hole : (s : Outside) → IsCode s → (q : Quoting) (text bytes : List ℕ) → IsBackInLanguage (IsBackInCode urls text) (last_of (quotes_at q)) bytes
    → IsStyleHole q (Out s) bytes
code-hole s c q text bytes k =
    hole-by q (Out s) k.characters bytes k.as_they_are k.written (in-code k.characters s c k.there.plain) (in-code failsafe s c code-failsafe)

string-hole : (j : Quote) (q : Quoting) (text bytes : List ℕ) → IsBackInLanguage (IsBackInString urls text) (last_of (quotes_at q)) bytes
    → IsStyleHole q (Out (InString j NoEscape)) bytes
string-hole j q text bytes k =
    hole-by q (Out (InString j NoEscape)) k.characters bytes k.as_they_are k.written
    (in-string k.characters j (k.there.plain j)) (in-string failsafe j (string-failsafe j))

comment-hole : (s : Outside) → IsInComment s → (q : Quoting) (bytes : List ℕ) → IsBackByLast (last_of (quotes_at q)) [] bytes
    → IsStyleHole q (Out s) bytes
comment-hole s c q bytes k = hole-by q (Out s) [] bytes refl k (in-comment [] s c comment-none) (in-comment failsafe s c comment-failsafe)

url-style-hole : (f : UrlForm) (u : Url) → UrlTakesHole f → (q : Quoting) (p : UrlPart) (datum : Data) (bytes : List ℕ) → u.part ≡ p
    → u.triple ≡ NoTriple → refuses_hole_in p ≡ None
    → IsBackBy (css_chain (css.Url (parts_of p)) (last_of (quotes_at q))) datum bytes → IsStyleHole q (InUrl f u) bytes
url-style-hole f u o q p datum bytes i e n k =
    let own = url-promise p (last_of (quotes_at q)) datum bytes n k in
    hole-by q (InUrl f u) own.characters bytes own.as_they_are own.written
    (in-urls own.characters f u o own.stays (λ w a. own.there.plain u w i a e))
    (in-urls failsafe f u o (failsafe-stays urls) (λ w a. failsafe-plain u w a e (subst (λ (z : UrlPart). refuses_hole_in z ≡ None) (sym i) n)))

-- By the place of the path, what its chain promises is such a hole, where none is refused; and the value is not left out.
abbrev pub css_of : Style Url → Option Css
css_of s = if may_begin_text s then option_map style_place (part_spot s) else None

abbrev pub HolesAt : Style Url → Quoting → Option Css → Data → List ℕ → Type 0
HolesAt s q None datum bytes = Unit {0}
HolesAt s q (Some c) datum bytes =
    style_hole_error c ≡ None → IsBackBy (css_chain c (last_of (quotes_at q))) datum bytes
    → (leaves_out (css_chain c (last_of (quotes_at q))) ≡ false) × IsStyleHole q s bytes

pub given : {A : Type 0} (a : A) → Some a ≡ None → ⊥
given a e = cc

pub none-refused : (p : UrlPart) → url_refusal (parts_hole_error (parts_of p)) ≡ None → refuses_hole_in p ≡ None
none-refused UrlStart e = refl
none-refused (UrlOpen x) e = refl
none-refused UrlOpenhole e = refl
none-refused UrlPrequery e = refl
none-refused UrlQuery e = refl
none-refused UrlBad e = absurd (given _ e)

pub at-start : (p : UrlPart) → is_at_start p ≡ true → p ≡ UrlStart
at-start UrlStart e = refl
at-start (UrlOpen x) e = absurd (true-false (sym e))
at-start UrlOpenhole e = absurd (true-false (sym e))
at-start UrlPrequery e = absurd (true-false (sym e))
at-start UrlQuery e = absurd (true-false (sym e))
at-start UrlBad e = absurd (true-false (sym e))

pub no-triple : (t : Triple) → is_no_triple t ≡ true → t ≡ NoTriple
no-triple NoTriple e = refl
no-triple AfterPercent e = absurd (true-false (sym e))
no-triple AfterDigit e = absurd (true-false (sym e))

fresh-holes : (b : Bool) (u : Url) (q : Quoting) (datum : Data) (bytes : List ℕ) → has_read_nothing u ≡ b
    → HolesAt (InUrl Fresh u) q (if b then Some css.UrlFresh else None) datum bytes
fresh-holes false u q datum bytes e = tt
fresh-holes true u q datum bytes e = λ n k.
    let first = and_parts (is_at_start u.part) _ e in
    let second = and_parts (is_scheme_ahead u.scheme) _ first.1 in
    let third = and_parts _ (is_no_triple u.triple) second.1 in (
      url-has-part UrlStart (last_of (quotes_at q)),
      url-style-hole Fresh u tt q UrlStart datum bytes (at-start u.part first.0) (no-triple u.triple third.1) refl k,
    )

bare-holes : (t : Triple) (u : Url) (q : Quoting) (datum : Data) (bytes : List ℕ) → u.triple ≡ t
    → HolesAt (InUrl Bare u) q (option_map style_place (option_map UrlSpot (where_whole t u.part))) datum bytes
bare-holes NoTriple u q datum bytes e = λ n k.
    (url-has-part u.part (last_of (quotes_at q)), url-style-hole Bare u tt q u.part datum bytes refl e (none-refused u.part n) k)
bare-holes AfterPercent u q datum bytes e = tt
bare-holes AfterDigit u q datum bytes e = tt

quoted-holes : (j : Quote) (t : Triple) (u : Url) (q : Quoting) (datum : Data) (bytes : List ℕ) → u.triple ≡ t
    → HolesAt (InUrl (Quoted j NoEscape) u) q (option_map style_place (option_map (QuotedUrlSpot j) (where_whole t u.part))) datum bytes
quoted-holes DoubleQuote NoTriple u q datum bytes e = λ n k. (
  url-has-part u.part (last_of (quotes_at q)),
  url-style-hole (Quoted DoubleQuote NoEscape) u tt q u.part datum bytes refl e (none-refused u.part n) k,
)
quoted-holes SingleQuote NoTriple u q datum bytes e = λ n k. (
  url-has-part u.part (last_of (quotes_at q)),
  url-style-hole (Quoted SingleQuote NoEscape) u tt q u.part datum bytes refl e (none-refused u.part n) k,
)
quoted-holes j AfterPercent u q datum bytes e = tt
quoted-holes j AfterDigit u q datum bytes e = tt

pub style-holes : (s : Style Url) (q : Quoting) (datum : Data) (bytes : List ℕ) → HolesAt s q (css_of s) datum bytes
style-holes (Out (Between j)) q datum bytes = λ n k. (refl, code-hole (Between j) tt q (printed datum) bytes k)
style-holes (Out AfterLessThan) q datum bytes = tt
style-holes (Out (Word w e)) q datum bytes = tt
style-holes (Out (AfterSolidus k)) q datum bytes = tt
style-holes (Out (Comment true)) q datum bytes = tt
style-holes (Out (Comment false)) q datum bytes = λ n k. (refl, comment-hole (Comment false) tt q bytes k)
style-holes (Out (InString DoubleQuote NoEscape)) q datum bytes = λ n k. (refl, string-hole DoubleQuote q (printed datum) bytes k)
style-holes (Out (InString SingleQuote NoEscape)) q datum bytes = λ n k. (refl, string-hole SingleQuote q (printed datum) bytes k)
style-holes (Out (InString j AfterBackslash)) q datum bytes = tt
style-holes (Out (InString j (HexDigits k))) q datum bytes = tt
style-holes (Out (InString j AfterReturn)) q datum bytes = tt
style-holes (Out BadUrl) q datum bytes = tt
style-holes (Out (BehindHole solidus less)) q datum bytes = λ n k. (refl, code-hole (BehindHole solidus less) tt q (printed datum) bytes k)
style-holes (Out (SplitWord NoEscape)) q datum bytes = λ n k. (refl, code-hole (SplitWord NoEscape) tt q (printed datum) bytes k)
style-holes (Out (SplitWord AfterBackslash)) q datum bytes = tt
style-holes (Out (SplitWord (HexDigits k))) q datum bytes = tt
style-holes (Out (SplitWord AfterReturn)) q datum bytes = tt
style-holes (Out (SolidusAtCut j)) q datum bytes = λ n k. (refl, code-hole (SolidusAtCut j) tt q (printed datum) bytes k)
style-holes (Out LessThanAtCut) q datum bytes = λ n k. (refl, code-hole LessThanAtCut tt q (printed datum) bytes k)
style-holes (Out StarAtCut) q datum bytes = λ n k. (refl, comment-hole StarAtCut tt q bytes k)
style-holes (InUrl Fresh u) q datum bytes = fresh-holes (has_read_nothing u) u q datum bytes refl
style-holes (InUrl Bare u) q datum bytes = bare-holes u.triple u q datum bytes refl
style-holes (InUrl (Quoted j NoEscape) u) q datum bytes = quoted-holes j u.triple u q datum bytes refl
style-holes (InUrl (Quoted j AfterBackslash) u) q datum bytes = tt
style-holes (InUrl (Quoted j (HexDigits k)) u) q datum bytes = tt
style-holes (InUrl (Quoted j AfterReturn) u) q datum bytes = tt
style-holes (InUrl Ended u) q datum bytes = λ n k. absurd (given _ n)

-- In the page these bytes are plain.
settled-allowed : (w : Style Url) (bs : List ℕ) → MayBePlain urls bs w → MayBePlain urls bs (style_settled w)
settled-allowed (InUrl f u) bs p = p
settled-allowed (Out (AfterSolidus k)) bs p = p
settled-allowed (Out (SolidusAtCut k)) bs p = p
settled-allowed (Out s) bs p = p

style-leads : (w : Style Url) (bs : List ℕ) → IsPlainInStyle urls bs w
    → LeadsPlainInStyle (style_settled w) bs (read_style urls bs (style_reading {U = Url} {E = UrlEvent} (style_settled w) [])).at
style-leads w bs p = record { leads = p.leads; allowed = settled-allowed w bs p.allowed; tells = p.tells }

plain-read : (q : Quoting) (tag : Tag) (bs : List ℕ)
    → read_value q tag (ValueOf (OfKind kind.Plain)) bs [] ≡ config (in_plain_value q tag) (value_bytes bs [])
plain-read q tag bs =
    ap (λ (z : Value ValueState). config (in_value q tag z) (emitted_bytes languages (ValueOf (OfKind kind.Plain)) bs [])) (same-kind kind.Plain bs)
    ∙ ap (config (in_plain_value q tag)) (value-told bs (ValueOf (OfKind kind.Plain)) [])

pub style-in-state : (q : Quoting) (tag : Tag) (s w : Style Url) (bytes : List ℕ) (h : IsStyleHole q s bytes) (c : Config ValueState)
    → StylesAlike urls s w → IsPageStyle w
    → c ≡ style_config q tag (read_style urls h.value (style_reading (style_settled w) [])) []
    → IsPlainInState (OfStyle (style_settled w)) q tag bytes c
style-in-state q tag s w bytes h c a g e = record {
  value = h.value;
  after = OfStyle (read_style urls h.value (style_reading {U = Url} {E = UrlEvent} (style_settled w) [])).at;
  within = ap (λ (z : Config ValueState). z.at) e;
  emitted = h.reads tag (ValueOf (OfKind kind.Plain)) [] ∙ plain-read q tag h.value;
  some = h.some;
  leads = style-leads w h.value (h.plain w a g);
}

apart-read : (bs : List ℕ) (w : Style Url) → BeginsApart urls bs w → bs ≢ []
    → read_style urls bs (style_reading w []) ≡ read_style urls bs (style_reading (style_settled w) (style_emits_settled w []))
apart-read [] w p n = absurd (n refl)
apart-read (b ∷ bs) w p n = p

pub style-plain : (q : Quoting) (tag : Tag) (s w : Style Url) (bytes : List ℕ) (t : List LexEvent) → IsStyleHole q s bytes → StylesAlike urls s w
    → IsPageStyle w
    → IsPlain bytes (config (in_value q tag (ValueOf (OfStyle w))) t)
style-plain q tag s w bytes t h a g =
    let r = style_settled w in (
      λ n.
          h.reads tag (ValueOf (OfStyle w)) t ∙ style-read q tag h.value w [] t
          ∙ ap (λ (z : StyleReading Url UrlEvent). style_config q tag z t) (apart-read h.value w (h.plain w a g).apart (λ e. n (h.none e)))
          ∙ sym (h.reads tag (ValueOf (OfStyle r)) (told_in_style (style_emits_settled w []) t)
          ∙ style-read q tag h.value r (style_emits_settled w []) t),
      style-in-state q tag s w bytes h (read Page bytes (config (in_value q tag (ValueOf (OfStyle r))) [])) a g
          (h.reads tag (ValueOf (OfStyle r)) [] ∙ style-read q tag h.value r [] []),
    )

-- the same where an unquoted value is to begin
pub style-begun-plain : (tag : Tag) (datum : Data) (bytes : List ℕ) (t : List LexEvent)
    → IsBackBy (css_chain (css.Code (record { word = false; slash = false; lt = false })) san.AttrNospace) datum bytes
    → StylesAlike urls style_start style_start → IsPlain bytes (config (BeforeAttributeValue tag kind.Style) t)
unfolding code-hole hole-by
style-begun-plain tag datum bytes t k a =
    let b : IsBackInLanguage (IsBackInCode urls (printed datum)) san.AttrNospace bytes = k in
    let h = code-hole (Between false) tt Unquoted (printed datum) bytes b in
    let c = read Page bytes (config (BeforeAttributeValue tag kind.Style) []) in (
      λ some. refl,
      (
        (b.written.plain_unbegun tag []).1.0,
        style-in-state Unquoted tag style_start style_start bytes h c a tt
            (b.written.reads_unbegun tag kind.Style []
            ∙ ap (λ (z : List ℕ). read_value Unquoted tag (ValueOf (OfStyle style_start)) z []) (url-value b.characters b.as_they_are)
            ∙ style-read Unquoted tag h.value style_start [] []),
      ),
    )
