-- No text and no hole is refused by the code of a root's end.
use Rattle.std.proofs.Common.{◌≡◌, ℕ, ◌+◌, ◌-◌, nat_lt, codes, encode_utf8, Bool, true, false, List, [], ◌∷◌, ◌++◌, length, Option, Some, None, option_map, refl, subst, if◌then◌else◌, ◌||◌, ◌&&◌}
use Rattle.std.specs.Prelude.{⊤}
use Rattle.css_lexer.specs.RefusalCodes as style
use Rattle.css_lexer.specs.RefusalCodes.{RefusalCode, StyleCutRefusal}
use Rattle.css_lexer.specs.Refusals.{style_refuses, style_refuses_cut}
use Rattle.css_lexer.specs.Elements.{refuses_less_than_cut}
use Rattle.css_lexer.specs.Urls.{urls}
use Rattle.js_lexer.specs.Holes.{script_after_cut}
use Rattle.js_lexer.specs.Refusals as script
use Rattle.js_lexer.specs.Refusals.{Cause}
use Rattle.js_lexer.specs.States.{script_start}
use Rattle.place_core.specs.page.Classes.{Class, White, QuotationMark, Apostrophe, HyphenMinus, Solidus, LessThan, EqualsSign, GreaterThan, GraveAccent, ExclamationMark, Letter, class_of, is_equals_sign}
use Rattle.place_core.specs.page.Contents.{EndsContent, Reads, ScriptStep, is_name_of, may_be_name_of, pending_bytes, script_step}
use Rattle.place_core.specs.page.Html.{ends_value, next}
use Rattle.place_core.specs.page.References.{Breaks, Closed, Closes, Form, Grows, Open, Reference, ReferenceStep, as_it_stands, flushed, meaning, plain_bytes, turn}
use Rattle.place_core.specs.page.States.{AfterAttributeName, AfterAttributeValue, AttributeName, AttributeValue, BeforeAttributeName, BeforeAttributeValue, BogusComment, Bytes, Characters, DeclarationOpen, EndTagOpen, InComment, InContent, InDoctype, InLanguage, LessAtCut, LexState, Nothing, Pending, PendingBang, PendingBangDash, PendingLess, PendingName, PendingOpening, SelfClosingStartTag, TagName, TagOpen, Template, Text, WholeAttributeName, WholeTagName}
use Rattle.place_core.specs.page.Tags.{Deciding, Feeding, OfKind, OfScript, OfStyle, OfUrl, Value, ValueOf, ValueState, attribute_value_of, feed_bytes, feeding, fed_state, is_second_type, language_feeding, languages, refusal_code, refuses_byte, refuses_cut_of, refuses_in_value, refuses_value_cut, script_code, style_code, style_cut, tag_of_name, with_bytes, element_on}
use Rattle.place_core.specs.page.Words.{kind_of}
use Rattle.place_core.specs.place.Errors.{FedByte, PathCause, PathRefusal, PathRefuses, RefusesHole, ScriptFeeding, TextRead, at_hand, at_value_end, attribute_name_error, bare_error, before_cause, begun_cut_error, block_byte_error, block_cut_error, body_hole_error, broken_off, byte_error, cause_back, comment_error, content_byte_error, content_end_cut_error, css_hole_error, cut_cause, cut_error, cut_places, element_script, end_name_error, ending_tag, equals_error, fed_error, fed_places, first_byte_error, first_cause, first_path_refusal, first_places, flushed_error, hole_error, is_broken, is_unknown_name, is_written, language_content_error, language_cut_error, language_error, less_error, lexeme_error, loose_byte_error, name_error, nests_too_deep, nothing_read, one_script, pending_error, quotes_error, read_behind, read_error, refusal_from, released_error, script_byte_refusal, script_cause_back, script_content_cut_error, script_content_error, script_cut_refusal, script_ending_refusal, script_fed, script_fed_refusal, script_places_refusal, script_read, script_refusal_at, split_error, standing_at, step_error, tag_error, tag_name_error, turned_error, unless_in_script, unless_second, url_hole_error, value_end_cause, places_with, step_asks, asks_back}
use Rattle.place_core.specs.place.StatePlaces.{only_after, only_before, only_inside, only_name, quotes_at, tag_spot}
use Rattle.place_core.specs.declared.bare.Bare.{Bare}
use Rattle.place_core.specs.declared.body.Body.{Body}
use Rattle.place_core.specs.declared.body.Body.TheVariants as body
use Rattle.place_core.specs.declared.code.Code.{Code}
use Rattle.place_core.specs.declared.code.Code.TheVariants as code
use Rattle.place_core.specs.declared.css.Css.{Css}
use Rattle.place_core.specs.declared.css.Css.TheVariants as css
use Rattle.place_core.specs.declared.element.Element.{Element}
use Rattle.place_core.specs.declared.kind.Kind.{Kind}
use Rattle.place_core.specs.declared.kind.Kind.TheVariants as kind
use Rattle.place_core.specs.declared.place.Place.{Place}
use Rattle.place_core.specs.declared.place.Place.TheVariants as place
use Rattle.place_core.specs.declared.quotes.Quotes.{Quotes}
use Rattle.place_core.specs.declared.quotes.Quotes.TheVariants as quotes
use Rattle.place_core.specs.declared.step_err.StepErr.{StepErr}
use Rattle.place_core.specs.declared.tag_of.TagOf.{TagOf}
use Rattle.place_core.specs.declared.tag_place.TagPlace.{TagPlace}
use Rattle.place_infer.specs.Inferring.{is_end_code}
use Rattle.url_lexer.specs.Refusals.{AmbigContext, BadHTML, PartialEscape, UrlCutRefusal, UrlRefusal, url_refuses, url_refuses_cut}

abbrev IsOther : Code → Type 0
IsOther c = is_end_code c ≡ false

abbrev OtherCode : Option Code → Type 0
OtherCode None = ⊤
OtherCode (Some c) = IsOther c

abbrev OtherCause : Option PathCause → Type 0
OtherCause None = ⊤
OtherCause (Some e) = IsOther e.code

abbrev OtherRefusal : Option PathRefusal → Type 0
OtherRefusal None = ⊤
OtherRefusal (Some e) = IsOther e.code

-- the codes of the languages
in-url : (r : UrlRefusal) → IsOther (refusal_code r)
in-url AmbigContext = refl
in-url BadHTML = refl
in-url PartialEscape = refl

in-style : (r : RefusalCode) → IsOther (style_code r)
in-style style.AmbigContext = refl
in-style style.BadHTML = refl
in-style style.PartialEscape = refl
in-style style.SplitToken = refl
in-style style.BadString = refl

in-script : (r : script.Refusal) → IsOther (script_code r)
in-script script.PartialCharset = refl
in-script script.PartialEscape = refl
in-script script.SlashAmbig = refl
in-script script.JSTemplate = refl
in-script script.SplitToken = refl
in-script script.BadString = refl
in-script script.HtmlInScript = refl

mapped : {A : Type 0} (f : A → Code) (o : Option A) → ((a : A) → IsOther (f a)) → OtherCode (option_map f o)
mapped f None h = tt
mapped f (Some a) h = h a

in-value : (v : ValueState) (b : ℕ) → OtherCode (refuses_in_value v b)
in-value (OfKind k) b = tt
in-value (OfUrl u) b = mapped refusal_code (url_refuses u b) in-url
in-value (OfStyle s) b = mapped style_code (style_refuses urls s b) in-style
in-value (OfScript s) b = mapped (λ (e : Cause). script_code e.refusal) (script.script_refuses false s b) (λ e. in-script e.refusal)

in-byte : (v : Value ValueState) (b : ℕ) → OtherCode (refuses_byte languages v b)
in-byte (ValueOf v) b = in-value v b
in-byte (Deciding k before) b = tt

in-value-cut : (v : ValueState) → OtherCode (refuses_value_cut v)
in-value-cut (OfKind k) = tt
in-value-cut (OfUrl u) = mapped (λ (e : UrlCutRefusal). refusal_code e.refusal) (url_refuses_cut u) (λ e. in-url e.refusal)
in-value-cut (OfStyle s) = mapped (λ (e : StyleCutRefusal). style_code e.code) (style_refuses_cut urls s) (λ e. in-style e.code)
in-value-cut (OfScript s) = mapped (λ (e : Cause). script_code e.refusal) (script.script_refuses_cut s) (λ e. in-script e.refusal)

in-cut : (v : Value ValueState) → OtherCode (refuses_cut_of languages v)
in-cut (ValueOf v) = in-value-cut v
in-cut (Deciding k before) = tt

-- causes
back-of : (n : ℕ) (o : Option Code) → OtherCode o → OtherCause (cause_back n o)
back-of n None h = tt
back-of n (Some c) h = h

first-of : (o p : Option PathCause) → OtherCause o → OtherCause p → OtherCause (first_cause o p)
first-of None p h k = k
first-of (Some e) p h k = h

if-some : (b : Bool) (c : Code) → IsOther c → OtherCode (if b then Some c else None)
if-some true c h = h
if-some false c h = tt

either-code : (b : Bool) (c d : Code) → IsOther c → IsOther d → OtherCode (Some (if b then c else d))
either-code true c d h k = h
either-code false c d h k = k

equals-code : (name before : Bool) → OtherCode (equals_error name before)
equals-code true before = refl
equals-code false true = refl
equals-code false false = tt

tag-code : (t : TagPlace) (c : Class) → OtherCode (tag_error t c)
tag-code t White = tt
tag-code t Solidus = tt
tag-code t GreaterThan = tt
tag-code t EqualsSign = equals-code t.spots.name t.spots.before
tag-code t QuotationMark = either-code t.spots.name code.SplitToken code.BadHTML refl refl
tag-code t Apostrophe = either-code t.spots.name code.SplitToken code.BadHTML refl refl
tag-code t LessThan = either-code t.spots.name code.SplitToken code.BadHTML refl refl
tag-code t c = if-some (t.spots.name || t.spots.inside) code.SplitToken refl

bare-code : (t : TagOf) (b : Bare) (c : Class) → OtherCode (bare_error t b c)
bare-code t b White = if-some (b.uq && b.unbegun) code.AmbigContext refl
bare-code t b QuotationMark = if-some b.uq code.BadHTML refl
bare-code t b Apostrophe = if-some b.uq code.BadHTML refl
bare-code t b LessThan = refl
bare-code t b EqualsSign = refl
bare-code t b GraveAccent = refl
bare-code t b c = tt

quotes-code : (t : TagOf) (q : Quotes) (c : Class) → OtherCode (quotes_error t q c)
quotes-code t quotes.Dq c = tt
quotes-code t quotes.Sq c = tt
quotes-code t (quotes.Bare b) c = bare-code t b c

comment-code : (dash : Bool) (c : Class) → OtherCode (comment_error dash c)
comment-code true HyphenMinus = refl
comment-code true ExclamationMark = refl
comment-code true GreaterThan = refl
comment-code dash c = tt

block-byte : (h : Pending) (c : Class) → OtherCause (block_byte_error h c)
block-byte LessAtCut Solidus = refl
block-byte LessAtCut ExclamationMark = refl
block-byte LessAtCut c = tt
block-byte PendingBangDash HyphenMinus = refl
block-byte h c = tt

block-cut : (h : Pending) → OtherCause (block_cut_error h)
block-cut (PendingName letters) = refl
block-cut PendingBang = refl
block-cut PendingBangDash = refl
block-cut Nothing = tt
block-cut PendingLess = tt
block-cut LessAtCut = tt
block-cut (PendingOpening letters) = tt

second : (b : Bool) (len : ℕ) (o : Option Code) → OtherCode o → OtherCause (unless_second b len o)
second true len o h = refl
second false len o h = back-of 0 o h

tag-name : (t : TagOf) (c : Class) → OtherCode (tag_name_error t c)
tag-name t QuotationMark = refl
tag-name t Apostrophe = refl
tag-name t LessThan = refl
tag-name t c = tt

attribute-name : (t : TagOf) (typed : Bool) (k : Kind) (len : ℕ) (c : Class) → OtherCause (attribute_name_error t typed k len c)
attribute-name t typed k len White = second (is_second_type typed k) len None tt
attribute-name t typed k len Solidus = second (is_second_type typed k) len None tt
attribute-name t typed k len GreaterThan = second (is_second_type typed k) len None tt
attribute-name t typed k len EqualsSign = second (is_second_type typed k) len None tt
attribute-name t typed k len QuotationMark = refl
attribute-name t typed k len Apostrophe = refl
attribute-name t typed k len LessThan = refl
attribute-name t typed k len c = tt

-- bytes that a language is fed
module _ {S : Type 0} (m : Feeding S) (refused : (s : S) (b : ℕ) → OtherCode (m.refuses s b)) where
  fed : (s : S) (bs : List ℕ) (written : Bool) (back : ℕ) → OtherCause (fed_error m s bs written back)
  fed s [] written back = tt
  fed s (b ∷ bs) written back =
      let rest : ℕ = if written then back - 1 else back in
      first-of (cause_back back (m.refuses s b)) (fed_error m (m.feed s b) bs written rest) (back-of back (m.refuses s b) (refused s b)) (fed (m.feed s b) bs written rest)

  flushed-of : (s : S) (equals : Bool) (f : Form) (bytes : List ℕ) → OtherCause (flushed_error m s equals f bytes)
  flushed-of s equals f bytes = fed s (flushed true equals f bytes) (is_written equals f bytes) (length bytes + 1)

  name-of : (b : Bool) (back : ℕ) → OtherCause (name_error b back)
  name-of true back = refl
  name-of false back = tt

  turned-of : (s : S) (step : ReferenceStep) (f : Form) (bytes : List ℕ) (c : Class) (b : ℕ) → OtherCause (turned_error m s step f bytes c b)
  turned-of s (Grows g) f bytes c b = tt
  turned-of s Closes f bytes c b =
      first-of (name_error (m.refuses_names s && is_unknown_name f bytes) (length bytes + 1)) (fed_error m s (encode_utf8 (meaning f bytes)) false (length bytes + 1))
      (name-of (m.refuses_names s && is_unknown_name f bytes) (length bytes + 1)) (fed s (encode_utf8 (meaning f bytes)) false (length bytes + 1))
  turned-of s Breaks f bytes c b =
      let t = feed_bytes m s (flushed true (is_equals_sign c) f bytes) in
      first-of (flushed_error m s (is_equals_sign c) f bytes) (fed_error m t (plain_bytes c b) false 0) (flushed-of s (is_equals_sign c) f bytes) (fed t (plain_bytes c b) false 0)

  in-language : (ends : Bool) (s : S) (r : Reference) (c : Class) (b : ℕ) → OtherCause (language_error m ends s r c b)
  in-language true s Closed c b = tt
  in-language true s (Open f bytes) c b = flushed-of s false f bytes
  in-language false s Closed c b = fed s (plain_bytes c b) false 0
  in-language false s (Open f bytes) c b = turned-of s (turn c f) f bytes c b

  first-byte : (s : S) (c : Class) (b : ℕ) → OtherCause (first_byte_error m s c b)
  first-byte s White b = tt
  first-byte s QuotationMark b = tt
  first-byte s Apostrophe b = tt
  first-byte s GreaterThan b = tt
  first-byte s c b = fed s (plain_bytes c b) false 0

  loose-byte : (s : S) (c : Class) (b : ℕ) → OtherCode (loose_byte_error m s c b)
  loose-byte s LessThan b = tt
  loose-byte s c b = refused s b

  pending-of : (s : S) (bytes : List ℕ) → OtherCause (pending_error m s bytes)
  pending-of s bytes = fed s bytes true (length bytes)

  released : (s : S) (bytes : List ℕ) (c : Class) (b : ℕ) → OtherCause (released_error m s bytes c b)
  released s bytes c b =
      let t = feed_bytes m s bytes in
      first-of (pending_error m s bytes) (at_hand (loose_byte_error m t c b)) (pending-of s bytes) (back-of 0 (loose_byte_error m t c b) (loose-byte t c b))

  less-of : (s : S) (c : Class) (b : ℕ) → OtherCause (less_error m s c b)
  less-of s Solidus b = tt
  less-of s c b = released s (codes "<") c b

  end-name : (s : S) (grows whole : Bool) (c : Class) (b : ℕ) (letters : List ℕ) → OtherCause (end_name_error m s grows whole c b letters)
  end-name s true whole (Letter l) b letters = tt
  end-name s grows true White b letters = tt
  end-name s grows true Solidus b letters = tt
  end-name s grows true GreaterThan b letters = tt
  end-name s grows whole c b letters = released s (codes "</" ++ letters) c b

  content-byte : (e : Element) (s : S) (h : Pending) (c : Class) (b : ℕ) → OtherCause (content_byte_error m e s h c b)
  content-byte e s Nothing c b = back-of 0 (loose_byte_error m s c b) (loose-byte s c b)
  content-byte e s PendingLess c b = less-of s c b
  content-byte e s LessAtCut c b = released s (codes "<") c b
  content-byte e s (PendingName letters) c b = end-name s (may_be_name_of e (letters ++ b ∷ [])) (is_name_of e letters) c b letters
  content-byte e s PendingBang c b = released s (codes "<!") c b
  content-byte e s PendingBangDash c b = released s (codes "<!-") c b
  content-byte e s (PendingOpening letters) c b = released s (codes "<" ++ letters) c b

  split-of : (less : S → Option PathCause) (s : S) (h : Pending) → ((s : S) → OtherCause (less s)) → OtherCause (split_error less s h)
  split-of less s PendingLess k = k s
  split-of less s h k = block-cut h

  content-cut : (less : S → Option PathCause) (s : S) (h : Pending) → ((s : S) → OtherCause (less s)) → OtherCause (content_end_cut_error m less s h)
  content-cut less s h k = first-of (pending_error m s (pending_bytes h)) (split_error less s h) (pending-of s (pending_bytes h)) (split-of less s h k)

-- scripts
script-back : (n : ℕ) (o : Option Cause) → OtherCause (script_cause_back n o)
script-back n None = tt
script-back n (Some e) = in-script e.refusal

module _ {S : Type 0} (m : ScriptFeeding S) where
  read-of : (s : S) (bs : List ℕ) (n : ℕ) → OtherCause (read_error m s bs n)
  read-of s [] n = tt
  read-of s (b ∷ bs) n =
      first-of (script_cause_back (length bs + n) (m.refuses s b)) (read_error m (m.feed s b) bs n) (script-back (length bs + n) (m.refuses s b)) (read-of (m.feed s b) bs n)

  step-of : (s : S) (x : ScriptStep) → OtherCause (step_error m s x)
  step-of s (Reads bytes h) = read-of s (step_asks bytes h) (asks_back h)
  step-of s (EndsContent letters) = script-back (length letters + 2) (m.refuses_end s)

  script-content : (e : Element) (s : S) (h : Pending) (c : Class) (b : ℕ) → OtherCause (script_content_error m e s h c b)
  script-content e s h c b = step-of s (script_step (m.may_end s) e h c b)

  script-cut : (s : S) (h : Pending) → OtherCause (script_content_cut_error m s h)
  script-cut s h =
      let o = m.refuses_cut (script_read m s (pending_bytes h)) in
      first-of (read_error m s (pending_bytes h) 1) (script_cause_back 0 o) (read-of s (pending_bytes h) 1) (script-back 0 o)

  refusal-at : (places : List ℕ) (o : Option Cause) → OtherRefusal (script_refusal_at places o)
  refusal-at places None = tt
  refusal-at places (Some e) = in-script e.refusal

  first-refusal : (o p : Option PathRefusal) → OtherRefusal o → OtherRefusal p → OtherRefusal (first_path_refusal o p)
  first-refusal None p h k = k
  first-refusal (Some e) p h k = h

  script-fed : (places : List ℕ) (s : S) (xs : List FedByte) → OtherRefusal (script_fed_refusal m places s xs)
  script-fed places s [] = tt
  script-fed places s (x ∷ xs) =
      let more : List ℕ = x.place ∷ places in
      first-refusal (script_refusal_at more (m.refuses s x.byte)) (script_fed_refusal m more (m.feed s x.byte) xs) (refusal-at more (m.refuses s x.byte)) (script-fed more (m.feed s x.byte) xs)

  script-places : (ends : Bool) (k : ℕ) (places : List ℕ) (s : S) (xs : List FedByte) → OtherRefusal (script_places_refusal m ends k places s xs)
  script-places ends k places s xs =
      let all : List ℕ = k ∷ places_with xs places in
      let o = at_value_end (value_end_cause m ends (script_fed m s xs)) in
      first-refusal (script_fed_refusal m places s xs) (script_refusal_at all o) (script-fed places s xs) (refusal-at all o)

  script-ending : (k : ℕ) (places : List ℕ) (s : S) (xs : List FedByte) → OtherRefusal (script_ending_refusal m k places s xs)
  script-ending k places s xs =
      let all : List ℕ = k ∷ places_with xs places in
      let o = m.refuses_cut (script_fed m s xs) in
      first-refusal (script_fed_refusal m places s xs) (script_refusal_at all o) (script-fed places s xs) (refusal-at all o)

-- the content of an element
less-cause : (v : ValueState) → OtherCause (option_map cut_cause (languages.refuses_less v))
less-cause (OfKind k) = tt
less-cause (OfUrl u) = tt
less-cause (OfStyle s) = styled (refuses_less_than_cut urls s)
  where
    styled : (o : Option StyleCutRefusal) → OtherCause (option_map cut_cause (option_map style_cut o))
    styled None = tt
    styled (Some e) = in-style e.code
less-cause (OfScript s) = tt

content-of : (e : Element) (v : ValueState) (h : Pending) (c : Class) (b : ℕ) → OtherCause (language_content_error e v h c b)
content-of e (OfScript s) h c b = script-content element_script e s h c b
content-of e v h c b = content-byte (language_feeding languages) in-value e v h c b

content-cut-of : (v : ValueState) (h : Pending) → OtherCause (language_cut_error v h)
content-cut-of (OfScript s) h = script-cut element_script s h
content-cut-of v h = content-cut (language_feeding languages) in-value (λ s. option_map cut_cause (languages.refuses_less s)) v h less-cause

-- a byte on one path, and the end of a node
byte-of : (s : LexState ValueState) (c : Class) (b : ℕ) → OtherCause (byte_error s c b)
byte-of (Text r) c b = tt
byte-of (TagOpen r) c b = tt
byte-of (EndTagOpen r) c b = tt
byte-of (DeclarationOpen r pending) c b = tt
byte-of (InComment s) c b = back-of 0 (comment_error (is_broken s) c) (comment-code (is_broken s) c)
byte-of BogusComment c b = tt
byte-of InDoctype c b = tt
byte-of (TagName ends name) c b = back-of 0 (tag_name_error (tag_of_name ends name) c) (tag-name (tag_of_name ends name) c)
byte-of (WholeTagName t) c b = back-of 0 (tag_error (tag_spot t only_name None) c) (tag-code (tag_spot t only_name None) c)
byte-of (BeforeAttributeName t) c b = back-of 0 (tag_error (tag_spot t only_before None) c) (tag-code (tag_spot t only_before None) c)
byte-of (AttributeName t name) c b = attribute-name t.tag t.typed (kind_of (element_on t.tag) name) (length name) c
byte-of (WholeAttributeName t k) c b = back-of 0 (tag_error (tag_spot t only_inside (Some k)) c) (tag-code (tag_spot t only_inside (Some k)) c)
byte-of (AfterAttributeName t k) c b = back-of 0 (tag_error (tag_spot t only_after (Some k)) c) (tag-code (tag_spot t only_after (Some k)) c)
byte-of (BeforeAttributeValue t k) c b =
    let v = attribute_value_of languages k in
    let o : Option Code = bare_error t.tag (record { uq = false; unbegun = true }) c in
    first-of (first_byte_error (feeding languages) v c b) (at_hand o) (first-byte (feeding languages) in-byte v c b) (back-of 0 o (bare-code t.tag (record { uq = false; unbegun = true }) c))
byte-of (AttributeValue q t v r) c b =
    let u : TagOf = (ending_tag languages t v r).tag in
    first-of (language_error (feeding languages) (ends_value q c) v r c b) (at_hand (quotes_error u (quotes_at q) c))
    (in-language (feeding languages) in-byte (ends_value q c) v r c b) (back-of 0 (quotes_error u (quotes_at q) c) (quotes-code u (quotes_at q) c))
byte-of (AfterAttributeValue t) c b = back-of 0 (tag_error (tag_spot t only_before None) c) (tag-code (tag_spot t only_before None) c)
byte-of (SelfClosingStartTag t) c b = back-of 0 (tag_error (tag_spot t only_before None) c) (tag-code (tag_spot t only_before None) c)
byte-of (InContent e (Characters r) h) c b = tt
byte-of (InContent e Bytes h) c b = block-byte h c
byte-of (InContent e (InLanguage v) h) c b = content-of e v h c b

begun-cut : (k : Kind) → OtherCode (begun_cut_error k)
begun-cut kind.ScriptType = refl
begun-cut k = tt

cut-of : (s : LexState ValueState) → OtherCause (cut_error s)
cut-of (AttributeName t name) = second (is_second_type t.typed (kind_of (element_on t.tag) name)) (length name) None tt
cut-of (BeforeAttributeValue t k) = back-of 0 (begun_cut_error k) (begun-cut k)
cut-of (AttributeValue q t (ValueOf v) r) = fed (feeding languages) in-byte (ValueOf v) (as_it_stands r) true (length (as_it_stands r))
cut-of (AttributeValue q t (Deciding k before) r) = refl
cut-of (InContent e Bytes h) = block-cut h
cut-of (InContent e (InLanguage v) h) = content-cut-of v h
cut-of s = tt

lexeme-of : (s : LexState ValueState) → OtherCode (lexeme_error s)
lexeme-of (AttributeValue q t v r) = in-cut (with_bytes languages v (as_it_stands r))
lexeme-of (InContent e (InLanguage v) h) = in-value-cut (fed_state languages v (pending_bytes h))
lexeme-of s = tt

byte-in-script : (k : ℕ) (places : List ℕ) (s : LexState ValueState) (c : Class) (b : ℕ) → OtherRefusal (script_byte_refusal k places s c b)
byte-in-script k places (AttributeValue q t (ValueOf (OfScript s)) r) c b = script-places one_script (ends_value q c) k places s (fed_places (ends_value q c) k r c b)
byte-in-script k places (BeforeAttributeValue t kind.Script) c b = script-places one_script false k [] (script_after_cut script_start) (first_places k c b)
byte-in-script k places s c b = tt

cut-in-script : (k : ℕ) (places : List ℕ) (s : LexState ValueState) → OtherRefusal (script_cut_refusal k places s)
cut-in-script k places (AttributeValue q t (ValueOf (OfScript s)) r) = script-ending one_script k places s (cut_places k r)
cut-in-script k places s = tt

-- a text
standing : (k : ℕ) (o : Option PathCause) (rest : Option PathRefusal) → OtherCause o → OtherRefusal rest → OtherRefusal (standing_at k o rest)
standing k None rest h r = r
standing k (Some e) rest h r = h

before-that : (b : Bool) (x y : PathRefusal) → IsOther x.code → IsOther y.code → OtherRefusal (Some (if b then x else y))
before-that true x y h k = h
before-that false x y h k = k

before-of : (k : ℕ) (x : PathRefusal) (o : Option PathCause) → IsOther x.code → OtherCause o → OtherRefusal (Some (before_cause k x o))
before-of k x None h r = h
before-of k x (Some e) h r = before-that (nat_lt x.at (k - e.back)) x (record { code = e.code; at = k - e.back; shown = k - e.shown }) h r

unless-of : (k : ℕ) (x : Option PathRefusal) (o : Option PathCause) (rest : Option PathRefusal) → OtherRefusal x → OtherCause o → OtherRefusal rest → OtherRefusal (unless_in_script k x o rest)
unless-of k None o rest h c r = standing k o rest c r
unless-of k (Some x) o rest h c r = before-of k x o h c

broken : (k since : ℕ) (o : Option Code) → OtherCode o → OtherRefusal (broken_off k since o)
broken k since None h = tt
broken k since (Some e) h = h

deep : (k : ℕ) (o : Option ℕ) → OtherRefusal (nests_too_deep k o)
deep k None = tt
deep k (Some shown) = refl

refusal-of : (k : ℕ) (since : TextRead) (bytes : List ℕ) (s : LexState ValueState) → OtherRefusal (refusal_from k since bytes s)
refusal-of k since [] s =
    let end : Option PathRefusal = first_path_refusal (nests_too_deep k since.deep) (broken_off k since.last (lexeme_error s)) in
    unless-of k (script_cut_refusal k since.fed s) (cut_error s) end (cut-in-script k since.fed s) (cut-of s)
    (first-refusal one_script (nests_too_deep k since.deep) (broken_off k since.last (lexeme_error s)) (deep k since.deep) (broken k since.last (lexeme_error s) (lexeme-of s)))
refusal-of k since (b ∷ bs) s =
    unless-of k (script_byte_refusal k since.fed s (class_of b) b) (byte_error s (class_of b) b)
    (refusal_from (k + 1) (read_behind k since s (class_of b) b) bs (next languages Template s (class_of b) b))
    (byte-in-script k since.fed s (class_of b) b) (byte-of s (class_of b) b)
    (refusal-of (k + 1) (read_behind k since s (class_of b) b) bs (next languages Template s (class_of b) b))

pub text-code : (bytes : List ℕ) (s : LexState ValueState) (e : StepErr Place) → PathRefuses bytes s e → is_end_code e.code ≡ false
text-code bytes s e r = subst OtherRefusal r.stands (refusal-of 0 nothing_read bytes s)

-- a hole
url-hole : (b : Bool) → OtherCode (url_hole_error b)
url-hole true = refl
url-hole false = tt

css-hole : (c : Css) → OtherCode (css_hole_error c)
css-hole (css.Url parts) = url-hole parts.bad
css-hole (css.UrlDq parts) = url-hole parts.bad
css-hole (css.UrlSq parts) = url-hole parts.bad
css-hole css.UrlEnd = refl
css-hole c = tt

body-hole : (b : Body) → OtherCode (body_hole_error b)
body-hole body.NoHole = refl
body-hole (body.Url parts) = url-hole parts.bad
body-hole (body.Css c) = css-hole c
body-hole b = tt

hole-of : (p : Place) → OtherCode (hole_error p)
hole-of place.Doctype = refl
hole-of (place.Tag t) = if-some (t.spots.name || t.spots.inside) code.SplitToken refl
hole-of (place.Value v) = body-hole v.body
hole-of (place.Style c) = css-hole c
hole-of (place.Block lt) = if-some lt code.SplitToken refl
hole-of p = tt

pub hole-code : (s : LexState ValueState) (e : Code) → RefusesHole s e → is_end_code e ≡ false
hole-code s e r = subst OtherCode r.refused (hole-of r.own)

pub url-code : (o : Option UrlRefusal) (e : Code) → option_map refusal_code o ≡ Some e → is_end_code e ≡ false
url-code o e h = subst OtherCode h (mapped refusal_code o in-url)
