-- What is kept of the bytes that have been read fits the state that they have led to: the places of the bytes of a script stand before the byte at hand,
-- and so does the `&` of an open reference; where a value is at a place no byte of it has been read.
use Rattle.std.proofs.Common.{◌≡◌, ◌<◌, ℕ, ◌+◌, Bool, true, false, List, [], ◌∷◌, ◌++◌, codes, length, Some, None, refl, sym, ◌∙◌, arith}
use Rattle.js_lexer.specs.Holes.{script_after_cut}
use Rattle.js_lexer.specs.States.{ScriptState, script_start}
use Rattle.place_core.proofs.Semilattices.{none_some}
use Rattle.place_core.specs.page.Classes.{Class, White, Ampersand, ExclamationMark, QuotationMark, Apostrophe, HyphenMinus, Solidus, LessThan, EqualsSign, GreaterThan, Letter}
use Rattle.place_core.specs.page.Comments.{Declaration, OpensComment, OpensDoctype, Undecided, OpensNothing, closes_comment, comment_ended, declared_by, next_in_bogus, next_in_comment, next_in_doctype}
use Rattle.place_core.specs.page.Contents.{content_after, is_name_of, may_be_name_of, next_bang, next_end_name, next_in_content, next_less, next_loose, ScriptStep, Reads, EndsContent, script_step, behind_end_tag, next_by_step}
use Rattle.place_core.specs.page.Html.{after_tag, ends_value, next, next_after_name, next_after_value, next_before_name, next_before_value, next_declaration, next_end_tag_open, next_name, next_tag_name, next_tag_open, next_text, next_value}
use Rattle.place_core.specs.page.References.{Form, Reference, Closed, Open, ReferenceStep, Grows, Closes, Breaks, begin_reference, next_reference, reference_turned, settled, turn, undone_byte}
use Rattle.place_core.specs.page.States.{Template, LexState, Text, TagOpen, EndTagOpen, DeclarationOpen, CommentState, InComment, BogusComment, InDoctype, TagName, WholeTagName, BeforeAttributeName, AttributeName, WholeAttributeName, AfterAttributeName, BeforeAttributeValue, AttributeValue, AfterAttributeValue, SelfClosingStartTag, Content, Characters, Bytes, InLanguage, Pending, Nothing, PendingLess, LessAtCut, PendingName, PendingBang, PendingBangDash, InContent, PendingOpening}
use Rattle.place_core.specs.page.Tags.{Tag, Value, ValueOf, Deciding, ValueState, OfKind, OfUrl, OfStyle, OfScript, Quoting, DoubleQuoted, SingleQuoted, Unquoted, element_on, languages, tag_of_name, tag_with_value, with_bytes, without_value}
use Rattle.place_core.specs.page.Words.{kind_of}
use Rattle.place_core.specs.place.Errors.{TextRead, fed_behind, fed_places, first_places, nothing_read, read_behind}
use Rattle.place_core.specs.place.StatePlaces.{placed, value_body}
use Rattle.place_core.specs.declared.element.Element.{Element}
use Rattle.place_core.specs.declared.element.Element.TheVariants as element
use Rattle.place_core.specs.declared.kind.Kind.{Kind}
use Rattle.place_core.specs.declared.kind.Kind.TheVariants as kind
use Rattle.place_core.specs.declared.place.Place.{Place}
use Rattle.place_core.specs.declared.tag_of.TagOf.{TagOf}
use Rattle.place_core.specs.declared.tag_of.TagOf.TheVariants as tag
use Rattle.html_step.proofs.PathScans.{FitsFed, FitsValue, value_reference}
use Rattle.html_step.proofs.ScriptPaths.{some-fed, with-no-body}
use Rattle.html_step.proofs.ScriptPlaces.{AreBelow, ReferenceBelow, bytes-below, first-places-below, more-below, with-below}
use Rattle.js_lexer.specs.Elements.{script_may_end}

pub record ReadFits (k : ℕ) (since : TextRead) (s : LexState ValueState) : Type 0 where
  pub fits : FitsFed since.fed s
  pub below : AreBelow k since.fed
  pub reference : ReferenceBelow k (value_reference s)

-- no value
abbrev IsNoValue : LexState ValueState → Type 0
IsNoValue (AttributeValue q t v r) = ⊥
IsNoValue s = Unit {0}

no-value-fits : (s : LexState ValueState) (places : List ℕ) → IsNoValue s → FitsFed places s
no-value-fits (AttributeValue q t v r) places h = absurd h
no-value-fits _ places h = tt

no-value-reference : (s : LexState ValueState) (k : ℕ) → IsNoValue s → ReferenceBelow k (value_reference s)
no-value-reference (AttributeValue q t v r) k h = absurd h
no-value-reference _ k h = tt

-- where a byte leads that stands neither in a value nor before one
no-text : (c : Class) (b : ℕ) (r : Reference) → IsNoValue (next_text c b r)
no-text LessThan b r = tt
no-text _ b r = tt

no-after-tag : (t : TagOf) → IsNoValue (after_tag languages t)
no-after-tag tag.End = tt
no-after-tag (tag.Start element.Other) = tt
no-after-tag (tag.Start element.Title) = tt
no-after-tag (tag.Start element.Textarea) = tt
no-after-tag (tag.Start element.Style) = tt
no-after-tag (tag.Start element.Script) = tt
no-after-tag (tag.Start element.DataBlock) = tt

no-tag-open : (c : Class) (b : ℕ) (r : Reference) → IsNoValue (next_tag_open Template c b r)
no-tag-open LessThan b r = tt
no-tag-open _ b r = tt

no-end-tag-open : (c : Class) (b : ℕ) → IsNoValue (next_end_tag_open Template c b)
no-end-tag-open LessThan b = tt
no-end-tag-open _ b = tt

no-declaration : (d : Declaration) (c : Class) (b : ℕ) (r : Reference) (pending : List ℕ) → IsNoValue (next_declaration d Template c b r pending)
no-declaration OpensComment c b r pending = tt
no-declaration OpensDoctype c b r pending = tt
no-declaration Undecided c b r pending = tt
no-declaration OpensNothing c b r pending = no-text c b Closed

no-comment-ended : (x : Bool) → IsNoValue (comment_ended x)
no-comment-ended true = tt
no-comment-ended false = tt

no-comment : (c : Class) (s : CommentState) → IsNoValue (next_in_comment c s)
no-comment GreaterThan s = no-comment-ended (closes_comment s)
no-comment _ s = tt

no-bogus : (c : Class) → IsNoValue (next_in_bogus c)
no-bogus GreaterThan = tt
no-bogus _ = tt

no-doctype : (c : Class) → IsNoValue (next_in_doctype c)
no-doctype GreaterThan = tt
no-doctype _ = tt

no-tag-name : (c : Class) (b : ℕ) (ends : Bool) (name : List ℕ) → IsNoValue (next_tag_name languages c b ends name)
no-tag-name White b ends name = tt
no-tag-name Solidus b ends name = tt
no-tag-name GreaterThan b ends name = no-after-tag (tag_of_name ends name)
no-tag-name _ b ends name = tt

no-before-name : (c : Class) (b : ℕ) (t : Tag) → IsNoValue (next_before_name languages c b t)
no-before-name White b t = tt
no-before-name Solidus b t = tt
no-before-name GreaterThan b t = no-after-tag t.tag
no-before-name _ b t = tt

no-name : (c : Class) (b : ℕ) (t : Tag) (k : Kind) (name : List ℕ) → IsNoValue (next_name languages c b t k name)
no-name White b t k name = tt
no-name Solidus b t k name = tt
no-name GreaterThan b t k name = no-after-tag (without_value t k).tag
no-name EqualsSign b t k name = tt
no-name _ b t k name = tt

no-after-name : (c : Class) (b : ℕ) (t : Tag) (k : Kind) → IsNoValue (next_after_name languages c b t k)
no-after-name White b t k = tt
no-after-name EqualsSign b t k = tt
no-after-name c b t k = no-before-name c b (without_value t k)

no-loose : (c : Class) (b : ℕ) (e : Element) (y : Content ValueState) → IsNoValue (next_loose languages c b e y)
no-loose LessThan b e y = tt
no-loose _ b e y = tt

no-less : (c : Class) (b : ℕ) (e : Element) (y : Content ValueState) → IsNoValue (next_less languages c b e y)
no-less Solidus b e y = tt
no-less ExclamationMark b e Bytes = tt
no-less ExclamationMark b e (Characters r) = tt
no-less ExclamationMark b e (InLanguage v) = tt
no-less c b e y = no-loose c b e (content_after languages y (codes "<"))

no-end-name : (grows whole : Bool) (c : Class) (b : ℕ) (e : Element) (y : Content ValueState) (letters : List ℕ)
    → IsNoValue (next_end_name languages grows whole c b e y letters)
no-end-name true whole (Letter l) b e y letters = tt
no-end-name true true White b e y letters = tt
no-end-name true true Solidus b e y letters = tt
no-end-name true true GreaterThan b e y letters = tt
no-end-name true true c b e y letters = no-loose c b e (content_after languages y (codes "</" ++ letters))
no-end-name true false c b e y letters = no-loose c b e (content_after languages y (codes "</" ++ letters))
no-end-name false true White b e y letters = tt
no-end-name false true Solidus b e y letters = tt
no-end-name false true GreaterThan b e y letters = tt
no-end-name false true c b e y letters = no-loose c b e (content_after languages y (codes "</" ++ letters))
no-end-name false false c b e y letters = no-loose c b e (content_after languages y (codes "</" ++ letters))

no-bang : (c : Class) (b : ℕ) (e : Element) (y : Content ValueState) → IsNoValue (next_bang languages c b e y)
no-bang HyphenMinus b e y = tt
no-bang c b e y = no-loose c b e (content_after languages y (codes "<!"))

no-content : (h : Pending) (c : Class) (b : ℕ) (e : Element) (y : Content ValueState) → IsNoValue (next_in_content languages h c b e y)
no-content Nothing c b e y = no-loose c b e y
no-content PendingLess c b e y = no-less c b e y
no-content LessAtCut c b e y = no-loose c b e (content_after languages y (codes "<"))
no-content (PendingName letters) c b e y = no-end-name (may_be_name_of e (letters ++ b ∷ [])) (is_name_of e letters) c b e y letters
no-content PendingBang c b e y = no-bang c b e y
no-content (PendingOpening letters) c b e y = no-loose c b e (content_after languages y (codes "<" ++ letters))
no-content PendingBangDash c b e y = no-loose c b e (content_after languages y (codes "<!-"))

no-end-tag : (c : Class) → IsNoValue (behind_end_tag c)
no-end-tag White = tt
no-end-tag Solidus = tt
no-end-tag c = tt

no-step : (step : ScriptStep) (c : Class) (e : Element) (s : ScriptState) → IsNoValue (next_by_step languages step c e (OfScript s))
no-step (Reads bytes h) c e s = tt
no-step (EndsContent letters) c e s = no-end-tag c

abbrev IsOutside : LexState ValueState → Type 0
IsOutside (AttributeValue q t v r) = ⊥
IsOutside (BeforeAttributeValue t k) = ⊥
IsOutside s = Unit {0}

no-value-next : (s : LexState ValueState) (c : Class) (b : ℕ) → IsOutside s → IsNoValue (next languages Template s c b)
no-value-next (Text r) c b h = no-text c b r
no-value-next (TagOpen r) c b h = no-tag-open c b r
no-value-next (EndTagOpen r) c b h = no-end-tag-open c b
no-value-next (DeclarationOpen r pending) c b h = no-declaration (declared_by (pending ++ b ∷ [])) c b r pending
no-value-next (InComment s) c b h = no-comment c s
no-value-next BogusComment c b h = no-bogus c
no-value-next InDoctype c b h = no-doctype c
no-value-next (TagName ends name) c b h = no-tag-name c b ends name
no-value-next (WholeTagName t) c b h = no-before-name c b t
no-value-next (BeforeAttributeName t) c b h = no-before-name c b t
no-value-next (AttributeName t name) c b h = no-name c b t (kind_of (element_on t.tag) name) name
no-value-next (WholeAttributeName t k) c b h = no-after-name c b t k
no-value-next (AfterAttributeName t k) c b h = no-after-name c b t k
no-value-next (BeforeAttributeValue t k) c b h = absurd h
no-value-next (AttributeValue q t v r) c b h = absurd h
no-value-next (AfterAttributeValue t) c b h = no-before-name c b t
no-value-next (SelfClosingStartTag t) c b h = no-before-name c b t
no-value-next (InContent e (Characters r) x) c b h = no-content x c b e (Characters r)
no-value-next (InContent e Bytes x) c b h = no-content x c b e Bytes
no-value-next (InContent e (InLanguage (OfKind k)) x) c b h = no-content x c b e (InLanguage (OfKind k))
no-value-next (InContent e (InLanguage (OfUrl u)) x) c b h = no-content x c b e (InLanguage (OfUrl u))
no-value-next (InContent e (InLanguage (OfStyle s)) x) c b h = no-content x c b e (InLanguage (OfStyle s))
no-value-next (InContent e (InLanguage (OfScript s)) x) c b h = no-step (script_step (script_may_end s) e x c b) c e s

-- a value that goes on
snoc-length : (xs : List ℕ) (b : ℕ) → length (xs ++ b ∷ []) ≡ length xs + 1
snoc-length [] b = refl
snoc-length (x ∷ xs) b = (let e = snoc-length xs b in omega (arith, e))

begins-below : (c : Class) (k : ℕ) → ReferenceBelow (k + 1) (begin_reference c)
begins-below Ampersand k = omega arith
begins-below _ k = tt

turned-reference : (z : ReferenceStep) (f : Form) (bytes : List ℕ) (c : Class) (b k : ℕ) → length bytes < k
    → ReferenceBelow (k + 1) (reference_turned z bytes c b)
turned-reference (Grows g) f bytes c b k h = (let e = snoc-length bytes b in omega (arith, e, h))
turned-reference Closes f bytes c b k h = tt
turned-reference Breaks f bytes c b k h = begins-below c k

reference-below : (r : Reference) (c : Class) (b k : ℕ) → ReferenceBelow k r → ReferenceBelow (k + 1) (next_reference r c b)
reference-below Closed c b k h = begins-below c k
reference-below (Open f bytes) c b k h = turned-reference (turn c f) f bytes c b k h

value-fits : (z : Value ValueState) (r : Reference) (places : List ℕ) → (r ≡ Closed → value_body z ≡ None) → FitsValue places z r
value-fits (ValueOf (OfScript v)) Closed places h = λ x e. absurd (none_some x (sym (h refl) ∙ e))
value-fits (ValueOf (OfScript v)) (Open f bytes) places h = tt
value-fits (ValueOf (OfKind k)) r places h = tt
value-fits (ValueOf (OfUrl u)) r places h = tt
value-fits (ValueOf (OfStyle s)) r places h = tt
value-fits (Deciding k before) r places h = tt

value-nil : (z : Value ValueState) (r : Reference) → FitsValue [] z r
value-nil (ValueOf (OfScript v)) Closed = λ x e. refl
value-nil (ValueOf (OfScript v)) (Open f bytes) = tt
value-nil (ValueOf (OfKind k)) r = tt
value-nil (ValueOf (OfUrl u)) r = tt
value-nil (ValueOf (OfStyle s)) r = tt
value-nil (Deciding k before) r = tt

pub nil-fits : (s : LexState ValueState) → FitsFed [] s
nil-fits (AttributeValue q t v r) = value-nil v r
nil-fits _ = tt

script-fits : (v : ScriptState) (r : Reference) (c : Class) (b : ℕ) (places : List ℕ)
    → FitsValue places (with_bytes languages (ValueOf (OfScript v)) (undone_byte true r c b)) (next_reference r c b)
script-fits v r c b places =
    value-fits (with_bytes languages (ValueOf (OfScript v)) (undone_byte true r c b)) (next_reference r c b) places
    (λ h. with-no-body (undone_byte true r c b) v (some-fed r c b h))

no-after-value : (q : Quoting) (c : Class) (b : ℕ) (t : Tag) → IsNoValue (next_after_value languages q c b t)
no-after-value Unquoted c b t = no-before-name c b t
no-after-value DoubleQuoted c b t = tt
no-after-value SingleQuoted c b t = tt

fits-value : (x : Bool) (q : Quoting) (t : Tag) (v : ScriptState) (r : Reference) (c : Class) (b : ℕ) (places : List ℕ)
    → FitsFed places (next_value languages x q c b t (ValueOf (OfScript v)) r)
fits-value true q t v r c b places =
    (let s = next_after_value languages q c b (tag_with_value t (with_bytes languages (ValueOf (OfScript v)) (settled true r))) in
    no-value-fits s places (no-after-value q c b (tag_with_value t (with_bytes languages (ValueOf (OfScript v)) (settled true r)))))
fits-value false q t v r c b places = script-fits v r c b places

value-reference-below : (x : Bool) (q : Quoting) (t : Tag) (v : Value ValueState) (r : Reference) (c : Class) (b k : ℕ) → ReferenceBelow k r
    → ReferenceBelow (k + 1) (value_reference (next_value languages x q c b t v r))
value-reference-below true q t v r c b k h =
    (let u = tag_with_value t (with_bytes languages v (settled true r)) in
    no-value-reference (next_after_value languages q c b u) (k + 1) (no-after-value q c b u))
value-reference-below false q t v r c b k h = reference-below r c b k h

begun-fits : (t : Tag) (c : Class) (b k : ℕ) (places : List ℕ)
    → FitsFed (fed_behind k places (BeforeAttributeValue t kind.Script) c b) (next_before_value languages c b t kind.Script)
begun-fits t White b k places = tt
begun-fits t QuotationMark b k places = λ x e. refl
begun-fits t Apostrophe b k places = λ x e. refl
begun-fits t GreaterThan b k places =
    no-value-fits (after_tag languages (without_value t kind.Script).tag) (fed_behind k places (BeforeAttributeValue t kind.Script) GreaterThan b)
    (no-after-tag (without_value t kind.Script).tag)
begun-fits t c b k places = script-fits (script_after_cut script_start) Closed c b (fed_behind k places (BeforeAttributeValue t kind.Script) c b)

begun-reference-below : (t : Tag) (d : Kind) (c : Class) (b k : ℕ) → ReferenceBelow (k + 1) (value_reference (next_before_value languages c b t d))
begun-reference-below t d White b k = tt
begun-reference-below t d QuotationMark b k = tt
begun-reference-below t d Apostrophe b k = tt
begun-reference-below t d GreaterThan b k = no-value-reference (after_tag languages (without_value t d).tag) (k + 1) (no-after-tag (without_value t d).tag)
begun-reference-below t d c b k = reference-below Closed c b k tt

-- behind a byte
pub fits-next : (s : LexState ValueState) (c : Class) (b k : ℕ) (places : List ℕ)
    → FitsFed (fed_behind k places s c b) (next languages Template s c b)
fits-next (AttributeValue q t (ValueOf (OfScript v)) r) c b k places =
    fits-value (ends_value q c) q t v r c b (fed_behind k places (AttributeValue q t (ValueOf (OfScript v)) r) c b)
fits-next (AttributeValue q t (ValueOf (OfKind x)) r) c b k places = nil-fits (next languages Template (AttributeValue q t (ValueOf (OfKind x)) r) c b)
fits-next (AttributeValue q t (ValueOf (OfUrl u)) r) c b k places = nil-fits (next languages Template (AttributeValue q t (ValueOf (OfUrl u)) r) c b)
fits-next (AttributeValue q t (ValueOf (OfStyle v)) r) c b k places = nil-fits (next languages Template (AttributeValue q t (ValueOf (OfStyle v)) r) c b)
fits-next (AttributeValue q t (Deciding x before) r) c b k places = nil-fits (next languages Template (AttributeValue q t (Deciding x before) r) c b)
fits-next (BeforeAttributeValue t kind.Script) c b k places = begun-fits t c b k places
fits-next (BeforeAttributeValue t kind.Plain) c b k places = nil-fits (next_before_value languages c b t kind.Plain)
fits-next (BeforeAttributeValue t kind.NoHole) c b k places = nil-fits (next_before_value languages c b t kind.NoHole)
fits-next (BeforeAttributeValue t kind.Url) c b k places = nil-fits (next_before_value languages c b t kind.Url)
fits-next (BeforeAttributeValue t kind.Style) c b k places = nil-fits (next_before_value languages c b t kind.Style)
fits-next (BeforeAttributeValue t kind.ScriptType) c b k places = nil-fits (next_before_value languages c b t kind.ScriptType)
fits-next s c b k places = nil-fits (next languages Template s c b)

below-next : (s : LexState ValueState) (c : Class) (b k : ℕ) (places : List ℕ) → AreBelow k places → ReferenceBelow k (value_reference s)
    → AreBelow (k + 1) (fed_behind k places s c b)
below-next (AttributeValue q t (ValueOf (OfScript v)) r) c b k places h i =
    with-below (k + 1) (fed_places (ends_value q c) k r c b) places (more-below k places h) (bytes-below (ends_value q c) r c b k i)
below-next (AttributeValue q t (ValueOf (OfKind x)) r) c b k places h i = tt
below-next (AttributeValue q t (ValueOf (OfUrl u)) r) c b k places h i = tt
below-next (AttributeValue q t (ValueOf (OfStyle v)) r) c b k places h i = tt
below-next (AttributeValue q t (Deciding x before) r) c b k places h i = tt
below-next (BeforeAttributeValue t kind.Script) c b k places h i = with-below (k + 1) (first_places k c b) [] tt (first-places-below c b k)
below-next (BeforeAttributeValue t kind.Plain) c b k places h i = tt
below-next (BeforeAttributeValue t kind.NoHole) c b k places h i = tt
below-next (BeforeAttributeValue t kind.Url) c b k places h i = tt
below-next (BeforeAttributeValue t kind.Style) c b k places h i = tt
below-next (BeforeAttributeValue t kind.ScriptType) c b k places h i = tt
below-next s c b k places h i = tt

reference-next : (s : LexState ValueState) (c : Class) (b k : ℕ) → ReferenceBelow k (value_reference s)
    → ReferenceBelow (k + 1) (value_reference (next languages Template s c b))
reference-next (AttributeValue q t v r) c b k h = value-reference-below (ends_value q c) q t v r c b k h
reference-next (BeforeAttributeValue t d) c b k h = begun-reference-below t d c b k
reference-next s c b k h = no-value-reference (next languages Template s c b) (k + 1) (no-value-next s c b tt)

pub read-fits : (k : ℕ) (since : TextRead) (s : LexState ValueState) (c : Class) (b : ℕ) → ReadFits k since s
    → ReadFits (k + 1) (read_behind k since s c b) (next languages Template s c b)
read-fits k since s c b h = record {
  fits = fits-next s c b k since.fed;
  below = below-next s c b k since.fed h.below h.reference;
  reference = reference-next s c b k h.reference;
}

-- where a text begins
placed-below : (s : LexState ValueState) (p : Place) (k : ℕ) → placed s ≡ Some p → ReferenceBelow k (value_reference s)
placed-below (AttributeValue q t v Closed) p k e = tt
placed-below (AttributeValue q t v (Open f bytes)) p k e = absurd (none_some p e)
placed-below _ p k e = tt

pub begins-fits : (s : LexState ValueState) (p : Place) (k : ℕ) → placed s ≡ Some p → ReadFits k nothing_read s
begins-fits s p k e = record { fits = nil-fits s; below = tt; reference = placed-below s p k e }
