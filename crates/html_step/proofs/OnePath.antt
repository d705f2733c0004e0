-- Where a text is stepped from the place of one path, the steps are the path's own.
use Rattle.std.proofs.Common.{◌≡◌, ℕ, Bool, true, false, List, [], ◌∷◌, ◌++◌, length, Option, Some, None, refl, sym, ap, ◌∙◌}
use Rattle.std.specs.Prelude.{⊤, ◌||◌, ◌&&◌, ◌+◌, ◌-◌, encode_utf8, if◌then◌else◌}
use Rattle.std.specs.Option.{option_map}
use Rattle.css_step.specs.StyleScanLaws.{style_scanned}
use Rattle.place_core.specs.page.Classes.{Class, White, QuotationMark, Ampersand, Apostrophe, HyphenMinus, Solidus, LessThan, EqualsSign, GreaterThan, GraveAccent, Letter, ExclamationMark, class_of, is_equals_sign}
use Rattle.place_core.specs.page.Comments.{OpensComment, OpensDoctype, Undecided, OpensNothing, Declaration, declared_by}
use Rattle.place_core.specs.page.Contents.{may_be_name_of, is_name_of, next_loose, next_less, next_end_name, next_bang}
use Rattle.place_core.specs.place.Errors.{byte_error, at_hand, tag_error, bare_error, quotes_error, attribute_name_error, PathCause, fed_error, turned_error, language_error, first_byte_error, is_written, first_cause, place_before_bytes, value_before, flushed_error, name_error, is_unknown_name}
use Rattle.place_core.specs.page.Html.{next, after_tag, next_declaration, next_before_name, next_name, next_after_name, next_before_value, ends_value}
use Rattle.place_core.specs.page.Paths.{at_cut}
use Rattle.place_core.specs.page.References.{Reference, settled, undone_byte, as_it_stands, Closed, Open, Form, ReferenceStep, Grows, Closes, Breaks, turn, meaning, flushed, plain_bytes, next_reference}
use Rattle.place_core.specs.place.StatePlaces.{tag_spot, body_at, only_name, only_before, only_inside, only_after, value_spot, value_body, value_body_before, quotes_at, unbegun, placed}
use Rattle.place_core.specs.page.States.{Template, LexState, Text, TagOpen, EndTagOpen, DeclarationOpen, CommentState, Started, StartedDash, Inside, Dash, DashDash, Bang, Broken, InComment, BogusComment, InDoctype, TagName, WholeTagName, BeforeAttributeName, AttributeName, WholeAttributeName, AfterAttributeName, BeforeAttributeValue, AttributeValue, AfterAttributeValue, SelfClosingStartTag, Characters, Bytes, InLanguage, Pending, Nothing, PendingLess, PendingName, PendingBang, PendingBangDash, PendingOpening, InContent, LessAtCut}
use Rattle.place_core.specs.page.Tags.{Tag, Value, ValueOf, Deciding, ValueState, OfKind, OfUrl, OfStyle, OfScript, languages, feeding, feed_bytes, refusal_code, refuses_names_in, refuses_cut_of, attribute_value_of, tag_of_name, element_on, is_start, tag_by_type, with_bytes, tag_with_value, without_value, Quoting, DoubleQuoted, SingleQuoted, Unquoted, is_second_type, typed_by, cut_value}
use Rattle.place_core.specs.page.Words.{kind_of, is_script_type}
use Rattle.place_core.specs.place.UrlParts.{parts_of}
use Rattle.place_core.specs.declared.body.Body.{Body}
use Rattle.place_core.specs.declared.body.Body.TheVariants as body
use Rattle.place_core.specs.declared.element.Element.{Element}
use Rattle.place_core.specs.declared.element.Element.TheVariants as element
use Rattle.place_core.specs.declared.kind.Kind.{Kind}
use Rattle.place_core.specs.declared.kind.Kind.TheVariants as kind
use Rattle.place_core.specs.declared.parts.Parts.{Parts}
use Rattle.place_core.specs.declared.place.Place.TheVariants as place
use Rattle.place_core.specs.declared.quotes.Quotes.{Quotes}
use Rattle.place_core.specs.declared.tag_of.TagOf.{TagOf}
use Rattle.place_core.specs.declared.tag_of.TagOf.TheVariants as tag
use Rattle.place_core.specs.declared.value_place.ValuePlace.{ValuePlace}
use Rattle.html_scan.specs.Scans.{Scan, At, AfterLess, AfterLessSolidus, InDeclaration, InTagName, InAttributeName, InContentEnd, comment_scan, content_scan, value_scan, declaration_next, content_next, pending_less_next, end_name_next, attribute_name_next, tag_next, scan_next, scan_error, scan_place, scan_cut_error, BeforeType, InType, bang_next, before_type_next, ended_type, in_tag, scan_shown, type_tag, rest_place, parts_feeding, triple_behind, url_scan, value_fed, value_next, value_cause, body_cause, with_quotes, open_cut_error, if_unfinished, parts_before, scan_lexeme_error, scan_reference, scan_script_cut_refusal}
use Rattle.html_step.proofs.FedAlike.{fed-alike, first-byte-alike, first-caused, language-alike}
use Rattle.html_step.proofs.StylePaths.{quoted-at, urls-alike}
use Rattle.url_lexer.specs.Classes.{url_class_of}
use Rattle.url_lexer.specs.Parts.{UrlStart}
use Rattle.url_lexer.specs.Refusals.{UrlCutRefusal, refuses_cut_in}
use Rattle.url_lexer.specs.States.{Url, url_start, feed_url}
use Rattle.url_lexer.specs.Triples.{Triple, NoTriple, AfterPercent, AfterDigit, next_triple}
use Rattle.url_step.proofs.OnePath.{one-next}
pub use Rattle.html_step.proofs.PathScans.{WhereScanned, content_scanned, none-at-hand, none-unless, same-tag, scanned, some, url_scanned}
use Rattle.html_step.proofs.PathScans.{Agrees, Ends, ScriptFacts, ScriptsAgree, block_scanned, not-second, same-typed, same-with, tag-ends, unless-first, url_value, value_scanned}
use Rattle.html_step.proofs.ElementSteps.{language-ends, language-steps}
use Rattle.html_step.proofs.ScriptSteps.{begin-script-steps, value-script-ends, value-script-steps}
use Rattle.html_step.proofs.StyleSteps.{begin-style-steps, style-ends, style-steps, where-styled}

-- What refuses nothing: the language of a value that is neither a URL nor a style nor a script.
abbrev pub IsNoUrl : Value ValueState → Type 0
IsNoUrl (ValueOf (OfKind k)) = ⊤
IsNoUrl (ValueOf (OfUrl u)) = ⊥
IsNoUrl (ValueOf (OfStyle s)) = ⊥
IsNoUrl (ValueOf (OfScript s)) = ⊥
IsNoUrl (Deciding k before) = ⊤

pub fed-none : (v : Value ValueState) (bs : List ℕ) (written : Bool) (n : ℕ) → IsNoUrl v → fed_error (feeding languages) v bs written n ≡ None
fed-none v [] written n y = refl
fed-none (ValueOf (OfKind k)) (b ∷ bs) written n y = fed-none (ValueOf (OfKind k)) bs written (if written then n - 1 else n) tt
fed-none (ValueOf (OfUrl u)) (b ∷ bs) written n y = absurd y
fed-none (ValueOf (OfStyle s)) (b ∷ bs) written n y = absurd y
fed-none (ValueOf (OfScript s)) (b ∷ bs) written n y = absurd y
fed-none (Deciding k before) (b ∷ bs) written n y = fed-none (Deciding k (before ++ b ∷ [])) bs written (if written then n - 1 else n) tt

stays-no-url : (v : Value ValueState) (bs : List ℕ) → IsNoUrl v → IsNoUrl (feed_bytes (feeding languages) v bs)
stays-no-url v [] y = y
stays-no-url (ValueOf (OfKind k)) (b ∷ bs) y = stays-no-url (ValueOf (OfKind k)) bs tt
stays-no-url (ValueOf (OfUrl u)) (b ∷ bs) y = absurd y
stays-no-url (ValueOf (OfStyle s)) (b ∷ bs) y = absurd y
stays-no-url (ValueOf (OfScript s)) (b ∷ bs) y = absurd y
stays-no-url (Deciding k before) (b ∷ bs) y = stays-no-url (Deciding k (before ++ b ∷ [])) bs tt

names-none : (v : Value ValueState) (x : Bool) (n : ℕ) → IsNoUrl v → name_error (refuses_names_in languages v && x) n ≡ None
names-none (ValueOf (OfKind k)) x n y = refl
names-none (ValueOf (OfUrl u)) x n y = absurd y
names-none (ValueOf (OfStyle s)) x n y = absurd y
names-none (ValueOf (OfScript s)) x n y = absurd y
names-none (Deciding k before) x n y = refl

pub neither : (o p : Option PathCause) → o ≡ None → p ≡ None → first_cause o p ≡ None
neither o p e f = rw e f

turned-none : (v : Value ValueState) (step : ReferenceStep) (f : Form) (bytes : List ℕ) (c : Class) (b : ℕ) → IsNoUrl v
    → turned_error (feeding languages) v step f bytes c b ≡ None
turned-none v (Grows g) f bytes c b y = refl
turned-none v Closes f bytes c b y =
    neither (name_error (refuses_names_in languages v && is_unknown_name f bytes) (length bytes + 1)) _
    (names-none v (is_unknown_name f bytes) (length bytes + 1) y)
    (fed-none v (encode_utf8 (meaning f bytes)) false (length bytes + 1) y)
turned-none v Breaks f bytes c b y =
    neither (flushed_error (feeding languages) v (is_equals_sign c) f bytes) _
    (fed-none v (flushed true (is_equals_sign c) f bytes) (is_written (is_equals_sign c) f bytes) (length bytes + 1) y)
    (fed-none (feed_bytes (feeding languages) v (flushed true (is_equals_sign c) f bytes)) (plain_bytes c b) false 0
    (stays-no-url v (flushed true (is_equals_sign c) f bytes) y))

pub language-none : (ends : Bool) (v : Value ValueState) (r : Reference) (c : Class) (b : ℕ) → IsNoUrl v
    → language_error (feeding languages) ends v r c b ≡ None
language-none true v Closed c b y = refl
language-none true v (Open f bytes) c b y = fed-none v (flushed true false f bytes) (is_written false f bytes) (length bytes + 1) y
language-none false v Closed c b y = fed-none v (plain_bytes c b) false 0 y
language-none false v (Open f bytes) c b y = turned-none v (turn c f) f bytes c b y

pub first-byte-none : (v : Value ValueState) (c : Class) (b : ℕ) → IsNoUrl v → first_byte_error (feeding languages) v c b ≡ None
first-byte-none v White b y = refl
first-byte-none v QuotationMark b y = refl
first-byte-none v Apostrophe b y = refl
first-byte-none v GreaterThan b y = refl
first-byte-none v c b y = fed-none v (plain_bytes c b) false 0 y

-- the scan state of a URL steps as its value does, whichever form it has
pub url-scan-next : (v : ValuePlace) (t : Triple) (r : Reference) (c : Class) (b : ℕ) → scan_next (url_scan v t r) c b ≡ value_next v t r c b
url-scan-next v NoTriple Closed c b = refl
url-scan-next v NoTriple (Open f bytes) c b = refl
url-scan-next v AfterPercent r c b = refl
url-scan-next v AfterDigit r c b = refl

pub url-scan-error : (v : ValuePlace) (t : Triple) (r : Reference) (c : Class) (b : ℕ) → scan_error (url_scan v t r) c b ≡ value_cause v r c b
url-scan-error v NoTriple Closed c b = refl
url-scan-error v NoTriple (Open f bytes) c b = refl
url-scan-error v AfterPercent r c b = refl
url-scan-error v AfterDigit r c b = refl

-- no script is in the scan state of a URL
url-scan-places : (q : Quoting) (t : Tag) (u : Url) (s : Parts) (x : Triple) (r : Reference) (c : Class) (b k : ℕ) (places : List ℕ)
    → ScriptsAgree k places (AttributeValue q t (ValueOf (OfUrl u)) r) (url_scan (url_value t (quotes_at q) s) x r) c b
url-scan-places q t u s NoTriple Closed c b k places = (refl, refl, λ h. refl)
url-scan-places q t u s NoTriple (Open f bytes) c b k places = (refl, refl, λ h. refl)
url-scan-places q t u s AfterPercent r c b k places = (refl, refl, λ h. refl)
url-scan-places q t u s AfterDigit r c b k places = (refl, refl, λ h. refl)

url-scan-script-cut : (v : ValuePlace) (t : Triple) (r : Reference) (k : ℕ) (places : List ℕ) → None ≡ scan_script_cut_refusal k places (url_scan v t r)
url-scan-script-cut v NoTriple Closed k places = refl
url-scan-script-cut v NoTriple (Open f bytes) k places = refl
url-scan-script-cut v AfterPercent r k places = refl
url-scan-script-cut v AfterDigit r k places = refl

url-scan-facts : (s : LexState ValueState) (v : ValuePlace) (t : Triple) (r : Reference) → ScriptFacts s (url_scan v t r)
url-scan-facts s v NoTriple Closed = tt
url-scan-facts s v NoTriple (Open f bytes) = tt
url-scan-facts s v AfterPercent r = tt
url-scan-facts s v AfterDigit r = tt

pub only-hand : (o p : Option PathCause) → o ≡ None → first_cause o p ≡ p
only-hand o p e = rw e refl

tag-ends-with : (t : Tag) (k : Kind) → scanned (after_tag languages (without_value t k).tag) ≡ Some (content_scan t.tag)
tag-ends-with t k = rw (same-tag t k) (tag-ends t.tag)

value-begins : (t : Tag) (typed : Bool) (k : Kind) → is_second_type t.typed k ≡ false → typed ≡ (without_value t k).typed
    → scanned (BeforeAttributeValue t k) ≡ Some (value_scan t.tag typed (Some k))
value-begins t typed kind.Plain f e = rw e refl
value-begins t typed kind.NoHole f e = rw e refl
value-begins t typed kind.Url f e = rw e refl
value-begins t typed kind.Script f e = rw e refl
value-begins t typed kind.Style f e = rw e refl
value-begins t typed kind.ScriptType f e = not-second t kind.ScriptType (BeforeType t.tag) f

value-begins-here : (t : Tag) (k : Kind) → is_second_type t.typed k ≡ false → scanned (BeforeAttributeValue t k) ≡ Some (value_scan t.tag t.typed (Some k))
value-begins-here t kind.Plain f = refl
value-begins-here t kind.NoHole f = refl
value-begins-here t kind.Url f = refl
value-begins-here t kind.Script f = refl
value-begins-here t kind.Style f = refl
value-begins-here t kind.ScriptType f = not-second t kind.ScriptType (BeforeType t.tag) f

-- state by state
text-steps : (r : Reference) (c : Class) (b : ℕ) → Agrees (Text r) (At place.Text) c b
text-steps r LessThan b = record { errors = refl; scripts = λ k places w. (refl, refl, λ h. refl); steps = λ n. refl }
text-steps r _ b = record { errors = refl; scripts = λ k places w. (refl, refl, λ h. refl); steps = λ n. refl }

less-steps : (r : Reference) (c : Class) (b : ℕ) → Agrees (TagOpen r) AfterLess c b
less-steps r LessThan b = record { errors = refl; scripts = λ k places w. (refl, refl, λ h. refl); steps = λ n. refl }
less-steps r _ b = record { errors = refl; scripts = λ k places w. (refl, refl, λ h. refl); steps = λ n. refl }

solidus-steps : (r : Reference) (c : Class) (b : ℕ) → Agrees (EndTagOpen r) AfterLessSolidus c b
solidus-steps r LessThan b = record { errors = refl; scripts = λ k places w. (refl, refl, λ h. refl); steps = λ n. refl }
solidus-steps r _ b = record { errors = refl; scripts = λ k places w. (refl, refl, λ h. refl); steps = λ n. refl }

declaration-next : (d : Declaration) (r : Reference) (pending : List ℕ) (c : Class) (b : ℕ) → scanned (next_declaration d Template c b r pending) ≡ Some (declaration_next d c b pending)
declaration-next OpensComment r pending c b = refl
declaration-next OpensDoctype r pending c b = refl
declaration-next Undecided r pending c b = refl
declaration-next OpensNothing r pending LessThan b = refl
declaration-next OpensNothing r pending _ b = refl

declaration-steps : (r : Reference) (pending : List ℕ) (c : Class) (b : ℕ) → Agrees (DeclarationOpen r pending) (InDeclaration pending) c b
declaration-steps r pending c b = record { errors = refl; scripts = λ k places w. (refl, refl, λ h. refl); steps = λ n. declaration-next (declared_by (pending ++ b ∷ [])) r pending c b }

comment-steps : (s : CommentState) (c : Class) (b : ℕ) → Agrees (InComment s) (comment_scan s) c b
comment-steps Started HyphenMinus b = record { errors = refl; scripts = λ k places w. (refl, refl, λ h. refl); steps = λ n. refl }
comment-steps Started _ b = record { errors = refl; scripts = λ k places w. (refl, refl, λ h. refl); steps = λ n. refl }
comment-steps StartedDash HyphenMinus b = record { errors = refl; scripts = λ k places w. (refl, refl, λ h. refl); steps = λ n. refl }
comment-steps StartedDash _ b = record { errors = refl; scripts = λ k places w. (refl, refl, λ h. refl); steps = λ n. refl }
comment-steps Inside HyphenMinus b = record { errors = refl; scripts = λ k places w. (refl, refl, λ h. refl); steps = λ n. refl }
comment-steps Inside _ b = record { errors = refl; scripts = λ k places w. (refl, refl, λ h. refl); steps = λ n. refl }
comment-steps Dash HyphenMinus b = record { errors = refl; scripts = λ k places w. (refl, refl, λ h. refl); steps = λ n. refl }
comment-steps Dash _ b = record { errors = refl; scripts = λ k places w. (refl, refl, λ h. refl); steps = λ n. refl }
comment-steps DashDash HyphenMinus b = record { errors = refl; scripts = λ k places w. (refl, refl, λ h. refl); steps = λ n. refl }
comment-steps DashDash _ b = record { errors = refl; scripts = λ k places w. (refl, refl, λ h. refl); steps = λ n. refl }
comment-steps Bang HyphenMinus b = record { errors = refl; scripts = λ k places w. (refl, refl, λ h. refl); steps = λ n. refl }
comment-steps Bang _ b = record { errors = refl; scripts = λ k places w. (refl, refl, λ h. refl); steps = λ n. refl }
comment-steps Broken HyphenMinus b = record { errors = refl; scripts = λ k places w. (refl, refl, λ h. refl); steps = λ n. refl }
comment-steps Broken _ b = record { errors = refl; scripts = λ k places w. (refl, refl, λ h. refl); steps = λ n. refl }

doctype-steps : (c : Class) (b : ℕ) → Agrees InDoctype (At place.Doctype) c b
doctype-steps GreaterThan b = record { errors = refl; scripts = λ k places w. (refl, refl, λ h. refl); steps = λ n. refl }
doctype-steps _ b = record { errors = refl; scripts = λ k places w. (refl, refl, λ h. refl); steps = λ n. refl }

tag-name-steps : (ends : Bool) (name : List ℕ) (c : Class) (b : ℕ) → Agrees (TagName ends name) (InTagName ends name) c b
tag-name-steps ends name White b = record { errors = refl; scripts = λ k places w. (refl, refl, λ h. refl); steps = λ n. refl }
tag-name-steps ends name Solidus b = record { errors = refl; scripts = λ k places w. (refl, refl, λ h. refl); steps = λ n. refl }
tag-name-steps ends name GreaterThan b = record { errors = refl; scripts = λ k places w. (refl, refl, λ h. refl); steps = λ n. tag-ends (tag_of_name ends name) }
tag-name-steps ends name _ b = record { errors = refl; scripts = λ k places w. (refl, refl, λ h. refl); steps = λ n. refl }

whole-tag-steps : (t : Tag) (c : Class) (b : ℕ) → Agrees (WholeTagName t) (At (place.Tag (tag_spot t only_name None))) c b
whole-tag-steps t White b = record { errors = refl; scripts = λ k places w. (refl, refl, λ h. refl); steps = λ n. refl }
whole-tag-steps t Solidus b = record { errors = refl; scripts = λ k places w. (refl, refl, λ h. refl); steps = λ n. refl }
whole-tag-steps t GreaterThan b = record { errors = refl; scripts = λ k places w. (refl, refl, λ h. refl); steps = λ n. tag-ends t.tag }
whole-tag-steps t _ b = record { errors = refl; scripts = λ k places w. (refl, refl, λ h. refl); steps = λ n. absurd (some _ n) }

-- before a name, also after a quoted value and after a solidus
before-next : (t : Tag) (c : Class) (b : ℕ) → at_hand (tag_error (tag_spot t only_before None) c) ≡ None → scanned (next_before_name languages c b t) ≡ Some (tag_next (tag_spot t only_before None) c b)
before-next t White b n = refl
before-next t Solidus b n = refl
before-next t GreaterThan b n = tag-ends t.tag
before-next t EqualsSign b n = absurd (some _ n)
before-next t QuotationMark b n = absurd (some _ n)
before-next t Apostrophe b n = absurd (some _ n)
before-next t LessThan b n = absurd (some _ n)
before-next t _ b n = refl

attribute-next : (t : Tag) (k : Kind) (name : List ℕ) (c : Class) (b : ℕ) → attribute_name_error t.tag t.typed k (length name) c ≡ None
    → scanned (next_name languages c b t k name) ≡ Some (attribute_name_next c b t.tag t.typed k name)
attribute-next t k name White b n = rw (same-typed t k) (not-second t k _ (unless-first (is_second_type t.typed k) (length name) None n))
attribute-next t k name Solidus b n = rw (same-tag t k, same-typed t k) refl
attribute-next t k name GreaterThan b n = tag-ends-with t k
attribute-next t k name EqualsSign b n =
    value-begins-here t k (unless-first (is_second_type t.typed k) (length name) None n)
attribute-next t k name QuotationMark b n = absurd (some _ n)
attribute-next t k name Apostrophe b n = absurd (some _ n)
attribute-next t k name LessThan b n = absurd (some _ n)
attribute-next t k name _ b n = refl

attribute-steps : (t : Tag) (name : List ℕ) (c : Class) (b : ℕ) → Agrees (AttributeName t name) (InAttributeName t.tag t.typed name) c b
attribute-steps t name c b = record { errors = refl; scripts = λ k places w. (refl, refl, λ h. refl); steps = λ n. attribute-next t (kind_of (element_on t.tag) name) name c b n }

whole-name-next : (t : Tag) (k : Kind) (c : Class) (b : ℕ) → is_second_type t.typed k ≡ false → at_hand (tag_error (tag_spot t only_inside (Some k)) c) ≡ None
    → scanned (next_after_name languages c b t k) ≡ Some (tag_next (tag_spot t only_inside (Some k)) c b)
whole-name-next t k White b f n = not-second t k _ f
whole-name-next t k Solidus b f n = rw (same-tag t k) refl
whole-name-next t k GreaterThan b f n = tag-ends-with t k
whole-name-next t k EqualsSign b f n = value-begins t ((without_value t k).typed) k f refl
whole-name-next t k _ b f n = absurd (some _ n)

after-name-next : (t : Tag) (k : Kind) (c : Class) (b : ℕ) → is_second_type t.typed k ≡ false → at_hand (tag_error (tag_spot t only_after (Some k)) c) ≡ None
    → scanned (next_after_name languages c b t k) ≡ Some (tag_next (tag_spot t only_after (Some k)) c b)
after-name-next t k White b f n = not-second t k _ f
after-name-next t k Solidus b f n = rw (same-tag t k) refl
after-name-next t k GreaterThan b f n = tag-ends-with t k
after-name-next t k EqualsSign b f n = value-begins t ((without_value t k).typed) k f refl
after-name-next t k QuotationMark b f n = absurd (some _ n)
after-name-next t k Apostrophe b f n = absurd (some _ n)
after-name-next t k LessThan b f n = absurd (some _ n)
after-name-next t k _ b f n = rw (same-tag t k) refl

whole-name-steps : (second : Bool) (t : Tag) (k : Kind) (c : Class) (b : ℕ) → is_second_type t.typed k ≡ second
    → WhereScanned (if second then None else Some (At (place.Tag (tag_spot t only_inside (Some k))))) (λ f. Agrees (WholeAttributeName t k) f c b)
whole-name-steps true t k c b e = tt
whole-name-steps false t k c b e = record { errors = refl; scripts = λ k places w. (refl, refl, λ h. refl); steps = whole-name-next t k c b e }

after-name-steps : (second : Bool) (t : Tag) (k : Kind) (c : Class) (b : ℕ) → is_second_type t.typed k ≡ second
    → WhereScanned (if second then None else Some (At (place.Tag (tag_spot t only_after (Some k))))) (λ f. Agrees (AfterAttributeName t k) f c b)
after-name-steps true t k c b e = tt
after-name-steps false t k c b e = record { errors = refl; scripts = λ k places w. (refl, refl, λ h. refl); steps = after-name-next t k c b e }

-- values of the kinds that are built
abbrev place-of : Tag → Quotes → Body → ValuePlace
place-of t q x = record { tag = t.tag; typed = t.typed; quotes = q; body = x }

abbrev value-at : Tag → Quotes → Body → Scan
value-at t q x = At (place.Value (place-of t q x))

-- a body that no byte changes
abbrev StaysBody : Body → Type 0
StaysBody x = (v : ValuePlace) (q : Quotes) (c : Class) (b : ℕ) → value_fed v q x NoTriple Closed c b ≡ with_quotes v q

unbegun-next : (t : Tag) (k : Kind) (x : Body) (c : Class) (b : ℕ) → StaysBody x → body_at (OfKind k) ≡ Some x → without_value t k ≡ t
    → attribute_value_of languages k ≡ ValueOf (OfKind k)
    → at_hand (bare_error t.tag (record { uq = false; unbegun = true }) c) ≡ None
    → scanned (next_before_value languages c b t k) ≡ Some (scan_next (value-at t unbegun x) c b)
unbegun-next t k x White b g e u v n = rw v (rw e refl)
unbegun-next t k x QuotationMark b g e u v n = rw v (rw e refl)
unbegun-next t k x Apostrophe b g e u v n = rw v (rw e refl)
unbegun-next t k x GreaterThan b g e u v n = rw u (tag-ends t.tag)
unbegun-next t k x LessThan b g e u v n = absurd (some _ n)
unbegun-next t k x EqualsSign b g e u v n = absurd (some _ n)
unbegun-next t k x GraveAccent b g e u v n = absurd (some _ n)
unbegun-next t k x Ampersand b g e u v n = rw v (rw e (ap Some (sym (g (place-of t unbegun x) (quotes_at Unquoted) Ampersand b))))
unbegun-next t k x c b g e u v n = rw v (rw e (ap Some (sym (g (place-of t unbegun x) (quotes_at Unquoted) c b))))

own-scanned : (bs : List ℕ) (q : Quoting) (t : Tag) (k : Kind) (r : Reference)
    → value_scanned q t (with_bytes languages (ValueOf (OfKind k)) bs) r ≡ value_scanned q t (ValueOf (OfKind k)) r
own-scanned [] q t k r = refl
own-scanned (b ∷ bs) q t k r = own-scanned bs q t k r

own-there : (q : Quoting) (t : Tag) (k : Kind) (x : Body) (r : Reference) → body_at (OfKind k) ≡ Some x
    → value_scanned q t (ValueOf (OfKind k)) r ≡ Some (value-at t (quotes_at q) x)
own-there q t k x r e = rw e refl

own-next : (bs : List ℕ) (q : Quoting) (t : Tag) (k : Kind) (x : Body) (r : Reference) (c : Class) (b : ℕ) → StaysBody x → body_at (OfKind k) ≡ Some x
    → value_scanned q t (with_bytes languages (ValueOf (OfKind k)) bs) r
    ≡ Some (value_fed (place-of t (quotes_at q) x) (quotes_at q) x NoTriple Closed c b)
own-next bs q t k x r c b g e =
    own-scanned bs q t k r ∙ own-there q t k x r e ∙ ap Some (sym (g (place-of t (quotes_at q) x) (quotes_at q) c b))

value-next : (q : Quoting) (t : Tag) (k : Kind) (x : Body) (r : Reference) (c : Class) (b : ℕ) → StaysBody x → body_at (OfKind k) ≡ Some x
    → at_hand (quotes_error t.tag (quotes_at q) c) ≡ None
    → scanned (next languages Template (AttributeValue q t (ValueOf (OfKind k)) r) c b) ≡ Some (scan_next (value-at t (quotes_at q) x) c b)
value-next DoubleQuoted t k x r QuotationMark b g e n = rw (same-with t (settled true r) (OfKind k)) refl
value-next DoubleQuoted t k x r c b g e n = own-next (undone_byte true r c b) DoubleQuoted t k x (next_reference r c b) c b g e
value-next SingleQuoted t k x r Apostrophe b g e n = rw (same-with t (settled true r) (OfKind k)) refl
value-next SingleQuoted t k x r c b g e n = own-next (undone_byte true r c b) SingleQuoted t k x (next_reference r c b) c b g e
value-next Unquoted t k x r White b g e n = rw (same-with t (settled true r) (OfKind k)) refl
value-next Unquoted t k x r GreaterThan b g e n = rw (same-with t (settled true r) (OfKind k)) (tag-ends t.tag)
value-next Unquoted t k x r QuotationMark b g e n = absurd (some _ n)
value-next Unquoted t k x r Apostrophe b g e n = absurd (some _ n)
value-next Unquoted t k x r LessThan b g e n = absurd (some _ n)
value-next Unquoted t k x r EqualsSign b g e n = absurd (some _ n)
value-next Unquoted t k x r GraveAccent b g e n = absurd (some _ n)
value-next Unquoted t k x r c b g e n = own-next (undone_byte true r c b) Unquoted t k x (next_reference r c b) c b g e

-- URLs: what the bytes that are fed make of the scan state
pub url-fed : (q : Quoting) (t : Tag) (u : Url) (bs : List ℕ) (r : Reference)
    → value_scanned q t (with_bytes languages (ValueOf (OfUrl u)) bs) r
    ≡ Some (url_scan (url_value t (quotes_at q) (feed_bytes parts_feeding (parts_of u.part) bs)) (triple_behind u.triple bs) r)
url-fed q t u [] r = refl
url-fed q t u (b ∷ bs) r =
    let x = triple_behind (next_triple u.triple (url_class_of b)) bs in
    url-fed q t (feed_url u b) bs r
    ∙ ap (λ (s : Parts). Some (url_scan (url_value t (quotes_at q) (feed_bytes parts_feeding s bs)) x r))
    (sym (one-next u.part (url_class_of b) b))

url-next : (q : Quoting) (t : Tag) (u : Url) (r : Reference) (c : Class) (b : ℕ) → at_hand (quotes_error t.tag (quotes_at q) c) ≡ None
    → scanned (next languages Template (AttributeValue q t (ValueOf (OfUrl u)) r) c b)
    ≡ Some (value_next (url_value t (quotes_at q) (parts_of u.part)) u.triple r c b)
url-next DoubleQuoted t u r QuotationMark b n = rw (same-with t (settled true r) (OfUrl u)) refl
url-next DoubleQuoted t u r c b n = url-fed DoubleQuoted t u (undone_byte true r c b) (next_reference r c b)
url-next SingleQuoted t u r Apostrophe b n = rw (same-with t (settled true r) (OfUrl u)) refl
url-next SingleQuoted t u r c b n = url-fed SingleQuoted t u (undone_byte true r c b) (next_reference r c b)
url-next Unquoted t u r White b n = rw (same-with t (settled true r) (OfUrl u)) refl
url-next Unquoted t u r GreaterThan b n = rw (same-with t (settled true r) (OfUrl u)) (tag-ends t.tag)
url-next Unquoted t u r QuotationMark b n = absurd (some _ n)
url-next Unquoted t u r Apostrophe b n = absurd (some _ n)
url-next Unquoted t u r LessThan b n = absurd (some _ n)
url-next Unquoted t u r EqualsSign b n = absurd (some _ n)
url-next Unquoted t u r GraveAccent b n = absurd (some _ n)
url-next Unquoted t u r c b n = url-fed Unquoted t u (undone_byte true r c b) (next_reference r c b)

begin-url : (t : Tag) (c : Class) (b : ℕ) → at_hand (bare_error t.tag (record { uq = false; unbegun = true }) c) ≡ None
    → scanned (next_before_value languages c b t kind.Url) ≡ Some (value_next (url_value t unbegun (parts_of UrlStart)) NoTriple Closed c b)
begin-url t White b n = refl
begin-url t QuotationMark b n = refl
begin-url t Apostrophe b n = refl
begin-url t GreaterThan b n = tag-ends t.tag
begin-url t LessThan b n = absurd (some _ n)
begin-url t EqualsSign b n = absurd (some _ n)
begin-url t GraveAccent b n = absurd (some _ n)
begin-url t c b n = url-fed Unquoted t url_start (undone_byte true Closed c b) (next_reference Closed c b)

-- what is refused of them
url-errors : (q : Quoting) (t : Tag) (u : Url) (r : Reference) (c : Class) (b : ℕ)
    → byte_error (AttributeValue q t (ValueOf (OfUrl u)) r) c b ≡ value_cause (url_value t (quotes_at q) (parts_of u.part)) r c b
url-errors q t u r c b =
    let s = parts_of u.part in
    let own = language_error (feeding languages) (ends_value q c) (ValueOf (OfUrl u)) r c b in
    ap (λ (x : Tag). first_cause own (at_hand (quotes_error x.tag (quotes_at q) c))) (same-with t (settled true r) (OfUrl u))
    ∙ ap (λ (o : Option PathCause). first_cause o (at_hand (quotes_error t.tag (quotes_at q) c)))
    (language-alike urls-alike (ends_value q c) r c b (ValueOf (OfUrl u)) s refl ∙ sym (quoted-at parts_feeding q s r c b))

begin-url-errors : (t : Tag) (c : Class) (b : ℕ)
    → byte_error (BeforeAttributeValue t kind.Url) c b ≡ value_cause (url_value t unbegun (parts_of UrlStart)) Closed c b
begin-url-errors t c b =
    ap (λ (o : Option PathCause). first_cause o (at_hand (bare_error t.tag (record { uq = false; unbegun = true }) c)))
    (first-byte-alike urls-alike c b (ValueOf (OfUrl url_start)) (parts_of UrlStart) refl)

url-steps : (q : Quoting) (t : Tag) (u : Url) (r : Reference) (c : Class) (b : ℕ) → Agrees (AttributeValue q t (ValueOf (OfUrl u)) r) (url_scanned q t u r) c b
url-steps q t u r c b =
    let v = url_value t (quotes_at q) (parts_of u.part) in
    record {
      errors = url-errors q t u r c b ∙ sym (url-scan-error v u.triple r c b);
      scripts = λ k places w. url-scan-places q t u (parts_of u.part) u.triple r c b k places;
      steps = λ n.
          url-next q t u r c b
          (first-caused (body_cause v.body v.quotes r c b) (at_hand (quotes_error t.tag (quotes_at q) c)) (sym (url-scan-error v u.triple r c b) ∙ n)).1
          ∙ ap Some (sym (url-scan-next v u.triple r c b));
    }

begin-url-steps : (t : Tag) (c : Class) (b : ℕ) → Agrees (BeforeAttributeValue t kind.Url) (value-at t unbegun (body.Url (parts_of UrlStart))) c b
begin-url-steps t c b =
    let own = body_cause (body.Url (parts_of UrlStart)) unbegun Closed c b in
    record {
      errors = begin-url-errors t c b;
      scripts = λ k places w. (refl, refl, λ h. refl);
      steps = λ n. begin-url t c b (first-caused own (at_hand (bare_error t.tag (record { uq = false; unbegun = true }) c)) n).1;
    }

-- the value of a type
typed-by-type : (t : TagOf) (of_script : Bool) → is_start t || false ≡ is_start (tag_by_type t of_script)
typed-by-type tag.End of_script = refl
typed-by-type (tag.Start element.Script) true = refl
typed-by-type (tag.Start element.Script) false = refl
typed-by-type (tag.Start _) of_script = refl

ending-typed : (t : Tag) (v : Value ValueState) → t.typed ≡ false → (tag_with_value t v).tag ≡ type_tag t.tag v
ending-typed t v e = ap (λ (b : Bool). (tag_with_value (record { tag = t.tag; typed = b }) v).tag) e

same-type-typed : (t : Tag) (value : List ℕ) → t.typed ≡ false → (typed_by t value).typed ≡ is_start (type_tag t.tag (Deciding kind.ScriptType value))
same-type-typed t value e = ap (λ (b : Bool). is_start t.tag || b) e ∙ typed-by-type t.tag (is_script_type value)

-- bytes of it leave it one
pub record Typed (z : Value ValueState) : Type 0 where
  pub value : List ℕ
  pub is : z ≡ Deciding kind.ScriptType value

pub type-stays : (before bs : List ℕ) → Typed (with_bytes languages (Deciding kind.ScriptType before) bs)
type-stays before [] = record { value = before; is = refl }
type-stays before (b ∷ bs) = type-stays (before ++ b ∷ []) bs

type-goes : (q : Quoting) (t : Tag) (z : Value ValueState) (r : Reference) → Typed z → t.typed ≡ false → value_scanned q t z r ≡ Some (InType t.tag q z r)
type-goes q t z r o e = rw o.is (not-second t kind.ScriptType (InType t.tag q (Deciding kind.ScriptType o.value) r) e)

after-typed : (t : Tag) (z : Value ValueState) → Typed z → t.typed ≡ false
    → scanned (BeforeAttributeName (tag_with_value t z)) ≡ Some (in_tag (type_tag t.tag z) (is_start (type_tag t.tag z)) only_before None)
after-typed t z o e = rw o.is (rw (ending-typed t (Deciding kind.ScriptType o.value) e, same-type-typed t o.value e) refl)

content-typed : (t : Tag) (z : Value ValueState) → t.typed ≡ false
    → scanned (after_tag languages (tag_with_value t z).tag) ≡ Some (content_scan (type_tag t.tag z))
content-typed t z e = rw (ending-typed t z e) (tag-ends (type_tag t.tag z))

type-next : (q : Quoting) (t : Tag) (before : List ℕ) (r : Reference) (c : Class) (b : ℕ) → class_of b ≡ c → t.typed ≡ false
    → at_hand (quotes_error (type_tag t.tag (ended_type (Deciding kind.ScriptType before) r)) (quotes_at q) c) ≡ None
    → scanned (next languages Template (AttributeValue q t (Deciding kind.ScriptType before) r) c b) ≡ Some (scan_next (InType t.tag q (Deciding kind.ScriptType before) r) c b)
type-next DoubleQuoted t before r QuotationMark b i e n = after-typed t (ended_type (Deciding kind.ScriptType before) r) (type-stays before (settled true r)) e
type-next DoubleQuoted t before r c b i e n =
    rw i (type-goes DoubleQuoted t (with_bytes languages (Deciding kind.ScriptType before) (undone_byte true r c b)) (next_reference r c b) (type-stays before (undone_byte true r c b)) e)
type-next SingleQuoted t before r Apostrophe b i e n = after-typed t (ended_type (Deciding kind.ScriptType before) r) (type-stays before (settled true r)) e
type-next SingleQuoted t before r c b i e n =
    rw i (type-goes SingleQuoted t (with_bytes languages (Deciding kind.ScriptType before) (undone_byte true r c b)) (next_reference r c b) (type-stays before (undone_byte true r c b)) e)
type-next Unquoted t before r White b i e n = after-typed t (ended_type (Deciding kind.ScriptType before) r) (type-stays before (settled true r)) e
type-next Unquoted t before r GreaterThan b i e n = content-typed t (ended_type (Deciding kind.ScriptType before) r) e
type-next Unquoted t before r QuotationMark b i e n = absurd (some _ n)
type-next Unquoted t before r Apostrophe b i e n = absurd (some _ n)
type-next Unquoted t before r LessThan b i e n = absurd (some _ n)
type-next Unquoted t before r EqualsSign b i e n = absurd (some _ n)
type-next Unquoted t before r GraveAccent b i e n = absurd (some _ n)
type-next Unquoted t before r c b i e n =
    rw i (type-goes Unquoted t (with_bytes languages (Deciding kind.ScriptType before) (undone_byte true r c b)) (next_reference r c b) (type-stays before (undone_byte true r c b)) e)

begin-type : (t : Tag) (c : Class) (b : ℕ) → class_of b ≡ c → t.typed ≡ false → at_hand (quotes_error t.tag unbegun c) ≡ None
    → scanned (next_before_value languages c b t kind.ScriptType) ≡ Some (before_type_next c b t.tag)
begin-type t White b i e n = not-second t kind.ScriptType (BeforeType t.tag) e
begin-type t QuotationMark b i e n = not-second t kind.ScriptType (InType t.tag DoubleQuoted (Deciding kind.ScriptType []) Closed) e
begin-type t Apostrophe b i e n = not-second t kind.ScriptType (InType t.tag SingleQuoted (Deciding kind.ScriptType []) Closed) e
begin-type t GreaterThan b i e n = tag-ends-with t kind.ScriptType ∙ ap (λ (u : TagOf). Some (content_scan u)) (sym (same-tag t kind.ScriptType) ∙ ending-typed t (Deciding kind.ScriptType []) e)
begin-type t LessThan b i e n = absurd (some _ n)
begin-type t EqualsSign b i e n = absurd (some _ n)
begin-type t GraveAccent b i e n = absurd (some _ n)
begin-type t c b i e n =
    rw i (type-goes Unquoted t (with_bytes languages (Deciding kind.ScriptType []) (undone_byte true Closed c b)) (next_reference Closed c b) (type-stays [] (undone_byte true Closed c b)) e)

before-type-steps : (typed : Bool) (t : Tag) (c : Class) (b : ℕ) → class_of b ≡ c → t.typed ≡ typed
    → WhereScanned (if typed then None else Some (BeforeType t.tag)) (λ f. Agrees (BeforeAttributeValue t kind.ScriptType) f c b)
before-type-steps true t c b i e = tt
before-type-steps false t c b i e = record {
  errors = only-hand (first_byte_error (feeding languages) (Deciding kind.ScriptType []) c b) _ (first-byte-none (Deciding kind.ScriptType []) c b tt);
  scripts = λ k places w. (refl, refl, λ h. refl);
  steps = begin-type t c b i e;
}

type-steps : (typed : Bool) (q : Quoting) (t : Tag) (before : List ℕ) (r : Reference) (c : Class) (b : ℕ) → class_of b ≡ c → t.typed ≡ typed
    → WhereScanned (if typed then None else Some (InType t.tag q (Deciding kind.ScriptType before) r)) (λ f. Agrees (AttributeValue q t (Deciding kind.ScriptType before) r) f c b)
type-steps true q t before r c b i e = tt
type-steps false q t before r c b i e = record {
  errors = only-hand (language_error (feeding languages) (ends_value q c) (Deciding kind.ScriptType before) r c b) _
      (language-none (ends_value q c) (Deciding kind.ScriptType before) r c b tt)
      ∙ ap (λ (u : TagOf). at_hand (quotes_error u (quotes_at q) c)) (ending-typed t (ended_type (Deciding kind.ScriptType before) r) e);
  scripts = λ k places w. (refl, refl, λ h. refl);
  steps = type-next q t before r c b i e;
}

end-name-next : (grows whole : Bool) (c : Class) (b : ℕ) (e : Element) (r : Reference) (letters : List ℕ)
    → content_scanned (PendingName (letters ++ b ∷ [])) e ≡ Some (InContentEnd e (PendingName (letters ++ b ∷ []))) → content_scanned PendingLess e ≡ Some (InContentEnd e PendingLess) → content_scanned Nothing e ≡ Some (At (rest_place e))
    → scanned (next_end_name languages grows whole c b e (Characters r) letters) ≡ Some (end_name_next grows whole c b e letters)
end-name-next true whole (Letter l) b e r letters f g h = f
end-name-next true true White b e r letters f g h = refl
end-name-next true true Solidus b e r letters f g h = refl
end-name-next true true GreaterThan b e r letters f g h = refl
end-name-next true true LessThan b e r letters f g h = g
end-name-next true true _ b e r letters f g h = h
end-name-next true false LessThan b e r letters f g h = g
end-name-next true false _ b e r letters f g h = h
end-name-next false true White b e r letters f g h = refl
end-name-next false true Solidus b e r letters f g h = refl
end-name-next false true GreaterThan b e r letters f g h = refl
end-name-next false true LessThan b e r letters f g h = g
end-name-next false true _ b e r letters f g h = h
end-name-next false false LessThan b e r letters f g h = g
end-name-next false false _ b e r letters f g h = h

loose-next : (c : Class) (b : ℕ) (e : Element) (r : Reference) → content_scanned PendingLess e ≡ Some (InContentEnd e PendingLess) → content_scanned Nothing e ≡ Some (At (rest_place e)) → scanned (next_loose languages c b e (Characters r)) ≡ Some (content_next c e)
loose-next LessThan b e r g h = g
loose-next _ b e r g h = h

less-next : (c : Class) (b : ℕ) (e : Element) (r : Reference) → pending_less_next ExclamationMark e ≡ At (rest_place e) → content_scanned (PendingName []) e ≡ Some (InContentEnd e (PendingName []))
    → content_scanned PendingLess e ≡ Some (InContentEnd e PendingLess) → content_scanned Nothing e ≡ Some (At (rest_place e)) → scanned (next_less languages c b e (Characters r)) ≡ Some (pending_less_next c e)
less-next Solidus b e r k f g h = f
less-next ExclamationMark b e r k f g h = h ∙ ap Some (sym k)
less-next LessThan b e r k f g h = g
less-next _ b e r k f g h = h

content-steps : (h : Pending) (e : Element) (r : Reference) (c : Class) (b : ℕ) → WhereScanned (content_scanned h e) (λ f. Agrees (InContent e (Characters r) h) f c b)
content-steps Nothing element.Title r c b = record { errors = refl; scripts = λ k places w. (refl, refl, λ h. refl); steps = λ n. loose-next c b element.Title r refl refl }
content-steps Nothing element.Textarea r c b = record { errors = refl; scripts = λ k places w. (refl, refl, λ h. refl); steps = λ n. loose-next c b element.Textarea r refl refl }
content-steps PendingLess element.Title r c b = record { errors = refl; scripts = λ k places w. (refl, refl, λ h. refl); steps = λ n. less-next c b element.Title r refl refl refl refl }
content-steps PendingLess element.Textarea r c b = record { errors = refl; scripts = λ k places w. (refl, refl, λ h. refl); steps = λ n. less-next c b element.Textarea r refl refl refl refl }
content-steps (PendingName letters) element.Title r c b = record { errors = refl; scripts = λ k places w. (refl, refl, λ h. refl); steps = λ n. end-name-next (may_be_name_of element.Title (letters ++ b ∷ [])) (is_name_of element.Title letters) c b element.Title r letters refl refl refl }
content-steps (PendingName letters) element.Textarea r c b = record { errors = refl; scripts = λ k places w. (refl, refl, λ h. refl); steps = λ n. end-name-next (may_be_name_of element.Textarea (letters ++ b ∷ [])) (is_name_of element.Textarea letters) c b element.Textarea r letters refl refl refl }
content-steps LessAtCut element.Title r c b = tt
content-steps LessAtCut element.Textarea r c b = tt
content-steps PendingBang element.Title r c b = tt
content-steps PendingBang element.Textarea r c b = tt
content-steps PendingBangDash element.Title r c b = tt
content-steps (PendingOpening letters) element.Title r c b = tt
content-steps PendingBangDash element.Textarea r c b = tt
content-steps (PendingOpening letters) element.Textarea r c b = tt
content-steps Nothing _ r c b = tt
content-steps PendingLess _ r c b = tt
content-steps LessAtCut _ r c b = tt
content-steps (PendingName letters) _ r c b = tt
content-steps PendingBang _ r c b = tt
content-steps PendingBangDash _ r c b = tt
content-steps (PendingOpening letters) _ r c b = tt

-- data blocks
block-loose : (c : Class) (b : ℕ) → scanned (next_loose languages c b element.DataBlock Bytes) ≡ Some (content_next c element.DataBlock)
block-loose LessThan b = refl
block-loose _ b = refl

block-less : (c : Class) (b : ℕ) → scanned (next_less languages c b element.DataBlock Bytes) ≡ Some (pending_less_next c element.DataBlock)
block-less Solidus b = refl
block-less ExclamationMark b = refl
block-less LessThan b = refl
block-less _ b = refl

block-bang : (c : Class) (b : ℕ) → scanned (next_bang languages c b element.DataBlock Bytes) ≡ Some (bang_next c element.DataBlock)
block-bang HyphenMinus b = refl
block-bang LessThan b = refl
block-bang _ b = refl

block-name : (grows whole : Bool) (c : Class) (b : ℕ) (letters : List ℕ) → scanned (next_end_name languages grows whole c b element.DataBlock Bytes letters) ≡ Some (end_name_next grows whole c b element.DataBlock letters)
block-name true whole (Letter l) b letters = refl
block-name true true White b letters = refl
block-name true true Solidus b letters = refl
block-name true true GreaterThan b letters = refl
block-name true true LessThan b letters = refl
block-name true true _ b letters = refl
block-name true false LessThan b letters = refl
block-name true false _ b letters = refl
block-name false true White b letters = refl
block-name false true Solidus b letters = refl
block-name false true GreaterThan b letters = refl
block-name false true LessThan b letters = refl
block-name false true _ b letters = refl
block-name false false LessThan b letters = refl
block-name false false _ b letters = refl

block-steps : (h : Pending) (e : Element) (c : Class) (b : ℕ) → WhereScanned (block_scanned h e) (λ f. Agrees (InContent e Bytes h) f c b)
block-steps Nothing element.DataBlock c b = record { errors = refl; scripts = λ k places w. (refl, refl, λ h. refl); steps = λ n. block-loose c b }
block-steps LessAtCut element.DataBlock c b = record { errors = refl; scripts = λ k places w. (refl, refl, λ h. refl); steps = λ n. block-loose c b }
block-steps PendingLess element.DataBlock c b = record { errors = refl; scripts = λ k places w. (refl, refl, λ h. refl); steps = λ n. block-less c b }
block-steps (PendingName letters) element.DataBlock c b = record {
  errors = refl;
  scripts = λ k places w. (refl, refl, λ h. refl);
  steps = λ n. block-name (may_be_name_of element.DataBlock (letters ++ b ∷ [])) (is_name_of element.DataBlock letters) c b letters;
}
block-steps PendingBang element.DataBlock c b = record { errors = refl; scripts = λ k places w. (refl, refl, λ h. refl); steps = λ n. block-bang c b }
block-steps PendingBangDash element.DataBlock c b = record { errors = refl; scripts = λ k places w. (refl, refl, λ h. refl); steps = λ n. block-loose c b }
block-steps (PendingOpening letters) element.DataBlock c b = tt
block-steps Nothing _ c b = tt
block-steps LessAtCut _ c b = tt
block-steps PendingLess _ c b = tt
block-steps (PendingName letters) _ c b = tt
block-steps PendingBang _ c b = tt
block-steps PendingBangDash _ c b = tt
block-steps (PendingOpening letters) _ c b = tt

unbegun-errors : (t : Tag) (k : Kind) (c : Class) (b : ℕ) → IsNoUrl (attribute_value_of languages k)
    → byte_error (BeforeAttributeValue t k) c b ≡ at_hand (bare_error t.tag (record { uq = false; unbegun = true }) c)
unbegun-errors t k c b y =
    only-hand (first_byte_error (feeding languages) (attribute_value_of languages k) c b) _ (first-byte-none (attribute_value_of languages k) c b y)

unbegun-steps : (t : Tag) (k : Kind) (c : Class) (b : ℕ) → class_of b ≡ c → WhereScanned (scanned (BeforeAttributeValue t k)) (λ f. Agrees (BeforeAttributeValue t k) f c b)
unbegun-steps t kind.Plain c b i = record {
  errors = unbegun-errors t kind.Plain c b tt;
  scripts = λ k places w. (refl, refl, λ h. refl);
  steps = λ n. unbegun-next t kind.Plain body.Plain c b (λ v q c b. refl) refl refl refl n;
}
unbegun-steps t kind.NoHole c b i = record {
  errors = unbegun-errors t kind.NoHole c b tt;
  scripts = λ k places w. (refl, refl, λ h. refl);
  steps = λ n. unbegun-next t kind.NoHole body.NoHole c b (λ v q c b. refl) refl refl refl n;
}
unbegun-steps t kind.Url c b i = begin-url-steps t c b
unbegun-steps t kind.Script c b i = begin-script-steps t c b
unbegun-steps t kind.Style c b i = begin-style-steps t c b
unbegun-steps t kind.ScriptType c b i = before-type-steps t.typed t c b i refl

value-errors : (q : Quoting) (t : Tag) (k : Kind) (r : Reference) (c : Class) (b : ℕ)
    → byte_error (AttributeValue q t (ValueOf (OfKind k)) r) c b ≡ at_hand (quotes_error t.tag (quotes_at q) c)
value-errors q t k r c b =
    only-hand (language_error (feeding languages) (ends_value q c) (ValueOf (OfKind k)) r c b) _ (language-none (ends_value q c) (ValueOf (OfKind k)) r c b tt)
    ∙ ap (λ (u : Tag). at_hand (quotes_error u.tag (quotes_at q) c)) (same-with t (settled true r) (OfKind k))

value-steps : (q : Quoting) (t : Tag) (v : Value ValueState) (r : Reference) (c : Class) (b : ℕ) → class_of b ≡ c → WhereScanned (scanned (AttributeValue q t v r)) (λ f. Agrees (AttributeValue q t v r) f c b)
value-steps q t (ValueOf (OfKind kind.Plain)) r c b i = record {
  errors = value-errors q t kind.Plain r c b;
  scripts = λ k places w. (refl, refl, λ h. refl);
  steps = λ n. value-next q t kind.Plain body.Plain r c b (λ v q c b. refl) refl n;
}
value-steps q t (ValueOf (OfKind kind.NoHole)) r c b i = record {
  errors = value-errors q t kind.NoHole r c b;
  scripts = λ k places w. (refl, refl, λ h. refl);
  steps = λ n. value-next q t kind.NoHole body.NoHole r c b (λ v q c b. refl) refl n;
}
value-steps q t (ValueOf (OfKind kind.Url)) r c b i = tt
value-steps q t (ValueOf (OfKind kind.Script)) r c b i = tt
value-steps q t (ValueOf (OfKind kind.Style)) r c b i = tt
value-steps q t (ValueOf (OfKind kind.ScriptType)) r c b i = tt
value-steps q t (ValueOf (OfUrl u)) r c b i = url-steps q t u r c b
value-steps q t (ValueOf (OfStyle s)) r c b i =
    where-styled q t s r (λ f. Agrees (AttributeValue q t (ValueOf (OfStyle s)) r) f c b) (style_scanned s) refl (λ n h. style-steps q t s n r c b h)
value-steps q t (ValueOf (OfScript s)) r c b i = value-script-steps q t s r c b
value-steps q t (Deciding kind.ScriptType before) r c b i = type-steps t.typed q t before r c b i refl
value-steps q t (Deciding k before) r c b i = tt

pub agrees : (s : LexState ValueState) (c : Class) (b : ℕ) → class_of b ≡ c → WhereScanned (scanned s) (λ f. Agrees s f c b)
agrees (Text r) c b i = text-steps r c b
agrees (TagOpen r) c b i = less-steps r c b
agrees (EndTagOpen r) c b i = solidus-steps r c b
agrees (DeclarationOpen r pending) c b i = declaration-steps r pending c b
agrees (InComment s) c b i = comment-steps s c b
agrees BogusComment c b i = tt
agrees InDoctype c b i = doctype-steps c b
agrees (TagName ends name) c b i = tag-name-steps ends name c b
agrees (WholeTagName t) c b i = whole-tag-steps t c b
agrees (BeforeAttributeName t) c b i = record { errors = refl; scripts = λ k places w. (refl, refl, λ h. refl); steps = before-next t c b }
agrees (AttributeName t name) c b i = attribute-steps t name c b
agrees (WholeAttributeName t k) c b i = whole-name-steps (is_second_type t.typed k) t k c b refl
agrees (AfterAttributeName t k) c b i = after-name-steps (is_second_type t.typed k) t k c b refl
agrees (BeforeAttributeValue t k) c b i = unbegun-steps t k c b i
agrees (AttributeValue q t v r) c b i = value-steps q t v r c b i
agrees (AfterAttributeValue t) c b i = record { errors = refl; scripts = λ k places w. (refl, refl, λ h. refl); steps = before-next t c b }
agrees (SelfClosingStartTag t) c b i = record { errors = refl; scripts = λ k places w. (refl, refl, λ h. refl); steps = before-next t c b }
agrees (InContent e (Characters r) h) c b i = content-steps h e r c b
agrees (InContent e Bytes h) c b i = block-steps h e c b
agrees (InContent e (InLanguage v) h) c b i = language-steps h e v c b

content-ends : (h : Pending) (e : Element) (r : Reference) → WhereScanned (content_scanned h e) (Ends (InContent e (Characters r) h))
content-ends Nothing element.Title r = record { errors = refl; scripts = λ k places. refl; facts = tt; lexeme = λ n. refl; reference = refl; place = λ n. refl; shown = λ bs h. refl }
content-ends Nothing element.Textarea r = record { errors = refl; scripts = λ k places. refl; facts = tt; lexeme = λ n. refl; reference = refl; place = λ n. refl; shown = λ bs h. refl }
content-ends PendingLess element.Title r = record { errors = refl; scripts = λ k places. refl; facts = tt; lexeme = λ n. refl; reference = refl; place = λ n. refl; shown = λ bs h. refl }
content-ends PendingLess element.Textarea r = record { errors = refl; scripts = λ k places. refl; facts = tt; lexeme = λ n. refl; reference = refl; place = λ n. refl; shown = λ bs h. refl }
content-ends (PendingName letters) element.Title r = record { errors = refl; scripts = λ k places. refl; facts = tt; lexeme = λ n. refl; reference = refl; place = λ n. refl; shown = λ bs h. refl }
content-ends (PendingName letters) element.Textarea r = record { errors = refl; scripts = λ k places. refl; facts = tt; lexeme = λ n. refl; reference = refl; place = λ n. refl; shown = λ bs h. refl }
content-ends LessAtCut element.Title r = tt
content-ends LessAtCut element.Textarea r = tt
content-ends PendingBang element.Title r = tt
content-ends PendingBang element.Textarea r = tt
content-ends PendingBangDash element.Title r = tt
content-ends (PendingOpening letters) element.Title r = tt
content-ends PendingBangDash element.Textarea r = tt
content-ends (PendingOpening letters) element.Textarea r = tt
content-ends Nothing _ r = tt
content-ends LessAtCut _ r = tt
content-ends PendingLess _ r = tt
content-ends (PendingName letters) _ r = tt
content-ends PendingBang _ r = tt
content-ends PendingBangDash _ r = tt
content-ends (PendingOpening letters) _ r = tt

block-ends : (h : Pending) (e : Element) → WhereScanned (block_scanned h e) (Ends (InContent e Bytes h))
block-ends Nothing element.DataBlock = record { errors = refl; scripts = λ k places. refl; facts = tt; lexeme = λ n. refl; reference = refl; place = λ n. refl; shown = λ bs h. refl }
block-ends LessAtCut element.DataBlock = record { errors = refl; scripts = λ k places. refl; facts = tt; lexeme = λ n. refl; reference = refl; place = λ n. refl; shown = λ bs h. refl }
block-ends PendingLess element.DataBlock = record { errors = refl; scripts = λ k places. refl; facts = tt; lexeme = λ n. refl; reference = refl; place = λ n. refl; shown = λ bs h. refl }
block-ends (PendingName letters) element.DataBlock = record { errors = refl; scripts = λ k places. refl; facts = tt; lexeme = λ n. refl; reference = refl; place = λ n. refl; shown = λ bs h. refl }
block-ends PendingBang element.DataBlock = record { errors = refl; scripts = λ k places. refl; facts = tt; lexeme = λ n. refl; reference = refl; place = λ n. refl; shown = λ bs h. refl }
block-ends PendingBangDash element.DataBlock = record { errors = refl; scripts = λ k places. refl; facts = tt; lexeme = λ n. refl; reference = refl; place = λ n. refl; shown = λ bs h. refl }
block-ends (PendingOpening letters) element.DataBlock = tt
block-ends Nothing _ = tt
block-ends LessAtCut _ = tt
block-ends PendingLess _ = tt
block-ends (PendingName letters) _ = tt
block-ends PendingBang _ = tt
block-ends PendingBangDash _ = tt
block-ends (PendingOpening letters) _ = tt

comment-ends : (s : CommentState) → Ends (InComment s) (comment_scan s)
comment-ends Inside = record { errors = refl; scripts = λ k places. refl; facts = tt; lexeme = λ n. refl; reference = refl; place = λ n. refl; shown = λ bs h. refl }
comment-ends Broken = record { errors = refl; scripts = λ k places. refl; facts = tt; lexeme = λ n. refl; reference = refl; place = λ n. refl; shown = λ bs h. refl }
comment-ends _ = record { errors = refl; scripts = λ k places. refl; facts = tt; lexeme = λ n. refl; reference = refl; place = λ n. refl; shown = λ bs h. refl }

attribute-ends : (t : Tag) (name : List ℕ) → Ends (AttributeName t name) (InAttributeName t.tag t.typed name)
attribute-ends t name =
    let k = kind_of (element_on t.tag) name in
    record {
      errors = refl;
      scripts = λ k places. refl;
      facts = tt;
      lexeme = λ n. refl;
      reference = refl;
      place = λ n. rw (unless-first (is_second_type t.typed k) (length name) None n.cut, same-typed t k) refl;
      shown = λ bs h. rw (same-typed t k) refl;
    }

whole-name-ends : (second : Bool) (t : Tag) (k : Kind) → is_second_type t.typed k ≡ second
    → WhereScanned (if second then None else Some (At (place.Tag (tag_spot t only_inside (Some k))))) (Ends (WholeAttributeName t k))
whole-name-ends true t k e = tt
whole-name-ends false t k e = record { errors = refl; scripts = λ k places. refl; facts = tt; lexeme = λ n. refl; reference = refl; place = λ n. rw e refl; shown = λ bs h. rw e refl }

after-name-ends : (second : Bool) (t : Tag) (k : Kind) → is_second_type t.typed k ≡ second
    → WhereScanned (if second then None else Some (At (place.Tag (tag_spot t only_after (Some k))))) (Ends (AfterAttributeName t k))
after-name-ends true t k e = tt
after-name-ends false t k e = record { errors = refl; scripts = λ k places. refl; facts = tt; lexeme = λ n. refl; reference = refl; place = λ n. rw e refl; shown = λ bs h. rw e refl }

-- the body of a value of a kind does not change, and its language refuses nothing
cut-body : (bs : List ℕ) (k : Kind) → value_body (cut_value languages (with_bytes languages (ValueOf (OfKind k)) bs)) ≡ value_body (ValueOf (OfKind k))
cut-body [] k = refl
cut-body (b ∷ bs) k = cut-body bs k

kind-whole : (bs : List ℕ) (k : Kind) → refuses_cut_of languages (with_bytes languages (ValueOf (OfKind k)) bs) ≡ None
kind-whole [] k = refl
kind-whole (b ∷ bs) k = kind-whole bs k

kind-before : (bs : List ℕ) (k : Kind) → value_body_before (with_bytes languages (ValueOf (OfKind k)) bs) ≡ value_body (ValueOf (OfKind k))
kind-before [] k = refl
kind-before (b ∷ bs) k = kind-before bs k

body-before : (step : ReferenceStep) (k : Kind) (c : Class) (f : Form) (bytes : List ℕ)
    → value_body_before (value_before step (ValueOf (OfKind k)) c f bytes) ≡ value_body (ValueOf (OfKind k))
body-before Breaks k c f bytes = kind-before (flushed true (is_equals_sign c) f bytes) k
body-before (Grows g) k c f bytes = refl
body-before Closes k c f bytes = refl

value-place : (q : Quoting) (t : Tag) (k : Kind) (x : Body) (r : Reference) → body_at (OfKind k) ≡ Some x
    → placed (at_cut languages (AttributeValue q t (ValueOf (OfKind k)) r)) ≡ Some (scan_place (value-at t (quotes_at q) x))
value-place q t k x r e = rw (cut-body (as_it_stands r) k, e) refl

value-shown : (q : Quoting) (t : Tag) (k : Kind) (x : Body) (r : Reference) (bs : List ℕ) → body_at (OfKind k) ≡ Some x
    → place_before_bytes (AttributeValue q t (ValueOf (OfKind k)) r) bs ≡ Some (scan_place (value-at t (quotes_at q) x))
value-shown q t k x Closed bs e = value-place q t k x Closed e
value-shown q t k x (Open f bytes) [] e = rw (kind-before (38 ∷ bytes) k, e) refl
value-shown q t k x (Open f bytes) (b ∷ bs) e = rw (body-before (turn (class_of b) f) k (class_of b) f bytes, e) refl

value-ends : (q : Quoting) (t : Tag) (k : Kind) (x : Body) (r : Reference) → body_at (OfKind k) ≡ Some x
    → Ends (AttributeValue q t (ValueOf (OfKind k)) r) (value-at t (quotes_at q) x)
value-ends q t k x r e = record {
  errors = fed-none (ValueOf (OfKind k)) (as_it_stands r) true (length (as_it_stands r)) tt;
  scripts = λ k places. refl;
  facts = tt;
  lexeme = λ n. kind-whole (as_it_stands r) k;
  reference = refl;
  place = λ n. value-place q t k x r e;
  shown = λ bs h. value-shown q t k x r bs e;
}

-- the end of a text in a URL
url-body : (u : Url) (bs : List ℕ)
    → value_body (cut_value languages (with_bytes languages (ValueOf (OfUrl u)) bs)) ≡ Some (body.Url (feed_bytes parts_feeding (parts_of u.part) bs))
url-body u [] = refl
url-body u (b ∷ bs) =
    url-body (feed_url u b) bs ∙ ap (λ (s : Parts). Some (body.Url (feed_bytes parts_feeding s bs))) (sym (one-next u.part (url_class_of b) b))

url-before : (u : Url) (bs : List ℕ)
    → value_body_before (with_bytes languages (ValueOf (OfUrl u)) bs) ≡ Some (body.Url (feed_bytes parts_feeding (parts_of u.part) bs))
url-before u [] = refl
url-before u (b ∷ bs) =
    url-before (feed_url u b) bs ∙ ap (λ (s : Parts). Some (body.Url (feed_bytes parts_feeding s bs))) (sym (one-next u.part (url_class_of b) b))

url-body-before : (step : ReferenceStep) (u : Url) (c : Class) (f : Form) (bytes : List ℕ)
    → value_body_before (value_before step (ValueOf (OfUrl u)) c f bytes) ≡ Some (parts_before step (body.Url (parts_of u.part)) c f bytes)
url-body-before Breaks u c f bytes = url-before u (flushed true (is_equals_sign c) f bytes)
url-body-before (Grows g) u c f bytes = refl
url-body-before Closes u c f bytes = refl

url-whole : (t : Triple) → option_map (λ (e : UrlCutRefusal). refusal_code e.refusal) (refuses_cut_in t) ≡ if_unfinished t
url-whole NoTriple = refl
url-whole AfterPercent = refl
url-whole AfterDigit = refl

url-lexeme : (u : Url) (bs : List ℕ) → refuses_cut_of languages (with_bytes languages (ValueOf (OfUrl u)) bs) ≡ if_unfinished (triple_behind u.triple bs)
url-lexeme u [] = url-whole u.triple
url-lexeme u (b ∷ bs) = url-lexeme (feed_url u b) bs

-- what the scan state of a URL says there, whichever form it has
pub url-scan-lexeme : (v : ValuePlace) (t : Triple) (r : Reference) → scan_lexeme_error (url_scan v t r) ≡ if_unfinished (triple_behind t (as_it_stands r))
url-scan-lexeme v NoTriple Closed = refl
url-scan-lexeme v NoTriple (Open f bytes) = refl
url-scan-lexeme v AfterPercent r = refl
url-scan-lexeme v AfterDigit r = refl

pub url-scan-cut : (t : Tag) (q : Quotes) (s : Parts) (x : Triple) (r : Reference)
    → scan_cut_error (url_scan (url_value t q s) x r) ≡ open_cut_error (body.Url s) (as_it_stands r)
url-scan-cut t q s NoTriple Closed = refl
url-scan-cut t q s NoTriple (Open f bytes) = refl
url-scan-cut t q s AfterPercent r = refl
url-scan-cut t q s AfterDigit r = refl

url-scan-place : (t : Tag) (q : Quotes) (s : Parts) (x : Triple) (r : Reference)
    → scan_place (url_scan (url_value t q s) x r) ≡ place.Value (url_value t q (feed_bytes parts_feeding s (as_it_stands r)))
url-scan-place t q s NoTriple Closed = refl
url-scan-place t q s NoTriple (Open f bytes) = refl
url-scan-place t q s AfterPercent r = refl
url-scan-place t q s AfterDigit r = refl

pub url-reference : (v : ValuePlace) (t : Triple) (r : Reference) → scan_reference (url_scan v t r) ≡ r
url-reference v NoTriple Closed = refl
url-reference v NoTriple (Open f bytes) = refl
url-reference v AfterPercent r = refl
url-reference v AfterDigit r = refl

pub url-shown : (q : Quoting) (t : Tag) (u : Url) (x : Triple) (r : Reference) (bs : List ℕ)
    → place_before_bytes (AttributeValue q t (ValueOf (OfUrl u)) r) bs ≡ scan_shown (url_scan (url_value t (quotes_at q) (parts_of u.part)) x r) bs
url-shown q t u NoTriple Closed bs = refl
url-shown q t u AfterPercent Closed bs = refl
url-shown q t u AfterDigit Closed bs = refl
url-shown q t u NoTriple (Open f bytes) [] = ap (value_spot t (quotes_at q)) (url-before u (as_it_stands (Open f bytes)))
url-shown q t u NoTriple (Open f bytes) (b ∷ bs) = ap (value_spot t (quotes_at q)) (url-body-before (turn (class_of b) f) u (class_of b) f bytes)
url-shown q t u AfterPercent (Open f bytes) [] = ap (value_spot t (quotes_at q)) (url-before u (as_it_stands (Open f bytes)))
url-shown q t u AfterPercent (Open f bytes) (b ∷ bs) = ap (value_spot t (quotes_at q)) (url-body-before (turn (class_of b) f) u (class_of b) f bytes)
url-shown q t u AfterDigit (Open f bytes) [] = ap (value_spot t (quotes_at q)) (url-before u (as_it_stands (Open f bytes)))
url-shown q t u AfterDigit (Open f bytes) (b ∷ bs) = ap (value_spot t (quotes_at q)) (url-body-before (turn (class_of b) f) u (class_of b) f bytes)

url-ends : (q : Quoting) (t : Tag) (u : Url) (r : Reference) → Ends (AttributeValue q t (ValueOf (OfUrl u)) r) (url_scanned q t u r)
url-ends q t u r =
    let v = url_value t (quotes_at q) (parts_of u.part) in
    record {
      errors = fed-alike urls-alike (as_it_stands r) true (length (as_it_stands r)) (ValueOf (OfUrl u)) (parts_of u.part) refl ∙ sym (url-scan-cut t (quotes_at q) (parts_of u.part) u.triple r);
      scripts = λ k places. url-scan-script-cut v u.triple r k places;
      facts = url-scan-facts (AttributeValue q t (ValueOf (OfUrl u)) r) v u.triple r;
      lexeme = λ n. url-lexeme u (as_it_stands r) ∙ sym (url-scan-lexeme v u.triple r);
      reference = sym (url-reference v u.triple r);
      place = λ n. ap (value_spot t (quotes_at q)) (url-body u (as_it_stands r)) ∙ ap Some (sym (url-scan-place t (quotes_at q) (parts_of u.part) u.triple r));
      shown = λ bs h. url-shown q t u u.triple r bs;
    }

-- in the value of a type there is no place
type-body : (bs before : List ℕ) → value_body (cut_value languages (with_bytes languages (Deciding kind.ScriptType before) bs)) ≡ None
type-body [] before = refl
type-body (b ∷ bs) before = type-body bs (before ++ b ∷ [])

type-whole : (bs before : List ℕ) → refuses_cut_of languages (with_bytes languages (Deciding kind.ScriptType before) bs) ≡ None
type-whole [] before = refl
type-whole (b ∷ bs) before = type-whole bs (before ++ b ∷ [])

type-body-before : (bs before : List ℕ) → value_body_before (with_bytes languages (Deciding kind.ScriptType before) bs) ≡ None
type-body-before [] before = refl
type-body-before (b ∷ bs) before = type-body-before bs (before ++ b ∷ [])

type-before : (step : ReferenceStep) (before : List ℕ) (c : Class) (f : Form) (bytes : List ℕ)
    → value_body_before (value_before step (Deciding kind.ScriptType before) c f bytes) ≡ None
type-before Breaks before c f bytes = type-body-before (flushed true (is_equals_sign c) f bytes) before
type-before (Grows g) before c f bytes = refl
type-before Closes before c f bytes = refl

type-shown : (q : Quoting) (t : Tag) (before : List ℕ) (r : Reference) (bs : List ℕ) → place_before_bytes (AttributeValue q t (Deciding kind.ScriptType before) r) bs ≡ None
type-shown q t before Closed bs = refl
type-shown q t before (Open f bytes) [] = rw (type-body-before (38 ∷ bytes) before) refl
type-shown q t before (Open f bytes) (b ∷ bs) = rw (type-before (turn (class_of b) f) before (class_of b) f bytes) refl

type-ends : (typed : Bool) (q : Quoting) (t : Tag) (before : List ℕ) (r : Reference) → WhereScanned (if typed then None else Some (InType t.tag q (Deciding kind.ScriptType before) r)) (Ends (AttributeValue q t (Deciding kind.ScriptType before) r))
type-ends true q t before r = tt
type-ends false q t before r = record {
  errors = refl;
  scripts = λ k places. refl;
  facts = tt;
  lexeme = λ n. type-whole (as_it_stands r) before;
  reference = refl;
  place = λ n. absurd (some _ n.cut);
  shown = λ bs h. type-shown q t before r bs;
}

begin-type-ends : (typed : Bool) (t : Tag) → WhereScanned (if typed then None else Some (BeforeType t.tag)) (Ends (BeforeAttributeValue t kind.ScriptType))
begin-type-ends true t = tt
begin-type-ends false t = record { errors = refl; scripts = λ k places. refl; facts = tt; lexeme = λ n. refl; reference = refl; place = λ n. absurd (some _ n.cut); shown = λ bs h. refl }

pub ends-agree : (s : LexState ValueState) → WhereScanned (scanned s) (Ends s)
ends-agree (Text r) = record { errors = refl; scripts = λ k places. refl; facts = tt; lexeme = λ n. refl; reference = refl; place = λ n. refl; shown = λ bs h. refl }
ends-agree (TagOpen r) = record { errors = refl; scripts = λ k places. refl; facts = tt; lexeme = λ n. refl; reference = refl; place = λ n. refl; shown = λ bs h. refl }
ends-agree (EndTagOpen r) = record { errors = refl; scripts = λ k places. refl; facts = tt; lexeme = λ n. refl; reference = refl; place = λ n. refl; shown = λ bs h. refl }
ends-agree (DeclarationOpen r pending) = record { errors = refl; scripts = λ k places. refl; facts = tt; lexeme = λ n. refl; reference = refl; place = λ n. refl; shown = λ bs h. refl }
ends-agree (InComment s) = comment-ends s
ends-agree BogusComment = tt
ends-agree InDoctype = record { errors = refl; scripts = λ k places. refl; facts = tt; lexeme = λ n. refl; reference = refl; place = λ n. refl; shown = λ bs h. refl }
ends-agree (TagName ends name) = record { errors = refl; scripts = λ k places. refl; facts = tt; lexeme = λ n. refl; reference = refl; place = λ n. refl; shown = λ bs h. refl }
ends-agree (WholeTagName t) = record { errors = refl; scripts = λ k places. refl; facts = tt; lexeme = λ n. refl; reference = refl; place = λ n. refl; shown = λ bs h. refl }
ends-agree (BeforeAttributeName t) = record { errors = refl; scripts = λ k places. refl; facts = tt; lexeme = λ n. refl; reference = refl; place = λ n. refl; shown = λ bs h. refl }
ends-agree (AttributeName t name) = attribute-ends t name
ends-agree (WholeAttributeName t k) = whole-name-ends (is_second_type t.typed k) t k refl
ends-agree (AfterAttributeName t k) = after-name-ends (is_second_type t.typed k) t k refl
ends-agree (BeforeAttributeValue t kind.Plain) = record { errors = refl; scripts = λ k places. refl; facts = tt; lexeme = λ n. refl; reference = refl; place = λ n. refl; shown = λ bs h. refl }
ends-agree (BeforeAttributeValue t kind.NoHole) = record { errors = refl; scripts = λ k places. refl; facts = tt; lexeme = λ n. refl; reference = refl; place = λ n. refl; shown = λ bs h. refl }
ends-agree (BeforeAttributeValue t kind.Url) = record { errors = refl; scripts = λ k places. refl; facts = tt; lexeme = λ n. refl; reference = refl; place = λ n. refl; shown = λ bs h. refl }
ends-agree (BeforeAttributeValue t kind.Script) = record { errors = refl; scripts = λ k places. refl; facts = tt; lexeme = λ n. refl; reference = refl; place = λ n. refl; shown = λ bs h. refl }
ends-agree (BeforeAttributeValue t kind.Style) = record { errors = refl; scripts = λ k places. refl; facts = tt; lexeme = λ n. refl; reference = refl; place = λ n. refl; shown = λ bs h. refl }
ends-agree (BeforeAttributeValue t kind.ScriptType) = begin-type-ends t.typed t
ends-agree (AttributeValue q t (ValueOf (OfKind kind.Plain)) r) = value-ends q t kind.Plain body.Plain r refl
ends-agree (AttributeValue q t (ValueOf (OfKind kind.NoHole)) r) = value-ends q t kind.NoHole body.NoHole r refl
ends-agree (AttributeValue q t (ValueOf (OfKind kind.Url)) r) = tt
ends-agree (AttributeValue q t (ValueOf (OfKind kind.Script)) r) = tt
ends-agree (AttributeValue q t (ValueOf (OfKind kind.Style)) r) = tt
ends-agree (AttributeValue q t (ValueOf (OfKind kind.ScriptType)) r) = tt
ends-agree (AttributeValue q t (ValueOf (OfUrl u)) r) = url-ends q t u r
ends-agree (AttributeValue q t (ValueOf (OfStyle s)) r) =
    where-styled q t s r (Ends (AttributeValue q t (ValueOf (OfStyle s)) r)) (style_scanned s) refl (λ n h. style-ends q t s n r h)
ends-agree (AttributeValue q t (ValueOf (OfScript s)) r) = value-script-ends q t s r
ends-agree (AttributeValue q t (Deciding kind.ScriptType before) r) = type-ends t.typed q t before r
ends-agree (AttributeValue q t (Deciding k before) r) = tt
ends-agree (AfterAttributeValue t) = record { errors = refl; scripts = λ k places. refl; facts = tt; lexeme = λ n. refl; reference = refl; place = λ n. refl; shown = λ bs h. refl }
ends-agree (SelfClosingStartTag t) = record { errors = refl; scripts = λ k places. refl; facts = tt; lexeme = λ n. refl; reference = refl; place = λ n. refl; shown = λ bs h. refl }
ends-agree (InContent e (Characters r) h) = content-ends h e r
ends-agree (InContent e Bytes h) = block-ends h e
ends-agree (InContent e (InLanguage v) h) = language-ends h e v
