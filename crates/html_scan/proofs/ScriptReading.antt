-- What is kept of the bytes that a script is fed goes with the scan state, byte by byte.
use Rattle.std.proofs.Common.{◌≡◌, ℕ, ◌+◌, ◌≤◌, ◌<◌, Bool, true, false, not, codes, List, [], ◌∷◌, ◌++◌, length, refl, sym, ◌∙◌, arith, if◌then◌else◌}
use Rattle.std.specs.Prelude.{get_or, Option, Some, None}
use Rattle.css_step.specs.StyleScans.{StyleScan, is_style_start, style_scan_place, style_scan_start}
use Rattle.js_step.specs.ScriptScans.{ScriptScan, script_scan_start}
use Rattle.place_core.specs.page.Classes.{Class, White, ExclamationMark, QuotationMark, Apostrophe, HyphenMinus, Solidus, LessThan, EqualsSign, GreaterThan, Letter, class_of}
use Rattle.place_core.specs.page.Comments.{Declaration, OpensNothing, closes_comment, declared_by, next_comment}
use Rattle.place_core.specs.page.Contents.{ScriptStep, Reads, EndsContent, is_name_of, may_be_name_of}
use Rattle.place_core.specs.page.Html.{ends_value}
use Rattle.place_core.specs.page.References.{Reference, Closed, Open, next_reference}
use Rattle.place_core.specs.page.States.{CommentState, Inside, Broken, Pending, Nothing, PendingLess, LessAtCut, PendingName, PendingBang, PendingBangDash, PendingOpening}
use Rattle.place_core.specs.page.Tags.{Value, ValueState, Quoting, Unquoted, element_on, feed_bytes, tag_of_name, value_start}
use Rattle.place_core.specs.page.Words.{kind_of}
use Rattle.place_core.specs.place.Errors.{FedByte, fed_places, first_places, places_with}
use Rattle.place_core.specs.place.StatePlaces.{body_at}
use Rattle.place_core.specs.declared.body.Body.{Body}
use Rattle.place_core.specs.declared.body.Body.TheVariants as body
use Rattle.place_core.specs.declared.element.Element.{Element}
use Rattle.place_core.specs.declared.element.Element.TheVariants as element
use Rattle.place_core.specs.declared.kind.Kind.{Kind}
use Rattle.place_core.specs.declared.kind.Kind.TheVariants as kind
use Rattle.place_core.specs.declared.place.Place.{Place}
use Rattle.place_core.specs.declared.place.Place.TheVariants as place
use Rattle.place_core.specs.declared.quotes.Quotes.{Quotes}
use Rattle.place_core.specs.declared.quotes.Quotes.TheVariants as quotes
use Rattle.place_core.specs.declared.tag_of.TagOf.{TagOf}
use Rattle.place_core.specs.declared.tag_of.TagOf.TheVariants as tag
use Rattle.place_core.specs.declared.tag_place.TagPlace.{TagPlace}
use Rattle.place_core.specs.declared.value_place.ValuePlace.{ValuePlace}
use Rattle.url_lexer.specs.Triples.{Triple, NoTriple, AfterPercent, AfterDigit}
use Rattle.html_scan.specs.Scans.{Scan, At, AfterLess, AfterLessSolidus, InDeclaration, InTagName, InAttributeName, InCommentEnd, InContentEnd, InStyleElement, InScriptElement, InUrl, InStyle, InScript, BeforeType, InType}
use Rattle.html_scan.specs.Scans.{after_type, attribute_name_next, bang_next, bare_begun, bare_leads, bare_white, before_type_next, begun_script_fed, body_scan, comment_closed, comment_next, comment_scan, comment_state, content_end_next, content_next, content_scan, declaration_next, doctype_next}
use Rattle.html_scan.specs.Scans.{element_less_next, element_name_next, element_next, element_pending_next, element_scan, empty_script_between, end_name_next, ended_type, less_next, pending_less_next, place_next, quoted_places, quotes_lead, scan_deep_behind, scan_fed_behind, scan_next, scan_script_cut_refusal, scan_script_refusal, script_fed_next, solidus_next}
use Rattle.html_scan.specs.Scans.{behind_end_name, scan_by_step, script_scan_step, style_fed, style_feeding, style_scan, tag_name_next, tag_next, text_scan, type_begun, type_next, type_tag, url_scan, value_between, value_fed, value_next, value_scan, with_style}
use Rattle.html_scan.specs.ScriptPlaces.{ReadsScript, ScriptReads, begins_behind, fed_of, has_begun, is_script_body, places_from, reference_behind}
use Rattle.html_scan.specs.Slices.{pending}
use Rattle.html_scan.proofs.FedTexts.{behind_last_byte, fed_last_byte}
use Rattle.html_scan.proofs.PendingNames.{length_pending, pending_grows, pending_nothing}

-- A scan state in no script, nor in the URL of a value that is one.
abbrev is_free : Scan → Bool
is_free (InScript v n r) = false
is_free (InUrl v t r) = not (is_script_body v.body)
is_free f = true

contradicts : {X : Type 0} → false ≡ true → X
contradicts e = absurd cc

not_true : (x : Bool) → not x ≡ true → x ≡ false
not_true true e = contradicts e
not_true false e = refl

free_reads : (text : List ℕ) (begins k : ℕ) (f : Scan) (places : List ℕ) → is_free f ≡ true → ReadsScript text begins k f places
free_reads text begins k (InScript v n r) places h = contradicts h
free_reads text begins k (InUrl v t r) places h = not_true (is_script_body v.body) h
free_reads text begins k _ places h = tt

free_if : (x : Bool) (f g : Scan) → is_free f ≡ true → is_free g ≡ true → is_free (if x then f else g) ≡ true
free_if true f g a b = a
free_if false f g a b = b

-- what a byte leads to, construct by construct
free_after_tag : (t : TagOf) → is_free (content_scan t) ≡ true
free_after_tag tag.End = refl
free_after_tag (tag.Start element.Title) = refl
free_after_tag (tag.Start element.Textarea) = refl
free_after_tag (tag.Start element.Style) = refl
free_after_tag (tag.Start element.Script) = refl
free_after_tag (tag.Start element.DataBlock) = refl
free_after_tag (tag.Start element.Other) = refl

free_text : (c : Class) → is_free (text_scan c) ≡ true
free_text LessThan = refl
free_text _ = refl

free_content : (c : Class) (e : Element) → is_free (content_next c e) ≡ true
free_content LessThan e = refl
free_content _ e = refl

free_pending_less : (c : Class) (e : Element) → is_free (pending_less_next c e) ≡ true
free_pending_less Solidus e = refl
free_pending_less ExclamationMark element.DataBlock = refl
free_pending_less ExclamationMark _ = refl
free_pending_less c e = free_content c e

free_doctype : (c : Class) → is_free (doctype_next c) ≡ true
free_doctype GreaterThan = refl
free_doctype _ = refl

free_comment_scan : (s : CommentState) → is_free (comment_scan s) ≡ true
free_comment_scan Inside = refl
free_comment_scan Broken = refl
free_comment_scan _ = refl

free_closed : (x : Bool) → is_free (comment_closed x) ≡ true
free_closed true = refl
free_closed false = refl

free_comment : (c : Class) (s : CommentState) → is_free (comment_next c s) ≡ true
free_comment GreaterThan s = free_closed (closes_comment s)
free_comment c s = free_comment_scan (next_comment s c)

free_body : (t : TagOf) (typed : Bool) (o : Option Body) → is_free (body_scan t typed o) ≡ true
free_body t typed None = refl
free_body t typed (Some b) = refl

free_value_scan : (t : TagOf) (typed : Bool) (o : Option Kind) → is_free (value_scan t typed o) ≡ true
free_value_scan t typed None = refl
free_value_scan t typed (Some kind.ScriptType) = refl
free_value_scan t typed (Some k) = free_body t typed (body_at (value_start k))

free_tag : (t : TagPlace) (c : Class) (b : ℕ) → is_free (tag_next t c b) ≡ true
free_tag t White b = refl
free_tag t Solidus b = refl
free_tag t GreaterThan b = free_after_tag t.tag
free_tag t EqualsSign b = free_value_scan t.tag t.typed t.kind
free_tag t _ b = refl

free_bare_white : (v : ValuePlace) (x : Bool) → is_free (bare_white v x) ≡ true
free_bare_white v true = refl
free_bare_white v false = refl

free_bare : (v : ValuePlace) (x : Bool) (c : Class) (f : Scan) → is_free f ≡ true → is_free (bare_leads v x c f) ≡ true
free_bare v x White f h = free_bare_white v x
free_bare v x QuotationMark f h = refl
free_bare v x Apostrophe f h = refl
free_bare v x GreaterThan f h = free_after_tag v.tag
free_bare v x _ f h = h

free_lead : (v : ValuePlace) (q : Quotes) (c : Class) (f : Quotes → Scan) → ((p : Quotes) → is_free (f p) ≡ true) → is_free (quotes_lead v q c f) ≡ true
free_lead v quotes.Dq QuotationMark f h = refl
free_lead v quotes.Sq Apostrophe f h = refl
free_lead v (quotes.Bare x) c f h = free_bare v x.uq c (f bare_begun) (h bare_begun)
free_lead v quotes.Dq _ f h = h quotes.Dq
free_lead v quotes.Sq _ f h = h quotes.Sq

free_url : (v : ValuePlace) (t : Triple) (r : Reference) → is_script_body v.body ≡ false → is_free (url_scan v t r) ≡ true
free_url v NoTriple Closed h = refl
free_url v NoTriple (Open f bytes) h = rw h refl
free_url v AfterPercent r h = rw h refl
free_url v AfterDigit r h = rw h refl

free_style : (v : ValuePlace) (s : StyleScan) (r : Reference) → is_free (style_scan v s r) ≡ true
free_style v s Closed = free_if (is_style_start s) (At (with_style v s)) (InStyle v s Closed) refl refl
free_style v s (Open f bytes) = refl

free_fed : (v : ValuePlace) (x : Body) (t : Triple) (r : Reference) (c : Class) (b : ℕ) → is_script_body x ≡ false
    → (p : Quotes) → is_free (value_fed v p x t r c b) ≡ true
free_fed v (body.Url s) t r c b h p = free_url _ _ _ refl
free_fed v (body.Css s) t r c b h p = free_style _ _ _
free_fed v (body.Js j) t r c b h p = contradicts (sym h)
free_fed v body.Plain t r c b h p = refl
free_fed v body.NoHole t r c b h p = refl

free_value : (v : ValuePlace) (t : Triple) (r : Reference) (c : Class) (b : ℕ) → is_script_body v.body ≡ false → is_free (value_next v t r c b) ≡ true
free_value v t r c b h = free_lead v v.quotes c (λ p. value_fed v p v.body t r c b) (free_fed v v.body t r c b h)

free_less : (c : Class) (b : ℕ) → is_free (less_next c b) ≡ true
free_less (Letter l) b = refl
free_less Solidus b = refl
free_less ExclamationMark b = refl
free_less c b = free_text c

free_solidus : (c : Class) (b : ℕ) → is_free (solidus_next c b) ≡ true
free_solidus (Letter l) b = refl
free_solidus c b = free_text c

free_declaration : (d : Declaration) (c : Class) (b : ℕ) (pending : List ℕ) → is_free (declaration_next d c b pending) ≡ true
free_declaration OpensNothing c b pending = free_text c
free_declaration _ c b pending = refl

free_tag_name : (c : Class) (b : ℕ) (ends : Bool) (name : List ℕ) → is_free (tag_name_next c b ends name) ≡ true
free_tag_name GreaterThan b ends name = free_after_tag (tag_of_name ends name)
free_tag_name _ b ends name = refl

free_attribute_name : (c : Class) (b : ℕ) (t : TagOf) (typed : Bool) (k : Kind) (name : List ℕ) → is_free (attribute_name_next c b t typed k name) ≡ true
free_attribute_name GreaterThan b t typed k name = free_after_tag t
free_attribute_name EqualsSign b t typed k name = free_value_scan t typed (Some k)
free_attribute_name _ b t typed k name = refl

free_end_name : (grows whole : Bool) (c : Class) (b : ℕ) (e : Element) (letters : List ℕ) → is_free (end_name_next grows whole c b e letters) ≡ true
free_end_name true true (Letter l) b e letters = refl
free_end_name true false (Letter l) b e letters = refl
free_end_name true true White b e letters = refl
free_end_name true false White b e letters = refl
free_end_name false true White b e letters = refl
free_end_name false false White b e letters = refl
free_end_name grows true Solidus b e letters = refl
free_end_name grows false Solidus b e letters = refl
free_end_name grows true GreaterThan b e letters = refl
free_end_name grows false GreaterThan b e letters = refl
free_end_name grows whole c b e letters = free_content c e

free_bang : (c : Class) (e : Element) → is_free (bang_next c e) ≡ true
free_bang HyphenMinus e = refl
free_bang c e = free_content c e

free_content_end : (h : Pending) (c : Class) (b : ℕ) (e : Element) → is_free (content_end_next h c b e) ≡ true
free_content_end PendingLess c b e = free_pending_less c e
free_content_end PendingBang c b e = free_bang c e
free_content_end (PendingName letters) c b e = free_end_name (may_be_name_of e (letters ++ b ∷ [])) (is_name_of e letters) c b e letters
free_content_end h c b e = free_content c e

free_element_scan : (s : StyleScan) → is_free (element_scan s) ≡ true
free_element_scan s = free_if (is_style_start s) (At (place.Style (style_scan_place s))) (InStyleElement s Nothing) refl refl

free_element : (s : StyleScan) (c : Class) (b : ℕ) → is_free (element_next s c b) ≡ true
free_element s LessThan b = refl
free_element s _ b = free_element_scan _

free_element_less : (s : StyleScan) (c : Class) (b : ℕ) → is_free (element_less_next s c b) ≡ true
free_element_less s Solidus b = refl
free_element_less s c b = free_element (feed_bytes style_feeding s (codes "<")) c b

free_element_name : (s : StyleScan) (grows whole : Bool) (c : Class) (b : ℕ) (letters : List ℕ) → is_free (element_name_next s grows whole c b letters) ≡ true
free_element_name s true whole (Letter l) b letters = refl
free_element_name s grows true White b letters = refl
free_element_name s grows true Solidus b letters = refl
free_element_name s grows true GreaterThan b letters = refl
free_element_name s grows whole c b letters = free_element (feed_bytes style_feeding s (codes "</" ++ letters)) c b

free_element_pending : (s : StyleScan) (h : Pending) (c : Class) (b : ℕ) → is_free (element_pending_next s h c b) ≡ true
free_element_pending s Nothing c b = free_element s c b
free_element_pending s PendingLess c b = free_element_less s c b
free_element_pending s LessAtCut c b = free_element (feed_bytes style_feeding s (codes "<")) c b
free_element_pending s (PendingName letters) c b =
    free_element_name s (may_be_name_of element.Style (letters ++ b ∷ [])) (is_name_of element.Style letters) c b letters
free_element_pending s PendingBang c b = free_element (feed_bytes style_feeding s (codes "<!")) c b
free_element_pending s PendingBangDash c b = free_element (feed_bytes style_feeding s (codes "<!-")) c b
free_element_pending s (PendingOpening letters) c b = free_element (feed_bytes style_feeding s (codes "<" ++ letters)) c b

free_end_tag : (c : Class) → is_free (behind_end_name c) ≡ true
free_end_tag White = refl
free_end_tag Solidus = refl
free_end_tag _ = refl

free_step : (n : ScriptScan) (s : ScriptStep) (c : Class) → is_free (scan_by_step n s c) ≡ true
free_step n (Reads bytes h) c = refl
free_step n (EndsContent letters) c = free_end_tag c

free_before_type : (c : Class) (b : ℕ) (t : TagOf) → is_free (before_type_next c b t) ≡ true
free_before_type GreaterThan b t = free_after_tag (type_tag t type_begun)
free_before_type _ b t = refl

free_after_type : (q : Quoting) (c : Class) (t : TagOf) → is_free (after_type q c t) ≡ true
free_after_type Unquoted GreaterThan t = free_after_tag t
free_after_type Unquoted _ t = refl
free_after_type _ c t = refl

free_type : (ends : Bool) (c : Class) (b : ℕ) (t : TagOf) (q : Quoting) (v : Value ValueState) (r : Reference) → is_free (type_next ends c b t q v r) ≡ true
free_type true c b t q v r = free_after_type q c (type_tag t (ended_type v r))
free_type false c b t q v r = refl

-- In a script: the places grow by those of the byte.
places_behind : (xs ys : List FedByte) (before : List ℕ) → places_with (xs ++ ys) before ≡ places_with ys (places_with xs before)
places_behind [] ys before = refl
places_behind (x ∷ xs) ys before = places_behind xs ys (x.place ∷ before)

places_grow : (text : List ℕ) (begins k : ℕ) (r : Reference) (places : List ℕ) (b : ℕ) → begins ≤ k → k < length text → b ≡ get_or text k 0
    → reference_behind Closed (pending text begins k) ≡ r → places ≡ places_from text begins k
    → places_with (fed_places false k r (class_of b) b) places ≡ places_from text begins (k + 1)
places_grow text begins k r places b h i here e p =
    let read = pending text begins k in
    let longer : pending text begins (k + 1) ≡ read ++ b ∷ [] = rw here (pending_grows text begins k h i) in
    let reached : begins + length read ≡ k = omega (arith, h, length_pending text begins k (omega (arith, i))) in
    rw (longer, fed_last_byte begins Closed read b, reached, e, p)
    (sym (places_behind (fed_of begins Closed read) (fed_places false k r (class_of b) b) []))

goes_on : (text : List ℕ) (begins k : ℕ) (q p : Quotes) (r : Reference) (places : List ℕ) (c : Class) (b : ℕ) → k < length text → b ≡ get_or text k 0
    → c ≡ class_of b → has_begun p ≡ true → ScriptReads text begins k q r places
    → ScriptReads text begins (k + 1) p (next_reference r c b) (places_with (fed_places false k r c b) places)
goes_on text begins k q p r places c b i here e u s =
    let longer : pending text begins (k + 1) ≡ pending text begins k ++ b ∷ [] = rw here (pending_grows text begins k s.begun i) in
    let behind : reference_behind Closed (pending text begins (k + 1)) ≡ next_reference r c b =
    rw (longer, behind_last_byte Closed (pending text begins k) b, s.behind, e) refl in
    let fed : places_with (fed_places false k r c b) places ≡ places_from text begins (k + 1) =
    rw e (places_grow text begins k r places b s.begun i here s.behind s.fed) in
    record { begun = omega (arith, s.begun); quotes = u; behind = behind; fed = fed }

begins_here : (text : List ℕ) (k : ℕ) → ScriptReads text k k bare_begun Closed []
begins_here text k =
    let nothing : pending text k k ≡ [] = pending_nothing text k in
    let behind : reference_behind Closed (pending text k k) ≡ Closed = rw nothing refl in
    let fed : [] ≡ places_from text k k = rw nothing refl in
    record { begun = omega arith; quotes = refl; behind = behind; fed = fed }

-- Where a byte leads by the quotes of a script.
bare_reads : (text : List ℕ) (begins m : ℕ) (v : ValuePlace) (x : Bool) (k : ℕ) (r : Reference) (c : Class) (b : ℕ) (places : List ℕ) (f : Scan)
    → ReadsScript text begins m f (places_with (fed_places false k r c b) places) → (x ≡ false → r ≡ Closed)
    → ReadsScript text begins m (bare_leads v x c f) (places_with (if x then fed_places (ends_value Unquoted c) k r c b else first_places k c b) places)
bare_reads text begins m v true k r White b places f h n = tt
bare_reads text begins m v false k r White b places f h n = tt
bare_reads text begins m v x k r QuotationMark b places f h n = tt
bare_reads text begins m v x k r Apostrophe b places f h n = tt
bare_reads text begins m v x k r GreaterThan b places f h n = free_reads text begins m (content_scan v.tag) _ (free_after_tag v.tag)
bare_reads text begins m v true k r _ b places f h n = h
bare_reads text begins m v false k r _ b places f h n = rw (n refl) at h

quoted_reads : (text : List ℕ) (begins m : ℕ) (v : ValuePlace) (q : Quotes) (k : ℕ) (r : Reference) (c : Class) (b : ℕ) (places : List ℕ) (f : Quotes → Scan)
    → ((p : Quotes) → has_begun p ≡ true → ReadsScript text begins m (f p) (places_with (fed_places false k r c b) places))
    → (has_begun q ≡ false → r ≡ Closed)
    → ReadsScript text begins m (quotes_lead v q c f) (places_with (quoted_places q k r c b) places)
quoted_reads text begins m v quotes.Dq k r QuotationMark b places f h n = tt
quoted_reads text begins m v quotes.Sq k r Apostrophe b places f h n = tt
quoted_reads text begins m v (quotes.Bare x) k r c b places f h n = bare_reads text begins m v x.uq k r c b places (f bare_begun) (h bare_begun refl) n
quoted_reads text begins m v quotes.Dq k r _ b places f h n = h quotes.Dq refl
quoted_reads text begins m v quotes.Sq k r _ b places f h n = h quotes.Sq refl

begun_reads : (text : List ℕ) (k : ℕ) (v : ValuePlace) (x : Body) (c : Class) (b : ℕ) → k < length text → b ≡ get_or text k 0 → c ≡ class_of b
    → ReadsScript text k (k + 1) (quotes_lead v v.quotes c (λ p. value_fed v p x NoTriple Closed c b)) (begun_script_fed x v.quotes k c b)
begun_reads text k v (body.Js j) c b i here e =
    quoted_reads text k (k + 1) v v.quotes k Closed c b [] (λ p. script_fed_next (empty_script_between v p) (script_scan_start j) Closed c b)
    (λ p u. goes_on text k k bare_begun p Closed [] c b i here e u (begins_here text k)) (λ n. refl)
begun_reads text k v (body.Url s) c b i here e =
    free_reads text k (k + 1) _ _ (free_lead v v.quotes c (λ p. value_fed v p (body.Url s) NoTriple Closed c b) (free_fed v (body.Url s) NoTriple Closed c b refl))
begun_reads text k v (body.Css s) c b i here e =
    free_reads text k (k + 1) _ _ (free_lead v v.quotes c (λ p. value_fed v p (body.Css s) NoTriple Closed c b) (free_fed v (body.Css s) NoTriple Closed c b refl))
begun_reads text k v body.Plain c b i here e =
    free_reads text k (k + 1) _ _ (free_lead v v.quotes c (λ p. value_fed v p body.Plain NoTriple Closed c b) (free_fed v body.Plain NoTriple Closed c b refl))
begun_reads text k v body.NoHole c b i here e =
    free_reads text k (k + 1) _ _ (free_lead v v.quotes c (λ p. value_fed v p body.NoHole NoTriple Closed c b) (free_fed v body.NoHole NoTriple Closed c b refl))

place_reads : (text : List ℕ) (k begins : ℕ) (p : Place) (places : List ℕ) (c : Class) (b : ℕ) → k < length text → b ≡ get_or text k 0 → c ≡ class_of b
    → ReadsScript text k (k + 1) (place_next p c b) (scan_fed_behind k places (At p) c b)
place_reads text k begins (place.Value v) places c b i here e = begun_reads text k v v.body c b i here e
place_reads text k begins place.Text places c b i here e = free_reads text k (k + 1) _ _ (free_text c)
place_reads text k begins place.Doctype places c b i here e = free_reads text k (k + 1) _ _ (free_doctype c)
place_reads text k begins (place.Comment dash) places c b i here e = free_reads text k (k + 1) _ _ (free_comment c (comment_state dash))
place_reads text k begins (place.Rcdata x) places c b i here e = free_reads text k (k + 1) _ _ (free_content c x)
place_reads text k begins (place.Tag t) places c b i here e = free_reads text k (k + 1) _ _ (free_tag t c b)
place_reads text k begins (place.Block lt) places c b i here e = free_reads text k (k + 1) _ _ (free_content c element.DataBlock)
place_reads text k begins (place.Style s) places c b i here e = free_reads text k (k + 1) _ _ (free_element (style_scan_start s) c b)
place_reads text k begins (place.Script j) places c b i here e =
    free_reads text k (k + 1) _ _ (free_step (script_scan_start j) (script_scan_step (script_scan_start j) Nothing c b) c)

not-begun : (q : Quotes) (r : Reference) → has_begun q ≡ true → has_begun q ≡ false → r ≡ Closed
not-begun q r t f = contradicts (sym f ∙ t)

pub reads_on : (text : List ℕ) (begins k : ℕ) (f : Scan) (places : List ℕ) (c : Class) (b : ℕ) → k < length text → b ≡ get_or text k 0 → c ≡ class_of b
    → ReadsScript text begins k f places
    → ReadsScript text (begins_behind k f begins) (k + 1) (scan_next f c b) (scan_fed_behind k places f c b)
reads_on text begins k (At p) places c b i here e s = place_reads text k begins p places c b i here e
reads_on text begins k (InScript v n r) places c b i here e s =
    quoted_reads text begins (k + 1) v v.quotes k r c b places (λ p. script_fed_next (value_between v p) n r c b)
    (λ p u. goes_on text begins k v.quotes p r places c b i here e u s) (not-begun v.quotes r s.quotes)
reads_on text begins k (InUrl v t r) places c b i here e s = free_reads text k (k + 1) _ _ (free_value v t r c b s)
reads_on text begins k (InStyle v n r) places c b i here e s =
    free_reads text k (k + 1) _ _ (free_lead v v.quotes c (λ p. style_fed (value_between v p) n r c b) (λ p. free_style _ _ _))
reads_on text begins k AfterLess places c b i here e s = free_reads text k (k + 1) _ _ (free_less c b)
reads_on text begins k AfterLessSolidus places c b i here e s = free_reads text k (k + 1) _ _ (free_solidus c b)
reads_on text begins k (InDeclaration pending) places c b i here e s =
    free_reads text k (k + 1) _ _ (free_declaration (declared_by (pending ++ b ∷ [])) c b pending)
reads_on text begins k (InTagName ends name) places c b i here e s = free_reads text k (k + 1) _ _ (free_tag_name c b ends name)
reads_on text begins k (InAttributeName t typed name) places c b i here e s =
    free_reads text k (k + 1) _ _ (free_attribute_name c b t typed (kind_of (element_on t) name) name)
reads_on text begins k (InCommentEnd x) places c b i here e s = free_reads text k (k + 1) _ _ (free_comment c x)
reads_on text begins k (InContentEnd x h) places c b i here e s = free_reads text k (k + 1) _ _ (free_content_end h c b x)
reads_on text begins k (InStyleElement x h) places c b i here e s = free_reads text k (k + 1) _ _ (free_element_pending x h c b)
reads_on text begins k (InScriptElement n h) places c b i here e s = free_reads text k (k + 1) _ _ (free_step n (script_scan_step n h c b) c)
reads_on text begins k (BeforeType t) places c b i here e s = free_reads text k (k + 1) _ _ (free_before_type c b t)
reads_on text begins k (InType t q v r) places c b i here e s = free_reads text k (k + 1) _ _ (free_type (ends_value q c) c b t q v r)

-- What a script refuses depends on the places where the state is in it alone.
pub refuses_alike : (text : List ℕ) (begins k : ℕ) (f : Scan) (places : List ℕ) (c : Class) (b : ℕ) → ReadsScript text begins k f places
    → scan_script_refusal k (places_from text begins k) f c b ≡ scan_script_refusal k places f c b
refuses_alike text begins k (InScript v n r) places c b s = rw s.fed refl
refuses_alike text begins k _ places c b s = refl

pub cuts_alike : (text : List ℕ) (begins k : ℕ) (f : Scan) (places : List ℕ) → ReadsScript text begins k f places
    → scan_script_cut_refusal k (places_from text begins k) f ≡ scan_script_cut_refusal k places f
cuts_alike text begins k (InScript v n r) places s = rw s.fed refl
cuts_alike text begins k _ places s = refl

pub deep_alike : (text : List ℕ) (begins k : ℕ) (f : Scan) (places : List ℕ) (c : Class) (b : ℕ) → ReadsScript text begins k f places
    → scan_deep_behind k (places_from text begins k) f c b ≡ scan_deep_behind k places f c b
deep_alike text begins k (InScript v n r) places c b s = rw s.fed refl
deep_alike text begins k _ places c b s = refl
