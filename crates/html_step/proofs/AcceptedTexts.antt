-- Whole texts: what is accepted is refused on no path, and on no two.
use Rattle.std.proofs.Common.{◌≡◌, ℕ, ◌+◌, zero, suc, Bool, false, true, if◌then◌else◌, List, [], ◌∷◌, length, Option, Some, None, Result, Ok, is_some, refl, sym, ap, ◌∙◌, subst, ⊎_elim, option_map, ◌++◌}
use Rattle.place_core.specs.page.Classes.{Class, class_of, is_equals_sign}
use Rattle.place_core.specs.page.Contents.{pending_bytes}
use Rattle.css_step.specs.StyleOrigins.{style_scan_parts}
use Rattle.css_step.specs.StyleScans.{StyleScan, is_style_start, style_scan_place}
use Rattle.css_step.specs.StyleSetLaws.{StyleScanBelow}
use Rattle.css_step.proofs.StyleGrowth.{styles-grow}
use Rattle.place_core.specs.place.ApartPlaces.{ArePlacesApart, HasApart, opened_apart, beginning_at, spell_apart}
use Rattle.place_core.specs.page.Paths.{at_cut}
use Rattle.place_core.specs.page.References.{Form, Reference, Closed, Open, ReferenceStep, Grows, Closes, Breaks, flushed, turn, as_it_stands}
use Rattle.place_core.specs.place.Places.{Below}
use Rattle.place_core.proofs.ApartPlacesFacts.{apart-sides, has-side, two-below}
use Rattle.place_core.specs.place.Errors.{node, PathRefusal, path_refusal, place_before_bytes, element_script, script_read, TextRead, nothing_read}
use Rattle.place_core.specs.place.PathPairs.{ApartBefore, ClashesInText, ClashesApart, MeetsColon, byte_clash, is_in_beginning, state_before, unknown_beginning}
use Rattle.place_core.specs.page.Html.{next}
use Rattle.place_core.specs.page.States.{AttributeName, AttributeValue, InContent, Characters, Bytes, InLanguage, Pending, Template, LexState}
use Rattle.place_core.specs.page.Tags.{Deciding, OfKind, OfUrl, OfStyle, Quoting, Tag, ValueOf, ValueState, feed_bytes, languages, OfScript, Value, with_bytes, feed_value, cut_value}
use Rattle.place_core.specs.place.StatePlaces.{placed, quotes_at, value_spot, value_body_before, value_body}
use Rattle.place_core.specs.place.UrlParts.{parts_of, placed_prefix}
use Rattle.place_core.specs.declared.body.Body.TheVariants as body
use Rattle.place_core.specs.declared.code.Code.{Code}
use Rattle.place_core.specs.declared.code.Code.TheVariants as code
use Rattle.place_core.specs.declared.element.Element.TheVariants as element
use Rattle.place_core.specs.declared.js.Js.{Js}
use Rattle.place_core.specs.declared.parts.Parts.{Parts}
use Rattle.place_core.specs.declared.place.Place.{Place}
use Rattle.place_core.specs.declared.place.Place.TheVariants as place
use Rattle.place_core.specs.declared.value_place.ValuePlace.{ValuePlace}
use Rattle.place_core.specs.declared.prefix.Prefix.{Prefix}
use Rattle.place_core.proofs.Semilattices.{none_some, one_value}
use Rattle.html_scan.specs.Scans.{Scan, At, AfterLess, AfterLessSolidus, InDeclaration, InTagName, InAttributeName, InUrl, InStyle, InStyleElement, InCommentEnd, InContentEnd, BeforeType, InType, pending_left, scan_place, scan_reference, scan_error, scan_next, style_feeding, triple_behind, url_scan, with_style, InScript, InScriptElement}
use Rattle.js_lexer.specs.Feeding.{feed_script}
use Rattle.js_lexer.specs.States.{ScriptState}
use Rattle.place_core.specs.place.ScriptParts.{script_js_before}
use Rattle.place_core.specs.declared.quotes.Quotes.{Quotes}
use Rattle.html_step.proofs.ScriptReads.{nil-fits}
use Rattle.html_step.proofs.ScriptSlashes.{slash-accepted}
use Rattle.html_step.specs.Laws.{AcceptsText}
use Rattle.html_step.specs.Origins.{is_apart, scan_parts}
use Rattle.html_step.specs.Steps.{stepped, scan_read_behind}
use Rattle.html_step.proofs.ApartParts.{both-apart, of-differs}
use Rattle.html_step.proofs.BelowScans.{below-element}
use Rattle.html_step.proofs.ElementsBelow.{under-element}
use Rattle.html_step.proofs.EndsApart.{element-apart, end-apart}
use Rattle.html_step.proofs.FedAlike.{fed-beside}
use Rattle.html_step.proofs.KeptBeginnings.{before-none, on_side}
use Rattle.html_step.proofs.Clashing.{ClashIs, begun-grows, both-refuse, clash-is, has-unbegun, has-unquoted, unbegun-grows, white_first, white_second}
use Rattle.html_step.proofs.PathScans.{scanned}
use Rattle.html_step.proofs.OneTexts.{Says, agrees-at, at-place, ends-at, one-text, says, stands-shown}
use Rattle.html_step.proofs.ReadScans.{Takes, not-broken, read_style, read_turn, read_value, read-below, read-ok, read-taken, read-valid, scan_read, takes}
use Rattle.html_step.proofs.ReadStates.{NonePending, Unknown, byte-shown, open-parts, own-place, read-state, shown-read, unknown, url-before}
use Rattle.html_step.proofs.ScanOrder.{ScanBelow, ScanValid, scan-grows, style-place-below}
use Rattle.html_step.proofs.StyleOrder.{styles-beside}
use Rattle.html_step.proofs.StylePaths.{StandsHere}
use Rattle.html_step.proofs.StyleUrls.{scan-opened}
use Rattle.html_step.proofs.UrlScans.{ScanPlain, above-parts, raw-opened, scan-plain}
use Rattle.html_step.proofs.ValidSteps.{scan-valid}
use Rattle.html_step.proofs.WholeTexts.{accepts-anywhere, end-ok, grows-from, grows-text, step-ok, text-steps}
use Rattle.url_lexer.specs.Parts.{UrlOpen}
use Rattle.url_lexer.specs.Prefixes as spelling
use Rattle.url_lexer.specs.Triples.{Triple, NoTriple, AfterPercent, AfterDigit}
use Rattle.url_step.specs.PartSets.{PartsBelow}

no : false ≡ true → ⊥
no e = cc

pub none-refused : (r : PathRefusal) (o : Option PathRefusal) → o ≡ None → o ≡ Some r → ⊥
none-refused r o e f = let same : None ≡ Some r = sym e ∙ f in cc

no-clash-by : (s t : LexState ValueState) (g h f : Scan) (c : Class) (b : ℕ) → scanned s ≡ Some g → scanned t ≡ Some h → ScanBelow g f → ScanBelow h f
    → scan_error f c b ≡ None → ClashIs s t c → ⊥
no-clash-by s t g h f c b i j l m n (white_first w u a) =
    both-refuse f b (begun-grows h f m (has-unquoted t h j a)) (unbegun-grows g f l (has-unbegun s g i u)) (subst (λ (y : Class). scan_error f y b ≡ None) w n)
no-clash-by s t g h f c b i j l m n (white_second w a u) =
    both-refuse f b (begun-grows g f l (has-unquoted s g i a)) (unbegun-grows h f m (has-unbegun t h j u)) (subst (λ (y : Class). scan_error f y b ≡ None) w n)

no-clash : (s t : LexState ValueState) (g h f : Scan) (c : Class) (b : ℕ) (e : Code) → scanned s ≡ Some g → scanned t ≡ Some h → ScanBelow g f → ScanBelow h f
    → scan_error f c b ≡ None → byte_clash s t c ≡ Some e → ⊥
no-clash s t g h f c b e i j l m n x = no-clash-by s t g h f c b i j l m n (clash-is s t c e x)

-- Two paths that are apart before a byte: the scan state says so, where it is read, and so it stands for the path of which it is not known what it
-- spells, which is accepted.
pub record Reads (s : LexState ValueState) (g f : Scan) (b : ℕ) (bs : List ℕ) : Type 0 where
  pub at : scanned (state_before s (b ∷ bs)) ≡ Some (scan_read g (b ∷ bs))
  pub valid : ScanValid (scan_read g (b ∷ bs))
  pub below : ScanBelow (scan_read g (b ∷ bs)) (scan_read f (b ∷ bs))
  pub spelled : spelling.Prefix
  pub parts : scan_parts (scan_read g (b ∷ bs)) ≡ Some (parts_of (UrlOpen spelled))
  pub shown : NonePending f (b ∷ bs) → (own : Place) → place_before_bytes s (b ∷ bs) ≡ Some own → beginning_at own ≡ Some (placed_prefix spelled)

-- where nothing is pending that comes to nothing at the byte
url-none : (v : ValuePlace) (t : Triple) (r : Reference) (bs : List ℕ) → NonePending (url_scan v t r) bs
url-none v NoTriple Closed bs = tt
url-none v NoTriple (Open f bytes) bs = tt
url-none v AfterPercent r bs = tt
url-none v AfterDigit r bs = tt

turn-none : (z : ReferenceStep) (v : ValuePlace) (t : Triple) (f : Form) (bytes : List ℕ) (c : Class) (bs : List ℕ) → NonePending (read_turn z v t f bytes c) bs
turn-none Breaks v t f bytes c bs =
    (let xs = flushed true (is_equals_sign c) f bytes in url-none (read_value v xs) (triple_behind t xs) Closed bs)
turn-none (Grows g) v t f bytes c bs = tt
turn-none Closes v t f bytes c bs = tt

style-none-by : (v : ValuePlace) (n : StyleScan) (x : Bool) (bs : List ℕ) → NonePending (if x then At (with_style v n) else InStyle v n Closed) bs
style-none-by v n true bs = tt
style-none-by v n false bs = tt

style-turn-none : (z : ReferenceStep) (v : ValuePlace) (n : StyleScan) (f : Form) (bytes : List ℕ) (c : Class) (bs : List ℕ)
    → NonePending (read_style z v n f bytes c) bs
style-turn-none Breaks v n f bytes c bs =
    (let m = feed_bytes style_feeding n (flushed true (is_equals_sign c) f bytes) in style-none-by v m (is_style_start m) bs)
style-turn-none (Grows g) v n f bytes c bs = tt
style-turn-none Closes v n f bytes c bs = tt

read-none : (g : Scan) (b : ℕ) (bs : List ℕ) → NonePending g (b ∷ bs) → NonePending (scan_read g (b ∷ bs)) (b ∷ bs)
read-none (InStyleElement n x) b bs p = p
read-none (InUrl v t (Open f bytes)) b bs p = turn-none (turn (class_of b) f) v t f bytes (class_of b) (b ∷ bs)
read-none (InUrl v t Closed) b bs p = tt
read-none (InStyle v n (Open f bytes)) b bs p = style-turn-none (turn (class_of b) f) v n f bytes (class_of b) (b ∷ bs)
read-none (InStyle v n Closed) b bs p = tt
read-none _ b bs p = tt

below-none : (g f : Scan) (b : ℕ) (bs : List ℕ) → ScanBelow g f → NonePending f (b ∷ bs) → NonePending g (b ∷ bs)
below-none (InStyleElement n x) f b bs l p =
    under-element (λ y. NonePending y (b ∷ bs) → NonePending (InStyleElement n x) (b ∷ bs)) n x f l (λ m i e. e)
    (λ d j i e. ap (λ (y : Pending). pending_left element.Style y (b ∷ bs)) j) p
below-none _ f b bs l p = tt

pub reads : (s : LexState ValueState) (g f : Scan) (b : ℕ) (bs : List ℕ) → scanned s ≡ Some g → ScanValid g → ScanValid f → Takes f b → ScanBelow g f
    → is_in_beginning (state_before s (b ∷ bs)) ≡ true → Reads s g f b bs
reads s g f b bs e v w a l o =
    let u = url-before s (b ∷ bs) o in
    let k = read-taken g f b bs a l in
    let at = read-state s g (b ∷ bs) u e k in
    let p = open-parts (state_before s (b ∷ bs)) (scan_read g (b ∷ bs)) o at in
    record {
      at = at;
      valid = read-valid g (b ∷ bs) v;
      below = read-below g f b bs w a l;
      spelled = p.0;
      parts = p.1;
      shown = λ n own h.
          let none = below-none g f b bs l n in
          let d = shown-read (scan_read g (b ∷ bs)) b bs (parts_of (UrlOpen p.0)) p.1 (not-broken g b bs (parts_of (UrlOpen p.0)) p.1) (read-none g b bs none) in
          ap beginning_at (one_value own d.place (sym h ∙ own-place s g (b ∷ bs) u e k (byte-shown (scan_reference g) b bs) none ∙ d.is)) ∙ d.opened;
    }

differ-apart : (p q : Place) (x y : Prefix) → beginning_at p ≡ Some x → beginning_at q ≡ Some y → ArePlacesApart p q → spell_apart x y ≡ true
differ-apart p q x y e i h = sym (ap (λ (o : Option Prefix). opened_apart o (beginning_at q)) e ∙ ap (opened_apart (Some x)) i) ∙ h

-- the parts of the scan state that is read
read-apart : (s t : LexState ValueState) (g h f : Scan) (b : ℕ) (bs : List ℕ) (x : Reads s g f b bs) (y : Reads t h f b bs)
    → spell_apart (placed_prefix x.spelled) (placed_prefix y.spelled) ≡ true
    → (p : Parts) × (scan_parts (scan_read f (b ∷ bs)) ≡ Some p) × (is_apart (Some p) ≡ true)
read-apart s t g h f b bs x y a =
    let p = above-parts (scan_read g (b ∷ bs)) (scan_read f (b ∷ bs)) (parts_of (UrlOpen x.spelled)) x.below x.parts in
    let q = above-parts (scan_read h (b ∷ bs)) (scan_read f (b ∷ bs)) (parts_of (UrlOpen y.spelled)) y.below y.parts in
    let same : q.0 ≡ p.0 = one_value q.0 p.0 (sym q.1 ∙ p.1) in (
      p.0,
      p.1,
      both-apart (placed_prefix x.spelled) (placed_prefix y.spelled) p.0.opened a (ap (λ (z : Parts). z.opened) p.2)
          (ap (λ (z : Parts). z.opened) (subst (λ (z : Parts). PartsBelow (parts_of (UrlOpen y.spelled)) z) same q.2)),
    )

apart-at : (s t : LexState ValueState) (g h f : Scan) (b : ℕ) (bs : List ℕ) (x : Reads s g f b bs) (y : Reads t h f b bs) → NonePending f (b ∷ bs)
    → ApartBefore (b ∷ bs) s t → (p : Parts) × (scan_parts (scan_read f (b ∷ bs)) ≡ Some p) × (is_apart (Some p) ≡ true)
apart-at s t g h f b bs x y n a =
    read-apart s t g h f b bs x y
    (differ-apart a.own a.other_own (placed_prefix x.spelled) (placed_prefix y.spelled) (x.shown n a.own a.stands) (y.shown n a.other_own a.other_stands) a.apart)

-- In the element, where bytes are pending, the two places are below one, and with these bytes no paths come apart.
own-shown : (s : LexState ValueState) (n m : StyleScan) (k : Pending) (b : ℕ) (bs : List ℕ) (own : Place) → scanned s ≡ Some (InStyleElement n k)
    → StyleScanBelow n m → scan_error (InStyleElement m k) (class_of b) b ≡ None → place_before_bytes s (b ∷ bs) ≡ Some own
    → Below own (scan_place (InStyleElement m (pending_left element.Style k (b ∷ bs))))
own-shown s n m k b bs own i l e h =
    let left = pending_bytes (pending_left element.Style k (b ∷ bs)) in
    let taken = stands-shown (InStyleElement m k) (b ∷ bs) tt (subst StandsHere (sym e) tt) in
    let fed = fed-beside styles-beside left true (length left) n m l taken in
    let low = feed_bytes style_feeding n left in
    let high = feed_bytes style_feeding m left in
    let is : place.Style (style_scan_place low) ≡ own = one_value (place.Style (style_scan_place low)) own
    (sym ((ends-at s (InStyleElement n k) i).shown (b ∷ bs) fed.0) ∙ h) in
    subst (λ (p : Place). Below p (place.Style (style_scan_place high))) is
    (style-place-below (style_scan_place low) (style_scan_place high) (styles-grow.scans low high fed.1).place)

own-under : (s : LexState ValueState) (g : Scan) (m : StyleScan) (k : Pending) (b : ℕ) (bs : List ℕ) (own : Place) → scanned s ≡ Some g
    → ScanBelow g (InStyleElement m k) → scan_error (InStyleElement m k) (class_of b) b ≡ None → place_before_bytes s (b ∷ bs) ≡ Some own
    → Below own (scan_place (InStyleElement m (pending_left element.Style k (b ∷ bs))))
own-under s g m k b bs own i l e h =
    below-element (λ x. scanned s ≡ Some x → Below own (scan_place (InStyleElement m (pending_left element.Style k (b ∷ bs))))) m k
    (λ n j u. own-shown s n m k b bs own u j e h) g l i

element-met : (s t : LexState ValueState) (g h : Scan) (m : StyleScan) (k : Pending) (b : ℕ) (bs : List ℕ) (p : Parts) → scanned s ≡ Some g → scanned t ≡ Some h
    → ScanBelow g (InStyleElement m k) → ScanBelow h (InStyleElement m k) → scan_error (InStyleElement m k) (class_of b) b ≡ None
    → style_scan_parts m ≡ Some p → ApartBefore (b ∷ bs) s t → is_apart (Some p) ≡ true
element-met s t g h m k b bs p i j l n e u a =
    let left = pending_left element.Style k (b ∷ bs) in
    let there = two-below a.own a.other_own (scan_place (InStyleElement m left)) (own-under s g m k b bs a.own i l e a.stands)
    (own-under t h m k b bs a.other_own j n e a.other_stands) a.apart in
    of-differs p.opened (sym (scan-opened m p u) ∙ element-apart left m there)

-- So the parts of the scan state that is read are those of paths that met apart.
pub met-at : (s t : LexState ValueState) (g h f : Scan) (b : ℕ) (bs : List ℕ) (x : Reads s g f b bs) (y : Reads t h f b bs) → scanned s ≡ Some g
    → scanned t ≡ Some h → ScanBelow g f → ScanBelow h f → scan_error f (class_of b) b ≡ None → ApartBefore (b ∷ bs) s t
    → (p : Parts) × (scan_parts (scan_read f (b ∷ bs)) ≡ Some p) × (is_apart (Some p) ≡ true)
met-at s t g h (InStyleElement m k) b bs x y i j l n e a =
    let p = above-parts (scan_read g (b ∷ bs)) (InStyleElement m k) (parts_of (UrlOpen x.spelled)) x.below x.parts in
    (p.0, p.1, element-met s t g h m k b bs p.0 i j l n e p.1 a)
met-at s t g h (At z) b bs x y i j l n e a = apart-at s t g h (At z) b bs x y tt a
met-at s t g h (InUrl v z r) b bs x y i j l n e a = apart-at s t g h (InUrl v z r) b bs x y tt a
met-at s t g h (InStyle v z r) b bs x y i j l n e a = apart-at s t g h (InStyle v z r) b bs x y tt a
met-at s t g h (InScript v z r) b bs x y i j l n e a = apart-at s t g h (InScript v z r) b bs x y tt a
met-at s t g h (InScriptElement z r) b bs x y i j l n e a = apart-at s t g h (InScriptElement z r) b bs x y tt a
met-at s t g h AfterLess b bs x y i j l n e a = apart-at s t g h AfterLess b bs x y tt a
met-at s t g h AfterLessSolidus b bs x y i j l n e a = apart-at s t g h AfterLessSolidus b bs x y tt a
met-at s t g h (InDeclaration z) b bs x y i j l n e a = apart-at s t g h (InDeclaration z) b bs x y tt a
met-at s t g h (InTagName z w) b bs x y i j l n e a = apart-at s t g h (InTagName z w) b bs x y tt a
met-at s t g h (InAttributeName z w v) b bs x y i j l n e a = apart-at s t g h (InAttributeName z w v) b bs x y tt a
met-at s t g h (InCommentEnd z) b bs x y i j l n e a = apart-at s t g h (InCommentEnd z) b bs x y tt a
met-at s t g h (InContentEnd z w) b bs x y i j l n e a = apart-at s t g h (InContentEnd z w) b bs x y tt a
met-at s t g h (BeforeType z) b bs x y i j l n e a = apart-at s t g h (BeforeType z) b bs x y tt a
met-at s t g h (InType z w v u) b bs x y i j l n e a = apart-at s t g h (InType z w v u) b bs x y tt a

unknown-accepted : (bytes : List ℕ) (k : ℕ) (since : TextRead) (s : LexState ValueState) (f : Scan) (q : Place) (u : Unknown s f) (x : PathRefusal) → stepped k since bytes f ≡ Ok q
    → path_refusal bytes (unknown_beginning s) ≡ Some x → ⊥
unknown-accepted bytes k since s f q u x o h =
    let a = grows-from bytes 0 nothing_read nothing_read u.scan f q refl u.valid u.below (accepts-anywhere bytes k since 0 nothing_read f q refl o) in
    none-refused x (path_refusal bytes (unknown_beginning s))
    (subst (λ (r : Result Place PathRefusal). Says r 0 nothing_read bytes (unknown_beginning s)) a.1 (says bytes 0 nothing_read (unknown_beginning s) u.scan u.at (nil-fits (unknown_beginning s)))).0 h

-- At the end of a text the place is above those of paths that are apart there. In a script none is.
script-sides : (t : Tag) (q : Quotes) (o : Option Js) (a : Place) → value_spot t q (option_map body.Js o) ≡ Some a
    → is_some (beginning_at a) ≡ true → ⊥
script-sides t q (Some j) a e h =
    no (ap (λ (x : Place). is_some (beginning_at x)) (one_value (place.Value (record { tag = t.tag; typed = t.typed; quotes = q; body = body.Js j })) a e) ∙ h)
script-sides t q None a e h = absurd (none_some a e)

element-side : (o : Option Js) (a : Place) → option_map place.Script o ≡ Some a → is_some (beginning_at a) ≡ true → ⊥
element-side (Some j) a e h = no (ap (λ (x : Place). is_some (beginning_at x)) (one_value (place.Script j) a e) ∙ h)
element-side None a e h = none_some a e

script-value-side : (t : Tag) (q : Quotes) (v : Value ValueState) (bytes : List ℕ) (s : ScriptState) → v ≡ ValueOf (OfScript s) → (a : Place)
    → value_spot t q (value_body_before v) ≡ Some a → is_some (beginning_at a) ≡ true → ⊥
script-value-side t q v bytes s d a e h =
    script-sides t q (script_js_before s) a (sym (ap (λ (x : Value ValueState). value_spot t q (value_body_before x)) d) ∙ e) h

script-bytes : (bytes : List ℕ) (s : ScriptState) → (r : ScriptState) × (with_bytes languages (ValueOf (OfScript s)) bytes ≡ ValueOf (OfScript r))
script-bytes [] s = (s, refl)
script-bytes (b ∷ []) s = (feed_script s b, refl)
script-bytes (b ∷ d ∷ bs) s = script-bytes (d ∷ bs) (feed_script s b)

-- of a value that is no script it is the one at the end of the text
abbrev IsNoScript : Value ValueState → Type 0
IsNoScript (ValueOf (OfScript v)) = ⊥
IsNoScript v = Unit {0}

before-cut : (bytes : List ℕ) (v : Value ValueState) → IsNoScript v
    → value_body_before (with_bytes languages v bytes) ≡ value_body (cut_value languages (with_bytes languages v bytes))
before-cut [] (ValueOf (OfKind k)) i = refl
before-cut [] (ValueOf (OfUrl u)) i = refl
before-cut [] (ValueOf (OfStyle v)) i = refl
before-cut [] (ValueOf (OfScript v)) i = absurd i
before-cut [] (Deciding k before) i = refl
before-cut (b ∷ bs) (ValueOf (OfKind k)) i = before-cut bs (ValueOf (OfKind k)) tt
before-cut (b ∷ bs) (ValueOf (OfUrl u)) i = before-cut bs (ValueOf (feed_value (OfUrl u) b)) tt
before-cut (b ∷ bs) (ValueOf (OfStyle v)) i = before-cut bs (ValueOf (feed_value (OfStyle v) b)) tt
before-cut (b ∷ bs) (ValueOf (OfScript v)) i = absurd i
before-cut (b ∷ bs) (Deciding k before) i = before-cut bs (Deciding k (before ++ b ∷ [])) tt

before-whole : (q : Quoting) (t : Tag) (v : Value ValueState) (r : Reference) (a : Place) → place_before_bytes (AttributeValue q t v r) [] ≡ Some a
    → value_spot t (quotes_at q) (value_body_before (with_bytes languages v (as_it_stands r))) ≡ Some a
before-whole q t v Closed a e = e
before-whole q t v (Open f bytes) a e = e

pub before-side : (s : LexState ValueState) (a : Place) → place_before_bytes s [] ≡ Some a → is_some (beginning_at a) ≡ true
    → placed (at_cut languages s) ≡ Some a
before-side (AttributeName t name) a e h = absurd (no (ap on_side e ∙ h))
before-side (AttributeValue q t (ValueOf (OfScript v)) Closed) a e h =
    (let d = script-bytes [] v in absurd (script-value-side t (quotes_at q) (with_bytes languages (ValueOf (OfScript v)) []) [] d.0 d.1 a e h))
before-side (AttributeValue q t (ValueOf (OfScript v)) (Open f bytes)) a e h =
    (let d = script-bytes (38 ∷ bytes) v in
    absurd (script-value-side t (quotes_at q) (with_bytes languages (ValueOf (OfScript v)) (38 ∷ bytes)) (38 ∷ bytes) d.0 d.1 a e h))
before-side (AttributeValue q t (ValueOf (OfKind k)) r) a e h = ap (value_spot t (quotes_at q)) (sym (before-cut (as_it_stands r) (ValueOf (OfKind k)) tt)) ∙ before-whole q t (ValueOf (OfKind k)) r a e
before-side (AttributeValue q t (ValueOf (OfUrl u)) r) a e h = ap (value_spot t (quotes_at q)) (sym (before-cut (as_it_stands r) (ValueOf (OfUrl u)) tt)) ∙ before-whole q t (ValueOf (OfUrl u)) r a e
before-side (AttributeValue q t (ValueOf (OfStyle v)) r) a e h = ap (value_spot t (quotes_at q)) (sym (before-cut (as_it_stands r) (ValueOf (OfStyle v)) tt)) ∙ before-whole q t (ValueOf (OfStyle v)) r a e
before-side (AttributeValue q t (Deciding k before) r) a e h = ap (value_spot t (quotes_at q)) (sym (before-cut (as_it_stands r) (Deciding k before) tt)) ∙ before-whole q t (Deciding k before) r a e
before-side (InContent x (InLanguage (OfScript v)) y) a e h =
    absurd (element-side (script_js_before (script_read element_script v (pending_bytes y))) a e h)
before-side (InContent x (InLanguage (OfKind k)) y) a e h = e
before-side (InContent x (InLanguage (OfUrl u)) y) a e h = e
before-side (InContent x (InLanguage (OfStyle v)) y) a e h = e
before-side (InContent x (Characters r) y) a e h = e
before-side (InContent x Bytes y) a e h = e
before-side _ a e h = e

-- the path's own place after the bytes, below the one of the text
pub own-after : (bytes : List ℕ) (k : ℕ) (since : TextRead) (s : LexState ValueState) (g f : Scan) (q : Place) → scanned s ≡ Some g → ScanValid g → ScanBelow g f
    → stepped k since bytes f ≡ Ok q → (a : Place) × (placed (node bytes s) ≡ Some a) × Below a q
own-after bytes k since s g f q i v l e =
    let r = grows-from bytes 0 nothing_read nothing_read g f q refl v l (accepts-anywhere bytes k since 0 nothing_read f q refl e) in
    (r.0, (subst (λ o. Says o 0 nothing_read bytes s) r.1 (says bytes 0 nothing_read s g i (nil-fits s))).1, r.2)

pub ends-apart : (k : ℕ) (since : TextRead) (f : Scan) (q : Place) (s t : LexState ValueState) (g h : Scan) → scanned s ≡ Some g → scanned t ≡ Some h
    → ScanValid g → ScanValid h → ScanBelow g f → ScanBelow h f → stepped k since [] f ≡ Ok q → ApartBefore [] s t → HasApart q
ends-apart k since f q s t g h i j v w l m e a =
    let sides = apart-sides a.own a.other_own a.apart in
    let x = own-after [] k since s g f q i v l e in
    let y = own-after [] k since t h f q j w m e in
    two-below a.own a.other_own q
    (subst (λ (z : Place). Below z q) (one_value x.0 a.own (sym x.1 ∙ before-side s a.own a.stands (has-side a.own sides.0))) x.2)
    (subst (λ (z : Place). Below z q) (one_value y.0 a.other_own (sym y.1 ∙ before-side t a.other_own a.other_stands (has-side a.other_own sides.1))) y.2)
    a.apart

never-apart : (bs : List ℕ) (k : ℕ) (since : TextRead) (f : Scan) (q : Place) (s t : LexState ValueState) (g h : Scan) (e : Code) (at : ℕ) → scanned s ≡ Some g
    → scanned t ≡ Some h → ScanValid g → ScanValid h → ScanBelow g f → ScanBelow h f → ScanValid f → ScanPlain f
    → stepped k since bs f ≡ Ok q → ApartBefore bs s t → ClashesApart bs (state_before s bs) (state_before t bs) e at → ⊥
never-apart [] k since f q s t g h e at i j v w l m z p o a c =
    let one : MeetsColon [] s at = subst (λ (x : LexState ValueState). MeetsColon [] x at) (before-none s) c.one in
    let there = end-apart f z (subst HasApart (sym (end-ok k since f q o).place) (ends-apart k since f q s t g h i j v w l m o a)) in
    let x = open-parts s g one.begins i in
    let y = above-parts g f (parts_of (UrlOpen x.0)) l x.1 in
    unknown-accepted [] k since s f q
    (unknown s g f y.0 one.begins i v y.1 (of-differs y.0.opened (sym (raw-opened f y.0 y.1) ∙ there)) l)
    (record { code = code.AmbigContext; at = at; shown = one.shown }) o one.refused
never-apart (b ∷ bs) k since f q s t g h e at i j v w l m z p o a c =
    let n = step-ok k since b bs f q o in
    let x = reads s g f b bs i v z (takes f b z n.0) l c.one.begins in
    let y = reads t h f b bs j w z (takes f b z n.0) m c.other.begins in
    let d = met-at s t g h f b bs x y i j l m n.0 a in
    unknown-accepted (b ∷ bs) k since (state_before s (b ∷ bs)) (scan_read f (b ∷ bs)) q
    (unknown (state_before s (b ∷ bs)) (scan_read g (b ∷ bs)) (scan_read f (b ∷ bs)) d.0 c.one.begins x.at x.valid d.1 d.2 x.below)
    (record { code = code.AmbigContext; at = at; shown = c.one.shown })
    (read-ok b bs k since f q z o)
    c.one.refused

never-clashes : (bytes : List ℕ) (k : ℕ) (since : TextRead) (f : Scan) (q : Place) (s t : LexState ValueState) (g h : Scan) (e : Code) (at : ℕ) → scanned s ≡ Some g
    → scanned t ≡ Some h → ScanValid g → ScanValid h → ScanBelow g f → ScanBelow h f → ScanValid f → ScanPlain f
    → stepped k since bytes f ≡ Ok q → ClashesInText bytes s t e at → ⊥
never-clashes [] k since f q s t g h e at i j v w l m z p o c = c
never-clashes (b ∷ bs) k since f q s t g h e zero i j v w l m z p o c = no-clash s t g h f (class_of b) b e i j l m (step-ok k since b bs f q o).0 c
never-clashes (b ∷ bs) k since f q s t g h e (suc at) i j v w l m z p o c =
    let n = step-ok k since b bs f q o in
    let x = scan-grows g f (class_of b) b refl v l n.0 in
    let y = scan-grows h f (class_of b) b refl w m n.0 in
    let after = next languages Template s (class_of b) b in
    let other = next languages Template t (class_of b) b in
    let i = (agrees-at s g b i).steps x.0 in
    let j = (agrees-at t h b j).steps y.0 in
    let last = scan_read_behind k since f (class_of b) b in
    let v = scan-valid g (class_of b) b v x.0 in
    let w = scan-valid h (class_of b) b w y.0 in
    let p = scan-plain f b p in
    let z = scan-valid f (class_of b) b z n.0 in
    ⊎_elim
    (λ d. never-apart bs (k + 1) last (scan_next f (class_of b) b) q after other (scan_next g (class_of b) b) (scan_next h (class_of b) b) e at i j v w x.1 y.1 z p n.1 d.0 d.1)
    (λ d. never-clashes bs (k + 1) last (scan_next f (class_of b) b) q after other (scan_next g (class_of b) b) (scan_next h (class_of b) b) e at i j v w x.1 y.1 z p n.1 d)
    c.2

pub accepts-text : AcceptsText
accepts-text bytes p q s v e i = (
  (let g = grows-text bytes i.own p q i.valid v i.below e in ((one-text bytes i.own s i.stands).0 g.0 g.1).0),
  λ t x at j c. ⊎_elim
      (λ d. never-clashes bytes 0 nothing_read (At p) q s t (At i.own) (At j.own) x at (at-place s i.own i.stands) (at-place t j.own j.stands)
      i.valid j.valid i.below j.below v tt (text-steps bytes p q e) d)
      (λ d. slash-accepted bytes p q s t x at v e i j d) c,
)
