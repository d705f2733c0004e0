-- What is pending back at a scan state in the element `style`. Paths come apart there only at a byte that is fed alone, behind which
-- nothing is pending.
use Rattle.std.proofs.Common.{◌≡◌, ℕ, Bool, true, false, List, [], ◌∷◌, ◌++◌, if◌then◌else◌, refl, sym, ap, ◌∙◌, subst, arith, ◌⊎◌, inl, inr}
use Rattle.css_step.specs.StyleScans.{StyleScan, is_style_start, style_scan_place, style_scan_start}
use Rattle.place_core.specs.page.Classes.{Class, White, QuotationMark, Apostrophe, Solidus, LessThan, GreaterThan, Letter, class_of, is_equals_sign}
use Rattle.place_core.specs.page.Contents.{is_name_of, may_be_name_of}
use Rattle.place_core.specs.page.References.{Form, Reference, Closed, Open, ReferenceStep, Grows, Closes, Breaks, flushed, next_reference, turn, undone_byte}
use Rattle.place_core.specs.page.States.{Pending, Nothing, PendingLess, LessAtCut, PendingName, PendingBang, PendingBangDash, PendingOpening}
use Rattle.place_core.specs.page.Tags.{feed_bytes}
use Rattle.place_core.specs.declared.body.Body.{Body}
use Rattle.place_core.specs.declared.body.Body.TheVariants as body
use Rattle.place_core.specs.declared.element.Element.TheVariants as element
use Rattle.place_core.specs.declared.parts.Parts.{Parts}
use Rattle.place_core.specs.declared.place.Place.TheVariants as place
use Rattle.place_core.specs.declared.quotes.Quotes.{Quotes}
use Rattle.place_core.specs.declared.quotes.Quotes.TheVariants as quotes
use Rattle.place_core.specs.declared.tag_of.TagOf.{TagOf}
use Rattle.place_core.specs.declared.tag_of.TagOf.TheVariants as tag
use Rattle.place_core.specs.declared.value_place.ValuePlace.{ValuePlace}
use Rattle.html_scan.specs.Scans.{Scan, At, AfterLess, AfterLessSolidus, InDeclaration, InTagName, InAttributeName, InUrl, InStyle, InStyleElement, InCommentEnd, InContentEnd, BeforeType, InType, bare_begun, bare_white, content_scan, element_next, element_pending_next, empty_style_between, parts_feeding, quotes_lead, scan_reference, style_fed, style_feeding, style_scan, style_value_next, triple_behind, url_scan, value_between, value_fed, value_next, with_parts, with_style, InScript, InScriptElement}
use Rattle.html_step.specs.Origins.{element_fed, end_name_fed, less_fed, loose_fed}
use Rattle.html_step.proofs.ApartParts.{AriseIn, arise-in, several-apart}
use Rattle.html_step.proofs.Characters.{less-no-letter}
use Rattle.html_step.proofs.ElementsBelow.{under-element}
use Rattle.html_step.proofs.ElementShown.{loose-character}
use Rattle.html_step.proofs.ReadScans.{read_style, read_turn, read_value, scan_read}
use Rattle.html_step.proofs.ScanOrder.{ScanBelow}
use Rattle.url_lexer.specs.Triples.{Triple, NoTriple, AfterPercent, AfterDigit}
use Rattle.url_step.specs.PartSets.{spells_apart}

no : false ≡ true → ⊥
no e = cc

abbrev pub scan_pending : Scan → Pending
scan_pending (InStyleElement n h) = h
scan_pending f = Nothing

-- below it the same is pending
pub below-pending : (g f : Scan) → ScanBelow g f → scan_pending g ≡ scan_pending f
below-pending (InStyleElement n h) f l = under-element (λ g. h ≡ scan_pending g) n h f l (λ m i. refl) (λ d j i. j)
below-pending (At x) (InStyleElement m k) l = absurd l
below-pending (At x) _ l = refl
below-pending (InUrl u t r) (InStyleElement m k) l = absurd l
below-pending (InUrl u t r) _ l = refl
below-pending (InStyle u n r) (InStyleElement m k) l = absurd l
below-pending (InStyle u n r) _ l = refl
below-pending (InScript u n r) (InStyleElement m k) l = absurd l
below-pending (InScript u n r) _ l = refl
below-pending (InAttributeName t x n) (InStyleElement m k) l = absurd l
below-pending (InScriptElement n x) (InScriptElement m y) l = refl
below-pending (InScriptElement n x) _ l = absurd l
below-pending (InAttributeName t x n) _ l = refl
below-pending AfterLess f l = ap scan_pending l
below-pending AfterLessSolidus f l = ap scan_pending l
below-pending (InDeclaration x) f l = ap scan_pending l
below-pending (InTagName x y) f l = ap scan_pending l
below-pending (InCommentEnd x) f l = ap scan_pending l
below-pending (InContentEnd x y) f l = ap scan_pending l
below-pending (BeforeType x) f l = ap scan_pending l
below-pending (InType x y z w) f l = ap scan_pending l

-- The style is fed nothing, or a `<` first.
data FedLess (bytes : List ℕ) : Type 0 where
  fed_none : bytes ≡ [] → FedLess bytes
  fed_less : (rest : List ℕ) → bytes ≡ 60 ∷ rest → FedLess bytes

less-by : (c : Class) (b : ℕ) → FedLess (less_fed c b)
less-by Solidus b = fed_none refl
less-by c b = fed_less (loose_fed c b) refl

name-by : (grows whole : Bool) (c : Class) (b : ℕ) (letters : List ℕ) → FedLess (end_name_fed grows whole c b letters)
name-by true true (Letter l) b letters = fed_none refl
name-by true false (Letter l) b letters = fed_none refl
name-by true true White b letters = fed_none refl
name-by true true Solidus b letters = fed_none refl
name-by true true GreaterThan b letters = fed_none refl
name-by true true c b letters = fed_less (47 ∷ letters ++ loose_fed c b) refl
name-by true false c b letters = fed_less (47 ∷ letters ++ loose_fed c b) refl
name-by false true White b letters = fed_none refl
name-by false true Solidus b letters = fed_none refl
name-by false true GreaterThan b letters = fed_none refl
name-by false true c b letters = fed_less (47 ∷ letters ++ loose_fed c b) refl
name-by false false c b letters = fed_less (47 ∷ letters ++ loose_fed c b) refl

fed-by : (h : Pending) (c : Class) (b : ℕ) → (h ≡ Nothing) ⊎ FedLess (element_fed h c b)
fed-by Nothing c b = inl refl
fed-by PendingLess c b = inr (less-by c b)
fed-by LessAtCut c b = inr (fed_less (loose_fed c b) refl)
fed-by (PendingName letters) c b =
    inr (name-by (may_be_name_of element.Style (letters ++ b ∷ [])) (is_name_of element.Style letters) c b letters)
fed-by PendingBang c b = inr (fed_less (33 ∷ loose_fed c b) refl)
fed-by PendingBangDash c b = inr (fed_less (33 ∷ 45 ∷ loose_fed c b) refl)
fed-by (PendingOpening letters) c b = inr (fed_less (letters ++ loose_fed c b) refl)

-- so no paths come apart
less-apart : (bytes : List ℕ) (s : Parts) → FedLess bytes → spells_apart s.opened ≡ false
    → spells_apart (feed_bytes parts_feeding s bytes).opened ≡ true → ⊥
less-apart bytes s (fed_none e) n h =
    no (sym n ∙ subst (λ (x : List ℕ). spells_apart (feed_bytes parts_feeding s x).opened ≡ true) e h)
less-apart bytes s (fed_less rest e) n h =
    no (sym (several-apart 60 rest s (omega arith) less-no-letter n)
    ∙ subst (λ (x : List ℕ). spells_apart (feed_bytes parts_feeding s x).opened ≡ true) e h)

-- and behind a byte that is fed alone nothing is pending
settled-by : (n : StyleScan) (x : Bool)
    → scan_pending (if x then At (place.Style (style_scan_place n)) else InStyleElement n Nothing) ≡ Nothing
settled-by n true = refl
settled-by n false = refl

loose-settled : (n : StyleScan) (c : Class) (b : ℕ) (s : Parts) → spells_apart s.opened ≡ false
    → spells_apart (feed_bytes parts_feeding s (loose_fed c b)).opened ≡ true → scan_pending (element_next n c b) ≡ Nothing
loose-settled n LessThan b s i h = absurd (no (sym i ∙ h))
loose-settled n _ b s i h = settled-by (style_feeding.feed n b) (is_style_start (style_feeding.feed n b))

pub record ElementArises (n : StyleScan) (h : Pending) (c : Class) (b : ℕ) (s : Parts) : Type 0 where
  pub arises : AriseIn (element_fed h c b) s
  pub settled : scan_pending (element_pending_next n h c b) ≡ Nothing

loose-arises : (n : StyleScan) (c : Class) (b : ℕ) (s : Parts) → spells_apart s.opened ≡ false
    → spells_apart (feed_bytes parts_feeding s (loose_fed c b)).opened ≡ true → ElementArises n Nothing c b s
loose-arises n c b s i h = record {
  arises = arise-in (loose_fed c b) s (loose-character c b) i h;
  settled = loose-settled n c b s i h;
}

arises-by : (n : StyleScan) (h : Pending) (c : Class) (b : ℕ) (s : Parts) → (h ≡ Nothing) ⊎ FedLess (element_fed h c b)
    → spells_apart s.opened ≡ false
    → spells_apart (feed_bytes parts_feeding s (element_fed h c b)).opened ≡ true → ElementArises n h c b s
arises-by n h c b s (inl e) i d =
    subst (λ (x : Pending). ElementArises n x c b s) (sym e)
    (loose-arises n c b s i (subst (λ (x : Pending). spells_apart (feed_bytes parts_feeding s (element_fed x c b)).opened ≡ true) e d))
arises-by n h c b s (inr k) i d = absurd (less-apart (element_fed h c b) s k i d)

pub element-arises : (n : StyleScan) (h : Pending) (c : Class) (b : ℕ) (s : Parts) → spells_apart s.opened ≡ false
    → spells_apart (feed_bytes parts_feeding s (element_fed h c b)).opened ≡ true → ElementArises n h c b s
element-arises n h c b s i d = arises-by n h c b s (fed-by h c b) i d

-- In a value nothing is pending.
url-settled : (v : ValuePlace) (t : Triple) (r : Reference) → scan_pending (url_scan v t r) ≡ Nothing
url-settled v NoTriple Closed = refl
url-settled v NoTriple (Open f bytes) = refl
url-settled v AfterPercent r = refl
url-settled v AfterDigit r = refl

style-settled-by : (v : ValuePlace) (n : StyleScan) (x : Bool)
    → scan_pending (if x then At (with_style v n) else InStyle v n Closed) ≡ Nothing
style-settled-by v n true = refl
style-settled-by v n false = refl

style-settled : (v : ValuePlace) (n : StyleScan) (r : Reference) → scan_pending (style_scan v n r) ≡ Nothing
style-settled v n Closed = style-settled-by v n (is_style_start n)
style-settled v n (Open f bytes) = refl

fed-settled : (v : ValuePlace) (q : Quotes) (x : Body) (t : Triple) (r : Reference) (c : Class) (b : ℕ)
    → scan_pending (value_fed v q x t r c b) ≡ Nothing
fed-settled v q (body.Url s) t r c b =
    let bytes = undone_byte true r c b in
    url-settled (with_parts v q (feed_bytes parts_feeding s bytes)) (triple_behind t bytes) (next_reference r c b)
fed-settled v q (body.Css p) t r c b =
    style-settled (empty_style_between v q) (feed_bytes style_feeding (style_scan_start p) (undone_byte true r c b)) (next_reference r c b)
fed-settled v q _ t r c b = refl

content-settled : (t : TagOf) → scan_pending (content_scan t) ≡ Nothing
content-settled tag.End = refl
content-settled (tag.Start element.Title) = refl
content-settled (tag.Start element.Textarea) = refl
content-settled (tag.Start element.DataBlock) = refl
content-settled (tag.Start _) = refl

white-settled : (v : ValuePlace) (uq : Bool) → scan_pending (bare_white v uq) ≡ Nothing
white-settled v true = refl
white-settled v false = refl

lead-settled : (v : ValuePlace) (q : Quotes) (c : Class) (g : Quotes → Scan) → ((p : Quotes) → scan_pending (g p) ≡ Nothing)
    → scan_pending (quotes_lead v q c g) ≡ Nothing
lead-settled v quotes.Dq QuotationMark g k = refl
lead-settled v quotes.Dq c g k = k quotes.Dq
lead-settled v quotes.Sq Apostrophe g k = refl
lead-settled v quotes.Sq c g k = k quotes.Sq
lead-settled v (quotes.Bare x) White g k = white-settled v x.uq
lead-settled v (quotes.Bare x) QuotationMark g k = refl
lead-settled v (quotes.Bare x) Apostrophe g k = refl
lead-settled v (quotes.Bare x) GreaterThan g k = content-settled v.tag
lead-settled v (quotes.Bare x) c g k = k bare_begun

pub value-settled : (v : ValuePlace) (t : Triple) (r : Reference) (c : Class) (b : ℕ) → scan_pending (value_next v t r c b) ≡ Nothing
value-settled v t r c b = lead-settled v v.quotes c (λ p. value_fed v p v.body t r c b) (λ p. fed-settled v p v.body t r c b)

pub style-value-settled : (v : ValuePlace) (n : StyleScan) (r : Reference) (c : Class) (b : ℕ)
    → scan_pending (style_value_next v n r c b) ≡ Nothing
style-value-settled v n r c b =
    lead-settled v v.quotes c (λ p. style_fed (value_between v p) n r c b)
    (λ p. style-settled (value_between v p) (feed_bytes style_feeding n (undone_byte true r c b)) (next_reference r c b))

-- nor where a reference is open, and where it is read
turn-settled : (z : ReferenceStep) (v : ValuePlace) (t : Triple) (f : Form) (bytes : List ℕ) (c : Class)
    → scan_pending (read_turn z v t f bytes c) ≡ Nothing
turn-settled Breaks v t f bytes c =
    (let xs = flushed true (is_equals_sign c) f bytes in url-settled (read_value v xs) (triple_behind t xs) Closed)
turn-settled (Grows g) v t f bytes c = refl
turn-settled Closes v t f bytes c = refl

turn-style-settled : (z : ReferenceStep) (v : ValuePlace) (n : StyleScan) (f : Form) (bytes : List ℕ) (c : Class)
    → scan_pending (read_style z v n f bytes c) ≡ Nothing
turn-style-settled Breaks v n f bytes c = style-settled v (feed_bytes style_feeding n (flushed true (is_equals_sign c) f bytes)) Closed
turn-style-settled (Grows g) v n f bytes c = refl
turn-style-settled Closes v n f bytes c = refl

closed-not-open : {A : Type 0} (f : Form) (bytes : List ℕ) → Closed ≡ Open f bytes → A
closed-not-open f bytes h = cc

pub open-settled : (g : Scan) (f : Form) (bytes : List ℕ) → scan_reference g ≡ Open f bytes → scan_pending g ≡ Nothing
open-settled (InStyleElement n x) f bytes h = closed-not-open f bytes h
open-settled _ f bytes h = refl

pub read-settled : (g : Scan) (bs : List ℕ) → scan_pending g ≡ Nothing → scan_pending (scan_read g bs) ≡ Nothing
read-settled (InUrl v t (Open x l)) (b ∷ bs) m = turn-settled (turn (class_of b) x) v t x l (class_of b)
read-settled (InUrl v t (Open x l)) [] m = refl
read-settled (InUrl v t Closed) bs m = refl
read-settled (InStyle v n (Open x l)) (b ∷ bs) m = turn-style-settled (turn (class_of b) x) v n x l (class_of b)
read-settled (InStyle v n (Open x l)) [] m = refl
read-settled (InStyle v n Closed) bs m = refl
read-settled _ bs m = m
