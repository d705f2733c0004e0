-- Where the members come from in the element `style`: at a byte, with those that were pending back, and at the end of a text.
use Rattle.std.proofs.Common.{◌≡◌, ℕ, Bool, true, false, ◌||◌, List, [], ◌∷◌, ◌++◌, codes, length, if◌then◌else◌, None, refl, sym, subst}
use Rattle.css_step.specs.StyleOrigins.{style_scan_has}
use Rattle.css_step.specs.StyleScans.{StyleScan, is_style_start, style_scan_place, style_scan_start}
use Rattle.css_step.specs.StyleSetLaws.{StyleScanBelow, below_itself}
use Rattle.css_step.proofs.StyleGrowth.{styles-grow}
use Rattle.place_core.specs.page.Classes.{Class, White, Solidus, LessThan, GreaterThan, Letter}
use Rattle.place_core.specs.page.Contents.{is_name_of, may_be_name_of, pending_bytes}
use Rattle.place_core.specs.page.States.{Pending, Nothing, PendingLess, LessAtCut, PendingName, PendingBang, PendingBangDash, PendingOpening}
use Rattle.place_core.specs.page.Tags.{feed_bytes}
use Rattle.place_core.specs.place.Errors.{end_name_error, less_error, loose_byte_error, pending_error, released_error, split_error}
use Rattle.place_core.specs.place.LanguagePlaces.{css_has}
use Rattle.place_core.specs.place.Places.{Has, is_whole}
use Rattle.place_core.specs.declared.css.Css.{Css}
use Rattle.place_core.specs.declared.element.Element.TheVariants as element
use Rattle.place_core.specs.declared.member.Member.{Member}
use Rattle.place_core.specs.declared.place.Place.TheVariants as place
use Rattle.html_scan.specs.Scans.{Scan, At, InStyleElement, element_cause, element_less_next, element_name_next, element_next, element_pending_next, element_scan, released_next, scan_cut_error, scan_next, scan_place, style_feeding, style_less_cause}
use Rattle.html_step.specs.Origins.{byte_origin, element_fed, element_origin, end_name_fed, end_name_origin, end_origin, less_fed, loose_fed, style_end_origin, style_fed_origin}
use Rattle.html_step.proofs.BelowScans.{below-at-style, below-element}
use Rattle.html_step.proofs.ContentsAlike.{released-beside}
use Rattle.html_step.proofs.FedAlike.{first-caused}
use Rattle.html_step.proofs.FromParts.{or-either, or-first}
use Rattle.html_step.proofs.FromValues.{From, FromEnd}
use Rattle.html_step.proofs.PathScans.{none-at-hand}
use Rattle.html_step.proofs.ScanOrder.{ScanHas}
use Rattle.html_step.proofs.StyleFrom.{style-end-from, style-fed-from}
use Rattle.html_step.proofs.StyleOrder.{none-refused, style-fed-grow, styles-beside}
use Rattle.html_step.proofs.StyleOriginSteps.{style-fed-more}
use Rattle.html_step.proofs.StyleValues.{css-set, end-whole, start-has, style-fed-taken}

-- Where nothing is pending, whichever form the scan state has.
in-by : (x : Bool) (n : StyleScan) (y : Member) → is_style_start n ≡ x → style_scan_has n y ≡ true
    → ScanHas (if x then At (place.Style (style_scan_place n)) else InStyleElement n Nothing) y
in-by true n y e h = subst (λ (z : Bool). (is_whole y || z) ≡ true) (sym (start-has n y e)) h
in-by false n y e h = h

pub element-in : (n : StyleScan) (y : Member) → style_scan_has n y ≡ true → ScanHas (element_scan n) y
element-in n y h = in-by (is_style_start n) n y refl h

out-by : (x : Bool) (n : StyleScan) (y : Member) → is_style_start n ≡ x
    → ScanHas (if x then At (place.Style (style_scan_place n)) else InStyleElement n Nothing) y → style_scan_has n y ≡ true
out-by true n y e h = subst (λ (z : Bool). (is_whole y || z) ≡ true) (start-has n y e) h
out-by false n y e h = h

pub element-out : (n : StyleScan) (y : Member) → ScanHas (element_scan n) y → style_scan_has n y ≡ true
element-out n y h = out-by (is_style_start n) n y refl h

-- A member behind a byte comes from one before, at each scan state below.
pub record ElementFrom (n : StyleScan) (goes : StyleScan → Scan) (y x : Member) : Type 0 where
  pub there : style_scan_has n x ≡ true
  pub leads : (k : StyleScan) → StyleScanBelow k n → style_scan_has k x ≡ true → ScanHas (goes k) y

loose-from : (c : Class) (b : ℕ) (n : StyleScan) (y : Member) → loose_byte_error style_feeding n c b ≡ None → ScanHas (element_next n c b) y
    → ElementFrom n (λ k. element_next k c b) y (style_fed_origin (loose_fed c b) n y)
loose-from LessThan b n y e h = record { there = h; leads = λ k l o. o }
loose-from _ b n y e h =
    let f = style-fed-from (b ∷ []) n y (none-refused n b e, tt) (element-out (style_feeding.feed n b) y h) in
    record { there = f.there; leads = λ k l o. element-in (style_feeding.feed k b) y (f.leads k l o) }

released-from : (bytes : List ℕ) (c : Class) (b : ℕ) (n : StyleScan) (y : Member) → released_error style_feeding n bytes c b ≡ None
    → ScanHas (released_next n bytes c b) y → ElementFrom n (λ k. released_next k bytes c b) y (style_fed_origin (bytes ++ loose_fed c b) n y)
released-from bytes c b n y e h =
    let p = released-beside styles-beside bytes c b n n (below_itself n) e in
    let m = feed_bytes style_feeding n bytes in
    let q = loose-from c b m y p.loose h in
    let f = style-fed-from bytes n (style_fed_origin (loose_fed c b) m y) (style-fed-taken bytes n true (length bytes) p.taken) q.there in
    subst (ElementFrom n (λ k. released_next k bytes c b) y) (sym (style-fed-more bytes (loose_fed c b) n y))
    (record {
      there = f.there;
      leads = λ k l o. q.leads (feed_bytes style_feeding k bytes) (style-fed-grow bytes true (length bytes) k n l p.taken).1 (f.leads k l o);
    })

less-from : (c : Class) (b : ℕ) (n : StyleScan) (y : Member) → less_error style_feeding n c b ≡ None → ScanHas (element_less_next n c b) y
    → ElementFrom n (λ k. element_less_next k c b) y (style_fed_origin (less_fed c b) n y)
less-from Solidus b n y e h = record { there = h; leads = λ k l o. o }
less-from c b n y e h = released-from (codes "<") c b n y e h

name-from : (grows whole : Bool) (c : Class) (b : ℕ) (letters : List ℕ) (n : StyleScan) (y : Member) → end_name_error style_feeding n grows whole c b letters ≡ None
    → ScanHas (element_name_next n grows whole c b letters) y
    → ElementFrom n (λ k. element_name_next k grows whole c b letters) y (style_fed_origin (end_name_fed grows whole c b letters) n (end_name_origin whole c y))
name-from true true (Letter l) b letters n y e h = record { there = h; leads = λ k l o. o }
name-from true false (Letter l) b letters n y e h = record { there = h; leads = λ k l o. o }
name-from true true White b letters n y e h = record { there = refl; leads = λ k l o. h }
name-from true true Solidus b letters n y e h = record { there = refl; leads = λ k l o. h }
name-from true true GreaterThan b letters n y e h = record { there = refl; leads = λ k l o. h }
name-from true true c b letters n y e h = released-from (codes "</" ++ letters) c b n y e h
name-from true false c b letters n y e h = released-from (codes "</" ++ letters) c b n y e h
name-from false true White b letters n y e h = record { there = refl; leads = λ k l o. h }
name-from false true Solidus b letters n y e h = record { there = refl; leads = λ k l o. h }
name-from false true GreaterThan b letters n y e h = record { there = refl; leads = λ k l o. h }
name-from false true c b letters n y e h = released-from (codes "</" ++ letters) c b n y e h
name-from false false c b letters n y e h = released-from (codes "</" ++ letters) c b n y e h

pending-from : (h : Pending) (c : Class) (b : ℕ) (n : StyleScan) (y : Member) → element_cause n h c b ≡ None → ScanHas (element_pending_next n h c b) y
    → ElementFrom n (λ k. element_pending_next k h c b) y (style_fed_origin (element_fed h c b) n (element_origin h c y))
pending-from Nothing c b n y e i = loose-from c b n y (none-at-hand (loose_byte_error style_feeding n c b) e) i
pending-from PendingLess c b n y e i = less-from c b n y e i
pending-from LessAtCut c b n y e i = released-from (codes "<") c b n y e i
pending-from (PendingName letters) c b n y e i =
    name-from (may_be_name_of element.Style (letters ++ b ∷ [])) (is_name_of element.Style letters) c b letters n y e i
pending-from PendingBang c b n y e i = released-from (codes "<!") c b n y e i
pending-from PendingBangDash c b n y e i = released-from (codes "<!-") c b n y e i
pending-from (PendingOpening letters) c b n y e i = released-from (codes "<" ++ letters) c b n y e i

-- From a lexeme, or what may be its end tag, and from a place.
pub from-element : (n : StyleScan) (h : Pending) (c : Class) (b : ℕ) (y : Member) → element_cause n h c b ≡ None → ScanHas (element_pending_next n h c b) y
    → From (InStyleElement n h) c b y (byte_origin (InStyleElement n h) c b y)
from-element n h c b y e i =
    let f = pending-from h c b n y e i in
    let x = byte_origin (InStyleElement n h) c b y in
    record {
      there = f.there;
      leads = λ g z l o. below-element (λ (g : Scan). ScanHas g x → ScanHas (scan_next g c b) y) n h (λ k m o. f.leads k m o) g l o;
    }

pub place-has : (c : Css) (y : Member) → style_scan_has (style_scan_start c) y ≡ true → Has (place.Style c) y
place-has c y h = subst (λ (z : Bool). (is_whole y || z) ≡ true) (sym (css-set c y)) h

pub has-place : (c : Css) (y : Member) → Has (place.Style c) y → style_scan_has (style_scan_start c) y ≡ true
has-place c y h = subst (λ (z : Bool). (is_whole y || z) ≡ true) (css-set c y) h

pub from-element-place : (p : Css) (c : Class) (b : ℕ) (y : Member) → element_cause (style_scan_start p) Nothing c b ≡ None
    → ScanHas (element_next (style_scan_start p) c b) y → From (At (place.Style p)) c b y (byte_origin (At (place.Style p)) c b y)
from-element-place p c b y e i =
    let n = style_scan_start p in
    let f = pending-from Nothing c b n y e i in
    let x = byte_origin (At (place.Style p)) c b y in
    record {
      there = place-has p x f.there;
      leads = λ g z l o. below-at-style (λ (g : Scan). ScanHas g x → ScanHas (scan_next g c b) y) p
          (λ q m o. f.leads (style_scan_start q) (styles-grow.places q p m).start (has-place q x o))
          (λ k m o. f.leads k m o) g l o;
    }

-- The end of a text.
end-all : (n : StyleScan) (h : Pending) (y : Member) → is_whole y ≡ true → FromEnd (InStyleElement n h) y (end_origin (InStyleElement n h) y)
end-all n h y e =
    let x = end_origin (InStyleElement n h) y in
    record {
      there = subst (λ (z : Member). style_scan_has n z ≡ true) (sym (end-whole (pending_bytes h) n y e)) refl;
      leads = λ g z l o. below-element (λ (g : Scan). Has (scan_place g) y) n h
          (λ k m. or-first (is_whole y) (css_has (style_scan_place (feed_bytes style_feeding k (pending_bytes h))) y) e) g l;
    }

end-set : (n : StyleScan) (h : Pending) (y : Member) → pending_error style_feeding n (pending_bytes h) ≡ None
    → css_has (style_scan_place (feed_bytes style_feeding n (pending_bytes h))) y ≡ true → FromEnd (InStyleElement n h) y (end_origin (InStyleElement n h) y)
end-set n h y e i =
    let bytes = pending_bytes h in
    let m = feed_bytes style_feeding n bytes in
    let d = style-end-from m y i in
    let f = style-fed-from bytes n (style_end_origin m y) (style-fed-taken bytes n true (length bytes) e) d.there in
    let x = end_origin (InStyleElement n h) y in
    record {
      there = f.there;
      leads = λ g z l o. below-element (λ (g : Scan). ScanHas g x → Has (scan_place g) y) n h
          (λ k q o. d.leads (feed_bytes style_feeding k bytes) (style-fed-grow bytes true (length bytes) k n q e).1 (f.leads k q o)) g l o;
    }

pub end-element : (n : StyleScan) (h : Pending) (y : Member) → scan_cut_error (InStyleElement n h) ≡ None → Has (scan_place (InStyleElement n h)) y
    → FromEnd (InStyleElement n h) y (end_origin (InStyleElement n h) y)
end-element n h y e i =
    let p = first-caused (pending_error style_feeding n (pending_bytes h)) (split_error style_less_cause n h) e in
    or-either (FromEnd (InStyleElement n h) y (end_origin (InStyleElement n h) y)) (is_whole y)
    (css_has (style_scan_place (feed_bytes style_feeding n (pending_bytes h))) y) i (λ k. end-all n h y k) (λ k. end-set n h y p.0 k)
