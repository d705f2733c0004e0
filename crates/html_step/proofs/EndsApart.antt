-- At the end of a text: a reference that is open there is text as it stands, with which no paths come apart; nor with what is pending back in the
-- element `style`.
use Rattle.std.proofs.Common.{◌≡◌, Bool, true, false, Option, Some, None, List, ℕ, ◌≤◌, [], ◌∷◌, inl, inr, refl, sym, ap, ◌∙◌, arith}
use Rattle.css_step.specs.StyleOrigins.{style_scan_parts}
use Rattle.css_step.specs.StyleScans.{StyleScan, style_scan_place}
use Rattle.place_core.specs.page.References.{Reference, Closed, Open, as_it_stands}
use Rattle.place_core.specs.page.Tags.{feed_bytes}
use Rattle.place_core.specs.place.ApartPlaces.{HasApart, beginning_at, beginning_in_body, beginning_in_css}
use Rattle.place_core.specs.declared.body.Body.{Body}
use Rattle.place_core.specs.declared.body.Body.TheVariants as body
use Rattle.place_core.specs.declared.element.Element.{Element}
use Rattle.place_core.specs.declared.element.Element.TheVariants as element
use Rattle.place_core.specs.declared.parts.Parts.{Parts}
use Rattle.place_core.specs.declared.prefix.Prefix.TheVariants as prefix
use Rattle.place_core.specs.page.States.{Pending, Nothing, PendingLess, LessAtCut, PendingName, PendingBang, PendingBangDash, PendingOpening}
use Rattle.place_core.specs.page.Contents.{pending_bytes}
use Rattle.place_core.proofs.Semilattices.{none_some}
use Rattle.html_scan.specs.Scans.{Scan, At, InUrl, InStyle, InContentEnd, InStyleElement, content_end_place, parts_feeding, parts_with, scan_place, style_feeding}
use Rattle.html_step.specs.Origins.{is_apart}
use Rattle.html_step.proofs.ApartParts.{differs-of, several-apart}
use Rattle.html_step.proofs.Characters.{IsNoLetter, ampersand-no-letter, less-no-letter}
use Rattle.html_step.proofs.ScanOrder.{ScanValid, UrlWithin}
use Rattle.html_step.proofs.StyleUrls.{feeds, known-fed, known-unmet, known_none, scan-opened, stays-parts, unmet-spells}
use Rattle.html_step.proofs.UrlScans.{raw_place}
use Rattle.url_step.specs.PartSets.{spells_apart}

no : false ≡ true → ⊥
no e = cc

-- in a URL
url-stood : (r : Reference) (a : Parts) (y : Bool) → spells_apart a.opened ≡ y → spells_apart (feed_bytes parts_feeding a (as_it_stands r)).opened ≡ true
    → spells_apart a.opened ≡ true
url-stood r a true e h = e
url-stood Closed a false e h = h
url-stood (Open f read) a false e h = absurd (no (sym (several-apart 38 read a (omega arith) ampersand-no-letter e) ∙ h))

url-apart : (b : Body) (r : Reference) → UrlWithin b → beginning_in_body (parts_with b (as_it_stands r)) ≡ Some prefix.Differs
    → beginning_in_body b ≡ Some prefix.Differs
url-apart (body.Url s) r w h = differs-of s.opened (url-stood r s (spells_apart s.opened) refl (ap spells_apart h))
url-apart _ r w h = absurd w

-- in a style
not-met : (n : StyleScan) → is_apart (style_scan_parts n) ≡ false → beginning_in_css (style_scan_place n) ≡ Some prefix.Differs → ⊥
not-met n k h = no (sym (unmet-spells n k) ∙ ap spells_apart h)

style-stood : (b : ℕ) (read : List ℕ) (n : StyleScan) (o : Option Parts) (y : Bool) → 33 ≤ b → IsNoLetter b → style_scan_parts n ≡ o → is_apart o ≡ y
    → beginning_in_css (style_scan_place (feed_bytes style_feeding n (b ∷ read))) ≡ Some prefix.Differs → beginning_in_css (style_scan_place n) ≡ Some prefix.Differs
style-stood b read n None y l k i e h =
    absurd (not-met (feed_bytes style_feeding n (b ∷ read)) (known-unmet (feed_bytes style_feeding n (b ∷ read)) (known-fed (b ∷ read) n (known_none i))) h)
style-stood b read n (Some a) true l k i e h = scan-opened n a i ∙ differs-of a.opened e
style-stood b read n (Some a) false l k i e h =
    let end = feed_bytes style_feeding n (b ∷ read) in
    elim (feeds (b ∷ read) n a i) [
      | inl w ↦ absurd (not-met end (ap is_apart (stays-parts (b ∷ read) n a i w) ∙ several-apart b read a l k e) h)
      | inr m ↦ absurd (not-met end (known-unmet end m) h)
    ]

fed-stood : (b : ℕ) (read : List ℕ) (n : StyleScan) → 33 ≤ b → IsNoLetter b
    → beginning_in_css (style_scan_place (feed_bytes style_feeding n (b ∷ read))) ≡ Some prefix.Differs → beginning_in_css (style_scan_place n) ≡ Some prefix.Differs
fed-stood b read n l k h = style-stood b read n (style_scan_parts n) (is_apart (style_scan_parts n)) l k refl refl h

style-apart : (r : Reference) (n : StyleScan) → beginning_in_css (style_scan_place (feed_bytes style_feeding n (as_it_stands r))) ≡ Some prefix.Differs
    → beginning_in_css (style_scan_place n) ≡ Some prefix.Differs
style-apart Closed n h = h
style-apart (Open f read) n h = fed-stood 38 read n (omega arith) ampersand-no-letter h

-- in the element `style`
less-stood : (read : List ℕ) (n : StyleScan) → beginning_in_css (style_scan_place (feed_bytes style_feeding n (60 ∷ read))) ≡ Some prefix.Differs
    → beginning_in_css (style_scan_place n) ≡ Some prefix.Differs
less-stood read n h = fed-stood 60 read n (omega arith) less-no-letter h

pub element-apart : (x : Pending) (n : StyleScan) → beginning_in_css (style_scan_place (feed_bytes style_feeding n (pending_bytes x))) ≡ Some prefix.Differs
    → beginning_in_css (style_scan_place n) ≡ Some prefix.Differs
element-apart Nothing n h = h
element-apart PendingLess n h = less-stood [] n h
element-apart LessAtCut n h = less-stood [] n h
element-apart (PendingName letters) n h = less-stood (47 ∷ letters) n h
element-apart PendingBang n h = less-stood (33 ∷ []) n h
element-apart PendingBangDash n h = less-stood (33 ∷ 45 ∷ []) n h
element-apart (PendingOpening letters) n h = less-stood (letters) n h

pub end-opened : (e : Element) (h : Pending) → beginning_at (content_end_place e h) ≡ None
end-opened element.DataBlock PendingLess = refl
end-opened element.DataBlock _ = refl
end-opened element.Title h = refl
end-opened element.Textarea h = refl
end-opened element.Style h = refl
end-opened element.Script h = refl
end-opened element.Other h = refl

pub end-apart : (f : Scan) → ScanValid f → HasApart (scan_place f) → HasApart (raw_place f)
end-apart (At p) w h = h
end-apart (InUrl v t r) w h = url-apart v.body r w.1 h
end-apart (InStyle v n r) w h = style-apart r n h
end-apart (InStyleElement n x) w h = element-apart x n h
end-apart (InContentEnd e x) w h = absurd (none_some prefix.Differs (sym (end-opened e x) ∙ h))
end-apart _ w h = absurd (none_some prefix.Differs h)
