-- A hole that a place in a style refuses is refused on paths that are at it, and the end of a node on all of them.
use Rattle.std.proofs.Common.{◌≡◌, true, ◌||◌, Some, refl, sym, ap, ◌∙◌, subst}
use Rattle.css_lexer.specs.Escapes.{StyleEscape}
use Rattle.css_lexer.specs.RefusalCodes.{RefusalCode}
use Rattle.css_lexer.specs.Refusals.{style_refuses_cut, style_refuses_hole}
use Rattle.css_lexer.specs.States.{Quote, DoubleQuote, SingleQuote, Fresh, Bare, Quoted, Ended, Style, Out, InUrl}
use Rattle.css_lexer.specs.Urls.{urls, url_refusal}
use Rattle.place_core.proofs.Semilattices.{none_some, one_value}
use Rattle.place_core.specs.declared.member.Member.{Member}
use Rattle.place_core.specs.declared.member.Member.TheVariants as member
use Rattle.place_core.specs.declared.parts.Parts.{Parts}
use Rattle.place_core.specs.place.LanguagePlaces.{parts_have}
use Rattle.place_core.specs.place.Places.{is_whole}
use Rattle.place_core.specs.place.UrlParts.{parts_of}
use Rattle.url_lexer.specs.Parts.{UrlPart}
use Rattle.url_lexer.specs.Refusals.{UrlRefusal, refuses_hole_in}
use Rattle.url_lexer.specs.States.{Url}
use Rattle.url_lexer.specs.Triples.{Triple}
use Rattle.url_lexer.specs.TwoPaths.{refuses_hole_on_two}
use Rattle.url_step.specs.PartOrigins.{PartBears, hole_on_one, hole_on_two}
use Rattle.url_step.specs.PartSets.{parts_hole_error}
use Rattle.url_step.proofs.Shown.{hole-shown}
use Rattle.css_step.specs.StyleOrigins.{style_scan_has, StyleBears, ClashStyles, StyleHoleEvidence, style_hole_on_one, style_hole_on_two, StyleRefusalIsShown}
use Rattle.css_step.specs.StyleScans.{StyleScan, ScanString, ScanBareUrl, ScanQuotedUrl, ScanEnded, style_scan_place, style_scan_cut_error, style_hole_error}
use Rattle.css_step.specs.StyleSetLaws.{HasStyle}
use Rattle.css_step.specs.StyleValidity.{style_part}
use Rattle.place_core.specs.place.StyleParts.{style_string_place}
use Rattle.css_step.proofs.OneStylePath.{one-style}
use Rattle.css_step.proofs.ShownStyleUrls.{byte-shown, url-some}
use Rattle.css_step.proofs.StyleCases.{below-cases, PathScan, path-scan}
use Rattle.css_step.proofs.StyleGrowth.{styles-grow}
use Rattle.css_step.proofs.StyleOrigins.{set-has, bears-alone}
use Rattle.css_step.proofs.StyleUrlOrigins.{own-part}

-- the end of a node
cut-alike : (n : StyleScan) (v : Style Url) → HasStyle n v → style_refuses_cut urls v ≡ style_scan_cut_error n
cut-alike n v h = sym (one-style v h.alone h.is_alone).cut_error ∙ (styles-grow.scans h.alone n h.below).cut_error

-- In a URL a hole is refused as the part of the path says.
part-refuses : (v : Style Url) (p : UrlPart) → style_part v ≡ Some p → style_refuses_hole urls v ≡ url_refusal (refuses_hole_in p)
part-refuses (Out s) p e = absurd (none_some p e)
part-refuses (InUrl Fresh u) p e = absurd (none_some p e)
part-refuses (InUrl Bare u) p e = ap (λ (z : UrlPart). url_refusal (refuses_hole_in z)) (one_value u.part p e)
part-refuses (InUrl (Quoted q z) u) p e = ap (λ (z : UrlPart). url_refusal (refuses_hole_in z)) (one_value u.part p e)
part-refuses (InUrl Ended u) p e = absurd (none_some p e)

-- a path in a part that bears a member
abbrev InPart : Style Url → Member → Type 0
InPart v x = (p : UrlPart) × (style_part v ≡ Some p) × PartBears p x

part-bears : (s r : Parts) (p : UrlPart) (x : Member) → parts_have s x ≡ true → r ≡ parts_of p → (is_whole x || parts_have r x) ≡ true → PartBears p x
part-bears s r p x h e k = own-part s p x h (subst (λ (z : Parts). (is_whole x || parts_have z x) ≡ true) e k)

in-bare : (s : Parts) (t : Triple) (v : Style Url) (x : Member) → parts_have s x ≡ true → HasStyle (ScanBareUrl s t) v → StyleBears v x → InPart v x
in-bare s t v x h i j =
    below-cases (λ (k : StyleScan). PathScan v k → style_scan_has k x ≡ true → InPart v x) i.alone (ScanBareUrl s t) i.below
    (λ r l p k. (p.0, p.1, part-bears s r p.0 x h p.2 k)) (path-scan v i.alone i.is_alone) (bears-alone (ScanBareUrl s t) v x i j)

in-quoted : (q : Quote) (z : StyleEscape) (s : Parts) (t : Triple) (v : Style Url) (x : Member) → parts_have s x ≡ true → HasStyle (ScanQuotedUrl q z s t) v → StyleBears v x → InPart v x
in-quoted q z s t v x h i j =
    below-cases (λ (k : StyleScan). PathScan v k → style_scan_has k x ≡ true → InPart v x) i.alone (ScanQuotedUrl q z s t) i.below
    (λ r l p k. (p.0, p.1, part-bears s r p.0 x h p.2 k)) (path-scan v i.alone i.is_alone) (bears-alone (ScanQuotedUrl q z s t) v x i j)

clash : (v w : Style Url) (x y : Member) (r : UrlRefusal) (e : RefusalCode) → InPart v x → InPart w y
    → ((p q : UrlPart) → PartBears p x → PartBears q y → refuses_hole_on_two p q ≡ Some r) → url_refusal (Some r) ≡ Some e → ClashStyles v w e
clash v w x y r e i j f k =
    record { first = i.0; second = j.0; in_first = i.1; in_second = j.1; refused = ap url_refusal (f i.0 j.0 i.2 j.2) ∙ k }

url-hole : (n : StyleScan) (s : Parts) (e : RefusalCode) → ((x : Member) → parts_have s x ≡ true → style_scan_has n x ≡ true)
    → ((v : Style Url) (x : Member) → parts_have s x ≡ true → HasStyle n v → StyleBears v x → InPart v x) → url_refusal (parts_hole_error s) ≡ Some e → StyleHoleEvidence n e
url-hole n s e g b h =
    let r = url-some (parts_hole_error s) e h in
    elim (hole-shown s r.0 r.1) [
      | hole_on_one x i f ↦ style_hole_on_one x (g x i)
          (λ v j k. let o = b v x i j k in part-refuses v o.0 o.1 ∙ (ap url_refusal (f o.0 o.2) ∙ r.2))
      | hole_on_two x y i j f ↦ style_hole_on_two x y (g x i) (g y j) (λ v w k l m o. clash v w x y r.0 e (b v x i k m) (b w y j l o) f r.2)
    ]

quoted-hole : (q : Quote) (z : StyleEscape) (s : Parts) (t : Triple) (e : RefusalCode) → style_hole_error (style_scan_place (ScanQuotedUrl q z s t)) ≡ Some e
    → StyleHoleEvidence (ScanQuotedUrl q z s t) e
quoted-hole DoubleQuote z s t e h = url-hole (ScanQuotedUrl DoubleQuote z s t) s e (λ x i. set-has (is_whole x) (parts_have s x) i) (in-quoted DoubleQuote z s t) h
quoted-hole SingleQuote z s t e h = url-hole (ScanQuotedUrl SingleQuote z s t) s e (λ x i. set-has (is_whole x) (parts_have s x) i) (in-quoted SingleQuote z s t) h

ended-hole : (e : RefusalCode) → style_hole_error (style_scan_place ScanEnded) ≡ Some e → StyleHoleEvidence ScanEnded e
ended-hole e h =
    style_hole_on_one member.Whole refl
    (λ v i j. sym (one-style v i.alone i.is_alone).hole_error
    ∙ below-cases (λ (k : StyleScan). style_hole_error (style_scan_place k) ≡ Some e) i.alone ScanEnded i.below h)

string-hole : (q : Quote) (z : StyleEscape) (e : RefusalCode) → style_hole_error (style_string_place q) ≡ Some e → StyleHoleEvidence (ScanString q z) e
string-hole DoubleQuote z e h = absurd (none_some e h)
string-hole SingleQuote z e h = absurd (none_some e h)

hole-evidence : (n : StyleScan) (e : RefusalCode) → style_hole_error (style_scan_place n) ≡ Some e → StyleHoleEvidence n e
hole-evidence (ScanBareUrl s t) e h = url-hole (ScanBareUrl s t) s e (λ x i. set-has (is_whole x) (parts_have s x) i) (in-bare s t) h
hole-evidence (ScanQuotedUrl q z s t) e h = quoted-hole q z s t e h
hole-evidence ScanEnded e h = ended-hole e h
hole-evidence (ScanString q z) e h = string-hole q z e h
hole-evidence n e h = absurd (none_some e h)

pub style-refusal-is-shown : StyleRefusalIsShown
style-refusal-is-shown = record { byte = byte-shown; cut = cut-alike; hole = hole-evidence }
