-- The body of a value that is a style, on one path: behind the end of a node and behind a hole it is that of the scan state's place, and where there is
-- one, a text begins there in the path's scan state.
use Rattle.std.proofs.Common.{◌≡◌, ◌∙◌, Bool, true, false, Option, Some, None, option_map, if◌then◌else◌, refl, sym, ap, subst}
use Rattle.css_lexer.specs.Escapes.{StyleEscape, NoEscape, AfterBackslash, HexDigits, AfterReturn}
use Rattle.css_lexer.specs.PartSpots.{has_read_nothing, may_begin_text, part_spot}
use Rattle.css_lexer.specs.Paths.{style_after_cut, style_after_hole}
use Rattle.css_lexer.specs.Refusals.{style_refuses_cut, style_refuses_hole}
use Rattle.css_lexer.specs.Spots.{StyleSpot}
use Rattle.css_lexer.specs.States.{Quote, DoubleQuote, SingleQuote, Between, AfterLessThan, Word, AfterSolidus, Comment, InString, BadUrl, BehindHole, SplitWord, SolidusAtCut, LessThanAtCut, StarAtCut, Fresh, Bare, Quoted, Ended, Style, Out, InUrl}
use Rattle.css_lexer.specs.Urls.{urls}
use Rattle.place_core.specs.declared.body.Body.{Body}
use Rattle.place_core.specs.declared.body.Body.TheVariants as body
use Rattle.place_core.specs.declared.css.Css.{Css}
use Rattle.place_core.specs.declared.css.Css.TheVariants as css
use Rattle.place_core.specs.declared.parts.Parts.{Parts}
use Rattle.place_core.specs.place.StyleParts.{style_place, style_quoted_place, style_string_place, style_body}
use Rattle.place_core.specs.place.UrlParts.{parts_of}
use Rattle.url_lexer.specs.Parts.{UrlPart}
use Rattle.url_lexer.specs.States.{Url, url_start}
use Rattle.url_step.proofs.OnePath.{one-at-hole}
use Rattle.css_step.proofs.BetweenTexts.{between-texts}
use Rattle.css_step.proofs.OneStylePath.{given, one-style}
use Rattle.css_step.specs.StyleScans.{StyleScan, ScanFresh, style_split_word, style_scan_start, style_scan_place, style_at_hole}
use Rattle.css_step.specs.StyleScanLaws.{IsStyleScan, scans_between, scans_less_than, scans_word, scans_solidus, scans_comment, scans_string, scans_behind_hole, scans_split_word, scans_solidus_before, scans_less_than_before, scans_star_before, scans_fresh, scans_bare, scans_quoted, scans_ended, style_scanned}

-- behind the end of a node
split-cut : (e : StyleEscape) → style_body (style_after_cut urls (Out (SplitWord e))) ≡ Some (body.Css (style_scan_place (style_split_word e)))
split-cut NoEscape = refl
split-cut AfterBackslash = refl
split-cut (HexDigits k) = refl
split-cut AfterReturn = refl

pub body-after-cut : (v : Style Url) (n : StyleScan) → IsStyleScan v n → style_body (style_after_cut urls v) ≡ Some (body.Css (style_scan_place n))
body-after-cut _ _ (scans_between k) = refl
body-after-cut _ _ scans_less_than = refl
body-after-cut _ _ (scans_word w e) = refl
body-after-cut _ _ (scans_solidus k) = refl
body-after-cut _ _ (scans_comment true) = refl
body-after-cut _ _ (scans_comment false) = refl
body-after-cut _ _ (scans_string q e) = refl
body-after-cut _ _ (scans_behind_hole s l) = refl
body-after-cut _ _ (scans_split_word e) = split-cut e
body-after-cut _ _ (scans_solidus_before k) = refl
body-after-cut _ _ scans_less_than_before = refl
body-after-cut _ _ scans_star_before = refl
body-after-cut _ _ scans_fresh = refl
body-after-cut _ _ (scans_bare u) = refl
body-after-cut _ _ (scans_quoted q e u) = refl
body-after-cut _ _ (scans_ended u) = refl

-- behind a hole
bare-hole : (u : Url) → style_body (style_after_hole urls (InUrl Bare u)) ≡ Some (body.Css (style_at_hole (css.Url (parts_of u.part))))
bare-hole u = ap (λ (s : Parts). Some (body.Css (css.Url s))) (sym (one-at-hole u.part))

quoted-hole : (q : Quote) (e : StyleEscape) (u : Url) → style_refuses_cut urls (InUrl (Quoted q e) u) ≡ None
    → style_body (style_after_hole urls (InUrl (Quoted q e) u)) ≡ Some (body.Css (style_at_hole (style_quoted_place q (parts_of u.part))))
quoted-hole DoubleQuote NoEscape u n = ap (λ (s : Parts). Some (body.Css (css.UrlDq s))) (sym (one-at-hole u.part))
quoted-hole SingleQuote NoEscape u n = ap (λ (s : Parts). Some (body.Css (css.UrlSq s))) (sym (one-at-hole u.part))
quoted-hole q AfterBackslash u n = absurd (given _ n)
quoted-hole q (HexDigits k) u n = absurd (given _ n)
quoted-hole q AfterReturn u n = absurd (given _ n)

string-hole : (q : Quote) (e : StyleEscape) → style_refuses_cut urls (Out (InString q e)) ≡ None
    → style_body (style_after_hole urls (Out (InString q e))) ≡ Some (body.Css (style_at_hole (style_string_place q)))
string-hole DoubleQuote NoEscape n = refl
string-hole SingleQuote NoEscape n = refl
string-hole q AfterBackslash n = absurd (given _ n)
string-hole q (HexDigits k) n = absurd (given _ n)
string-hole q AfterReturn n = absurd (given _ n)

split-hole : (e : StyleEscape) → style_body (style_after_hole urls (Out (SplitWord e))) ≡ Some (body.Css (style_at_hole (style_scan_place (style_split_word e))))
split-hole NoEscape = refl
split-hole AfterBackslash = refl
split-hole (HexDigits k) = refl
split-hole AfterReturn = refl

pub body-after-hole : (v : Style Url) (n : StyleScan) → IsStyleScan v n → style_refuses_cut urls v ≡ None → style_refuses_hole urls v ≡ None
    → style_body (style_after_hole urls v) ≡ Some (body.Css (style_at_hole (style_scan_place n)))
body-after-hole _ _ (scans_between k) n m = refl
body-after-hole _ _ scans_less_than n m = refl
body-after-hole _ _ (scans_word w e) n m = refl
body-after-hole _ _ (scans_solidus k) n m = refl
body-after-hole _ _ (scans_comment true) n m = refl
body-after-hole _ _ (scans_comment false) n m = refl
body-after-hole _ _ (scans_string q e) n m = string-hole q e n
body-after-hole _ _ (scans_behind_hole s l) n m = refl
body-after-hole _ _ (scans_split_word e) n m = split-hole e
body-after-hole _ _ (scans_solidus_before k) n m = refl
body-after-hole _ _ scans_less_than_before n m = refl
body-after-hole _ _ scans_star_before n m = refl
body-after-hole _ _ scans_fresh n m = bare-hole url_start
body-after-hole _ _ (scans_bare u) n m = bare-hole u
body-after-hole _ _ (scans_quoted q e u) n m = quoted-hole q e u n
body-after-hole _ _ (scans_ended u) n m = absurd (given _ m)

-- where there is a body
abbrev HasPlace : Style Url → Css → Type 0
HasPlace v c = (p : StyleSpot UrlPart) × (may_begin_text v ≡ true) × (part_spot v ≡ Some p) × (style_place p ≡ c)

css-of : (c d : Css) → Some (body.Css c) ≡ Some (body.Css d) → c ≡ d
css-of c d e = cc

no-body : (b : Body) → None ≡ Some b → ⊥
no-body b e = cc

place-of : (v : Style Url) (c : Css) (begins : Bool) (o : Option (StyleSpot UrlPart)) → may_begin_text v ≡ begins → part_spot v ≡ o
    → (if begins then option_map (λ p. body.Css (style_place p)) o else None) ≡ Some (body.Css c) → HasPlace v c
place-of v c true (Some p) m i e = (p, m, i, css-of (style_place p) c e)
place-of v c true None m i e = absurd (no-body _ e)
place-of v c false o m i e = absurd (no-body _ e)

-- It is that of the scan state's place, and a text begins there in that scan state.
pub record BodyOfScan (n : StyleScan) (c : Css) : Type 0 where
  pub place : style_scan_place n ≡ c
  pub start : style_scan_start c ≡ n

pub body-of-scan : (v : Style Url) (n : StyleScan) (c : Css) → IsStyleScan v n → style_body v ≡ Some (body.Css c) → BodyOfScan n c
body-of-scan v n c i e = by-place (place-of v c (may_begin_text v) (part_spot v) refl refl e)
  where
    by-place : HasPlace v c → BodyOfScan n c
    by-place (p, m, o, k) =
        let at : style_scan_place n ≡ c = sym ((one-style v n i).place p o) ∙ k in
        record { place = at; start = subst (λ (d : Css). style_scan_start d ≡ n) at ((between-texts v n i).start p m o) }

-- Where there is a body, the path has a scan state.
fresh-body : (u : Url) (b : Body) (read : Bool) → has_read_nothing u ≡ read
    → (if read then Some (body.Css css.UrlFresh) else None) ≡ Some b → (n : StyleScan) × (if read then Some ScanFresh else None) ≡ Some n
fresh-body u b true h e = (ScanFresh, refl)
fresh-body u b false h e = absurd (no-body b e)

pub scan-of-body : (v : Style Url) (b : Body) → style_body v ≡ Some b → (n : StyleScan) × (style_scanned v ≡ Some n)
scan-of-body (Out (Between k)) b e = (_, refl)
scan-of-body (Out AfterLessThan) b e = (_, refl)
scan-of-body (Out (Word w z)) b e = (_, refl)
scan-of-body (Out (AfterSolidus k)) b e = (_, refl)
scan-of-body (Out (Comment star)) b e = (_, refl)
scan-of-body (Out (InString q z)) b e = (_, refl)
scan-of-body (Out BadUrl) b e = absurd (no-body b e)
scan-of-body (Out (BehindHole s l)) b e = (_, refl)
scan-of-body (Out (SplitWord z)) b e = (_, refl)
scan-of-body (Out (SolidusAtCut k)) b e = (_, refl)
scan-of-body (Out LessThanAtCut) b e = (_, refl)
scan-of-body (Out StarAtCut) b e = (_, refl)
scan-of-body (InUrl Fresh u) b e = fresh-body u b (has_read_nothing u) refl e
scan-of-body (InUrl Bare u) b e = (_, refl)
scan-of-body (InUrl (Quoted q z) u) b e = (_, refl)
scan-of-body (InUrl Ended u) b e = (_, refl)
