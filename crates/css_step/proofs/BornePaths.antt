-- Each member of a place in a style is borne by a path at it.
use Rattle.std.proofs.Common.{◌≡◌, Bool, true, false, ◌||◌, Option, Some, None, is_some, refl, sym, ap}
use Rattle.css_lexer.specs.Escapes.{StyleEscape, NoEscape, AfterBackslash, HexDigits, AfterReturn}
use Rattle.css_lexer.specs.States.{Bare, Quoted, BehindHole, SplitWord, SolidusAtCut, LessThanAtCut, StarAtCut, Style, Out, InUrl}
use Rattle.place_core.proofs.JoinParts.{prefixes_union}
use Rattle.place_core.specs.declared.member.Member.{Member}
use Rattle.place_core.specs.declared.member.Member.TheVariants as member
use Rattle.place_core.specs.declared.parts.Parts.{Parts}
use Rattle.place_core.specs.declared.prefix.Prefix.{Prefix}
use Rattle.place_core.specs.declared.prefix.Prefix.TheVariants as prefix
use Rattle.place_core.specs.place.LanguagePlaces.{parts_have}
use Rattle.place_core.specs.place.Places.{is_whole}
use Rattle.place_core.specs.place.UrlParts.{placed_prefix, parts_of}
use Rattle.url_lexer.specs.Parts.{UrlPart, UrlStart, UrlOpen, UrlOpenhole, UrlPrequery, UrlQuery, UrlBad}
use Rattle.url_lexer.specs.Schemes.{SchemeAhead}
use Rattle.url_lexer.specs.States.{Url, url_at}
use Rattle.url_lexer.specs.Triples.{Triple}
use Rattle.url_step.specs.PartOrigins.{PartBears}
use Rattle.url_step.specs.PartSets.{HasPart, spelled_prefix}
use Rattle.css_step.specs.StyleOrigins.{scan_set_has, style_scan_has, StyleBears}
use Rattle.css_step.specs.StyleScans.{StyleScan, ScanCode, ScanSplitEscape, ScanStarBefore, ScanBareUrl, ScanQuotedUrl}
use Rattle.css_step.specs.StyleScanLaws.{IsStyleScan, scans_behind_hole, scans_split_word, scans_solidus_before, scans_less_than_before, scans_star_before, scans_bare, scans_quoted}
use Rattle.css_step.specs.StyleSetLaws.{StyleScanBelow, below_itself, below_tails, below_bare, below_quoted, HasStyle}
use Rattle.place_core.specs.place.StyleParts.{style_tails}
use Rattle.css_step.proofs.StyleCases.{below-cases, PathScan, path-scan}
use Rattle.css_step.proofs.StyleOrigins.{set-has, whole-has}

no : false ≡ true → ⊥
no e = cc

-- a part of a set of parts that bears a member
placed-spelled : (p : Prefix) → placed_prefix (spelled_prefix p) ≡ p
placed-spelled prefix.Off = refl
placed-spelled (prefix.Javascript n) = refl
placed-spelled (prefix.Vbscript n) = refl
placed-spelled (prefix.DataScheme n) = refl
placed-spelled prefix.Differs = refl

abbrev pub BornePart : Parts → Member → Type 0
BornePart s x = (p : UrlPart) × HasPart s p × PartBears p x

open-borne : (s : Parts) (o : Option Prefix) → s.opened ≡ o → is_some o ≡ true → BornePart s member.PartOpen
open-borne s None e h = absurd (no h)
open-borne s (Some r) e h = (
  UrlOpen (spelled_prefix r),
  ap (λ (z : Option Prefix). record { start = s.start; opened = z; openhole = s.openhole; prequery = s.prequery; query = s.query; bad = s.bad })
      (rw (e, placed-spelled r) (prefixes_union.same (Some r))),
  refl,
)

pub part-borne : (s : Parts) (x : Member) → parts_have s x ≡ true → BornePart s x
part-borne s member.PartStart h = (
  UrlStart,
  ap (λ (z : Bool). record { start = z; opened = s.opened; openhole = s.openhole; prequery = s.prequery; query = s.query; bad = s.bad }) (sym h),
  refl,
)
part-borne s member.PartOpen h = open-borne s s.opened refl h
part-borne s member.PartOpenhole h = (
  UrlOpenhole,
  ap (λ (z : Bool). record { start = s.start; opened = s.opened; openhole = z; prequery = s.prequery; query = s.query; bad = s.bad }) (sym h),
  refl,
)
part-borne s member.PartPrequery h = (
  UrlPrequery,
  ap (λ (z : Bool). record { start = s.start; opened = s.opened; openhole = s.openhole; prequery = z; query = s.query; bad = s.bad }) (sym h),
  refl,
)
part-borne s member.PartQuery h = (
  UrlQuery,
  ap (λ (z : Bool). record { start = s.start; opened = s.opened; openhole = s.openhole; prequery = s.prequery; query = z; bad = s.bad }) (sym h),
  refl,
)
part-borne s member.PartBad h = (
  UrlBad,
  ap (λ (z : Bool). record { start = s.start; opened = s.opened; openhole = s.openhole; prequery = s.prequery; query = s.query; bad = z }) (sym h),
  refl,
)
part-borne s _ h = absurd (no h)

-- a path at a place that bears a member
abbrev Borne : StyleScan → Member → Type 0
Borne n x = (w : Style Url) × HasStyle n w × StyleBears w x

borne-by : (n k : StyleScan) (w : Style Url) (x : Member) → IsStyleScan w k → StyleScanBelow k n → style_scan_has k x ≡ true → Borne n x
borne-by n k w x i j h = (w, record { alone = k; is_alone = i; below = j }, record { alone = k; is_alone = i; has = h })

code-borne : (word slash lt : Bool) (x : Member) → style_scan_has (ScanCode (style_tails word slash lt)) x ≡ true → is_whole x ≡ false
    → Borne (ScanCode (style_tails word slash lt)) x
code-borne true s l x h e = borne-by _ _ (Out (BehindHole s l)) x (scans_behind_hole s l) (below_itself _) h
code-borne false true false x h e = borne-by _ _ (Out (SolidusAtCut false)) x (scans_solidus_before false) (below_itself _) h
code-borne false false true x h e = borne-by _ _ (Out LessThanAtCut) x scans_less_than_before (below_itself _) h
code-borne false true true member.CssSlash h e = borne-by _ _ (Out (SolidusAtCut false)) member.CssSlash (scans_solidus_before false) (below_tails _ _ refl) refl
code-borne false true true member.CssLt h e = borne-by _ _ (Out LessThanAtCut) member.CssLt scans_less_than_before (below_tails _ _ refl) refl
code-borne false true true member.Whole h e = absurd (no (sym e))
code-borne false true true _ h e = absurd (no h)
code-borne false false false member.Whole h e = absurd (no (sym e))
code-borne false false false member.CssWord h e = absurd (no h)
code-borne false false false member.CssSlash h e = absurd (no h)
code-borne false false false member.CssLt h e = absurd (no h)
code-borne false false false _ h e = absurd (no h)

pub no-split : (v : Style Url) → HasStyle (ScanSplitEscape NoEscape) v → ⊥
no-split v h = below-cases (λ (k : StyleScan). PathScan v k → ⊥) h.alone (ScanSplitEscape NoEscape) h.below (λ p. p, λ w i p. i refl) (path-scan v h.alone h.is_alone)

split-borne : (e : StyleEscape) (v : Style Url) (x : Member) → HasStyle (ScanSplitEscape e) v → style_scan_has (ScanSplitEscape e) x ≡ true → Borne (ScanSplitEscape e) x
split-borne NoEscape v x i h = absurd (no-split v i)
split-borne AfterBackslash v x i h = borne-by _ _ (Out (SplitWord AfterBackslash)) x (scans_split_word AfterBackslash) (below_itself _) h
split-borne (HexDigits k) v x i h = borne-by _ _ (Out (SplitWord (HexDigits k))) x (scans_split_word (HexDigits k)) (below_itself _) h
split-borne AfterReturn v x i h = borne-by _ _ (Out (SplitWord AfterReturn)) x (scans_split_word AfterReturn) (below_itself _) h

-- a URL of which only the part and the triple are kept
abbrev pub url-of : UrlPart → Triple → Url
url-of p t = url_at p SchemeAhead false t

set-borne : (n : StyleScan) (v : Style Url) (x : Member) → HasStyle n v → scan_set_has n x ≡ true → is_whole x ≡ false → Borne n x
set-borne (ScanCode y) v x i h e = code-borne y.word y.slash y.lt x (set-has (is_whole x) (scan_set_has (ScanCode y) x) h) e
set-borne (ScanSplitEscape z) v x i h e = split-borne z v x i (set-has (is_whole x) (scan_set_has (ScanSplitEscape z) x) h)
set-borne ScanStarBefore v x i h e = borne-by _ _ (Out StarAtCut) x scans_star_before (below_itself _) (set-has (is_whole x) (scan_set_has ScanStarBefore x) h)
set-borne (ScanBareUrl s t) v x i h e =
    let o = part-borne s x h in
    borne-by (ScanBareUrl s t) (ScanBareUrl (parts_of o.0) t) (InUrl Bare (url-of o.0 t)) x (scans_bare (url-of o.0 t)) (below_bare (parts_of o.0) s t o.1)
    (set-has (is_whole x) (parts_have (parts_of o.0) x) o.2)
set-borne (ScanQuotedUrl q z s t) v x i h e =
    let o = part-borne s x h in
    borne-by (ScanQuotedUrl q z s t) (ScanQuotedUrl q z (parts_of o.0) t) (InUrl (Quoted q z) (url-of o.0 t)) x (scans_quoted q z (url-of o.0 t))
    (below_quoted q z (parts_of o.0) s t o.1) (set-has (is_whole x) (parts_have (parts_of o.0) x) o.2)
set-borne n v x i h e = absurd (no h)

borne-from : (n : StyleScan) (v : Style Url) (x : Member) (w : Bool) → is_whole x ≡ w → HasStyle n v → (w || scan_set_has n x) ≡ true → Borne n x
borne-from n v x true e i h = (v, i, record { alone = i.alone; is_alone = i.is_alone; has = whole-has i.alone x e })
borne-from n v x false e i h = set-borne n v x i h e

pub are-borne : (n : StyleScan) (v : Style Url) (x : Member) → HasStyle n v → style_scan_has n x ≡ true → (w : Style Url) × HasStyle n w × StyleBears w x
are-borne n v x i h = borne-from n v x (is_whole x) refl i h
