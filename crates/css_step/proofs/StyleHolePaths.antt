-- Each path at a place in a style behind a hole is among those that one path before comes to, but for one that ended in a `/` and in a `<`.
use Rattle.std.proofs.Common.{◌≡◌, Bool, true, false, None, refl, sym, ap, ◌∙◌, subst}
use Rattle.css_lexer.specs.Escapes.{StyleEscape, NoEscape}
use Rattle.css_lexer.specs.States.{Quote, DoubleQuote, SingleQuote, Between, BehindHole, SolidusAtCut, LessThanAtCut, Style, Out}
use Rattle.place_core.specs.declared.css_tails.CssTails.{CssTails}
use Rattle.place_core.proofs.Semilattices.{none_some}
use Rattle.place_core.specs.declared.parts.Parts.{Parts}
use Rattle.place_core.specs.declared.prefix.Prefix.TheVariants as prefix
use Rattle.place_core.specs.place.UrlParts.{parts_of}
use Rattle.url_lexer.specs.Parts.{UrlPart, part_at_hole}
use Rattle.url_lexer.specs.States.{Url}
use Rattle.url_lexer.specs.Triples.{Triple, NoTriple}
use Rattle.url_step.specs.PartSets.{PartsBelow, HasPart, parts_at_hole, parts_hole_error}
use Rattle.url_step.proofs.Covering.{covers-parts}
use Rattle.url_step.proofs.OnePath.{one-at-hole}
use Rattle.url_step.proofs.Origins.{parts-come-from-hole}
use Rattle.css_step.specs.StyleOrigins.{IsStyleUnder, StylePathOrigin, style_scan_after_hole, StylesComeFromHole}
use Rattle.css_step.specs.StyleScans.{StyleScan, ScanCode, ScanBareUrl, ScanQuotedUrl, style_scan_place, style_hole_error}
use Rattle.css_step.specs.StyleScanLaws.{scans_between, scans_behind_hole, scans_solidus_before, scans_less_than_before}
use Rattle.css_step.specs.StyleSetLaws.{StyleScanBelow, below_itself, below_tails, HasStyle}
use Rattle.place_core.specs.place.StyleParts.{style_tails}
use Rattle.css_step.proofs.BornePaths.{part-borne}
use Rattle.css_step.proofs.StyleCases.{below-cases, PathScan, path-scan}
use Rattle.css_step.proofs.StyleEndOrigins.{cut-members, hole-members}
use Rattle.css_step.proofs.StyleGrowth.{url-none}
use Rattle.css_step.proofs.StylePathOrigins.{SamePart, same_part, spelled_apart, PartOrigin, two-parts, has-own, own-member}
use Rattle.css_step.proofs.PathSteps.{by-path, no-set-path, of-bare, of-quoted}
use Rattle.css_step.proofs.StyleEndPaths.{cut-paths}

yes : true ≡ false → ⊥
yes e = cc

-- where paths ended in a `/` and in a `<`
abbrev either-tail : StyleScan
either-tail = ScanCode (style_tails false true true)

by-solidus : (w l : Bool) → StyleScanBelow (ScanCode (style_tails w true l)) (ScanCode (style_tails true true false))
    → StylePathOrigin either-tail style_scan_after_hole IsStyleUnder (ScanCode (style_tails w true l))
by-solidus w l h = record {
  path = Out (SolidusAtCut false);
  has = record { alone = ScanCode (style_tails false true false); is_alone = scans_solidus_before false; below = below_tails _ _ refl };
  leads = h;
}

by-less-than : (w l : Bool) → StyleScanBelow (ScanCode (style_tails w false l)) (ScanCode (style_tails true false true))
    → StylePathOrigin either-tail style_scan_after_hole IsStyleUnder (ScanCode (style_tails w false l))
by-less-than w l h = record {
  path = Out LessThanAtCut;
  has = record { alone = ScanCode (style_tails false false true); is_alone = scans_less_than_before; below = below_tails _ _ refl };
  leads = h;
}

either-path : (word slash lt : Bool) (v : Style Url) → (ScanCode (style_tails word slash lt) ≡ ScanCode (style_tails true true true) → ⊥)
    → PathScan v (ScanCode (style_tails word slash lt)) → StylePathOrigin either-tail style_scan_after_hole IsStyleUnder (ScanCode (style_tails word slash lt))
either-path true true true v g p = absurd (g refl)
either-path false true true v g p = absurd (yes (p refl))
either-path true true false v g p = by-solidus true false (below_tails _ _ refl)
either-path false true false v g p = by-solidus false false (below_tails _ _ refl)
either-path true false true v g p = by-less-than true true (below_tails _ _ refl)
either-path true false false v g p = by-less-than true false (below_tails _ _ refl)
either-path false false true v g p = by-less-than false true (below_tails _ _ refl)
either-path false false false v g p = by-less-than false false (below_tails _ _ refl)

either-paths : (v : Style Url) (a : StyleScan) → StyleScanBelow a (ScanCode (style_tails true true true)) → PathScan v a → (a ≡ ScanCode (style_tails true true true) → ⊥)
    → StylePathOrigin either-tail style_scan_after_hole IsStyleUnder a
either-paths v a h =
    below-cases (λ (k : StyleScan). PathScan v k → (k ≡ ScanCode (style_tails true true true) → ⊥) → StylePathOrigin either-tail style_scan_after_hole IsStyleUnder k) a _ h
    (λ z j p g. either-path z.word z.slash z.lt v g p, λ w j p g. absurd (yes (ap (λ (z : CssTails). z.slash) j)))

code-path : (word slash lt : Bool) (v : Style Url) (a : StyleScan) → StyleScanBelow a (ScanCode (style_tails true slash lt)) → PathScan v a
    → (a ≡ ScanCode (style_tails true true true) → ⊥) → StylePathOrigin (ScanCode (style_tails word slash lt)) style_scan_after_hole IsStyleUnder a
code-path true s l v a h p g = by-path _ style_scan_after_hole IsStyleUnder a (Out (BehindHole s l)) (scans_behind_hole s l) h
code-path false true true v a h p g = either-paths v a h p g
code-path false true false v a h p g = by-path _ style_scan_after_hole IsStyleUnder a (Out (SolidusAtCut false)) (scans_solidus_before false) h
code-path false false true v a h p g = by-path _ style_scan_after_hole IsStyleUnder a (Out LessThanAtCut) scans_less_than_before h
code-path false false false v a h p g = by-path _ style_scan_after_hole IsStyleUnder a (Out (Between false)) (scans_between false) h

-- in a URL
part-origin : (s : Parts) (p : UrlPart) → parts_hole_error s ≡ None → HasPart (parts_at_hole s) p → (q : UrlPart) × HasPart s q × SamePart (parts_at_hole s) p (part_at_hole q)
part-origin s p e i =
    let o = parts-come-from-hole s (own-member p) (has-own (parts_at_hole s) p i) in
    let w = part-borne s o.0 o.1.has in
    (w.0, w.1, two-parts (parts_at_hole s) p (part_at_hole w.0) i ((covers-parts s w.0 w.1).at_hole e) (o.1.leads w.0 w.2))

hole-same : (s : Parts) (p q : UrlPart) → SamePart s p q → s.opened ≡ None → p ≡ q
hole-same s _ _ (same_part p) e = refl
hole-same s _ _ (spelled_apart x y d) e = absurd (none_some prefix.Differs (sym e ∙ d))

fed-part : (k : Parts → StyleScan) (s : Parts) → parts_hole_error s ≡ None → (r : Parts) (p : UrlPart) → r ≡ parts_of p → PartsBelow r (parts_at_hole s)
    → PartOrigin s (λ r. k (parts_at_hole r)) IsStyleUnder (k r)
fed-part k s e r p h i =
    let o = part-origin s p e (subst (λ (z : Parts). PartsBelow z (parts_at_hole s)) h i) in
    let same : r ≡ parts_at_hole (parts_of o.0) = h ∙ (ap parts_of (hole-same (parts_at_hole s) p (part_at_hole o.0) o.2 refl) ∙ sym (one-at-hole o.0)) in
    (o.0, o.1, subst (λ (z : Parts). StyleScanBelow (k r) (k z)) same (below_itself (k r)))

bare-path : (s : Parts) (v : Style Url) (a : StyleScan) → parts_hole_error s ≡ None → PathScan v a → StyleScanBelow a (ScanBareUrl (parts_at_hole s) NoTriple)
    → PartOrigin s (λ r. ScanBareUrl (parts_at_hole r) NoTriple) IsStyleUnder a
bare-path s v a e p h =
    below-cases (λ (k : StyleScan). PathScan v k → PartOrigin s (λ r. ScanBareUrl (parts_at_hole r) NoTriple) IsStyleUnder k) a _ h
    (λ r j p. fed-part (λ r. ScanBareUrl r NoTriple) s e r p.0 p.2 j) p

quoted-path : (q : Quote) (s : Parts) (v : Style Url) (a : StyleScan) → parts_hole_error s ≡ None → PathScan v a
    → StyleScanBelow a (ScanQuotedUrl q NoEscape (parts_at_hole s) NoTriple) → PartOrigin s (λ r. ScanQuotedUrl q NoEscape (parts_at_hole r) NoTriple) IsStyleUnder a
quoted-path q s v a e p h =
    below-cases (λ (k : StyleScan). PathScan v k → PartOrigin s (λ r. ScanQuotedUrl q NoEscape (parts_at_hole r) NoTriple) IsStyleUnder k) a _ h
    (λ r j p. fed-part (λ r. ScanQuotedUrl q NoEscape r NoTriple) s e r p.0 p.2 j) p

quoted-paths : (q : Quote) (z : StyleEscape) (s : Parts) (t : Triple) (v : Style Url) (a : StyleScan) → style_hole_error (style_scan_place (ScanQuotedUrl q z s t)) ≡ None
    → PathScan v a → StyleScanBelow a (style_scan_after_hole (ScanQuotedUrl q z s t)) → StylePathOrigin (ScanQuotedUrl q z s t) style_scan_after_hole IsStyleUnder a
quoted-paths DoubleQuote z s t v a e p h =
    of-quoted DoubleQuote z s t style_scan_after_hole IsStyleUnder a (quoted-path DoubleQuote s v a (url-none (parts_hole_error s) e) p h)
quoted-paths SingleQuote z s t v a e p h =
    of-quoted SingleQuote z s t style_scan_after_hole IsStyleUnder a (quoted-path SingleQuote s v a (url-none (parts_hole_error s) e) p h)

paths : (n : StyleScan) (v w : Style Url) (a : StyleScan) → style_hole_error (style_scan_place n) ≡ None → HasStyle n v → PathScan w a
    → StyleScanBelow a (style_scan_after_hole n) → (a ≡ ScanCode (style_tails true true true) → ⊥) → StylePathOrigin n style_scan_after_hole IsStyleUnder a
paths (ScanCode x) v w a e i p h g = code-path x.word x.slash x.lt w a h p g
paths (ScanBareUrl s t) v w a e i p h g = of-bare s t style_scan_after_hole IsStyleUnder a (bare-path s w a (url-none (parts_hole_error s) e) p h)
paths (ScanQuotedUrl q z s t) v w a e i p h g = quoted-paths q z s t w a e p h
paths n v w a e i p h g = no-set-path n style_scan_after_hole IsStyleUnder a v tt i h

pub styles-come-from-hole : StylesComeFromHole
styles-come-from-hole = record {
  cut_members = cut-members;
  cut_paths = cut-paths;
  hole_members = hole-members;
  hole_paths = λ n v w e r i h g. paths n v w h.alone r i (path-scan w h.alone h.is_alone) h.below g;
}
