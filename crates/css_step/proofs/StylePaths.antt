-- Each path at a place in a style behind a byte comes from one before.
use Rattle.std.proofs.Common.{◌≡◌, ℕ, Bool, true, false, None, refl, subst}
use Rattle.css_lexer.specs.Escapes.{StyleEscape, AfterBackslash, behind_taken_in_string, behind_byte, is_taken_in_style}
use Rattle.css_lexer.specs.States.{Quote, DoubleQuote, SingleQuote, Between, BehindHole, Style, Out}
use Rattle.css_lexer.specs.declared.class.StyleClass.{StyleClass}
use Rattle.css_lexer.specs.declared.class.StyleClass.TheVariants as class
use Rattle.place_core.specs.declared.parts.Parts.{Parts}
use Rattle.url_lexer.specs.Classes.{url_class_of}
use Rattle.url_lexer.specs.Parts.{UrlPart}
use Rattle.url_lexer.specs.States.{Url}
use Rattle.url_lexer.specs.Triples.{Triple, next_triple}
use Rattle.url_step.specs.PartSets.{PartsBelow, HasPart, parts_next}
use Rattle.css_step.specs.StyleOrigins.{IsStyleBehind, StylePathOrigin}
use Rattle.css_step.specs.StyleScans.{StyleScan, ScanCode, ScanBareUrl, ScanQuotedUrl, ScanEnded, style_between, style_code_next, style_bare_next, style_quoted_next, style_scan_next, style_scan_error, style_url_error, style_bare_error, style_quoted_error}
use Rattle.css_step.specs.StyleScanLaws.{scans_between, scans_behind_hole}
use Rattle.css_step.specs.StyleSetLaws.{StyleScanBelow, below_tails, HasStyle}
use Rattle.place_core.specs.place.StyleParts.{style_tails}
use Rattle.css_step.proofs.OneStylePath.{given}
use Rattle.css_step.proofs.StyleCases.{below-cases, PathScan, path-scan}
use Rattle.css_step.proofs.StylePathOrigins.{PartOrigin, part-bare, part-quoted, fed-part}
use Rattle.css_step.proofs.PathSteps.{by-path, no-set-path, of-bare, of-quoted}
use Rattle.css_step.proofs.TightScans.{IsTight, tight, tight-between, tight-code}
use Rattle.css_step.proofs.TightUrls.{tight-next}

-- in code, where paths between tokens are always taken to be
code-path : (word slash lt : Bool) (c : StyleClass) (b : ℕ) (w : Style Url) (a : StyleScan) → PathScan w a → StyleScanBelow a (style_code_next word c b)
    → StylePathOrigin (ScanCode (style_tails word slash lt)) (λ k. style_scan_next k c b) (IsStyleBehind (style_code_next word c b)) a
code-path true s l c b w a p h =
    by-path _ (λ k. style_scan_next k c b) (IsStyleBehind (style_code_next true c b)) a (Out (BehindHole s l)) (scans_behind_hole s l) (tight-code true c b w a h p)
code-path false s l c b w a p h = record {
  path = Out (Between false);
  has = record { alone = style_between; is_alone = scans_between false; below = below_tails _ _ refl };
  leads = tight-code false c b w a h p;
}

-- in a URL: some part is there, and the one that the byte comes from
some-part : (v : Style Url) (s : Parts) (t : Triple) → HasStyle (ScanBareUrl s t) v → (q : UrlPart) × HasPart s q
some-part v s t i =
    below-cases (λ (k : StyleScan). PathScan v k → (q : UrlPart) × HasPart s q) i.alone (ScanBareUrl s t) i.below
    (λ r h p. (p.0, subst (λ (z : Parts). PartsBelow z s) p.2 h)) (path-scan v i.alone i.is_alone)

some-quoted-part : (v : Style Url) (q : Quote) (z : StyleEscape) (s : Parts) (t : Triple) → HasStyle (ScanQuotedUrl q z s t) v → (p : UrlPart) × HasPart s p
some-quoted-part v q z s t i =
    below-cases (λ (k : StyleScan). PathScan v k → (p : UrlPart) × HasPart s p) i.alone (ScanQuotedUrl q z s t) i.below
    (λ r h p. (p.0, subst (λ (z : Parts). PartsBelow z s) p.2 h)) (path-scan v i.alone i.is_alone)

abbrev SomePart : Parts → Type 0
SomePart s = (q : UrlPart) × HasPart s q

kept : (s : Parts) (m : StyleScan) (w : Style Url) (a : StyleScan) → IsTight m → SomePart s → PathScan w a → StyleScanBelow a m → PartOrigin s (λ r. m) (IsStyleBehind m) a
kept s m w a g q p h = (q.0, q.1, g w a h p)

fed-bare : (s : Parts) (t : Triple) (b : ℕ) (w : Style Url) (a : StyleScan) → style_url_error s b ≡ None → PathScan w a
    → StyleScanBelow a (ScanBareUrl (parts_next s (url_class_of b) b) t) → PartOrigin s (λ r. ScanBareUrl (parts_next r (url_class_of b) b) t)
    (IsStyleBehind (ScanBareUrl (parts_next s (url_class_of b) b) t)) a
fed-bare s t b w a e i h =
    below-cases (λ (k : StyleScan). PathScan w k → PartOrigin s (λ r. ScanBareUrl (parts_next r (url_class_of b) b) t) (IsStyleBehind (ScanBareUrl (parts_next s (url_class_of b) b) t)) k) a _ h
    (λ r j p. fed-part (λ r. ScanBareUrl r t) (IsStyleBehind (ScanBareUrl (parts_next s (url_class_of b) b) t)) s b (part-bare t (parts_next s (url_class_of b) b)) e r p.0 p.2 j) i

fed-quoted : (q : Quote) (z : StyleEscape) (s : Parts) (t : Triple) (b : ℕ) (w : Style Url) (a : StyleScan) → style_url_error s b ≡ None → PathScan w a
    → StyleScanBelow a (ScanQuotedUrl q z (parts_next s (url_class_of b) b) t) → PartOrigin s (λ r. ScanQuotedUrl q z (parts_next r (url_class_of b) b) t)
    (IsStyleBehind (ScanQuotedUrl q z (parts_next s (url_class_of b) b) t)) a
fed-quoted q z s t b w a e i h =
    below-cases (λ (k : StyleScan). PathScan w k → PartOrigin s (λ r. ScanQuotedUrl q z (parts_next r (url_class_of b) b) t) (IsStyleBehind (ScanQuotedUrl q z (parts_next s (url_class_of b) b) t)) k) a _ h
    (λ r j p. fed-part (λ r. ScanQuotedUrl q z r t) (IsStyleBehind (ScanQuotedUrl q z (parts_next s (url_class_of b) b) t)) s b
    (part-quoted q z t (parts_next s (url_class_of b) b)) e r p.0 p.2 j) i

bare-path : (s : Parts) (t : Triple) (c : StyleClass) (b : ℕ) (w : Style Url) (a : StyleScan) → style_bare_error (style_url_error s b) c ≡ None → SomePart s → PathScan w a
    → StyleScanBelow a (style_bare_next s t c b) → PartOrigin s (λ r. style_bare_next r t c b) (IsStyleBehind (style_bare_next s t c b)) a
bare-path s t class.Blank b w a e q i h = kept s ScanEnded w a (tight ScanEnded tt) q i h
bare-path s t class.Newline b w a e q i h = kept s ScanEnded w a (tight ScanEnded tt) q i h
bare-path s t class.RightParenthesis b w a e q i h = kept s style_between w a tight-between q i h
bare-path s t class.QuotationMark b w a e q i h = absurd (given _ e)
bare-path s t class.Apostrophe b w a e q i h = absurd (given _ e)
bare-path s t class.LeftParenthesis b w a e q i h = absurd (given _ e)
bare-path s t class.ReverseSolidus b w a e q i h = absurd (given _ e)
bare-path s t _ b w a e q i h = fed-bare s (next_triple t (url_class_of b)) b w a e i h

quoted-path : (taken : Bool) (q : Quote) (z : StyleEscape) (s : Parts) (t : Triple) (c : StyleClass) (b : ℕ) (w : Style Url) (a : StyleScan)
    → style_quoted_error (style_url_error s b) taken q c ≡ None → SomePart s → PathScan w a
    → StyleScanBelow a (style_quoted_next taken q z s t c b) → PartOrigin s (λ r. style_quoted_next taken q z r t c b)
    (IsStyleBehind (style_quoted_next taken q z s t c b)) a
quoted-path true q z s t c b w a e o i h = fed-quoted q (behind_taken_in_string z b) s (next_triple t (url_class_of b)) b w a e i h
quoted-path false DoubleQuote z s t class.QuotationMark b w a e o i h = kept s ScanEnded w a (tight ScanEnded tt) o i h
quoted-path false SingleQuote z s t class.Apostrophe b w a e o i h = kept s ScanEnded w a (tight ScanEnded tt) o i h
quoted-path false q z s t class.Newline b w a e o i h = absurd (given _ e)
quoted-path false q z s t class.ReverseSolidus b w a e o i h = fed-quoted q AfterBackslash s (next_triple t (url_class_of b)) b w a e i h
quoted-path false q z s t c b w a e o i h = fed-quoted q (behind_byte z b) s (next_triple t (url_class_of b)) b w a e i h

-- at a byte
paths : (n : StyleScan) (c : StyleClass) (b : ℕ) (v w : Style Url) (a : StyleScan) → style_scan_error n c b ≡ None → HasStyle n v → PathScan w a
    → StyleScanBelow a (style_scan_next n c b) → StylePathOrigin n (λ k. style_scan_next k c b) (IsStyleBehind (style_scan_next n c b)) a
paths (ScanCode x) c b v w a e i p h = code-path x.word x.slash x.lt c b w a p h
paths (ScanBareUrl s t) c b v w a e i p h = of-bare s t (λ k. style_scan_next k c b) (IsStyleBehind (style_bare_next s t c b)) a (bare-path s t c b w a e (some-part v s t i) p h)
paths (ScanQuotedUrl q z s t) c b v w a e i p h =
    of-quoted q z s t (λ k. style_scan_next k c b) (IsStyleBehind (style_quoted_next (is_taken_in_style z b) q z s t c b)) a
    (quoted-path (is_taken_in_style z b) q z s t c b w a e (some-quoted-part v q z s t i) p h)
paths n c b v w a e i p h = no-set-path n (λ k. style_scan_next k c b) (IsStyleBehind (style_scan_next n c b)) a v tt i (tight-next n c b tt w a h p)

pub paths-from : (n : StyleScan) (c : StyleClass) (b : ℕ) (v w : Style Url) → style_scan_error n c b ≡ None → HasStyle n v → (h : HasStyle (style_scan_next n c b) w)
    → StylePathOrigin n (λ k. style_scan_next k c b) (IsStyleBehind (style_scan_next n c b)) h.alone
paths-from n c b v w e i h = paths n c b v w h.alone e i (path-scan w h.alone h.is_alone) h.below
