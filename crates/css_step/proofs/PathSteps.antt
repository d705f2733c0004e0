-- A path behind a step comes from one before, of which alone the scan is, or from one that has a part in a URL.
use Rattle.std.proofs.Common.{false}
use Rattle.std.specs.Bool.{⊤}
use Rattle.css_lexer.specs.Escapes.{StyleEscape, NoEscape, AfterBackslash, HexDigits, AfterReturn}
use Rattle.css_lexer.specs.States.{Quote, AfterLessThan, AfterSolidus, Comment, InString, Word, Fresh, Bare, Quoted, Ended, SplitWord, StarAtCut, Style, Out, InUrl}
use Rattle.place_core.specs.declared.parts.Parts.{Parts}
use Rattle.place_core.specs.place.UrlParts.{parts_of}
use Rattle.url_lexer.specs.States.{Url, url_start}
use Rattle.url_lexer.specs.Triples.{Triple}
use Rattle.css_step.specs.StyleOrigins.{StylePathOrigin}
use Rattle.css_step.specs.StyleScans.{StyleScan, ScanCode, ScanWord, ScanSplitEscape, ScanSolidus, ScanLessThan, ScanComment, ScanStarBefore, ScanString, ScanFresh, ScanBareUrl, ScanQuotedUrl, ScanEnded}
use Rattle.css_step.specs.StyleScanLaws.{IsStyleScan, scans_less_than, scans_word, scans_solidus, scans_comment, scans_string, scans_split_word, scans_star_before, scans_fresh, scans_bare, scans_quoted, scans_ended}
use Rattle.css_step.specs.StyleSetLaws.{below_itself, below_bare, below_quoted, HasStyle}
use Rattle.css_step.proofs.BornePaths.{no-split, url-of}
use Rattle.css_step.proofs.StylePathOrigins.{PartOrigin}

-- The scan of one path comes from itself.
pub by-path : (n : StyleScan) (f : StyleScan → StyleScan) (R : (one a : StyleScan) → Type 0) (a : StyleScan) (v : Style Url) → IsStyleScan v n → R (f n) a → StylePathOrigin n f R a
by-path n f R a v i h = record { path = v; has = record { alone = n; is_alone = i; below = below_itself n }; leads = h }

pub split-path : (e : StyleEscape) (f : StyleScan → StyleScan) (R : (one a : StyleScan) → Type 0) (a : StyleScan) (v : Style Url) → HasStyle (ScanSplitEscape e) v → R (f (ScanSplitEscape e)) a
    → StylePathOrigin (ScanSplitEscape e) f R a
split-path NoEscape f R a v i h = absurd (no-split v i)
split-path AfterBackslash f R a v i h = by-path _ f R a (Out (SplitWord AfterBackslash)) (scans_split_word AfterBackslash) h
split-path (HexDigits k) f R a v i h = by-path _ f R a (Out (SplitWord (HexDigits k))) (scans_split_word (HexDigits k)) h
split-path AfterReturn f R a v i h = by-path _ f R a (Out (SplitWord AfterReturn)) (scans_split_word AfterReturn) h

abbrev pub HasNoSet : StyleScan → Type 0
HasNoSet (ScanCode x) = ⊥
HasNoSet (ScanBareUrl s t) = ⊥
HasNoSet (ScanQuotedUrl q e s t) = ⊥
HasNoSet n = ⊤

pub no-set-path : (n : StyleScan) (f : StyleScan → StyleScan) (R : (one a : StyleScan) → Type 0) (a : StyleScan) (v : Style Url) → HasNoSet n → HasStyle n v → R (f n) a → StylePathOrigin n f R a
no-set-path (ScanCode x) f R a v j i h = absurd j
no-set-path (ScanBareUrl s t) f R a v j i h = absurd j
no-set-path (ScanQuotedUrl q e s t) f R a v j i h = absurd j
no-set-path (ScanWord w e) f R a v j i h = by-path _ f R a (Out (Word w e)) (scans_word w e) h
no-set-path (ScanSplitEscape e) f R a v j i h = split-path e f R a v i h
no-set-path ScanSolidus f R a v j i h = by-path _ f R a (Out (AfterSolidus false)) (scans_solidus false) h
no-set-path ScanLessThan f R a v j i h = by-path _ f R a (Out AfterLessThan) scans_less_than h
no-set-path (ScanComment star) f R a v j i h = by-path _ f R a (Out (Comment star)) (scans_comment star) h
no-set-path ScanStarBefore f R a v j i h = by-path _ f R a (Out StarAtCut) scans_star_before h
no-set-path (ScanString q e) f R a v j i h = by-path _ f R a (Out (InString q e)) (scans_string q e) h
no-set-path ScanFresh f R a v j i h = by-path _ f R a (InUrl Fresh url_start) scans_fresh h
no-set-path ScanEnded f R a v j i h = by-path _ f R a (InUrl Ended url_start) (scans_ended url_start) h

pub of-bare : (s : Parts) (t : Triple) (f : StyleScan → StyleScan) (R : (one a : StyleScan) → Type 0) (a : StyleScan) → PartOrigin s (λ r. f (ScanBareUrl r t)) R a → StylePathOrigin (ScanBareUrl s t) f R a
of-bare s t f R a o = record {
  path = InUrl Bare (url-of o.0 t);
  has = record { alone = ScanBareUrl (parts_of o.0) t; is_alone = scans_bare (url-of o.0 t); below = below_bare (parts_of o.0) s t o.1 };
  leads = o.2;
}

pub of-quoted : (q : Quote) (z : StyleEscape) (s : Parts) (t : Triple) (f : StyleScan → StyleScan) (R : (one a : StyleScan) → Type 0) (a : StyleScan) → PartOrigin s (λ r. f (ScanQuotedUrl q z r t)) R a
    → StylePathOrigin (ScanQuotedUrl q z s t) f R a
of-quoted q z s t f R a o = record {
  path = InUrl (Quoted q z) (url-of o.0 t);
  has = record { alone = ScanQuotedUrl q z (parts_of o.0) t; is_alone = scans_quoted q z (url-of o.0 t); below = below_quoted q z (parts_of o.0) s t o.1 };
  leads = o.2;
}
