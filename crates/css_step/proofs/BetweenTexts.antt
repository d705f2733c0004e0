-- A path between two texts of a style: what the end of a node and a hole leave, and what a text begins with.
use Rattle.std.proofs.Common.{◌≡◌, true, false, Option, Some, None, option_map, refl, sym, ap}
use Rattle.css_lexer.specs.Escapes.{StyleEscape, NoEscape}
use Rattle.css_lexer.specs.PartSpots.{is_no_escape, may_begin_text_outside, may_begin_text, part_spot}
use Rattle.css_lexer.specs.Paths.{out_after_cut, out_after_hole, style_after_cut, style_after_hole}
use Rattle.css_lexer.specs.RefusalCodes.{StyleCutRefusal, first_refusal}
use Rattle.css_lexer.specs.Refusals.{refuses_in_escape, refuses_cut_out, style_refuses_cut}
use Rattle.css_lexer.specs.Spots.{StyleSpot, UrlSpot, QuotedUrlSpot}
use Rattle.css_lexer.specs.States.{Quote, DoubleQuote, SingleQuote, Outside, AfterLessThan, Word, AfterSolidus, Comment, InString, SplitWord, Fresh, Bare, Quoted, Ended, Style, Out, InUrl}
use Rattle.css_lexer.specs.Urls.{urls, url_cut_refusal}
use Rattle.place_core.specs.declared.parts.Parts.{Parts}
use Rattle.place_core.specs.place.StyleParts.{style_quoted_place, style_string_place}
use Rattle.place_core.specs.place.UrlParts.{parts_of}
use Rattle.url_lexer.specs.Parts.{UrlPart}
use Rattle.url_lexer.specs.Refusals.{url_refuses_cut, refuses_cut_in}
use Rattle.url_lexer.specs.Spots.{where_whole}
use Rattle.url_lexer.specs.States.{Url, url_at}
use Rattle.url_lexer.specs.Triples.{Triple, NoTriple}
use Rattle.css_step.specs.StyleScans.{StyleScan, ScanBareUrl, ScanString, ScanQuotedUrl, style_split_word, style_scan_start, style_scan_place}
use Rattle.css_step.specs.StyleScanLaws.{IsStyleScan, scans_between, scans_less_than, scans_word, scans_solidus, scans_comment, scans_string, scans_behind_hole, scans_split_word, scans_solidus_before, scans_less_than_before, scans_star_before, scans_fresh, scans_bare, scans_quoted, scans_ended, OneStyleBetweenTexts}

-- where a text may begin, no escape is open, and no percent triple
no-escape : (e : StyleEscape) → is_no_escape e ≡ true → e ≡ NoEscape
no-escape NoEscape m = refl
no-escape e m = cc

not-cut : (e : StyleEscape) (o : Option StyleCutRefusal) → first_refusal (refuses_in_escape e) o ≡ None → is_no_escape e ≡ true
not-cut NoEscape o n = refl
not-cut e o n = cc

in-no-escape : (e : StyleEscape) → refuses_in_escape e ≡ None → is_no_escape e ≡ true
in-no-escape NoEscape n = refl
in-no-escape e n = cc

no-triple : (f : UrlPart → StyleSpot UrlPart) (t : Triple) (r : UrlPart) (p : StyleSpot UrlPart) → option_map f (where_whole t r) ≡ Some p → t ≡ NoTriple
no-triple f NoTriple r p n = refl
no-triple f t r p n = cc

-- behind the end of a node, and behind a hole
begins-after-cut : (v : Style Url) (n : StyleScan) → IsStyleScan v n → may_begin_text (style_after_cut urls v) ≡ true
begins-after-cut _ _ (scans_between k) = refl
begins-after-cut _ _ scans_less_than = refl
begins-after-cut _ _ (scans_word w e) = refl
begins-after-cut _ _ (scans_solidus k) = refl
begins-after-cut _ _ (scans_comment true) = refl
begins-after-cut _ _ (scans_comment false) = refl
begins-after-cut _ _ (scans_string q e) = refl
begins-after-cut _ _ (scans_behind_hole s l) = refl
begins-after-cut _ _ (scans_split_word e) = refl
begins-after-cut _ _ (scans_solidus_before k) = refl
begins-after-cut _ _ scans_less_than_before = refl
begins-after-cut _ _ scans_star_before = refl
begins-after-cut _ _ scans_fresh = refl
begins-after-cut _ _ (scans_bare u) = refl
begins-after-cut _ _ (scans_quoted q e u) = refl
begins-after-cut _ _ (scans_ended u) = refl

hole-outside : (s : Outside) → refuses_cut_out s ≡ None → may_begin_text_outside (out_after_hole s) ≡ true
hole-outside (InString q e) n = in-no-escape e n
hole-outside (Comment true) n = refl
hole-outside (Comment false) n = refl
hole-outside s n = refl

begins-after-hole : (v : Style Url) → style_refuses_cut urls v ≡ None → may_begin_text (style_after_hole urls v) ≡ true
begins-after-hole (Out s) n = hole-outside s n
begins-after-hole (InUrl (Quoted q e) u) n = not-cut e (url_cut_refusal (url_refuses_cut u)) n
begins-after-hole (InUrl f u) n = refl

-- where a text may begin: the end of a node is not refused there,
no-cut-outside : (s : Outside) → may_begin_text_outside s ≡ true → refuses_cut_out s ≡ None
no-cut-outside (Word w e) m = cc
no-cut-outside (SplitWord e) m = ap refuses_in_escape (no-escape e m)
no-cut-outside (InString q e) m = ap refuses_in_escape (no-escape e m)
no-cut-outside s m = refl

no-cut-whole : (u : Url) → u.triple ≡ NoTriple → url_cut_refusal (url_refuses_cut u) ≡ None
no-cut-whole u h = ap (λ (t : Triple). url_cut_refusal (refuses_cut_in t)) h

no-cut-quoted : (q : Quote) (e : StyleEscape) (u : Url) → is_no_escape e ≡ true → u.triple ≡ NoTriple → style_refuses_cut urls (InUrl (Quoted q e) u) ≡ None
no-cut-quoted q NoEscape u m h = no-cut-whole u h
no-cut-quoted q e u m h = cc

no-cut : (v : Style Url) (p : StyleSpot UrlPart) → may_begin_text v ≡ true → part_spot v ≡ Some p → style_refuses_cut urls v ≡ None
no-cut (Out s) p m i = no-cut-outside s m
no-cut (InUrl Fresh u) p m i = refl
no-cut (InUrl Bare u) p m i = no-cut-whole u (no-triple UrlSpot u.triple u.part p i)
no-cut (InUrl (Quoted q e) u) p m i = no-cut-quoted q e u m (no-triple (QuotedUrlSpot q) u.triple u.part p i)
no-cut (InUrl Ended u) p m i = refl

-- it changes nothing,
kept-outside : (s : Outside) → may_begin_text_outside s ≡ true → out_after_cut s ≡ s
kept-outside AfterLessThan m = cc
kept-outside (Word w e) m = cc
kept-outside (AfterSolidus k) m = cc
kept-outside (Comment true) m = cc
kept-outside (Comment false) m = refl
kept-outside (InString q e) m = ap (InString q) (sym (no-escape e m))
kept-outside (SplitWord e) m = ap SplitWord (sym (no-escape e m))
kept-outside s m = refl

kept-quoted : (q : Quote) (e : StyleEscape) (u : Url) → is_no_escape e ≡ true → u.triple ≡ NoTriple → style_after_cut urls (InUrl (Quoted q e) u) ≡ InUrl (Quoted q e) u
kept-quoted q NoEscape u m h = ap (λ (t : Triple). InUrl (Quoted q NoEscape) (url_at u.part u.scheme u.free t)) (sym h)
kept-quoted q e u m h = cc

kept : (v : Style Url) (p : StyleSpot UrlPart) → may_begin_text v ≡ true → part_spot v ≡ Some p → style_after_cut urls v ≡ v
kept (Out s) p m i = ap Out (kept-outside s m)
kept (InUrl Fresh u) p m i = refl
kept (InUrl Bare u) p m i = ap (λ (t : Triple). InUrl Bare (url_at u.part u.scheme u.free t)) (sym (no-triple UrlSpot u.triple u.part p i))
kept (InUrl (Quoted q e) u) p m i = kept-quoted q e u m (no-triple (QuotedUrlSpot q) u.triple u.part p i)
kept (InUrl Ended u) p m i = refl

-- and a text begins there in the scan state of the path
string-start : (q : Quote) → style_scan_start (style_string_place q) ≡ ScanString q NoEscape
string-start DoubleQuote = refl
string-start SingleQuote = refl

in-string : (q : Quote) (e : StyleEscape) → is_no_escape e ≡ true → style_scan_start (style_string_place q) ≡ ScanString q e
in-string q NoEscape m = string-start q
in-string q e m = cc

in-split-word : (e : StyleEscape) → is_no_escape e ≡ true → style_scan_start (style_scan_place (style_split_word e)) ≡ style_split_word e
in-split-word NoEscape m = refl
in-split-word e m = cc

quoted-start : (q : Quote) (s : Parts) → style_scan_start (style_quoted_place q s) ≡ ScanQuotedUrl q NoEscape s NoTriple
quoted-start DoubleQuote s = refl
quoted-start SingleQuote s = refl

in-quoted : (q : Quote) (e : StyleEscape) (s : Parts) (t : Triple) → is_no_escape e ≡ true → t ≡ NoTriple → style_scan_start (style_quoted_place q s) ≡ ScanQuotedUrl q e s t
in-quoted q NoEscape s NoTriple m h = quoted-start q s
in-quoted q e s t m h = cc

start : (v : Style Url) (n : StyleScan) → IsStyleScan v n → (p : StyleSpot UrlPart) → may_begin_text v ≡ true → part_spot v ≡ Some p
    → style_scan_start (style_scan_place n) ≡ n
start _ _ (scans_between k) p m i = refl
start _ _ scans_less_than p m i = cc
start _ _ (scans_word w e) p m i = cc
start _ _ (scans_solidus k) p m i = cc
start _ _ (scans_comment true) p m i = cc
start _ _ (scans_comment false) p m i = refl
start _ _ (scans_string q e) p m i = in-string q e m
start _ _ (scans_behind_hole s l) p m i = refl
start _ _ (scans_split_word e) p m i = in-split-word e m
start _ _ (scans_solidus_before k) p m i = refl
start _ _ scans_less_than_before p m i = refl
start _ _ scans_star_before p m i = refl
start _ _ scans_fresh p m i = refl
start _ _ (scans_bare u) p m i = ap (λ (t : Triple). ScanBareUrl (parts_of u.part) t) (sym (no-triple UrlSpot u.triple u.part p i))
start _ _ (scans_quoted q e u) p m i = in-quoted q e (parts_of u.part) u.triple m (no-triple (QuotedUrlSpot q) u.triple u.part p i)
start _ _ (scans_ended u) p m i = refl

pub between-texts : (v : Style Url) (n : StyleScan) → IsStyleScan v n → OneStyleBetweenTexts v n
between-texts v n i = record {
  after_cut = begins-after-cut v n i;
  after_hole = λ h. begins-after-hole v h;
  cut_error = λ p m h. no-cut v p m h;
  kept = λ p m h. kept v p m h;
  start = λ p m h. start v n i p m h;
}
