-- What the step of the places of several paths in a style promises of the path of one.
use Rattle.std.specs.Prelude.{◌≡◌, ℕ, Bool, true, false, Option, Some, None, if◌then◌else◌}
use Rattle.css_lexer.specs.Escapes.{StyleEscape}
use Rattle.css_lexer.specs.PartSpots.{may_begin_text, has_read_nothing, part_spot}
use Rattle.css_lexer.specs.Paths.{style_after_cut, style_after_hole}
use Rattle.css_lexer.specs.Refusals.{style_refuses_class, style_refuses_cut, style_refuses_hole}
use Rattle.css_lexer.specs.Spots.{StyleSpot}
use Rattle.css_lexer.specs.States.{Quote, UrlWord, Outside, Between, AfterLessThan, Word, AfterSolidus, Comment, InString, BadUrl, BehindHole, SplitWord, SolidusAtCut, LessThanAtCut, StarAtCut, UrlForm, Fresh, Bare, Quoted, Ended, Style, Out, InUrl, style_start}
use Rattle.css_lexer.specs.Steps.{style_next}
use Rattle.css_lexer.specs.Urls.{urls}
use Rattle.css_lexer.specs.declared.class.StyleClass.{StyleClass}
use Rattle.place_core.specs.declared.css.Css.TheVariants as css
use Rattle.place_core.specs.place.UrlParts.{parts_of}
use Rattle.url_lexer.specs.Parts.{UrlPart}
use Rattle.url_lexer.specs.States.{Url, url_start}
use Rattle.css_step.specs.StyleScans.{StyleScan, ScanCode, ScanWord, ScanSolidus, ScanLessThan, ScanComment, ScanStarBefore, ScanString, ScanFresh, ScanBareUrl, ScanQuotedUrl, ScanEnded, style_between, style_split_word, style_scan_start, style_scan_next, style_scan_error, style_scan_place, style_scan_cut_error, style_at_hole, style_hole_error}
use Rattle.place_core.specs.place.StyleParts.{style_place, style_tails}

-- A path alone, and how its text is stepped. Before its URL nothing of the URL has been read. A path is never in a
-- url that is none (`BadUrl`).
pub data IsStyleScan : Style Url → StyleScan → Type 0 where
  scans_between : (k : Bool) → IsStyleScan (Out (Between k)) style_between
  scans_less_than : IsStyleScan (Out AfterLessThan) ScanLessThan
  scans_word : (w : UrlWord) (e : StyleEscape) → IsStyleScan (Out (Word w e)) (ScanWord w e)
  scans_solidus : (k : Bool) → IsStyleScan (Out (AfterSolidus k)) ScanSolidus
  scans_comment : (star : Bool) → IsStyleScan (Out (Comment star)) (ScanComment star)
  scans_string : (q : Quote) (e : StyleEscape) → IsStyleScan (Out (InString q e)) (ScanString q e)
  scans_behind_hole : (solidus less : Bool) → IsStyleScan (Out (BehindHole solidus less)) (ScanCode (style_tails true solidus less))
  scans_split_word : (e : StyleEscape) → IsStyleScan (Out (SplitWord e)) (style_split_word e)
  scans_solidus_before : (k : Bool) → IsStyleScan (Out (SolidusAtCut k)) (ScanCode (style_tails false true false))
  scans_less_than_before : IsStyleScan (Out LessThanAtCut) (ScanCode (style_tails false false true))
  scans_star_before : IsStyleScan (Out StarAtCut) ScanStarBefore
  scans_fresh : IsStyleScan (InUrl Fresh url_start) ScanFresh
  scans_bare : (u : Url) → IsStyleScan (InUrl Bare u) (ScanBareUrl (parts_of u.part) u.triple)
  scans_quoted : (q : Quote) (e : StyleEscape) (u : Url) → IsStyleScan (InUrl (Quoted q e) u) (ScanQuotedUrl q e (parts_of u.part) u.triple)
  scans_ended : (u : Url) → IsStyleScan (InUrl Ended u) ScanEnded

-- The same as a function: a path has one scan state, and in a url that is none it has none, nor before a URL of which something has been read.
abbrev pub style_scanned_outside : Outside → Option StyleScan
style_scanned_outside (Between k) = Some style_between
style_scanned_outside AfterLessThan = Some ScanLessThan
style_scanned_outside (Word w e) = Some (ScanWord w e)
style_scanned_outside (AfterSolidus k) = Some ScanSolidus
style_scanned_outside (Comment star) = Some (ScanComment star)
style_scanned_outside (InString q e) = Some (ScanString q e)
style_scanned_outside BadUrl = None
style_scanned_outside (BehindHole solidus less) = Some (ScanCode (style_tails true solidus less))
style_scanned_outside (SplitWord e) = Some (style_split_word e)
style_scanned_outside (SolidusAtCut k) = Some (ScanCode (style_tails false true false))
style_scanned_outside LessThanAtCut = Some (ScanCode (style_tails false false true))
style_scanned_outside StarAtCut = Some ScanStarBefore

abbrev pub style_scanned_in_url : UrlForm → Url → Option StyleScan
style_scanned_in_url Fresh u = if has_read_nothing u then Some ScanFresh else None
style_scanned_in_url Bare u = Some (ScanBareUrl (parts_of u.part) u.triple)
style_scanned_in_url (Quoted q e) u = Some (ScanQuotedUrl q e (parts_of u.part) u.triple)
style_scanned_in_url Ended u = Some ScanEnded

abbrev pub style_scanned : Style Url → Option StyleScan
style_scanned (Out s) = style_scanned_outside s
style_scanned (InUrl f u) = style_scanned_in_url f u

-- On one path the step is the path's own, and so is what is refused: at a byte; at the end of a node, where the next text begins at the path's
-- place; and at a hole, which stands where a node may end, so that the next text begins at the place behind it.
pub record OneStyle (v : Style Url) (n : StyleScan) : Type 0 where
  pub error : (c : StyleClass) (b : ℕ) → style_scan_error n c b ≡ style_refuses_class urls v c b
  pub next : (c : StyleClass) (b : ℕ) → style_refuses_class urls v c b ≡ None → IsStyleScan (style_next urls v c b) (style_scan_next n c b)
  pub cut_error : style_scan_cut_error n ≡ style_refuses_cut urls v
  pub place : (p : StyleSpot UrlPart) → part_spot v ≡ Some p → style_place p ≡ style_scan_place n
  pub after_cut : style_refuses_cut urls v ≡ None → IsStyleScan (style_after_cut urls v) (style_scan_start (style_scan_place n))
  pub hole_error : style_hole_error (style_scan_place n) ≡ style_refuses_hole urls v
  pub after_hole : style_refuses_cut urls v ≡ None → style_refuses_hole urls v ≡ None
      → IsStyleScan (style_after_hole urls v) (style_scan_start (style_at_hole (style_scan_place n)))

-- Between two texts: one may begin behind the end of a node, and behind a hole that stands where a node may end. Where one may begin and
-- the path has a place, the end of a node is not refused and changes nothing, and a text at that place begins in the path's scan state.
pub record OneStyleBetweenTexts (v : Style Url) (n : StyleScan) : Type 0 where
  pub after_cut : may_begin_text (style_after_cut urls v) ≡ true
  pub after_hole : style_refuses_cut urls v ≡ None → may_begin_text (style_after_hole urls v) ≡ true
  pub cut_error : (p : StyleSpot UrlPart) → may_begin_text v ≡ true → part_spot v ≡ Some p → style_refuses_cut urls v ≡ None
  pub kept : (p : StyleSpot UrlPart) → may_begin_text v ≡ true → part_spot v ≡ Some p → style_after_cut urls v ≡ v
  pub start : (p : StyleSpot UrlPart) → may_begin_text v ≡ true → part_spot v ≡ Some p → style_scan_start (style_scan_place n) ≡ n

-- A path is stepped in one way: its scan state is `style_scanned`.
pub record IsExactOnOneStyle : Type 0 where
  pub begins : IsStyleScan style_start (style_scan_start (css.Code (style_tails false false false)))
  pub goes_on : (v : Style Url) (n : StyleScan) → IsStyleScan v n → OneStyle v n
  pub one_way : (v : Style Url) (n m : StyleScan) → IsStyleScan v n → IsStyleScan v m → n ≡ m
  pub scanned : (v : Style Url) (n : StyleScan) → IsStyleScan v n → style_scanned v ≡ Some n
  pub has_scan : (v : Style Url) (n : StyleScan) → style_scanned v ≡ Some n → IsStyleScan v n
  pub between_texts : (v : Style Url) (n : StyleScan) → IsStyleScan v n → OneStyleBetweenTexts v n
