-- Each member of a place in a style comes from a member before, on whatever path bears that one; and what is refused is refused on paths that are at
-- the place. Within a text, what a path bears is what its scan keeps as a set.
use Rattle.std.specs.Prelude.{◌≡◌, ◌||◌, ℕ, Bool, true, false, Option, Some, None}
use Rattle.css_lexer.specs.Escapes.{StyleEscape}
use Rattle.css_lexer.specs.Paths.{style_after_cut, style_after_hole}
use Rattle.css_lexer.specs.RefusalCodes.{RefusalCode, AmbigContext}
use Rattle.css_lexer.specs.Refusals.{style_refuses_class, style_refuses_cut, style_refuses_hole}
use Rattle.css_lexer.specs.States.{Quote, Style}
use Rattle.css_lexer.specs.Steps.{style_next}
use Rattle.css_lexer.specs.Urls.{urls, url_refusal}
use Rattle.css_lexer.specs.declared.class.StyleClass.{StyleClass}
use Rattle.place_core.specs.declared.css.Css.{Css}
use Rattle.place_core.specs.declared.member.Member.{Member}
use Rattle.place_core.specs.declared.parts.Parts.{Parts}
use Rattle.place_core.specs.declared.prefix.Prefix.TheVariants as prefix
use Rattle.place_core.specs.place.LanguagePlaces.{css_tails_have, css_star_has, css_has, parts_have}
use Rattle.place_core.specs.place.Places.{is_whole}
use Rattle.place_core.specs.place.UrlParts.{parts_of}
use Rattle.url_lexer.specs.Classes.{url_class_of}
use Rattle.url_lexer.specs.Parts.{UrlPart, UrlOpen}
use Rattle.url_lexer.specs.Prefixes.{Prefix}
use Rattle.url_lexer.specs.States.{Url}
use Rattle.url_lexer.specs.Triples.{Triple}
use Rattle.url_lexer.specs.TwoPaths.{refuses_hole_on_two}
use Rattle.url_lexer.specs.declared.class.UrlClass.TheVariants as url_class
use Rattle.css_step.specs.StyleScans.{StyleScan, ScanCode, ScanWord, ScanSplitEscape, ScanSolidus, ScanLessThan, ScanComment, ScanStarBefore, ScanString, ScanFresh, ScanBareUrl, ScanQuotedUrl, ScanEnded, style_split_word, style_scan_start, style_scan_next, style_scan_error, style_scan_place, style_scan_cut_error, style_at_hole, style_hole_error}
use Rattle.css_step.specs.StyleScanLaws.{IsStyleScan}
use Rattle.css_step.specs.StyleSetLaws.{StyleScanBelow, HasStyle}
use Rattle.css_step.specs.StyleValidity.{style_part}
use Rattle.place_core.specs.place.StyleParts.{style_tails}

-- The members of what a scan keeps as a set: a word, a `/`, a `<` and a `*` of a comment that some path has from before the text, and the parts of a
-- URL. A word of this text, and the rest, is in no set: all paths share it.
abbrev pub scan_set_has : StyleScan → Member → Bool
scan_set_has (ScanCode x) m = css_tails_have x m
scan_set_has (ScanSplitEscape e) m = css_tails_have (style_tails true false false) m
scan_set_has ScanStarBefore m = css_star_has true m
scan_set_has (ScanBareUrl s t) m = parts_have s m
scan_set_has (ScanQuotedUrl q e s t) m = parts_have s m
scan_set_has (ScanWord w e) m = false
scan_set_has ScanSolidus m = false
scan_set_has ScanLessThan m = false
scan_set_has (ScanComment star) m = false
scan_set_has (ScanString q e) m = false
scan_set_has ScanFresh m = false
scan_set_has ScanEnded m = false

-- and the one that every path bears
abbrev pub style_scan_has : StyleScan → Member → Bool
style_scan_has n m = is_whole m || scan_set_has n m

-- A path bears a member: what it is alone has it.
pub record StyleBears (v : Style Url) (m : Member) : Type 0 where
  pub alone : StyleScan
  pub is_alone : IsStyleScan v alone
  pub has : style_scan_has alone m ≡ true

-- A member before a step that a member behind it comes from: on whatever path at the place bears it.
pub record IsStyleOrigin (n : StyleScan) (step : Style Url → Style Url) (y x : Member) : Type 0 where
  pub has : style_scan_has n x ≡ true
  pub leads : (v : Style Url) → HasStyle n v → StyleBears v x → StyleBears (step v) y

-- A path behind a step comes from one before: `a` is what the path behind is alone, and `Leads` says of it and of what the path before comes to how.
pub record StylePathOrigin (n : StyleScan) (step : StyleScan → StyleScan) (Leads : (one a : StyleScan) → Type 0) (a : StyleScan) : Type 0 where
  pub path : Style Url
  pub has : HasStyle n path
  pub leads : Leads (step has.alone) a

-- At a byte it is the very same, with two exceptions: where the place behind is in a word from before the text, it stands for a path in any word, and
-- for one between tokens; and where prefixes differ, what the beginning of a URL spells may be another.
pub data IsStyleBehind : (behind one a : StyleScan) → Type 0 where
  behind_itself : (n a : StyleScan) → IsStyleBehind n a a
  behind_split_word : (e : StyleEscape) (a : StyleScan) → StyleScanBelow a (style_split_word e) → IsStyleBehind (style_split_word e) (style_split_word e) a
  behind_bare : (s : Parts) (p q : Prefix) (t : Triple) → s.opened ≡ Some prefix.Differs
      → IsStyleBehind (ScanBareUrl s t) (ScanBareUrl (parts_of (UrlOpen p)) t) (ScanBareUrl (parts_of (UrlOpen q)) t)
  behind_quoted : (c : Quote) (e : StyleEscape) (s : Parts) (p q : Prefix) (t : Triple) → s.opened ≡ Some prefix.Differs
      → IsStyleBehind (ScanQuotedUrl c e s t) (ScanQuotedUrl c e (parts_of (UrlOpen p)) t) (ScanQuotedUrl c e (parts_of (UrlOpen q)) t)

-- At a byte that is accepted. At the beginning of a text the members are those of the place. Each member is borne by a path, if there is one at the
-- place at all.
pub record StylesComeFrom : Type 0 where
  pub begins : (c : Css) (x : Member) → style_scan_has (style_scan_start c) x ≡ (is_whole x || css_has c x)
  pub are_borne : (n : StyleScan) (v : Style Url) (x : Member) → HasStyle n v → style_scan_has n x ≡ true → (w : Style Url) × HasStyle n w × StyleBears w x
  pub members : (n : StyleScan) (c : StyleClass) (b : ℕ) (y : Member) → style_scan_error n c b ≡ None → style_scan_has (style_scan_next n c b) y ≡ true
      → (x : Member) × IsStyleOrigin n (λ v. style_next urls v c b) y x
  pub paths : (n : StyleScan) (c : StyleClass) (b : ℕ) (v w : Style Url) → style_scan_error n c b ≡ None → HasStyle n v → (h : HasStyle (style_scan_next n c b) w)
      → StylePathOrigin n (λ k. style_scan_next k c b) (IsStyleBehind (style_scan_next n c b)) h.alone

-- At the end of a node that is accepted, and at a hole, where the next text begins at the place behind.
abbrev pub style_scan_after_cut : StyleScan → StyleScan
style_scan_after_cut n = style_scan_start (style_scan_place n)

abbrev pub style_scan_after_hole : StyleScan → StyleScan
style_scan_after_hole n = style_scan_start (style_at_hole (style_scan_place n))

-- There a path behind is below what one before comes to. But a hole keeps a `/` and a `<`: where paths have ended in either, one that has ended in
-- both is among those behind the hole, and comes from no one path.
abbrev pub IsStyleUnder : (one a : StyleScan) → Type 0
IsStyleUnder one a = StyleScanBelow a one

pub record StylesComeFromHole : Type 0 where
  pub cut_members : (n : StyleScan) (y : Member) → style_scan_cut_error n ≡ None → style_scan_has (style_scan_after_cut n) y ≡ true
      → (x : Member) × IsStyleOrigin n (λ v. style_after_cut urls v) y x
  pub cut_paths : (n : StyleScan) (v w : Style Url) → style_scan_cut_error n ≡ None → HasStyle n v → (h : HasStyle (style_scan_after_cut n) w)
      → StylePathOrigin n style_scan_after_cut IsStyleUnder h.alone
  pub hole_members : (n : StyleScan) (y : Member) → style_scan_cut_error n ≡ None → style_hole_error (style_scan_place n) ≡ None
      → style_scan_has (style_scan_after_hole n) y ≡ true → (x : Member) × IsStyleOrigin n (λ v. style_after_hole urls v) y x
  pub hole_paths : (n : StyleScan) (v w : Style Url) → style_scan_cut_error n ≡ None → style_hole_error (style_scan_place n) ≡ None → HasStyle n v
      → (h : HasStyle (style_scan_after_hole n) w) → (h.alone ≡ ScanCode (style_tails true true true) → ⊥)
      → StylePathOrigin n style_scan_after_hole IsStyleUnder h.alone

-- the parts of the URL in which the paths are
abbrev pub style_scan_parts : StyleScan → Option Parts
style_scan_parts (ScanBareUrl s t) = Some s
style_scan_parts (ScanQuotedUrl q e s t) = Some s
style_scan_parts (ScanCode x) = None
style_scan_parts (ScanWord w e) = None
style_scan_parts (ScanSplitEscape e) = None
style_scan_parts ScanSolidus = None
style_scan_parts ScanLessThan = None
style_scan_parts (ScanComment star) = None
style_scan_parts ScanStarBefore = None
style_scan_parts (ScanString q e) = None
style_scan_parts ScanFresh = None
style_scan_parts ScanEnded = None

-- A byte that is refused is refused with this code on whatever path bears some member; or it is a `:` in a URL, and the prefixes of paths differ.
pub data StyleEvidence (n : StyleScan) (c : StyleClass) (b : ℕ) (e : RefusalCode) : Type 0 where
  style_on_one : (x : Member) → style_scan_has n x ≡ true → ((v : Style Url) → HasStyle n v → StyleBears v x → style_refuses_class urls v c b ≡ Some e)
      → StyleEvidence n c b e
  style_on_apart : (s : Parts) → style_scan_parts n ≡ Some s → s.opened ≡ Some prefix.Differs → url_class_of b ≡ url_class.Colon → e ≡ AmbigContext
      → StyleEvidence n c b e

-- on two paths, in a URL: no chain of sanitizers fits the parts of both
pub record ClashStyles (v w : Style Url) (e : RefusalCode) : Type 0 where
  pub first : UrlPart
  pub second : UrlPart
  pub in_first : style_part v ≡ Some first
  pub in_second : style_part w ≡ Some second
  pub refused : url_refusal (refuses_hole_on_two first second) ≡ Some e

-- A hole that is refused is refused on whatever path bears some member, or on any two that bear two.
pub data StyleHoleEvidence (n : StyleScan) (e : RefusalCode) : Type 0 where
  style_hole_on_one : (x : Member) → style_scan_has n x ≡ true → ((v : Style Url) → HasStyle n v → StyleBears v x → style_refuses_hole urls v ≡ Some e)
      → StyleHoleEvidence n e
  style_hole_on_two : (x y : Member) → style_scan_has n x ≡ true → style_scan_has n y ≡ true
      → ((v w : Style Url) → HasStyle n v → HasStyle n w → StyleBears v x → StyleBears w y → ClashStyles v w e) → StyleHoleEvidence n e

-- The end of a node is refused on all paths alike.
pub record StyleRefusalIsShown : Type 0 where
  pub byte : (n : StyleScan) (c : StyleClass) (b : ℕ) (e : RefusalCode) → style_scan_error n c b ≡ Some e → StyleEvidence n c b e
  pub cut : (n : StyleScan) (v : Style Url) → HasStyle n v → style_refuses_cut urls v ≡ style_scan_cut_error n
  pub hole : (n : StyleScan) (e : RefusalCode) → style_hole_error (style_scan_place n) ≡ Some e → StyleHoleEvidence n e
