-- What shows that a byte is refused: one member, on whatever path bears it, two, or that paths met apart.
use Rattle.std.proofs.Common.{◌≡◌, ◌≤◌, ℕ, true, false, List, Some, None}
use Rattle.place_core.specs.page.Classes.{Class, White, is_equals_sign}
use Rattle.place_core.specs.page.References.{Form, Open, Breaks, flushed, plain_bytes, turn}
use Rattle.place_core.specs.page.Tags.{feed_bytes}
use Rattle.css_step.specs.StyleOrigins.{style_scan_parts}
use Rattle.css_step.specs.StyleScans.{StyleScan}
use Rattle.place_core.specs.place.Errors.{PathCause, flushed_error}
use Rattle.place_core.specs.declared.body.Body.TheVariants as body
use Rattle.place_core.specs.declared.code.Code.{Code}
use Rattle.place_core.specs.declared.code.Code.TheVariants as code
use Rattle.place_core.specs.declared.member.Member.{Member}
use Rattle.place_core.specs.declared.member.Member.TheVariants as member
use Rattle.place_core.specs.declared.parts.Parts.{Parts}
use Rattle.place_core.specs.declared.value_place.ValuePlace.{ValuePlace}
use Rattle.html_scan.specs.Scans.{Scan, InStyle, InUrl, style_feeding, parts_feeding, quoted_error, scan_cut_error, scan_error, scan_lexeme_error, scan_reference}
use Rattle.html_step.specs.Laws.{EvidenceData, apart, one, two}
use Rattle.html_step.specs.Origins.{is_apart, scan_parts, style_fed_shown}
use Rattle.html_step.proofs.OwnScans.{IsOwn}
use Rattle.html_step.proofs.ReadScans.{Behind, Broken}
use Rattle.html_step.proofs.ScanOrder.{ScanBelow, ScanHas, ScanValid}
use Rattle.html_step.proofs.UrlScans.{reference_length}
use Rattle.url_lexer.specs.Triples.{Triple}
use Rattle.url_step.specs.PartSets.{spells_apart}

-- Two members that show together that a byte is refused: white space, where a value without quotes has begun on some paths; a `:` that breaks a
-- reference in which a URL begins on some paths and has begun on others, so that they come apart in it; likewise in a style.
pub data TwoShown (f : Scan) (c : Class) (b : ℕ) (e : PathCause) (x y : Member) : Type 0 where
  by_white : c ≡ White → x ≡ member.UnquotedValue → y ≡ member.UnbegunValue → ScanHas f member.UnquotedValue → ScanHas f member.UnbegunValue
      → e ≡ record { code = code.AmbigContext; back = 0; shown = 0 } → TwoShown f c b e x y
  by_colon : (v : ValuePlace) (t : Triple) (k : Form) (bytes : List ℕ) (s : Parts) → f ≡ InUrl v t (Open k bytes) → v.body ≡ body.Url s → turn c k ≡ Breaks
      → Broken s k bytes c ≡ None → spells_apart s.opened ≡ false → spells_apart (Behind s k bytes c).opened ≡ true
      → (Behind s k bytes c).openhole ≡ false → quoted_error parts_feeding v.quotes s (Open k bytes) c b ≡ Some e
      → x ≡ member.PartStart → y ≡ member.PartOpen → e ≡ record { code = code.AmbigContext; back = 0; shown = 0 } → TwoShown f c b e x y
  by_style : (v : ValuePlace) (n : StyleScan) (k : Form) (bytes : List ℕ) (s : Parts) → f ≡ InStyle v n (Open k bytes) → style_scan_parts n ≡ Some s
      → turn c k ≡ Breaks → flushed_error style_feeding n (is_equals_sign c) k bytes ≡ None → spells_apart s.opened ≡ false
      → style_fed_shown (plain_bytes c b) (feed_bytes style_feeding n (flushed true (is_equals_sign c) k bytes)) ≡ Some apart
      → is_apart (style_scan_parts (feed_bytes style_feeding n (flushed true (is_equals_sign c) k bytes))) ≡ true → e.code ≡ code.AmbigContext
      → quoted_error style_feeding v.quotes n (Open k bytes) c b ≡ Some e
      → x ≡ member.PartStart → y ≡ member.PartOpen → ScanHas f member.PartStart → ScanHas f member.PartOpen → TwoShown f c b e x y

-- That paths met apart shows it of each path of which it is not known what it spells.
pub record ApartShown (f : Scan) (c : Class) (b : ℕ) (e : PathCause) : Type 0 where
  pub there : is_apart (scan_parts f) ≡ true
  pub code : e.code ≡ code.AmbigContext
  pub back : e.back ≤ reference_length (scan_reference f)
  pub refuses : (g : Scan) → ScanValid g → ScanBelow g f → is_apart (scan_parts g) ≡ true → scan_error g c b ≡ Some e

-- One member shows it of each path that bears it, by the path's own scan state.
abbrev pub ShownByte : Scan → Class → ℕ → PathCause → EvidenceData → Type 0
ShownByte f c b e (one x) =
    ScanHas f x × ((g : Scan) → ScanValid g → ScanBelow g f → ScanHas g x → IsOwn g → scan_error g c b ≡ Some e)
ShownByte f c b e (two x y) = TwoShown f c b e x y
ShownByte f c b e apart = ApartShown f c b e

-- The end of a text: what is refused before it, or there.
pub record ShownCut (f : Scan) (e : PathCause) (x : Member) : Type 0 where
  pub there : ScanHas f x
  pub refuses : (g : Scan) → ScanBelow g f → ScanHas g x → scan_cut_error g ≡ Some e

-- and at the end a percent triple, on each path
pub record ShownLexeme (f : Scan) (e : Code) (x : Member) : Type 0 where
  pub there : ScanHas f x
  pub refuses : (g : Scan) → ScanBelow g f → ScanHas g x → (scan_cut_error g ≡ None) × (scan_lexeme_error g ≡ Some e)
