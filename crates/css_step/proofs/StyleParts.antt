-- The parts of the URLs in styles stay sets of parts, and two paths in one URL agree.
use Rattle.std.proofs.Common.{◌≡◌, ℕ, Bool, true, false, Option, Some, None, refl, sym, ap, ◌∙◌, subst}
use Rattle.css_lexer.specs.Escapes.{StyleEscape, NoEscape, AfterBackslash, HexDigits, AfterReturn, behind_taken, behind_byte}
use Rattle.css_lexer.specs.RefusalCodes.{RefusalCode}
use Rattle.css_lexer.specs.States.{Quote, DoubleQuote, SingleQuote, UrlWord, SpellsUrl, Style}
use Rattle.css_lexer.specs.Escapes.{is_taken_in_style}
use Rattle.css_lexer.specs.declared.class.StyleClass.{StyleClass}
use Rattle.css_lexer.specs.declared.class.StyleClass.TheVariants as class
use Rattle.place_core.proofs.JoinParts.{parts_union}
use Rattle.place_core.proofs.Semilattices.{one_value, union_through}
use Rattle.place_core.specs.declared.css.Css.{Css}
use Rattle.place_core.specs.declared.css.Css.TheVariants as css
use Rattle.place_core.specs.declared.parts.Parts.{Parts}
use Rattle.place_core.specs.place.LanguagePlaces.{both_parts, IsValidCss, IsValidParts}
use Rattle.place_core.specs.place.UrlParts.{parts_of}
use Rattle.url_lexer.specs.Classes.{url_class_of}
use Rattle.url_lexer.specs.Parts.{UrlPart, UrlStart}
use Rattle.url_lexer.specs.States.{Url}
use Rattle.url_lexer.specs.Triples.{Triple, NoTriple}
use Rattle.url_lexer.specs.declared.class.UrlClass.TheVariants as url_class
use Rattle.url_step.specs.PartSets.{HasPart, parts_next, parts_error, parts_hole_error}
use Rattle.url_step.proofs.Covering.{parts-agree}
use Rattle.url_step.proofs.ValidParts.{parts-stay-valid}
use Rattle.css_step.specs.StyleScans.{StyleScan, ScanCode, ScanWord, ScanSplitEscape, ScanSolidus, ScanLessThan, ScanComment, ScanStarBefore, ScanString, ScanFresh, ScanBareUrl, ScanQuotedUrl, ScanEnded, style_split_word, style_comment_start, style_scan_start, style_between_next, style_split_next, style_code_next, style_word_next, style_solidus_next, style_comment_next, style_string_next, style_bare_next, style_fresh_next, style_quoted_next, style_ended_next, style_scan_next, style_url_error, style_quoted_error, style_scan_place, style_at_hole, style_hole_error}
use Rattle.css_step.specs.StyleScanLaws.{IsStyleScan, scans_between, scans_less_than, scans_word, scans_solidus, scans_comment, scans_string, scans_behind_hole, scans_split_word, scans_solidus_before, scans_less_than_before, scans_star_before, scans_fresh, scans_bare, scans_quoted, scans_ended}
use Rattle.css_step.specs.StyleSetLaws.{StyleScanBelow, below_itself, below_tails, below_split_word, below_star, below_bare, below_quoted}
use Rattle.css_step.specs.StyleValidity.{StylesStayValid, style_part, AgreeStyles, StylesAgree}
use Rattle.place_core.specs.place.StyleParts.{style_quoted_place, style_string_place}
use Rattle.css_step.proofs.StyleGrowth.{url-none}

abbrev AreScanParts : StyleScan → Type 0
AreScanParts n = IsValidCss (style_scan_place n)

-- a quote and its place
string-parts : (q : Quote) → IsValidCss (style_string_place q)
string-parts DoubleQuote = tt
string-parts SingleQuote = tt

quoted-parts : (q : Quote) (s : Parts) → IsValidParts s → IsValidCss (style_quoted_place q s)
quoted-parts DoubleQuote s h = h
quoted-parts SingleQuote s h = h

parts-quoted : (q : Quote) (s : Parts) → IsValidCss (style_quoted_place q s) → IsValidParts s
parts-quoted DoubleQuote s h = h
parts-quoted SingleQuote s h = h

-- a byte
between-parts : (c : StyleClass) (b : ℕ) → AreScanParts (style_between_next c b)
between-parts class.WordByte b = tt
between-parts class.ReverseSolidus b = tt
between-parts class.QuotationMark b = tt
between-parts class.Apostrophe b = tt
between-parts class.Solidus b = tt
between-parts class.LessThan b = tt
between-parts _ b = tt

split-word-parts : (e : StyleEscape) → AreScanParts (style_split_word e)
split-word-parts NoEscape = tt
split-word-parts AfterBackslash = tt
split-word-parts (HexDigits k) = tt
split-word-parts AfterReturn = tt

split-parts : (e : StyleEscape) (c : StyleClass) (b : ℕ) → AreScanParts (style_split_next e c b)
split-parts AfterBackslash c b = split-word-parts (behind_taken b)
split-parts e class.WordByte b = split-word-parts (behind_byte e b)
split-parts e class.ReverseSolidus b = tt
split-parts e c b = between-parts c b

code-parts : (x : Bool) (c : StyleClass) (b : ℕ) → AreScanParts (style_code_next x c b)
code-parts true c b = split-parts NoEscape c b
code-parts false c b = between-parts c b

word-parts : (w : UrlWord) (e : StyleEscape) (c : StyleClass) (b : ℕ) → AreScanParts (style_word_next w e c b)
word-parts w AfterBackslash c b = tt
word-parts w e class.WordByte b = tt
word-parts w e class.ReverseSolidus b = tt
word-parts SpellsUrl e class.LeftParenthesis b = tt
word-parts w e c b = between-parts c b

solidus-parts : (c : StyleClass) (b : ℕ) → AreScanParts (style_solidus_next c b)
solidus-parts class.Asterisk b = tt
solidus-parts c b = between-parts c b

comment-parts : (star : Bool) (c : StyleClass) → AreScanParts (style_comment_next star c)
comment-parts true class.Solidus = tt
comment-parts star class.Asterisk = tt
comment-parts star c = tt

in-string-parts : (taken : Bool) (q : Quote) (e : StyleEscape) (c : StyleClass) (b : ℕ) → AreScanParts (style_string_next taken q e c b)
in-string-parts true q e c b = string-parts q
in-string-parts false DoubleQuote e class.QuotationMark b = tt
in-string-parts false SingleQuote e class.Apostrophe b = tt
in-string-parts false q e class.ReverseSolidus b = string-parts q
in-string-parts false q e c b = string-parts q

bare-parts : (s : Parts) (t : Triple) (c : StyleClass) (b : ℕ) → IsValidParts s → AreScanParts (style_bare_next s t c b)
bare-parts s t class.Blank b h = tt
bare-parts s t class.Newline b h = tt
bare-parts s t class.RightParenthesis b h = tt
bare-parts s t _ b h = (parts-stay-valid s h).next (url_class_of b) b

start-parts : IsValidParts (parts_of UrlStart)
start-parts = (refl, tt)

fresh-parts : (c : StyleClass) (b : ℕ) → AreScanParts (style_fresh_next c b)
fresh-parts class.Blank b = tt
fresh-parts class.Newline b = tt
fresh-parts class.QuotationMark b = start-parts
fresh-parts class.Apostrophe b = start-parts
fresh-parts c b = bare-parts (parts_of UrlStart) NoTriple c b start-parts

in-quoted-parts : (taken : Bool) (q : Quote) (e : StyleEscape) (s : Parts) (t : Triple) (c : StyleClass) (b : ℕ) → IsValidParts s → AreScanParts (style_quoted_next taken q e s t c b)
in-quoted-parts true q e s t c b h = quoted-parts q (parts_next s (url_class_of b) b) ((parts-stay-valid s h).next (url_class_of b) b)
in-quoted-parts false DoubleQuote e s t class.QuotationMark b h = tt
in-quoted-parts false SingleQuote e s t class.Apostrophe b h = tt
in-quoted-parts false q e s t class.ReverseSolidus b h = quoted-parts q (parts_next s (url_class_of b) b) ((parts-stay-valid s h).next (url_class_of b) b)
in-quoted-parts false q e s t c b h = quoted-parts q (parts_next s (url_class_of b) b) ((parts-stay-valid s h).next (url_class_of b) b)

ended-parts : (c : StyleClass) → AreScanParts (style_ended_next c)
ended-parts class.RightParenthesis = tt
ended-parts _ = tt

next-parts : (n : StyleScan) (c : StyleClass) (b : ℕ) → AreScanParts n → AreScanParts (style_scan_next n c b)
next-parts (ScanCode x) c b h = code-parts x.word c b
next-parts (ScanWord w e) c b h = word-parts w e c b
next-parts (ScanSplitEscape e) c b h = split-parts e c b
next-parts ScanSolidus c b h = solidus-parts c b
next-parts ScanLessThan c b h = between-parts c b
next-parts (ScanComment star) c b h = comment-parts star c
next-parts ScanStarBefore c b h = comment-parts true c
next-parts (ScanString q e) c b h = in-string-parts (is_taken_in_style e b) q e c b
next-parts ScanFresh c b h = fresh-parts c b
next-parts (ScanBareUrl s t) c b h = bare-parts s t c b h
next-parts (ScanQuotedUrl q e s t) c b h = in-quoted-parts (is_taken_in_style e b) q e s t c b (parts-quoted q s h)
next-parts ScanEnded c b h = ended-parts c

-- the beginning of a text, and a hole
comment-start-parts : (star : Bool) → AreScanParts (style_comment_start star)
comment-start-parts true = tt
comment-start-parts false = tt

begun-parts : (c : Css) → IsValidCss c → AreScanParts (style_scan_start c)
begun-parts (css.Code x) h = tt
begun-parts css.Dq h = tt
begun-parts css.Sq h = tt
begun-parts css.UrlFresh h = tt
begun-parts (css.Url s) h = h
begun-parts (css.UrlDq s) h = h
begun-parts (css.UrlSq s) h = h
begun-parts css.UrlEnd h = tt
begun-parts (css.Comment star) h = comment-start-parts star

hole-parts : (c : Css) → IsValidCss c → IsValidCss (style_at_hole c)
hole-parts (css.Code x) h = tt
hole-parts css.Dq h = tt
hole-parts css.Sq h = tt
hole-parts css.UrlFresh h = (parts-stay-valid (parts_of UrlStart) start-parts).at_hole
hole-parts (css.Url s) h = (parts-stay-valid s h).at_hole
hole-parts (css.UrlDq s) h = (parts-stay-valid s h).at_hole
hole-parts (css.UrlSq s) h = (parts-stay-valid s h).at_hole
hole-parts css.UrlEnd h = tt
hole-parts (css.Comment star) h = tt

pub styles-stay-valid : StylesStayValid
styles-stay-valid = record { start = begun-parts; next = next-parts; at_hole = hole-parts }

-- Two paths in one URL: the part of each is in the set.
abbrev HasScanPart : StyleScan → UrlPart → Type 0
HasScanPart (ScanBareUrl s t) p = HasPart s p
HasScanPart (ScanQuotedUrl q e s t) p = HasPart s p
HasScanPart n p = ⊥

part-grows : (n m : StyleScan) (p : UrlPart) → StyleScanBelow n m → HasScanPart n p → HasScanPart m p
part-grows _ _ p (below_itself n) h = h
part-grows _ _ p (below_tails x y k) h = absurd h
part-grows _ _ p (below_split_word w e) h = absurd h
part-grows _ _ p below_star h = absurd h
part-grows _ _ p (below_bare s r t k) h = union_through both_parts parts_union (parts_of p) s r h k
part-grows _ _ p (below_quoted q e s r t k) h = union_through both_parts parts_union (parts_of p) s r h k

own-part : (u : Url) (p : UrlPart) → Some u.part ≡ Some p → HasPart (parts_of u.part) p
own-part u p e = subst (λ (z : UrlPart). HasPart (parts_of u.part) z) (one_value u.part p e) (parts_union.same (parts_of u.part))

none-part : (p : UrlPart) → None ≡ Some p → ⊥
none-part p e = cc

alone-part : (v : Style Url) (n : StyleScan) (p : UrlPart) → IsStyleScan v n → style_part v ≡ Some p → HasScanPart n p
alone-part _ _ p (scans_bare u) e = own-part u p e
alone-part _ _ p (scans_quoted q z u) e = own-part u p e
alone-part _ _ p (scans_between k) e = absurd (none-part p e)
alone-part _ _ p scans_less_than e = absurd (none-part p e)
alone-part _ _ p (scans_word w z) e = absurd (none-part p e)
alone-part _ _ p (scans_solidus k) e = absurd (none-part p e)
alone-part _ _ p (scans_comment star) e = absurd (none-part p e)
alone-part _ _ p (scans_string q z) e = absurd (none-part p e)
alone-part _ _ p (scans_behind_hole x y) e = absurd (none-part p e)
alone-part _ _ p (scans_split_word z) e = absurd (none-part p e)
alone-part _ _ p (scans_solidus_before k) e = absurd (none-part p e)
alone-part _ _ p scans_less_than_before e = absurd (none-part p e)
alone-part _ _ p scans_star_before e = absurd (none-part p e)
alone-part _ _ p scans_fresh e = absurd (none-part p e)
alone-part _ _ p (scans_ended u) e = absurd (none-part p e)

colon-class : url_class_of 58 ≡ url_class.Colon
unfolding url_class_of
colon-class = refl

colon-none : (s : Parts) → style_url_error s 58 ≡ None → parts_error s url_class.Colon ≡ None
colon-none s e = ap (parts_error s) (sym colon-class) ∙ url-none (parts_error s (url_class_of 58)) e

quoted-none : (o : Option RefusalCode) (taken : Bool) (q : Quote) → style_quoted_error o taken q class.OtherByte ≡ None → o ≡ None
quoted-none o true q e = e
quoted-none o false DoubleQuote e = e
quoted-none o false SingleQuote e = e

quoted-hole-none : (q : Quote) (s : Parts) → style_hole_error (style_quoted_place q s) ≡ None → parts_hole_error s ≡ None
quoted-hole-none DoubleQuote s e = url-none (parts_hole_error s) e
quoted-hole-none SingleQuote s e = url-none (parts_hole_error s) e

parts-in-scan-agree : (m : StyleScan) (p q : UrlPart) → HasScanPart m p → HasScanPart m q → AgreeStyles m p q
parts-in-scan-agree (ScanBareUrl s t) p q h k = record {
  colon = λ e. (parts-agree s p q h k).colon (colon-none s e);
  hole = λ e. (parts-agree s p q h k).hole (url-none (parts_hole_error s) e);
}
parts-in-scan-agree (ScanQuotedUrl x z s t) p q h k = record {
  colon = λ e. (parts-agree s p q h k).colon (colon-none s (quoted-none (style_url_error s 58) (is_taken_in_style z 58) x e));
  hole = λ e. (parts-agree s p q h k).hole (quoted-hole-none x s e);
}
parts-in-scan-agree _ p q h k = absurd h

pub styles-agree : StylesAgree
styles-agree m v w p q h k e f =
    parts-in-scan-agree m p q (part-grows h.alone m p h.below (alone-part v h.alone p h.is_alone e))
    (part-grows k.alone m q k.below (alone-part w k.alone q k.is_alone f))
