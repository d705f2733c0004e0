-- A place below one that is accepted is accepted, and comes to one below; so each path that it stands for is covered.
use Rattle.std.proofs.Common.{◌≡◌, ℕ, Bool, true, false, ◌||◌, Option, Some, None, refl, sym, ap, ◌∙◌}
use Rattle.css_lexer.specs.Escapes.{StyleEscape, NoEscape, AfterBackslash, HexDigits, AfterReturn, behind_taken, behind_taken_in_string, behind_byte, is_taken_in_style}
use Rattle.css_lexer.specs.RefusalCodes.{RefusalCode}
use Rattle.css_lexer.specs.Refusals.{split_if, refuses_split, refuses_solidus, style_refuses_hole}
use Rattle.css_lexer.specs.States.{Quote, DoubleQuote, SingleQuote, UrlWord, SpellsOther, Style}
use Rattle.css_lexer.specs.Steps.{first_letter, next_letter}
use Rattle.css_lexer.specs.Urls.{urls, url_refusal}
use Rattle.css_lexer.specs.declared.class.StyleClass.{StyleClass}
use Rattle.css_lexer.specs.declared.class.StyleClass.TheVariants as class
use Rattle.place_core.proofs.JoinParts.{css_partial}
use Rattle.place_core.specs.declared.css.Css.{Css}
use Rattle.place_core.specs.declared.css.Css.TheVariants as css
use Rattle.place_core.specs.declared.css_tails.CssTails.{CssTails}
use Rattle.place_core.specs.declared.parts.Parts.{Parts}
use Rattle.place_core.specs.place.LanguagePlaces.{joined_css, both_css_tails, both_parts}
use Rattle.url_lexer.specs.Classes.{url_class_of}
use Rattle.url_lexer.specs.Refusals.{UrlRefusal}
use Rattle.url_lexer.specs.States.{Url}
use Rattle.url_lexer.specs.Triples.{Triple, NoTriple, AfterPercent, AfterDigit, next_triple}
use Rattle.url_step.specs.PartSets.{PartsBelow, parts_next, parts_error, parts_hole_error}
use Rattle.url_step.proofs.Growth.{parts-grow}
use Rattle.css_step.specs.StyleScans.{StyleScan, ScanCode, ScanWord, ScanSplitEscape, ScanSolidus, ScanLessThan, ScanComment, ScanStarBefore, ScanString, ScanFresh, ScanBareUrl, ScanQuotedUrl, ScanEnded, is_style_start, style_split_word, style_comment_start, style_scan_start, style_between_next, style_split_next, style_code_next, style_word_next, style_comment_next, style_bare_next, style_quoted_next, style_scan_next, style_tails_error, style_url_error, style_bare_error, style_quoted_error, style_scan_place, style_at_hole, style_hole_error}
use Rattle.css_step.specs.StyleScanLaws.{IsStyleScan, OneStyle}
use Rattle.css_step.specs.StyleSetLaws.{StyleBelow, StyleScanBelow, below_itself, below_tails, below_split_word, below_star, below_bare, below_quoted, GrowsStyleScan, GrowsStyle, StylesGrow, KeepsStyle, EmptyTextsKeepStyles, HasStyle, CoversStyles}
use Rattle.place_core.specs.place.StyleParts.{style_quoted_place, style_string_place, style_tails}
use Rattle.css_step.proofs.OneStylePath.{given, one-style}

no : true ≡ false → ⊥
no e = cc

one-member : (x y : Bool) → (x || y) ≡ y → y ≡ false → x ≡ false
one-member true true e f = f
one-member true false e f = absurd (no e)
one-member false y e f = refl

split-none : (x : Bool) → split_if x ≡ None → x ≡ false
split-none true e = absurd (given _ e)
split-none false e = refl

split-grows : (x y : Bool) → (x || y) ≡ y → split_if y ≡ None → split_if x ≡ None
split-grows x y e f = ap split_if (one-member x y e (split-none y f))

-- in code
tails-error : (x y : CssTails) → both_css_tails x y ≡ y → (c : StyleClass) → style_tails_error y c ≡ None → style_tails_error x c ≡ None
tails-error x y h class.Asterisk e = split-grows x.slash y.slash (ap (λ (z : CssTails). z.slash) h) e
tails-error x y h class.Solidus e = split-grows x.lt y.lt (ap (λ (z : CssTails). z.lt) h) e
tails-error x y h class.LeftParenthesis e = split-grows x.word y.word (ap (λ (z : CssTails). z.word) h) e
tails-error x y h _ e = refl

between-below : (c : StyleClass) (b : ℕ) → StyleScanBelow (style_between_next c b) (style_split_next NoEscape c b)
between-below class.WordByte b = below_split_word (first_letter b) NoEscape
between-below class.ReverseSolidus b = below_split_word SpellsOther AfterBackslash
between-below c b = below_itself (style_between_next c b)

code-below : (x y : Bool) → (x || y) ≡ y → (c : StyleClass) (b : ℕ) → StyleScanBelow (style_code_next x c b) (style_code_next y c b)
code-below true true h c b = below_itself (style_split_next NoEscape c b)
code-below true false h c b = absurd (no h)
code-below false true h c b = between-below c b
code-below false false h c b = below_itself (style_between_next c b)

-- in a word, of which some path has a part from before the text
word-below : (w : UrlWord) (e : StyleEscape) (c : StyleClass) (b : ℕ) → refuses_split e c ≡ None → StyleScanBelow (style_word_next w e c b) (style_split_next e c b)
word-below w AfterBackslash c b n = below_split_word SpellsOther (behind_taken b)
word-below w e class.WordByte b n = below_split_word (next_letter w b) (behind_byte e b)
word-below w e class.ReverseSolidus b n = below_split_word SpellsOther AfterBackslash
word-below w e class.LeftParenthesis b n = absurd (given _ n)
word-below w e c b n = below_itself (style_between_next c b)

tails-split : (c : StyleClass) → style_tails_error (style_tails true false false) c ≡ None → refuses_split NoEscape c ≡ None
tails-split class.LeftParenthesis n = absurd (given _ n)
tails-split _ n = refl

split-word-grows : (w : UrlWord) (e : StyleEscape) → GrowsStyleScan (ScanWord w e) (style_split_word e)
split-word-grows w NoEscape = record {
  error = λ c b n. refl;
  next = λ c b n. word-below w NoEscape c b (tails-split c n);
  cut_error = refl;
  place = refl;
}
split-word-grows w AfterBackslash = record { error = λ c b n. refl; next = λ c b n. word-below w AfterBackslash c b n; cut_error = refl; place = refl }
split-word-grows w (HexDigits k) = record { error = λ c b n. refl; next = λ c b n. word-below w (HexDigits k) c b n; cut_error = refl; place = refl }
split-word-grows w AfterReturn = record { error = λ c b n. refl; next = λ c b n. word-below w AfterReturn c b n; cut_error = refl; place = refl }

-- in a comment, behind a `*` that some path has before the text
comment-below : (c : StyleClass) → refuses_solidus c ≡ None → StyleScanBelow (style_comment_next false c) (style_comment_next true c)
comment-below class.Solidus n = absurd (given _ n)
comment-below class.Asterisk n = below_itself (ScanComment true)
comment-below _ n = below_itself (ScanComment false)

-- in a URL
pub url-none : (o : Option UrlRefusal) → url_refusal o ≡ None → o ≡ None
url-none (Some r) e = absurd (given _ e)
url-none None e = refl

url-error-grows : (s r : Parts) → PartsBelow s r → (b : ℕ) → style_url_error r b ≡ None → style_url_error s b ≡ None
url-error-grows s r h b e = ap url_refusal ((parts-grow s r h).error (url_class_of b) (url-none (parts_error r (url_class_of b)) e))

fed-below : (s r : Parts) → PartsBelow s r → (b : ℕ) → style_url_error r b ≡ None → PartsBelow (parts_next s (url_class_of b) b) (parts_next r (url_class_of b) b)
fed-below s r h b e = (parts-grow s r h).next (url_class_of b) b (url-none (parts_error r (url_class_of b)) e)

bare-error-grows : (x y : Option RefusalCode) → (y ≡ None → x ≡ None) → (c : StyleClass) → style_bare_error y c ≡ None → style_bare_error x c ≡ None
bare-error-grows x y f class.Blank e = refl
bare-error-grows x y f class.Newline e = refl
bare-error-grows x y f class.RightParenthesis e = refl
bare-error-grows x y f class.QuotationMark e = absurd (given _ e)
bare-error-grows x y f class.Apostrophe e = absurd (given _ e)
bare-error-grows x y f class.LeftParenthesis e = absurd (given _ e)
bare-error-grows x y f class.ReverseSolidus e = absurd (given _ e)
bare-error-grows x y f _ e = f e

bare-below : (s r : Parts) (t : Triple) → PartsBelow s r → (c : StyleClass) (b : ℕ) → style_bare_error (style_url_error r b) c ≡ None
    → StyleScanBelow (style_bare_next s t c b) (style_bare_next r t c b)
bare-below s r t h class.Blank b e = below_itself _
bare-below s r t h class.Newline b e = below_itself _
bare-below s r t h class.RightParenthesis b e = below_itself _
bare-below s r t h class.QuotationMark b e = absurd (given _ e)
bare-below s r t h class.Apostrophe b e = absurd (given _ e)
bare-below s r t h class.LeftParenthesis b e = absurd (given _ e)
bare-below s r t h class.ReverseSolidus b e = absurd (given _ e)
bare-below s r t h _ b e = below_bare _ _ (next_triple t (url_class_of b)) (fed-below s r h b e)

quoted-error-grows : (x y : Option RefusalCode) → (y ≡ None → x ≡ None) → (taken : Bool) (q : Quote) (c : StyleClass) → style_quoted_error y taken q c ≡ None
    → style_quoted_error x taken q c ≡ None
quoted-error-grows x y f true q c e = f e
quoted-error-grows x y f false DoubleQuote class.QuotationMark e = refl
quoted-error-grows x y f false SingleQuote class.Apostrophe e = refl
quoted-error-grows x y f false q class.Newline e = absurd (given _ e)
quoted-error-grows x y f false q c e = f e

quoted-below : (taken : Bool) (q : Quote) (z : StyleEscape) (s r : Parts) (t : Triple) → PartsBelow s r → (c : StyleClass) (b : ℕ) → style_quoted_error (style_url_error r b) taken q c ≡ None
    → StyleScanBelow (style_quoted_next taken q z s t c b) (style_quoted_next taken q z r t c b)
quoted-below true q z s r t h c b e = below_quoted q (behind_taken_in_string z b) _ _ (next_triple t (url_class_of b)) (fed-below s r h b e)
quoted-below false DoubleQuote z s r t h class.QuotationMark b e = below_itself _
quoted-below false SingleQuote z s r t h class.Apostrophe b e = below_itself _
quoted-below false q z s r t h class.Newline b e = absurd (given _ e)
quoted-below false q z s r t h class.ReverseSolidus b e = below_quoted q AfterBackslash _ _ (next_triple t (url_class_of b)) (fed-below s r h b e)
quoted-below false q z s r t h c b e = below_quoted q (behind_byte z b) _ _ (next_triple t (url_class_of b)) (fed-below s r h b e)

quoted-place-below : (q : Quote) (e : StyleEscape) (s r : Parts) (t : Triple) → PartsBelow s r → StyleBelow (style_scan_place (ScanQuotedUrl q e s t)) (style_scan_place (ScanQuotedUrl q e r t))
quoted-place-below DoubleQuote e s r t h = ap (λ (z : Parts). Some (css.UrlDq z)) h
quoted-place-below SingleQuote e s r t h = ap (λ (z : Parts). Some (css.UrlSq z)) h

scan-grows : (n m : StyleScan) → StyleScanBelow n m → GrowsStyleScan n m
scan-grows _ _ (below_itself n) = record {
  error = λ c b e. e;
  next = λ c b e. below_itself (style_scan_next n c b);
  cut_error = refl;
  place = css_partial.same (style_scan_place n);
}
scan-grows _ _ (below_tails x y h) = record {
  error = λ c b e. tails-error x y h c e;
  next = λ c b e. code-below x.word y.word (ap (λ (z : CssTails). z.word) h) c b;
  cut_error = refl;
  place = ap (λ (z : CssTails). Some (css.Code z)) h;
}
scan-grows _ _ (below_split_word w e) = split-word-grows w e
scan-grows _ _ below_star = record { error = λ c b e. refl; next = λ c b e. comment-below c e; cut_error = refl; place = refl }
scan-grows _ _ (below_bare s r t h) = record {
  error = λ c b e. bare-error-grows (style_url_error s b) (style_url_error r b) (url-error-grows s r h b) c e;
  next = λ c b e. bare-below s r t h c b e;
  cut_error = refl;
  place = ap (λ (z : Parts). Some (css.Url z)) h;
}
scan-grows _ _ (below_quoted q z s r t h) = record {
  error = λ c b e. quoted-error-grows (style_url_error s b) (style_url_error r b) (url-error-grows s r h b) (is_taken_in_style z b) q c e;
  next = λ c b e. quoted-below (is_taken_in_style z b) q z s r t h c b e;
  cut_error = refl;
  place = quoted-place-below q z s r t h;
}

-- places, at the beginning of a text and at a hole
code-one : (x y : CssTails) → Some (css.Code x) ≡ Some (css.Code y) → x ≡ y
code-one x y e = cc

url-one : (x y : Parts) → Some (css.Url x) ≡ Some (css.Url y) → x ≡ y
url-one x y e = cc

dq-one : (x y : Parts) → Some (css.UrlDq x) ≡ Some (css.UrlDq y) → x ≡ y
dq-one x y e = cc

sq-one : (x y : Parts) → Some (css.UrlSq x) ≡ Some (css.UrlSq y) → x ≡ y
sq-one x y e = cc

star-one : (x y : Bool) → Some (css.Comment x) ≡ Some (css.Comment y) → x ≡ y
star-one x y e = cc

star-below : (x y : Bool) → (x || y) ≡ y → StyleScanBelow (style_comment_start x) (style_comment_start y)
star-below true true h = below_itself ScanStarBefore
star-below true false h = absurd (no h)
star-below false true h = below_star
star-below false false h = below_itself (ScanComment false)

hole-tails : (x y : CssTails) → both_css_tails x y ≡ y → joined_css (css.Code (style_tails true x.slash x.lt)) (css.Code (style_tails true y.slash y.lt)) ≡ Some (css.Code (style_tails true y.slash y.lt))
hole-tails x y h = ap (λ (z : CssTails). Some (css.Code (style_tails true z.slash z.lt))) h

parts-hole : (s r : Parts) → PartsBelow s r → url_refusal (parts_hole_error r) ≡ None → url_refusal (parts_hole_error s) ≡ None
parts-hole s r h e = ap url_refusal ((parts-grow s r h).hole_error (url-none (parts_hole_error r) e))

same-place-grows : (c : Css) → GrowsStyle c c
same-place-grows c = record {
  start = below_itself (style_scan_start c);
  hole_error = λ e. e;
  at_hole = css_partial.same (style_at_hole c);
}

place-grows : (c d : Css) → StyleBelow c d → GrowsStyle c d
place-grows (css.Code x) (css.Code y) h =
    let k : both_css_tails x y ≡ y = code-one (both_css_tails x y) y h in
    record { start = below_tails x y k; hole_error = λ e. refl; at_hole = hole-tails x y k }
place-grows css.Dq css.Dq h = same-place-grows css.Dq
place-grows css.Sq css.Sq h = same-place-grows css.Sq
place-grows css.UrlFresh css.UrlFresh h = same-place-grows css.UrlFresh
place-grows (css.Url s) (css.Url r) h =
    let k : both_parts s r ≡ r = url-one (both_parts s r) r h in
    record {
      start = below_bare s r NoTriple k;
      hole_error = λ e. parts-hole s r k e;
      at_hole = ap (λ (z : Parts). Some (css.Url z)) (parts-grow s r k).at_hole;
    }
place-grows (css.UrlDq s) (css.UrlDq r) h =
    let k : both_parts s r ≡ r = dq-one (both_parts s r) r h in
    record {
      start = below_quoted DoubleQuote NoEscape s r NoTriple k;
      hole_error = λ e. parts-hole s r k e;
      at_hole = ap (λ (z : Parts). Some (css.UrlDq z)) (parts-grow s r k).at_hole;
    }
place-grows (css.UrlSq s) (css.UrlSq r) h =
    let k : both_parts s r ≡ r = sq-one (both_parts s r) r h in
    record {
      start = below_quoted SingleQuote NoEscape s r NoTriple k;
      hole_error = λ e. parts-hole s r k e;
      at_hole = ap (λ (z : Parts). Some (css.UrlSq z)) (parts-grow s r k).at_hole;
    }
place-grows css.UrlEnd css.UrlEnd h = same-place-grows css.UrlEnd
place-grows (css.Comment x) (css.Comment y) h =
    record { start = star-below x y (star-one (x || y) y h); hole_error = λ e. refl; at_hole = h }
place-grows _ d h = absurd (given d (sym h))

pub styles-grow : StylesGrow
styles-grow = record { scans = scan-grows; places = place-grows }

-- a text of no bytes, and the starts
comment-kept : (star : Bool) → KeepsStyle (css.Comment star)
comment-kept true = record { start = refl; place = refl; cut_error = refl }
comment-kept false = record { start = refl; place = refl; cut_error = refl }

style-kept : (c : Css) → KeepsStyle c
style-kept (css.Code x) = record { start = refl; place = refl; cut_error = refl }
style-kept css.Dq = record { start = refl; place = refl; cut_error = refl }
style-kept css.Sq = record { start = refl; place = refl; cut_error = refl }
style-kept css.UrlFresh = record { start = refl; place = refl; cut_error = refl }
style-kept (css.Url s) = record { start = refl; place = refl; cut_error = refl }
style-kept (css.UrlDq s) = record { start = refl; place = refl; cut_error = refl }
style-kept (css.UrlSq s) = record { start = refl; place = refl; cut_error = refl }
style-kept css.UrlEnd = record { start = refl; place = refl; cut_error = refl }
style-kept (css.Comment star) = comment-kept star

starts-comment : (star : Bool) → is_style_start (ScanComment star) ≡ true → style_comment_start star ≡ ScanComment star
starts-comment false e = refl
starts-comment true e = absurd (no (sym e))

starts-string : (q : Quote) (e : StyleEscape) → is_style_start (ScanString q e) ≡ true → style_scan_start (style_string_place q) ≡ ScanString q e
starts-string DoubleQuote NoEscape h = refl
starts-string SingleQuote NoEscape h = refl
starts-string q AfterBackslash h = absurd (no (sym h))
starts-string q (HexDigits n) h = absurd (no (sym h))
starts-string q AfterReturn h = absurd (no (sym h))

starts-bare : (s : Parts) (t : Triple) → is_style_start (ScanBareUrl s t) ≡ true → ScanBareUrl s NoTriple ≡ ScanBareUrl s t
starts-bare s NoTriple h = refl
starts-bare s AfterPercent h = absurd (no (sym h))
starts-bare s AfterDigit h = absurd (no (sym h))

starts-quoted : (q : Quote) (e : StyleEscape) (s : Parts) (t : Triple) → is_style_start (ScanQuotedUrl q e s t) ≡ true
    → style_scan_start (style_quoted_place q s) ≡ ScanQuotedUrl q e s t
starts-quoted DoubleQuote NoEscape s NoTriple h = refl
starts-quoted SingleQuote NoEscape s NoTriple h = refl
starts-quoted q NoEscape s AfterPercent h = absurd (no (sym h))
starts-quoted q NoEscape s AfterDigit h = absurd (no (sym h))
starts-quoted q AfterBackslash s t h = absurd (no (sym h))
starts-quoted q (HexDigits n) s t h = absurd (no (sym h))
starts-quoted q AfterReturn s t h = absurd (no (sym h))

style-starts : (n : StyleScan) → is_style_start n ≡ true → style_scan_start (style_scan_place n) ≡ n
style-starts (ScanCode x) h = refl
style-starts (ScanWord w e) h = absurd (no (sym h))
style-starts (ScanSplitEscape e) h = absurd (no (sym h))
style-starts ScanSolidus h = absurd (no (sym h))
style-starts ScanLessThan h = absurd (no (sym h))
style-starts (ScanComment star) h = starts-comment star h
style-starts ScanStarBefore h = refl
style-starts (ScanString q e) h = starts-string q e h
style-starts ScanFresh h = refl
style-starts (ScanBareUrl s t) h = starts-bare s t h
style-starts (ScanQuotedUrl q e s t) h = starts-quoted q e s t h
style-starts ScanEnded h = refl

pub empty-texts-keep-styles : EmptyTextsKeepStyles
empty-texts-keep-styles = record { places = style-kept; starts = style-starts }

-- a path among those that are stepped
has-at : (m n : StyleScan) (v : Style Url) → IsStyleScan v n → StyleScanBelow n m → HasStyle m v
has-at m n v i h = record { alone = n; is_alone = i; below = h }

pub covers-styles : CoversStyles
covers-styles m v h =
    let one : OneStyle v h.alone = one-style v h.alone h.is_alone in
    let grows : GrowsStyleScan h.alone m = scan-grows h.alone m h.below in
    let places : GrowsStyle (style_scan_place h.alone) (style_scan_place m) = place-grows (style_scan_place h.alone) (style_scan_place m) grows.place in
    let hole : style_hole_error (style_scan_place m) ≡ None → style_refuses_hole urls v ≡ None = λ e. sym one.hole_error ∙ places.hole_error e in
    record {
      error = λ c b e. sym (one.error c b) ∙ grows.error c b e;
      next = λ c b e. has-at _ _ _ (one.next c b (sym (one.error c b) ∙ grows.error c b e)) (grows.next c b e);
      cut_error = λ e. sym one.cut_error ∙ (grows.cut_error ∙ e);
      after_cut = λ d e k. has-at _ _ _ (one.after_cut (sym one.cut_error ∙ (grows.cut_error ∙ e)))
          (place-grows (style_scan_place h.alone) d (css_partial.through (style_scan_place h.alone) (style_scan_place m) d grows.place k)).start;
      hole_error = λ e. hole e;
      after_hole = λ d e f k. has-at _ _ _ (one.after_hole (sym one.cut_error ∙ (grows.cut_error ∙ e)) (hole f))
          (place-grows (style_at_hole (style_scan_place h.alone)) d
          (css_partial.through (style_at_hole (style_scan_place h.alone)) (style_at_hole (style_scan_place m)) d places.at_hole k)).start;
    }
