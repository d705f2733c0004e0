-- From the place of one path, the step is the path's own.
use Rattle.std.proofs.Common.{◌≡◌, ◌∙◌, ℕ, Bool, true, false, Option, Some, None, option_map, refl, sym, ap, subst}
use Rattle.css_lexer.specs.Escapes.{StyleEscape, NoEscape, AfterBackslash, HexDigits, AfterReturn, behind_taken, behind_taken_in_string, behind_byte, is_taken_in_style}
use Rattle.css_lexer.specs.Paths.{style_after_cut, style_after_hole}
use Rattle.css_lexer.specs.RefusalCodes.{StyleCutRefusal, first_refusal}
use Rattle.css_lexer.specs.Refusals.{refuses_split, refuses_behind_hole, refuses_string, refuses_asterisk, refuses_solidus, refuses_bare, refuses_fresh, refuses_quoted, refuses_ended, refuses_in_escape, style_refuses_hole}
use Rattle.css_lexer.specs.Spots.{StyleSpot, CodeSpot, StringSpot, FreshSpot, UrlSpot, QuotedUrlSpot, EndedSpot, CommentSpot}
use Rattle.css_lexer.specs.States.{Quote, DoubleQuote, SingleQuote, UrlWord, SpellsUrl, SpellsOther, Comment, InString, SplitWord, Bare, Quoted, Style, Out, InUrl}
use Rattle.css_lexer.specs.Steps.{first_letter, next_letter, next_between, next_style_word, next_solidus, next_style_comment, next_style_string, next_bare, next_fresh, next_quoted, next_ended, next_split}
use Rattle.css_lexer.specs.Urls.{urls, url_refusal, url_cut_refusal}
use Rattle.css_lexer.specs.declared.class.StyleClass.{StyleClass}
use Rattle.css_lexer.specs.declared.class.StyleClass.TheVariants as class
use Rattle.place_core.specs.declared.css.Css.TheVariants as css
use Rattle.place_core.specs.declared.parts.Parts.{Parts}
use Rattle.place_core.specs.place.UrlParts.{parts_of}
use Rattle.url_lexer.specs.Classes.{url_class_of}
use Rattle.url_lexer.specs.Holes.{url_after_cut, url_after_hole}
use Rattle.url_lexer.specs.Parts.{UrlPart}
use Rattle.url_lexer.specs.Refusals.{url_refuses_cut}
use Rattle.url_lexer.specs.Spots.{where_whole}
use Rattle.url_lexer.specs.States.{Url, url_start, feed_url}
use Rattle.url_lexer.specs.Triples.{Triple, NoTriple, AfterPercent, AfterDigit, next_triple}
use Rattle.url_step.specs.PartSets.{parts_next, parts_at_hole}
use Rattle.url_step.proofs.OnePath.{one-next, one-error, one-hole-error, one-at-hole}
use Rattle.css_step.proofs.BetweenTexts.{between-texts}
use Rattle.css_step.proofs.StyleScanned.{scanned, has-scan}
use Rattle.css_step.specs.StyleScans.{StyleScan, ScanSplitEscape, ScanBareUrl, ScanQuotedUrl, style_split_word, style_comment_start, style_scan_start, style_between_next, style_split_next, style_word_next, style_solidus_next, style_comment_next, style_string_next, style_bare_next, style_fresh_next, style_quoted_next, style_ended_next, style_tails_error, style_url_error, style_bare_error, style_fresh_error, style_quoted_error, style_at_hole, style_hole_error}
use Rattle.css_step.specs.StyleScanLaws.{IsStyleScan, scans_between, scans_less_than, scans_word, scans_solidus, scans_comment, scans_string, scans_behind_hole, scans_split_word, scans_solidus_before, scans_less_than_before, scans_star_before, scans_fresh, scans_bare, scans_quoted, scans_ended, OneStyle, IsExactOnOneStyle}
use Rattle.place_core.specs.place.StyleParts.{style_place, style_quoted_place, style_string_place, style_tails}

pub given : {A : Type 0} (a : A) → Some a ≡ None → ⊥
given a e = cc

none-given : {A : Type 0} (a : A) → None ≡ Some a → ⊥
none-given a e = cc

-- a byte outside url tokens
between : (k : Bool) (c : StyleClass) (b : ℕ) → IsStyleScan (next_between k c b) (style_between_next c b)
between k class.Blank b = scans_between true
between k class.Newline b = scans_between true
between k class.WordByte b = scans_word (first_letter b) NoEscape
between k class.ReverseSolidus b = scans_word SpellsOther AfterBackslash
between k class.QuotationMark b = scans_string DoubleQuote NoEscape
between k class.Apostrophe b = scans_string SingleQuote NoEscape
between k class.Solidus b = scans_solidus k
between k class.LessThan b = scans_less_than
between k _ b = scans_between false

split : (e : StyleEscape) (c : StyleClass) (b : ℕ) → IsStyleScan (next_split e c b) (style_split_next e c b)
split AfterBackslash c b = scans_split_word (behind_taken b)
split e class.WordByte b = scans_split_word (behind_byte e b)
split e class.ReverseSolidus b = scans_split_word AfterBackslash
split e c b = between false c b

word : (w : UrlWord) (e : StyleEscape) (c : StyleClass) (b : ℕ) → IsStyleScan (next_style_word urls w e c b) (style_word_next w e c b)
word w AfterBackslash c b = scans_word SpellsOther (behind_taken b)
word w e class.WordByte b = scans_word (next_letter w b) (behind_byte e b)
word w e class.ReverseSolidus b = scans_word SpellsOther AfterBackslash
word SpellsUrl e class.LeftParenthesis b = scans_fresh
word w e c b = between false c b

solidus : (c : StyleClass) (b : ℕ) → IsStyleScan (next_solidus c b) (style_solidus_next c b)
solidus class.Asterisk b = scans_comment false
solidus c b = between false c b

solidus-before : (c : StyleClass) (b : ℕ) → refuses_asterisk c ≡ None → IsStyleScan (next_solidus c b) (style_between_next c b)
solidus-before class.Asterisk b n = absurd (given _ n)
solidus-before c b n = between false c b

comment : (star : Bool) (c : StyleClass) → IsStyleScan (next_style_comment star c) (style_comment_next star c)
comment true class.Solidus = scans_between true
comment star class.Asterisk = scans_comment true
comment star c = scans_comment false

string : (taken : Bool) (q : Quote) (e : StyleEscape) (c : StyleClass) (b : ℕ) → refuses_string taken c ≡ None
    → IsStyleScan (next_style_string taken q e c b) (style_string_next taken q e c b)
string true q e c b n = scans_string q (behind_taken_in_string e b)
string false DoubleQuote e class.QuotationMark b n = scans_between false
string false SingleQuote e class.Apostrophe b n = scans_between false
string false q e class.Newline b n = absurd (given _ n)
string false q e class.ReverseSolidus b n = scans_string q AfterBackslash
string false q e c b n = scans_string q (behind_byte e b)

-- a byte of a URL
bare-fed : (u : Url) (b : ℕ) → IsStyleScan (InUrl Bare (feed_url u b)) (ScanBareUrl (parts_next (parts_of u.part) (url_class_of b) b) (next_triple u.triple (url_class_of b)))
bare-fed u b =
    subst (λ (z : Parts). IsStyleScan (InUrl Bare (feed_url u b)) (ScanBareUrl z (next_triple u.triple (url_class_of b))))
    (sym (one-next u.part (url_class_of b) b)) (scans_bare (feed_url u b))

bare : (u : Url) (c : StyleClass) (b : ℕ) → refuses_bare urls u c b ≡ None → IsStyleScan (next_bare urls u c b) (style_bare_next (parts_of u.part) u.triple c b)
bare u class.Blank b n = scans_ended u
bare u class.Newline b n = scans_ended u
bare u class.RightParenthesis b n = scans_between false
bare u class.QuotationMark b n = absurd (given _ n)
bare u class.Apostrophe b n = absurd (given _ n)
bare u class.LeftParenthesis b n = absurd (given _ n)
bare u class.ReverseSolidus b n = absurd (given _ n)
bare u c b n = bare-fed u b

fresh : (c : StyleClass) (b : ℕ) → refuses_fresh urls url_start c b ≡ None → IsStyleScan (next_fresh urls url_start c b) (style_fresh_next c b)
fresh class.Blank b n = scans_fresh
fresh class.Newline b n = scans_fresh
fresh class.QuotationMark b n = scans_quoted DoubleQuote NoEscape url_start
fresh class.Apostrophe b n = scans_quoted SingleQuote NoEscape url_start
fresh c b n = bare url_start c b n

quoted-fed : (q : Quote) (e : StyleEscape) (u : Url) (b : ℕ)
    → IsStyleScan (InUrl (Quoted q e) (feed_url u b)) (ScanQuotedUrl q e (parts_next (parts_of u.part) (url_class_of b) b) (next_triple u.triple (url_class_of b)))
quoted-fed q e u b =
    subst (λ (z : Parts). IsStyleScan (InUrl (Quoted q e) (feed_url u b)) (ScanQuotedUrl q e z (next_triple u.triple (url_class_of b))))
    (sym (one-next u.part (url_class_of b) b)) (scans_quoted q e (feed_url u b))

quoted : (taken : Bool) (q : Quote) (e : StyleEscape) (u : Url) (c : StyleClass) (b : ℕ) → refuses_quoted urls taken q u c b ≡ None
    → IsStyleScan (next_quoted urls taken q e u c b) (style_quoted_next taken q e (parts_of u.part) u.triple c b)
quoted true q e u c b n = quoted-fed q (behind_taken_in_string e b) u b
quoted false DoubleQuote e u class.QuotationMark b n = scans_ended u
quoted false SingleQuote e u class.Apostrophe b n = scans_ended u
quoted false q e u class.Newline b n = absurd (given _ n)
quoted false q e u class.ReverseSolidus b n = quoted-fed q AfterBackslash u b
quoted false q e u c b n = quoted-fed q (behind_byte e b) u b

ended : (u : Url) (c : StyleClass) → refuses_ended c ≡ None → IsStyleScan (next_ended u c) (style_ended_next c)
ended u class.Blank n = scans_ended u
ended u class.Newline n = scans_ended u
ended u class.RightParenthesis n = scans_between false
ended u _ n = absurd (given _ n)

-- what is refused at a byte
split-error : (c : StyleClass) → style_tails_error (style_tails true false false) c ≡ refuses_split NoEscape c
split-error class.Asterisk = refl
split-error class.Solidus = refl
split-error class.LeftParenthesis = refl
split-error _ = refl

hole-tails-error : (s l : Bool) (c : StyleClass) → style_tails_error (style_tails true s l) c ≡ refuses_behind_hole s l c
hole-tails-error s l class.Asterisk = refl
hole-tails-error s l class.Solidus = refl
hole-tails-error s l class.LeftParenthesis = refl
hole-tails-error s l _ = refl

between-error : (c : StyleClass) → style_tails_error (style_tails false false false) c ≡ None
between-error class.Asterisk = refl
between-error class.Solidus = refl
between-error class.LeftParenthesis = refl
between-error _ = refl

solidus-error : (c : StyleClass) → style_tails_error (style_tails false true false) c ≡ refuses_asterisk c
solidus-error class.Asterisk = refl
solidus-error class.Solidus = refl
solidus-error class.LeftParenthesis = refl
solidus-error _ = refl

less-than-error : (c : StyleClass) → style_tails_error (style_tails false false true) c ≡ refuses_solidus c
less-than-error class.Asterisk = refl
less-than-error class.Solidus = refl
less-than-error class.LeftParenthesis = refl
less-than-error _ = refl

url-error : (u : Url) (b : ℕ) → style_url_error (parts_of u.part) b ≡ urls.refuses u b
url-error u b = ap url_refusal (one-error u.part (url_class_of b))

bare-error : (u : Url) (c : StyleClass) (b : ℕ) → style_bare_error (style_url_error (parts_of u.part) b) c ≡ refuses_bare urls u c b
bare-error u class.Blank b = refl
bare-error u class.Newline b = refl
bare-error u class.RightParenthesis b = refl
bare-error u class.QuotationMark b = refl
bare-error u class.Apostrophe b = refl
bare-error u class.LeftParenthesis b = refl
bare-error u class.ReverseSolidus b = refl
bare-error u _ b = url-error u b

fresh-error : (c : StyleClass) (b : ℕ) → style_fresh_error (style_url_error (parts_of url_start.part) b) c ≡ refuses_fresh urls url_start c b
fresh-error class.QuotationMark b = refl
fresh-error class.Apostrophe b = refl
fresh-error c b = bare-error url_start c b

quoted-error : (taken : Bool) (q : Quote) (u : Url) (c : StyleClass) (b : ℕ) → style_quoted_error (style_url_error (parts_of u.part) b) taken q c ≡ refuses_quoted urls taken q u c b
quoted-error true q u c b = url-error u b
quoted-error false DoubleQuote u class.QuotationMark b = refl
quoted-error false SingleQuote u class.Apostrophe b = refl
quoted-error false q u class.Newline b = refl
quoted-error false q u c b = url-error u b

-- the end of a node
string-start : (q : Quote) → IsStyleScan (Out (InString q NoEscape)) (style_scan_start (style_string_place q))
string-start DoubleQuote = scans_string DoubleQuote NoEscape
string-start SingleQuote = scans_string SingleQuote NoEscape

quoted-start : (q : Quote) (u : Url) → u.triple ≡ NoTriple → IsStyleScan (InUrl (Quoted q NoEscape) u) (style_scan_start (style_quoted_place q (parts_of u.part)))
quoted-start DoubleQuote u n = subst (λ (z : Triple). IsStyleScan (InUrl (Quoted DoubleQuote NoEscape) u) (ScanQuotedUrl DoubleQuote NoEscape (parts_of u.part) z)) n (scans_quoted DoubleQuote NoEscape u)
quoted-start SingleQuote u n = subst (λ (z : Triple). IsStyleScan (InUrl (Quoted SingleQuote NoEscape) u) (ScanQuotedUrl SingleQuote NoEscape (parts_of u.part) z)) n (scans_quoted SingleQuote NoEscape u)

some-same : {A : Type 0} (x y : A) → Some x ≡ Some y → x ≡ y
some-same x y e = cc

bare-place : (t : Triple) (r : UrlPart) (p : StyleSpot UrlPart) → option_map UrlSpot (where_whole t r) ≡ Some p → style_place p ≡ css.Url (parts_of r)
bare-place NoTriple r p n = ap style_place (sym (some-same (UrlSpot r) p n))
bare-place AfterPercent r p n = absurd (none-given p n)
bare-place AfterDigit r p n = absurd (none-given p n)

quoted-place : (q : Quote) (t : Triple) (r : UrlPart) (p : StyleSpot UrlPart) → option_map (QuotedUrlSpot q) (where_whole t r) ≡ Some p
    → style_place p ≡ style_quoted_place q (parts_of r)
quoted-place q NoTriple r p n = ap style_place (sym (some-same (QuotedUrlSpot q r) p n))
quoted-place q AfterPercent r p n = absurd (none-given p n)
quoted-place q AfterDigit r p n = absurd (none-given p n)

-- where a context is known
known-place : (x p : StyleSpot UrlPart) → Some x ≡ Some p → style_place p ≡ style_place x
known-place x p n = ap style_place (sym (some-same x p n))

-- a hole
bare-hole : (u : Url) → IsStyleScan (InUrl Bare (url_after_hole u)) (ScanBareUrl (parts_at_hole (parts_of u.part)) NoTriple)
bare-hole u =
    subst (λ (z : Parts). IsStyleScan (InUrl Bare (url_after_hole u)) (ScanBareUrl z NoTriple)) (sym (one-at-hole u.part)) (scans_bare (url_after_hole u))

quoted-start-hole : (q : Quote) (u : Url) → IsStyleScan (InUrl (Quoted q NoEscape) (url_after_hole u)) (style_scan_start (style_at_hole (style_quoted_place q (parts_of u.part))))
quoted-start-hole DoubleQuote u =
    subst (λ (z : Parts). IsStyleScan (InUrl (Quoted DoubleQuote NoEscape) (url_after_hole u)) (ScanQuotedUrl DoubleQuote NoEscape z NoTriple))
    (sym (one-at-hole u.part)) (scans_quoted DoubleQuote NoEscape (url_after_hole u))
quoted-start-hole SingleQuote u =
    subst (λ (z : Parts). IsStyleScan (InUrl (Quoted SingleQuote NoEscape) (url_after_hole u)) (ScanQuotedUrl SingleQuote NoEscape z NoTriple))
    (sym (one-at-hole u.part)) (scans_quoted SingleQuote NoEscape (url_after_hole u))

quoted-hole : (q : Quote) (e : StyleEscape) (u : Url) (o : Option StyleCutRefusal) → first_refusal (refuses_in_escape e) o ≡ None
    → IsStyleScan (InUrl (Quoted q e) (url_after_hole u)) (style_scan_start (style_at_hole (style_quoted_place q (parts_of u.part))))
quoted-hole q NoEscape u o n = quoted-start-hole q u
quoted-hole q AfterBackslash u o n = absurd (given _ n)
quoted-hole q (HexDigits k) u o n = absurd (given _ n)
quoted-hole q AfterReturn u o n = absurd (given _ n)

string-start-hole : (q : Quote) → IsStyleScan (Out (InString q NoEscape)) (style_scan_start (style_at_hole (style_string_place q)))
string-start-hole DoubleQuote = string-start DoubleQuote
string-start-hole SingleQuote = string-start SingleQuote

string-hole : (q : Quote) (e : StyleEscape) → refuses_in_escape e ≡ None → IsStyleScan (Out (InString q e)) (style_scan_start (style_at_hole (style_string_place q)))
string-hole q NoEscape n = string-start-hole q
string-hole q AfterBackslash n = absurd (given _ n)
string-hole q (HexDigits k) n = absurd (given _ n)
string-hole q AfterReturn n = absurd (given _ n)

bare-hole-error : (u : Url) → style_hole_error (css.Url (parts_of u.part)) ≡ style_refuses_hole urls (InUrl Bare u)
bare-hole-error u = ap url_refusal (one-hole-error u.part)

quoted-hole-error : (q : Quote) (e : StyleEscape) (u : Url) → style_hole_error (style_quoted_place q (parts_of u.part)) ≡ style_refuses_hole urls (InUrl (Quoted q e) u)
quoted-hole-error DoubleQuote e u = ap url_refusal (one-hole-error u.part)
quoted-hole-error SingleQuote e u = ap url_refusal (one-hole-error u.part)

string-hole-error : (q : Quote) → style_hole_error (style_string_place q) ≡ None
string-hole-error DoubleQuote = refl
string-hole-error SingleQuote = refl

-- a word from before the text, in an escape, and by its escape
open-split : (e : StyleEscape) → OneStyle (Out (SplitWord e)) (ScanSplitEscape e)
open-split e = record {
  error = λ c b. refl;
  next = λ c b n. split e c b;
  cut_error = refl;
  place = λ p n. known-place (CodeSpot true false false) p n;
  after_cut = λ n. scans_split_word NoEscape;
  hole_error = refl;
  after_hole = λ n m. scans_behind_hole false false;
}

one-split : (e : StyleEscape) → OneStyle (Out (SplitWord e)) (style_split_word e)
one-split NoEscape = record {
  error = λ c b. split-error c;
  next = λ c b n. split NoEscape c b;
  cut_error = refl;
  place = λ p n. known-place (CodeSpot true false false) p n;
  after_cut = λ n. scans_split_word NoEscape;
  hole_error = refl;
  after_hole = λ n m. scans_behind_hole false false;
}
one-split AfterBackslash = open-split AfterBackslash
one-split (HexDigits k) = open-split (HexDigits k)
one-split AfterReturn = open-split AfterReturn

-- a comment, behind a `*` and not
comment-cut : (star : Bool) → IsStyleScan (style_after_cut urls (Out (Comment star))) (style_comment_start star)
comment-cut true = scans_star_before
comment-cut false = scans_comment false

comment-hole : (star : Bool) → IsStyleScan (style_after_hole urls (Out (Comment star))) (style_comment_start star)
comment-hole true = scans_star_before
comment-hole false = scans_comment false

pub one-style : (v : Style Url) (n : StyleScan) → IsStyleScan v n → OneStyle v n
one-style _ _ (scans_between k) = record {
  error = λ c b. between-error c;
  next = λ c b n. between k c b;
  cut_error = refl;
  place = λ p n. known-place (CodeSpot false false false) p n;
  after_cut = λ n. scans_between k;
  hole_error = refl;
  after_hole = λ n m. scans_behind_hole false false;
}
one-style _ _ scans_less_than = record {
  error = λ c b. refl;
  next = λ c b n. between false c b;
  cut_error = refl;
  place = λ p n. known-place (CodeSpot false false true) p n;
  after_cut = λ n. scans_less_than_before;
  hole_error = refl;
  after_hole = λ n m. scans_behind_hole false true;
}
one-style _ _ (scans_word w e) = record {
  error = λ c b. refl;
  next = λ c b n. word w e c b;
  cut_error = refl;
  place = λ p n. known-place (CodeSpot true false false) p n;
  after_cut = λ n. scans_split_word NoEscape;
  hole_error = refl;
  after_hole = λ n m. scans_behind_hole false false;
}
one-style _ _ (scans_solidus k) = record {
  error = λ c b. refl;
  next = λ c b n. solidus c b;
  cut_error = refl;
  place = λ p n. known-place (CodeSpot false true false) p n;
  after_cut = λ n. scans_solidus_before k;
  hole_error = refl;
  after_hole = λ n m. scans_behind_hole true false;
}
one-style _ _ (scans_comment star) = record {
  error = λ c b. refl;
  next = λ c b n. comment star c;
  cut_error = refl;
  place = λ p n. known-place (CommentSpot star) p n;
  after_cut = λ n. comment-cut star;
  hole_error = refl;
  after_hole = λ n m. comment-hole star;
}
one-style _ _ (scans_string q e) = record {
  error = λ c b. refl;
  next = λ c b n. string (is_taken_in_style e b) q e c b n;
  cut_error = refl;
  place = λ p n. known-place (StringSpot q) p n;
  after_cut = λ n. string-start q;
  hole_error = string-hole-error q;
  after_hole = λ n m. string-hole q e n;
}
one-style _ _ (scans_behind_hole s l) = record {
  error = λ c b. hole-tails-error s l c;
  next = λ c b n. split NoEscape c b;
  cut_error = refl;
  place = λ p n. known-place (CodeSpot true s l) p n;
  after_cut = λ n. scans_behind_hole s l;
  hole_error = refl;
  after_hole = λ n m. scans_behind_hole s l;
}
one-style _ _ (scans_split_word e) = one-split e
one-style _ _ (scans_solidus_before k) = record {
  error = λ c b. solidus-error c;
  next = λ c b n. solidus-before c b n;
  cut_error = refl;
  place = λ p n. known-place (CodeSpot false true false) p n;
  after_cut = λ n. scans_solidus_before k;
  hole_error = refl;
  after_hole = λ n m. scans_behind_hole true false;
}
one-style _ _ scans_less_than_before = record {
  error = λ c b. less-than-error c;
  next = λ c b n. between false c b;
  cut_error = refl;
  place = λ p n. known-place (CodeSpot false false true) p n;
  after_cut = λ n. scans_less_than_before;
  hole_error = refl;
  after_hole = λ n m. scans_behind_hole false true;
}
one-style _ _ scans_star_before = record {
  error = λ c b. refl;
  next = λ c b n. comment true c;
  cut_error = refl;
  place = λ p n. known-place (CommentSpot true) p n;
  after_cut = λ n. scans_star_before;
  hole_error = refl;
  after_hole = λ n m. scans_star_before;
}
one-style _ _ scans_fresh = record {
  error = λ c b. fresh-error c b;
  next = λ c b n. fresh c b n;
  cut_error = refl;
  place = λ p n. known-place FreshSpot p n;
  after_cut = λ n. scans_fresh;
  hole_error = refl;
  after_hole = λ n m. bare-hole url_start;
}
one-style _ _ (scans_bare u) = record {
  error = λ c b. bare-error u c b;
  next = λ c b n. bare u c b n;
  cut_error = refl;
  place = λ p n. bare-place u.triple u.part p n;
  after_cut = λ n. scans_bare (url_after_cut u);
  hole_error = bare-hole-error u;
  after_hole = λ n m. bare-hole u;
}
one-style _ _ (scans_quoted q e u) = record {
  error = λ c b. quoted-error (is_taken_in_style e b) q u c b;
  next = λ c b n. quoted (is_taken_in_style e b) q e u c b n;
  cut_error = refl;
  place = λ p n. quoted-place q u.triple u.part p n;
  after_cut = λ n. quoted-start q (url_after_cut u) refl;
  hole_error = quoted-hole-error q e u;
  after_hole = λ n m. quoted-hole q e u (url_cut_refusal (url_refuses_cut u)) n;
}
one-style _ _ (scans_ended u) = record {
  error = λ c b. refl;
  next = λ c b n. ended u c n;
  cut_error = refl;
  place = λ p n. known-place EndedSpot p n;
  after_cut = λ n. scans_ended u;
  hole_error = refl;
  after_hole = λ n m. absurd (given _ m);
}

one-way : (v : Style Url) (n m : StyleScan) → IsStyleScan v n → IsStyleScan v m → n ≡ m
one-way v n m i j = some-same n m (sym (scanned v n i) ∙ scanned v m j)

pub exact-on-one-style : IsExactOnOneStyle
exact-on-one-style = record {
  begins = scans_between false;
  goes_on = one-style;
  one_way = one-way;
  scanned = scanned;
  has_scan = has-scan;
  between_texts = between-texts;
}
