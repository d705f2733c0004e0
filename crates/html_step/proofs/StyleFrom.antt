-- Each member of a scan state of a style behind bytes comes from one member before them, and so does each of the place at the end of a text.
use Rattle.std.proofs.Common.{◌≡◌, ℕ, Bool, true, false, ◌||◌, List, [], ◌∷◌, Option, Some, None, if◌then◌else◌, refl, sym, ap, ◌∙◌, subst}
use Rattle.css_lexer.specs.Classes.{style_class}
use Rattle.css_lexer.specs.Escapes.{StyleEscape, NoEscape, AfterBackslash, HexDigits, AfterReturn, behind_byte, behind_taken, behind_taken_in_string, is_taken_in_style}
use Rattle.css_lexer.specs.States.{Quote, DoubleQuote, SingleQuote, UrlWord, SpellsUrl}
use Rattle.css_lexer.specs.declared.class.StyleClass.{StyleClass}
use Rattle.css_lexer.specs.declared.class.StyleClass.TheVariants as class
use Rattle.css_step.proofs.OneStylePath.{given}
use Rattle.css_step.proofs.StyleCases.{below-cases}
use Rattle.css_step.proofs.StyleGrowth.{styles-grow, url-none}
use Rattle.css_step.specs.StyleOrigins.{scan_set_has, style_scan_has, style_scan_parts}
use Rattle.css_step.specs.StyleScans.{StyleScan, ScanCode, ScanWord, ScanSplitEscape, ScanSolidus, ScanLessThan, ScanComment, ScanStarBefore, ScanString, ScanFresh, ScanBareUrl, ScanQuotedUrl, ScanEnded, style_bare_error, style_bare_next, style_between_next, style_code_next, style_comment_next, style_ended_next, style_fresh_next, style_quoted_error, style_quoted_next, style_scan_error, style_scan_next, style_scan_place, style_solidus_next, style_split_next, style_split_word, style_string_next, style_url_error, style_word_next}
use Rattle.css_step.specs.StyleSetLaws.{StyleScanBelow}
use Rattle.css_step.specs.StyleTexts.{TakesStyle}
use Rattle.place_core.specs.page.Tags.{feed_bytes}
use Rattle.place_core.specs.place.LanguagePlaces.{css_has, css_tails_have, parts_have}
use Rattle.place_core.specs.place.Places.{is_whole}
use Rattle.place_core.specs.place.StyleParts.{style_quoted_place, style_string_place, style_tails}
use Rattle.place_core.specs.place.UrlParts.{parts_of}
use Rattle.place_core.specs.declared.css.Css.{Css}
use Rattle.place_core.specs.declared.css.Css.TheVariants as css
use Rattle.place_core.specs.declared.css_tails.CssTails.{CssTails}
use Rattle.place_core.specs.declared.member.Member.{Member}
use Rattle.place_core.specs.declared.member.Member.TheVariants as member
use Rattle.place_core.specs.declared.parts.Parts.{Parts}
use Rattle.html_scan.specs.Scans.{style_feeding}
use Rattle.html_step.specs.Origins.{part_origin, style_byte_origin, style_end_origin, style_fed_origin, style_part_origin, typed_origin}
use Rattle.html_step.proofs.FromParts.{or-behind, or-either, or-first, part-from}
use Rattle.url_lexer.specs.Classes.{url_class_of}
use Rattle.url_lexer.specs.Parts.{UrlStart}
use Rattle.url_lexer.specs.Triples.{Triple, NoTriple, next_triple}
use Rattle.url_step.specs.PartSets.{PartsBelow, parts_error, parts_next}

no : false ≡ true → ⊥
no e = cc

-- a member behind a byte of this class comes from this one before it
pub record StyleFrom (n : StyleScan) (c : StyleClass) (b : ℕ) (y x : Member) : Type 0 where
  pub there : style_scan_has n x ≡ true
  pub leads : (k : StyleScan) → StyleScanBelow k n → style_scan_has k x ≡ true → style_scan_has (style_scan_next k c b) y ≡ true

-- in what a scan state keeps as a set, and else
pub has-set : (n : StyleScan) (y : Member) → scan_set_has n y ≡ true → style_scan_has n y ≡ true
has-set n y h = or-behind (is_whole y) (scan_set_has n y) h

-- the whole
from-whole : (n : StyleScan) (c : StyleClass) (b : ℕ) (y : Member) → is_whole y ≡ true → StyleFrom n c b y (style_byte_origin n b y)
from-whole n c b member.Whole h = record { there = refl; leads = λ k l o. refl }
from-whole n c b _ h = absurd (no h)

-- a part of a URL
pub part-traced : (n : StyleScan) (b : ℕ) (s : Parts) (y : Member) → parts_have s y ≡ true → style_byte_origin n b y ≡ style_part_origin (style_scan_parts n) b y
part-traced n b s member.PartStart h = refl
part-traced n b s member.PartOpen h = refl
part-traced n b s member.PartOpenhole h = refl
part-traced n b s member.PartPrequery h = refl
part-traced n b s member.PartQuery h = refl
part-traced n b s member.PartBad h = refl
part-traced n b s _ h = absurd (no h)

part-not-whole : (s : Parts) (y : Member) → is_whole y ≡ true → parts_have s y ≡ true → ⊥
part-not-whole s member.Whole h k = no k
part-not-whole s _ h k = no h

-- scan states that have nothing as a set
pub no-tails : (y : Member) → css_tails_have (style_tails false false false) y ≡ true → ⊥
no-tails member.CssWord h = no h
no-tails member.CssSlash h = no h
no-tails member.CssLt h = no h
no-tails _ h = no h

pub between-none : (c : StyleClass) (b : ℕ) (y : Member) → scan_set_has (style_between_next c b) y ≡ true → ⊥
between-none class.Blank b y h = no-tails y h
between-none class.Newline b y h = no-tails y h
between-none class.WordByte b y h = no h
between-none class.ReverseSolidus b y h = no h
between-none class.QuotationMark b y h = no h
between-none class.Apostrophe b y h = no h
between-none class.LeftParenthesis b y h = no-tails y h
between-none class.RightParenthesis b y h = no-tails y h
between-none class.Solidus b y h = no h
between-none class.Asterisk b y h = no-tails y h
between-none class.LessThan b y h = no h
between-none class.Punctuation b y h = no-tails y h
between-none class.OtherByte b y h = no-tails y h

pub word-none : (w : UrlWord) (e : StyleEscape) (c : StyleClass) (b : ℕ) (y : Member) → scan_set_has (style_word_next w e c b) y ≡ true → ⊥
word-none w AfterBackslash c b y h = no h
word-none w e class.WordByte b y h = no h
word-none w e class.ReverseSolidus b y h = no h
word-none SpellsUrl e class.LeftParenthesis b y h = no h
word-none w e c b y h = between-none c b y h

pub solidus-none : (c : StyleClass) (b : ℕ) (y : Member) → scan_set_has (style_solidus_next c b) y ≡ true → ⊥
solidus-none class.Asterisk b y h = no h
solidus-none c b y h = between-none c b y h

pub comment-none : (star : Bool) (c : StyleClass) (y : Member) → scan_set_has (style_comment_next star c) y ≡ true → ⊥
comment-none true class.Solidus y h = no-tails y h
comment-none star class.Asterisk y h = no h
comment-none star c y h = no h

pub string-none : (taken : Bool) (q : Quote) (e : StyleEscape) (c : StyleClass) (b : ℕ) (y : Member) → scan_set_has (style_string_next taken q e c b) y ≡ true → ⊥
string-none true q e c b y h = no h
string-none false DoubleQuote e class.QuotationMark b y h = no-tails y h
string-none false SingleQuote e class.Apostrophe b y h = no-tails y h
string-none false q e class.ReverseSolidus b y h = no h
string-none false q e c b y h = no h

pub ended-none : (c : StyleClass) (y : Member) → scan_set_has (style_ended_next c) y ≡ true → ⊥
ended-none class.RightParenthesis y h = no-tails y h
ended-none c y h = no h

-- a word from before the text
word-only : (y : Member) → css_tails_have (style_tails true false false) y ≡ true → y ≡ member.CssWord
word-only member.CssWord h = refl
word-only member.CssSlash h = absurd (no h)
word-only member.CssLt h = absurd (no h)
word-only _ h = absurd (no h)

split-word-only : (e : StyleEscape) (y : Member) → scan_set_has (style_split_word e) y ≡ true → y ≡ member.CssWord
split-word-only NoEscape y h = word-only y h
split-word-only AfterBackslash y h = word-only y h
split-word-only (HexDigits n) y h = word-only y h
split-word-only AfterReturn y h = word-only y h

pub split-only : (e : StyleEscape) (c : StyleClass) (b : ℕ) (y : Member) → scan_set_has (style_split_next e c b) y ≡ true → y ≡ member.CssWord
split-only AfterBackslash c b y h = split-word-only (behind_taken b) y h
split-only e class.WordByte b y h = split-word-only (behind_byte e b) y h
split-only e class.ReverseSolidus b y h = word-only y h
split-only e c b y h = absurd (between-none c b y h)

code-word : (x : CssTails) (c : StyleClass) (b : ℕ) → x.word ≡ true → scan_set_has (style_split_next NoEscape c b) member.CssWord ≡ true
    → StyleFrom (ScanCode x) c b member.CssWord member.CssWord
code-word x c b i h = record {
  there = i;
  leads = λ k l. below-cases (λ (k : StyleScan). style_scan_has k member.CssWord ≡ true → style_scan_has (style_scan_next k c b) member.CssWord ≡ true) k (ScanCode x) l
      (λ z j o. subst (λ (w : Bool). style_scan_has (style_code_next w c b) member.CssWord ≡ true) (sym o) h, λ w j o. absurd (no o));
}

code-set : (x : CssTails) (c : StyleClass) (b : ℕ) (y : Member) (w : Bool) → x.word ≡ w → scan_set_has (style_code_next w c b) y ≡ true
    → StyleFrom (ScanCode x) c b y (style_byte_origin (ScanCode x) b y)
code-set x c b y true i h =
    let e = split-only NoEscape c b y h in
    subst (λ (z : Member). StyleFrom (ScanCode x) c b z (style_byte_origin (ScanCode x) b z)) (sym e)
    (code-word x c b i (subst (λ (z : Member). scan_set_has (style_split_next NoEscape c b) z ≡ true) e h))
code-set x c b y false i h = absurd (between-none c b y h)

split-set : (e : StyleEscape) (c : StyleClass) (b : ℕ) (y : Member) → scan_set_has (style_split_next e c b) y ≡ true
    → StyleFrom (ScanSplitEscape e) c b y (style_byte_origin (ScanSplitEscape e) b y)
split-set e c b y h =
    let i = split-only e c b y h in
    subst (λ (z : Member). StyleFrom (ScanSplitEscape e) c b z (style_byte_origin (ScanSplitEscape e) b z)) (sym i)
    (record {
      there = refl;
      leads = λ k l. below-cases (λ (k : StyleScan). style_scan_has k member.CssWord ≡ true → style_scan_has (style_scan_next k c b) member.CssWord ≡ true) k (ScanSplitEscape e) l
          (λ o. subst (λ (z : Member). scan_set_has (style_split_next e c b) z ≡ true) i h, λ w j o. absurd (no o));
    })

-- In a URL, and where one begins.
abbrev pub SomePart : Member → Type 0
SomePart y = (s : Parts) × (parts_have s y ≡ true)

pub bare-parts : (s : Parts) (t : Triple) (c : StyleClass) (b : ℕ) (y : Member) → scan_set_has (style_bare_next s t c b) y ≡ true → SomePart y
bare-parts s t class.Blank b y h = absurd (no h)
bare-parts s t class.Newline b y h = absurd (no h)
bare-parts s t class.RightParenthesis b y h = absurd (no-tails y h)
bare-parts s t c b y h = (parts_next s (url_class_of b) b, h)

pub fresh-parts : (c : StyleClass) (b : ℕ) (y : Member) → scan_set_has (style_fresh_next c b) y ≡ true → SomePart y
fresh-parts class.Blank b y h = absurd (no h)
fresh-parts class.Newline b y h = absurd (no h)
fresh-parts class.QuotationMark b y h = (parts_of UrlStart, h)
fresh-parts class.Apostrophe b y h = (parts_of UrlStart, h)
fresh-parts c b y h = bare-parts (parts_of UrlStart) NoTriple c b y h

fresh-set : (c : StyleClass) (b : ℕ) (y : Member) → scan_set_has (style_fresh_next c b) y ≡ true → StyleFrom ScanFresh c b y (style_byte_origin ScanFresh b y)
fresh-set c b y h =
    let p = fresh-parts c b y h in
    subst (StyleFrom ScanFresh c b y) (sym (part-traced ScanFresh b p.0 y p.1))
    (record {
      there = refl;
      leads = λ k l o. below-cases (λ (k : StyleScan). style_scan_has (style_scan_next k c b) y ≡ true) k ScanFresh l (has-set (style_fresh_next c b) y h);
    })

-- a part behind the byte comes from one before, for a set of parts below another one
pub record PartTraced (s : Parts) (b : ℕ) (y x : Member) : Type 0 where
  pub is : x ≡ part_origin s (url_class_of b) y
  pub there : (is_whole x || parts_have s x) ≡ true
  pub leads : (r : Parts) → PartsBelow r s → (is_whole x || parts_have r x) ≡ true → parts_have (parts_next r (url_class_of b) b) y ≡ true

trace-part : (n : StyleScan) (s : Parts) (b : ℕ) (y : Member) → style_scan_parts n ≡ Some s → style_url_error s b ≡ None
    → parts_have (parts_next s (url_class_of b) b) y ≡ true → PartTraced s b y (style_byte_origin n b y)
trace-part n s b y i e h =
    let f = part-from s (url_class_of b) b y (url-none (parts_error s (url_class_of b)) e) h in
    let x = part_origin s (url_class_of b) y in
    let is : style_byte_origin n b y ≡ x = part-traced n b (parts_next s (url_class_of b) b) y h ∙ ap (λ (o : Option Parts). style_part_origin o b y) i in
    subst (PartTraced s b y) (sym is)
    (record {
      is = refl;
      there = or-behind (is_whole x) (parts_have s x) f.there;
      leads = λ r l o. f.leads r l
          (or-either (parts_have r x ≡ true) (is_whole x) (parts_have r x) o (λ k. absurd (part-not-whole s x k f.there)) (λ k. k));
    })

bare-fed : (s : Parts) (t : Triple) (c : StyleClass) (b : ℕ) (y : Member)
    → ((r : Parts) → style_bare_next r t c b ≡ ScanBareUrl (parts_next r (url_class_of b) b) (next_triple t (url_class_of b))) → style_url_error s b ≡ None
    → parts_have (parts_next s (url_class_of b) b) y ≡ true → StyleFrom (ScanBareUrl s t) c b y (style_byte_origin (ScanBareUrl s t) b y)
bare-fed s t c b y g e h =
    let x = style_byte_origin (ScanBareUrl s t) b y in
    let p = trace-part (ScanBareUrl s t) s b y refl e h in
    record {
      there = p.there;
      leads = λ k l. below-cases (λ (k : StyleScan). style_scan_has k x ≡ true → style_scan_has (style_scan_next k c b) y ≡ true) k (ScanBareUrl s t) l
          (λ r j o. subst (λ (z : StyleScan). style_scan_has z y ≡ true) (sym (g r))
          (or-behind (is_whole y) (parts_have (parts_next r (url_class_of b) b) y) (p.leads r j o)));
    }

bare-set : (s : Parts) (t : Triple) (c : StyleClass) (b : ℕ) (y : Member) → style_bare_error (style_url_error s b) c ≡ None
    → scan_set_has (style_bare_next s t c b) y ≡ true → StyleFrom (ScanBareUrl s t) c b y (style_byte_origin (ScanBareUrl s t) b y)
bare-set s t class.Blank b y e h = absurd (no h)
bare-set s t class.Newline b y e h = absurd (no h)
bare-set s t class.RightParenthesis b y e h = absurd (no-tails y h)
bare-set s t class.QuotationMark b y e h = absurd (given _ e)
bare-set s t class.Apostrophe b y e h = absurd (given _ e)
bare-set s t class.LeftParenthesis b y e h = absurd (given _ e)
bare-set s t class.ReverseSolidus b y e h = absurd (given _ e)
bare-set s t c b y e h = bare-fed s t c b y (λ r. refl) e h

quoted-fed : (taken : Bool) (q : Quote) (z d : StyleEscape) (s : Parts) (t : Triple) (c : StyleClass) (b : ℕ) (y : Member) → is_taken_in_style z b ≡ taken
    → ((r : Parts) → style_quoted_next taken q z r t c b ≡ ScanQuotedUrl q d (parts_next r (url_class_of b) b) (next_triple t (url_class_of b)))
    → style_url_error s b ≡ None
    → parts_have (parts_next s (url_class_of b) b) y ≡ true → StyleFrom (ScanQuotedUrl q z s t) c b y (style_byte_origin (ScanQuotedUrl q z s t) b y)
quoted-fed taken q z d s t c b y i g e h =
    let x = style_byte_origin (ScanQuotedUrl q z s t) b y in
    let p = trace-part (ScanQuotedUrl q z s t) s b y refl e h in
    record {
      there = p.there;
      leads = λ k l. below-cases (λ (k : StyleScan). style_scan_has k x ≡ true → style_scan_has (style_scan_next k c b) y ≡ true) k (ScanQuotedUrl q z s t) l
          (λ r j o. subst (λ (w : StyleScan). style_scan_has w y ≡ true) (sym (ap (λ (w : Bool). style_quoted_next w q z r t c b) i ∙ g r))
          (or-behind (is_whole y) (parts_have (parts_next r (url_class_of b) b) y) (p.leads r j o)));
    }

quoted-set : (taken : Bool) (q : Quote) (z : StyleEscape) (s : Parts) (t : Triple) (c : StyleClass) (b : ℕ) (y : Member) → is_taken_in_style z b ≡ taken
    → style_quoted_error (style_url_error s b) taken q c ≡ None → scan_set_has (style_quoted_next taken q z s t c b) y ≡ true
    → StyleFrom (ScanQuotedUrl q z s t) c b y (style_byte_origin (ScanQuotedUrl q z s t) b y)
quoted-set true q z s t c b y i e h = quoted-fed true q z (behind_taken_in_string z b) s t c b y i (λ r. refl) e h
quoted-set false DoubleQuote z s t class.QuotationMark b y i e h = absurd (no h)
quoted-set false SingleQuote z s t class.Apostrophe b y i e h = absurd (no h)
quoted-set false q z s t class.Newline b y i e h = absurd (given _ e)
quoted-set false q z s t class.ReverseSolidus b y i e h = quoted-fed false q z AfterBackslash s t class.ReverseSolidus b y i (λ r. refl) e h
quoted-set false q z s t c b y i e h = quoted-fed false q z (behind_byte z b) s t c b y i (λ r. refl) e h

-- from any scan state
set-from : (n : StyleScan) (c : StyleClass) (b : ℕ) (y : Member) → style_scan_error n c b ≡ None → scan_set_has (style_scan_next n c b) y ≡ true
    → StyleFrom n c b y (style_byte_origin n b y)
set-from (ScanCode x) c b y e h = code-set x c b y x.word refl h
set-from (ScanWord w k) c b y e h = absurd (word-none w k c b y h)
set-from (ScanSplitEscape k) c b y e h = split-set k c b y h
set-from ScanSolidus c b y e h = absurd (solidus-none c b y h)
set-from ScanLessThan c b y e h = absurd (between-none c b y h)
set-from (ScanComment star) c b y e h = absurd (comment-none star c y h)
set-from ScanStarBefore c b y e h = absurd (comment-none true c y h)
set-from (ScanString q k) c b y e h = absurd (string-none (is_taken_in_style k b) q k c b y h)
set-from ScanFresh c b y e h = fresh-set c b y h
set-from (ScanBareUrl s t) c b y e h = bare-set s t c b y e h
set-from (ScanQuotedUrl q k s t) c b y e h = quoted-set (is_taken_in_style k b) q k s t c b y refl e h
set-from ScanEnded c b y e h = absurd (ended-none c y h)

pub style-from : (n : StyleScan) (c : StyleClass) (b : ℕ) (y : Member) → style_scan_error n c b ≡ None → style_scan_has (style_scan_next n c b) y ≡ true
    → StyleFrom n c b y (style_byte_origin n b y)
style-from n c b y e h =
    or-either (StyleFrom n c b y (style_byte_origin n b y)) (is_whole y) (scan_set_has (style_scan_next n c b) y) h (λ k. from-whole n c b y k) (λ k. set-from n c b y e k)

-- Several bytes, of which none is refused.
pub record StyleFedFrom (bytes : List ℕ) (n : StyleScan) (y x : Member) : Type 0 where
  pub there : style_scan_has n x ≡ true
  pub leads : (k : StyleScan) → StyleScanBelow k n → style_scan_has k x ≡ true → style_scan_has (feed_bytes style_feeding k bytes) y ≡ true

pub style-fed-from : (bytes : List ℕ) (n : StyleScan) (y : Member) → TakesStyle bytes n → style_scan_has (feed_bytes style_feeding n bytes) y ≡ true
    → StyleFedFrom bytes n y (style_fed_origin bytes n y)
style-fed-from [] n y a h = record { there = h; leads = λ k l o. o }
style-fed-from (b ∷ bs) n y a h =
    let r = style-fed-from bs (style_scan_next n (style_class b) b) y a.1 h in
    let o = style-from n (style_class b) b (style_fed_origin bs (style_scan_next n (style_class b) b) y) a.0 r.there in
    record {
      there = o.there;
      leads = λ k l i. r.leads (style_scan_next k (style_class b) b) ((styles-grow.scans k n l).next (style_class b) b a.0) (o.leads k l i);
    }

-- the whole, and that a `type` may have been seen, come from themselves
pub style-fed-whole : (bytes : List ℕ) (n : StyleScan) → style_fed_origin bytes n member.Whole ≡ member.Whole
style-fed-whole [] n = refl
style-fed-whole (b ∷ bs) n = ap (style_byte_origin n b) (style-fed-whole bs (style_scan_next n (style_class b) b))

pub style-fed-typed : (bytes : List ℕ) (n : StyleScan) → style_fed_origin bytes n member.Typed ≡ member.Typed
style-fed-typed [] n = refl
style-fed-typed (b ∷ bs) n = ap (style_byte_origin n b) (style-fed-typed bs (style_scan_next n (style_class b) b))

-- The end of a text.
pub record StyleEndFrom (n : StyleScan) (y x : Member) : Type 0 where
  pub there : style_scan_has n x ≡ true
  pub leads : (k : StyleScan) → StyleScanBelow k n → style_scan_has k x ≡ true → (is_whole y || css_has (style_scan_place k) y) ≡ true

pub quoted-placed : (q : Quote) (s : Parts) (y : Member) → parts_have s y ≡ css_has (style_quoted_place q s) y
quoted-placed DoubleQuote s y = refl
quoted-placed SingleQuote s y = refl

pub set-placed : (k : StyleScan) (y : Member) → scan_set_has k y ≡ true → css_has (style_scan_place k) y ≡ true
set-placed (ScanCode x) y h = h
set-placed (ScanSplitEscape e) y h = h
set-placed ScanStarBefore y h = h
set-placed (ScanBareUrl s t) y h = h
set-placed (ScanQuotedUrl q e s t) y h = sym (quoted-placed q s y) ∙ h
set-placed _ y h = absurd (no h)

-- what a scan state has, the place has there
pub has-placed : (k : StyleScan) (y : Member) → style_scan_has k y ≡ true → (is_whole y || css_has (style_scan_place k) y) ≡ true
has-placed k y h =
    or-either ((is_whole y || css_has (style_scan_place k) y) ≡ true) (is_whole y) (scan_set_has k y) h
    (λ i. or-first (is_whole y) (css_has (style_scan_place k) y) i) (λ i. or-behind (is_whole y) (css_has (style_scan_place k) y) (set-placed k y i))

end-itself : (n : StyleScan) (y : Member) → style_scan_has n y ≡ true → StyleEndFrom n y y
end-itself n y h = record { there = h; leads = λ k l o. has-placed k y o }

string-nothing : (q : Quote) (y : Member) → css_has (style_string_place q) y ≡ true → ⊥
string-nothing DoubleQuote y h = no h
string-nothing SingleQuote y h = no h

-- what the place alone has, it has on all paths
end-of-all : (n : StyleScan) (y : Member) → scan_set_has n y ≡ false → css_has (style_scan_place n) y ≡ true → (k : StyleScan) → StyleScanBelow k n
    → css_has (style_scan_place k) y ≡ true
end-of-all (ScanCode x) y e h k l = absurd (no (sym e ∙ h))
end-of-all (ScanWord w z) y e h k l = below-cases (λ (k : StyleScan). css_has (style_scan_place k) y ≡ true) k (ScanWord w z) l h
end-of-all (ScanSplitEscape z) y e h k l = absurd (no (sym e ∙ h))
end-of-all ScanSolidus y e h k l = below-cases (λ (k : StyleScan). css_has (style_scan_place k) y ≡ true) k ScanSolidus l h
end-of-all ScanLessThan y e h k l = below-cases (λ (k : StyleScan). css_has (style_scan_place k) y ≡ true) k ScanLessThan l h
end-of-all (ScanComment star) y e h k l = below-cases (λ (k : StyleScan). css_has (style_scan_place k) y ≡ true) k (ScanComment star) l h
end-of-all ScanStarBefore y e h k l = absurd (no (sym e ∙ h))
end-of-all (ScanString q z) y e h k l = absurd (string-nothing q y h)
end-of-all ScanFresh y e h k l = absurd (no h)
end-of-all (ScanBareUrl s t) y e h k l = absurd (no (sym e ∙ h))
end-of-all (ScanQuotedUrl q z s t) y e h k l = absurd (no (sym e ∙ (quoted-placed q s y ∙ h)))
end-of-all ScanEnded y e h k l = absurd (no h)

-- that a `type` may have been seen is no member of a style
pub typed-none : (c : Css) → css_has c member.Typed ≡ true → ⊥
typed-none (css.Code x) h = no h
typed-none (css.Url s) h = no h
typed-none (css.UrlDq s) h = no h
typed-none (css.UrlSq s) h = no h
typed-none (css.Comment x) h = no h
typed-none _ h = no h

css-whole : (c : Css) (y : Member) → css_has c y ≡ true → typed_origin y ≡ member.Whole
css-whole c member.Typed h = absurd (typed-none c h)
css-whole c _ h = refl

end-by : (n : StyleScan) (y : Member) (x : Bool) → scan_set_has n y ≡ x → css_has (style_scan_place n) y ≡ true
    → StyleEndFrom n y (if x then y else typed_origin y)
end-by n y true e h = end-itself n y (has-set n y e)
end-by n y false e h =
    subst (StyleEndFrom n y) (sym (css-whole (style_scan_place n) y h))
    (record { there = refl; leads = λ k l o. or-behind (is_whole y) (css_has (style_scan_place k) y) (end-of-all n y e h k l) })

pub style-end-from : (n : StyleScan) (y : Member) → css_has (style_scan_place n) y ≡ true → StyleEndFrom n y (style_end_origin n y)
style-end-from n y h = end-by n y (scan_set_has n y) refl h
