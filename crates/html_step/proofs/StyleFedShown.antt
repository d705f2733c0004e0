-- What a style refuses of the bytes that it is fed. One member shows it: it is so before all of them, and on whatever path bears it the same byte is
-- refused, in the same way. Or it is a `:`, the first of the bytes, and paths met apart.
use Rattle.std.proofs.Common.{◌≡◌, ◌≤◌, ℕ, ◌-◌, Bool, true, false, ◌||◌, List, [], ◌∷◌, Option, Some, None, option_map, if◌then◌else◌, refl, sym, ap, ◌∙◌, subst, arith}
use Rattle.css_lexer.specs.Classes.{style_class}
use Rattle.css_lexer.specs.Escapes.{StyleEscape, NoEscape, AfterBackslash, HexDigits, AfterReturn, is_taken_in_style}
use Rattle.css_lexer.specs.RefusalCodes.{RefusalCode, AmbigContext, BadString, SplitToken}
use Rattle.css_lexer.specs.Refusals.{refuses_ended, refuses_solidus, refuses_split, refuses_string, split_if}
use Rattle.css_lexer.specs.States.{Quote, DoubleQuote, SingleQuote}
use Rattle.css_lexer.specs.Urls.{url_refusal}
use Rattle.css_lexer.specs.declared.class.StyleClass.{StyleClass}
use Rattle.css_lexer.specs.declared.class.StyleClass.TheVariants as class
use Rattle.css_step.proofs.StyleCases.{below-cases}
use Rattle.css_step.proofs.StyleGrowth.{styles-grow}
use Rattle.css_step.specs.StyleOrigins.{scan_set_has, style_scan_has, style_scan_parts}
use Rattle.css_step.specs.StyleScans.{StyleScan, ScanCode, ScanWord, ScanSplitEscape, ScanSolidus, ScanLessThan, ScanComment, ScanStarBefore, ScanString, ScanFresh, ScanBareUrl, ScanQuotedUrl, ScanEnded, style_bare_error, style_code_next, style_fresh_error, style_fresh_next, style_quoted_error, style_quoted_next, style_scan_error, style_scan_next, style_tails_error, style_url_error}
use Rattle.css_step.specs.StyleSetLaws.{StyleScanBelow}
use Rattle.css_step.specs.StyleTexts.{TakesStyle}
use Rattle.place_core.proofs.Semilattices.{none_some, one_value}
use Rattle.place_core.specs.page.Tags.{feed_bytes, style_code}
use Rattle.place_core.specs.place.Errors.{PathCause, cause_back, fed_error, first_cause}
use Rattle.place_core.specs.place.Places.{is_whole}
use Rattle.place_core.specs.place.UrlParts.{parts_of}
use Rattle.place_core.specs.declared.code.Code.{Code}
use Rattle.place_core.specs.declared.code.Code.TheVariants as code
use Rattle.place_core.specs.declared.css_tails.CssTails.{CssTails}
use Rattle.place_core.specs.declared.member.Member.{Member}
use Rattle.place_core.specs.declared.member.Member.TheVariants as member
use Rattle.place_core.specs.declared.parts.Parts.{Parts}
use Rattle.html_scan.specs.Scans.{style_feeding}
use Rattle.html_step.specs.Laws.{EvidenceData, apart, one, two}
use Rattle.html_step.specs.Origins.{first_shown, is_apart, part_origin, style_byte_shows, style_fed_shown, style_part_origin, style_tails_show, style_url_shows}
use Rattle.html_step.proofs.ApartParts.{IsAmbiguous, hole-before}
use Rattle.html_step.proofs.Characters.{IsCharacter, NoColon, nothing, several, single}
use Rattle.html_step.proofs.FedAlike.{cause-none, first-caused}
use Rattle.html_step.proofs.FromParts.{or-behind, or-first}
use Rattle.html_step.proofs.StyleFrom.{SomePart, StyleFedFrom, StyleFrom, bare-parts, between-none, comment-none, ended-none, fresh-parts, solidus-none, split-only, string-none, style-from, word-none}
use Rattle.url_lexer.specs.Classes.{url_class_of}
use Rattle.url_lexer.specs.Parts.{UrlStart}
use Rattle.url_lexer.specs.Triples.{Triple}
use Rattle.url_lexer.specs.declared.class.UrlClass.{UrlClass}
use Rattle.url_lexer.specs.declared.class.UrlClass.TheVariants as url_class
use Rattle.url_step.specs.PartSets.{if_ambiguous, parts_error, parts_next, spells_apart}

no : false ≡ true → ⊥
no e = cc

-- The members that show what is refused of a byte of a style.
abbrev pub IsShower : Member → Type 0
IsShower member.Whole = Unit {0}
IsShower member.CssWord = Unit {0}
IsShower member.CssSlash = Unit {0}
IsShower member.CssLt = Unit {0}
IsShower member.CssStar = Unit {0}
IsShower member.PartOpenhole = Unit {0}
IsShower x = ⊥

-- No byte of a style is refused as a reference is whose name stands for no character.
abbrev pub NotHtml : Code → Type 0
NotHtml code.BadHTML = ⊥
NotHtml e = Unit {0}

-- What is in a set behind a byte: a word that some path has from before, and parts of a URL.
data SetBehind (n : StyleScan) (y : Member) : Type 0 where
  set_word : y ≡ member.CssWord → SetBehind n y
  set_fresh : n ≡ ScanFresh → SomePart y → SetBehind n y
  set_part : (s : Parts) → style_scan_parts n ≡ Some s → SomePart y → SetBehind n y

quoted-parts : (taken : Bool) (q : Quote) (z : StyleEscape) (s : Parts) (t : Triple) (c : StyleClass) (b : ℕ) (y : Member)
    → scan_set_has (style_quoted_next taken q z s t c b) y ≡ true → SomePart y
quoted-parts true q z s t c b y h = (parts_next s (url_class_of b) b, h)
quoted-parts false DoubleQuote z s t class.QuotationMark b y h = absurd (no h)
quoted-parts false SingleQuote z s t class.Apostrophe b y h = absurd (no h)
quoted-parts false q z s t class.ReverseSolidus b y h = (parts_next s (url_class_of b) b, h)
quoted-parts false q z s t c b y h = (parts_next s (url_class_of b) b, h)

code-behind : (x : CssTails) (w : Bool) (c : StyleClass) (b : ℕ) (y : Member) → scan_set_has (style_code_next w c b) y ≡ true
    → SetBehind (ScanCode x) y
code-behind x true c b y h = set_word (split-only NoEscape c b y h)
code-behind x false c b y h = absurd (between-none c b y h)

set-behind : (n : StyleScan) (c : StyleClass) (b : ℕ) (y : Member) → scan_set_has (style_scan_next n c b) y ≡ true → SetBehind n y
set-behind (ScanCode x) c b y h = code-behind x x.word c b y h
set-behind (ScanWord w z) c b y h = absurd (word-none w z c b y h)
set-behind (ScanSplitEscape z) c b y h = set_word (split-only z c b y h)
set-behind ScanSolidus c b y h = absurd (solidus-none c b y h)
set-behind ScanLessThan c b y h = absurd (between-none c b y h)
set-behind (ScanComment star) c b y h = absurd (comment-none star c y h)
set-behind ScanStarBefore c b y h = absurd (comment-none true c y h)
set-behind (ScanString q z) c b y h = absurd (string-none (is_taken_in_style z b) q z c b y h)
set-behind ScanFresh c b y h = set_fresh refl (fresh-parts c b y h)
set-behind (ScanBareUrl s t) c b y h = set_part s refl (bare-parts s t c b y h)
set-behind (ScanQuotedUrl q z s t) c b y h = set_part s refl (quoted-parts (is_taken_in_style z b) q z s t c b y h)
set-behind ScanEnded c b y h = absurd (ended-none c y h)

-- a `/`, a `<` and a `*` from before the text are in no set behind a byte
never-behind : (n : StyleScan) (y : Member) → (y ≡ member.CssWord → ⊥) → (SomePart y → ⊥) → SetBehind n y → ⊥
never-behind n y f g (set_word e) = f e
never-behind n y f g (set_fresh e p) = g p
never-behind n y f g (set_part s e p) = g p

-- no URL begins behind a hole
fresh-hole : (c : StyleClass) (b : ℕ) → scan_set_has (style_fresh_next c b) member.PartOpenhole ≡ true → ⊥
fresh-hole class.Blank b h = no h
fresh-hole class.Newline b h = no h
fresh-hole class.QuotationMark b h = no h
fresh-hole class.Apostrophe b h = no h
fresh-hole class.RightParenthesis b h = no h
fresh-hole _ b h = no (hole-before (b ∷ []) (parts_of UrlStart) h)

hole-begins : (n : StyleScan) (c : StyleClass) (b : ℕ) → style_scan_parts n ≡ None → scan_set_has (style_scan_next n c b) member.PartOpenhole ≡ true
    → SetBehind n member.PartOpenhole → ⊥
hole-begins n c b i h (set_word e) = cc
hole-begins n c b i h (set_fresh e p) =
    fresh-hole c b (subst (λ (z : StyleScan). scan_set_has (style_scan_next z c b) member.PartOpenhole ≡ true) e h)
hole-begins n c b i h (set_part s e p) = none_some s (sym i ∙ e)

hole-origin : (s : Parts) (c : UrlClass) → part_origin s c member.PartOpenhole ≡ member.PartOpenhole
hole-origin s url_class.Colon = refl
hole-origin s url_class.Slash = refl
hole-origin s url_class.QueryMark = refl
hole-origin s _ = refl

hole-step : (n : StyleScan) (c : StyleClass) (b : ℕ) (o : Option Parts) → style_scan_parts n ≡ o → style_scan_error n c b ≡ None
    → style_scan_has (style_scan_next n c b) member.PartOpenhole ≡ true → StyleFrom n c b member.PartOpenhole member.PartOpenhole
hole-step n c b (Some s) i e h =
    subst (StyleFrom n c b member.PartOpenhole) (ap (λ (p : Option Parts). style_part_origin p b member.PartOpenhole) i
    ∙ hole-origin s (url_class_of b))
    (style-from n c b member.PartOpenhole e h)
hole-step n c b None i e h = absurd (hole-begins n c b i h (set-behind n c b member.PartOpenhole h))

-- A member that shows it comes from itself.
kept-step : (n : StyleScan) (c : StyleClass) (b : ℕ) (x : Member) → IsShower x → style_scan_error n c b ≡ None
    → style_scan_has (style_scan_next n c b) x ≡ true → StyleFrom n c b x x
kept-step n c b member.Whole i e h = style-from n c b member.Whole e h
kept-step n c b member.CssWord i e h = style-from n c b member.CssWord e h
kept-step n c b member.CssSlash i e h = absurd (never-behind n member.CssSlash (λ j. cc) (λ p. no p.1) (set-behind n c b member.CssSlash h))
kept-step n c b member.CssLt i e h = absurd (never-behind n member.CssLt (λ j. cc) (λ p. no p.1) (set-behind n c b member.CssLt h))
kept-step n c b member.CssStar i e h = absurd (never-behind n member.CssStar (λ j. cc) (λ p. no p.1) (set-behind n c b member.CssStar h))
kept-step n c b member.PartOpenhole i e h = hole-step n c b (style_scan_parts n) refl e h
kept-step n c b _ i e h = absurd i

pub kept-fed : (bytes : List ℕ) (n : StyleScan) (x : Member) → IsShower x → TakesStyle bytes n
    → style_scan_has (feed_bytes style_feeding n bytes) x ≡ true
    → StyleFedFrom bytes n x x
kept-fed [] n x i a h = record { there = h; leads = λ k l o. o }
kept-fed (b ∷ bs) n x i a h =
    let r = kept-fed bs (style_scan_next n (style_class b) b) x i a.1 h in
    let o = kept-step n (style_class b) b x i a.0 r.there in
    record {
      there = o.there;
      leads = λ k l j. r.leads (style_scan_next k (style_class b) b) ((styles-grow.scans k n l).next (style_class b) b a.0) (o.leads k l j);
    }

-- One byte that is refused.
data ByteShown (n : StyleScan) (c : StyleClass) (b : ℕ) (e : RefusalCode) : Type 0 where
  byte_one : (x : Member) → style_byte_shows n c (style_code e) ≡ one x → IsShower x → style_scan_has n x ≡ true
      → ((k : StyleScan) → StyleScanBelow k n → style_scan_has k x ≡ true → style_scan_error k c b ≡ Some e) → NotHtml (style_code e)
      → ByteShown n c b e
  byte_apart : style_byte_shows n c (style_code e) ≡ apart → is_apart (style_scan_parts n) ≡ true → url_class_of b ≡ url_class.Colon
      → e ≡ AmbigContext
      → ((k : StyleScan) → StyleScanBelow k n → is_apart (style_scan_parts k) ≡ true → style_scan_error k c b ≡ Some e) → ByteShown n c b e

-- its code
same-code : (x e : RefusalCode) → Some x ≡ Some e → NotHtml (style_code x) → NotHtml (style_code e)
same-code x e h i = subst (λ (z : RefusalCode). NotHtml (style_code z)) (one_value x e h) i

split-some : (y : Bool) (e : RefusalCode) → split_if y ≡ Some e → (y ≡ true) × (e ≡ SplitToken)
split-some true e h = (refl, sym (one_value SplitToken e h))
split-some false e h = absurd (none_some e h)

escape-code : (z : StyleEscape) (c : StyleClass) (e : RefusalCode) → refuses_split z c ≡ Some e → NotHtml (style_code e)
escape-code AfterBackslash c e h = absurd (none_some e h)
escape-code NoEscape class.LeftParenthesis e h = same-code SplitToken e h tt
escape-code (HexDigits k) class.LeftParenthesis e h = same-code SplitToken e h tt
escape-code AfterReturn class.LeftParenthesis e h = same-code SplitToken e h tt
escape-code z c e h = absurd (none_some e h)

solidus-code : (c : StyleClass) (e : RefusalCode) → refuses_solidus c ≡ Some e → NotHtml (style_code e)
solidus-code class.Solidus e h = same-code SplitToken e h tt
solidus-code c e h = absurd (none_some e h)

string-code : (taken : Bool) (c : StyleClass) (e : RefusalCode) → refuses_string taken c ≡ Some e → NotHtml (style_code e)
string-code false class.Newline e h = same-code BadString e h tt
string-code taken c e h = absurd (none_some e h)

ended-code : (c : StyleClass) (e : RefusalCode) → refuses_ended c ≡ Some e → NotHtml (style_code e)
ended-code class.Blank e h = absurd (none_some e h)
ended-code class.Newline e h = absurd (none_some e h)
ended-code class.RightParenthesis e h = absurd (none_some e h)
ended-code c e h = same-code BadString e h tt

-- A URL refuses a `:` alone.
record UrlRefused (s : Parts) (b : ℕ) (e : RefusalCode) : Type 0 where
  is : e ≡ AmbigContext
  colon : url_class_of b ≡ url_class.Colon
  there : IsAmbiguous s
  refuses : (t : Parts) → IsAmbiguous t → style_url_error t b ≡ Some e

ambiguous : (x : Bool) (e : RefusalCode) → url_refusal (if_ambiguous x) ≡ Some e → (e ≡ AmbigContext) × (x ≡ true)
ambiguous true e h = (sym (one_value AmbigContext e h), refl)
ambiguous false e h = absurd (none_some e h)

colon-by : (s : Parts) (c : UrlClass) (e : RefusalCode) → url_refusal (parts_error s c) ≡ Some e
    → (e ≡ AmbigContext) × (c ≡ url_class.Colon) × IsAmbiguous s
colon-by s url_class.Colon e h = let i = ambiguous (s.openhole || spells_apart s.opened) e h in (i.0, refl, i.1)
colon-by s _ e h = absurd (none_some e h)

url-refused : (s : Parts) (b : ℕ) (e : RefusalCode) → style_url_error s b ≡ Some e → UrlRefused s b e
url-refused s b e h =
    let d = colon-by s (url_class_of b) e h in
    record {
      is = d.0;
      colon = d.1;
      there = d.2;
      refuses = λ t k. ap (λ (c : UrlClass). url_refusal (parts_error t c)) d.1 ∙ ap (λ (x : Bool). url_refusal (if_ambiguous x)) k
          ∙ ap Some (sym d.0);
    }

url-error-code : (s : Parts) (b : ℕ) (e : RefusalCode) → style_url_error s b ≡ Some e → NotHtml (style_code e)
url-error-code s b e h = subst (λ (z : RefusalCode). NotHtml (style_code z)) (sym (url-refused s b e h).is) tt

bare-code : (s : Parts) (c : StyleClass) (b : ℕ) (e : RefusalCode) → style_bare_error (style_url_error s b) c ≡ Some e → NotHtml (style_code e)
bare-code s class.Blank b e h = absurd (none_some e h)
bare-code s class.Newline b e h = absurd (none_some e h)
bare-code s class.RightParenthesis b e h = absurd (none_some e h)
bare-code s class.QuotationMark b e h = same-code BadString e h tt
bare-code s class.Apostrophe b e h = same-code BadString e h tt
bare-code s class.LeftParenthesis b e h = same-code BadString e h tt
bare-code s class.ReverseSolidus b e h = same-code BadString e h tt
bare-code s _ b e h = url-error-code s b e h

fresh-code : (s : Parts) (c : StyleClass) (b : ℕ) (e : RefusalCode) → style_fresh_error (style_url_error s b) c ≡ Some e → NotHtml (style_code e)
fresh-code s class.QuotationMark b e h = absurd (none_some e h)
fresh-code s class.Apostrophe b e h = absurd (none_some e h)
fresh-code s c b e h = bare-code s c b e h

-- where all paths are in one state
only-byte : (n : StyleScan) (c : StyleClass) (b : ℕ) (e : RefusalCode) → ((k : StyleScan) → StyleScanBelow k n → n ≡ k)
    → style_byte_shows n c (style_code e) ≡ one member.Whole → NotHtml (style_code e) → style_scan_error n c b ≡ Some e → ByteShown n c b e
only-byte n c b e only i j h =
    byte_one member.Whole i tt refl (λ k l o. subst (λ (z : StyleScan). style_scan_error z c b ≡ Some e) (only k l) h) j

-- what would go on with what some path ended in
tails-byte : (x : CssTails) (c : StyleClass) (b : ℕ) (e : RefusalCode) (y : Member) → style_tails_show c ≡ y → IsShower y
    → style_scan_has (ScanCode x) y ≡ true
    → e ≡ SplitToken → ((z : CssTails) → style_scan_has (ScanCode z) y ≡ true → style_tails_error z c ≡ Some SplitToken)
    → ((is_whole y || false) ≡ true → ⊥) → ByteShown (ScanCode x) c b e
tails-byte x c b e y i j h is f g =
    byte_one y (ap one i) j h
    (λ k l. below-cases (λ (k : StyleScan). style_scan_has k y ≡ true → style_scan_error k c b ≡ Some e) k (ScanCode x) l
    (λ z m o. f z o ∙ ap Some (sym is), λ w m o. absurd (g o))) (subst (λ (z : RefusalCode). NotHtml (style_code z)) (sym is) tt)

code-byte : (x : CssTails) (c : StyleClass) (b : ℕ) (e : RefusalCode) → style_tails_error x c ≡ Some e → ByteShown (ScanCode x) c b e
code-byte x class.Asterisk b e h =
    let s = split-some x.slash e h in tails-byte x class.Asterisk b e member.CssSlash refl tt s.0 s.1 (λ z o. ap split_if o) (λ o. no o)
code-byte x class.Solidus b e h =
    let s = split-some x.lt e h in tails-byte x class.Solidus b e member.CssLt refl tt s.0 s.1 (λ z o. ap split_if o) (λ o. no o)
code-byte x class.LeftParenthesis b e h =
    let s = split-some x.word e h in tails-byte x class.LeftParenthesis b e member.CssWord refl tt s.0 s.1 (λ z o. ap split_if o) (λ o. no o)
code-byte x _ b e h = absurd (none_some e h)

escape-byte : (z : StyleEscape) (c : StyleClass) (b : ℕ) (e : RefusalCode) → refuses_split z c ≡ Some e → ByteShown (ScanSplitEscape z) c b e
escape-byte z c b e h =
    byte_one member.CssWord refl tt refl
    (λ k l. below-cases (λ (k : StyleScan). style_scan_has k member.CssWord ≡ true → style_scan_error k c b ≡ Some e) k (ScanSplitEscape z) l
    (λ o. h, λ w m o. absurd (no o))) (escape-code z c e h)

star-byte : (c : StyleClass) (b : ℕ) (e : RefusalCode) → refuses_solidus c ≡ Some e → ByteShown ScanStarBefore c b e
star-byte c b e h =
    byte_one member.CssStar refl tt refl
    (λ k l. below-cases (λ (k : StyleScan). style_scan_has k member.CssStar ≡ true → style_scan_error k c b ≡ Some e) k ScanStarBefore l
    (λ o. h, λ o. absurd (no o))) (solidus-code c e h)

-- In a URL: the parts of what is below, and what it refuses.
record BelowUrl (k : StyleScan) (c : StyleClass) (b : ℕ) : Type 0 where
  parts : Parts
  is : style_scan_parts k ≡ Some parts
  error : style_scan_error k c b ≡ style_url_error parts b
  hole : style_scan_has k member.PartOpenhole ≡ true → parts.openhole ≡ true

neither : (x y : Bool) → x ≡ false → y ≡ false → (x || y) ≡ true → ⊥
neither false y i j h = no (sym j ∙ h)
neither true y i j h = no (sym i)

url-by : (n : StyleScan) (s : Parts) (c : StyleClass) (b : ℕ) (e : RefusalCode) (x y : Bool) → s.openhole ≡ x → spells_apart s.opened ≡ y
    → style_scan_parts n ≡ Some s → style_byte_shows n c (style_code e) ≡ style_url_shows s (style_code e)
    → (s.openhole ≡ true → style_scan_has n member.PartOpenhole ≡ true) → ((k : StyleScan) → StyleScanBelow k n → BelowUrl k c b) → UrlRefused s b e
    → ByteShown n c b e
url-by n s c b e true y i j p q has below u =
    byte_one member.PartOpenhole
    (q ∙ ap (λ (z : RefusalCode). style_url_shows s (style_code z)) u.is
    ∙ ap (λ (z : Bool). if z then one member.PartOpenhole else (if spells_apart s.opened then apart else two member.PartStart member.PartOpen)) i)
    tt (has i)
    (λ k l o. let m = below k l in m.error ∙ u.refuses m.parts (or-first m.parts.openhole (spells_apart m.parts.opened) (m.hole o)))
    (subst (λ (z : RefusalCode). NotHtml (style_code z)) (sym u.is) tt)
url-by n s c b e false true i j p q has below u =
    byte_apart
    (q ∙ ap (λ (z : RefusalCode). style_url_shows s (style_code z)) u.is
    ∙ ap (λ (z : Bool). if z then one member.PartOpenhole else (if spells_apart s.opened then apart else two member.PartStart member.PartOpen)) i
    ∙ ap (λ (z : Bool). if z then apart else two member.PartStart member.PartOpen) j) (ap is_apart p ∙ j) u.colon u.is
    (λ k l o. let m = below k l in m.error ∙ u.refuses m.parts
    (or-behind m.parts.openhole (spells_apart m.parts.opened) (sym (ap is_apart m.is) ∙ o)))
url-by n s c b e false false i j p q has below u = absurd (neither s.openhole (spells_apart s.opened) i j u.there)

url-byte : (n : StyleScan) (s : Parts) (c : StyleClass) (b : ℕ) (e : RefusalCode) → style_scan_parts n ≡ Some s
    → style_byte_shows n c (style_code e) ≡ style_url_shows s (style_code e) → (s.openhole ≡ true → style_scan_has n member.PartOpenhole ≡ true)
    → ((k : StyleScan) → StyleScanBelow k n → BelowUrl k c b) → style_url_error s b ≡ Some e → ByteShown n c b e
url-byte n s c b e p q has below h = url-by n s c b e s.openhole (spells_apart s.opened) refl refl p q has below (url-refused s b e h)

-- whatever its parts are
string-shows : (s : Parts) (e : RefusalCode) → Some BadString ≡ Some e → style_url_shows s (style_code e) ≡ one member.Whole
string-shows s e h = ap (λ (z : RefusalCode). style_url_shows s (style_code z)) (sym (one_value BadString e h))

bare-always : (s : Parts) (t : Triple) (c : StyleClass) (b : ℕ) (e : RefusalCode) → Some BadString ≡ Some e
    → ((r : Parts) → style_scan_error (ScanBareUrl r t) c b ≡ Some BadString) → ByteShown (ScanBareUrl s t) c b e
bare-always s t c b e h f =
    byte_one member.Whole (string-shows s e h) tt refl
    (λ k l o. below-cases (λ (k : StyleScan). style_scan_error k c b ≡ Some e) k (ScanBareUrl s t) l (λ r j. f r ∙ h)) (same-code BadString e h tt)

quoted-always : (q : Quote) (z : StyleEscape) (s : Parts) (t : Triple) (c : StyleClass) (b : ℕ) (e : RefusalCode) → Some BadString ≡ Some e
    → ((r : Parts) → style_scan_error (ScanQuotedUrl q z r t) c b ≡ Some BadString) → ByteShown (ScanQuotedUrl q z s t) c b e
quoted-always q z s t c b e h f =
    byte_one member.Whole (string-shows s e h) tt refl
    (λ k l o. below-cases (λ (k : StyleScan). style_scan_error k c b ≡ Some e) k (ScanQuotedUrl q z s t) l (λ r j. f r ∙ h))
    (same-code BadString e h tt)

bare-fed : (s : Parts) (t : Triple) (c : StyleClass) (b : ℕ) (e : RefusalCode)
    → ((r : Parts) → style_scan_error (ScanBareUrl r t) c b ≡ style_url_error r b)
    → style_url_error s b ≡ Some e → ByteShown (ScanBareUrl s t) c b e
bare-fed s t c b e f h =
    url-byte (ScanBareUrl s t) s c b e refl refl (λ o. o)
    (λ k l. below-cases (λ (k : StyleScan). BelowUrl k c b) k (ScanBareUrl s t) l
    (λ r j. record { parts = r; is = refl; error = f r; hole = λ o. o })) h

quoted-fed : (q : Quote) (z : StyleEscape) (s : Parts) (t : Triple) (c : StyleClass) (b : ℕ) (e : RefusalCode)
    → ((r : Parts) → style_scan_error (ScanQuotedUrl q z r t) c b ≡ style_url_error r b) → style_url_error s b ≡ Some e
    → ByteShown (ScanQuotedUrl q z s t) c b e
quoted-fed q z s t c b e f h =
    url-byte (ScanQuotedUrl q z s t) s c b e refl refl (λ o. o)
    (λ k l. below-cases (λ (k : StyleScan). BelowUrl k c b) k (ScanQuotedUrl q z s t) l
    (λ r j. record { parts = r; is = refl; error = f r; hole = λ o. o })) h

bare-byte : (s : Parts) (t : Triple) (c : StyleClass) (b : ℕ) (e : RefusalCode) → style_bare_error (style_url_error s b) c ≡ Some e
    → ByteShown (ScanBareUrl s t) c b e
bare-byte s t class.Blank b e h = absurd (none_some e h)
bare-byte s t class.Newline b e h = absurd (none_some e h)
bare-byte s t class.RightParenthesis b e h = absurd (none_some e h)
bare-byte s t class.QuotationMark b e h = bare-always s t class.QuotationMark b e h (λ r. refl)
bare-byte s t class.Apostrophe b e h = bare-always s t class.Apostrophe b e h (λ r. refl)
bare-byte s t class.LeftParenthesis b e h = bare-always s t class.LeftParenthesis b e h (λ r. refl)
bare-byte s t class.ReverseSolidus b e h = bare-always s t class.ReverseSolidus b e h (λ r. refl)
bare-byte s t c b e h = bare-fed s t c b e (λ r. refl) h

-- `taken` is whether a backslash takes the byte
by-taken : (q : Quote) (z : StyleEscape) (r : Parts) (c : StyleClass) (b : ℕ) (taken : Bool) → is_taken_in_style z b ≡ taken
    → style_quoted_error (style_url_error r b) (is_taken_in_style z b) q c ≡ style_quoted_error (style_url_error r b) taken q c
by-taken q z r c b taken i = ap (λ (x : Bool). style_quoted_error (style_url_error r b) x q c) i

quoted-byte : (taken : Bool) (q : Quote) (z : StyleEscape) (s : Parts) (t : Triple) (c : StyleClass) (b : ℕ) (e : RefusalCode)
    → is_taken_in_style z b ≡ taken
    → style_quoted_error (style_url_error s b) taken q c ≡ Some e → ByteShown (ScanQuotedUrl q z s t) c b e
quoted-byte true q z s t c b e i h = quoted-fed q z s t c b e (λ r. by-taken q z r c b true i) h
quoted-byte false DoubleQuote z s t class.QuotationMark b e i h = absurd (none_some e h)
quoted-byte false SingleQuote z s t class.Apostrophe b e i h = absurd (none_some e h)
quoted-byte false q z s t class.Newline b e i h = quoted-always q z s t class.Newline b e h (λ r. by-taken q z r class.Newline b false i)
quoted-byte false q z s t c b e i h = quoted-fed q z s t c b e (λ r. by-taken q z r c b false i) h

byte-shown : (n : StyleScan) (c : StyleClass) (b : ℕ) (e : RefusalCode) → style_scan_error n c b ≡ Some e → ByteShown n c b e
byte-shown (ScanCode x) c b e h = code-byte x c b e h
byte-shown (ScanSplitEscape z) c b e h = escape-byte z c b e h
byte-shown ScanStarBefore c b e h = star-byte c b e h
byte-shown (ScanBareUrl s t) c b e h = bare-byte s t c b e h
byte-shown (ScanQuotedUrl q z s t) c b e h = quoted-byte (is_taken_in_style z b) q z s t c b e refl h
byte-shown (ScanString q z) c b e h =
    only-byte (ScanString q z) c b e (λ k i. below-cases (λ (n : StyleScan). ScanString q z ≡ n) k (ScanString q z) i refl) refl
    (string-code (is_taken_in_style z b) c e h) h
byte-shown ScanFresh c b e h =
    only-byte ScanFresh c b e (λ k i. below-cases (λ (n : StyleScan). ScanFresh ≡ n) k ScanFresh i refl) refl
    (fresh-code (parts_of UrlStart) c b e h) h
byte-shown ScanEnded c b e h =
    only-byte ScanEnded c b e (λ k i. below-cases (λ (n : StyleScan). ScanEnded ≡ n) k ScanEnded i refl) refl (ended-code c e h) h
byte-shown _ c b e h = absurd (none_some e h)

-- Several bytes.
abbrev pub BeginsColon : List ℕ → Type 0
BeginsColon [] = ⊥
BeginsColon (b ∷ bs) = url_class_of b ≡ url_class.Colon

pub record FedOne (bytes : List ℕ) (n : StyleScan) (written : Bool) (back : ℕ) (e : PathCause) : Type 0 where
  pub member : Member
  pub is : style_fed_shown bytes n ≡ Some (one member)
  pub shower : IsShower member
  pub there : style_scan_has n member ≡ true
  pub refuses : (k : StyleScan) → StyleScanBelow k n → style_scan_has k member ≡ true → fed_error style_feeding k bytes written back ≡ Some e
  pub code : NotHtml e.code

pub data FedShown (bytes : List ℕ) (n : StyleScan) (written : Bool) (back : ℕ) (e : PathCause) : Type 0 where
  fed_one : FedOne bytes n written back e → FedShown bytes n written back e
  fed_apart : style_fed_shown bytes n ≡ Some apart → is_apart (style_scan_parts n) ≡ true → BeginsColon bytes → e.code ≡ code.AmbigContext
      → ((k : StyleScan) → StyleScanBelow k n → is_apart (style_scan_parts k) ≡ true → fed_error style_feeding k bytes written back ≡ Some e)
      → FedShown bytes n written back e

abbrev Later : Bool → ℕ → ℕ
Later written back = if written then back - 1 else back

-- the first of them is refused
first-is : (b : ℕ) (bs : List ℕ) (n : StyleScan) (x : RefusalCode) (y : EvidenceData) → style_scan_error n (style_class b) b ≡ Some x
    → style_byte_shows n (style_class b) (style_code x) ≡ y → style_fed_shown (b ∷ bs) n ≡ Some y
first-is b bs n x y i j =
    ap (λ (o : Option RefusalCode). first_shown (option_map (style_byte_shows n (style_class b)) (option_map style_code o))
    (style_fed_shown bs (style_scan_next n (style_class b) b))) i
    ∙ ap Some j

first-shows : (b : ℕ) (bs : List ℕ) (n : StyleScan) (written : Bool) (back : ℕ) (e : PathCause) (x : RefusalCode)
    → style_scan_error n (style_class b) b ≡ Some x
    → record { code = style_code x; back = back; shown = back } ≡ e → ByteShown n (style_class b) b x → FedShown (b ∷ bs) n written back e
first-shows b bs n written back e x i is (byte_one y shows shower there refuses code) =
    fed_one (record {
      member = y;
      is = first-is b bs n x (one y) i shows;
      shower = shower;
      there = there;
      refuses = λ k l o. ap (λ (z : Option RefusalCode). first_cause (cause_back back (option_map style_code z))
          (fed_error style_feeding (style_scan_next k (style_class b) b) bs written (Later written back))) (refuses k l o) ∙ ap Some is;
      code = subst (λ (z : PathCause). NotHtml z.code) is code;
    })
first-shows b bs n written back e x i is (byte_apart shows there colon code refuses) =
    fed_apart (first-is b bs n x apart i shows) there colon
    (sym (ap (λ (z : PathCause). z.code) is) ∙ ap style_code code)
    (λ k l o. ap (λ (z : Option RefusalCode). first_cause (cause_back back (option_map style_code z))
    (fed_error style_feeding (style_scan_next k (style_class b) b) bs written (Later written back))) (refuses k l o) ∙ ap Some is)

-- a later one is
later-shows : (b : ℕ) (bs : List ℕ) (n : StyleScan) (written : Bool) (back : ℕ) (e : PathCause) → style_scan_error n (style_class b) b ≡ None
    → FedOne bs (style_scan_next n (style_class b) b) written (Later written back) e → FedOne (b ∷ bs) n written back e
later-shows b bs n written back e i r =
    let kept = kept-step n (style_class b) b r.member r.shower i r.there in
    record {
      member = r.member;
      is = ap (λ (o : Option RefusalCode). first_shown (option_map (style_byte_shows n (style_class b)) (option_map style_code o))
          (style_fed_shown bs (style_scan_next n (style_class b) b))) i ∙ r.is;
      shower = r.shower;
      there = kept.there;
      refuses = λ k l o.
          let grows = styles-grow.scans k n l in
          ap (λ (z : Option RefusalCode). first_cause (cause_back back (option_map style_code z))
          (fed_error style_feeding (style_scan_next k (style_class b) b) bs written (Later written back))) (grows.error (style_class b) b i)
          ∙ r.refuses (style_scan_next k (style_class b) b) (grows.next (style_class b) b i) (kept.leads k l o);
      code = r.code;
    }

-- of bytes of which none is a `:`
not-met : (b : ℕ) (bs : List ℕ) (n : StyleScan) (written : Bool) (back : ℕ) (e : PathCause) → (url_class_of b ≡ url_class.Colon → ⊥)
    → FedShown (b ∷ bs) n written back e → FedOne (b ∷ bs) n written back e
not-met b bs n written back e c (fed_one r) = r
not-met b bs n written back e c (fed_apart is there colon code refuses) = absurd (c colon)

one-by : (b : ℕ) (bs : List ℕ) (n : StyleScan) (written : Bool) (back : ℕ) (e : PathCause) (o : Option RefusalCode)
    → (url_class_of b ≡ url_class.Colon → ⊥)
    → style_scan_error n (style_class b) b ≡ o
    → first_cause (cause_back back (option_map style_code o))
    (fed_error style_feeding (style_scan_next n (style_class b) b) bs written (Later written back)) ≡ Some e
    → (fed_error style_feeding (style_scan_next n (style_class b) b) bs written (Later written back) ≡ Some e
    → FedOne bs (style_scan_next n (style_class b) b) written (Later written back) e) → FedOne (b ∷ bs) n written back e
one-by b bs n written back e (Some x) c i h rest =
    not-met b bs n written back e c
    (first-shows b bs n written back e x i (one_value (record { code = style_code x; back = back; shown = back }) e h)
    (byte-shown n (style_class b) b x i))
one-by b bs n written back e None c i h rest = later-shows b bs n written back e i (rest h)

pub one-fed : (bytes : List ℕ) (n : StyleScan) (written : Bool) (back : ℕ) (e : PathCause) → NoColon bytes
    → fed_error style_feeding n bytes written back ≡ Some e → FedOne bytes n written back e
one-fed [] n written back e c h = absurd (none_some e h)
one-fed (b ∷ bs) n written back e c h =
    one-by b bs n written back e (style_scan_error n (style_class b) b) c.0 refl h
    (λ i. one-fed bs (style_scan_next n (style_class b) b) written (Later written back) e c.1 i)

-- of the bytes of one character
single-by : (b : ℕ) (n : StyleScan) (written : Bool) (back : ℕ) (e : PathCause) (o : Option RefusalCode) → style_scan_error n (style_class b) b ≡ o
    → first_cause (cause_back back (option_map style_code o)) None ≡ Some e → FedShown (b ∷ []) n written back e
single-by b n written back e (Some x) i h =
    first-shows b [] n written back e x i (one_value (record { code = style_code x; back = back; shown = back }) e h)
    (byte-shown n (style_class b) b x i)
single-by b n written back e None i h = absurd (none_some e h)

pub character-fed : (bytes : List ℕ) (n : StyleScan) (written : Bool) (back : ℕ) (e : PathCause) → IsCharacter bytes
    → fed_error style_feeding n bytes written back ≡ Some e → FedShown bytes n written back e
character-fed bytes n written back e (nothing i) h =
    absurd (none_some e (subst (λ (x : List ℕ). fed_error style_feeding n x written back ≡ Some e) i h))
character-fed bytes n written back e (single b i) h =
    subst (λ (x : List ℕ). FedShown x n written back e) (sym i)
    (single-by b n written back e (style_scan_error n (style_class b) b) refl
    (subst (λ (x : List ℕ). fed_error style_feeding n x written back ≡ Some e) i h))
character-fed bytes n written back e (several b bs i l m c) h =
    subst (λ (x : List ℕ). FedShown x n written back e) (sym i)
    (fed_one (one-fed (b ∷ bs) n written back e c (subst (λ (x : List ℕ). fed_error style_feeding n x written back ≡ Some e) i h)))

-- Where nothing is refused nothing is shown.
pub none-fed : (bytes : List ℕ) (n : StyleScan) (written : Bool) (back : ℕ) → fed_error style_feeding n bytes written back ≡ None
    → style_fed_shown bytes n ≡ None
none-fed [] n written back h = refl
none-fed (b ∷ bs) n written back h =
    let next = style_scan_next n (style_class b) b in
    let p = first-caused (cause_back back (style_feeding.refuses n b)) (fed_error style_feeding next bs written (Later written back)) h in
    ap (λ (o : Option Code). first_shown (option_map (style_byte_shows n (style_class b)) o) (style_fed_shown bs next))
    (cause-none back (style_feeding.refuses n b) p.0)
    ∙ none-fed bs next written (Later written back) p.1

-- A cause stands at most that many bytes before the byte at hand.
later-least : (written : Bool) (back : ℕ) → Later written back ≤ back
later-least true back = omega arith
later-least false back = omega arith

back-by : (o : Option Code) (rest : Option PathCause) (written : Bool) (back : ℕ) (e : PathCause) → first_cause (cause_back back o) rest ≡ Some e
    → (rest ≡ Some e → e.back ≤ Later written back) → e.back ≤ back
back-by (Some x) rest written back e h f =
    let is : back ≡ e.back = ap (λ (z : PathCause). z.back) (one_value (record { code = x; back = back; shown = back }) e h) in
    omega (arith, is)
back-by None rest written back e h f = let l = f h in let m = later-least written back in omega (arith, l, m)

pub fed-back : (bytes : List ℕ) (n : StyleScan) (written : Bool) (back : ℕ) (e : PathCause) → fed_error style_feeding n bytes written back ≡ Some e
    → e.back ≤ back
fed-back [] n written back e h = absurd (none_some e h)
fed-back (b ∷ bs) n written back e h =
    let next = style_scan_next n (style_class b) b in
    back-by (style_feeding.refuses n b) (fed_error style_feeding next bs written (Later written back)) written back e h
    (λ i. fed-back bs next written (Later written back) e i)
