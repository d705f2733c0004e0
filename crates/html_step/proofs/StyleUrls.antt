-- The URL in which a style is, byte by byte: its parts are those behind the same bytes of a URL, as long as it goes on. Else it has ended, and there is
-- none, or one that has begun since, in whose beginning no two paths have spelled different things.
use Rattle.std.proofs.Common.{◌≡◌, ℕ, suc, Bool, true, false, List, [], ◌∷◌, Option, Some, None, is_some, if◌then◌else◌, refl, sym, ap, ◌∙◌, subst, ◌⊎◌, inl, inr}
use Rattle.css_lexer.specs.Classes.{style_class}
use Rattle.css_lexer.specs.Escapes.{StyleEscape, NoEscape, AfterBackslash, HexDigits, AfterReturn, behind_byte, behind_taken, behind_taken_in_string, is_taken_in_style}
use Rattle.css_lexer.specs.States.{Quote, DoubleQuote, SingleQuote, UrlWord, SpellsUrl}
use Rattle.css_lexer.specs.declared.class.StyleClass.{StyleClass}
use Rattle.css_lexer.specs.declared.class.StyleClass.TheVariants as class
use Rattle.css_step.specs.StyleOrigins.{style_scan_parts}
use Rattle.css_step.specs.StyleScans.{StyleScan, ScanCode, ScanWord, ScanSplitEscape, ScanSolidus, ScanLessThan, ScanComment, ScanStarBefore, ScanString, ScanFresh, ScanBareUrl, ScanQuotedUrl, ScanEnded, style_bare_next, style_between_next, style_code_next, style_comment_next, style_ended_next, style_fresh_next, style_quoted_next, style_scan_next, style_scan_place, style_solidus_next, style_split_next, style_split_word, style_string_next, style_word_next}
use Rattle.css_step.specs.StyleSetLaws.{StyleScanBelow, below_itself, below_tails, below_split_word, below_star, below_bare, below_quoted}
use Rattle.place_core.proofs.JoinParts.{css_partial}
use Rattle.place_core.proofs.Semilattices.{none_some, one_value}
use Rattle.place_core.specs.page.Tags.{feed_bytes}
use Rattle.place_core.specs.place.ApartPlaces.{beginning_in_css}
use Rattle.place_core.specs.place.LanguagePlaces.{both_parts}
use Rattle.place_core.specs.place.UrlParts.{parts_of, placed_prefix}
use Rattle.place_core.specs.declared.css.Css.TheVariants as css
use Rattle.place_core.specs.declared.parts.Parts.{Parts}
use Rattle.html_scan.specs.Scans.{parts_feeding, style_feeding}
use Rattle.html_step.specs.Origins.{is_apart}
use Rattle.url_lexer.specs.Classes.{url_class_of}
use Rattle.url_lexer.specs.Parts.{UrlPart, UrlStart, UrlOpen, UrlOpenhole, UrlPrequery, UrlQuery, UrlBad, next_part, part_behind_scheme}
use Rattle.url_lexer.specs.Prefixes.{is_whole_word, longer, next_prefix, prefix_with_letter}
use Rattle.url_lexer.specs.Prefixes as spelling
use Rattle.url_lexer.specs.Triples.{Triple, NoTriple, next_triple}
use Rattle.url_lexer.specs.declared.class.UrlClass.{UrlClass}
use Rattle.url_lexer.specs.declared.class.UrlClass.TheVariants as url_class
use Rattle.url_step.proofs.OnePath.{one-next}
use Rattle.url_step.specs.PartSets.{PartsBelow, parts_next, spells_apart}

no : false ≡ true → ⊥
no e = cc

-- What one path has spelled of the beginning of a URL is known.
abbrev pub IsKnown : spelling.Prefix → Type 0
IsKnown spelling.Differs = ⊥
IsKnown p = Unit {0}

abbrev pub IsKnownPart : UrlPart → Type 0
IsKnownPart (UrlOpen p) = IsKnown p
IsKnownPart p = Unit {0}

longer-known : (x : Bool) (p : spelling.Prefix) → IsKnown p → IsKnown (longer x p)
longer-known true p k = k
longer-known false p k = tt

letter-known : (p : spelling.Prefix) (b : ℕ) → IsKnown p → IsKnown (prefix_with_letter p b)
letter-known spelling.Off b k = tt
letter-known (spelling.Javascript n) b k = longer-known _ (spelling.Javascript (suc n)) tt
letter-known (spelling.Vbscript n) b k = longer-known _ (spelling.Vbscript (suc n)) tt
letter-known (spelling.DataScheme n) b k = longer-known _ (spelling.DataScheme (suc n)) tt
letter-known spelling.Differs b k = absurd k

prefix-known : (p : spelling.Prefix) (c : UrlClass) (b : ℕ) → IsKnown p → IsKnown (next_prefix p c b)
prefix-known p url_class.TabOrNewline b k = k
prefix-known p _ b k = letter-known p b k

first-by : (x y z : Bool) → IsKnown (if x then spelling.Javascript 1 else (if y then spelling.Vbscript 1 else (if z then spelling.DataScheme 1 else spelling.Off)))
first-by true y z = tt
first-by false true z = tt
first-by false false true = tt
first-by false false false = tt

behind-known : (x : Bool) → IsKnownPart (part_behind_scheme x)
behind-known true = tt
behind-known false = tt

start-known : (c : UrlClass) (b : ℕ) → IsKnownPart (next_part UrlStart c b)
start-known url_class.TabOrNewline b = tt
start-known url_class.ControlOrSpace b = tt
start-known url_class.Colon b = tt
start-known url_class.Slash b = tt
start-known url_class.QueryMark b = tt
start-known _ b = first-by _ _ _

open-known : (p : spelling.Prefix) (c : UrlClass) (b : ℕ) → IsKnown p → IsKnownPart (next_part (UrlOpen p) c b)
open-known p url_class.Colon b k = behind-known (is_whole_word p)
open-known p url_class.Slash b k = tt
open-known p url_class.QueryMark b k = tt
open-known p url_class.TabOrNewline b k = k
open-known p _ b k = letter-known p b k

openhole-known : (c : UrlClass) (b : ℕ) → IsKnownPart (next_part UrlOpenhole c b)
openhole-known url_class.Slash b = tt
openhole-known url_class.QueryMark b = tt
openhole-known _ b = tt

prequery-known : (c : UrlClass) (b : ℕ) → IsKnownPart (next_part UrlPrequery c b)
prequery-known url_class.QueryMark b = tt
prequery-known _ b = tt

part-known : (p : UrlPart) (c : UrlClass) (b : ℕ) → IsKnownPart p → IsKnownPart (next_part p c b)
part-known UrlStart c b k = start-known c b
part-known (UrlOpen p) c b k = open-known p c b k
part-known UrlOpenhole c b k = openhole-known c b
part-known UrlPrequery c b k = prequery-known c b
part-known UrlQuery c b k = tt
part-known UrlBad c b k = tt

placed-known : (p : spelling.Prefix) → IsKnown p → spells_apart (Some (placed_prefix p)) ≡ false
placed-known spelling.Off k = refl
placed-known (spelling.Javascript n) k = refl
placed-known (spelling.Vbscript n) k = refl
placed-known (spelling.DataScheme n) k = refl
placed-known spelling.Differs k = absurd k

known-whole : (p : UrlPart) → IsKnownPart p → spells_apart (parts_of p).opened ≡ false
known-whole UrlStart k = refl
known-whole (UrlOpen p) k = placed-known p k
known-whole UrlOpenhole k = refl
known-whole UrlPrequery k = refl
known-whole UrlQuery k = refl
known-whole UrlBad k = refl

-- Where a style is in no URL, or in one that has begun since.
pub data KnownUrl (n : StyleScan) : Type 0 where
  known_none : style_scan_parts n ≡ None → KnownUrl n
  known_part : (p : UrlPart) → style_scan_parts n ≡ Some (parts_of p) → IsKnownPart p → KnownUrl n

pub known-unmet : (n : StyleScan) → KnownUrl n → is_apart (style_scan_parts n) ≡ false
known-unmet n (known_none h) = ap is_apart h
known-unmet n (known_part p h k) = ap is_apart h ∙ known-whole p k

between-none : (c : StyleClass) (b : ℕ) → style_scan_parts (style_between_next c b) ≡ None
between-none class.WordByte b = refl
between-none class.ReverseSolidus b = refl
between-none class.QuotationMark b = refl
between-none class.Apostrophe b = refl
between-none class.Solidus b = refl
between-none class.LessThan b = refl
between-none _ b = refl

pub split-none : (e : StyleEscape) → style_scan_parts (style_split_word e) ≡ None
split-none NoEscape = refl
split-none AfterBackslash = refl
split-none (HexDigits n) = refl
split-none AfterReturn = refl

split-next-none : (e : StyleEscape) (c : StyleClass) (b : ℕ) → style_scan_parts (style_split_next e c b) ≡ None
split-next-none AfterBackslash c b = split-none (behind_taken b)
split-next-none e class.WordByte b = split-none (behind_byte e b)
split-next-none e class.ReverseSolidus b = refl
split-next-none e c b = between-none c b

code-none : (word : Bool) (c : StyleClass) (b : ℕ) → style_scan_parts (style_code_next word c b) ≡ None
code-none true c b = split-next-none NoEscape c b
code-none false c b = between-none c b

word-none : (w : UrlWord) (e : StyleEscape) (c : StyleClass) (b : ℕ) → style_scan_parts (style_word_next w e c b) ≡ None
word-none w AfterBackslash c b = refl
word-none w e class.WordByte b = refl
word-none w e class.ReverseSolidus b = refl
word-none SpellsUrl e class.LeftParenthesis b = refl
word-none w e c b = between-none c b

solidus-none : (c : StyleClass) (b : ℕ) → style_scan_parts (style_solidus_next c b) ≡ None
solidus-none class.Asterisk b = refl
solidus-none c b = between-none c b

comment-none : (star : Bool) (c : StyleClass) → style_scan_parts (style_comment_next star c) ≡ None
comment-none true class.Solidus = refl
comment-none star class.Asterisk = refl
comment-none star c = refl

string-none : (taken : Bool) (q : Quote) (e : StyleEscape) (c : StyleClass) (b : ℕ) → style_scan_parts (style_string_next taken q e c b) ≡ None
string-none true q e c b = refl
string-none false DoubleQuote e class.QuotationMark b = refl
string-none false SingleQuote e class.Apostrophe b = refl
string-none false q e class.ReverseSolidus b = refl
string-none false q e c b = refl

ended-none : (c : StyleClass) → style_scan_parts (style_ended_next c) ≡ None
ended-none class.RightParenthesis = refl
ended-none c = refl

behind-part : (p : UrlPart) (b : ℕ) → Some (parts_next (parts_of p) (url_class_of b) b) ≡ Some (parts_of (next_part p (url_class_of b) b))
behind-part p b = ap Some (one-next p (url_class_of b) b)

bare-known : (p : UrlPart) (t : Triple) (c : StyleClass) (b : ℕ) → IsKnownPart p → KnownUrl (style_bare_next (parts_of p) t c b)
bare-known p t class.Blank b k = known_none refl
bare-known p t class.Newline b k = known_none refl
bare-known p t class.RightParenthesis b k = known_none refl
bare-known p t _ b k = known_part (next_part p (url_class_of b) b) (behind-part p b) (part-known p (url_class_of b) b k)

quoted-known : (taken : Bool) (q : Quote) (e : StyleEscape) (p : UrlPart) (t : Triple) (c : StyleClass) (b : ℕ) → IsKnownPart p
    → KnownUrl (style_quoted_next taken q e (parts_of p) t c b)
quoted-known true q e p t c b k = known_part (next_part p (url_class_of b) b) (behind-part p b) (part-known p (url_class_of b) b k)
quoted-known false DoubleQuote e p t class.QuotationMark b k = known_none refl
quoted-known false SingleQuote e p t class.Apostrophe b k = known_none refl
quoted-known false q e p t class.ReverseSolidus b k = known_part (next_part p (url_class_of b) b) (behind-part p b) (part-known p (url_class_of b) b k)
quoted-known false q e p t c b k = known_part (next_part p (url_class_of b) b) (behind-part p b) (part-known p (url_class_of b) b k)

fresh-known : (c : StyleClass) (b : ℕ) → KnownUrl (style_fresh_next c b)
fresh-known class.Blank b = known_none refl
fresh-known class.Newline b = known_none refl
fresh-known class.QuotationMark b = known_part UrlStart refl tt
fresh-known class.Apostrophe b = known_part UrlStart refl tt
fresh-known c b = bare-known UrlStart NoTriple c b tt

none-next : (n : StyleScan) (c : StyleClass) (b : ℕ) → style_scan_parts n ≡ None → KnownUrl (style_scan_next n c b)
none-next (ScanCode x) c b h = known_none (code-none x.word c b)
none-next (ScanWord w e) c b h = known_none (word-none w e c b)
none-next (ScanSplitEscape e) c b h = known_none (split-next-none e c b)
none-next ScanSolidus c b h = known_none (solidus-none c b)
none-next ScanLessThan c b h = known_none (between-none c b)
none-next (ScanComment star) c b h = known_none (comment-none star c)
none-next ScanStarBefore c b h = known_none (comment-none true c)
none-next (ScanString q e) c b h = known_none (string-none (is_taken_in_style e b) q e c b)
none-next ScanFresh c b h = fresh-known c b
none-next (ScanBareUrl s t) c b h = absurd (none_some s (sym h))
none-next (ScanQuotedUrl q e s t) c b h = absurd (none_some s (sym h))
none-next ScanEnded c b h = known_none (ended-none c)

part-next : (n : StyleScan) (p : UrlPart) (c : StyleClass) (b : ℕ) → style_scan_parts n ≡ Some (parts_of p) → IsKnownPart p → KnownUrl (style_scan_next n c b)
part-next (ScanBareUrl s t) p c b h k =
    subst (λ (z : Parts). KnownUrl (style_bare_next z t c b)) (sym (one_value s (parts_of p) h)) (bare-known p t c b k)
part-next (ScanQuotedUrl q e s t) p c b h k =
    subst (λ (z : Parts). KnownUrl (style_quoted_next (is_taken_in_style e b) q e z t c b)) (sym (one_value s (parts_of p) h))
    (quoted-known (is_taken_in_style e b) q e p t c b k)
part-next n p c b h k = absurd (none_some (parts_of p) h)

known-next : (n : StyleScan) (c : StyleClass) (b : ℕ) → KnownUrl n → KnownUrl (style_scan_next n c b)
known-next n c b (known_none h) = none-next n c b h
known-next n c b (known_part p h k) = part-next n p c b h k

pub known-fed : (bytes : List ℕ) (n : StyleScan) → KnownUrl n → KnownUrl (feed_bytes style_feeding n bytes)
known-fed [] n k = k
known-fed (b ∷ bs) n k = known-fed bs (style_scan_next n (style_class b) b) (known-next n (style_class b) b k)

-- The URL goes on with these bytes.
abbrev pub StaysInUrl : StyleScan → List ℕ → Type 0
StaysInUrl n [] = Unit {0}
StaysInUrl n (b ∷ bs) = (is_some (style_scan_parts (style_scan_next n (style_class b) b)) ≡ true) × StaysInUrl (style_scan_next n (style_class b) b) bs

stay-bare : (s y : Parts) (t : Triple) (c : StyleClass) (b : ℕ) → style_scan_parts (style_bare_next s t c b) ≡ Some y → y ≡ parts_next s (url_class_of b) b
stay-bare s y t class.Blank b h = absurd (none_some y h)
stay-bare s y t class.Newline b h = absurd (none_some y h)
stay-bare s y t class.RightParenthesis b h = absurd (none_some y h)
stay-bare s y t _ b h = sym (one_value (parts_next s (url_class_of b) b) y h)

stay-quoted : (taken : Bool) (q : Quote) (e : StyleEscape) (s y : Parts) (t : Triple) (c : StyleClass) (b : ℕ)
    → style_scan_parts (style_quoted_next taken q e s t c b) ≡ Some y → y ≡ parts_next s (url_class_of b) b
stay-quoted true q e s y t c b h = sym (one_value (parts_next s (url_class_of b) b) y h)
stay-quoted false DoubleQuote e s y t class.QuotationMark b h = absurd (none_some y h)
stay-quoted false SingleQuote e s y t class.Apostrophe b h = absurd (none_some y h)
stay-quoted false q e s y t class.ReverseSolidus b h = sym (one_value (parts_next s (url_class_of b) b) y h)
stay-quoted false q e s y t c b h = sym (one_value (parts_next s (url_class_of b) b) y h)

stay : (n : StyleScan) (s y : Parts) (c : StyleClass) (b : ℕ) → style_scan_parts n ≡ Some s → style_scan_parts (style_scan_next n c b) ≡ Some y
    → y ≡ parts_next s (url_class_of b) b
stay (ScanBareUrl r t) s y c b h k = stay-bare r y t c b k ∙ ap (λ (z : Parts). parts_next z (url_class_of b) b) (one_value r s h)
stay (ScanQuotedUrl q e r t) s y c b h k =
    stay-quoted (is_taken_in_style e b) q e r y t c b k ∙ ap (λ (z : Parts). parts_next z (url_class_of b) b) (one_value r s h)
stay n s y c b h k = absurd (none_some s h)

some-of : (o : Option Parts) → is_some o ≡ true → (x : Parts) × (o ≡ Some x)
some-of (Some x) h = (x, refl)
some-of None h = absurd (no h)

pub stays-parts : (bytes : List ℕ) (n : StyleScan) (s : Parts) → style_scan_parts n ≡ Some s → StaysInUrl n bytes
    → style_scan_parts (feed_bytes style_feeding n bytes) ≡ Some (feed_bytes parts_feeding s bytes)
stays-parts [] n s h w = h
stays-parts (b ∷ bs) n s h w =
    let m = style_scan_next n (style_class b) b in
    let x = some-of (style_scan_parts m) w.0 in
    stays-parts bs m (parts_next s (url_class_of b) b) (x.1 ∙ ap Some (stay n s x.0 (style_class b) b h x.1)) w.1

-- The URL goes on, or it has ended.
step-on : (n : StyleScan) (b : ℕ) (bs : List ℕ) → is_some (style_scan_parts (style_scan_next n (style_class b) b)) ≡ true
    → StaysInUrl (style_scan_next n (style_class b) b) bs ⊎ KnownUrl (feed_bytes style_feeding n (b ∷ bs))
    → StaysInUrl n (b ∷ bs) ⊎ KnownUrl (feed_bytes style_feeding n (b ∷ bs))
step-on n b bs k (inl w) = inl (k, w)
step-on n b bs k (inr w) = inr w

feeds-by : (n : StyleScan) (b : ℕ) (bs : List ℕ) (o : Option Parts) → style_scan_parts (style_scan_next n (style_class b) b) ≡ o
    → ((y : Parts) → style_scan_parts (style_scan_next n (style_class b) b) ≡ Some y
    → StaysInUrl (style_scan_next n (style_class b) b) bs ⊎ KnownUrl (feed_bytes style_feeding n (b ∷ bs)))
    → StaysInUrl n (b ∷ bs) ⊎ KnownUrl (feed_bytes style_feeding n (b ∷ bs))
feeds-by n b bs (Some y) h f = step-on n b bs (ap is_some h) (f y h)
feeds-by n b bs None h f = inr (known-fed bs (style_scan_next n (style_class b) b) (known_none h))

pub feeds : (bytes : List ℕ) (n : StyleScan) (s : Parts) → style_scan_parts n ≡ Some s → StaysInUrl n bytes ⊎ KnownUrl (feed_bytes style_feeding n bytes)
feeds [] n s h = inl tt
feeds (b ∷ bs) n s h =
    feeds-by n b bs (style_scan_parts (style_scan_next n (style_class b) b)) refl (λ y k. feeds bs (style_scan_next n (style_class b) b) y k)

-- Two scan states in one URL, with other parts: where the one goes on, the other does.
pub data SameUrl : StyleScan → StyleScan → Type 0 where
  same_bare : (s r : Parts) (t : Triple) → SameUrl (ScanBareUrl s t) (ScanBareUrl r t)
  same_quoted : (q : Quote) (e : StyleEscape) (s r : Parts) (t : Triple) → SameUrl (ScanQuotedUrl q e s t) (ScanQuotedUrl q e r t)

same-bare-next : (s r : Parts) (t : Triple) (c : StyleClass) (b : ℕ) → is_some (style_scan_parts (style_bare_next r t c b)) ≡ true
    → SameUrl (style_bare_next s t c b) (style_bare_next r t c b)
same-bare-next s r t class.Blank b k = absurd (no k)
same-bare-next s r t class.Newline b k = absurd (no k)
same-bare-next s r t class.RightParenthesis b k = absurd (no k)
same-bare-next s r t _ b k = same_bare (parts_next s (url_class_of b) b) (parts_next r (url_class_of b) b) (next_triple t (url_class_of b))

same-quoted-next : (taken : Bool) (q : Quote) (e : StyleEscape) (s r : Parts) (t : Triple) (c : StyleClass) (b : ℕ)
    → is_some (style_scan_parts (style_quoted_next taken q e r t c b)) ≡ true → SameUrl (style_quoted_next taken q e s t c b) (style_quoted_next taken q e r t c b)
same-quoted-next true q e s r t c b k =
    same_quoted q (behind_taken_in_string e b) (parts_next s (url_class_of b) b) (parts_next r (url_class_of b) b) (next_triple t (url_class_of b))
same-quoted-next false DoubleQuote e s r t class.QuotationMark b k = absurd (no k)
same-quoted-next false SingleQuote e s r t class.Apostrophe b k = absurd (no k)
same-quoted-next false q e s r t class.ReverseSolidus b k =
    same_quoted q AfterBackslash (parts_next s (url_class_of b) b) (parts_next r (url_class_of b) b) (next_triple t (url_class_of b))
same-quoted-next false q e s r t c b k =
    same_quoted q (behind_byte e b) (parts_next s (url_class_of b) b) (parts_next r (url_class_of b) b) (next_triple t (url_class_of b))

same-next : (n m : StyleScan) (c : StyleClass) (b : ℕ) → SameUrl n m → is_some (style_scan_parts (style_scan_next m c b)) ≡ true
    → SameUrl (style_scan_next n c b) (style_scan_next m c b)
same-next _ _ c b (same_bare s r t) k = same-bare-next s r t c b k
same-next _ _ c b (same_quoted q e s r t) k = same-quoted-next (is_taken_in_style e b) q e s r t c b k

same-some : (n m : StyleScan) → SameUrl n m → is_some (style_scan_parts n) ≡ true
same-some _ _ (same_bare s r t) = refl
same-some _ _ (same_quoted q e s r t) = refl

pub stays-same : (bytes : List ℕ) (n m : StyleScan) → SameUrl n m → StaysInUrl m bytes → StaysInUrl n bytes
stays-same [] n m h w = tt
stays-same (b ∷ bs) n m h w =
    let x = style_scan_next n (style_class b) b in
    let y = style_scan_next m (style_class b) b in
    let k = same-next n m (style_class b) b h w.0 in
    (same-some x y k, stays-same bs x y k w.1)

-- Below a scan state in a URL is one in the same URL.
url-inj : (p q : Parts) → css.Url p ≡ css.Url q → p ≡ q
url-inj p q e = cc

pub parts-itself : (s : Parts) → PartsBelow s s
parts-itself s = url-inj (both_parts s s) s (one_value (css.Url (both_parts s s)) (css.Url s) (css_partial.same (css.Url s)))

pub record InSameUrl (n m : StyleScan) (t s : Parts) : Type 0 where
  pub same : SameUrl n m
  pub parts : PartsBelow t s

itself-in-url : (n : StyleScan) (s : Parts) → style_scan_parts n ≡ Some s → InSameUrl n n s s
itself-in-url (ScanBareUrl r t) s h = record { same = same_bare r r t; parts = parts-itself s }
itself-in-url (ScanQuotedUrl q e r t) s h = record { same = same_quoted q e r r t; parts = parts-itself s }
itself-in-url n s h = absurd (none_some s h)

in-parts : (a r t s : Parts) → PartsBelow a r → Some a ≡ Some t → Some r ≡ Some s → PartsBelow t s
in-parts a r t s h i j = subst (λ (z : Parts). PartsBelow z s) (one_value a t i) (subst (PartsBelow a) (one_value r s j) h)

pub below-in-url : (n m : StyleScan) (s : Parts) → StyleScanBelow n m → style_scan_parts m ≡ Some s → (t : Parts) × (style_scan_parts n ≡ Some t) × InSameUrl n m t s
below-in-url _ _ s (below_itself n) h = (s, h, itself-in-url n s h)
below-in-url _ _ s (below_tails x y e) h = absurd (none_some s h)
below-in-url _ _ s (below_split_word w e) h = absurd (none_some s (sym (split-none e) ∙ h))
below-in-url _ _ s below_star h = absurd (none_some s h)
below-in-url _ _ s (below_bare a r t e) h = (a, refl, record { same = same_bare a r t; parts = in-parts a r a s e refl h })
below-in-url _ _ s (below_quoted q k a r t e) h = (a, refl, record { same = same_quoted q k a r t; parts = in-parts a r a s e refl h })

pub above-in-url : (n m : StyleScan) (t : Parts) → StyleScanBelow n m → style_scan_parts n ≡ Some t → (s : Parts) × (style_scan_parts m ≡ Some s) × InSameUrl n m t s
above-in-url _ _ t (below_itself n) h = (t, h, itself-in-url n t h)
above-in-url _ _ t (below_tails x y e) h = absurd (none_some t h)
above-in-url _ _ t (below_split_word w e) h = absurd (none_some t h)
above-in-url _ _ t below_star h = absurd (none_some t h)
above-in-url _ _ t (below_bare a r k e) h = (r, refl, record { same = same_bare a r k; parts = in-parts a r t r e h refl })
above-in-url _ _ t (below_quoted q k a r x e) h = (r, refl, record { same = same_quoted q k a r x; parts = in-parts a r t r e h refl })

-- what is spelled at the place of a scan state
quoted-opened : (q : Quote) (e : StyleEscape) (s : Parts) (t : Triple) → beginning_in_css (style_scan_place (ScanQuotedUrl q e s t)) ≡ s.opened
quoted-opened DoubleQuote e s t = refl
quoted-opened SingleQuote e s t = refl

pub scan-opened : (n : StyleScan) (s : Parts) → style_scan_parts n ≡ Some s → beginning_in_css (style_scan_place n) ≡ s.opened
scan-opened (ScanBareUrl r t) s h = ap (λ (z : Parts). z.opened) (one_value r s h)
scan-opened (ScanQuotedUrl q e r t) s h = quoted-opened q e r t ∙ ap (λ (z : Parts). z.opened) (one_value r s h)
scan-opened n s h = absurd (none_some s h)

string-spells : (q : Quote) (e : StyleEscape) → spells_apart (beginning_in_css (style_scan_place (ScanString q e))) ≡ false
string-spells DoubleQuote e = refl
string-spells SingleQuote e = refl

pub unmet-spells : (n : StyleScan) → is_apart (style_scan_parts n) ≡ false → spells_apart (beginning_in_css (style_scan_place n)) ≡ false
unmet-spells (ScanBareUrl s t) h = h
unmet-spells (ScanQuotedUrl q e s t) h = ap spells_apart (quoted-opened q e s t) ∙ h
unmet-spells (ScanString q e) h = string-spells q e
unmet-spells n h = refl
