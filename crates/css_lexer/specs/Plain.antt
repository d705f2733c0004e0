-- When the bytes of a value are plain in a style: they lie in one string, in one URL, or in words and plain text, and none is one that may
-- not stand there; in a comment there are none, or those of the failsafe; and no escape, no url token and no comment lies partly in them.
use Rattle.std.specs.Prelude.{◌≡◌, ◌⊎◌, ℕ, ◌==◌, ◌||◌, nat_le, Bool, true, false, IsTrue, List, [], ◌∷◌, ⊤}
use Rattle.std.specs.List.{list_any}
use Rattle.css_lexer.specs.Escapes.{NoEscape}
use Rattle.css_lexer.specs.Events.{StyleEvent, RunByte, RunBlank, StringByte, InsideUrl}
use Rattle.css_lexer.specs.Paths.{style_settled, style_emits_settled}
use Rattle.css_lexer.specs.Sanitizers.{style_failsafe}
use Rattle.css_lexer.specs.States.{Outside, Between, AfterLessThan, Word, Comment, InString, UrlForm, Fresh, Bare, Quoted, Style, Out, InUrl}
use Rattle.css_lexer.specs.Steps.{style_reading, read_style}
use Rattle.css_lexer.specs.UrlReading.{UrlReading}

-- Where a run of words and plain text may be open, and no escape is: a page there, before the bytes of a value and behind them. Behind a
-- `/` it is not: the `/` of a value that ends in one would wait for the text behind it, which may begin with a `*`. A `/` before the value
-- is told before it, so that the page is in a run there.
abbrev pub InRun : Outside → Type 0
InRun (Between k) = ⊤
InRun AfterLessThan = ⊤
InRun (Word w NoEscape) = ⊤
InRun s = ⊥

-- The states of a page between which plain bytes may lead. A comment is behind a `*` only where it was before, and there are no bytes.
abbrev pub LeadsPlainOutside : Outside → Outside → Type 0
LeadsPlainOutside (InString q NoEscape) s = s ≡ InString q NoEscape
LeadsPlainOutside (Comment star) s = (s ≡ Comment false) ⊎ (s ≡ Comment star)
LeadsPlainOutside s r = InRun s × InRun r

-- a URL may begin with the value; without bytes it does not
abbrev pub LeadsPlainForm : UrlForm → UrlForm → Type 0
LeadsPlainForm Fresh g = (g ≡ Fresh) ⊎ (g ≡ Bare)
LeadsPlainForm Bare g = g ≡ Bare
LeadsPlainForm (Quoted q NoEscape) g = g ≡ Quoted q NoEscape
LeadsPlainForm f g = ⊥

abbrev pub StyleLeadsPlain : {U E : Type 0} → UrlReading U E → Style U → Style U → Type 0
StyleLeadsPlain x (Out s) (Out r) = LeadsPlainOutside s r
StyleLeadsPlain x (InUrl f u) (InUrl g w) = LeadsPlainForm f g × x.LeadsPlain u w
StyleLeadsPlain x before after = ⊥

-- nothing was told but bytes of a run, of a string, of a URL; in a comment nothing is told
abbrev pub only_run : {E : Type 0} → List (StyleEvent E) → Bool
only_run [] = true
only_run (RunByte b ∷ t) = only_run t
only_run (RunBlank ∷ t) = only_run t
only_run (_ ∷ t) = false

abbrev pub only_string : {E : Type 0} → List (StyleEvent E) → Bool
only_string [] = true
only_string (StringByte b ∷ t) = only_string t
only_string (_ ∷ t) = false

abbrev pub only_url : {E : Type 0} → List (StyleEvent E) → Bool
only_url [] = true
only_url (InsideUrl e ∷ t) = only_url t
only_url (_ ∷ t) = false

abbrev pub only_nothing : {E : Type 0} → List (StyleEvent E) → Bool
only_nothing [] = true
only_nothing (_ ∷ t) = false

-- what plain bytes may tell where they begin in this state
abbrev pub tells_plain : {U E : Type 0} → Style U → List (StyleEvent E) → Bool
tells_plain (Out (InString q e)) t = only_string t
tells_plain (Out (Comment star)) t = only_nothing t
tells_plain (Out s) t = only_run t
tells_plain (InUrl f u) t = only_url t

-- In a string no byte is a line end: behind a backslash it stands for nothing, and so does the backslash (4.3.5).
abbrev pub is_line_end : ℕ → Bool
is_line_end b = b == 10 || (b == 12 || b == 13)

-- In code no byte is a `*`: a comment tells a blank, as white space does, and after a hole without bytes the page does not know any more
-- whether a `/` stands before it.
abbrev pub is_asterisk : ℕ → Bool
is_asterisk b = b == 42

-- A comment tells nothing, so that its bytes are named: a value there is dropped, and in an attribute without quotes it is the failsafe.
abbrev pub MayBePlainOutside : List ℕ → Outside → Type 0
MayBePlainOutside bytes (InString q e) = list_any is_line_end bytes ≡ false
MayBePlainOutside bytes (Comment star) = (bytes ≡ []) ⊎ (bytes ≡ style_failsafe)
MayBePlainOutside bytes s = list_any is_asterisk bytes ≡ false

-- In a URL no byte is white space, a control byte or a backslash, whether or not it has quotes. Without quotes white space ends it or stands
-- before it, and a control byte makes it a bad url (4.3.6), so that a URL has begun behind any bytes. In quotes a line end does so. In both
-- a backslash begins an escape, and CSS reads another URL than its language does: `javascript:` in `\6a avascript\3a`.
abbrev pub is_excluded_from_url : ℕ → Bool
is_excluded_from_url b = nat_le b 32 || (b == 92 || b == 127)

abbrev pub MayStandInUrl : List ℕ → Type 0
MayStandInUrl bytes = list_any is_excluded_from_url bytes ≡ false

-- In a URL its language may ask more of the bytes.
abbrev pub MayBePlain : {U E : Type 0} → UrlReading U E → List ℕ → Style U → Type 0
MayBePlain x bytes (Out s) = MayBePlainOutside bytes s
MayBePlain x bytes (InUrl f u) = MayStandInUrl bytes × x.MayBePlain u bytes

-- No token of what stands before lies partly in the bytes: they are read alike before and after a `/` is told. No bytes are read alike
-- anyway: the `/` stays one, since no bytes of another hole begin with a `*` (`MayBePlain`), and text that does is refused.
abbrev pub BeginsApart : {U E : Type 0} → UrlReading U E → List ℕ → Style U → Type 0
BeginsApart x [] s = ⊤
BeginsApart {U} {E} x (b ∷ bs) s = read_style x (b ∷ bs) (style_reading s []) ≡ read_style x (b ∷ bs) (style_reading (style_settled s) (style_emits_settled s []))

-- These bytes are plain for a page in this state.
pub record IsPlainInStyle {U E : Type 0} (x : UrlReading U E) (bytes : List ℕ) (s : Style U) : Type 0 where
  pub apart : BeginsApart x bytes s
  pub leads : StyleLeadsPlain x (style_settled s) (read_style x bytes (style_reading (style_settled s) [])).at
  pub allowed : MayBePlain x bytes s
  pub tells : IsTrue (tells_plain (style_settled s) (read_style x bytes (style_reading (style_settled s) [])).told)
