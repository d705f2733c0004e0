-- How a style is read, byte by byte: the state to which a byte leads, and what it tells (CSS Syntax Level 3, section 4.3). A page and the
-- text of a template are read alike; what is refused of a template is said apart.
use Rattle.std.specs.Prelude.{ℕ, ◌==◌, Bool, true, false, List, [], ◌∷◌, if◌then◌else◌}
use Rattle.std.specs.Char.{to_ascii_lowercase}
use Rattle.css_lexer.specs.Classes.{style_class}
use Rattle.css_lexer.specs.Escapes.{StyleEscape, NoEscape, AfterBackslash, behind_taken, behind_taken_in_string, behind_byte, is_taken_in_style}
use Rattle.css_lexer.specs.Events.{StyleEvent, RunByte, RunBlank, PunctuationByte, StringBegins, StringByte, StringEnds, StringBroken, UrlBegins, UrlQuoteBegins, UrlQuoteEnds, UrlEnds, BadUrlBegins, BadUrlByte, BadUrlEnds, told_in_url}
use Rattle.css_lexer.specs.States.{Quote, DoubleQuote, SingleQuote, UrlWord, SpellsU, SpellsUr, SpellsUrl, SpellsOther, Outside, Between, AfterLessThan, Word, AfterSolidus, Comment, InString, BadUrl, BehindHole, SplitWord, SolidusAtCut, LessThanAtCut, StarAtCut, UrlForm, Fresh, Bare, Quoted, Ended, Style, Out, InUrl}
use Rattle.css_lexer.specs.UrlReading.{UrlReading}
use Rattle.css_lexer.specs.declared.class.StyleClass.{StyleClass}
use Rattle.css_lexer.specs.declared.class.StyleClass.TheVariants as class

-- how much of `url` a word is, with its first byte and with a further one
abbrev pub first_letter : ℕ → UrlWord
first_letter b = if to_ascii_lowercase b == 117 then SpellsU else SpellsOther

abbrev pub next_letter : UrlWord → ℕ → UrlWord
next_letter SpellsU b = if to_ascii_lowercase b == 114 then SpellsUr else SpellsOther
next_letter SpellsUr b = if to_ascii_lowercase b == 108 then SpellsUrl else SpellsOther
next_letter w b = SpellsOther

-- Between tokens (4.3.1). A word begins with a word byte or an escape; a `/` is not told before it is known to begin no comment.
abbrev pub next_between : {U : Type 0} → Bool → StyleClass → ℕ → Style U
next_between k class.Blank b = Out (Between true)
next_between k class.Newline b = Out (Between true)
next_between k class.WordByte b = Out (Word (first_letter b) NoEscape)
next_between k class.ReverseSolidus b = Out (Word SpellsOther AfterBackslash)
next_between k class.QuotationMark b = Out (InString DoubleQuote NoEscape)
next_between k class.Apostrophe b = Out (InString SingleQuote NoEscape)
next_between k class.Solidus b = Out (AfterSolidus k)
next_between k class.LessThan b = Out AfterLessThan
next_between k c b = Out (Between false)

-- white space and comments side by side are one blank
abbrev pub blank_once : {E : Type 0} → Bool → List (StyleEvent E) → List (StyleEvent E)
blank_once true t = t
blank_once false t = RunBlank ∷ t

abbrev pub emits_between : {E : Type 0} → Bool → StyleClass → ℕ → List (StyleEvent E) → List (StyleEvent E)
emits_between k class.Blank b t = blank_once k t
emits_between k class.Newline b t = blank_once k t
emits_between k class.QuotationMark b t = StringBegins DoubleQuote ∷ t
emits_between k class.Apostrophe b t = StringBegins SingleQuote ∷ t
emits_between k class.LeftParenthesis b t = PunctuationByte b ∷ t
emits_between k class.RightParenthesis b t = PunctuationByte b ∷ t
emits_between k class.Punctuation b t = PunctuationByte b ∷ t
emits_between k class.Solidus b t = t
emits_between k c b t = RunByte b ∷ t

-- In a word (4.3.11), and at its end: `url` and a `(` begin a url token (4.3.4). The byte that a backslash takes is part of the word.
abbrev pub next_style_word : {U E : Type 0} → UrlReading U E → UrlWord → StyleEscape → StyleClass → ℕ → Style U
next_style_word x w AfterBackslash c b = Out (Word SpellsOther (behind_taken b))
next_style_word x w e class.WordByte b = Out (Word (next_letter w b) (behind_byte e b))
next_style_word x w e class.ReverseSolidus b = Out (Word SpellsOther AfterBackslash)
next_style_word x SpellsUrl e class.LeftParenthesis b = InUrl Fresh x.start
next_style_word x w e c b = next_between false c b

abbrev pub emits_word : {E : Type 0} → UrlWord → StyleEscape → StyleClass → ℕ → List (StyleEvent E) → List (StyleEvent E)
emits_word w AfterBackslash c b t = RunByte b ∷ t
emits_word SpellsUrl e class.LeftParenthesis b t = UrlBegins ∷ t
emits_word w e c b t = emits_between false c b t

-- Behind a `/`, which is told unless a comment begins (4.3.2).
abbrev pub next_solidus : {U : Type 0} → StyleClass → ℕ → Style U
next_solidus class.Asterisk b = Out (Comment false)
next_solidus c b = next_between false c b

abbrev pub emits_solidus : {E : Type 0} → Bool → StyleClass → ℕ → List (StyleEvent E) → List (StyleEvent E)
emits_solidus k class.Asterisk b t = blank_once k t
emits_solidus k c b t = emits_between false c b (RunByte 47 ∷ t)

-- In a comment, which tells nothing but the blank at its opening (4.3.2). Behind it a blank is the last that was told.
abbrev pub next_style_comment : {U : Type 0} → Bool → StyleClass → Style U
next_style_comment true class.Solidus = Out (Between true)
next_style_comment star class.Asterisk = Out (Comment true)
next_style_comment star c = Out (Comment false)

-- In a string (4.3.5), where a byte is taken by a backslash or not: its quote ends it, and so does its line.
abbrev pub next_style_string : {U : Type 0} → Bool → Quote → StyleEscape → StyleClass → ℕ → Style U
next_style_string true q e c b = Out (InString q (behind_taken_in_string e b))
next_style_string false DoubleQuote e class.QuotationMark b = Out (Between false)
next_style_string false SingleQuote e class.Apostrophe b = Out (Between false)
next_style_string false q e class.Newline b = Out (Between true)
next_style_string false q e class.ReverseSolidus b = Out (InString q AfterBackslash)
next_style_string false q e c b = Out (InString q (behind_byte e b))

abbrev pub emits_string : {E : Type 0} → Bool → Quote → StyleClass → ℕ → List (StyleEvent E) → List (StyleEvent E)
emits_string true q c b t = StringByte b ∷ t
emits_string false DoubleQuote class.QuotationMark b t = StringEnds ∷ t
emits_string false SingleQuote class.Apostrophe b t = StringEnds ∷ t
emits_string false q class.Newline b t = RunBlank ∷ StringBroken ∷ t
emits_string false q c b t = StringByte b ∷ t

-- Behind `url(` (4.3.6): in a URL without quotes, which no quote and no `(` may stand in; white space and the `)` end it.
abbrev pub next_bare : {U E : Type 0} → UrlReading U E → U → StyleClass → ℕ → Style U
next_bare x u class.Blank b = InUrl Ended u
next_bare x u class.Newline b = InUrl Ended u
next_bare x u class.RightParenthesis b = Out (Between false)
next_bare x u class.QuotationMark b = Out BadUrl
next_bare x u class.Apostrophe b = Out BadUrl
next_bare x u class.LeftParenthesis b = Out BadUrl
next_bare x u c b = InUrl Bare (x.feed u b)

abbrev pub emits_bad : {E : Type 0} → ℕ → List (StyleEvent E) → List (StyleEvent E)
emits_bad b t = BadUrlByte b ∷ BadUrlBegins ∷ t

-- the `)`, with what the URL tells at its end
abbrev pub emits_url_end : {U E : Type 0} → UrlReading U E → U → List (StyleEvent E) → List (StyleEvent E)
emits_url_end x u t = UrlEnds ∷ told_in_url (x.ends u) t

abbrev pub emits_bare : {U E : Type 0} → UrlReading U E → U → StyleClass → ℕ → List (StyleEvent E) → List (StyleEvent E)
emits_bare x u class.Blank b t = t
emits_bare x u class.Newline b t = t
emits_bare x u class.RightParenthesis b t = emits_url_end x u t
emits_bare x u class.QuotationMark b t = emits_bad b t
emits_bare x u class.Apostrophe b t = emits_bad b t
emits_bare x u class.LeftParenthesis b t = emits_bad b t
emits_bare x u c b t = told_in_url (x.emits u b) t

-- before it: white space is passed over, and a quote begins a string
abbrev pub next_fresh : {U E : Type 0} → UrlReading U E → U → StyleClass → ℕ → Style U
next_fresh x u class.Blank b = InUrl Fresh u
next_fresh x u class.Newline b = InUrl Fresh u
next_fresh x u class.QuotationMark b = InUrl (Quoted DoubleQuote NoEscape) u
next_fresh x u class.Apostrophe b = InUrl (Quoted SingleQuote NoEscape) u
next_fresh x u c b = next_bare x u c b

abbrev pub emits_fresh : {U E : Type 0} → UrlReading U E → U → StyleClass → ℕ → List (StyleEvent E) → List (StyleEvent E)
emits_fresh x u class.QuotationMark b t = UrlQuoteBegins DoubleQuote ∷ t
emits_fresh x u class.Apostrophe b t = UrlQuoteBegins SingleQuote ∷ t
emits_fresh x u c b t = emits_bare x u c b t

-- in its quotes, where a byte is taken by a backslash or not; a backslash and what it takes are bytes of the URL
abbrev pub next_quoted : {U E : Type 0} → UrlReading U E → Bool → Quote → StyleEscape → U → StyleClass → ℕ → Style U
next_quoted x true q e u c b = InUrl (Quoted q (behind_taken_in_string e b)) (x.feed u b)
next_quoted x false DoubleQuote e u class.QuotationMark b = InUrl Ended u
next_quoted x false SingleQuote e u class.Apostrophe b = InUrl Ended u
next_quoted x false q e u class.Newline b = Out BadUrl
next_quoted x false q e u class.ReverseSolidus b = InUrl (Quoted q AfterBackslash) (x.feed u b)
next_quoted x false q e u c b = InUrl (Quoted q (behind_byte e b)) (x.feed u b)

abbrev pub emits_quoted : {U E : Type 0} → UrlReading U E → Bool → Quote → U → StyleClass → ℕ → List (StyleEvent E) → List (StyleEvent E)
emits_quoted x true q u c b t = told_in_url (x.emits u b) t
emits_quoted x false DoubleQuote u class.QuotationMark b t = UrlQuoteEnds ∷ t
emits_quoted x false SingleQuote u class.Apostrophe b t = UrlQuoteEnds ∷ t
emits_quoted x false q u class.Newline b t = emits_bad b t
emits_quoted x false q u c b t = told_in_url (x.emits u b) t

-- behind it: white space, and the `)`
abbrev pub next_ended : {U : Type 0} → U → StyleClass → Style U
next_ended u class.Blank = InUrl Ended u
next_ended u class.Newline = InUrl Ended u
next_ended u class.RightParenthesis = Out (Between false)
next_ended u c = Out BadUrl

abbrev pub emits_ended : {U E : Type 0} → UrlReading U E → U → StyleClass → ℕ → List (StyleEvent E) → List (StyleEvent E)
emits_ended x u class.Blank b t = t
emits_ended x u class.Newline b t = t
emits_ended x u class.RightParenthesis b t = emits_url_end x u t
emits_ended x u c b t = emits_bad b t

-- in a url that is none, up to its `)` (4.3.14; here a backslash takes nothing)
abbrev pub next_bad : {U : Type 0} → StyleClass → Style U
next_bad class.RightParenthesis = Out (Between false)
next_bad c = Out BadUrl

abbrev pub emits_bad_byte : {E : Type 0} → StyleClass → ℕ → List (StyleEvent E) → List (StyleEvent E)
emits_bad_byte class.RightParenthesis b t = BadUrlEnds ∷ t
emits_bad_byte c b t = BadUrlByte b ∷ t

-- Of a path, in a word over the end of a node or over a hole: the word goes on, and whether it is `url` is not known. The `(` of a
-- function is refused there.
abbrev pub next_split : {U : Type 0} → StyleEscape → StyleClass → ℕ → Style U
next_split AfterBackslash c b = Out (SplitWord (behind_taken b))
next_split e class.WordByte b = Out (SplitWord (behind_byte e b))
next_split e class.ReverseSolidus b = Out (SplitWord AfterBackslash)
next_split e c b = next_between false c b

abbrev pub emits_split : {E : Type 0} → StyleEscape → StyleClass → ℕ → List (StyleEvent E) → List (StyleEvent E)
emits_split AfterBackslash c b t = RunByte b ∷ t
emits_split e c b t = emits_between false c b t

-- A byte.
abbrev pub next_out : {U E : Type 0} → UrlReading U E → Outside → StyleClass → ℕ → Style U
next_out x (Between k) c b = next_between k c b
next_out x AfterLessThan c b = next_between false c b
next_out x (Word w e) c b = next_style_word x w e c b
next_out x (AfterSolidus k) c b = next_solidus c b
next_out x (Comment star) c b = next_style_comment star c
next_out x (InString q e) c b = next_style_string (is_taken_in_style e b) q e c b
next_out x BadUrl c b = next_bad c
next_out x (BehindHole solidus less) c b = next_split NoEscape c b
next_out x (SplitWord e) c b = next_split e c b
next_out x (SolidusAtCut k) c b = next_solidus c b
next_out x LessThanAtCut c b = next_between false c b
next_out x StarAtCut c b = next_style_comment true c

abbrev pub emits_out : {E : Type 0} → Outside → StyleClass → ℕ → List (StyleEvent E) → List (StyleEvent E)
emits_out (Between k) c b t = emits_between k c b t
emits_out AfterLessThan c b t = emits_between false c b t
emits_out (Word w e) c b t = emits_word w e c b t
emits_out (AfterSolidus k) c b t = emits_solidus k c b t
emits_out (Comment star) c b t = t
emits_out (InString q e) c b t = emits_string (is_taken_in_style e b) q c b t
emits_out BadUrl c b t = emits_bad_byte c b t
emits_out (BehindHole solidus less) c b t = emits_split NoEscape c b t
emits_out (SplitWord e) c b t = emits_split e c b t
emits_out (SolidusAtCut k) c b t = emits_solidus k c b t
emits_out LessThanAtCut c b t = emits_between false c b t
emits_out StarAtCut c b t = t

abbrev pub next_in_url : {U E : Type 0} → UrlReading U E → UrlForm → U → StyleClass → ℕ → Style U
next_in_url x Fresh u c b = next_fresh x u c b
next_in_url x Bare u c b = next_bare x u c b
next_in_url x (Quoted q e) u c b = next_quoted x (is_taken_in_style e b) q e u c b
next_in_url x Ended u c b = next_ended u c

abbrev pub emits_in_url : {U E : Type 0} → UrlReading U E → UrlForm → U → StyleClass → ℕ → List (StyleEvent E) → List (StyleEvent E)
emits_in_url x Fresh u c b t = emits_fresh x u c b t
emits_in_url x Bare u c b t = emits_bare x u c b t
emits_in_url x (Quoted q e) u c b t = emits_quoted x (is_taken_in_style e b) q u c b t
emits_in_url x Ended u c b t = emits_ended x u c b t

abbrev pub style_next : {U E : Type 0} → UrlReading U E → Style U → StyleClass → ℕ → Style U
style_next x (Out s) c b = next_out x s c b
style_next x (InUrl f u) c b = next_in_url x f u c b

abbrev pub style_emits_class : {U E : Type 0} → UrlReading U E → Style U → StyleClass → ℕ → List (StyleEvent E) → List (StyleEvent E)
style_emits_class x (Out s) c b t = emits_out s c b t
style_emits_class x (InUrl f u) c b t = emits_in_url x f u c b t

abbrev pub feed_style : {U E : Type 0} → UrlReading U E → Style U → ℕ → Style U
feed_style x s b = style_next x s (style_class b) b

abbrev pub style_emits : {U E : Type 0} → UrlReading U E → Style U → ℕ → List (StyleEvent E) → List (StyleEvent E)
style_emits x s b t = style_emits_class x s (style_class b) b t

-- The value or the element ends: a `/` is told, and what the URL tells at its end. What is open ends with it.
abbrev pub style_ends : {U E : Type 0} → UrlReading U E → Style U → List (StyleEvent E) → List (StyleEvent E)
style_ends x (Out (AfterSolidus k)) t = RunByte 47 ∷ t
style_ends x (Out (SolidusAtCut k)) t = RunByte 47 ∷ t
style_ends x (Out s) t = t
style_ends x (InUrl f u) t = told_in_url (x.ends u) t

-- Bytes, one after another: where they lead, and what they tell.
pub record StyleReading (U E : Type 0) : Type 0 where
  pub at : Style U
  pub told : List (StyleEvent E)

abbrev pub style_reading : {U E : Type 0} → Style U → List (StyleEvent E) → StyleReading U E
style_reading s t = record { at = s; told = t }

abbrev pub read_style : {U E : Type 0} → UrlReading U E → List ℕ → StyleReading U E → StyleReading U E
read_style x [] r = r
read_style x (b ∷ bs) r = read_style x bs (style_reading (feed_style x r.at b) (style_emits x r.at b r.told))
