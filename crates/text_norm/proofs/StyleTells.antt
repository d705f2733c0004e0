-- Two emitted lists in a relation stay in it while a style tells the same in both: byte by byte, and at its end. Only of a URL in it, whose part and
-- freedom of scheme may differ, the end may be told otherwise.
use Rattle.std.proofs.Common.{ℕ, Bool, true, false, List, [], ◌∷◌}
use Rattle.css_lexer.specs.Escapes.{StyleEscape, NoEscape, AfterBackslash, HexDigits, AfterReturn, is_taken_in_style}
use Rattle.css_lexer.specs.Events.{RunByte, RunBlank, PunctuationByte, StringBegins, StringByte, StringEnds, StringBroken, UrlBegins, UrlQuoteBegins, InsideUrl, UrlQuoteEnds, BadUrlBegins, BadUrlByte, BadUrlEnds}
use Rattle.css_lexer.specs.Events as css
use Rattle.css_lexer.specs.Paths.{style_emits_settled}
use Rattle.css_lexer.specs.States.{Quote, DoubleQuote, SingleQuote, UrlWord, SpellsUrl, Outside, Between, AfterLessThan, Word, AfterSolidus, Comment, InString, BadUrl, BehindHole, SplitWord, SolidusAtCut, LessThanAtCut, StarAtCut, UrlForm, Fresh, Bare, Quoted, Ended, Style, Out}
use Rattle.css_lexer.specs.Steps.{blank_once, emits_bad, emits_bad_byte, emits_bare, emits_between, emits_ended, emits_fresh, emits_in_url, emits_out, emits_quoted, emits_solidus, emits_split, emits_string, emits_word, style_ends}
use Rattle.css_lexer.specs.Urls.{urls}
use Rattle.css_lexer.specs.declared.class.StyleClass.{StyleClass}
use Rattle.css_lexer.specs.declared.class.StyleClass.TheVariants as class
use Rattle.place_core.specs.page.Events.{InsideStyle, LexEvent, told_in_style}
use Rattle.text_norm.proofs.EmittedAlike.{IsOwn}
use Rattle.text_norm.proofs.FilledEvents.{SchemesSame, scheme_in_style}
use Rattle.url_lexer.specs.Events.{UrlByte}
use Rattle.url_lexer.specs.States.{Url}

module _ (F : List LexEvent → List LexEvent → Type 0) (keep : (e : LexEvent) (t u : List LexEvent) → IsOwn e → F t u → F (e ∷ t) (e ∷ u))
    (ends : (z y : Url) (t u : List LexEvent) → SchemesSame z y → F t u → F (scheme_in_style z ∷ t) (scheme_in_style y ∷ u)) where
  once-tells : (k : Bool) (t u : List LexEvent) → F t u → F (told_in_style (blank_once k []) t) (told_in_style (blank_once k []) u)
  once-tells true t u f = f
  once-tells false t u f = keep (InsideStyle RunBlank) t u tt f

  between-tells : (k : Bool) (c : StyleClass) (b : ℕ) (t u : List LexEvent) → F t u
      → F (told_in_style (emits_between k c b []) t) (told_in_style (emits_between k c b []) u)
  between-tells k class.Blank b t u f = once-tells k t u f
  between-tells k class.Newline b t u f = once-tells k t u f
  between-tells k class.QuotationMark b t u f = keep (InsideStyle (StringBegins DoubleQuote)) t u tt f
  between-tells k class.Apostrophe b t u f = keep (InsideStyle (StringBegins SingleQuote)) t u tt f
  between-tells k class.LeftParenthesis b t u f = keep (InsideStyle (PunctuationByte b)) t u tt f
  between-tells k class.RightParenthesis b t u f = keep (InsideStyle (PunctuationByte b)) t u tt f
  between-tells k class.Punctuation b t u f = keep (InsideStyle (PunctuationByte b)) t u tt f
  between-tells k class.Solidus b t u f = f
  between-tells k c b t u f = keep (InsideStyle (RunByte b)) t u tt f

  word-tells : (w : UrlWord) (e : StyleEscape) (c : StyleClass) (b : ℕ) (t u : List LexEvent) → F t u
      → F (told_in_style (emits_word w e c b []) t) (told_in_style (emits_word w e c b []) u)
  word-tells w AfterBackslash c b t u f = keep (InsideStyle (RunByte b)) t u tt f
  word-tells SpellsUrl NoEscape class.LeftParenthesis b t u f = keep (InsideStyle UrlBegins) t u tt f
  word-tells SpellsUrl (HexDigits n) class.LeftParenthesis b t u f = keep (InsideStyle UrlBegins) t u tt f
  word-tells SpellsUrl AfterReturn class.LeftParenthesis b t u f = keep (InsideStyle UrlBegins) t u tt f
  word-tells w NoEscape c b t u f = between-tells false c b t u f
  word-tells w (HexDigits n) c b t u f = between-tells false c b t u f
  word-tells w AfterReturn c b t u f = between-tells false c b t u f

  solidus-tells : (k : Bool) (c : StyleClass) (b : ℕ) (t u : List LexEvent) → F t u
      → F (told_in_style (emits_solidus k c b []) t) (told_in_style (emits_solidus k c b []) u)
  solidus-tells k class.Asterisk b t u f = once-tells k t u f
  solidus-tells k c b t u f = between-tells false c b _ _ (keep (InsideStyle (RunByte 47)) t u tt f)

  string-tells : (taken : Bool) (q : Quote) (c : StyleClass) (b : ℕ) (t u : List LexEvent) → F t u
      → F (told_in_style (emits_string taken q c b []) t) (told_in_style (emits_string taken q c b []) u)
  string-tells true q c b t u f = keep (InsideStyle (StringByte b)) t u tt f
  string-tells false DoubleQuote class.QuotationMark b t u f = keep (InsideStyle StringEnds) t u tt f
  string-tells false SingleQuote class.Apostrophe b t u f = keep (InsideStyle StringEnds) t u tt f
  string-tells false DoubleQuote class.Newline b t u f = keep (InsideStyle RunBlank) _ _ tt (keep (InsideStyle StringBroken) t u tt f)
  string-tells false SingleQuote class.Newline b t u f = keep (InsideStyle RunBlank) _ _ tt (keep (InsideStyle StringBroken) t u tt f)
  string-tells false DoubleQuote c b t u f = keep (InsideStyle (StringByte b)) t u tt f
  string-tells false SingleQuote c b t u f = keep (InsideStyle (StringByte b)) t u tt f

  bad-tells : (c : StyleClass) (b : ℕ) (t u : List LexEvent) → F t u → F (told_in_style (emits_bad_byte c b []) t)
      (told_in_style (emits_bad_byte c b []) u)
  bad-tells class.RightParenthesis b t u f = keep (InsideStyle BadUrlEnds) t u tt f
  bad-tells c b t u f = keep (InsideStyle (BadUrlByte b)) t u tt f

  split-tells : (e : StyleEscape) (c : StyleClass) (b : ℕ) (t u : List LexEvent) → F t u
      → F (told_in_style (emits_split e c b []) t) (told_in_style (emits_split e c b []) u)
  split-tells AfterBackslash c b t u f = keep (InsideStyle (RunByte b)) t u tt f
  split-tells NoEscape c b t u f = between-tells false c b t u f
  split-tells (HexDigits n) c b t u f = between-tells false c b t u f
  split-tells AfterReturn c b t u f = between-tells false c b t u f

  pub out-tells : (s : Outside) (c : StyleClass) (b : ℕ) (t u : List LexEvent) → F t u
      → F (told_in_style (emits_out s c b []) t) (told_in_style (emits_out s c b []) u)
  out-tells (Between k) c b t u f = between-tells k c b t u f
  out-tells AfterLessThan c b t u f = between-tells false c b t u f
  out-tells (Word w e) c b t u f = word-tells w e c b t u f
  out-tells (AfterSolidus k) c b t u f = solidus-tells k c b t u f
  out-tells (Comment star) c b t u f = f
  out-tells (InString q e) c b t u f = string-tells (is_taken_in_style e b) q c b t u f
  out-tells BadUrl c b t u f = bad-tells c b t u f
  out-tells (BehindHole solidus less) c b t u f = split-tells NoEscape c b t u f
  out-tells (SplitWord e) c b t u f = split-tells e c b t u f
  out-tells (SolidusAtCut k) c b t u f = solidus-tells k c b t u f
  out-tells LessThanAtCut c b t u f = between-tells false c b t u f
  out-tells StarAtCut c b t u f = f

  -- in a URL
  url-end-tells : (z y : Url) (t u : List LexEvent) → SchemesSame z y → F t u
      → F (InsideStyle css.UrlEnds ∷ scheme_in_style z ∷ t) (InsideStyle css.UrlEnds ∷ scheme_in_style y ∷ u)
  url-end-tells z y t u a f = keep (InsideStyle css.UrlEnds) _ _ tt (ends z y t u a f)

  broken-tells : (b : ℕ) (t u : List LexEvent) → F t u → F (told_in_style (emits_bad b []) t) (told_in_style (emits_bad b []) u)
  broken-tells b t u f = keep (InsideStyle (BadUrlByte b)) _ _ tt (keep (InsideStyle BadUrlBegins) t u tt f)

  url-byte-tells : (b : ℕ) (t u : List LexEvent) → F t u → F (InsideStyle (InsideUrl (UrlByte b)) ∷ t) (InsideStyle (InsideUrl (UrlByte b)) ∷ u)
  url-byte-tells b t u f = keep (InsideStyle (InsideUrl (UrlByte b))) t u tt f

  bare-tells : (z y : Url) (c : StyleClass) (b : ℕ) (t u : List LexEvent) → SchemesSame z y → F t u
      → F (told_in_style (emits_bare urls z c b []) t) (told_in_style (emits_bare urls y c b []) u)
  bare-tells z y class.Blank b t u a f = f
  bare-tells z y class.Newline b t u a f = f
  bare-tells z y class.RightParenthesis b t u a f = url-end-tells z y t u a f
  bare-tells z y class.QuotationMark b t u a f = broken-tells b t u f
  bare-tells z y class.Apostrophe b t u a f = broken-tells b t u f
  bare-tells z y class.LeftParenthesis b t u a f = broken-tells b t u f
  bare-tells z y c b t u a f = url-byte-tells b t u f

  fresh-tells : (z y : Url) (c : StyleClass) (b : ℕ) (t u : List LexEvent) → SchemesSame z y → F t u
      → F (told_in_style (emits_fresh urls z c b []) t) (told_in_style (emits_fresh urls y c b []) u)
  fresh-tells z y class.QuotationMark b t u a f = keep (InsideStyle (UrlQuoteBegins DoubleQuote)) t u tt f
  fresh-tells z y class.Apostrophe b t u a f = keep (InsideStyle (UrlQuoteBegins SingleQuote)) t u tt f
  fresh-tells z y c b t u a f = bare-tells z y c b t u a f

  quoted-tells : (taken : Bool) (q : Quote) (z y : Url) (c : StyleClass) (b : ℕ) (t u : List LexEvent) → SchemesSame z y → F t u
      → F (told_in_style (emits_quoted urls taken q z c b []) t) (told_in_style (emits_quoted urls taken q y c b []) u)
  quoted-tells true q z y c b t u a f = url-byte-tells b t u f
  quoted-tells false DoubleQuote z y class.QuotationMark b t u a f = keep (InsideStyle UrlQuoteEnds) t u tt f
  quoted-tells false SingleQuote z y class.Apostrophe b t u a f = keep (InsideStyle UrlQuoteEnds) t u tt f
  quoted-tells false DoubleQuote z y class.Newline b t u a f = broken-tells b t u f
  quoted-tells false SingleQuote z y class.Newline b t u a f = broken-tells b t u f
  quoted-tells false DoubleQuote z y c b t u a f = url-byte-tells b t u f
  quoted-tells false SingleQuote z y c b t u a f = url-byte-tells b t u f

  ended-tells : (z y : Url) (c : StyleClass) (b : ℕ) (t u : List LexEvent) → SchemesSame z y → F t u
      → F (told_in_style (emits_ended urls z c b []) t) (told_in_style (emits_ended urls y c b []) u)
  ended-tells z y class.Blank b t u a f = f
  ended-tells z y class.Newline b t u a f = f
  ended-tells z y class.RightParenthesis b t u a f = url-end-tells z y t u a f
  ended-tells z y c b t u a f = broken-tells b t u f

  pub form-tells : (g : UrlForm) (z y : Url) (c : StyleClass) (b : ℕ) (t u : List LexEvent) → SchemesSame z y → F t u
      → F (told_in_style (emits_in_url urls g z c b []) t) (told_in_style (emits_in_url urls g y c b []) u)
  form-tells Fresh z y c b t u a f = fresh-tells z y c b t u a f
  form-tells Bare z y c b t u a f = bare-tells z y c b t u a f
  form-tells (Quoted q e) z y c b t u a f = quoted-tells (is_taken_in_style e b) q z y c b t u a f
  form-tells Ended z y c b t u a f = ended-tells z y c b t u a f

  -- where it ends, and before a hole
  pub out-ends : (s : Outside) (t u : List LexEvent) → F t u → F (told_in_style (style_ends urls (Out s) []) t)
      (told_in_style (style_ends urls (Out s) []) u)
  out-ends (AfterSolidus k) t u f = keep (InsideStyle (RunByte 47)) t u tt f
  out-ends (SolidusAtCut k) t u f = keep (InsideStyle (RunByte 47)) t u tt f
  out-ends _ t u f = f

  pub settled-tells : (s : Style Url) (t u : List LexEvent) → F t u → F (told_in_style (style_emits_settled s []) t)
      (told_in_style (style_emits_settled s []) u)
  settled-tells (Out (AfterSolidus k)) t u f = keep (InsideStyle (RunByte 47)) t u tt f
  settled-tells (Out (SolidusAtCut k)) t u f = keep (InsideStyle (RunByte 47)) t u tt f
  settled-tells _ t u f = f
