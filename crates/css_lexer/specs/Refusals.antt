-- What is refused of the text of a template, in a style: a byte, the end of a node, and a hole. A finished page is read whatever it
-- holds.
use Rattle.std.specs.Prelude.{ℕ, ◌+◌, Bool, true, false, Option, Some, None}
use Rattle.css_lexer.specs.Classes.{style_class}
use Rattle.css_lexer.specs.Escapes.{StyleEscape, NoEscape, AfterBackslash, HexDigits, AfterReturn, is_taken_in_style}
use Rattle.css_lexer.specs.RefusalCodes.{RefusalCode, PartialEscape, SplitToken, BadString, StyleCutRefusal, at_end, first_refusal}
use Rattle.css_lexer.specs.States.{Quote, DoubleQuote, SingleQuote, Outside, Word, InString, BehindHole, SplitWord, SolidusAtCut, LessThanAtCut, StarAtCut, UrlForm, Fresh, Bare, Quoted, Ended, Style, Out, InUrl}
use Rattle.css_lexer.specs.UrlReading.{UrlReading}
use Rattle.css_lexer.specs.declared.class.StyleClass.{StyleClass}
use Rattle.css_lexer.specs.declared.class.StyleClass.TheVariants as class

-- A `(` directly behind a word that has been split makes a function, or a url token, of a word that nobody has read.
abbrev pub refuses_split : StyleEscape → StyleClass → Option RefusalCode
refuses_split AfterBackslash c = None
refuses_split e class.LeftParenthesis = Some SplitToken
refuses_split e c = None

-- Right behind a hole also what would go on with the `/` or the `<` before it, if the value is empty.
abbrev pub split_if : Bool → Option RefusalCode
split_if true = Some SplitToken
split_if false = None

abbrev pub refuses_behind_hole : Bool → Bool → StyleClass → Option RefusalCode
refuses_behind_hole solidus less class.Asterisk = split_if solidus
refuses_behind_hole solidus less class.Solidus = split_if less
refuses_behind_hole solidus less class.LeftParenthesis = Some SplitToken
refuses_behind_hole solidus less c = None

-- the end of a line, in a string, where no backslash takes it
abbrev pub refuses_string : Bool → StyleClass → Option RefusalCode
refuses_string false class.Newline = Some BadString
refuses_string taken c = None

abbrev pub refuses_asterisk : StyleClass → Option RefusalCode
refuses_asterisk class.Asterisk = Some SplitToken
refuses_asterisk c = None

abbrev pub refuses_solidus : StyleClass → Option RefusalCode
refuses_solidus class.Solidus = Some SplitToken
refuses_solidus c = None

abbrev pub refuses_out : Outside → StyleClass → ℕ → Option RefusalCode
refuses_out (InString q e) c b = refuses_string (is_taken_in_style e b) c
refuses_out (BehindHole solidus less) c b = refuses_behind_hole solidus less c
refuses_out (SplitWord e) c b = refuses_split e c
refuses_out (SolidusAtCut k) c b = refuses_asterisk c
refuses_out LessThanAtCut c b = refuses_solidus c
refuses_out StarAtCut c b = refuses_solidus c
refuses_out s c b = None

-- In a URL without quotes no quote, no `(` and no backslash. A standard reader takes a backslash there as an escape, the page lexer here
-- as itself.
abbrev pub refuses_bare : {U E : Type 0} → UrlReading U E → U → StyleClass → ℕ → Option RefusalCode
refuses_bare x u class.Blank b = None
refuses_bare x u class.Newline b = None
refuses_bare x u class.RightParenthesis b = None
refuses_bare x u class.QuotationMark b = Some BadString
refuses_bare x u class.Apostrophe b = Some BadString
refuses_bare x u class.LeftParenthesis b = Some BadString
refuses_bare x u class.ReverseSolidus b = Some BadString
refuses_bare x u c b = x.refuses u b

abbrev pub refuses_fresh : {U E : Type 0} → UrlReading U E → U → StyleClass → ℕ → Option RefusalCode
refuses_fresh x u class.QuotationMark b = None
refuses_fresh x u class.Apostrophe b = None
refuses_fresh x u c b = refuses_bare x u c b

abbrev pub refuses_quoted : {U E : Type 0} → UrlReading U E → Bool → Quote → U → StyleClass → ℕ → Option RefusalCode
refuses_quoted x true q u c b = x.refuses u b
refuses_quoted x false DoubleQuote u class.QuotationMark b = None
refuses_quoted x false SingleQuote u class.Apostrophe b = None
refuses_quoted x false q u class.Newline b = Some BadString
refuses_quoted x false q u c b = x.refuses u b

-- behind a URL nothing but white space and the `)`
abbrev pub refuses_ended : StyleClass → Option RefusalCode
refuses_ended class.Blank = None
refuses_ended class.Newline = None
refuses_ended class.RightParenthesis = None
refuses_ended c = Some BadString

abbrev pub refuses_in_url : {U E : Type 0} → UrlReading U E → UrlForm → U → StyleClass → ℕ → Option RefusalCode
refuses_in_url x Fresh u c b = refuses_fresh x u c b
refuses_in_url x Bare u c b = refuses_bare x u c b
refuses_in_url x (Quoted q e) u c b = refuses_quoted x (is_taken_in_style e b) q u c b
refuses_in_url x Ended u c b = refuses_ended c

abbrev pub style_refuses_class : {U E : Type 0} → UrlReading U E → Style U → StyleClass → ℕ → Option RefusalCode
style_refuses_class x (Out s) c b = refuses_out s c b
style_refuses_class x (InUrl f u) c b = refuses_in_url x f u c b

-- a byte
abbrev pub style_refuses : {U E : Type 0} → UrlReading U E → Style U → ℕ → Option RefusalCode
style_refuses x s b = style_refuses_class x s (style_class b) b

-- The end of a node inside an escape: a backslash, one and up to six hexadecimal digits, and in a string one and a carriage return.
abbrev pub refuses_in_escape : StyleEscape → Option StyleCutRefusal
refuses_in_escape NoEscape = None
refuses_in_escape AfterBackslash = at_end PartialEscape 1
refuses_in_escape (HexDigits n) = at_end PartialEscape (n + 1)
refuses_in_escape AfterReturn = at_end PartialEscape 2

abbrev pub refuses_cut_out : Outside → Option StyleCutRefusal
refuses_cut_out (Word w e) = refuses_in_escape e
refuses_cut_out (SplitWord e) = refuses_in_escape e
refuses_cut_out (InString q e) = refuses_in_escape e
refuses_cut_out s = None

abbrev pub refuses_cut_in_url : {U E : Type 0} → UrlReading U E → UrlForm → U → Option StyleCutRefusal
refuses_cut_in_url x Fresh u = None
refuses_cut_in_url x Bare u = x.refuses_cut u
refuses_cut_in_url x (Quoted q e) u = first_refusal (refuses_in_escape e) (x.refuses_cut u)
refuses_cut_in_url x Ended u = None

abbrev pub style_refuses_cut : {U E : Type 0} → UrlReading U E → Style U → Option StyleCutRefusal
style_refuses_cut x (Out s) = refuses_cut_out s
style_refuses_cut x (InUrl f u) = refuses_cut_in_url x f u

-- A hole: none behind the URL of a url token; in a URL as its language says.
abbrev pub style_refuses_hole : {U E : Type 0} → UrlReading U E → Style U → Option RefusalCode
style_refuses_hole x (Out s) = None
style_refuses_hole x (InUrl Ended u) = Some BadString
style_refuses_hole x (InUrl f u) = x.refuses_hole u
