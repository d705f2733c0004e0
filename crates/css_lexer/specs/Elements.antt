-- A style as the content of the element `style`. Its end tag ends it wherever it stands, in a string or a comment too (HTML Standard,
-- sections 13.2.5.3, 13.2.5.12 to 13.2.5.14): that is HTML's matter, which holds a `<` back until it is known to begin no end tag. What
-- is said here is what HTML has to know of the style.
use Rattle.std.specs.Prelude.{Option, Some, None}
use Rattle.css_lexer.specs.Escapes.{StyleEscape, AfterBackslash}
use Rattle.css_lexer.specs.RefusalCodes.{RefusalCode, SplitToken, StyleCutRefusal, at_end}
use Rattle.css_lexer.specs.Refusals.{style_refuses}
use Rattle.css_lexer.specs.States.{Outside, Word, InString, SplitWord, UrlForm, Fresh, Bare, Quoted, Ended, Style, Out, InUrl}
use Rattle.css_lexer.specs.UrlReading.{UrlReading}

-- A node that ends in a `<` which is still held back. In a string, in a URL and behind a backslash it may not be cut from what follows:
-- `/style` may. Between tokens, in words and in comments it may: there a `/` at the beginning of the next text is refused, or nothing of
-- it is written.
abbrev pub less_than_cut_escape : StyleEscape → Option StyleCutRefusal
less_than_cut_escape AfterBackslash = at_end SplitToken 2
less_than_cut_escape e = None

abbrev pub less_than_cut_string : StyleEscape → Option StyleCutRefusal
less_than_cut_string AfterBackslash = at_end SplitToken 2
less_than_cut_string e = at_end SplitToken 1

abbrev pub less_than_cut_outside : Outside → Option StyleCutRefusal
less_than_cut_outside (Word w e) = less_than_cut_escape e
less_than_cut_outside (SplitWord e) = less_than_cut_escape e
less_than_cut_outside (InString q e) = less_than_cut_string e
less_than_cut_outside s = None

abbrev pub less_than_cut_url : UrlForm → Option StyleCutRefusal
less_than_cut_url Fresh = at_end SplitToken 1
less_than_cut_url Bare = at_end SplitToken 1
less_than_cut_url (Quoted q e) = less_than_cut_string e
less_than_cut_url Ended = None

-- the byte itself may be refused, as behind a URL; it is the last one of the node
abbrev pub or_less_than : Option RefusalCode → Option StyleCutRefusal → Option StyleCutRefusal
or_less_than (Some code) o = Some (record { code = code; back = 1; shown = 1 })
or_less_than None o = o

abbrev pub less_than_cut_in : {U : Type 0} → Style U → Option StyleCutRefusal
less_than_cut_in (Out s) = less_than_cut_outside s
less_than_cut_in (InUrl f u) = less_than_cut_url f

-- the state is the one before the `<`
abbrev pub refuses_less_than_cut : {U E : Type 0} → UrlReading U E → Style U → Option StyleCutRefusal
refuses_less_than_cut x s = or_less_than (style_refuses x s 60) (less_than_cut_in s)
