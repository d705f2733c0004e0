-- What each byte of a style does to the pieces, by the states in which a style is read (CSS Syntax Level 3, section 4.3).
use Rattle.std.specs.Prelude.{ℕ, Bool, true, false, ⊤}
use Rattle.css_lexer.specs.Classes.{style_class}
use Rattle.css_lexer.specs.Escapes.{StyleEscape, NoEscape, AfterBackslash, is_taken_in_style}
use Rattle.css_lexer.specs.States.{Quote, DoubleQuote, SingleQuote, UrlWord, SpellsUrl, SpellsOther, Outside, Between, AfterLessThan, Word, AfterSolidus, Comment, InString, BadUrl, BehindHole, SplitWord, SolidusAtCut, LessThanAtCut, StarAtCut, Style, Out, InUrl}
use Rattle.css_lexer.specs.Steps.{feed_style}
use Rattle.css_lexer.specs.declared.class.StyleClass.{StyleClass}
use Rattle.css_lexer.specs.declared.class.StyleClass.TheVariants as class
use Rattle.page_piece.specs.declared.piece.PieceKind.TheVariants as kind
use Rattle.page_style.specs.StyleUrls.{any_url}
use Rattle.page_style.specs.declared.change.PieceChange.{PieceChange}
use Rattle.page_style.specs.declared.change.PieceChange.TheVariants as change

-- Between tokens (4.3.1).
abbrev pub change_between : StyleClass → PieceChange
change_between class.WordByte = change.Run kind.Word
change_between class.ReverseSolidus = change.Hold
change_between class.Solidus = change.Hold
change_between class.QuotationMark = change.Begin kind.String
change_between class.Apostrophe = change.Begin kind.String
change_between class.LeftParenthesis = change.Alone kind.Punct
change_between class.RightParenthesis = change.Alone kind.Punct
change_between class.Punctuation = change.Alone kind.Punct
change_between c = change.Run kind.Plain

-- In a word (4.3.11): a backslash is a part of it with the byte that it takes, and behind `url` a `(` makes it a URL (4.3.4).
abbrev pub change_word : UrlWord → StyleEscape → StyleClass → PieceChange
change_word w AfterBackslash c = change.Run kind.Word
change_word SpellsUrl e class.LeftParenthesis = change.GrowAs kind.Url
change_word w e c = change_between c

-- Behind a `/`: a comment begins with it (4.3.2), or else it is plain text.
abbrev pub change_solidus : StyleClass → PieceChange
change_solidus class.Asterisk = change.Begin kind.Comment
change_solidus c = change_between c

-- In a comment, which ends with its `*/`.
abbrev pub change_comment : Bool → StyleClass → PieceChange
change_comment true class.Solidus = change.Close
change_comment star c = change.Grow

-- In a string (4.3.5), where a byte is taken by a backslash or not: its quote ends it, and the end of its line makes it a bad one.
abbrev pub change_string : Bool → Quote → StyleClass → PieceChange
change_string true q c = change.Grow
change_string false DoubleQuote class.QuotationMark = change.Close
change_string false SingleQuote class.Apostrophe = change.Close
change_string false q class.Newline = change.Break
change_string false q c = change.Grow

-- In a url token (4.3.6), by the state to which the byte leads: it goes on, it is none, or it ends with the byte.
abbrev pub change_url : Style ⊤ → PieceChange
change_url (InUrl f u) = change.Grow
change_url (Out BadUrl) = change.GrowAs kind.BadString
change_url (Out s) = change.Close

-- In a url that is none, up to its `)` (4.3.14).
abbrev pub change_bad_url : StyleClass → PieceChange
change_bad_url class.RightParenthesis = change.Close
change_bad_url c = change.Grow

-- The last five states are of the paths of templates alone, and are as those that they stand for.
abbrev pub change_out : Outside → StyleClass → ℕ → PieceChange
change_out (Between k) c b = change_between c
change_out AfterLessThan c b = change_between c
change_out (Word w e) c b = change_word w e c
change_out (AfterSolidus k) c b = change_solidus c
change_out (Comment star) c b = change_comment star c
change_out (InString q e) c b = change_string (is_taken_in_style e b) q c
change_out BadUrl c b = change_bad_url c
change_out (BehindHole solidus less) c b = change_word SpellsOther NoEscape c
change_out (SplitWord e) c b = change_word SpellsOther e c
change_out (SolidusAtCut k) c b = change_solidus c
change_out LessThanAtCut c b = change_between c
change_out StarAtCut c b = change_comment true c

abbrev pub style_change_of : Style ⊤ → ℕ → PieceChange
style_change_of (Out s) b = change_out s (style_class b) b
style_change_of (InUrl f u) b = change_url (feed_style any_url (InUrl f u) b)

-- Whether a `/` that is held back is plain text before a byte.
abbrev pub no_comment : StyleClass → Bool
no_comment class.Asterisk = false
no_comment c = true

abbrev pub releases : Style ⊤ → StyleClass → Bool
releases (Out (AfterSolidus k)) c = no_comment c
releases (Out (SolidusAtCut k)) c = no_comment c
releases s c = false
