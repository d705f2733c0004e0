-- How a text of a style is stepped, byte by byte, for all the paths that stand at a place together. They read the same bytes, so that within the text
-- they are in the same lexeme, but that for some it may have begun before the text. What a place keeps as a set is kept so: that some path ended in
-- a `/`, a `<` or a `*` of a comment, until the first byte; that some path has a word from before the text, as long as the word goes on; and the
-- parts of a URL.
use Rattle.std.specs.Prelude.{ℕ, Bool, true, false, Option, Some, None}
use Rattle.css_lexer.specs.Escapes.{StyleEscape, NoEscape, AfterBackslash, HexDigits, AfterReturn, behind_taken, behind_taken_in_string, behind_byte, is_taken_in_style}
use Rattle.css_lexer.specs.RefusalCodes.{RefusalCode, BadString, StyleCutRefusal, first_refusal}
use Rattle.css_lexer.specs.Refusals.{split_if, refuses_split, refuses_string, refuses_solidus, refuses_ended, refuses_in_escape}
use Rattle.css_lexer.specs.States.{Quote, DoubleQuote, SingleQuote, UrlWord, SpellsUrl, SpellsOther}
use Rattle.css_lexer.specs.Steps.{first_letter, next_letter}
use Rattle.css_lexer.specs.Urls.{url_refusal, url_cut_refusal}
use Rattle.css_lexer.specs.declared.class.StyleClass.{StyleClass}
use Rattle.css_lexer.specs.declared.class.StyleClass.TheVariants as class
use Rattle.place_core.specs.declared.css.Css.{Css}
use Rattle.place_core.specs.declared.css.Css.TheVariants as css
use Rattle.place_core.specs.declared.css_tails.CssTails.{CssTails}
use Rattle.place_core.specs.declared.parts.Parts.{Parts}
use Rattle.place_core.specs.place.StyleParts.{style_quoted_place, style_string_place, style_tails}
use Rattle.place_core.specs.place.UrlParts.{parts_of}
use Rattle.url_lexer.specs.Classes.{url_class_of}
use Rattle.url_lexer.specs.Parts.{UrlStart}
use Rattle.url_lexer.specs.Refusals.{refuses_cut_in}
use Rattle.url_lexer.specs.Triples.{Triple, NoTriple, next_triple}
use Rattle.url_step.specs.PartSets.{parts_next, parts_error, parts_at_hole, parts_hole_error}

pub data StyleScan : Type 0 where
  -- at the beginning of a text: each truth says that some path ended so, in a word or a hole (`word`), in a `/` (`slash`), in a `<` (`lt`); others
  -- may be between tokens;
  -- behind a byte, with no truth: between tokens, or in plain text;
  -- behind a byte, with `word` alone: in a word that some path has from before the text, as no more is known of it than at the beginning
  ScanCode : CssTails → StyleScan
  -- in a word of this text, with how much of `url` it is, and its escape, which is never `AfterReturn`: that is of strings
  ScanWord : UrlWord → StyleEscape → StyleScan
  -- in an escape of a word that some path has from before the text: never `NoEscape`, where it is `ScanCode`, and never `AfterReturn`
  ScanSplitEscape : StyleEscape → StyleScan
  -- behind a `/` of this text, and behind a `<` of it
  ScanSolidus : StyleScan
  ScanLessThan : StyleScan
  -- in a comment, whether the last byte of this text is a `*` in it; and at the beginning of a text, where some path has such a `*` before it
  ScanComment : Bool → StyleScan
  ScanStarBefore : StyleScan
  -- in a string
  ScanString : Quote → StyleEscape → StyleScan
  -- behind `url(`; in a URL without quotes and in quotes, with its parts and the percent triple that is open; behind a URL
  ScanFresh : StyleScan
  ScanBareUrl : Parts → Triple → StyleScan
  ScanQuotedUrl : Quote → StyleEscape → Parts → Triple → StyleScan
  ScanEnded : StyleScan

-- between tokens, with nothing before that the next byte may go on with
abbrev pub style_between : StyleScan
style_between = ScanCode (style_tails false false false)

-- in a word from before the text, with its escape; none is the state at the beginning of a text
abbrev pub style_split_word : StyleEscape → StyleScan
style_split_word NoEscape = ScanCode (style_tails true false false)
style_split_word AfterBackslash = ScanSplitEscape AfterBackslash
style_split_word (HexDigits n) = ScanSplitEscape (HexDigits n)
style_split_word AfterReturn = ScanSplitEscape AfterReturn

-- where a text begins at a place
abbrev pub style_comment_start : Bool → StyleScan
style_comment_start true = ScanStarBefore
style_comment_start false = ScanComment false

abbrev pub style_scan_start : Css → StyleScan
style_scan_start (css.Code x) = ScanCode x
style_scan_start css.Dq = ScanString DoubleQuote NoEscape
style_scan_start css.Sq = ScanString SingleQuote NoEscape
style_scan_start css.UrlFresh = ScanFresh
style_scan_start (css.Url s) = ScanBareUrl s NoTriple
style_scan_start (css.UrlDq s) = ScanQuotedUrl DoubleQuote NoEscape s NoTriple
style_scan_start (css.UrlSq s) = ScanQuotedUrl SingleQuote NoEscape s NoTriple
style_scan_start css.UrlEnd = ScanEnded
style_scan_start (css.Comment star) = style_comment_start star

-- A byte between tokens.
abbrev pub style_between_next : StyleClass → ℕ → StyleScan
style_between_next class.Blank b = style_between
style_between_next class.Newline b = style_between
style_between_next class.WordByte b = ScanWord (first_letter b) NoEscape
style_between_next class.ReverseSolidus b = ScanWord SpellsOther AfterBackslash
style_between_next class.QuotationMark b = ScanString DoubleQuote NoEscape
style_between_next class.Apostrophe b = ScanString SingleQuote NoEscape
style_between_next class.LeftParenthesis b = style_between
style_between_next class.RightParenthesis b = style_between
style_between_next class.Solidus b = ScanSolidus
style_between_next class.Asterisk b = style_between
style_between_next class.LessThan b = ScanLessThan
style_between_next class.Punctuation b = style_between
style_between_next class.OtherByte b = style_between

-- in a word from before the text, which goes on and may be any word
abbrev pub style_split_next : StyleEscape → StyleClass → ℕ → StyleScan
style_split_next AfterBackslash c b = style_split_word (behind_taken b)
style_split_next e class.WordByte b = style_split_word (behind_byte e b)
style_split_next e class.ReverseSolidus b = ScanSplitEscape AfterBackslash
style_split_next e c b = style_between_next c b

-- behind what the paths ended in: where some path has a word, all paths are taken to be in one, since a `(` behind it is refused for all
abbrev pub style_code_next : (word : Bool) → StyleClass → ℕ → StyleScan
style_code_next true c b = style_split_next NoEscape c b
style_code_next false c b = style_between_next c b

-- in a word of this text: `url` and a `(` begin a url token
abbrev pub style_word_next : UrlWord → StyleEscape → StyleClass → ℕ → StyleScan
style_word_next w AfterBackslash c b = ScanWord SpellsOther (behind_taken b)
style_word_next w e class.WordByte b = ScanWord (next_letter w b) (behind_byte e b)
style_word_next w e class.ReverseSolidus b = ScanWord SpellsOther AfterBackslash
style_word_next SpellsUrl e class.LeftParenthesis b = ScanFresh
style_word_next w e c b = style_between_next c b

-- behind a `/`; in a comment
abbrev pub style_solidus_next : StyleClass → ℕ → StyleScan
style_solidus_next class.Asterisk b = ScanComment false
style_solidus_next c b = style_between_next c b

abbrev pub style_comment_next : (star : Bool) → StyleClass → StyleScan
style_comment_next true class.Solidus = style_between
style_comment_next star class.Asterisk = ScanComment true
style_comment_next star c = ScanComment false

-- in a string, where a backslash takes the byte or not; a line end that none takes is refused
abbrev pub style_string_next : (taken : Bool) → Quote → StyleEscape → StyleClass → ℕ → StyleScan
style_string_next true q e c b = ScanString q (behind_taken_in_string e b)
style_string_next false DoubleQuote e class.QuotationMark b = style_between
style_string_next false SingleQuote e class.Apostrophe b = style_between
style_string_next false q e class.ReverseSolidus b = ScanString q AfterBackslash
style_string_next false q e c b = ScanString q (behind_byte e b)

-- in a URL without quotes, and before one; a quote, a `(` and a backslash are refused in it
abbrev pub style_bare_next : Parts → Triple → StyleClass → ℕ → StyleScan
style_bare_next s t class.Blank b = ScanEnded
style_bare_next s t class.Newline b = ScanEnded
style_bare_next s t class.RightParenthesis b = style_between
style_bare_next s t c b = ScanBareUrl (parts_next s (url_class_of b) b) (next_triple t (url_class_of b))

abbrev pub style_fresh_next : StyleClass → ℕ → StyleScan
style_fresh_next class.Blank b = ScanFresh
style_fresh_next class.Newline b = ScanFresh
style_fresh_next class.QuotationMark b = ScanQuotedUrl DoubleQuote NoEscape (parts_of UrlStart) NoTriple
style_fresh_next class.Apostrophe b = ScanQuotedUrl SingleQuote NoEscape (parts_of UrlStart) NoTriple
style_fresh_next c b = style_bare_next (parts_of UrlStart) NoTriple c b

-- in a URL in quotes: a backslash and what it takes are bytes of the URL; a line end that none takes is refused
abbrev pub style_quoted_next : (taken : Bool) → Quote → StyleEscape → Parts → Triple → StyleClass → ℕ → StyleScan
style_quoted_next true q e s t c b = ScanQuotedUrl q (behind_taken_in_string e b) (parts_next s (url_class_of b) b) (next_triple t (url_class_of b))
style_quoted_next false DoubleQuote e s t class.QuotationMark b = ScanEnded
style_quoted_next false SingleQuote e s t class.Apostrophe b = ScanEnded
style_quoted_next false q e s t class.ReverseSolidus b = ScanQuotedUrl q AfterBackslash (parts_next s (url_class_of b) b) (next_triple t (url_class_of b))
style_quoted_next false q e s t c b = ScanQuotedUrl q (behind_byte e b) (parts_next s (url_class_of b) b) (next_triple t (url_class_of b))

-- behind a URL: white space, up to the `)`; all else is refused
abbrev pub style_ended_next : StyleClass → StyleScan
style_ended_next class.RightParenthesis = style_between
style_ended_next c = ScanEnded

-- Where a byte of this class leads, if it is not refused.
abbrev pub style_scan_next : StyleScan → StyleClass → ℕ → StyleScan
style_scan_next (ScanCode x) c b = style_code_next x.word c b
style_scan_next (ScanWord w e) c b = style_word_next w e c b
style_scan_next (ScanSplitEscape e) c b = style_split_next e c b
style_scan_next ScanSolidus c b = style_solidus_next c b
style_scan_next ScanLessThan c b = style_between_next c b
style_scan_next (ScanComment star) c b = style_comment_next star c
style_scan_next ScanStarBefore c b = style_comment_next true c
style_scan_next (ScanString q e) c b = style_string_next (is_taken_in_style e b) q e c b
style_scan_next ScanFresh c b = style_fresh_next c b
style_scan_next (ScanBareUrl s t) c b = style_bare_next s t c b
style_scan_next (ScanQuotedUrl q e s t) c b = style_quoted_next (is_taken_in_style e b) q e s t c b
style_scan_next ScanEnded c b = style_ended_next c

-- A byte that would go on with what some path ended in is refused; a `(` would make a function of the word.
abbrev pub style_tails_error : CssTails → StyleClass → Option RefusalCode
style_tails_error x class.Asterisk = split_if x.slash
style_tails_error x class.Solidus = split_if x.lt
style_tails_error x class.LeftParenthesis = split_if x.word
style_tails_error x c = None

-- In a URL: `refused` is why its own language refuses the byte.
abbrev pub style_url_error : Parts → ℕ → Option RefusalCode
style_url_error s b = url_refusal (parts_error s (url_class_of b))

abbrev pub style_bare_error : (refused : Option RefusalCode) → StyleClass → Option RefusalCode
style_bare_error refused class.Blank = None
style_bare_error refused class.Newline = None
style_bare_error refused class.RightParenthesis = None
style_bare_error refused class.QuotationMark = Some BadString
style_bare_error refused class.Apostrophe = Some BadString
style_bare_error refused class.LeftParenthesis = Some BadString
style_bare_error refused class.ReverseSolidus = Some BadString
style_bare_error refused c = refused

abbrev pub style_fresh_error : (refused : Option RefusalCode) → StyleClass → Option RefusalCode
style_fresh_error refused class.QuotationMark = None
style_fresh_error refused class.Apostrophe = None
style_fresh_error refused c = style_bare_error refused c

abbrev pub style_quoted_error : (refused : Option RefusalCode) → (taken : Bool) → Quote → StyleClass → Option RefusalCode
style_quoted_error refused true q c = refused
style_quoted_error refused false DoubleQuote class.QuotationMark = None
style_quoted_error refused false SingleQuote class.Apostrophe = None
style_quoted_error refused false q class.Newline = Some BadString
style_quoted_error refused false q c = refused

-- Why a byte of this class is refused.
abbrev pub style_scan_error : StyleScan → StyleClass → ℕ → Option RefusalCode
style_scan_error (ScanCode x) c b = style_tails_error x c
style_scan_error (ScanWord w e) c b = None
style_scan_error (ScanSplitEscape e) c b = refuses_split e c
style_scan_error ScanSolidus c b = None
style_scan_error ScanLessThan c b = None
style_scan_error (ScanComment star) c b = None
style_scan_error ScanStarBefore c b = refuses_solidus c
style_scan_error (ScanString q e) c b = refuses_string (is_taken_in_style e b) c
style_scan_error ScanFresh c b = style_fresh_error (style_url_error (parts_of UrlStart) b) c
style_scan_error (ScanBareUrl s t) c b = style_bare_error (style_url_error s b) c
style_scan_error (ScanQuotedUrl q e s t) c b = style_quoted_error (style_url_error s b) (is_taken_in_style e b) q c
style_scan_error ScanEnded c b = refuses_ended c

-- The place where the node ends, if that is not refused.
abbrev pub style_scan_place : StyleScan → Css
style_scan_place (ScanCode x) = css.Code x
style_scan_place (ScanWord w e) = css.Code (style_tails true false false)
style_scan_place (ScanSplitEscape e) = css.Code (style_tails true false false)
style_scan_place ScanSolidus = css.Code (style_tails false true false)
style_scan_place ScanLessThan = css.Code (style_tails false false true)
style_scan_place (ScanComment star) = css.Comment star
style_scan_place ScanStarBefore = css.Comment true
style_scan_place (ScanString q e) = style_string_place q
style_scan_place ScanFresh = css.UrlFresh
style_scan_place (ScanBareUrl s t) = css.Url s
style_scan_place (ScanQuotedUrl q e s t) = style_quoted_place q s
style_scan_place ScanEnded = css.UrlEnd

-- Whether the scan state is a start: whether a text that begins at its place is stepped as from there. Of what is no start the place says less.
abbrev pub is_style_start : StyleScan → Bool
is_style_start (ScanCode x) = true
is_style_start (ScanWord w e) = false
is_style_start (ScanSplitEscape e) = false
is_style_start ScanSolidus = false
is_style_start ScanLessThan = false
is_style_start (ScanComment true) = false
is_style_start (ScanComment false) = true
is_style_start ScanStarBefore = true
is_style_start (ScanString q NoEscape) = true
is_style_start (ScanString q e) = false
is_style_start ScanFresh = true
is_style_start (ScanBareUrl s NoTriple) = true
is_style_start (ScanBareUrl s t) = false
is_style_start (ScanQuotedUrl q NoEscape s NoTriple) = true
is_style_start (ScanQuotedUrl q e s t) = false
is_style_start ScanEnded = true

-- The end of a node is refused in an escape and in a percent triple.
abbrev pub style_scan_cut_error : StyleScan → Option StyleCutRefusal
style_scan_cut_error (ScanCode x) = None
style_scan_cut_error (ScanWord w e) = refuses_in_escape e
style_scan_cut_error (ScanSplitEscape e) = refuses_in_escape e
style_scan_cut_error ScanSolidus = None
style_scan_cut_error ScanLessThan = None
style_scan_cut_error (ScanComment star) = None
style_scan_cut_error ScanStarBefore = None
style_scan_cut_error (ScanString q e) = refuses_in_escape e
style_scan_cut_error ScanFresh = None
style_scan_cut_error (ScanBareUrl s t) = url_cut_refusal (refuses_cut_in t)
style_scan_cut_error (ScanQuotedUrl q e s t) = first_refusal (refuses_in_escape e) (url_cut_refusal (refuses_cut_in t))
style_scan_cut_error ScanEnded = None

-- A hole: the place behind it, if it is not refused. In code the value may be a word, or empty: what stood before it still counts. A URL begins
-- with the value, if it has not begun. Behind a URL a hole is refused, and in one as its parts say.
abbrev pub style_at_hole : Css → Css
style_at_hole (css.Code x) = css.Code (style_tails true x.slash x.lt)
style_at_hole css.Dq = css.Dq
style_at_hole css.Sq = css.Sq
style_at_hole css.UrlFresh = css.Url (parts_at_hole (parts_of UrlStart))
style_at_hole (css.Url s) = css.Url (parts_at_hole s)
style_at_hole (css.UrlDq s) = css.UrlDq (parts_at_hole s)
style_at_hole (css.UrlSq s) = css.UrlSq (parts_at_hole s)
style_at_hole css.UrlEnd = css.UrlEnd
style_at_hole (css.Comment star) = css.Comment star

abbrev pub style_hole_error : Css → Option RefusalCode
style_hole_error (css.Code x) = None
style_hole_error css.Dq = None
style_hole_error css.Sq = None
style_hole_error css.UrlFresh = None
style_hole_error (css.Url s) = url_refusal (parts_hole_error s)
style_hole_error (css.UrlDq s) = url_refusal (parts_hole_error s)
style_hole_error (css.UrlSq s) = url_refusal (parts_hole_error s)
style_hole_error css.UrlEnd = Some BadString
style_hole_error (css.Comment star) = None
