-- The scan states of the code, and its answers.
use Rattle.std.specs.Prelude.{Option, Some, None, Result, Ok, Err}
use Rattle.css_lexer.specs.Escapes.{StyleEscape, NoEscape, AfterBackslash, HexDigits, AfterReturn}
use Rattle.css_lexer.specs.RefusalCodes.{RefusalCode, StyleCutRefusal}
use Rattle.css_lexer.specs.States.{Quote, DoubleQuote, SingleQuote, UrlWord, SpellsU, SpellsUr, SpellsUrl, SpellsOther}
use Rattle.css_step.specs.StyleScans.{StyleScan, ScanCode, ScanWord, ScanSplitEscape, ScanSolidus, ScanLessThan, ScanComment, ScanStarBefore, ScanString, ScanFresh, ScanBareUrl, ScanQuotedUrl, ScanEnded, style_at_hole, style_hole_error}
use Rattle.css_step.specs.declared.scan.StyleEscape.{StyleEscape as ReadEscape}
use Rattle.css_step.specs.declared.scan.StyleEscape.TheVariants as escape
use Rattle.css_step.specs.declared.scan.StyleQuote.{StyleQuote}
use Rattle.css_step.specs.declared.scan.StyleQuote.TheVariants as quote
use Rattle.css_step.specs.declared.scan.StyleScan.{StyleScan as ReadScan}
use Rattle.css_step.specs.declared.scan.StyleScan.TheVariants as scan
use Rattle.css_step.specs.declared.scan.StyleTriple.{StyleTriple}
use Rattle.css_step.specs.declared.scan.StyleTriple.TheVariants as triple
use Rattle.css_step.specs.declared.scan.StyleWord.{StyleWord}
use Rattle.css_step.specs.declared.scan.StyleWord.TheVariants as word
use Rattle.css_step.specs.declared.cut.StyleCut.{StyleCut}
use Rattle.place_core.specs.declared.code.Code.{Code}
use Rattle.place_core.specs.page.Tags.{style_code}
use Rattle.place_core.specs.declared.css.Css.{Css}
use Rattle.url_lexer.specs.Triples.{Triple, NoTriple, AfterPercent, AfterDigit}

abbrev pub style_word_at : StyleWord → UrlWord
style_word_at word.U = SpellsU
style_word_at word.Ur = SpellsUr
style_word_at word.Url = SpellsUrl
style_word_at word.Other = SpellsOther

abbrev pub style_escape_at : ReadEscape → StyleEscape
style_escape_at escape.None = NoEscape
style_escape_at escape.Backslash = AfterBackslash
style_escape_at (escape.Digits n) = HexDigits n
style_escape_at escape.Return = AfterReturn

abbrev pub style_quote_at : StyleQuote → Quote
style_quote_at quote.Double = DoubleQuote
style_quote_at quote.Single = SingleQuote

abbrev pub style_triple_at : StyleTriple → Triple
style_triple_at triple.None = NoTriple
style_triple_at triple.Percent = AfterPercent
style_triple_at triple.Digit = AfterDigit

abbrev pub style_scan_at : ReadScan → StyleScan
style_scan_at (scan.Code x) = ScanCode x
style_scan_at (scan.Word w e) = ScanWord (style_word_at w) (style_escape_at e)
style_scan_at (scan.SplitEscape e) = ScanSplitEscape (style_escape_at e)
style_scan_at scan.Solidus = ScanSolidus
style_scan_at scan.LessThan = ScanLessThan
style_scan_at (scan.Comment star) = ScanComment star
style_scan_at scan.StarBefore = ScanStarBefore
style_scan_at (scan.InString q e) = ScanString (style_quote_at q) (style_escape_at e)
style_scan_at scan.Fresh = ScanFresh
style_scan_at (scan.BareUrl s t) = ScanBareUrl s (style_triple_at t)
style_scan_at (scan.QuotedUrl q e s t) = ScanQuotedUrl (style_quote_at q) (style_escape_at e) s (style_triple_at t)
style_scan_at scan.Ended = ScanEnded

-- the end of a node that is refused
abbrev pub style_cut_at : StyleCutRefusal → StyleCut
style_cut_at r = record { code = style_code r.code; back = r.back; shown = r.shown }

-- a hole: the place behind it, where it is not refused
abbrev pub style_or_refusal : Option RefusalCode → Css → Result Css Code
style_or_refusal None c = Ok c
style_or_refusal (Some e) c = Err (style_code e)

abbrev pub style_hole_answer : Css → Result Css Code
style_hole_answer c = style_or_refusal (style_hole_error c) (style_at_hole c)
