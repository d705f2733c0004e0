-- The scan states and the causes of the code, where that many bytes of a text have been read.
use Rattle.std.specs.Prelude.{ℕ, ◌+◌, ◌-◌, ◌*◌, ◌/◌, max, List, [], ◌∷◌, length, Option, Some, None}
use Rattle.std.specs.Str.{str_to_ascii_lowercase}
use Rattle.place_core.specs.page.Classes.{class_of}
use Rattle.place_core.specs.page.References.{Form, Begun, Named, Hashed, Decimal, HexMark, Hexadecimal, Reference, Closed, Open, ReferenceStep, Grows, Closes, Breaks, next_reference}
use Rattle.place_core.specs.page.Comments.{Declaration, OpensComment, OpensDoctype, Undecided, OpensNothing}
use Rattle.place_core.specs.place.Errors.{PathCause}
use Rattle.place_core.specs.page.States.{CommentState, Started, StartedDash, Dash, DashDash, Bang, Pending, Nothing, PendingLess, PendingName, PendingBang, PendingBangDash, PendingOpening}
use Rattle.place_core.specs.page.Tags.{Value, ValueState, Quoting, DoubleQuoted, SingleQuoted, Unquoted}
use Rattle.place_core.specs.declared.element.Element.TheVariants as element
use Rattle.place_core.specs.declared.place.Place.{Place}
use Rattle.url_lexer.specs.Triples.{Triple, NoTriple, AfterPercent, AfterDigit}
use Rattle.html_scan.specs.Scans.{Scan, At, AfterLess, AfterLessSolidus, InDeclaration, InTagName, InAttributeName, InCommentEnd, InContentEnd, InStyleElement, InScriptElement, InUrl, InStyle, InScript, BeforeType, InType, type_begun, type_read}
use Rattle.html_scan.specs.Slices.{pending}
use Rattle.css_lexer.specs.Escapes.{StyleEscape, AfterBackslash}
use Rattle.css_step.specs.StyleScans.{StyleScan, ScanWord, ScanSplitEscape, ScanString, ScanQuotedUrl}
use Rattle.css_step.specs.StyleScanViews.{style_scan_at}
use Rattle.js_lexer.specs.States as script
use Rattle.js_step.specs.ScriptScans.{ScriptScan}
use Rattle.js_step.specs.ScriptScanViews.{script_scan_at}
use Rattle.js_step.specs.declared.scan.ScriptScan.{ScriptScan as ReadScript}
use Rattle.html_scan.specs.declared.declaration.Declaration.{Declaration as ReadDeclaration}
use Rattle.html_scan.specs.declared.declaration.Declaration.TheVariants as declaration
use Rattle.html_scan.specs.declared.cause.Cause.{Cause as ReadCause}
use Rattle.html_scan.specs.declared.comment_stage.CommentStage.{CommentStage}
use Rattle.html_scan.specs.declared.comment_stage.CommentStage.TheVariants as stage
use Rattle.html_scan.specs.declared.quoting.Quoting.{Quoting as ReadQuoting}
use Rattle.html_scan.specs.declared.quoting.Quoting.TheVariants as quoting
use Rattle.html_scan.specs.declared.references.OpenReference.{OpenReference}
use Rattle.html_scan.specs.declared.references.Outcome.{Outcome}
use Rattle.html_scan.specs.declared.references.Outcome.TheVariants as outcome
use Rattle.html_scan.specs.declared.references.ReferenceForm.{ReferenceForm}
use Rattle.html_scan.specs.declared.references.ReferenceForm.TheVariants as form
use Rattle.html_scan.specs.declared.scan.Scan.{Scan as ReadScan}
use Rattle.html_scan.specs.declared.scan.Scan.TheVariants as scan
use Rattle.html_scan.specs.declared.script_pending.ScriptPending.{ScriptPending}
use Rattle.html_scan.specs.declared.script_pending.ScriptPending.TheVariants as back
use Rattle.html_scan.specs.declared.triple.Triple.{Triple as ReadTriple}
use Rattle.html_scan.specs.declared.triple.Triple.TheVariants as triple

abbrev pub cause_at : Option ReadCause → Option PathCause
cause_at None = None
cause_at (Some e) = Some (record { code = e.code; back = e.back; shown = e.shown })

abbrev pub stage_at : CommentStage → CommentState
stage_at stage.Started = Started
stage_at stage.StartedDash = StartedDash
stage_at stage.Dash = Dash
stage_at stage.DashDash = DashDash
stage_at stage.Bang = Bang

abbrev pub quoting_at : ReadQuoting → Quoting
quoting_at quoting.Double = DoubleQuoted
quoting_at quoting.Single = SingleQuoted
quoting_at quoting.Unquoted = Unquoted

abbrev pub triple_at : ReadTriple → Triple
triple_at triple.None = NoTriple
triple_at triple.AfterPercent = AfterPercent
triple_at triple.AfterDigit = AfterDigit

-- A reference in a URL or a style: its form; and its bytes, which stand behind its `&`, where that many bytes of the text have been read.
abbrev pub open_form_at : ReferenceForm → Form
open_form_at form.Begun = Begun
open_form_at form.Named = Named
open_form_at form.Hashed = Hashed
open_form_at form.Decimal = Decimal
open_form_at form.HexMark = HexMark
open_form_at form.Hexadecimal = Hexadecimal

abbrev pub outcome_at : Outcome → ReferenceStep
outcome_at (outcome.Grows f) = Grows (open_form_at f)
outcome_at outcome.Closes = Closes
outcome_at outcome.Breaks = Breaks

abbrev pub open_reference_at : List ℕ → ℕ → Option OpenReference → Reference
open_reference_at text k None = Closed
open_reference_at text k (Some r) = Open (open_form_at r.form) (pending text (r.from + 1) k)

-- what bytes make of the value of a type
abbrev pub read_type : Value ValueState → Reference → List ℕ → Value ValueState × Reference
read_type v r [] = (v, r)
read_type v r (b ∷ bs) = read_type (type_read v r b) (next_reference r (class_of b) b) bs

-- What is pending back in the element `script`; its letters are the last ones of the bytes that have been read. And how many bytes it is.
abbrev pub script_pending_at : List ℕ → ℕ → ScriptPending → Pending
script_pending_at text k back.Nothing = Nothing
script_pending_at text k back.Less = PendingLess
script_pending_at text k (back.Name letters) = PendingName (pending text (k - letters) k)
script_pending_at text k back.Bang = PendingBang
script_pending_at text k back.BangDash = PendingBangDash
script_pending_at text k (back.Opening letters) = PendingOpening (pending text (k - letters) k)

abbrev pub pending_length : ScriptPending → ℕ
pending_length back.Nothing = 0
pending_length back.Less = 1
pending_length (back.Name letters) = letters + 2
pending_length back.Bang = 2
pending_length back.BangDash = 3
pending_length (back.Opening letters) = letters + 1

-- the scan state after that many bytes of a text
abbrev pub scan_at : List ℕ → ℕ → ReadScan → Scan
scan_at text k (scan.At p) = At p
scan_at text k scan.AfterLess = AfterLess
scan_at text k scan.AfterLessSolidus = AfterLessSolidus
scan_at text k (scan.InDeclaration from) = InDeclaration (pending text from k)
scan_at text k (scan.InTagName ends from) = InTagName ends (str_to_ascii_lowercase (pending text from k))
scan_at text k (scan.InAttributeName t typed from) = InAttributeName t typed (str_to_ascii_lowercase (pending text from k))
scan_at text k (scan.InCommentEnd s) = InCommentEnd (stage_at s)
scan_at text k (scan.InUrl v t r) = InUrl v (triple_at t) (open_reference_at text k r)
scan_at text k (scan.InStyle v s r) = InStyle v (style_scan_at s) (open_reference_at text k r)
scan_at text k (scan.InScript v n r) = InScript v (script_scan_at n) (open_reference_at text k r)
scan_at text k (scan.AfterContentLess e) = InContentEnd e PendingLess
scan_at text k (scan.InContentName e from) = InContentEnd e (PendingName (pending text (from + 2) k))
scan_at text k (scan.InStyleElement s) = InStyleElement (style_scan_at s) Nothing
scan_at text k (scan.AfterStyleLess s) = InStyleElement (style_scan_at s) PendingLess
scan_at text k (scan.InStyleName s from) = InStyleElement (style_scan_at s) (PendingName (pending text (from + 2) k))
scan_at text k (scan.InScriptElement n p) = InScriptElement (script_scan_at n) (script_pending_at text k p)
scan_at text k scan.AfterBlockBang = InContentEnd element.DataBlock PendingBang
scan_at text k scan.AfterBlockBangDash = InContentEnd element.DataBlock PendingBangDash
scan_at text k (scan.BeforeType t) = BeforeType t
scan_at text k (scan.InType t q from) = (let read = read_type type_begun Closed (pending text from k) in InType t (quoting_at q) read.0 read.1)

-- how many bytes of the text have been read at least: up to where the name or the value begins, or what is pending
abbrev pub reference_from : Option OpenReference → ℕ
reference_from None = 0
reference_from (Some r) = r.from + 1

-- in a style, an escape whose backslash is the last byte
abbrev pub begun_escape : StyleEscape → ℕ
begun_escape AfterBackslash = 1
begun_escape e = 0

abbrev pub begun_lexeme : StyleScan → ℕ
begun_lexeme (ScanWord w e) = begun_escape e
begun_lexeme (ScanSplitEscape e) = begun_escape e
begun_lexeme (ScanString q e) = begun_escape e
begun_lexeme (ScanQuotedUrl q e s t) = begun_escape e
begun_lexeme s = 0

-- The greatest of the counts of a script, which are of the bytes that it was fed since a lexeme began. Each byte of a text feeds a script
-- no more than five, as it may end a reference to a character of four, and what a reference that is open may be is fed behind it.
abbrev pub greatest : List ℕ → ℕ
greatest [] = 0
greatest (x ∷ xs) = max x (greatest xs)

abbrev pub script_count : ReadScript → ℕ
script_count n = greatest ((n.trail.brace - 2) ∷ n.trail.bracket ∷ n.trail.literal ∷ n.literals.braces)

abbrev pub script_from : ℕ → Option OpenReference → ℕ
script_from count None = (count + 4) / 5
script_from count (Some r) = r.from + 1 + (count - 5 * r.from)

-- In an element each byte of a text feeds a script once, so that its counts are no greater than what has been read. Nor are those of the bytes of
-- which a cause says that it stands so far back: of a slash, of a character, of an escape, of what may become markup.
abbrev pub slash_back : script.At → ℕ
slash_back (script.Slash s) = 1
slash_back a = 0

abbrev pub script_lookback : ScriptScan → ℕ
script_lookback n =
    greatest (slash_back n.state.at ∷ length n.state.held ∷ length n.state.trail.markup ∷ length n.state.trail.escape ∷ n.state.trail.brace
    ∷ n.state.trail.bracket ∷ n.state.trail.literal ∷ [])

abbrev pub script_reach : ReadScript → ℕ
script_reach n = max (script_count n) (script_lookback (script_scan_at n))

abbrev pub pending_from : ReadScan → ℕ
pending_from (scan.At p) = 0
pending_from scan.AfterLess = 0
pending_from scan.AfterLessSolidus = 0
pending_from (scan.InDeclaration from) = from
pending_from (scan.InTagName ends from) = from
pending_from (scan.InAttributeName t typed from) = from
pending_from (scan.InCommentEnd s) = 0
pending_from (scan.InUrl v t r) = reference_from r
pending_from (scan.InStyle v s r) = reference_from r
pending_from (scan.InScript v n r) = script_from (script_count n) r
pending_from (scan.AfterContentLess e) = 1
pending_from (scan.InContentName e from) = from + 2
pending_from (scan.InStyleElement s) = begun_lexeme (style_scan_at s)
pending_from (scan.AfterStyleLess s) = begun_lexeme (style_scan_at s) + 1
pending_from (scan.InStyleName s from) = from + 2
pending_from (scan.InScriptElement n p) = script_reach n + pending_length p
pending_from scan.AfterBlockBang = 2
pending_from scan.AfterBlockBangDash = 3
pending_from (scan.BeforeType t) = 0
pending_from (scan.InType t q from) = from

-- a place to which a byte leads by the quotes of a value, or where the value goes on with it
abbrev pub unless_led : Option Place → (goes_on : Scan) → Scan
unless_led None goes_on = goes_on
unless_led (Some p) goes_on = At p

abbrev pub declaration_at : ReadDeclaration → Declaration
declaration_at declaration.Comment = OpensComment
declaration_at declaration.Doctype = OpensDoctype
declaration_at declaration.Undecided = Undecided
declaration_at declaration.Nothing = OpensNothing
