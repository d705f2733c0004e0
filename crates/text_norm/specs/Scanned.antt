-- The same for all the paths of a place together: by the scan state to which they have read the text, and the reference that is open there.
use Rattle.std.specs.Prelude.{ℕ, Bool, true, codes, List, [], ◌∷◌, ◌++◌}
use Rattle.css_lexer.specs.Classes.{style_class}
use Rattle.css_lexer.specs.Written.{written_behind_solidus, written_byte, written_in_word}
use Rattle.css_lexer.specs.declared.class.StyleClass.{StyleClass}
use Rattle.css_lexer.specs.declared.class.StyleClass.TheVariants as style
use Rattle.css_step.specs.StyleScans.{StyleScan, ScanCode, ScanWord, ScanSplitEscape, ScanSolidus, ScanLessThan, ScanComment, ScanStarBefore, style_scan_start}
use Rattle.js_lexer.specs.Written.{script_hides, script_written, script_written_at_cut}
use Rattle.js_step.specs.ScriptScans.{ScriptScan, script_scan_start, script_shared}
use Rattle.place_core.specs.page.Classes.{Class, ExclamationMark, Solidus, LessThan, class_of}
use Rattle.place_core.specs.page.Comments.{Declaration, Undecided, OpensNothing, declared_by}
use Rattle.place_core.specs.page.References.{Reference, Closed, as_it_stands, begin_reference, next_reference}
use Rattle.place_core.specs.page.States.{Pending, Nothing}
use Rattle.place_core.specs.declared.element.Element.{Element}
use Rattle.place_core.specs.declared.element.Element.TheVariants as element
use Rattle.place_core.specs.declared.place.Place.{Place}
use Rattle.place_core.specs.declared.place.Place.TheVariants as place
use Rattle.html_scan.specs.Scans.{Scan, At, AfterLess, AfterLessSolidus, InDeclaration, InTagName, InAttributeName, InCommentEnd, InContentEnd, InStyleElement, InScriptElement, InUrl, InStyle, InScript, BeforeType, InType, scan_next, script_fed_byte, script_scan_may_end, style_feeding}
use Rattle.text_norm.specs.Written.{ContentWriting, ScriptWriting, script_cut_out, script_out, content_cut_out, content_out, declaration_out, language_content_cut_out, language_content_out, language_loose_out, text_escaped, less_out, loose_out, reference_out, solidus_out, text_out}

-- the reference that is open after a byte
abbrev pub text_open : Class → ℕ → Reference → Reference
text_open LessThan b r = r
text_open c b r = next_reference r c b

abbrev pub less_open : Class → Reference → Reference
less_open Solidus r = r
less_open ExclamationMark r = r
less_open c r = begin_reference c

abbrev pub declaration_open : Declaration → Class → Reference → Reference
declaration_open Undecided c r = r
declaration_open OpensNothing c r = begin_reference c
declaration_open d c r = Closed

-- a data block has no references, and is no such place
abbrev pub rcdata_open : Element → Class → ℕ → Reference → Reference
rcdata_open element.DataBlock c b r = Closed
rcdata_open e c b r = next_reference r c b

abbrev pub place_open : Place → Class → ℕ → Reference → Reference
place_open place.Text c b r = text_open c b r
place_open (place.Rcdata e) c b r = rcdata_open e c b r
place_open (place.Value v) c b r = next_reference r c b
place_open p c b r = Closed

abbrev pub content_end_open : Element → Class → Reference
content_end_open element.DataBlock c = Closed
content_end_open e c = begin_reference c

abbrev pub scan_open : Scan → Class → ℕ → Reference → Reference
scan_open (At p) c b r = place_open p c b r
scan_open AfterLess c b r = less_open c r
scan_open AfterLessSolidus c b r = begin_reference c
scan_open (InDeclaration pending) c b r = declaration_open (declared_by (pending ++ b ∷ [])) c r
scan_open (InTagName ends name) c b r = Closed
scan_open (InAttributeName t typed name) c b r = Closed
scan_open (InCommentEnd s) c b r = Closed
scan_open (InContentEnd e h) c b r = content_end_open e c
scan_open (InStyleElement s h) c b r = Closed
scan_open (InScriptElement n h) c b r = Closed
scan_open (InUrl v t z) c b r = next_reference r c b
scan_open (InStyle v s z) c b r = next_reference r c b
scan_open (InScript v n z) c b r = next_reference r c b
scan_open (BeforeType t) c b r = next_reference r c b
scan_open (InType t q v z) c b r = next_reference r c b

-- A style in its element, as what is written of one path is, by its scan state: of the byte at hand, which ends a comment with a `/` behind a `*`.
abbrev pub comment_scan_out : (star : Bool) → StyleClass → List ℕ
comment_scan_out true style.Solidus = codes " "
comment_scan_out star c = []

abbrev pub style_scan_out : StyleScan → StyleClass → ℕ → List ℕ
style_scan_out (ScanCode x) c b = written_byte c b
style_scan_out (ScanWord w e) c b = written_in_word e c b
style_scan_out (ScanSplitEscape e) c b = written_in_word e c b
style_scan_out ScanSolidus c b = written_behind_solidus c b
style_scan_out ScanLessThan c b = written_byte c b
style_scan_out (ScanComment star) c b = comment_scan_out star c
style_scan_out ScanStarBefore c b = comment_scan_out true c
style_scan_out s c b = b ∷ []

abbrev pub style_scan_cut_out : StyleScan → List ℕ
style_scan_cut_out ScanSolidus = codes "/"
style_scan_cut_out (ScanComment star) = codes " "
style_scan_cut_out ScanStarBefore = codes " "
style_scan_cut_out s = []

abbrev pub scan_writing : ContentWriting StyleScan
scan_writing = record { feeding = style_feeding; byte = λ s b. style_scan_out s (style_class b) b; cut = style_scan_cut_out }

-- a script in its element: as the state says that its paths share
abbrev pub scripts_writing : ScriptWriting ScriptScan
scripts_writing = record {
  feed = script_fed_byte;
  may_end = script_scan_may_end;
  byte = λ n b. script_written (script_shared n) b;
  hides = λ n bytes. script_hides (script_shared n) bytes;
  cut = λ n. script_written_at_cut (script_shared n);
}

-- what is written at a byte, and at the end; a data block is written as it stands
abbrev pub rcdata_out : Element → Class → ℕ → Reference → List ℕ
rcdata_out element.DataBlock c b r = b ∷ []
rcdata_out e c b r = loose_out c b r

abbrev pub place_out : Place → Class → ℕ → Reference → List ℕ
place_out place.Text c b r = text_out c b r
place_out (place.Comment dash) c b r = []
place_out (place.Rcdata e) c b r = rcdata_out e c b r
place_out (place.Value v) c b r = reference_out r c b
place_out (place.Style p) c b r = language_loose_out scan_writing c b (style_scan_start p)
place_out (place.Script j) c b r = script_out scripts_writing Nothing c b element.Script (script_scan_start j)
place_out p c b r = b ∷ []

abbrev pub content_end_out : Element → Pending → Class → ℕ → Reference → List ℕ
content_end_out element.DataBlock h c b r = b ∷ []
content_end_out e h c b r = content_out h c b e r

abbrev pub scan_out : Scan → Class → ℕ → Reference → List ℕ
scan_out (At p) c b r = place_out p c b r
scan_out AfterLess c b r = less_out c b r
scan_out AfterLessSolidus c b r = solidus_out c b r
scan_out (InDeclaration pending) c b r = declaration_out (declared_by (pending ++ b ∷ [])) c b r pending
scan_out (InTagName ends name) c b r = b ∷ []
scan_out (InAttributeName t typed name) c b r = b ∷ []
scan_out (InCommentEnd s) c b r = []
scan_out (InContentEnd e h) c b r = content_end_out e h c b r
scan_out (InStyleElement s h) c b r = language_content_out scan_writing h c b element.Style s
scan_out (InScriptElement n h) c b r = script_out scripts_writing h c b element.Script n
scan_out (InUrl v t z) c b r = reference_out r c b
scan_out (InStyle v s z) c b r = reference_out r c b
scan_out (InScript v n z) c b r = reference_out r c b
scan_out (BeforeType t) c b r = reference_out r c b
scan_out (InType t q v z) c b r = reference_out r c b

abbrev pub content_end_cut_out : Element → Pending → Reference → List ℕ
content_end_cut_out element.DataBlock h r = []
content_end_cut_out e h r = content_cut_out h r

abbrev pub place_cut_out : Place → Reference → List ℕ
place_cut_out (place.Style p) r = style_scan_cut_out (style_scan_start p)
place_cut_out (place.Script j) r = script_written_at_cut (script_shared (script_scan_start j))
place_cut_out p r = text_escaped r

abbrev pub scan_cut_out : Scan → Reference → List ℕ
scan_cut_out (At p) r = place_cut_out p r
scan_cut_out AfterLess r = as_it_stands r ++ codes "&lt;"
scan_cut_out AfterLessSolidus r = (as_it_stands r ++ codes "&lt;") ++ codes "/"
scan_cut_out (InDeclaration pending) r = (as_it_stands r ++ codes "&lt;") ++ (codes "!" ++ pending)
scan_cut_out (InTagName ends name) r = []
scan_cut_out (InAttributeName t typed name) r = []
scan_cut_out (InCommentEnd s) r = []
scan_cut_out (InContentEnd e h) r = content_end_cut_out e h r
scan_cut_out (InStyleElement s h) r = language_content_cut_out scan_writing h s
scan_cut_out (InScriptElement n h) r = script_cut_out scripts_writing h n
scan_cut_out (InUrl v t z) r = text_escaped r
scan_cut_out (InStyle v s z) r = text_escaped r
scan_cut_out (InScript v n z) r = text_escaped r
scan_cut_out (BeforeType t) r = text_escaped r
scan_cut_out (InType t q v z) r = text_escaped r

-- what is written of a text, from a scan state, and from a place
abbrev pub written_from : List ℕ → Scan → Reference → List ℕ
written_from [] f r = scan_cut_out f r
written_from (b ∷ bs) f r = scan_out f (class_of b) b r ++ written_from bs (scan_next f (class_of b) b) (scan_open f (class_of b) b r)

abbrev pub written_at : List ℕ → Place → List ℕ
written_at bytes p = written_from bytes (At p) Closed
