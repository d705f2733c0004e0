-- What a writer may be given and what it writes, by the outputs of the pair that is open.
use Rattle.std.specs.Prelude.{◌≡◌, ℕ, ◌+◌, ◌<◌, ◌≤◌, List, [], ◌∷◌, ◌++◌, String, Vec, length, map, string_bytes, ⊤}
use Rattle.std.specs.Str.{IsUtf8}
use Rattle.std.specs.declared.alloc.Global.{Global}
use Rattle.page_datum.specs.Data.{Data}
use Rattle.page_path.specs.Pages.{PagePiece, datum_bytes, max_page, page_bytes, san_bytes, value_pieces, words}
use Rattle.page_path.specs.Textual.{IsTextBy, IsTextFor}
use Rattle.page_writer.specs.Outputs.{output_in}
use Rattle.page_writer.specs.declared.output.Output.{Output}
use Rattle.page_writer.specs.declared.output.Output.TheVariants as output
use Rattle.page_writer.specs.declared.writer.PageWriter.{PageWriter}
use Rattle.place_core.specs.declared.chain.Chain.{Chain}
use Rattle.place_core.specs.declared.san.San.{San}
use Rattle.place_core.specs.declared.san.San.TheVariants as san
use Rattle.text_norm.specs.HoleLaws.{sanitizers}
use Rattle.tpl_events.specs.Events.{ExecEvent, enters, gives_hole, gives_text, leaves}
use Rattle.tpl_events.specs.declared.sink.HoleStop.{HoleStop}
use Rattle.tpl_events.specs.declared.sink.HoleStop.TheVariants as stop

-- the output of a node of the pair that was opened last and is not left; nothing where none is open
abbrev pub open_output : List (List Output) → List ℕ → ℕ → Output
open_output outputs [] node = output.Nothing
open_output outputs (n ∷ ns) node = output_in outputs n node

abbrev pub IsTextNode : Output → Type 0
IsTextNode (output.Text bytes) = ⊤
IsTextNode _ = ⊥

-- A sanitizer that reads a text. That of a script's values reads the datum itself.
abbrev pub ReadsText : San → Type 0
ReadsText san.Html = ⊤
ReadsText san.Attr = ⊤
ReadsText san.AttrNospace = ⊤
ReadsText san.AttrName = ⊤
ReadsText san.Drop = ⊤
ReadsText san.UrlFilter = ⊤
ReadsText san.UrlOpen = ⊤
ReadsText san.UrlNorm = ⊤
ReadsText san.UrlQuery = ⊤
ReadsText san.CssValue = ⊤
ReadsText san.CssString = ⊤
ReadsText san.JsValue = ⊥
ReadsText san.JsString = ⊤
ReadsText san.JsRegexp = ⊤

-- A sanitizer that may be behind another one, as those of values are, and in a URL that which keeps what may stand there. It writes
-- at least as many bytes as it reads, so what is kept between two sanitizers is never more than what the page gets.
abbrev pub MayFollow : San → Type 0
MayFollow san.Attr = ⊤
MayFollow san.AttrNospace = ⊤
MayFollow san.UrlNorm = ⊤
MayFollow san.Html = ⊥
MayFollow san.AttrName = ⊥
MayFollow san.Drop = ⊥
MayFollow san.JsValue = ⊥
MayFollow san.JsString = ⊥
MayFollow san.JsRegexp = ⊥
MayFollow san.CssValue = ⊥
MayFollow san.CssString = ⊥
MayFollow san.UrlFilter = ⊥
MayFollow san.UrlOpen = ⊥
MayFollow san.UrlQuery = ⊥

abbrev pub MayAllFollow : List San → Type 0
MayAllFollow [] = ⊤
MayAllFollow (x ∷ xs) = MayFollow x × MayAllFollow xs

-- a chain of one sanitizer at least, in which each may stand where it does
abbrev pub AreInOrder : List San → Type 0
AreInOrder [] = ⊥
AreInOrder (x ∷ xs) = MayAllFollow xs

abbrev pub IsOrderedChain : Chain → Type 0
IsOrderedChain c = AreInOrder (sanitizers c)

abbrev pub IsValue : Output → Type 0
IsValue (output.Value c) = IsOrderedChain c
IsValue _ = ⊥

abbrev pub IsCallNode : Output → Type 0
IsCallNode (output.Call m) = ⊤
IsCallNode _ = ⊥

-- what may be given where these pairs are open: a text, a value or a call where that is the node's output, a value by such a chain
abbrev pub MayGive : List (List Output) → List ℕ → ExecEvent → Type 0
MayGive outputs ns (gives_text n) = IsTextNode (open_output outputs ns n)
MayGive outputs ns (gives_hole n datum) = IsValue (open_output outputs ns n)
MayGive outputs ns (enters n) = IsCallNode (open_output outputs ns n)
MayGive outputs ns leaves = ⊤

-- the bytes that are written for a value by a chain
abbrev pub value_written : Chain → Data → List ℕ
value_written c datum = page_bytes (value_pieces c datum)

abbrev pub text_output : Output → List PagePiece
text_output (output.Text bytes) = words bytes ∷ []
text_output _ = []

abbrev pub value_output : Output → Data → List PagePiece
value_output (output.Value c) datum = value_pieces c datum
value_output _ datum = []

abbrev pub output_pieces : List (List Output) → List ℕ → ExecEvent → List PagePiece
output_pieces outputs ns (gives_text n) = text_output (open_output outputs ns n)
output_pieces outputs ns (gives_hole n datum) = value_output (open_output outputs ns n) datum
output_pieces outputs ns (enters n) = []
output_pieces outputs ns leaves = []

-- A sanitizer writes the same for a text as for a datum where it is the first of its chain; and where the text is UTF-8, so is what is asked
-- of the datum.
pub record IsWrittenAlike (x : San) (text : List ℕ) (datum : Data) : Type 0 where
  pub same : san_bytes x text ≡ datum_bytes x datum
  pub textual : IsUtf8 text → IsTextFor x datum

-- what is asked to be UTF-8 of a value, by the chain of an output
abbrev pub IsTextOutput : Output → Data → Type 0
IsTextOutput (output.Value c) datum = IsTextBy c datum
IsTextOutput _ datum = ⊤

-- the same of an event, by the output of its node
abbrev pub IsGivenText : List (List Output) → List ℕ → ExecEvent → Type 0
IsGivenText outputs ns (gives_text n) = ⊤
IsGivenText outputs ns (gives_hole n datum) = IsTextOutput (open_output outputs ns n) datum
IsGivenText outputs ns (enters n) = ⊤
IsGivenText outputs ns leaves = ⊤

-- the pairs that are open after an event, the innermost first
abbrev pub page_opened : Output → List ℕ → List ℕ
page_opened (output.Call m) ns = m ∷ ns
page_opened _ ns = ns

abbrev pub page_left : List ℕ → List ℕ
page_left [] = []
page_left (n ∷ ns) = ns

abbrev pub page_open_after : List (List Output) → List ℕ → ExecEvent → List ℕ
page_open_after outputs ns (gives_text n) = ns
page_open_after outputs ns (gives_hole n datum) = ns
page_open_after outputs ns (enters n) = page_opened (open_output outputs ns n) ns
page_open_after outputs ns leaves = page_left ns

-- the outputs that a writer goes by: by the pairs, and in each by the nodes
abbrev pub outputs_in : PageWriter → List (List Output)
outputs_in w = map (λ row. row.items) w.outputs.now

-- a writer of a page without bytes, where this pair is open
pub record IsPageBegun (given : List (Vec Output Global)) (pair : ℕ) (w : PageWriter) : Type 0 where
  pub outputs : w.outputs.now ≡ given
  pub pairs : w.pairs ≡ pair ∷ []
  pub page : string_bytes w.page ≡ []

-- bytes stand after those of a page, which is no longer than it may be
pub record IsAppended (old : String Global) (bytes : List ℕ) (new : String Global) : Type 0 where
  pub page : string_bytes new ≡ string_bytes old ++ bytes
  pub fits : length (string_bytes new) ≤ max_page

-- likewise, or the page is longer
abbrev pub IsTooLong : String Global → HoleStop → Type 0
IsTooLong page stop.SinkStop = ⊥
IsTooLong page stop.TooLong = max_page < length (string_bytes page)
IsTooLong page stop.Memory = ⊥

-- likewise, or it would be, or memory ran out
abbrev pub IsUnfit : String Global → List ℕ → HoleStop → Type 0
IsUnfit page bytes stop.SinkStop = ⊥
IsUnfit page bytes stop.TooLong = max_page < length (string_bytes page) + length bytes
IsUnfit page bytes stop.Memory = ⊤

-- An event is taken: its pieces stand after the page, which is no longer than it may be.
pub record Takes (w : PageWriter) (e : ExecEvent) (v : PageWriter) : Type 0 where
  pub outputs : v.outputs.now ≡ w.outputs.now
  pub pairs : v.pairs ≡ page_open_after (outputs_in w) w.pairs e
  pub page : string_bytes v.page ≡ string_bytes w.page ++ page_bytes (output_pieces (outputs_in w) w.pairs e)
  pub fits : length (string_bytes w.page) ≤ max_page → length (string_bytes v.page) ≤ max_page
  pub textual : IsGivenText (outputs_in w) w.pairs e

-- likewise, or refused: the page would be longer, or memory ran out
abbrev pub WriterDeclines : PageWriter → ExecEvent → HoleStop → PageWriter → Type 0
WriterDeclines w e stop.SinkStop v = ⊥
WriterDeclines w e stop.TooLong v = max_page < length (string_bytes w.page) + length (page_bytes (output_pieces (outputs_in w) w.pairs e))
WriterDeclines w e stop.Memory v = ⊤

abbrev pub WriterMay : PageWriter → ExecEvent → Type 0
WriterMay w e = MayGive (outputs_in w) w.pairs e
