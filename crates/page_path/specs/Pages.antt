-- The page of a set of templates, of a root and a datum: what is written for each event of the execution, by what the path has read up to
-- it. Nothing here speaks of charts, or of how a page is made.
use Rattle.std.specs.Prelude.{ℕ, ◌+◌, List, [], ◌∷◌, ◌++◌, length, nat_le, if◌then◌else◌, Option, Some, None, Ok, Err}
use Rattle.page_datum.specs.Data.{Data}
use Rattle.page_datum.specs.Execution.{Execution, done, faulted}
use Rattle.page_datum.specs.Printed.{printed}
use Rattle.place_core.specs.place.Errors.{node}
use Rattle.place_core.specs.page.Html.{start}
use Rattle.place_core.specs.page.Paths.{at_hole}
use Rattle.place_core.specs.page.Shape.{ShapePart, TextPart, HolePart, event_bytes}
use Rattle.place_core.specs.place.StatePlaces.{placed}
use Rattle.place_core.specs.page.States.{LexState}
use Rattle.place_core.specs.page.Tags.{ValueState, languages}
use Rattle.place_core.specs.declared.chain.Chain.{Chain}
use Rattle.place_core.specs.declared.place.Place.{Place}
use Rattle.place_core.specs.declared.san.San.{San}
use Rattle.place_core.specs.declared.san.San.TheVariants as san
use Rattle.css_lexer.specs.Sanitizers.{css_string, css_value}
use Rattle.html_step.specs.Holes.{Holed, after_hole}
use Rattle.js_lexer.specs.Sanitizers.{js_regexp, js_string, js_value}
use Rattle.san_html.specs.Sanitizers.{html, attr_nospace, attr_name}
use Rattle.text_norm.specs.HoleLaws.{leaves_out, sanitizers}
use Rattle.text_norm.specs.Written.{written}
use Rattle.tpl_events.specs.Events.{Emission, ExecEvent, enters, gives_hole, gives_text, leaves}
use Rattle.tpl_exec.specs.Executing.{too_long}
use Rattle.tpl_exec.specs.Meaning.{Finish, finish_of, finished, meaning, stopped}
use Rattle.tpl_paths.specs.Edges.{node_kind_at}
use Rattle.tpl_tree.specs.Forests.{ForestData}
use Rattle.tpl_tree.specs.declared.node_kind.NodeKind.{NodeKind}
use Rattle.tpl_tree.specs.declared.node_kind.NodeKind.TheVariants as kind
use Rattle.url_lexer.specs.Sanitizers.{url_filter, url_norm, url_open, url_query}

-- What a sanitizer gives for the bytes of the one before it. That of a script's values reads data, so none is before it.
abbrev pub san_bytes : San → List ℕ → List ℕ
san_bytes san.Html bytes = html bytes
san_bytes san.Attr bytes = html bytes
san_bytes san.AttrNospace bytes = attr_nospace bytes
san_bytes san.AttrName bytes = attr_name bytes
san_bytes san.Drop bytes = []
san_bytes san.UrlFilter bytes = url_filter bytes
san_bytes san.UrlOpen bytes = url_open bytes
san_bytes san.UrlNorm bytes = url_norm bytes
san_bytes san.UrlQuery bytes = url_query bytes
san_bytes san.CssValue bytes = css_value bytes
san_bytes san.CssString bytes = css_string bytes
san_bytes san.JsString bytes = js_string bytes
san_bytes san.JsRegexp bytes = js_regexp bytes
san_bytes san.JsValue bytes = []

-- What a sanitizer gives for a datum, where it is the first of its chain: what it gives for the datum's printed text. That of a script's
-- values reads the datum itself, whose text does not tell a number from a text of digits.
abbrev pub datum_bytes : San → Data → List ℕ
datum_bytes san.Html datum = san_bytes san.Html (printed datum)
datum_bytes san.Attr datum = san_bytes san.Attr (printed datum)
datum_bytes san.AttrNospace datum = san_bytes san.AttrNospace (printed datum)
datum_bytes san.AttrName datum = san_bytes san.AttrName (printed datum)
datum_bytes san.Drop datum = san_bytes san.Drop (printed datum)
datum_bytes san.UrlFilter datum = san_bytes san.UrlFilter (printed datum)
datum_bytes san.UrlOpen datum = san_bytes san.UrlOpen (printed datum)
datum_bytes san.UrlNorm datum = san_bytes san.UrlNorm (printed datum)
datum_bytes san.UrlQuery datum = san_bytes san.UrlQuery (printed datum)
datum_bytes san.CssValue datum = san_bytes san.CssValue (printed datum)
datum_bytes san.CssString datum = san_bytes san.CssString (printed datum)
datum_bytes san.JsValue datum = js_value datum
datum_bytes san.JsString datum = san_bytes san.JsString (printed datum)
datum_bytes san.JsRegexp datum = san_bytes san.JsRegexp (printed datum)

-- what a chain gives for a datum: each sanitizer behind the first reads the bytes of the one before it
abbrev pub bytes_behind : List San → List ℕ → List ℕ
bytes_behind [] bytes = bytes
bytes_behind (x ∷ xs) bytes = bytes_behind xs (san_bytes x bytes)

abbrev pub list_bytes : List San → Data → List ℕ
list_bytes [] datum = printed datum
list_bytes (x ∷ xs) datum = bytes_behind xs (datum_bytes x datum)

abbrev pub chain_bytes : Chain → Data → List ℕ
chain_bytes c datum = list_bytes (sanitizers c) datum

-- a piece of a page: the bytes of a text; or the datum of a value, with the bytes that are written for it
pub data PagePiece : Type 0 where
  words : List ℕ → PagePiece
  value : Data → List ℕ → PagePiece

abbrev pub piece_part : PagePiece → ShapePart
piece_part (words bytes) = TextPart bytes
piece_part (value datum bytes) = HolePart bytes

abbrev pub page_parts : List PagePiece → List ShapePart
page_parts [] = []
page_parts (p ∷ ps) = piece_part p ∷ page_parts ps

abbrev pub page_bytes : List PagePiece → List ℕ
page_bytes ps = event_bytes (page_parts ps)

-- the bytes of a text of a template, and the template that one calls
abbrev pub bytes_in : Option NodeKind → List ℕ
bytes_in (Some (kind.Text bytes)) = bytes
bytes_in _ = []

abbrev pub callee_in : Option NodeKind → List ℕ
callee_in (Some (kind.Template name pipe)) = name
callee_in _ = []

-- A node is one of the template that was entered last and has not been left. These are the templates that are open, the innermost first.
abbrev pub kind_in : ForestData → List (List ℕ) → ℕ → Option NodeKind
kind_in forest [] n = None
kind_in forest (t ∷ ts) n = node_kind_at forest t n

abbrev pub left_open : List (List ℕ) → List (List ℕ)
left_open [] = []
left_open (t ∷ ts) = ts

abbrev pub open_behind : ForestData → ExecEvent → List (List ℕ) → List (List ℕ)
open_behind forest (gives_text n) ts = ts
open_behind forest (gives_hole n datum) ts = ts
open_behind forest (enters n) ts = callee_in (kind_in forest ts n) ∷ ts
open_behind forest leaves ts = left_open ts

-- what the path has read after an event
abbrev pub state_behind : ForestData → ExecEvent → List (List ℕ) → LexState ValueState → LexState ValueState
state_behind forest (gives_text n) ts s = node (bytes_in (kind_in forest ts n)) s
state_behind forest (gives_hole n datum) ts s = at_hole languages s
state_behind forest (enters n) ts s = s
state_behind forest leaves ts s = s

-- what is written for a value of data: by the chain of the path's place. In a comment nothing is, which is no piece; but in one of a style
-- or a script in an attribute what its quotes ask for.
abbrev pub value_pieces : Chain → Data → List PagePiece
value_pieces c datum = if leaves_out c then [] else value datum (chain_bytes c datum) ∷ []

-- A place that takes no value, and a path that is at no place, are refused before a hole, so the lines for them are not reached.
abbrev pub holed_pieces : Holed → Data → List PagePiece
holed_pieces (Ok h) datum = value_pieces h.1 datum
holed_pieces (Err e) datum = []

abbrev pub hole_pieces : Option Place → Data → List PagePiece
hole_pieces (Some p) datum = holed_pieces (after_hole p) datum
hole_pieces None datum = []

-- what is written for an event, by what the path has read: a text as such a path's texts are written, a value by the chain of its place
abbrev pub event_pieces : ForestData → ExecEvent → List (List ℕ) → LexState ValueState → List PagePiece
event_pieces forest (gives_text n) ts s = words (written languages (bytes_in (kind_in forest ts n)) s) ∷ []
event_pieces forest (gives_hole n datum) ts s = hole_pieces (placed s) datum
event_pieces forest (enters n) ts s = []
event_pieces forest leaves ts s = []

-- the pieces of all events, in order
abbrev pub pieces_from : ForestData → List Emission → List (List ℕ) → LexState ValueState → List PagePiece
pieces_from forest [] ts s = []
pieces_from forest (g ∷ gs) ts s =
    event_pieces forest g.event ts s ++ pieces_from forest gs (open_behind forest g.event ts) (state_behind forest g.event ts s)

-- the pieces of the page of a root with a datum
abbrev pub pieces_of : ForestData → List ℕ → Data → List PagePiece
pieces_of forest root datum = pieces_from forest (meaning forest root datum).events (root ∷ []) start.at

-- the most bytes that a page may have
abbrev pub max_page : ℕ
max_page = 16777216

-- The first event with which the page would be longer than that, after that many bytes of it, where there is one.
abbrev pub over_from : ℕ → ForestData → List Emission → List (List ℕ) → LexState ValueState → Option Emission
over_from count forest [] ts s = None
over_from count forest (g ∷ gs) ts s =
    (let bytes = page_bytes (event_pieces forest g.event ts s) in
    if nat_le (count + length bytes) max_page
    then over_from (count + length bytes) forest gs (open_behind forest g.event ts) (state_behind forest g.event ts s)
    else Some g)

-- How a page ends: it is done; or by the fault of the execution; or where it would be too long, by that. A page is written as a whole, so
-- at a fault there is none.
abbrev pub page_ended : List ℕ → Option Emission → Finish → Execution
page_ended page None (finished steps) = record { bytes = page; steps = steps; ending = done }
page_ended page None (stopped why) = record { bytes = []; steps = 0; ending = faulted why }
page_ended page (Some g) end = record { bytes = []; steps = 0; ending = faulted (too_long g) }

-- the execution of a root with a datum
abbrev pub execution : ForestData → List ℕ → Data → Execution
execution forest root datum =
    (let run = meaning forest root datum in
    page_ended (page_bytes (pieces_of forest root datum)) (over_from 0 forest run.events (root ∷ []) start.at) (finish_of run.end))
