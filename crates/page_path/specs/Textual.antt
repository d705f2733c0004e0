-- Which texts of data have to be UTF-8: those that are written. In a comment, of the page, of a style or of a script, nothing is written of a
-- value, and as the name of an attribute only letters and digits of ASCII are, so there nothing is asked of its text.
use Rattle.std.specs.Prelude.{List, [], ◌∷◌, Option, Some, None, Ok, Err, ⊤}
use Rattle.std.specs.Str.{IsUtf8}
use Rattle.html_step.specs.Holes.{Holed, after_hole}
use Rattle.js_lexer.specs.Sanitizers.{js_value}
use Rattle.js_lexer.specs.ScriptBack.{IsJsonData}
use Rattle.page_datum.specs.Data.{Data}
use Rattle.page_datum.specs.Printed.{printed}
use Rattle.page_path.specs.Taken.{move_sign}
use Rattle.place_core.specs.declared.chain.Chain.{Chain}
use Rattle.place_core.specs.declared.place.Place.{Place}
use Rattle.place_core.specs.declared.san.San.{San}
use Rattle.place_core.specs.declared.san.San.TheVariants as san
use Rattle.place_flow.specs.Covering.{ChartByName, Pair, sign_pairs}
use Rattle.text_norm.specs.HoleLaws.{sanitizers}
use Rattle.tpl_events.specs.Events.{Emission, ExecEvent, enters, gives_hole, gives_text, leaves}
use Rattle.tpl_paths.specs.Edges.{before}
use Rattle.tpl_tree.specs.Forests.{ForestData}

-- What of a datum has to be UTF-8 for its first sanitizer: the printed text for one that may write more of it than ASCII, or writes triples for its
-- bytes. That of a script's values reads the datum itself: what it writes is UTF-8, and the datum is one that JSON has.
abbrev pub IsTextFor : San → Data → Type 0
IsTextFor san.Html datum = IsUtf8 (printed datum)
IsTextFor san.Attr datum = IsUtf8 (printed datum)
IsTextFor san.AttrNospace datum = IsUtf8 (printed datum)
IsTextFor san.AttrName datum = ⊤
IsTextFor san.Drop datum = ⊤
IsTextFor san.UrlFilter datum = IsUtf8 (printed datum)
IsTextFor san.UrlOpen datum = IsUtf8 (printed datum)
IsTextFor san.UrlNorm datum = IsUtf8 (printed datum)
IsTextFor san.UrlQuery datum = IsUtf8 (printed datum)
IsTextFor san.CssValue datum = IsUtf8 (printed datum)
IsTextFor san.CssString datum = IsUtf8 (printed datum)
IsTextFor san.JsValue datum = IsUtf8 (js_value datum) × IsJsonData datum
IsTextFor san.JsString datum = IsUtf8 (printed datum)
IsTextFor san.JsRegexp datum = IsUtf8 (printed datum)

-- the same of a chain: only its first sanitizer reads the datum
abbrev pub IsTextByList : List San → Data → Type 0
IsTextByList [] datum = ⊤
IsTextByList (x ∷ xs) datum = IsTextFor x datum

abbrev pub IsTextBy : Chain → Data → Type 0
IsTextBy c datum = IsTextByList (sanitizers c) datum

-- the same at a place, by the chain that a hole has there; where no hole may be, nothing is asked
abbrev pub IsTextHeld : Holed → Data → Type 0
IsTextHeld (Ok h) datum = IsTextBy h.1 datum
IsTextHeld (Err e) datum = ⊤

abbrev pub IsTextAt : Option Place → Data → Type 0
IsTextAt (Some p) datum = IsTextHeld (after_hole p) datum
IsTextAt None datum = ⊤

-- the same of the value of an event while these pairs are open: by the chart's place before its node, in the innermost pair
abbrev pub IsTextual : ForestData → ChartByName Place → ExecEvent → List (Pair Place) → Type 0
IsTextual forest chart e [] = ⊤
IsTextual forest chart (gives_text n) (p ∷ ps) = ⊤
IsTextual forest chart (gives_hole n datum) (p ∷ ps) = IsTextAt (chart p.template p.entry (before n)) datum
IsTextual forest chart (enters n) (p ∷ ps) = ⊤
IsTextual forest chart leaves (p ∷ ps) = ⊤

-- the same of all events, in order
abbrev pub AreTextual : ForestData → ChartByName Place → List Emission → List (Pair Place) → Type 0
AreTextual forest chart [] ps = ⊤
AreTextual forest chart (g ∷ gs) ps =
    IsTextual forest chart g.event ps × AreTextual forest chart gs (sign_pairs forest chart (move_sign g.event) ps)
