-- How a place is printed: its kind, and then its parts, with a blank before each.
use Rattle.std.specs.Prelude.{ℕ, Bool, true, ◌||◌, is_some, take, codes, List, [], ◌∷◌, ◌++◌, Option, Some, None}
use Rattle.place_core.specs.declared.bare.Bare.{Bare}
use Rattle.place_core.specs.declared.body.Body.{Body}
use Rattle.place_core.specs.declared.body.Body.TheVariants as body
use Rattle.place_core.specs.declared.css.Css.{Css}
use Rattle.place_core.specs.declared.css.Css.TheVariants as css
use Rattle.place_core.specs.declared.css_tails.CssTails.{CssTails}
use Rattle.place_core.specs.declared.element.Element.{Element}
use Rattle.place_core.specs.declared.element.Element.TheVariants as element
use Rattle.place_core.specs.declared.js.Js.{Js}
use Rattle.place_core.specs.declared.js.Js.TheVariants as js
use Rattle.place_core.specs.declared.js_tails.JsTails.{JsTails}
use Rattle.place_core.specs.declared.kind.Kind.{Kind}
use Rattle.place_core.specs.declared.kind.Kind.TheVariants as kind
use Rattle.place_core.specs.declared.parts.Parts.{Parts}
use Rattle.place_core.specs.declared.place.Place.{Place}
use Rattle.place_core.specs.declared.place.Place.TheVariants as place
use Rattle.place_core.specs.declared.prefix.Prefix.{Prefix}
use Rattle.place_core.specs.declared.prefix.Prefix.TheVariants as prefix
use Rattle.place_core.specs.declared.quotes.Quotes.{Quotes}
use Rattle.place_core.specs.declared.quotes.Quotes.TheVariants as quotes
use Rattle.place_core.specs.declared.senses.Senses.{Senses}
use Rattle.place_core.specs.declared.spots.Spots.{Spots}
use Rattle.place_core.specs.declared.tag_of.TagOf.{TagOf}
use Rattle.place_core.specs.declared.tag_of.TagOf.TheVariants as tag
use Rattle.place_core.specs.declared.tag_place.TagPlace.{TagPlace}
use Rattle.place_core.specs.declared.value_place.ValuePlace.{ValuePlace}
use Rattle.html_step.specs.Sets.{member, member_set_text, flag_text}

-- sets
abbrev pub spots_text : Spots → List ℕ
spots_text s = member_set_text true (member s.name (codes "name") ∷ member s.before (codes "before") ∷ member s.inside (codes "in") ∷ member s.after (codes "after") ∷ [])

abbrev pub bare_text : Bare → List ℕ
bare_text b = member_set_text true (member b.uq (codes "uq") ∷ member b.unbegun (codes "unbegun") ∷ [])

abbrev pub senses_text : Senses → List ℕ
senses_text s = member_set_text true (member s.re (codes "re") ∷ member s.div (codes "div") ∷ member s.brace (codes "brace") ∷ [])

abbrev pub js_tails_text : JsTails → List ℕ
js_tails_text t =
    member_set_text true (member t.word (codes "word") ∷ member t.num (codes "num") ∷ member t.lt (codes "lt") ∷ member t.slash (codes "slash") ∷ member t.plus (codes "plus") ∷ member t.minus (codes "minus") ∷ member t.hash (codes "hash") ∷ [])

abbrev pub css_tails_text : CssTails → List ℕ
css_tails_text t = member_set_text true (member t.word (codes "word") ∷ member t.slash (codes "slash") ∷ member t.lt (codes "lt") ∷ [])

-- The beginning of a URL, with the letters that it spells of the name of a scheme that runs code.
abbrev pub spelled : List ℕ → ℕ → List ℕ
spelled word n = codes "open(" ++ (take n word ++ codes ")")

abbrev pub prefix_text : Prefix → List ℕ
prefix_text prefix.Off = codes "open"
prefix_text (prefix.Javascript n) = spelled (codes "javascript") n
prefix_text (prefix.Vbscript n) = spelled (codes "vbscript") n
prefix_text (prefix.DataScheme n) = spelled (codes "data") n
prefix_text prefix.Differs = codes "open(?)"

abbrev pub open_text : Option Prefix → List ℕ
open_text None = []
open_text (Some p) = prefix_text p

abbrev pub parts_text : Parts → List ℕ
parts_text p =
    member_set_text true (member p.start (codes "start") ∷ member (is_some p.opened) (open_text p.opened) ∷ member p.openhole (codes "openhole") ∷ member p.prequery (codes "prequery") ∷ member p.query (codes "query") ∷ member p.bad (codes "bad") ∷ [])

-- scripts and styles
abbrev pub js_text : Js → List ℕ
js_text (js.Code s t) = codes " js code" ++ (senses_text s ++ js_tails_text t)
js_text js.Dq = codes " js dq"
js_text js.Sq = codes " js sq"
js_text (js.Regexp slash) = codes " js regexp" ++ flag_text slash (codes " slash")
js_text (js.Line s) = codes " js line" ++ senses_text s
js_text (js.Block s star) = codes " js block" ++ (senses_text s ++ flag_text star (codes " star"))

abbrev pub css_text : Css → List ℕ
css_text (css.Code t) = codes " css code" ++ css_tails_text t
css_text css.Dq = codes " css dq"
css_text css.Sq = codes " css sq"
css_text css.UrlFresh = codes " css urlfresh"
css_text (css.Url p) = codes " css url" ++ parts_text p
css_text (css.UrlDq p) = codes " css urldq" ++ parts_text p
css_text (css.UrlSq p) = codes " css urlsq" ++ parts_text p
css_text css.UrlEnd = codes " css urlend"
css_text (css.Comment star) = codes " css comment" ++ flag_text star (codes " star")

-- tags, and values
abbrev pub element_text : Element → List ℕ
element_text element.Other = codes "other"
element_text element.Title = codes "title"
element_text element.Textarea = codes "textarea"
element_text element.Style = codes "style"
element_text element.Script = codes "script"
element_text element.DataBlock = codes "data"

abbrev pub tag_text : TagOf → List ℕ
tag_text tag.End = codes " end"
tag_text (tag.Start e) = codes " " ++ element_text e

abbrev pub kind_text : Option Kind → List ℕ
kind_text None = []
kind_text (Some kind.Plain) = codes " plain"
kind_text (Some kind.Url) = codes " url"
kind_text (Some kind.Script) = codes " script"
kind_text (Some kind.Style) = codes " style"
kind_text (Some kind.ScriptType) = codes " type"
kind_text (Some kind.NoHole) = codes " nohole"

abbrev pub typed_text : Bool → List ℕ
typed_text typed = flag_text typed (codes " typed")

abbrev pub tag_place_text : TagPlace → List ℕ
tag_place_text t = tag_text t.tag ++ (spots_text t.spots ++ (flag_text (t.spots.inside || t.spots.after) (kind_text t.kind) ++ typed_text t.typed))

abbrev pub quotes_text : Quotes → List ℕ
quotes_text quotes.Dq = codes " dq"
quotes_text quotes.Sq = codes " sq"
quotes_text (quotes.Bare b) = bare_text b

abbrev pub body_text : Body → List ℕ
body_text body.Plain = codes " plain"
body_text body.NoHole = codes " nohole"
body_text (body.Url p) = codes " url" ++ parts_text p
body_text (body.Js j) = js_text j
body_text (body.Css c) = css_text c

abbrev pub value_place_text : ValuePlace → List ℕ
value_place_text v = tag_text v.tag ++ (quotes_text v.quotes ++ (body_text v.body ++ typed_text v.typed))

abbrev pub place_text : Place → List ℕ
place_text place.Text = codes "text"
place_text place.Doctype = codes "doctype"
place_text (place.Comment dash) = codes "comment" ++ flag_text dash (codes " dash")
place_text (place.Rcdata e) = element_text e
place_text (place.Tag t) = codes "tag" ++ tag_place_text t
place_text (place.Value v) = codes "value" ++ value_place_text v
place_text (place.Script j) = codes "script" ++ js_text j
place_text (place.Style c) = codes "style" ++ css_text c
place_text (place.Block lt) = codes "block" ++ flag_text lt (codes " lt")
