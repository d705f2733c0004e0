-- Worked examples of joining, by computing.
use Rattle.std.proofs.Common.{◌≡◌, Bool, true, false, Option, Some, None, refl}
use Rattle.place_core.specs.place.Places.{joined}
use Rattle.place_core.specs.declared.body.Body.{Body}
use Rattle.place_core.specs.declared.body.Body.TheVariants as body
use Rattle.place_core.specs.declared.element.Element.TheVariants as element
use Rattle.place_core.specs.declared.js.Js.TheVariants as js
use Rattle.place_core.specs.declared.kind.Kind.{Kind}
use Rattle.place_core.specs.declared.kind.Kind.TheVariants as kind
use Rattle.place_core.specs.declared.place.Place.{Place}
use Rattle.place_core.specs.declared.place.Place.TheVariants as place
use Rattle.place_core.specs.declared.prefix.Prefix.{Prefix}
use Rattle.place_core.specs.declared.prefix.Prefix.TheVariants as prefix
use Rattle.place_core.specs.declared.quotes.Quotes.{Quotes}
use Rattle.place_core.specs.declared.quotes.Quotes.TheVariants as quotes
use Rattle.place_core.specs.declared.tag_of.TagOf.TheVariants as tag

-- a value of any other element
value : Quotes → Body → Place
value q b = place.Value (record { tag = tag.Start element.Other; typed = false; quotes = q; body = b })

-- without quotes: begun, not begun
bare : Bool → Bool → Quotes
bare uq unbegun = quotes.Bare (record { uq = uq; unbegun = unbegun })

-- in the beginning of a URL with double quotes
opening : Prefix → Place
opening p = value quotes.Dq (body.Url (record { start = false; opened = Some p; openhole = false; prequery = false; query = false; bad = false }))

-- after a slash with one meaning
script : Bool → Bool → Place
script re div = place.Script (js.Code (record { re = re; div = div; brace = false })
    (record { word = false; num = false; lt = false; slash = false; plus = false; minus = false; hash = false }))

-- in a tag of any other element
spots : Bool → Bool → Bool → Option Kind → Place
spots name inside after k = place.Tag (record {
  tag = tag.Start element.Other;
  typed = false;
  kind = k;
  spots = record { name = name; before = false; inside = inside; after = after };
})

-- `<b title={{if .x}}a{{end}}`: the value may have begun
begun_or_not : joined (value (bare false true) body.Plain) (value (bare true false) body.Plain) ≡ Some (value (bare true true) body.Plain)
unfolding value bare
begun_or_not = refl

-- `<a href="{{if .x}}java{{else}}vb{{end}}`: the beginnings differ
two_schemes : joined (opening (prefix.Javascript 4)) (opening (prefix.Vbscript 2)) ≡ Some (opening prefix.Differs)
unfolding opening value
two_schemes = refl

-- likewise, also where one has more letters of the same word
two_lengths : joined (opening (prefix.Javascript 4)) (opening (prefix.Javascript 5)) ≡ Some (opening prefix.Differs)
unfolding opening value
two_lengths = refl

one_scheme : joined (opening (prefix.Javascript 4)) (opening (prefix.Javascript 4)) ≡ Some (opening (prefix.Javascript 4))
unfolding opening value
one_scheme = refl

-- `x{{if .x}}={{end}}` in a script: a slash would be one thing or the other
two_senses : joined (script true false) (script false true) ≡ Some (script true true)
unfolding script
two_senses = refl

-- `<b{{if .x}} title{{end}}`: a name of an element or of an attribute, whose kind is the one there is
name_or_attribute : joined (spots true false false None) (spots false true false (Some kind.Plain)) ≡ Some (spots true true false (Some kind.Plain))
unfolding spots
name_or_attribute = refl

-- These do not join: text and a document type, names of attributes of two kinds, two quotes, a title and a text area.
text_and_doctype : joined place.Text place.Doctype ≡ None
text_and_doctype = refl

two_attributes : joined (spots false true false (Some kind.Plain)) (spots false false true (Some kind.Url)) ≡ None
unfolding spots
two_attributes = refl

two_quotes : joined (value quotes.Dq body.Plain) (value quotes.Sq body.Plain) ≡ None
unfolding value
two_quotes = refl

two_elements : joined (place.Rcdata element.Title) (place.Rcdata element.Textarea) ≡ None
two_elements = refl
