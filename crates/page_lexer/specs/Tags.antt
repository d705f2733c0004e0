-- The attributes of a tag, read by their kinds.
use Rattle.std.specs.Prelude.{ℕ, List, [], ◌∷◌, map, if◌then◌else◌}
use Rattle.page_script.specs.ScriptPieces.{script_pieces_of}
use Rattle.page_style.specs.Reading.{style_pieces_of}
use Rattle.page_url.specs.ShownSchemes.{shown_scheme}
use Rattle.url_lexer.specs.SchemeOf.{scheme_of}
use Rattle.place_core.specs.page.Words.{kind_of, is_script_type}
use Rattle.place_core.specs.declared.element.Element.{Element}
use Rattle.place_core.specs.declared.element.Element.TheVariants as element
use Rattle.place_core.specs.declared.kind.Kind.{Kind}
use Rattle.place_core.specs.declared.kind.Kind.TheVariants as kind
use Rattle.page_lexer.specs.Characters.{name_text, shown_value}
use Rattle.page_lexer.specs.Parts.{part}
use Rattle.page_lexer.specs.declared.state.AttrPlace.{AttrPlace}
use Rattle.page_lexer.specs.declared.token.Attr.{Attr}
use Rattle.page_lexer.specs.declared.token.Read.{Read}
use Rattle.page_lexer.specs.declared.token.Read.TheVariants as read

-- a value, with references undone, as its kind reads it
abbrev pub read_as : Kind → List ℕ → Read
read_as kind.Url value = read.Url (shown_scheme (scheme_of value)) value
read_as kind.Script value = read.Script (script_pieces_of value)
read_as kind.Style value = read.Style (style_pieces_of value)
read_as _ value = read.Chars value

abbrev pub attr_named : Element → ℕ → List ℕ → List ℕ → Attr
attr_named e from name value = record { from = from; name = name; kind = kind_of e name; value = read_as (kind_of e name) value }

-- the attribute at a place, of a tag of an element
abbrev pub attr_at : List ℕ → Element → AttrPlace → Attr
attr_at page e p = attr_named e p.name_from (name_text (part page p.name_from p.name_to)) (shown_value (part page p.value_from p.value_to))

abbrev pub attrs_at : List ℕ → Element → List AttrPlace → List Attr
attrs_at page e places = map (attr_at page e) places

-- A script whose first `type` is no script's is a data block (HTML Standard, section 4.12.1).
abbrev pub element_by_type : Read → Element
element_by_type (read.Chars type) = if is_script_type type then element.Script else element.DataBlock
element_by_type _ = element.Script

abbrev pub script_element_by : Kind → Read → Element → Element
script_element_by kind.ScriptType value otherwise = element_by_type value
script_element_by _ value otherwise = otherwise

abbrev pub script_element : List Attr → Element
script_element [] = element.Script
script_element (a ∷ attrs) = script_element_by a.kind a.value (script_element attrs)

-- the element by which the content behind a start tag is read
abbrev pub content_element : Element → List Attr → Element
content_element element.Script attrs = script_element attrs
content_element e attrs = e
