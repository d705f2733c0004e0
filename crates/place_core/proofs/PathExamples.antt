-- Worked examples of how paths are read: nodes with their cuts, holes, places, and what is refused, by computing.
use Rattle.std.proofs.Common.{◌≡◌, [], ◌∷◌, codes, refl, true, false, Some, None}
use Rattle.place_core.specs.page.Classes.{White, class_of}
use Rattle.place_core.specs.place.Errors.{node, path_refusal, states}
use Rattle.place_core.specs.place.PathPairs.{byte_clash}
use Rattle.place_core.specs.page.Events.{TextByte, StartTagBegins, AttributeBegins, AttributeNameEnds, TagEnds, Mark, event_text_bytes, value_bytes, attribute_name_bytes, tag_name_bytes}
use Rattle.place_core.specs.page.Html.{read, start}
use Rattle.place_core.specs.page.Paths.{Written, Hole, at_hole, read_path}
use Rattle.place_core.specs.page.References.{Closed, meaning, flushed}
use Rattle.place_core.specs.page.Shape.{TextToken, shape_of}
use Rattle.place_core.specs.place.StatePlaces.{only_name, only_inside, placed, unbegun}
use Rattle.place_core.specs.page.States.{Page, Text, InContent, Characters, PendingName, config}
use Rattle.place_core.specs.page.Tags.{languages}
use Rattle.place_core.specs.declared.body.Body.TheVariants as body
use Rattle.place_core.specs.declared.code.Code.TheVariants as code
use Rattle.place_core.specs.declared.element.Element.TheVariants as element
use Rattle.place_core.specs.declared.kind.Kind.TheVariants as kind
use Rattle.place_core.specs.declared.place.Place.TheVariants as place
use Rattle.place_core.specs.declared.tag_of.TagOf.TheVariants as tag

-- a page with a value between quotation marks, and one with a textarea
quoted : read Page (codes "<p a=\"b'&gt;\">") start ≡ config (Text Closed) (TagEnds false ∷ value_bytes (codes "b'>") (AttributeNameEnds kind.Plain ∷ attribute_name_bytes (codes "a") (AttributeBegins ∷ tag_name_bytes (codes "p") (StartTagBegins ∷ []))))
unfolding class_of meaning flushed lib.Utf8.encode
quoted = refl

textarea : (read Page (codes "<textarea></title></texta") start).at ≡ InContent element.Textarea (Characters Closed) (PendingName (codes "texta"))
unfolding class_of meaning flushed lib.Utf8.encode
textarea = refl

-- a value without quotes that begins with a hole, and goes on after it
value_path : read_path languages (Written (codes "<p title=") ∷ Hole ∷ Written (codes "a>b") ∷ []) start ≡ config (Text Closed) (event_text_bytes (codes "b") (TagEnds false ∷ value_bytes (codes "a") (Mark ∷ AttributeNameEnds kind.Plain ∷ attribute_name_bytes (codes "title") (AttributeBegins ∷ tag_name_bytes (codes "p") (StartTagBegins ∷ [])))))
unfolding class_of meaning flushed lib.Utf8.encode
value_path = refl

-- a name that is a hole, and its value
name_path : read_path languages (Written (codes "<p ") ∷ Hole ∷ Written (codes "=x>") ∷ []) start ≡ config (Text Closed) (TagEnds false ∷ value_bytes (codes "x") (AttributeNameEnds kind.Plain ∷ Mark ∷ AttributeBegins ∷ tag_name_bytes (codes "p") (StartTagBegins ∷ [])))
unfolding class_of meaning flushed lib.Utf8.encode
name_path = refl

-- a hole in a comment has no mark, and the texts on both sides are one in the shape
comment_path : shape_of (read_path languages (Written (codes "a<!--") ∷ Hole ∷ Written (codes " -->b") ∷ Hole ∷ []) start) ≡ TextToken (TextByte 97 ∷ TextByte 98 ∷ Mark ∷ []) ∷ []
unfolding class_of meaning flushed lib.Utf8.encode
comment_path = refl

-- what a node's end leaves after: text, and a whole name
less_cut : node (codes "a &lt<") (Text Closed) ≡ Text Closed
unfolding class_of meaning flushed lib.Utf8.encode
less_cut = refl

declaration_cut : read_path languages (Written (codes "<!doc") ∷ Written (codes "type>") ∷ []) start ≡ config (Text Closed) (event_text_bytes (codes "<!doctype>") [])
unfolding class_of meaning flushed lib.Utf8.encode
declaration_cut = refl

tag_cut : placed (node (codes "<Title") (Text Closed)) ≡ Some (place.Tag (record { tag = tag.Start element.Title; typed = false; spots = only_name; kind = None }))
unfolding class_of meaning flushed lib.Utf8.encode
tag_cut = refl

type_cut : placed (node (codes "<script a type") (Text Closed)) ≡ Some (place.Tag (record { tag = tag.Start element.Script; typed = true; spots = only_inside; kind = Some kind.ScriptType }))
unfolding class_of meaning flushed lib.Utf8.encode
type_cut = refl

value_cut : placed (node (codes "</p title = ") (Text Closed)) ≡ Some (place.Value (record { tag = tag.End; typed = false; quotes = unbegun; body = body.Plain }))
unfolding class_of meaning flushed lib.Utf8.encode
value_cut = refl

dash_cut : placed (node (codes "<!-- a --!") (Text Closed)) ≡ Some (place.Comment true)
unfolding class_of meaning flushed lib.Utf8.encode
dash_cut = refl

-- inside a lexeme there is no place
in_name : placed (states (codes "<titl") (Text Closed)) ≡ None
unfolding class_of meaning flushed lib.Utf8.encode
in_name = refl

in_reference : placed (states (codes "<title>&am") (Text Closed)) ≡ None
unfolding class_of meaning flushed lib.Utf8.encode
in_reference = refl

-- what is refused, and where
no_refusal : path_refusal (codes "<p a=b c='d' e>f</p g=h><!-- i --><title>j</title>") (Text Closed) ≡ None
unfolding class_of meaning flushed lib.Utf8.encode
no_refusal = refl

equals_refused : path_refusal (codes "<a x='y'=z>") (Text Closed) ≡ Some (record { code = code.BadHTML; at = 8; shown = 8 })
unfolding class_of meaning flushed lib.Utf8.encode
equals_refused = refl

second_type : path_refusal (codes "<script type a TYPE>") (Text Closed) ≡ Some (record { code = code.BadHTML; at = 15; shown = 15 })
unfolding class_of meaning flushed lib.Utf8.encode
second_type = refl

second_type_cut : path_refusal (codes "<script type Type") (Text Closed) ≡ Some (record { code = code.BadHTML; at = 13; shown = 13 })
unfolding class_of meaning flushed lib.Utf8.encode
second_type_cut = refl

script_closes_itself : path_refusal (codes "<script/>") (Text Closed) ≡ None
unfolding class_of meaning flushed lib.Utf8.encode
script_closes_itself = refl

name_goes_on : path_refusal (codes "x") (at_hole languages (node (codes "<p ") (Text Closed))) ≡ Some (record { code = code.SplitToken; at = 0; shown = 0 })
unfolding class_of meaning flushed lib.Utf8.encode
name_goes_on = refl

dash_goes_on : path_refusal (codes "->") (node (codes "<!-- a -") (Text Closed)) ≡ Some (record { code = code.SplitToken; at = 0; shown = 0 })
unfolding class_of meaning flushed lib.Utf8.encode
dash_goes_on = refl

-- two paths, of which neither is refused alone
blank_clash : byte_clash (node (codes "<p x=") (Text Closed)) (node (codes "<p x=a") (Text Closed)) White ≡ Some code.AmbigContext
unfolding class_of meaning flushed lib.Utf8.encode
blank_clash = refl
