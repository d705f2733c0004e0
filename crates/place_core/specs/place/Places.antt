-- Places: when two of them join, which one is below which, what members a place has, and which places paths can come to.
use Rattle.std.specs.Prelude.{Bool, true, false, ◌≡◌, ◌||◌, Option, Some, None, option_map, is_some, if◌then◌else◌, ⊤}
use Rattle.place_core.specs.declared.bare.Bare.{Bare}
use Rattle.place_core.specs.declared.body.Body.{Body}
use Rattle.place_core.specs.declared.body.Body.TheVariants as body
use Rattle.place_core.specs.declared.element.Element.{Element}
use Rattle.place_core.specs.declared.element.Element.TheVariants as element
use Rattle.place_core.specs.declared.kind.Kind.{Kind}
use Rattle.place_core.specs.declared.kind.Kind.TheVariants as kind
use Rattle.place_core.specs.declared.member.Member.{Member}
use Rattle.place_core.specs.declared.member.Member.TheVariants as member
use Rattle.place_core.specs.declared.place.Place.{Place}
use Rattle.place_core.specs.declared.place.Place.TheVariants as place
use Rattle.place_core.specs.declared.quotes.Quotes.{Quotes}
use Rattle.place_core.specs.declared.quotes.Quotes.TheVariants as quotes
use Rattle.place_core.specs.declared.spots.Spots.{Spots}
use Rattle.place_core.specs.declared.tag_of.TagOf.{TagOf}
use Rattle.place_core.specs.declared.tag_of.TagOf.TheVariants as tag
use Rattle.place_core.specs.declared.tag_place.TagPlace.{TagPlace}
use Rattle.place_core.specs.declared.value_place.ValuePlace.{ValuePlace}
use Rattle.place_core.specs.place.LanguagePlaces.{both_parts, joined_js, joined_css, parts_have, js_has, css_has, IsValidParts, IsValidJs, IsValidCss}

-- Sets are united.
abbrev pub both_spots : Spots → Spots → Spots
both_spots s t = record {
  name = s.name || t.name;
  before = s.before || t.before;
  inside = s.inside || t.inside;
  after = s.after || t.after;
}

abbrev pub both_bare : Bare → Bare → Bare
both_bare s t = record { uq = s.uq || t.uq; unbegun = s.unbegun || t.unbegun }

-- Elements, tags and kinds join where they are the same; a kind joins none.
abbrev pub same_element : Element → Element → Bool
same_element element.Other element.Other = true
same_element element.Title element.Title = true
same_element element.Textarea element.Textarea = true
same_element element.Style element.Style = true
same_element element.Script element.Script = true
same_element element.DataBlock element.DataBlock = true
same_element _ _ = false

abbrev pub same_kind : Kind → Kind → Bool
same_kind kind.Plain kind.Plain = true
same_kind kind.Url kind.Url = true
same_kind kind.Script kind.Script = true
same_kind kind.Style kind.Style = true
same_kind kind.ScriptType kind.ScriptType = true
same_kind kind.NoHole kind.NoHole = true
same_kind _ _ = false

abbrev pub joined_elements : Element → Element → Option Element
joined_elements e f = if same_element e f then Some e else None

abbrev pub joined_tags : TagOf → TagOf → Option TagOf
joined_tags tag.End tag.End = Some tag.End
joined_tags (tag.Start e) (tag.Start f) = option_map tag.Start (joined_elements e f)
joined_tags _ _ = None

abbrev pub joined_kinds : Option Kind → Option Kind → Option (Option Kind)
joined_kinds None l = Some l
joined_kinds (Some k) None = Some (Some k)
joined_kinds (Some k) (Some l) = if same_kind k l then Some (Some k) else None

abbrev pub joined_quotes : Quotes → Quotes → Option Quotes
joined_quotes quotes.Dq quotes.Dq = Some quotes.Dq
joined_quotes quotes.Sq quotes.Sq = Some quotes.Sq
joined_quotes (quotes.Bare s) (quotes.Bare t) = Some (quotes.Bare (both_bare s t))
joined_quotes _ _ = None

abbrev pub joined_bodies : Body → Body → Option Body
joined_bodies body.Plain body.Plain = Some body.Plain
joined_bodies body.NoHole body.NoHole = Some body.NoHole
joined_bodies (body.Url s) (body.Url t) = Some (body.Url (both_parts s t))
joined_bodies (body.Js i) (body.Js j) = option_map body.Js (joined_js i j)
joined_bodies (body.Css c) (body.Css d) = option_map body.Css (joined_css c d)
joined_bodies _ _ = None

-- A place in a tag joins where both the tag and the kind do, one in a value where the tag, the quotes and the body do.
abbrev pub tag_place : Bool → Spots → Option TagOf → Option (Option Kind) → Option TagPlace
tag_place typed s (Some t) (Some k) = Some (record { tag = t; typed = typed; spots = s; kind = k })
tag_place typed s _ _ = None

abbrev pub joined_tag_places : TagPlace → TagPlace → Option TagPlace
joined_tag_places x y = tag_place (x.typed || y.typed) (both_spots x.spots y.spots) (joined_tags x.tag y.tag) (joined_kinds x.kind y.kind)

abbrev pub value_place : Bool → Option TagOf → Option Quotes → Option Body → Option ValuePlace
value_place typed (Some t) (Some q) (Some b) = Some (record { tag = t; typed = typed; quotes = q; body = b })
value_place typed _ _ _ = None

abbrev pub joined_value_places : ValuePlace → ValuePlace → Option ValuePlace
joined_value_places x y = value_place (x.typed || y.typed) (joined_tags x.tag y.tag) (joined_quotes x.quotes y.quotes)
    (joined_bodies x.body y.body)

-- the place that stands for what two places stand for, where there is one
abbrev pub joined : Place → Place → Option Place
joined place.Text place.Text = Some place.Text
joined place.Doctype place.Doctype = Some place.Doctype
joined (place.Comment x) (place.Comment y) = Some (place.Comment (x || y))
joined (place.Rcdata e) (place.Rcdata f) = option_map place.Rcdata (joined_elements e f)
joined (place.Tag x) (place.Tag y) = option_map place.Tag (joined_tag_places x y)
joined (place.Value x) (place.Value y) = option_map place.Value (joined_value_places x y)
joined (place.Script i) (place.Script j) = option_map place.Script (joined_js i j)
joined (place.Style c) (place.Style d) = option_map place.Style (joined_css c d)
joined (place.Block x) (place.Block y) = Some (place.Block (x || y))
joined _ _ = None

-- a place is below another one: joining them gives that one
abbrev pub Below : Place → Place → Type 0
Below a b = joined a b ≡ Some b

-- Which members a place has.
abbrev pub spots_have : Spots → Member → Bool
spots_have s member.NameSpot = s.name
spots_have s member.BeforeSpot = s.before
spots_have s member.InsideSpot = s.inside
spots_have s member.AfterSpot = s.after
spots_have s _ = false

abbrev pub bare_has : Bare → Member → Bool
bare_has s member.UnquotedValue = s.uq
bare_has s member.UnbegunValue = s.unbegun
bare_has s _ = false

abbrev pub dash_has : Bool → Member → Bool
dash_has x member.CommentDash = x
dash_has x _ = false

abbrev pub block_has : Bool → Member → Bool
block_has x member.BlockLt = x
block_has x _ = false

abbrev pub typed_has : Bool → Member → Bool
typed_has x member.Typed = x
typed_has x _ = false

abbrev pub quotes_have : Quotes → Member → Bool
quotes_have (quotes.Bare s) m = bare_has s m
quotes_have quotes.Dq m = false
quotes_have quotes.Sq m = false

abbrev pub body_has : Body → Member → Bool
body_has (body.Url s) m = parts_have s m
body_has (body.Js j) m = js_has j m
body_has (body.Css c) m = css_has c m
body_has body.Plain m = false
body_has body.NoHole m = false

-- what a place has beside the whole
abbrev pub part_has : Place → Member → Bool
part_has place.Text m = false
part_has place.Doctype m = false
part_has (place.Comment x) m = dash_has x m
part_has (place.Rcdata e) m = false
part_has (place.Tag x) m = typed_has x.typed m || spots_have x.spots m
part_has (place.Value x) m = typed_has x.typed m || (quotes_have x.quotes m || body_has x.body m)
part_has (place.Script j) m = js_has j m
part_has (place.Style c) m = css_has c m
part_has (place.Block x) m = block_has x m

abbrev pub is_whole : Member → Bool
is_whole member.Whole = true
is_whole _ = false

-- some path bears the member, maybe not all
abbrev pub Has : Place → Member → Type 0
Has p m = (is_whole m || part_has p m) ≡ true

-- Which places are valid; paths come to no others. Each set but those of tails has a member.
abbrev pub is_rcdata : Element → Bool
is_rcdata element.Title = true
is_rcdata element.Textarea = true
is_rcdata _ = false

abbrev pub some_spot : Spots → Bool
some_spot s = s.name || (s.before || (s.inside || s.after))

abbrev pub some_bare : Bare → Bool
some_bare s = s.uq || s.unbegun

abbrev pub IsValidQuotes : Quotes → Type 0
IsValidQuotes (quotes.Bare s) = some_bare s ≡ true
IsValidQuotes quotes.Dq = ⊤
IsValidQuotes quotes.Sq = ⊤

abbrev pub IsValidBody : Body → Type 0
IsValidBody (body.Url s) = IsValidParts s
IsValidBody (body.Js j) = IsValidJs j
IsValidBody (body.Css c) = IsValidCss c
IsValidBody body.Plain = ⊤
IsValidBody body.NoHole = ⊤

-- a kind stands exactly where the place may be in or after an attribute's name
abbrev pub IsValidTag : TagPlace → Type 0
IsValidTag x = (some_spot x.spots ≡ true) × (is_some x.kind ≡ (x.spots.inside || x.spots.after))

abbrev pub IsValid : Place → Type 0
IsValid place.Text = ⊤
IsValid place.Doctype = ⊤
IsValid (place.Comment x) = ⊤
IsValid (place.Rcdata e) = is_rcdata e ≡ true
IsValid (place.Tag x) = IsValidTag x
IsValid (place.Value x) = IsValidQuotes x.quotes × IsValidBody x.body
IsValid (place.Script j) = IsValidJs j
IsValid (place.Style c) = IsValidCss c
IsValid (place.Block x) = ⊤
