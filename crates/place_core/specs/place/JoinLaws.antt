-- The laws of joining places.
use Rattle.std.specs.Prelude.{◌≡◌, ◌⊎◌, Option, Some, None, if◌then◌else◌}
use Rattle.place_core.specs.declared.member.Member.{Member}
use Rattle.place_core.specs.declared.member.Member.TheVariants as member
use Rattle.place_core.specs.declared.place.Place.{Place}
use Rattle.place_core.specs.declared.place.Place.TheVariants as place
use Rattle.place_core.specs.declared.tag_of.TagOf.{TagOf}
use Rattle.place_core.specs.declared.tag_place.TagPlace.{TagPlace}
use Rattle.place_core.specs.place.Places.{Below, Has, IsValid, joined, joined_tags}

-- two places that are below a third one join, and their join is the least place above them
abbrev pub JoinIsLeast : Type 0
JoinIsLeast = (a b d : Place) → Below a d → Below b d → (c : Place) × (joined a b ≡ Some c) × Below c d

-- likewise, which is above them
abbrev pub JoinIsAbove : Type 0
JoinIsAbove = (a b c : Place) → joined a b ≡ Some c → Below a c × Below b c

abbrev pub JoinSame : Type 0
JoinSame = (a : Place) → joined a a ≡ Some a

abbrev pub JoinSwapped : Type 0
JoinSwapped = (a b : Place) → joined a b ≡ joined b a

abbrev pub BelowIsOrder : Type 0
BelowIsOrder = ((a : Place) → Below a a) × ((a b c : Place) → Below a b → Below b c → Below a c)
    × ((a b : Place) → Below a b → Below b a → a ≡ b)

abbrev pub JoinKeepsValid : Type 0
JoinKeepsValid = (a b c : Place) → IsValid a → IsValid b → joined a b ≡ Some c → IsValid c

-- a join has the members of both places, and no others
abbrev pub JoinHas : Type 0
JoinHas = (a b c : Place) (m : Member) → joined a b ≡ Some c → (Has c m → Has a m ⊎ Has b m) × (Has a m → Has c m) × (Has b m → Has c m)

abbrev pub HasGrows : Type 0
HasGrows = (a b : Place) (m : Member) → Below a b → Has a m → Has b m

-- two members that show that two places do not join: no valid places below them that have these join
abbrev pub AreInConflict : Place → Place → Member → Member → Type 0
AreInConflict a b x y = Has a x × Has b y
    × ((c d : Place) → IsValid c → Below c a → Has c x → IsValid d → Below d b → Has d y → joined c d ≡ None)

-- where two places do not join, they have two such members
abbrev pub Conflict : Type 0
Conflict = (a b : Place) → IsValid a → IsValid b → joined a b ≡ None → (x : Member) × (y : Member) × AreInConflict a b x y

-- Which two these are: in tags that join, in which kinds of names clash, in or after these names; and elsewhere the whole of both.
abbrev pub name_shows : TagPlace → Member
name_shows t = if t.spots.inside then member.InsideSpot else member.AfterSpot

abbrev pub tags_show : Option TagOf → TagPlace → TagPlace → Member × Member
tags_show (Some t) x y = (name_shows x, name_shows y)
tags_show None x y = (member.Whole, member.Whole)

abbrev pub join_shows : Place → Place → Member × Member
join_shows (place.Tag x) (place.Tag y) = tags_show (joined_tags x.tag y.tag) x y
join_shows a b = (member.Whole, member.Whole)
