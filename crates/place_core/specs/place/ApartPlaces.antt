-- Two paths that met apart: at one point both were in the beginning of a URL, and it spelled different things on the two. From there on, as
-- long as they stay in it, a `:` is refused, since what has been spelled is no longer known.
use Rattle.std.specs.Prelude.{Bool, true, false, ◌≡◌, not, Option, Some, None}
use Rattle.place_core.specs.declared.body.Body.{Body}
use Rattle.place_core.specs.declared.body.Body.TheVariants as body
use Rattle.place_core.specs.declared.css.Css.{Css}
use Rattle.place_core.specs.declared.css.Css.TheVariants as css
use Rattle.place_core.specs.declared.member.Member.{Member}
use Rattle.place_core.specs.declared.member.Member.TheVariants as member
use Rattle.place_core.specs.declared.place.Place.{Place}
use Rattle.place_core.specs.declared.place.Place.TheVariants as place
use Rattle.place_core.specs.declared.prefix.Prefix.{Prefix}
use Rattle.place_core.specs.declared.prefix.Prefix.TheVariants as prefix
use Rattle.place_core.specs.place.LanguagePlaces.{same_prefix}

-- the member that a path bears which is in the beginning of a URL, whatever it spells
abbrev pub side : Member
side = member.PartOpen

-- what the beginning of a URL spells at a place, where paths are in one
abbrev pub beginning_in_css : Css → Option Prefix
beginning_in_css (css.Url s) = s.opened
beginning_in_css (css.UrlDq s) = s.opened
beginning_in_css (css.UrlSq s) = s.opened
beginning_in_css (css.Code x) = None
beginning_in_css css.Dq = None
beginning_in_css css.Sq = None
beginning_in_css css.UrlFresh = None
beginning_in_css css.UrlEnd = None
beginning_in_css (css.Comment x) = None

abbrev pub beginning_in_body : Body → Option Prefix
beginning_in_body (body.Url s) = s.opened
beginning_in_body (body.Css c) = beginning_in_css c
beginning_in_body (body.Js j) = None
beginning_in_body body.Plain = None
beginning_in_body body.NoHole = None

abbrev pub beginning_at : Place → Option Prefix
beginning_at (place.Value v) = beginning_in_body v.body
beginning_at (place.Style c) = beginning_in_css c
beginning_at p = None

-- two of its paths met apart
abbrev pub HasApart : Place → Type 0
HasApart p = beginning_at p ≡ Some prefix.Differs

-- Two places, at neither of which two paths met apart, are apart: in the beginning of a URL that spells different things.
abbrev pub spell_apart : Prefix → Prefix → Bool
spell_apart prefix.Differs q = false
spell_apart p prefix.Differs = false
spell_apart p q = not (same_prefix p q)

abbrev pub opened_apart : Option Prefix → Option Prefix → Bool
opened_apart (Some p) (Some q) = spell_apart p q
opened_apart _ _ = false

abbrev pub ArePlacesApart : Place → Place → Type 0
ArePlacesApart a b = opened_apart (beginning_at a) (beginning_at b) ≡ true
