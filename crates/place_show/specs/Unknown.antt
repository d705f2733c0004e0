-- A place in the beginning of a URL, of which it is not known what it spells: as if two of its paths had met apart.
use Rattle.std.specs.Prelude.{◌≡◌, ℕ, Bool, true, false, List, Option, Some, None, Ok, option_map}
use Rattle.html_step.specs.Steps.{after_text}
use Rattle.place_core.specs.page.States.{LexState}
use Rattle.place_core.specs.page.Tags.{ValueState}
use Rattle.place_core.specs.place.ApartPlaces.{HasApart}
use Rattle.place_core.specs.place.PathPairs.{Keeps, PartWithin}
use Rattle.place_core.specs.place.Places.{Below, Has, IsValid}
use Rattle.place_core.specs.place.StatePlaces.{placed}
use Rattle.place_core.specs.declared.body.Body.{Body}
use Rattle.place_core.specs.declared.body.Body.TheVariants as body
use Rattle.place_core.specs.declared.css.Css.{Css}
use Rattle.place_core.specs.declared.css.Css.TheVariants as css
use Rattle.place_core.specs.declared.member.Member.{Member}
use Rattle.place_core.specs.declared.parts.Parts.{Parts}
use Rattle.place_core.specs.declared.place.Place.{Place}
use Rattle.place_core.specs.declared.place.Place.TheVariants as place
use Rattle.place_core.specs.declared.prefix.Prefix.{Prefix}
use Rattle.place_core.specs.declared.prefix.Prefix.TheVariants as prefix
use Rattle.html_scan.specs.Scans.{with_body}

-- none where no path is in the beginning
abbrev pub unknown_parts : Parts → Option Prefix → Option Parts
unknown_parts s None = None
unknown_parts s (Some p) = Some (record {
  start = s.start;
  opened = Some prefix.Differs;
  openhole = s.openhole;
  prequery = s.prequery;
  query = s.query;
  bad = s.bad;
})

-- in a style, of the URL of a url token
abbrev pub unknown_css : Css → Option Css
unknown_css (css.Url s) = option_map css.Url (unknown_parts s s.opened)
unknown_css (css.UrlDq s) = option_map css.UrlDq (unknown_parts s s.opened)
unknown_css (css.UrlSq s) = option_map css.UrlSq (unknown_parts s s.opened)
unknown_css c = None

abbrev pub unknown_body : Body → Option Body
unknown_body (body.Url s) = option_map body.Url (unknown_parts s s.opened)
unknown_body body.Plain = None
unknown_body body.NoHole = None
unknown_body (body.Js j) = None
unknown_body (body.Css c) = option_map body.Css (unknown_css c)

abbrev pub unknown_place : Place → Option Place
unknown_place (place.Value v) = option_map (with_body v) (unknown_body v.body)
unknown_place (place.Style c) = option_map place.Style (unknown_css c)
unknown_place p = None

-- it stands for the same paths, and for all that spell something else
pub record IsUnknown (p q : Place) : Type 0 where
  pub below : Below p q
  pub apart : HasApart q
  pub has : (m : Member) → Has q m → Has p m
  pub valid : IsValid p → IsValid q

-- What a text does with two paths, so that they go on as ones that met apart: where they are such, they stay in the beginning; else they
-- come apart in it.
abbrev pub PassText : Bool → List ℕ → LexState ValueState → LexState ValueState → Type 0
PassText true bytes s r = Keeps bytes s × Keeps bytes r
PassText false bytes s r = PartWithin bytes s r

-- from a place a text leads to one of which two paths met apart
pub record LeadsApart (bytes : List ℕ) (p : Place) : Type 0 where
  pub after : Place
  pub leads : after_text bytes p ≡ Ok after
  pub apart : HasApart after

-- a path's own place, which is valid
abbrev pub IsOwn : Place → LexState ValueState → Type 0
IsOwn p s = (placed s ≡ Some p) × IsValid p
