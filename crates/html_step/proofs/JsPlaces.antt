-- Places in the element `script`: of a path, and in the order.
use Rattle.std.proofs.Common.{◌≡◌, Option, Some, None, option_map, ap}
use Rattle.js_step.specs.ScriptSetLaws.{ScriptBelow}
use Rattle.place_core.specs.place.LanguagePlaces.{joined_js}
use Rattle.place_core.specs.place.Places.{Below}
use Rattle.place_core.specs.declared.body.Body.TheVariants as body
use Rattle.place_core.specs.declared.js.Js.{Js}
use Rattle.place_core.specs.declared.place.Place.{Place}
use Rattle.place_core.specs.declared.place.Place.TheVariants as place
use Rattle.place_core.proofs.Semilattices.{none_some, one_value, row_value}

js-body-one : (c d : Js) → body.Js c ≡ body.Js d → c ≡ d
js-body-one c d e = cc

-- A body that is a script is that of a place in the element.
pub js-of-body : (o : Option Js) (c : Js) → option_map body.Js o ≡ Some (body.Js c) → o ≡ Some c
js-of-body (Some d) c e = ap Some (js-body-one d c (one_value (body.Js d) (body.Js c) e))
js-of-body None c e = absurd (none_some (body.Js c) e)

js-place-one : (c d : Js) → place.Script c ≡ place.Script d → c ≡ d
js-place-one c d e = cc

pub js-below-place : (c d : Js) → Below (place.Script c) (place.Script d) → ScriptBelow c d
js-below-place c d h = row_value place.Script js-place-one (joined_js c d) d h

pub js-place-below : (c d : Js) → ScriptBelow c d → Below (place.Script c) (place.Script d)
js-place-below c d h = ap (λ (o : Option Js). option_map place.Script o) h

-- below a place in the element are such places
pub under-script : (P : Place → Type 0) (d : Js) → ((c : Js) → ScriptBelow c d → P (place.Script c)) → (a : Place) → Below a (place.Script d) → P a
under-script P d f (place.Script c) h = f c (js-below-place c d h)
under-script P d f a h = absurd (none_some (place.Script d) h)
