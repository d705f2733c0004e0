-- What is written at a place that stands for a path is what is written on the path.
use Rattle.std.proofs.Common.{◌≡◌, Option, Some, Ok, ap, ◌∙◌, subst}
use Rattle.html_step.proofs.HoleOrder.{covers-hole}
use Rattle.html_step.specs.Holes.{Holed, after_hole}
use Rattle.page_datum.specs.Data.{Data}
use Rattle.page_path.specs.Pages.{hole_pieces, holed_pieces, value_pieces}
use Rattle.page_path.specs.Textual.{IsTextAt, IsTextBy, IsTextHeld}
use Rattle.place_core.specs.place.Membership.{IsIn}
use Rattle.place_core.specs.place.Places.{IsValid}
use Rattle.place_core.specs.place.StatePlaces.{placed}
use Rattle.place_core.specs.page.States.{LexState}
use Rattle.place_core.specs.page.Tags.{ValueState}
use Rattle.place_core.specs.declared.chain.Chain.{Chain}
use Rattle.place_core.specs.declared.place.Place.{Place}

-- a value, by the chain of the place
pub at-place : (o : Option Place) (p q : Place) (c : Chain) (datum : Data) → o ≡ Some p → after_hole p ≡ Ok (q, c)
    → hole_pieces o datum ≡ value_pieces c datum
at-place o p q c datum there accepted =
    ap (λ (x : Option Place). hole_pieces x datum) there ∙ ap (λ (r : Holed). holed_pieces r datum) accepted

-- and what is asked of its texts
pub text-at-place : (o : Option Place) (p q : Place) (c : Chain) (datum : Data) → o ≡ Some p → after_hole p ≡ Ok (q, c)
    → IsTextAt o datum → IsTextBy c datum
text-at-place o p q c datum there accepted u =
    subst (λ (r : Holed). IsTextHeld r datum) accepted (subst (λ (x : Option Place). IsTextAt x datum) there u)

-- the path's own place has that chain too
pub on-path : (p q : Place) (c : Chain) (s : LexState ValueState) (datum : Data) → IsValid p → IsIn p s → after_hole p ≡ Ok (q, c)
    → hole_pieces (placed s) datum ≡ value_pieces c datum
on-path p q c s datum v i accepted =
    let own = (covers-hole p q c s v i accepted).1 i.own i.stands in
    at-place (placed s) i.own own.0 c datum i.stands own.1
