use Rattle.page_serve.proofs.ServedDoors.{seen_sets}
use Rattle.page_serve.proofs.ServeResults.{places_served}
use Rattle.page_serve.proofs.serving.serve_desk.Goals as goal

-- the workers' doors are those that were given
pub returns-clause-answers : goal.returns-clause-answers
returns-clause-answers g c =
    places_served _ _ _ _ _ _ _ _ _ _ _ _ _ _ _ _ _ c.in-Ok.ensures.places.0
    (λ given. c.serve_named.ensures.answers _ _ (seen_sets _ _ _ c.in-Ok.ensures.places.1) given)
