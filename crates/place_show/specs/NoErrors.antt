-- Roots on whose paths no error stands.
use Rattle.std.specs.Prelude.{◌≡◌, ℕ, List, [], Some, None, Contains}
use Rattle.place_core.specs.declared.code.Code.TheVariants as code
use Rattle.place_core.specs.declared.place.Place.{Place}
use Rattle.place_core.specs.declared.place.Place.TheVariants as place
use Rattle.place_core.specs.place.Places.{joined}
use Rattle.place_core.specs.place.StatePlaces.{placed}
use Rattle.place_flow.specs.Errors.{EdgeClashes, Errs, ErrsApart}
use Rattle.place_show.specs.Showings.{Shows, path_state_after}
use Rattle.place_show.specs.declared.showing.Showing.{Showing}
use Rattle.tpl_paths.specs.Edges.{Edge, Within, edges_in, finish_point, from_of}
use Rattle.tpl_paths.specs.Paths.{IsPath, Move, Standing, at_root, reached, open_standing}
use Rattle.tpl_tree.specs.Forests.{ForestData, HasAscendingNames, number_named}

-- where a path of a root stands
abbrev pub stands_at : ForestData → List ℕ → List Move → Standing
stands_at forest name ms = reached forest (at_root forest name) ms

abbrev pub IsPathOfSet : ForestData → List ℕ → List Move → Type 0
IsPathOfSet forest name ms = IsPath forest (at_root forest name) ms

-- No error stands on a path of the root, at the edges along which it may go on; on no two that meet there; and on no two that met apart, and
-- took the same moves from where they met; and the places of two that meet join. Nothing is said of where a path ends its root.
pub record HasNoOtherError (forest : ForestData) (name : List ℕ) : Type 0 where
  pub one : (ms : List Move) (e : Edge) → IsPathOfSet forest name ms → Within e (edges_in forest (stands_at forest name ms).template) → (stands_at forest name ms).at ≡ from_of e
      → Errs forest (stands_at forest name ms).template e (path_state_after ms) → ⊥
  pub two : (ms ns : List Move) (e : Edge) → IsPathOfSet forest name ms → IsPathOfSet forest name ns → stands_at forest name ns ≡ stands_at forest name ms
      → Within e (edges_in forest (stands_at forest name ms).template) → (stands_at forest name ms).at ≡ from_of e → EdgeClashes e (path_state_after ms) (path_state_after ns) → ⊥
  pub apart : (ms ns common : List Move) (e : Edge) → IsPathOfSet forest name ms → IsPathOfSet forest name ns → stands_at forest name ns ≡ stands_at forest name ms
      → IsPath forest (stands_at forest name ms) common → Within e (edges_in forest (reached forest (stands_at forest name ms) common).template)
      → (reached forest (stands_at forest name ms) common).at ≡ from_of e → ErrsApart common e (path_state_after ms) (path_state_after ns) → ⊥
  pub joins : (ms ns : List Move) (a b : Place) → IsPathOfSet forest name ms → IsPathOfSet forest name ns → stands_at forest name ns ≡ stands_at forest name ms
      → placed (path_state_after ms) ≡ Some a → placed (path_state_after ns) ≡ Some b → joined a b ≡ None → ⊥

-- likewise, and each path that ends the root ends in text
pub record HasNoError (forest : ForestData) (name : List ℕ) : Type 0 where
  pub others : HasNoOtherError forest name
  pub ends : (ms : List Move) (a : Place) → IsPathOfSet forest name ms → stands_at forest name ms ≡ open_standing [] name finish_point → placed (path_state_after ms) ≡ Some a → a ≡ place.Text

-- of each of some roots that is a template of the forest
abbrev pub HaveNoOtherErrors : ForestData → List (List ℕ) → Type 0
HaveNoOtherErrors forest names = (name : List ℕ) (t : ℕ) → Contains names name → number_named name forest ≡ Some t → HasNoOtherError forest name

abbrev pub HaveNoErrors : ForestData → List (List ℕ) → Type 0
HaveNoErrors forest names = (name : List ℕ) (t : ℕ) → Contains names name → number_named name forest ≡ Some t → HasNoError forest name

-- An error that is shown stands on a path of its root, or on two that meet or met apart.
abbrev pub ShownErrorsStand : Type 0
ShownErrorsStand = (forest : ForestData) (sh : Showing) → HasAscendingNames forest → Shows forest sh → HasNoError forest sh.root → ⊥

-- Where no other error stands on the paths of its root, what is shown is an end of the root.
abbrev pub OnlyEndsAreShown : Type 0
OnlyEndsAreShown = (forest : ForestData) (sh : Showing) → HasAscendingNames forest → Shows forest sh → HasNoOtherError forest sh.root → sh.code ≡ code.EndContext
