-- Executions of a root that come to its end by the same choices take one path, so their pages have one shape.
use Rattle.std.proofs.Common.{◌≡◌, ℕ, List, [], ◌∷◌, ◌++◌, ◌⊎◌, inl, inr, refl, sym, ap, ◌∙◌, subst, append-nil}
use Rattle.page_path.proofs.Sound.{shape-of-path}
use Rattle.page_path.specs.Laws.{PagesAreSound, PagesOfOnePathHaveOneShape}
use Rattle.page_path.specs.Soundness.{path_read}
use Rattle.place_core.specs.page.Shape.{shape_of}
use Rattle.tpl_paths.proofs.Appends.{prefix-is-path}
use Rattle.tpl_paths.proofs.Blocks.{no_finish}
use Rattle.tpl_paths.proofs.OneWalk.{one_walk}
use Rattle.tpl_paths.specs.Edges.{finish_point}
use Rattle.tpl_paths.specs.Laws.{IsPathPrefix}
use Rattle.tpl_paths.specs.Paths.{IsPath, Move, Standing, along, at_root, back, reached, open_standing}
use Rattle.tpl_tree.specs.Forests.{ForestData}

module _ (forest : ForestData) (root : List ℕ) where
  -- no path goes on from the end of its root
  ends-there : (ms : List Move) → IsPath forest (open_standing [] root finish_point) ms → ms ≡ []
  ends-there [] w = refl
  ends-there (along e ∷ ms) w = absurd (no_finish forest root e w.0.0 (sym w.0.1))
  ends-there (back ∷ ms) w = absurd w.0.0

  -- so a path to there is no front of a longer one
  front-is-whole : (ms ns : List Move) → IsPath forest (at_root forest root) ns
      → reached forest (at_root forest root) ms ≡ open_standing [] root finish_point → IsPathPrefix ms ns → ms ≡ ns
  front-is-whole ms ns w whole f =
      let all = subst (IsPath forest (at_root forest root)) f.1 w in
      let behind = (prefix-is-path forest (at_root forest root) ms f.0 all).1 in
      let none = ends-there f.0 (subst (λ (a : Standing). IsPath forest a f.0) whole behind) in
      sym (append-nil ms) ∙ ap (λ (xs : List Move). ms ++ xs) (sym none) ∙ sym f.1

  whole-paths : (ms ns : List Move) → IsPath forest (at_root forest root) ms → IsPath forest (at_root forest root) ns
      → reached forest (at_root forest root) ms ≡ open_standing [] root finish_point
      → reached forest (at_root forest root) ns ≡ open_standing [] root finish_point
      → IsPathPrefix ms ns ⊎ IsPathPrefix ns ms → ms ≡ ns
  whole-paths ms ns v w l k (inl f) = front-is-whole ms ns w l f
  whole-paths ms ns v w l k (inr f) = sym (front-is-whole ns ms v k f)

pub pages-of-one-path-have-one-shape : PagesAreSound → PagesOfOnePathHaveOneShape
pages-of-one-path-have-one-shape sound forest names chart root a b r done textual also_done also_textual same c d reads also_reads =
    let s = sound forest names chart root a r done textual in
    let z = sound forest names chart root b r also_done also_textual in
    let alike = one_walk forest (at_root forest root) s.takes.path z.takes.path s.takes.walk z.takes.walk
    (s.takes.taken ∙ same ∙ sym z.takes.taken) in
    let path = whole-paths forest root s.takes.path z.takes.path s.takes.walk z.takes.walk s.takes.whole z.takes.whole alike in
    shape-of-path forest root a _ s c reads ∙ ap (λ (ms : List Move). shape_of (path_read ms)) path
    ∙ sym (shape-of-path forest root b _ z d also_reads)
