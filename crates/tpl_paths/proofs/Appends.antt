-- Walks after one another.
use Rattle.std.proofs.Common.{◌≡◌, List, [], ◌∷◌, ◌++◌, refl, ap}
use Rattle.tpl_paths.specs.declared.choice.Way.{Way}
use Rattle.tpl_tree.specs.Forests.{ForestData}
use Rattle.tpl_paths.specs.Edges.{calls, fills, passes, picks, writes}
use Rattle.tpl_paths.specs.Laws.{PrefixIsPath}
use Rattle.tpl_paths.specs.Paths.{IsPath, Move, Sign, Standing, after_moves, along, back, choices_of, enters_at, hole_of, leaves_call, reached, signs_of, text_of}

pub walk-append : (forest : ForestData) (a : Standing) (ms ns : List Move) → IsPath forest a ms → IsPath forest (reached forest a ms) ns → IsPath forest a (ms ++ ns)
walk-append forest a [] ns h k = k
walk-append forest a (m ∷ ms) ns h k = (h.0, walk-append forest (after_moves forest a m) ms ns h.1 k)

pub reached-append : (forest : ForestData) (a : Standing) (ms ns : List Move) → reached forest a (ms ++ ns) ≡ reached forest (reached forest a ms) ns
reached-append forest a [] ns = refl
reached-append forest a (m ∷ ms) ns = reached-append forest (after_moves forest a m) ms ns

pub signs-append : (ms ns : List Move) → signs_of (ms ++ ns) ≡ signs_of ms ++ signs_of ns
signs-append [] ns = refl
signs-append (along (writes n bytes to) ∷ ms) ns = ap (λ (x : List Sign). text_of n ∷ x) (signs-append ms ns)
signs-append (along (fills n pipe to) ∷ ms) ns = ap (λ (x : List Sign). hole_of n ∷ x) (signs-append ms ns)
signs-append (along (calls n name to) ∷ ms) ns = ap (λ (x : List Sign). enters_at n ∷ x) (signs-append ms ns)
signs-append (along (picks from choice to) ∷ ms) ns = signs-append ms ns
signs-append (along (passes from to) ∷ ms) ns = signs-append ms ns
signs-append (back ∷ ms) ns = ap (λ (x : List Sign). leaves_call ∷ x) (signs-append ms ns)

pub choices-append : (ms ns : List Move) → choices_of (ms ++ ns) ≡ choices_of ms ++ choices_of ns
choices-append [] ns = refl
choices-append (along (writes n bytes to) ∷ ms) ns = choices-append ms ns
choices-append (along (fills n pipe to) ∷ ms) ns = choices-append ms ns
choices-append (along (calls n name to) ∷ ms) ns = choices-append ms ns
choices-append (along (picks from choice to) ∷ ms) ns = ap (λ (x : List Way). choice ∷ x) (choices-append ms ns)
choices-append (along (passes from to) ∷ ms) ns = choices-append ms ns
choices-append (back ∷ ms) ns = choices-append ms ns

pub prefix-is-path : PrefixIsPath
prefix-is-path forest a [] ns h = (tt, h)
prefix-is-path forest a (m ∷ ms) ns h = (let k = prefix-is-path forest (after_moves forest a m) ms ns h.1 in ((h.0, k.0), k.1))
