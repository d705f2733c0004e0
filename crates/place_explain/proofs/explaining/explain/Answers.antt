use Rattle.std.proofs.Common.{◌≡◌, ℕ, List, map, subst}
use Rattle.std.proofs.lemmas.Result.{IfOk-weaker}
use Rattle.std.specs.Prelude.{flat_map}
use Rattle.place_explain.proofs.Explained.{explained}
use Rattle.place_explain.specs.Explaining.{AreOrdered, Explains, Key}
use Rattle.place_explain.specs.PairText.{pair_text}
use Rattle.place_explain.proofs.explaining.explain.Goals as goal

pub returns : goal.returns
returns c =
    let forest = c.args.forest.now in let chart = c.args.chart.now in let pairs = c.in_ok-pairs.pairs.items in
    let number : Key → ℕ = λ key. key.2 in
    let ordered : AreOrdered forest chart pairs (map number c.deref-2.result.now) =
    subst (λ (ns : List ℕ). AreOrdered forest chart ns (map number c.deref-2.result.now)) c.deref.ensures.value (rw c.deref-2.ensures.value c.in_ok-keys.ensures) in
    IfOk-weaker c.text_of.result (λ text. text ≡ flat_map (pair_text forest chart) (map number c.deref-2.result.now)) (Explains forest chart c.args.start)
    (λ text lines. explained forest chart c.args.start pairs (map number c.deref-2.result.now) text c.in_ok-pairs.ensures ordered lines) c.text_of.ensures
