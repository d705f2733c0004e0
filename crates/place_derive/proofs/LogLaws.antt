-- A log with more after it.
use Rattle.std.proofs.Common.{ℕ, ◌≤◌, List, [], ◌∷◌, ◌++◌, refl, sym, subst, length, inl, inr, arith}
use Rattle.std.specs.Prelude.{All}
use Rattle.std.proofs.lemmas.List.{take-append-le, take_at}
use Rattle.std.proofs.lemmas.List.Elements.{All-weaker}
use Rattle.std.proofs.lemmas.Option.{slice_get_within}
use Rattle.place_core.specs.place.ApartPlaces.{ArePlacesApart, side}
use Rattle.place_core.specs.place.Places.{Below}
use Rattle.place_core.specs.declared.member.Member.{Member}
use Rattle.place_core.specs.declared.place.Place.{Place}
use Rattle.place_flow.proofs.PointStateLaws.{below_trans}
use Rattle.place_flow.specs.declared.step.EdgeStep.{EdgeStep}
use Rattle.place_flow.specs.declared.step.EdgeStep.TheVariants.{Reaches, Enters, Refused}
use Rattle.place_derive.specs.Derivations.{AllGiven, ApartGiven, IsEnteredPair, HasEntry, HasDerivation, HasDerivationsApart, IsDerivedBy, IsDerivation, IsMadeDerivation, IsLoggedSummary}
use Rattle.place_derive.specs.declared.derivation.Derivation.{Derivation}
use Rattle.place_chart.proofs.Elements.{get_last, get_left, push_cases}
use Rattle.place_chart.specs.declared.summary.Summary.{Summary}
use Rattle.tpl_paths.specs.Edges.{Point, finish_point}
use Rattle.tpl_tree.specs.Forests.{ForestData}

-- the place of a point grew
pub weaken : (log : List Derivation) (t : ℕ) (e : Place) (k : Point) (p q : Place) (m : Member) → HasDerivation log t e k p m → Below p q → HasDerivation log t e k q m
weaken log t e k p q m h b = record { number = h.number; derivation = h.derivation; is = h.is; template = h.template; entry = h.entry; point = h.point; has = h.has; below = below_trans h.derivation.place p q h.below b }

-- two places that are apart were given to a point whose place grew to be above both
pub both_weaken : (log : List Derivation) (t : ℕ) (e : Place) (k : Point) (p q r : Place) → (one : HasDerivation log t e k p side) → (other : HasDerivation log t e k q side) → Below p r → Below q r → ArePlacesApart one.derivation.place other.derivation.place → HasDerivationsApart log t e k r
unfolding weaken
both_weaken log t e k p q r one other b c apart = record { one = weaken log t e k p r side one b; other = weaken log t e k q r side other c; apart = apart }

pub weaken_apart : (log : List Derivation) (t : ℕ) (e : Place) (k : Point) (p q : Place) → ApartGiven log t e k p → Below p q → ApartGiven log t e k q
weaken_apart log t e k p q (inl h) b = inl (record { number = h.number; derivation = h.derivation; is = h.is; template = h.template; entry = h.entry; point = h.point; apart = h.apart; below = below_trans h.derivation.place p q h.below b })
weaken_apart log t e k p q (inr h) b = inr (both_weaken log t e k p p q h.one h.other b b h.apart)

module _ (log more : List Derivation) where
  pub derivation_left : (t : ℕ) (e : Place) (k : Point) (p : Place) (m : Member) → HasDerivation log t e k p m → HasDerivation (log ++ more) t e k p m
  derivation_left t e k p m h = record { number = h.number; derivation = h.derivation; is = get_left log more h.number h.derivation h.is; template = h.template; entry = h.entry; point = h.point; has = h.has; below = h.below }

  apart_left : (t : ℕ) (e : Place) (k : Point) (p : Place) → ApartGiven log t e k p → ApartGiven (log ++ more) t e k p
  unfolding derivation_left
  apart_left t e k p (inl h) = inl (record { number = h.number; derivation = h.derivation; is = get_left log more h.number h.derivation h.is; template = h.template; entry = h.entry; point = h.point; apart = h.apart; below = h.below })
  apart_left t e k p (inr h) = inr (record { one = derivation_left t e k p side h.one; other = derivation_left t e k p side h.other; apart = h.apart })

  pub all_left : (t : ℕ) (e : Place) (k : Point) (p : Place) → AllGiven log t e k p → AllGiven (log ++ more) t e k p
  all_left t e k p h = record { valid = h.valid; members = λ m x. derivation_left t e k p m (h.members m x); apart = λ x. apart_left t e k p (h.apart x) }

  pub derived_left : (step : EdgeStep) (derived : Place) → IsDerivedBy log step derived → IsDerivedBy (log ++ more) step derived
  derived_left (Reaches q) derived h = h
  derived_left (Enters callee q) derived h = all_left callee q finish_point derived h
  derived_left Refused derived h = h

  pub entry_left : (forest : ForestData) (t : ℕ) (e : Place) → HasEntry forest log t e → HasEntry forest (log ++ more) t e
  entry_left forest t e h = record { number = h.number; derivation = h.derivation; is = get_left log more h.number h.derivation h.is; template = h.template; entry = h.entry; enters = h.enters }

  pub entries_left : (forest : ForestData) (summaries : List Summary) → All (λ summary. HasEntry forest log summary.template summary.entry) summaries → All (λ summary. HasEntry forest (log ++ more) summary.template summary.entry) summaries
  entries_left forest summaries all = All-weaker (λ (summary : Summary). HasEntry forest log summary.template summary.entry) (λ (summary : Summary). HasEntry forest (log ++ more) summary.template summary.entry) (λ summary h. entry_left forest summary.template summary.entry h) summaries all

  pub summary_left : (summary : Summary) → IsLoggedSummary log summary → IsLoggedSummary (log ++ more) summary
  summary_left summary h k p s = all_left summary.template summary.entry k p (h k p s)

  pub summaries_left : (summaries : List Summary) → All (IsLoggedSummary log) summaries → All (IsLoggedSummary (log ++ more)) summaries
  summaries_left summaries all = All-weaker (IsLoggedSummary log) (IsLoggedSummary (log ++ more)) summary_left summaries all

-- one derivation more
pub made_push : (forest : ForestData) (roots : List ℕ) (first : Place) (log : List Derivation) (new : Derivation) → IsMadeDerivation forest roots first log → IsDerivation forest roots first log new new.from → IsMadeDerivation forest roots first (log ++ new ∷ [])
made_push forest roots first log new made h i g e = elim (push_cases log new g i e) [
  | inl f ↦ (let lt = slice_get_within log i g f in let le : i ≤ length log = omega (arith, lt) in
      subst (λ (l : List Derivation). IsDerivation forest roots first l g g.from) (sym (take-append-le i log (new ∷ []) le)) (made i g f))
  | inr f ↦ subst (λ (l : List Derivation). IsDerivation forest roots first l g g.from) (sym (take_at log (new ∷ []) i (sym f.0))) (subst (λ (x : Derivation). IsDerivation forest roots first log x x.from) f.1 h)
]

pub entry_last : (forest : ForestData) (log : List Derivation) (g : Derivation) → IsEnteredPair g.from → HasEntry forest (log ++ g ∷ []) g.template g.entry
entry_last forest log g h = record { number = length log; derivation = g; is = get_last log g; template = refl; entry = refl; enters = h }
