-- A path on which no error stands is one that is replayed: it has a place wherever it stands, its open calls are those of templates by their
-- numbers, and what it chose is a choice in a template of the forest.
use Rattle.std.proofs.Common.{◌≡◌, ℕ, Bool, true, false, List, [], ◌∷◌, All, Option, Some, None, Result, Ok, Err, refl, sym, ap, ap₂, ◌∙◌, subst, map, reverse, if◌then◌else◌, ◌⊎◌, inl, inr}
use Rattle.std.proofs.lemmas.List.{reverse-reverse}
use Rattle.std.proofs.lemmas.List.Elements.{All-cons, All-nil}
use Rattle.std.specs.Prelude.{⊤}
use Rattle.html_step.proofs.HoleOrder.{one-hole}
use Rattle.html_step.proofs.MetApart.{met-apart}
use Rattle.html_step.proofs.OneTexts.{one-text}
use Rattle.html_step.specs.Holes.{Holed, after_hole}
use Rattle.html_step.specs.Steps.{after_text}
use Rattle.place_core.specs.page.Html.{start}
use Rattle.place_core.specs.page.States.{LexState}
use Rattle.place_core.specs.page.Tags.{ValueState}
use Rattle.place_core.specs.place.ApartPlaces.{HasApart}
use Rattle.place_core.specs.place.Membership.{IsIn}
use Rattle.place_core.specs.place.Places.{IsValid}
use Rattle.place_core.specs.place.StatePlaces.{placed}
use Rattle.place_core.specs.declared.place.Place.{Place}
use Rattle.place_core.specs.declared.place.Place.TheVariants as place
use Rattle.place_core.specs.declared.step_err.StepErr.{StepErr}
use Rattle.place_flow.proofs.Goings.{Goes}
use Rattle.place_flow.proofs.NamedParts.{named, numbered, same_use}
use Rattle.place_flow.proofs.PointStateLaws.{below_refl}
use Rattle.place_flow.proofs.StepEdges.{is-call}
use Rattle.place_flow.proofs.StepLaws.{step-keeps-valid}
use Rattle.place_flow.specs.Covering.{edge_read, read_moves}
use Rattle.place_flow.specs.Errors.{EdgeRefuses, Errs, IsClear}
use Rattle.place_flow.specs.HtmlCovering.{behind_hole, behind_text, html_language}
use Rattle.place_flow.specs.Laws.{IsValidStep}
use Rattle.place_flow.specs.Transfer.{edge_step, enters_or_refused, may_use, reaches_or_refused, step_of, use_at}
use Rattle.place_flow.specs.declared.step.EdgeStep.{EdgeStep}
use Rattle.place_flow.specs.declared.step.EdgeStep.TheVariants.{Enters, Reaches, Refused}
use Rattle.place_laws.specs.Witness.{PathTo, path_state}
use Rattle.place_show.proofs.OwnApart.{own-parts}
use Rattle.place_show.specs.Showings.{IsNamedTemplate}
use Rattle.place_trace.proofs.OwnPlaces.{reaches-own}
use Rattle.place_trace.specs.Replays.{IsNameKnown, IsReplayOf, name_or_none, open_of, opens_of, point_node, told, told_of}
use Rattle.place_trace.specs.UnchosenWays.{replay_at}
use Rattle.place_trace.specs.declared.chosen.Chosen.{Chosen}
use Rattle.place_trace.specs.declared.replay.ReplayedCall.{ReplayedCall}
use Rattle.tpl_paths.specs.Edges.{Edge, Point, before, calls, fills, from_of, passes, picks, writes}
use Rattle.tpl_paths.specs.Paths.{IsPath, Move, Open, Standing, along, along_edge, at_root, back, left_calls, open_standing, reached}
use Rattle.tpl_paths.specs.declared.choice.Way.{Way}
use Rattle.tpl_tree.specs.Forests.{ForestData, HasAscendingNames, number_named, tree_name_at}

pub some-name : (o : Option (List ℕ)) (x : List ℕ) → o ≡ Some x → o ≡ Some (name_or_none o)
some-name (Some y) x e = refl
some-name None x e = cc

-- the place of a path, which is valid
pub record HasOwn (s : LexState ValueState) : Type 0 where
  pub own : Place
  pub stands : placed s ≡ Some own
  pub valid : IsValid own
  pub alone : HasApart own → ⊥

-- where the step from a path's own place is refused, an error stands on the path
pub parts : (b : Bool) (x : EdgeStep) → (if b then x else Refused) ≡ Refused → (b ≡ false) ⊎ (x ≡ Refused)
parts true x h = inr h
parts false x h = inl refl

pub call-missing : (o : Option ℕ) (p : Place) → enters_or_refused o p ≡ Refused → o ≡ None
call-missing (Some c) p h = cc
call-missing None p h = refl

text-refuses : (forest : ForestData) (n : ℕ) (bytes : List ℕ) (to : Point) (p : Place) (s : LexState ValueState) (o : Result Place (StepErr Place)) → placed s ≡ Some p → after_text bytes p ≡ o → reaches_or_refused (behind_text o) ≡ Refused
    → EdgeRefuses forest (writes n bytes to) s
text-refuses forest n bytes to p s (Ok q) own is h = cc
text-refuses forest n bytes to p s (Err e) own is h = (e, (one-text bytes p s own).1 e is)

hole-refuses : (forest : ForestData) (e : Edge) (p : Place) (s : LexState ValueState) (o : Holed) → placed s ≡ Some p → after_hole p ≡ o → reaches_or_refused (behind_hole o) ≡ Refused → (c : _) × (o ≡ Err c)
hole-refuses forest e p s (Ok h) own is k = cc
hole-refuses forest e p s (Err c) own is k = (c, refl)

edge-refuses : (forest : ForestData) (e : Edge) (p : Place) (s : LexState ValueState) → placed s ≡ Some p → edge_step forest e p ≡ Refused → EdgeRefuses forest e s
edge-refuses forest (writes n bytes to) p s own h = text-refuses forest n bytes to p s (after_text bytes p) own refl h
edge-refuses forest (fills n pipe to) p s own h = (let c = hole-refuses forest (fills n pipe to) p s (after_hole p) own refl h in (c.0, (one-hole p s own).1 c.0 c.1))
edge-refuses forest (calls n name to) p s own h = call-missing (number_named name forest) p h
edge-refuses forest (picks from choice to) p s own h = cc
edge-refuses forest (passes from to) p s own h = cc

module _ (forest : ForestData) (up : HasAscendingNames forest) where
  pub step-errs : (t : ℕ) (name : List ℕ) (e : Edge) (p : Place) (s : LexState ValueState) → tree_name_at forest t ≡ Some name → placed s ≡ Some p → step_of forest t e p ≡ Refused → Errs forest name e s
  step-errs t name e p s is own h = by-parts (parts (may_use p (use_at forest t (from_of e))) (edge_step forest e p) h)
    where
      by-parts : (may_use p (use_at forest t (from_of e)) ≡ false) ⊎ (edge_step forest e p ≡ Refused) → Errs forest name e s
      by-parts (inl m) = inl (record { own = p; stands = own; misused = ap (may_use p) (same_use forest t name (numbered forest t name up is) (from_of e)) ∙ m })
      by-parts (inr r) = inr (edge-refuses forest e p s own r)

  -- the template in which a path stands, and those of its open calls, have numbers
  abbrev AreNumbered : List Open → Type 0
  AreNumbered [] = ⊤
  AreNumbered (o ∷ os) = ((t : ℕ) × (tree_name_at forest t ≡ Some o.template)) × AreNumbered os

  record IsNumbered (a : Standing) : Type 0 where
    number : ℕ
    number_is : tree_name_at forest number ≡ Some a.template
    calls : AreNumbered a.open_calls

  -- the calls by these numbers, the innermost first
  calls-by : (os : List Open) → AreNumbered os → List ReplayedCall
  calls-by [] h = []
  calls-by (o ∷ os) h = record { template = h.0.0; node = o.node; back = o.back } ∷ calls-by os h.1

  abbrev open-named : Option (List ℕ) → ℕ → Point → Open
  open-named o n k = record { template = name_or_none o; node = n; back = k }

  calls-are : (os : List Open) (h : AreNumbered os) → map (open_of forest) (calls-by os h) ≡ os
  unfolding calls-by
  calls-are [] h = refl
  calls-are (o ∷ os) h = ap₂ (λ (x : Open) (xs : List Open). x ∷ xs) (ap (λ (n : Option (List ℕ)). open-named n o.node o.back) h.0.1) (calls-are os h.1)

  -- what moves tell of their choices, in templates of the forest
  record Tells (a : Standing) (ms : List Move) : Type 0 where
    chosen : List Chosen
    tells : told forest a ms ≡ map (told_of forest) chosen
    named : All (IsNamedTemplate forest) chosen

  abbrev known : Option (List ℕ) → ℕ → Way → IsNameKnown
  known o n w = record { template = name_or_none o; node = n; way = w }

  tells-along : (a : Standing) (e : Edge) (ms : List Move) → IsNumbered a → Tells (along_edge forest a e) ms → Tells a (along e ∷ ms)
  tells-along a (writes n bytes to) ms i r = record { chosen = r.chosen; tells = r.tells; named = r.named }
  tells-along a (fills n pipe to) ms i r = record { chosen = r.chosen; tells = r.tells; named = r.named }
  tells-along a (calls n name to) ms i r = record { chosen = r.chosen; tells = r.tells; named = r.named }
  tells-along a (picks from choice to) ms i r =
      let c : Chosen = record { template = i.number; node = point_node from; way = choice } in
      record {
        chosen = c ∷ r.chosen;
        tells = ap₂ (λ (x : IsNameKnown) (xs : List IsNameKnown). x ∷ xs) (ap (λ (o : Option (List ℕ)). known o (point_node from) choice) (sym i.number_is)) r.tells;
        named = All-cons (IsNamedTemplate forest) c r.chosen (some-name (tree_name_at forest i.number) a.template i.number_is) r.named;
      }
  tells-along a (passes from to) ms i r = record { chosen = r.chosen; tells = r.tells; named = r.named }

  callee-numbered : (a : Standing) (n : ℕ) (name : List ℕ) (to : Point) (s : LexState ValueState) (o : Option ℕ) → number_named name forest ≡ o → IsNumbered a → (Errs forest a.template (calls n name to) s → ⊥)
      → IsNumbered (along_edge forest a (calls n name to))
  callee-numbered a n name to s (Some t) is i clear = record { number = t; number_is = named forest t name is; calls = ((i.number, i.number_is), i.calls) }
  callee-numbered a n name to s None is i clear = absurd (clear (inr is))

  numbered-along : (a : Standing) (e : Edge) (s : LexState ValueState) → IsNumbered a → (Errs forest a.template e s → ⊥) → IsNumbered (along_edge forest a e)
  numbered-along a (writes n bytes to) s i clear = record { number = i.number; number_is = i.number_is; calls = i.calls }
  numbered-along a (fills n pipe to) s i clear = record { number = i.number; number_is = i.number_is; calls = i.calls }
  numbered-along a (calls n name to) s i clear = callee-numbered a n name to s (number_named name forest) refl i clear
  numbered-along a (picks from choice to) s i clear = record { number = i.number; number_is = i.number_is; calls = i.calls }
  numbered-along a (passes from to) s i clear = record { number = i.number; number_is = i.number_is; calls = i.calls }

  numbered-back : (os : List Open) (a : Standing) → AreNumbered os → IsNumbered a → IsNumbered (left_calls os a)
  numbered-back [] a h i = i
  numbered-back (o ∷ os) a h i = record { number = h.0.0; number_is = h.0.1; calls = h.1 }

  -- no path met itself apart
  text-alone : (may : Bool) (bytes : List ℕ) (s : LexState ValueState) (o : HasOwn s) (q : Place) (x : Result Place (StepErr Place)) → after_text bytes o.own ≡ x
      → (if may then reaches_or_refused (behind_text x) else Refused) ≡ Reaches q → HasApart q → ⊥
  text-alone true bytes s o q (Ok p) is e h =
      let same : p ≡ q = cc in
      elim (met-apart.from bytes o.own q o.valid (subst (λ (z : Place). after_text bytes o.own ≡ Ok z) same is) h) [
        | inl k ↦ o.alone k.0
        | inr k ↦ (let i : IsIn o.own s = record { own = o.own; stands = o.stands; valid = o.valid; below = below_refl o.own } in
            own-parts bytes s (k.4 s s i (record { own = o.own; stands = o.stands; has = k.2 }) i (record { own = o.own; stands = o.stands; has = k.3 })).0)
      ]
  text-alone true bytes s o q (Err p) is e h = cc
  text-alone false bytes s o q x is e h = cc

  hole-alone : (may : Bool) (s : LexState ValueState) (o : HasOwn s) (q : Place) (x : Holed) → after_hole o.own ≡ x → (if may then reaches_or_refused (behind_hole x) else Refused) ≡ Reaches q → HasApart q → ⊥
  hole-alone true s o q (Ok p) is e h = (let same : p.0 ≡ q = cc in met-apart.holed o.own p.0 p.1 is (subst HasApart (sym same) h))
  hole-alone true s o q (Err p) is e h = cc
  hole-alone false s o q x is e h = cc

  call-alone : (may : Bool) (o : Option ℕ) (p q : Place) → (if may then enters_or_refused o p else Refused) ≡ Reaches q → ⊥
  call-alone true (Some c) p q e = cc
  call-alone true None p q e = cc
  call-alone false o p q e = cc

  same-alone : (may : Bool) (p q : Place) → (if may then Reaches p else Refused) ≡ Reaches q → p ≡ q
  same-alone true p q e = cc
  same-alone false p q e = cc

  step-alone : (t : ℕ) (e : Edge) (s : LexState ValueState) (o : HasOwn s) (q : Place) → step_of forest t e o.own ≡ Reaches q → HasApart q → ⊥
  step-alone t (writes n bytes to) s o q step h = text-alone (may_use o.own (use_at forest t (before n))) bytes s o q (after_text bytes o.own) refl step h
  step-alone t (fills n pipe to) s o q step h = hole-alone (may_use o.own (use_at forest t (before n))) s o q (after_hole o.own) refl step h
  step-alone t (calls n name to) s o q step h = call-alone (may_use o.own (use_at forest t (before n))) (number_named name forest) o.own q step
  step-alone t (picks from choice to) s o q step h = o.alone (subst HasApart (sym (same-alone (may_use o.own (use_at forest t from)) o.own q step)) h)
  step-alone t (passes from to) s o q step h = o.alone (subst HasApart (sym (same-alone (may_use o.own (use_at forest t from)) o.own q step)) h)

  -- a path's own place behind an edge
  pub own-step : (t : ℕ) (name : List ℕ) (e : Edge) (s : LexState ValueState) (o : HasOwn s) (r : EdgeStep) → tree_name_at forest t ≡ Some name → step_of forest t e o.own ≡ r → (Errs forest name e s → ⊥) → HasOwn (edge_read html_language e s)
  own-step t name e s o (Reaches q) is step clear =
      record { own = q; stands = reaches-own forest t e o.own q s o.stands step; valid = subst IsValidStep step (step-keeps-valid forest t e o.own o.valid); alone = step-alone t e s o q step }
  own-step t name e s o (Enters c q) is step clear = (let k = is-call forest t e o.own c q step in subst (λ (d : Edge). HasOwn (edge_read html_language d s)) (sym k.is) o)
  own-step t name e s o Refused is step clear = absurd (clear (step-errs t name e o.own s is o.stands step))

  record Walked (a : Standing) (s : LexState ValueState) (ms : List Move) : Type 0 where
    tells : Tells a ms
    numbers : IsNumbered (reached forest a ms)
    has_own : HasOwn (read_moves html_language ms s)

  walked : (a : Standing) (s : LexState ValueState) (ms : List Move) → IsNumbered a → HasOwn s → IsPath forest a ms → IsClear forest a s ms → Walked a s ms
  walked a s [] i o p c = record { tells = record { chosen = []; tells = refl; named = All-nil (IsNamedTemplate forest) }; numbers = i; has_own = o }
  walked a s (along e ∷ ms) i o p c =
      let w = walked (along_edge forest a e) (edge_read html_language e s) ms (numbered-along a e s i c.0) (own-step i.number a.template e s o (step_of forest i.number e o.own) i.number_is refl c.0) p.1 c.1 in
      record { tells = tells-along a e ms i w.tells; numbers = w.numbers; has_own = w.has_own }
  walked a s (back ∷ ms) i o p c =
      let w = walked (left_calls a.open_calls a) s ms (numbered-back a.open_calls a i.calls i) o p.1 c in
      record { tells = record { chosen = w.tells.chosen; tells = w.tells.tells; named = w.tells.named }; numbers = w.numbers; has_own = w.has_own }

  -- where moves of a root lead, the template has a number and the path a place
  pub record StandsThere (a : Standing) (s : LexState ValueState) : Type 0 where
    pub number : ℕ
    pub number_is : tree_name_at forest number ≡ Some a.template
    pub has_own : HasOwn s

  pub stands-there : (root : ℕ) (root_name : List ℕ) (a : Standing) (s : LexState ValueState) → tree_name_at forest root ≡ Some root_name → Goes forest (at_root forest root_name) start.at a s → StandsThere a s
  stands-there root root_name a s root_is g =
      let w = walked (at_root forest root_name) start.at g.moves (record { number = root; number_is = root_is; calls = tt }) (record { own = place.Text; stands = refl; valid = tt; alone = λ h. cc }) g.path g.clear in
      let i = subst IsNumbered g.stands w.numbers in
      record { number = i.number; number_is = i.number_is; has_own = subst HasOwn g.reads w.has_own }

  -- what a replay of the path has
  pub record Replayed (root : ℕ) (os : List Open) (t : ℕ) (k : Point) (p : PathTo forest root os t k) : Type 0 where
    pub calls : List ReplayedCall
    pub opens : opens_of forest calls ≡ os
    pub own : Place
    pub stands : placed (path_state p) ≡ Some own
    pub valid : IsValid own
    pub chosen : List Chosen
    pub tells : told forest (at_root forest p.root_name) p.moves ≡ map (told_of forest) chosen
    pub named : All (IsNamedTemplate forest) chosen

  pub replayed : (root : ℕ) (os : List Open) (t : ℕ) (k : Point) (p : PathTo forest root os t k) → Replayed root os t k p
  replayed root os t k p =
      let w = walked (at_root forest p.root_name) start.at p.moves (record { number = root; number_is = p.root_is; calls = tt }) (record { own = place.Text; stands = refl; valid = tt; alone = λ h. cc }) p.path p.clear in
      let numbers : AreNumbered os = subst (λ (a : Standing). AreNumbered a.open_calls) p.stands w.numbers.calls in
      record {
        calls = reverse (calls-by os numbers);
        opens = ap (map (open_of forest)) (reverse-reverse (calls-by os numbers)) ∙ calls-are os numbers;
        own = w.has_own.own;
        stands = w.has_own.stands;
        valid = w.has_own.valid;
        chosen = w.tells.chosen;
        tells = w.tells.tells;
        named = w.tells.named;
      }

  abbrev pub replay-is : (root : ℕ) (os : List Open) (t : ℕ) (k : Point) (p : PathTo forest root os t k) (r : Replayed root os t k p) (kept : List ReplayedCall) → opens_of forest kept ≡ os
      → IsReplayOf forest (replay_at root kept t k r.own r.chosen)
  replay-is root os t k p r kept opens = record {
    root_name = p.root_name;
    root_is = p.root_is;
    name = p.name;
    name_is = p.name_is;
    moves = p.moves;
    path = p.path;
    clear = p.clear;
    stands = p.stands ∙ ap (λ (xs : List Open). open_standing xs p.name k) (sym opens);
    own = r.stands;
    valid = r.valid;
    chosen = r.tells;
  }
