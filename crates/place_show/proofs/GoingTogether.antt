-- Two paths that go on together from where they met: a first move, and more moves.
use Rattle.std.proofs.Common.{◌≡◌, ℕ, Bool, true, false, List, [], ◌∷◌, ◌++◌, Some, None, append-nil, append_assoc, refl, sym, ap, ◌∙◌, subst, inl, inr}
use Rattle.place_core.specs.place.PathPairs.{Apart}
use Rattle.place_flow.specs.Errors.{KeepsAlong, MeetApart, PartAlong}
use Rattle.place_show.proofs.GoingBoth.{both-step, state-after}
use Rattle.place_show.proofs.PassedMoves.{State, found-last, last-along, last-more, not-along, parts-more, read_all}
use Rattle.place_show.specs.LastApart.{IsLastAlong}
use Rattle.place_show.specs.Showings.{shown_state}
use Rattle.place_show.specs.Together.{AreTogether, GoBoth, GoOnTogether, IsFoundAlong, IsFoundOn, IsLastSoFar, LastPlaces, StepTogether, latest}
use Rattle.place_trace.specs.Replays.{GoesAlong, IsPathReplay, WentBack, replay_data}
use Rattle.place_trace.specs.declared.replay.PathReplay.{PathReplay}
use Rattle.tpl_paths.specs.Paths.{Move, back}
use Rattle.tpl_tree.specs.Forests.{ForestData}

-- what comes behind moves comes behind the moves before them, and these
module _ (forest : ForestData) (w0 v0 : PathReplay) (is : IsPathReplay forest w0) (js : IsPathReplay forest v0) where
  -- where they are apart
  pub start-together : Apart (shown_state is) (shown_state js) → AreTogether forest w0 v0 w0 v0 is js None
  start-together h = record {
    root = refl;
    here = is;
    other_here = js;
    common = [];
    moves = sym (append-nil is.moves);
    other_moves = sym (append-nil js.moves);
    met = λ rest k l. inl (h, k, l);
    more = λ rest upto bytes p q l. l;
    so_far = tt;
  }

  module _ (w1 v1 : PathReplay) where
    -- where they come apart in the first move
    first-so-far : (m : Move) (found : LastPlaces) (s1 r1 : State) → s1 ≡ read_all (m ∷ []) (shown_state is) → r1 ≡ read_all (m ∷ []) (shown_state js)
        → IsFoundOn m (shown_state is) (shown_state js) found → IsLastSoFar (m ∷ []) (shown_state is) (shown_state js) s1 r1 found
    first-so-far m None s1 r1 e f h = tt
    first-so-far m (Some x) s1 r1 e f h = found-last m (shown_state is) (shown_state js) s1 r1 x e f h

    pub first-step : (m : Move) (found : LastPlaces) → GoesAlong forest w0 w1 m → GoesAlong forest v0 v1 m → PartAlong (m ∷ []) (shown_state is) (shown_state js)
        → IsFoundOn m (shown_state is) (shown_state js) found → AreTogether forest w0 v0 w1 v1 is js found
    first-step m found g h part f =
        let i = g.goes is in
        let j = h.goes js in
        let e = state-after forest (replay_data w0) (replay_data w1) (m ∷ []) is i.0 i.1 in
        let d = state-after forest (replay_data v0) (replay_data v1) (m ∷ []) js j.0 j.1 in
        record {
          root = g.same_root;
          here = i.0;
          other_here = j.0;
          common = m ∷ [];
          moves = i.1;
          other_moves = j.1;
          met = parts-more m (shown_state is) (shown_state js) (shown_state i.0) (shown_state j.0) e d part;
          more = last-more m (shown_state is) (shown_state js) (shown_state i.0) (shown_state j.0) e d;
          so_far = first-so-far m found (shown_state i.0) (shown_state j.0) e d f;
        }

    -- more moves
    module _ (w v : PathReplay) (last found : LastPlaces) (t : AreTogether forest w0 v0 w v is js last) (g : GoBoth forest (replay_data w) (replay_data v) (replay_data w1) (replay_data v1) found) where
      abbrev s : State
      s = shown_state t.here

      abbrev r : State
      r = shown_state t.other_here

      abbrev behind : List Move
      behind = t.common ++ g.moves

      so-far-on : (before now : LastPlaces) (s1 r1 : State) → s1 ≡ read_all g.moves s → r1 ≡ read_all g.moves r → IsLastSoFar t.common (shown_state is) (shown_state js) s r before
          → IsFoundAlong g.moves s r now → IsLastSoFar behind (shown_state is) (shown_state js) s1 r1 (latest before now)
      so-far-on before (Some x) s1 r1 e d old f = λ rest upto bytes h.
          subst (λ (ms : List Move). IsLastAlong ms upto bytes (shown_state is) (shown_state js) x.0 x.1) (sym (append_assoc t.common g.moves rest))
          (t.more (g.moves ++ rest) upto bytes x.0 x.1 (f rest upto bytes (not-along rest upto bytes (read_all g.moves s) (read_all g.moves r) s1 r1 e d h)))
      so-far-on None None s1 r1 e d old f = tt
      so-far-on (Some x) None s1 r1 e d old f = λ rest upto bytes h.
          subst (λ (ms : List Move). IsLastAlong ms upto bytes (shown_state is) (shown_state js) x.0 x.1) (sym (append_assoc t.common g.moves rest))
          (old (g.moves ++ rest) upto bytes (f rest upto bytes (not-along rest upto bytes (read_all g.moves s) (read_all g.moves r) s1 r1 e d h)))

      pub together-on : AreTogether forest w0 v0 w1 v1 is js (latest last found)
      together-on =
          let i = g.goes t.here in
          let j = g.other_goes t.other_here in
          let h = g.passes t.here t.other_here in
          let e = state-after forest (replay_data w) (replay_data w1) g.moves t.here i.0 i.1 in
          let d = state-after forest (replay_data v) (replay_data v1) g.moves t.other_here j.0 j.1 in
          record {
            root = g.root ∙ t.root;
            here = i.0;
            other_here = j.0;
            common = behind;
            moves = i.1 ∙ (ap (λ (ms : List Move). ms ++ g.moves) t.moves ∙ append_assoc is.moves t.common g.moves);
            other_moves = j.1 ∙ (ap (λ (ms : List Move). ms ++ g.moves) t.other_moves ∙ append_assoc js.moves t.common g.moves);
            met = λ rest k l. subst (λ (ms : List Move). MeetApart ms (shown_state is) (shown_state js)) (sym (append_assoc t.common g.moves rest))
                (t.met (g.moves ++ rest) (h.keeps rest (subst (KeepsAlong rest) e k)) (h.other_keeps rest (subst (KeepsAlong rest) d l)));
            more = λ rest upto bytes p q l.
                subst (λ (ms : List Move). IsLastAlong ms upto bytes (shown_state is) (shown_state js) p q) (sym (append_assoc t.common g.moves rest))
                (t.more (g.moves ++ rest) upto bytes p q (h.more rest upto bytes p q
                (last-along rest upto bytes (read_all g.moves s) (read_all g.moves r) (shown_state i.0) (shown_state j.0) p q e d l)));
            so_far = so-far-on last found (shown_state i.0) (shown_state j.0) e d t.so_far h.last;
          }

-- both take an edge
pub first-on : (forest : ForestData) (w v w1 v1 : PathReplay) (found : LastPlaces) → StepTogether false forest w v w1 v1 found → GoOnTogether forest w v w1 v1 found
first-on forest w v w1 v1 found t is js = first-step forest w v is js w1 v1 t.move found t.goes t.other_goes (t.passes_on is js) (t.last is js)

-- both go on
pub next-on : (forest : ForestData) (w0 v0 w v w1 v1 : PathReplay) (last found : LastPlaces) → GoBoth forest (replay_data w) (replay_data v) (replay_data w1) (replay_data v1) found
    → GoOnTogether forest w0 v0 w v last → GoOnTogether forest w0 v0 w1 v1 (latest last found)
next-on forest w0 v0 w v w1 v1 last found g before is js = together-on forest w0 v0 is js w1 v1 w v last found (before is js) g

-- both go back out of a call
back-step : (forest : ForestData) (w v w1 v1 : PathReplay) → GoesAlong forest w w1 back → GoesAlong forest v v1 back → StepTogether true forest w v w1 v1 None
back-step forest w v w1 v1 g h = record { move = back; goes = g; other_goes = h; passes_on = λ is js. (tt, tt); last = λ is js. tt }

both-back : (forest : ForestData) (w0 v0 w v w1 v1 : PathReplay) (last : LastPlaces) → GoesAlong forest w w1 back → GoesAlong forest v v1 back → GoOnTogether forest w0 v0 w v last
    → GoOnTogether forest w0 v0 w1 v1 last
both-back forest w0 v0 w v w1 v1 last g h t = next-on forest w0 v0 w v w1 v1 last None (both-step forest w v w1 v1 None (back-step forest w v w1 v1 g h)) t

-- both go back alike, or neither does
pub back-alike : (forest : ForestData) (w0 v0 w v w1 v1 : PathReplay) (last : LastPlaces) (x y : Bool) → x ≡ y → WentBack forest w w1 x → WentBack forest v v1 y → GoOnTogether forest w0 v0 w v last
    → GoOnTogether forest w0 v0 w1 v1 last
back-alike forest w0 v0 w v w1 v1 last true true same g h t = both-back forest w0 v0 w v w1 v1 last g h t
back-alike forest w0 v0 w v w1 v1 last false false same g h t =
    subst (λ (x : PathReplay). GoOnTogether forest w0 v0 x v1 last) (sym g) (subst (λ (y : PathReplay). GoOnTogether forest w0 v0 w y last) (sym h) t)
back-alike forest w0 v0 w v w1 v1 last true false same g h t = cc
back-alike forest w0 v0 w v w1 v1 last false true same g h t = cc
