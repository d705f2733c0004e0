-- Along a walk that a closed chart covers each event finds what it needs.
use Rattle.std.proofs.Common.{◌≡◌, ℕ, List, [], ◌∷◌, Option, Some, None, Result, Ok, Err, refl, sym, ap, ◌∙◌, subst}
use Rattle.html_step.specs.Holes.{Holed, after_hole}
use Rattle.html_step.specs.Steps.{after_text}
use Rattle.page_datum.specs.Data.{Data}
use Rattle.page_path.proofs.Finding.{AllFind, Finds, IsFound, IsFoundAt, IsHere, symbols_from}
use Rattle.page_path.proofs.Signs.{enter-event, heads, hole-event, leave-event, nothing, tails, text-event}
use Rattle.page_path.specs.ByChart.{HasPair}
use Rattle.page_path.specs.Laws.{IsRootOf}
use Rattle.page_path.specs.Pages.{bytes_in, callee_in}
use Rattle.page_path.specs.Soundness.{path_symbols}
use Rattle.place_flow.specs.Covering.{ChartByName, Holds, IsClosedByName, IsCovered, IsStack, LeadsOn, Pair, pair, pairs_along, read_moves, sign_pairs}
use Rattle.place_flow.specs.HtmlCovering.{behind_hole, behind_text, html_language}
use Rattle.place_core.specs.place.Errors.{node}
use Rattle.place_core.specs.page.Html.{start}
use Rattle.place_core.specs.page.Paths.{Hole, Symbol, Written, at_hole}
use Rattle.place_core.specs.page.States.{LexState}
use Rattle.place_core.specs.page.Tags.{ValueState, languages}
use Rattle.place_core.specs.declared.chain.Chain.{Chain}
use Rattle.place_core.specs.declared.place.Place.{Place}
use Rattle.place_core.specs.declared.place.Place.TheVariants as place
use Rattle.place_core.specs.declared.step_err.StepErr.{StepErr}
use Rattle.place_infer.specs.ChartViews.{ChartData}
use Rattle.place_chart.proofs.ConflictFreeCharts.{conflict_free-closes}
use Rattle.place_chart.specs.Exact.{places_of}
use Rattle.tpl_events.specs.Events.{Emission, ExecEvent, enters, gives_hole, gives_text, leaves}
use Rattle.tpl_exec.specs.Meaning.{meaning}
use Rattle.tpl_paths.proofs.EdgeNodes.{call_stands, hole_stands, text_stands}
use Rattle.tpl_paths.specs.Edges.{Point, before, calls, fills, finish_point, node_kind_at, passes, picks, start_in, writes}
use Rattle.tpl_paths.specs.Paths.{HasCall, IsMove, IsPath, Move, Open, Standing, after_moves, along, at_root, back, enters_at, leaves_call, left_calls, reached, signs_of}
use Rattle.page_path.proofs.Paths.{meaning_takes_path}
use Rattle.page_path.specs.Taken.{IsTakenPath, exits, signs}
use Rattle.tpl_tree.specs.Forests.{ForestData}
use Rattle.tpl_tree.specs.declared.node_kind.NodeKind.{NodeKind}
use Rattle.tpl_tree.specs.declared.node_kind.NodeKind.TheVariants as kind
use Rattle.tpl_tree.specs.declared.pipe.Pipe.{Pipe}

-- the templates that are open where a path stands, the innermost first
abbrev pub callers : List Open → List (List ℕ)
callers [] = []
callers (o ∷ os) = o.template ∷ callers os

abbrev pub open_at : Standing → List (List ℕ)
open_at a = a.template ∷ callers a.open_calls

left-open : (a : Standing) (os : List Open) → HasCall os → open_at (left_calls os a) ≡ callers os
left-open a [] h = absurd h
left-open a (o ∷ os) h = refl

-- what a closed chart takes is accepted
text-led : (r : Result Place (StepErr Place)) (there : Option Place) → LeadsOn html_language (behind_text r) there → (q : Place) × (r ≡ Ok q)
text-led (Ok q) there h = (q, refl)
text-led (Err e) there h = absurd h

hole-led : (r : Holed) (there : Option Place) → LeadsOn html_language (behind_hole r) there → (q : Place) × ((c : Chain) × (r ≡ Ok (q, c)))
hole-led (Ok h) there l = (h.0, (h.1, refl))
hole-led (Err e) there l = absurd l

begun : (o : Option Place) (p : Place) → Holds html_language o p → (q : Place) × (o ≡ Some q)
begun (Some q) p h = (q, refl)
begun None p h = absurd h

has-pair : (forest : ForestData) (chart : ChartByName Place) (os : List Open) (t : List ℕ) (entry : Place) (below : List (Pair Place))
    → HasCall os → IsStack forest chart place.Text os t entry below → HasPair below
has-pair forest chart [] t entry below k st = absurd k
has-pair forest chart (o ∷ os) t entry [] k st = absurd st
has-pair forest chart (o ∷ os) t entry (q ∷ qs) k st = tt

module _ (forest : ForestData) (chart : ChartByName Place) (closed : IsClosedByName html_language forest chart) where
  abbrev Covered : Standing → List (Pair Place) → LexState ValueState → Type 0
  Covered a ps s = IsCovered html_language forest chart place.Text a ps s

  -- every path that goes on from there is covered
  abbrev AllCovered : Standing → List (Pair Place) → LexState ValueState → Type 0
  AllCovered a ps s = (ms : List Move) → IsPath forest a ms
      → Covered (reached forest a ms) (pairs_along forest chart (signs_of ms) ps) (read_moves html_language ms s)

  abbrev Found : List Move → List Emission → Standing → List (Pair Place) → LexState ValueState → Type 0
  Found ms gs a ps s = IsFound forest chart (path_symbols ms) gs ps (open_at a) s

  abbrev FoundAt : Move → List Move → ExecEvent → List Emission → Standing → List (Pair Place) → LexState ValueState → Type 0
  FoundAt m ms e gs a ps s = IsFoundAt forest chart (path_symbols (m ∷ ms)) e gs ps (open_at a) s

  -- what the event of a move finds
  here : (a : Standing) (ps : List (Pair Place)) (s : LexState ValueState) (n : ℕ) (what : NodeKind) (h : Covered a ps s) → a.at ≡ before n
      → node_kind_at forest a.template n ≡ Some what → IsHere forest chart n what (pair a.template h.entry) (open_at a) s
  here a ps s n what h at is = record {
    is = is;
    innermost = is;
    place = h.place;
    there = ap (chart a.template h.entry) (sym at) ∙ h.there;
    valid = h.is_in.0;
    is_in = h.is_in.1;
  }

  -- likewise, in the innermost pair
  in-pair : (a : Standing) (ps : List (Pair Place)) (s : LexState ValueState) (e : ExecEvent) (h : Covered a ps s)
      → Finds forest chart e (pair a.template h.entry ∷ h.below) (open_at a) s → Finds forest chart e ps (open_at a) s
  in-pair a ps s e h f = subst (λ (qs : List (Pair Place)). Finds forest chart e qs (open_at a) s) (sym h.stack) f

  text-finds : (a : Standing) (ps : List (Pair Place)) (s : LexState ValueState) (n : ℕ) (bytes : List ℕ) (to : Point)
      → IsMove forest a (along (writes n bytes to)) → Covered a ps s → Finds forest chart (gives_text n) ps (open_at a) s
  text-finds a ps s n bytes to m h =
      let at = here a ps s n (kind.Text bytes) h m.1 (text_stands forest a.template n bytes to m.0) in
      let goes = closed a.template h.entry (writes n bytes to) at.place m.0 at.there in
      let q = text-led (after_text bytes at.place) (chart a.template h.entry to) goes in
      in-pair a ps s (gives_text n) h (record { bytes = bytes; here = at; next = q.0; accepted = q.1 })

  hole-finds : (a : Standing) (ps : List (Pair Place)) (s : LexState ValueState) (n : ℕ) (pipe : Pipe) (to : Point) (datum : Data)
      → IsMove forest a (along (fills n pipe to)) → Covered a ps s → Finds forest chart (gives_hole n datum) ps (open_at a) s
  hole-finds a ps s n pipe to datum m h =
      let at = here a ps s n (kind.Action pipe) h m.1 (hole_stands forest a.template n pipe to m.0) in
      let goes = closed a.template h.entry (fills n pipe to) at.place m.0 at.there in
      let q = hole-led (after_hole at.place) (chart a.template h.entry to) goes in
      in-pair a ps s (gives_hole n datum) h (record { pipe = pipe; here = at; next = q.0; chain = q.1.0; accepted = q.1.1 })

  call-finds : (a : Standing) (ps : List (Pair Place)) (s : LexState ValueState) (n : ℕ) (name : List ℕ) (to : Point)
      → IsMove forest a (along (calls n name to)) → Covered a ps s → Finds forest chart (enters n) ps (open_at a) s
  call-finds a ps s n name to m h =
      let is = call_stands forest a.template n name to m.0 in
      let at = here a ps s n (kind.Template name is.0) h m.1 is.1 in
      let goes = closed a.template h.entry (calls n name to) at.place m.0 at.there in
      let q = begun (chart name at.place (start_in forest name)) at.place goes.0 in
      in-pair a ps s (enters n) h (record { name = name; argument = is.0; here = at; begins = record { place = q.0; there = q.1 } })

  leave-finds : (a : Standing) (ps : List (Pair Place)) (s : LexState ValueState) → IsMove forest a back → Covered a ps s
      → Finds forest chart leaves ps (open_at a) s
  leave-finds a ps s m h = in-pair a ps s leaves h (has-pair forest chart a.open_calls a.template h.entry h.below m.0 h.opened)

  -- an event, and then what the moves after it have
  text-found : (a : Standing) (ps : List (Pair Place)) (s : LexState ValueState) (n : ℕ) (bytes : List ℕ) (to : Point) (ms : List Move)
      (gs : List Emission) → (let m = along (writes n bytes to) in IsMove forest a m → Covered a ps s
      → Found ms gs (after_moves forest a m) ps (node bytes s) → FoundAt m ms (gives_text n) gs a ps s)
  text-found a ps s n bytes to ms gs m h rest =
      let is = sym (text_stands forest a.template n bytes to m.0) in
      let written = ap (λ (o : Option NodeKind). Written (bytes_in o) ∷ symbols_from forest gs (open_at a)) is in
      record {
        finds = text-finds a ps s n bytes to m h;
        find = subst (λ (o : Option NodeKind). AllFind forest chart gs ps (open_at a) (node (bytes_in o) s)) is rest.find;
        same = ap (λ (x : List Symbol). Written bytes ∷ x) rest.same ∙ written;
      }

  hole-found : (a : Standing) (ps : List (Pair Place)) (s : LexState ValueState) (n : ℕ) (pipe : Pipe) (to : Point) (datum : Data)
      (ms : List Move) (gs : List Emission) → (let m = along (fills n pipe to) in IsMove forest a m → Covered a ps s
      → Found ms gs (after_moves forest a m) ps (at_hole languages s) → FoundAt m ms (gives_hole n datum) gs a ps s)
  hole-found a ps s n pipe to datum ms gs m h rest = record {
    finds = hole-finds a ps s n pipe to datum m h;
    find = rest.find;
    same = ap (λ (x : List Symbol). Hole ∷ x) rest.same;
  }

  call-found : (a : Standing) (ps : List (Pair Place)) (s : LexState ValueState) (n : ℕ) (name : List ℕ) (to : Point) (ms : List Move)
      (gs : List Emission) → (let m = along (calls n name to) in IsMove forest a m → Covered a ps s
      → Found ms gs (after_moves forest a m) (sign_pairs forest chart (enters_at n) ps) s → FoundAt m ms (enters n) gs a ps s)
  call-found a ps s n name to ms gs m h rest =
      let is = sym (call_stands forest a.template n name to m.0).1 in
      let qs = sign_pairs forest chart (enters_at n) ps in
      record {
        finds = call-finds a ps s n name to m h;
        find = subst (λ (o : Option NodeKind). AllFind forest chart gs qs (callee_in o ∷ open_at a) s) is rest.find;
        same = rest.same ∙ ap (λ (o : Option NodeKind). symbols_from forest gs (callee_in o ∷ open_at a)) is;
      }

  leave-found : (a : Standing) (ps : List (Pair Place)) (s : LexState ValueState) (ms : List Move) (gs : List Emission)
      → IsMove forest a back → Covered a ps s → Found ms gs (after_moves forest a back) (sign_pairs forest chart leaves_call ps) s
      → FoundAt back ms leaves gs a ps s
  leave-found a ps s ms gs m h rest =
      let is = left-open a a.open_calls m.0 in
      let qs = sign_pairs forest chart leaves_call ps in
      record {
        finds = leave-finds a ps s m h;
        find = subst (λ (ts : List (List ℕ)). AllFind forest chart gs qs ts s) is rest.find;
        same = rest.same ∙ ap (symbols_from forest gs) is;
      }

  -- the event is the one that has the sign
  with-sign : (m : Move) (ms : List Move) (e : ExecEvent) (g : Emission) (gs : List Emission) (a : Standing) (ps : List (Pair Place))
      (s : LexState ValueState) → e ≡ g.event → FoundAt m ms e gs a ps s → Found (m ∷ ms) (g ∷ gs) a ps s
  with-sign m ms e g gs a ps s same h =
      let at = subst (λ (x : ExecEvent). FoundAt m ms x gs a ps s) same h in
      record { find = (at.finds, at.find); same = at.same }

  -- along a walk each event finds what it needs
  pub walk-found : (ms : List Move) (gs : List Emission) (a : Standing) (ps : List (Pair Place)) (s : LexState ValueState)
      → IsPath forest a ms → signs_of ms ≡ signs gs → AllCovered a ps s → Found ms gs a ps s
  walk-found [] [] a ps s w e h = record { find = tt; same = refl }
  walk-found [] (g ∷ gs) a ps s w e h = nothing (sym e)
  walk-found (along (writes n bytes to) ∷ ms) [] a ps s w e h = nothing e
  walk-found (along (writes n bytes to) ∷ ms) (g ∷ gs) a ps s w e h =
      let m : Move = along (writes n bytes to) in
      let rest = walk-found ms gs (after_moves forest a m) ps (node bytes s) w.1 (tails e) (λ ns v. h (m ∷ ns) (w.0, v)) in
      with-sign m ms (gives_text n) g gs a ps s (text-event n g.event (heads e)) (text-found a ps s n bytes to ms gs w.0 (h [] tt) rest)
  walk-found (along (fills n pipe to) ∷ ms) [] a ps s w e h = nothing e
  walk-found (along (fills n pipe to) ∷ ms) (g ∷ gs) a ps s w e h =
      let m : Move = along (fills n pipe to) in
      let rest = walk-found ms gs (after_moves forest a m) ps (at_hole languages s) w.1 (tails e) (λ ns v. h (m ∷ ns) (w.0, v)) in
      let event = hole-event n g.event (heads e) in
      with-sign m ms (gives_hole n event.0) g gs a ps s event.1 (hole-found a ps s n pipe to event.0 ms gs w.0 (h [] tt) rest)
  walk-found (along (calls n name to) ∷ ms) [] a ps s w e h = nothing e
  walk-found (along (calls n name to) ∷ ms) (g ∷ gs) a ps s w e h =
      let m : Move = along (calls n name to) in
      let qs = sign_pairs forest chart (enters_at n) ps in
      let rest = walk-found ms gs (after_moves forest a m) qs s w.1 (tails e) (λ ns v. h (m ∷ ns) (w.0, v)) in
      with-sign m ms (enters n) g gs a ps s (enter-event n g.event (heads e)) (call-found a ps s n name to ms gs w.0 (h [] tt) rest)
  walk-found (along (picks from choice to) ∷ ms) gs a ps s w e h =
      let m : Move = along (picks from choice to) in
      walk-found ms gs (after_moves forest a m) ps s w.1 e (λ ns v. h (m ∷ ns) (w.0, v))
  walk-found (along (passes from to) ∷ ms) gs a ps s w e h =
      let m : Move = along (passes from to) in
      walk-found ms gs (after_moves forest a m) ps s w.1 e (λ ns v. h (m ∷ ns) (w.0, v))
  walk-found (back ∷ ms) [] a ps s w e h = nothing e
  walk-found (back ∷ ms) (g ∷ gs) a ps s w e h =
      let qs = sign_pairs forest chart leaves_call ps in
      let rest = walk-found ms gs (after_moves forest a back) qs s w.1 (tails e) (λ ns v. h (back ∷ ns) (w.0, v)) in
      with-sign back ms leaves g gs a ps s (leave-event g.event (heads e)) (leave-found a ps s ms gs w.0 (h [] tt) rest)

-- the chart of a set, along the path that an execution of a root takes
pub record IsAlong (forest : ForestData) (chart : ChartByName Place) (root : List ℕ) (datum : Data) : Type 0 where
  pub taken : IsTakenPath forest (at_root forest root) (meaning forest root datum) (exits [] root finish_point finish_point finish_point)
  pub found : IsFound forest chart (path_symbols taken.moves) (meaning forest root datum).events (pair root place.Text ∷ []) (root ∷ [])
      start.at

pub along-root : (forest : ForestData) (names : List (List ℕ)) (chart : ChartData) (root : List ℕ) (datum : Data)
    → IsRootOf forest names chart root → IsAlong forest (places_of forest chart.summaries) root datum
along-root forest names chart root datum r =
    let v = meaning_takes_path forest root datum in
    let events = (meaning forest root datum).events in
    let places = places_of forest chart.summaries in
    let closed = conflict_free-closes forest chart.summaries r.ascend r.is.least.valid r.is.least.closed r.is.conflict_free in
    record {
      taken = v;
      found = walk-found forest places closed v.moves events (at_root forest root) (pair root place.Text ∷ []) start.at v.walk v.same_signs
          (r.is.covers root r.number r.among r.numbered);
    }
