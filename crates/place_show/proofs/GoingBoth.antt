-- Two paths that go on by the same moves, as ones that met apart.
use Rattle.std.proofs.Common.{◌≡◌, ℕ, true, List, [], ◌∷◌, ◌++◌, None, append-nil, append_assoc, refl, sym, ap, ◌∙◌, subst}
use Rattle.place_core.specs.page.Html.{start}
use Rattle.place_core.specs.page.States.{LexState}
use Rattle.place_core.specs.page.Tags.{ValueState}
use Rattle.place_flow.proofs.Goings.{read-append}
use Rattle.place_flow.specs.Covering.{read_moves}
use Rattle.place_flow.specs.HtmlCovering.{html_language}
use Rattle.place_show.proofs.PassedMoves.{moves-after, no-moves, one-move, read_all}
use Rattle.place_show.specs.Showings.{shown_state}
use Rattle.place_show.specs.Together.{GoBoth, LastPlaces, PassMoves, StepTogether, latest}
use Rattle.place_trace.specs.Replays.{IsReplayOf, ReplayData, replay_data}
use Rattle.place_trace.specs.declared.replay.PathReplay.{PathReplay}
use Rattle.tpl_paths.specs.Paths.{Move}
use Rattle.tpl_tree.specs.Forests.{ForestData}

-- what a path has read after more moves
pub state-after : (forest : ForestData) (w w1 : ReplayData) (ms : List Move) (is : IsReplayOf forest w) (now : IsReplayOf forest w1) → now.moves ≡ is.moves ++ ms
    → shown_state now ≡ read_all ms (shown_state is)
state-after forest w w1 ms is now e = ap (λ (ns : List Move). read_moves html_language ns start.at) e ∙ read-append is.moves ms start.at

-- by no move
pub both-stay : (forest : ForestData) (w v : ReplayData) → GoBoth forest w v w v None
both-stay forest w v = record {
  root = refl;
  moves = [];
  goes = λ is. (is, sym (append-nil is.moves));
  other_goes = λ js. (js, sym (append-nil js.moves));
  passes = λ is js. no-moves (shown_state is) (shown_state js);
}

-- by one
pub both-step : (forest : ForestData) (w v w1 v1 : PathReplay) (found : LastPlaces) → StepTogether true forest w v w1 v1 found
    → GoBoth forest (replay_data w) (replay_data v) (replay_data w1) (replay_data v1) found
both-step forest w v w1 v1 found t = record {
  root = t.goes.same_root;
  moves = t.move ∷ [];
  goes = t.goes.goes;
  other_goes = t.other_goes.goes;
  passes = λ is js. one-move t.move (shown_state is) (shown_state js) found (t.passes_on is js) (t.last is js);
}

-- by some, and by others
module _ (forest : ForestData) (w v w1 v1 w2 v2 : ReplayData) (f g : LastPlaces) (h : GoBoth forest w v w1 v1 f) (k : GoBoth forest w1 v1 w2 v2 g) where
  both-passes : (is : IsReplayOf forest w) (js : IsReplayOf forest v) → PassMoves (h.moves ++ k.moves) (shown_state is) (shown_state js) (latest f g)
  both-passes is js =
      let i = h.goes is in
      let j = h.other_goes js in
      moves-after h.moves k.moves (shown_state is) (shown_state js) f g (h.passes is js)
      (subst (λ (x : LexState ValueState). PassMoves k.moves x (read_all h.moves (shown_state js)) g) (state-after forest w w1 h.moves is i.0 i.1)
      (subst (λ (x : LexState ValueState). PassMoves k.moves (shown_state i.0) x g) (state-after forest v v1 h.moves js j.0 j.1) (k.passes i.0 j.0)))

  pub both-after : GoBoth forest w v w2 v2 (latest f g)
  both-after = record {
    root = k.root ∙ h.root;
    moves = h.moves ++ k.moves;
    goes = λ is. (let i = h.goes is in let now = k.goes i.0 in (now.0, now.1 ∙ (ap (λ (ms : List Move). ms ++ k.moves) i.1 ∙ append_assoc is.moves h.moves k.moves)));
    other_goes = λ js. (let j = h.other_goes js in let now = k.other_goes j.0 in (now.0, now.1 ∙ (ap (λ (ms : List Move). ms ++ k.moves) j.1 ∙ append_assoc js.moves h.moves k.moves)));
    passes = both-passes;
  }
