-- Runs after one another, and the walks that they take.
use Rattle.std.proofs.Common.{◌≡◌, List, [], ◌∷◌, ◌++◌, append-nil, refl, sym, ap, ◌∙◌, subst}
use Rattle.tpl_events.specs.Events.{Emission}
use Rattle.tpl_exec.specs.Runs.{RunChoice, End, Run, run_go_on}
use Rattle.tpl_tree.specs.Forests.{ForestData}
use Rattle.tpl_paths.specs.Paths.{IsPath, Move, Sign, Standing, choices_of, reached, signs_of}
use Rattle.tpl_paths.specs.declared.choice.Way.{Way}
use Rattle.tpl_paths.proofs.Appends.{choices-append, reached-append, signs-append, walk-append}
use Rattle.page_path.specs.Taken.{Exits, IsTakenPath, Arrives, run_choice_of, choices, move_sign, signs}

pub signs-given : (gs hs : List Emission) → signs (gs ++ hs) ≡ signs gs ++ signs hs
signs-given [] hs = refl
signs-given (g ∷ gs) hs = ap (λ (x : List Sign). move_sign g.event ∷ x) (signs-given gs hs)

pub choices-given : (cs ds : List RunChoice) → choices (cs ++ ds) ≡ choices cs ++ choices ds
choices-given [] ds = refl
choices-given (c ∷ cs) ds = ap (λ (x : List Way). run_choice_of c ∷ x) (choices-given cs ds)

-- a run, and what its end leads to
pub walked_on : (forest : ForestData) (a : Standing) (r : Run) (more : End → Run) (x y : Exits)
    → IsTakenPath forest a r x → ((b : Standing) → Arrives x r.end b → IsTakenPath forest b (more r.end) y) → IsTakenPath forest a (run_go_on more r) y
walked_on forest a r more x y w k =
    let v = k (reached forest a w.moves) w.lands in record {
      moves = w.moves ++ v.moves;
      walk = walk-append forest a w.moves v.moves w.walk v.walk;
      same_signs = signs-append w.moves v.moves ∙ ap (λ (s : List Sign). s ++ signs_of v.moves) w.same_signs ∙ ap (λ (s : List Sign). signs r.events ++ s) v.same_signs
          ∙ sym (signs-given r.events (more r.end).events);
      same_choices = choices-append w.moves v.moves ∙ ap (λ (s : List Way). s ++ choices_of v.moves) w.same_choices ∙ ap (λ (s : List Way). choices r.choices ++ s) v.same_choices
          ∙ sym (choices-given r.choices (more r.end).choices);
      lands = subst (λ (b : Standing). Arrives y (more r.end).end b) (sym (reached-append forest a w.moves v.moves)) v.lands;
    }

-- moves that tell nothing, after a run
pub record IsQuiet (forest : ForestData) (b : Standing) (end : End) (y : Exits) : Type 0 where
  pub moves : List Move
  pub walk : IsPath forest b moves
  pub same_signs : signs_of moves ≡ []
  pub same_choices : choices_of moves ≡ []
  pub lands : Arrives y end (reached forest b moves)

pub walked_to : (forest : ForestData) (a : Standing) (r : Run) (x y : Exits) → IsTakenPath forest a r x → ((b : Standing) → Arrives x r.end b → IsQuiet forest b r.end y) → IsTakenPath forest a r y
walked_to forest a r x y w k =
    let v = k (reached forest a w.moves) w.lands in record {
      moves = w.moves ++ v.moves;
      walk = walk-append forest a w.moves v.moves w.walk v.walk;
      same_signs = signs-append w.moves v.moves ∙ ap (λ (s : List Sign). signs_of w.moves ++ s) v.same_signs ∙ append-nil (signs_of w.moves) ∙ w.same_signs;
      same_choices = choices-append w.moves v.moves ∙ ap (λ (s : List Way). choices_of w.moves ++ s) v.same_choices ∙ append-nil (choices_of w.moves) ∙ w.same_choices;
      lands = subst (λ (b : Standing). Arrives y r.end b) (sym (reached-append forest a w.moves v.moves)) v.lands;
    }
