-- Which path an execution takes.
use Rattle.std.specs.Prelude.{◌≡◌, ℕ, List, [], ◌∷◌, ⊤}
use Rattle.page_datum.specs.Data.{Data}
use Rattle.tpl_exec.specs.Meaning.{meaning}
use Rattle.tpl_events.specs.Events.{Emission, ExecEvent, gives_text, gives_hole, enters, leaves}
use Rattle.tpl_exec.specs.Runs.{RunChoice, End, Run, next, broken, continued, faulted, then_part, else_part, turn, done}
use Rattle.tpl_tree.specs.Forests.{ForestData}
use Rattle.tpl_paths.specs.Edges.{Point, finish_point}
use Rattle.tpl_paths.specs.Paths.{IsPath, Move, Open, Sign, Standing, at_root, choices_of, enters_at, hole_of, leaves_call, reached, signs_of, open_standing, text_of}
use Rattle.tpl_paths.specs.declared.choice.Way.{Way}
use Rattle.tpl_paths.specs.declared.choice.Way.TheVariants as chosen

-- the events of a run without their values, and its choices, as those of a path
abbrev pub move_sign : ExecEvent → Sign
move_sign (gives_text n) = text_of n
move_sign (gives_hole n value) = hole_of n
move_sign (enters n) = enters_at n
move_sign leaves = leaves_call

abbrev pub signs : List Emission → List Sign
signs [] = []
signs (g ∷ gs) = move_sign g.event ∷ signs gs

abbrev pub run_choice_of : RunChoice → Way
run_choice_of then_part = chosen.Then
run_choice_of else_part = chosen.Else
run_choice_of turn = chosen.Turn
run_choice_of done = chosen.Done

abbrev pub choices : List RunChoice → List Way
choices [] = []
choices (c ∷ cs) = run_choice_of c ∷ choices cs

-- where nodes stand, and to which points they lead: what follows them, where a `break` leads, and where a `continue` leads
pub record Exits : Type 0 where
  pub open_calls : List Open
  pub template : List ℕ
  pub to : Point
  pub out : Point
  pub on : Point

abbrev pub exits : List Open → List ℕ → Point → Point → Point → Exits
exits os template to out on = record { open_calls = os; template = template; to = to; out = out; on = on }

-- where an end leads; a fault may stand anywhere
abbrev pub Arrives : Exits → End → Standing → Type 0
Arrives x (next state) b = b ≡ open_standing x.open_calls x.template x.to
Arrives x (broken state) b = b ≡ open_standing x.open_calls x.template x.out
Arrives x (continued state) b = b ≡ open_standing x.open_calls x.template x.on
Arrives x (faulted why) b = ⊤

-- a run is a walk: its events without their values, its choices, and where its end leads
pub record IsTakenPath (forest : ForestData) (a : Standing) (run : Run) (x : Exits) : Type 0 where
  pub moves : List Move
  pub walk : IsPath forest a moves
  pub same_signs : signs_of moves ≡ signs run.events
  pub same_choices : choices_of moves ≡ choices run.choices
  pub lands : Arrives x run.end (reached forest a moves)

-- The events of an execution without their values, and its choices, are those of a path, which ends at the template's end, or anywhere
-- where it meets a fault.
abbrev pub MeaningTakesPath : Type 0
MeaningTakesPath = (forest : ForestData) (root : List ℕ) (datum : Data) → IsTakenPath forest (at_root forest root) (meaning forest root datum) (exits [] root finish_point finish_point finish_point)
