-- What an execution gives, one event after another.
use Rattle.std.specs.Prelude.{ℕ, List, [], ◌∷◌}
use Rattle.page_datum.specs.Data.{Data}
use Rattle.page_datum.specs.View.{ref_view}
use Rattle.page_datum.specs.declared.datum_ref.DatumRef.{DatumRef}

-- What is given to the page: a text by its node, a hole by its node and its value, a call by its node, and the end of a call. Nodes
-- have the numbers that they have in their own tree.
pub data ExecEvent : Type 0 where
  gives_text : ℕ → ExecEvent
  gives_hole : ℕ → Data → ExecEvent
  enters : ℕ → ExecEvent
  leaves : ExecEvent

abbrev pub fills : ℕ → DatumRef → ExecEvent
fills n datum = gives_hole n (ref_view datum)

-- an event, and the template and the line of its node, which for the end of a call is the call
pub record Emission : Type 0 where
  pub event : ExecEvent
  pub template : List ℕ
  pub line : ℕ

-- the events alone
abbrev pub events_of : List Emission → List ExecEvent
events_of [] = []
events_of (g ∷ gs) = g.event ∷ events_of gs
