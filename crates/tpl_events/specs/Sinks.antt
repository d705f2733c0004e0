-- What a sink may be given, and how it then stands.
use Rattle.std.specs.Prelude.{◌≡◌, List, [], ◌∷◌, ◌++◌, ⊤}
use Rattle.tpl_events.specs.Events.{ExecEvent, Emission}
use Rattle.tpl_events.specs.declared.sink.HoleStop.{HoleStop}

-- A sink has states. Where an event may be given, it is taken, which leads to some state, or refused.

-- from one state to another by events that are all taken
abbrev pub SinkLeads : {S : Type 0} → (S → ExecEvent → S → Type 0) → S → List Emission → S → Type 0
SinkLeads takes s [] t = t ≡ s
SinkLeads {S} takes s (g ∷ gs) t = (u : S) × takes s g.event u × SinkLeads takes u gs t

-- each event may be given in each state to which those before it may lead
abbrev pub Allows : {S : Type 0} → (S → ExecEvent → Type 0) → (S → ExecEvent → S → Type 0) → S → List Emission → Type 0
Allows may takes s [] = ⊤
Allows {S} may takes s (g ∷ gs) = may s g.event × ((u : S) → takes s g.event u → Allows may takes u gs)

-- of all events some were taken, and the next one was refused so
abbrev pub SinkRefuses : {S : Type 0} → (S → ExecEvent → S → Type 0) → (S → ExecEvent → HoleStop → S → Type 0) → List Emission → Emission → HoleStop → S → S → Type 0
SinkRefuses {S} takes refuses all g why s t = (prefix : List Emission) × (rest : List Emission) × (u : S) × (all ≡ prefix ++ g ∷ rest) × SinkLeads takes s prefix u × refuses u g.event why t
