-- The events that a list keeps, and the one that it refuses.
use Rattle.std.specs.Prelude.{◌≡◌, ℕ, zero, suc, true, false, List, [], ◌∷◌, ◌++◌, ◌⊎◌, Option, Some, None, Vec}
use Rattle.std.specs.declared.alloc.Global.{Global}
use Rattle.page_datum.specs.View.{view}
use Rattle.tpl_events.specs.Events.{ExecEvent, Emission, enters, events_of, gives_hole, gives_text, leaves}
use Rattle.tpl_events.specs.declared.list_sink.Kept.{Kept}
use Rattle.tpl_events.specs.declared.list_sink.Kept.TheVariants as kept
use Rattle.tpl_events.specs.declared.list_sink.ListSink.{ListSink}
use Rattle.tpl_events.specs.declared.sink.HoleStop.{HoleStop}
use Rattle.tpl_events.specs.declared.sink.HoleStop.TheVariants as stop

abbrev pub kept_event : Kept → ExecEvent
kept_event (kept.Text n) = gives_text n
kept_event (kept.Hole n datum) = gives_hole n (view datum)
kept_event (kept.Call n) = enters n
kept_event kept.Leave = leaves

abbrev pub kept_events : List Kept → List ExecEvent
kept_events [] = []
kept_events (k ∷ ks) = kept_event k ∷ kept_events ks

-- what a list has kept
abbrev pub events_in : Vec Kept Global → List ExecEvent
events_in kept = kept_events kept.items

abbrev pub listed : ListSink → List ExecEvent
listed s = events_in s.kept

-- Of the texts, holes and calls that it is given, a list refuses one at most. So many come before it; `None` where there is none.

-- those before the one of a number, counted from 1
abbrev pub before_number : ℕ → Option ℕ
before_number zero = None
before_number (suc n) = Some n

-- those that are left after one that is taken, or that this is the one to refuse
abbrev pub passed : Option ℕ → Option (Option ℕ)
passed None = Some None
passed (Some zero) = None
passed (Some (suc n)) = Some (Some n)

-- the same after an event; the end of a call is never refused
abbrev pub past_limit : Option ℕ → ExecEvent → Option (Option ℕ)
past_limit before leaves = Some before
past_limit before (gives_text n) = passed before
past_limit before (gives_hole n x) = passed before
past_limit before (enters n) = passed before

-- an event stands after those that were kept before
abbrev pub IsEventAdded : ListSink → ExecEvent → ListSink → Type 0
IsEventAdded s e t = (listed t ≡ listed s ++ e ∷ []) × (t.whole ≡ s.whole)

-- all stays as it was, and the list is not whole
abbrev pub IsLost : ListSink → ListSink → Type 0
IsLost s t = (listed t ≡ listed s) × (t.whole ≡ false)

-- an event is kept; when memory runs out the end of a call may be lost
abbrev pub IsKeptEvent : ListSink → ExecEvent → ListSink → Type 0
IsKeptEvent s leaves t = IsEventAdded s leaves t ⊎ IsLost s t
IsKeptEvent s (gives_text n) t = IsEventAdded s (gives_text n) t
IsKeptEvent s (gives_hole n x) t = IsEventAdded s (gives_hole n x) t
IsKeptEvent s (enters n) t = IsEventAdded s (enters n) t

-- what comes before the one to refuse, and how that is refused, are as they were
pub record GoesOn (s t : ListSink) : Type 0 where
  pub before : t.before ≡ s.before
  pub stop : t.stop ≡ s.stop

-- what is kept, and how one is refused, are as they were
pub record ListStays (s t : ListSink) : Type 0 where
  pub kept : listed t ≡ listed s
  pub stop : t.stop ≡ s.stop
  pub whole : t.whole ≡ s.whole

-- the next text, hole or call is the one to refuse, and is refused so
abbrev pub IsStated : ListSink → HoleStop → ListSink → Type 0
IsStated s why t = (passed s.before ≡ None) × (why ≡ s.stop) × (t.before ≡ None)

-- memory runs out to keep an event
abbrev pub IsUnkept : ListSink → HoleStop → ListSink → Type 0
IsUnkept s why t = (why ≡ stop.Memory) × (listed t ≡ listed s) × (t.whole ≡ s.whole)

-- a list takes an event: it is not the one to refuse, and it is kept
pub record ListKeeps (s : ListSink) (e : ExecEvent) (t : ListSink) : Type 0 where
  pub past : past_limit s.before e ≡ Some t.before
  pub stop : t.stop ≡ s.stop
  pub added : IsKeptEvent s e t

-- why a list refuses an event: it is the one to refuse, and is refused so; or it is not, and memory runs out
abbrev pub HasReason : ListSink → ExecEvent → HoleStop → ListSink → Type 0
HasReason s e why t = ((past_limit s.before e ≡ None) × (why ≡ s.stop) × (t.before ≡ None)) ⊎ ((past_limit s.before e ≡ Some t.before) × (why ≡ stop.Memory))

-- a list refuses an event, and what it has kept stays
pub record ListDeclines (s : ListSink) (e : ExecEvent) (why : HoleStop) (t : ListSink) : Type 0 where
  pub reason : HasReason s e why t
  pub stays : ListStays s t

-- events up to the one that a list refuses
abbrev pub and_past : ExecEvent → Option (Option ℕ) → (Option ℕ → List ExecEvent) → List ExecEvent
and_past e None rest = []
and_past e (Some before) rest = e ∷ rest before

abbrev pub up_to : Option ℕ → List ExecEvent → List ExecEvent
up_to before [] = []
up_to before (e ∷ es) = and_past e (past_limit before e) (λ later. up_to later es)

-- texts, holes and calls, without the ends of calls
abbrev pub without_ends : List ExecEvent → List ExecEvent
without_ends [] = []
without_ends (leaves ∷ es) = without_ends es
without_ends (gives_text n ∷ es) = gives_text n ∷ without_ends es
without_ends (gives_hole n x ∷ es) = gives_hole n x ∷ without_ends es
without_ends (enters n ∷ es) = enters n ∷ without_ends es

-- A list has these events more. Where it is whole, all of them are there, and else all but some ends of calls.
pub record HasMore (s : ListSink) (es : List ExecEvent) (t : ListSink) : Type 0 where
  pub whole : t.whole ≡ true → (s.whole ≡ true) × (listed t ≡ listed s ++ es)
  pub others : without_ends (listed t) ≡ without_ends (listed s) ++ without_ends es

-- a list has all events of an execution, of which it refuses none
pub record HasAll (all : List Emission) (s t : ListSink) : Type 0 where
  pub none : up_to s.before (events_of all) ≡ events_of all
  pub more : HasMore s (events_of all) t

-- a list has the events of an execution up to the one that it refuses so
pub record HasUpTo (all : List Emission) (why : HoleStop) (s t : ListSink) : Type 0 where
  pub next : (e : ExecEvent) × (rest : List ExecEvent) × (events_of all ≡ up_to s.before (events_of all) ++ e ∷ rest)
  pub so : s.stop ≡ why
  pub more : HasMore s (up_to s.before (events_of all)) t

-- a list has some first events of an execution, at most up to the one that it refuses
pub record HasSome (all : List Emission) (s t : ListSink) : Type 0 where
  pub prefix : List ExecEvent
  pub rest : List ExecEvent
  pub events : up_to s.before (events_of all) ≡ prefix ++ rest
  pub more : HasMore s prefix t
