-- How far an execution has come: the events that were taken so far, and the run that is left.
use Rattle.std.proofs.Common.{◌≡◌, List, [], ◌∷◌, ◌++◌, append_assoc, append-nil, refl, sym, ap, ◌∙◌, subst}
use Rattle.tpl_events.specs.Sinks.{Allows, SinkLeads, SinkRefuses}
use Rattle.tpl_events.specs.Events.{ExecEvent, Emission}
use Rattle.tpl_exec.specs.Runs.{Run}
use Rattle.tpl_events.specs.declared.sink.HoleStop.{HoleStop}

pub record Reaches {S : Type 0} (may : S → ExecEvent → Type 0) (takes : S → ExecEvent → S → Type 0) (run : Run) (s t : S) (left : Run) : Type 0 where
  pub prefix : List Emission
  pub events : run.events ≡ prefix ++ left.events
  pub end : run.end ≡ left.end
  pub led : SinkLeads takes s prefix t
  pub allowed : Allows may takes t left.events

Leads-push : {S : Type 0} (takes : S → ExecEvent → S → Type 0) (s u t : S) (prefix : List Emission) (g : Emission) → SinkLeads takes s prefix u → takes u g.event t → SinkLeads takes s (prefix ++ g ∷ []) t
Leads-push {S = S} takes s u t [] g is e = (t, subst (λ (x : S). takes x g.event t) is e, refl)
Leads-push takes s u t (f ∷ prefix) g led e = (led.0, led.1, Leads-push takes led.0 u t prefix g led.2 e)

-- nothing is emission yet
pub from_start : {S : Type 0} (may : S → ExecEvent → Type 0) (takes : S → ExecEvent → S → Type 0) (run left : Run) (s : S) → run.events ≡ left.events → run.end ≡ left.end → Allows may takes s run.events → Reaches may takes run s s left
from_start may takes run left s events end allowed = record { prefix = []; events = events; end = end; led = refl; allowed = subst (λ (gs : List Emission). Allows may takes s gs) events allowed }

-- nothing was emission, and the same is left
pub goes_on : {S : Type 0} (may : S → ExecEvent → Type 0) (takes : S → ExecEvent → S → Type 0) (run left later : Run) (s t : S) → Reaches may takes run s t left → left.events ≡ later.events → left.end ≡ later.end → Reaches may takes run s t later
goes_on may takes run left later s t r events end = record {
  prefix = r.prefix;
  events = r.events ∙ ap (λ (gs : List Emission). r.prefix ++ gs) events;
  end = r.end ∙ end;
  led = r.led;
  allowed = subst (λ (gs : List Emission). Allows may takes t gs) events r.allowed;
}

allowed_next : {S : Type 0} (may : S → ExecEvent → Type 0) (takes : S → ExecEvent → S → Type 0) (left : List Emission) (t : S) (g : Emission) (rest : List Emission) → left ≡ g ∷ rest → Allows may takes t left → Allows may takes t (g ∷ rest)
allowed_next may takes left t g rest is a = subst (λ (gs : List Emission). Allows may takes t gs) is a

-- the next event may be given
pub may_now : {S : Type 0} (may : S → ExecEvent → Type 0) (takes : S → ExecEvent → S → Type 0) (run left : Run) (s t : S) (g : Emission) (rest : List Emission) → Reaches may takes run s t left → left.events ≡ g ∷ rest → may t g.event
may_now may takes run left s t g rest r is = (allowed_next may takes left.events t g rest is r.allowed).0

-- it was taken
pub takes_one : {S : Type 0} (may : S → ExecEvent → Type 0) (takes : S → ExecEvent → S → Type 0) (run left later : Run) (s t u : S) (g : Emission) → Reaches may takes run s t left → left.events ≡ g ∷ later.events → left.end ≡ later.end → takes t g.event u → Reaches may takes run s u later
takes_one may takes run left later s t u g r is end e = record {
  prefix = r.prefix ++ g ∷ [];
  events = r.events ∙ ap (λ (gs : List Emission). r.prefix ++ gs) is ∙ sym (append_assoc r.prefix (g ∷ []) later.events);
  end = r.end ∙ end;
  led = Leads-push takes s t u r.prefix g r.led e;
  allowed = (allowed_next may takes left.events t g later.events is r.allowed).1 u e;
}

-- it was refused
pub refused_one : {S : Type 0} (may : S → ExecEvent → Type 0) (takes : S → ExecEvent → S → Type 0) (refuses : S → ExecEvent → HoleStop → S → Type 0) (run left : Run) (s t u : S) (g : Emission) (rest : List Emission) (why : HoleStop)
    → Reaches may takes run s t left → left.events ≡ g ∷ rest → refuses t g.event why u → SinkRefuses takes refuses run.events g why s u
refused_one may takes refuses run left s t u g rest why r is e = (r.prefix, rest, t, r.events ∙ ap (λ (gs : List Emission). r.prefix ++ gs) is, r.led, e)

-- all events were taken
pub led_all : {S : Type 0} (may : S → ExecEvent → Type 0) (takes : S → ExecEvent → S → Type 0) (run left : Run) (s t : S) → Reaches may takes run s t left → left.events ≡ [] → SinkLeads takes s run.events t
led_all may takes run left s t r none = subst (λ (gs : List Emission). SinkLeads takes s gs t) (sym (r.events ∙ ap (λ (gs : List Emission). r.prefix ++ gs) none ∙ append-nil r.prefix)) r.led
