-- One advance after another: what each does to how far an execution has come.
use Rattle.std.proofs.Common.{◌≡◌, ◌<◌, ◌≤◌, true, false, Ok, Err, sym, ap, ◌∙◌, subst, inl, inr}
use Rattle.tpl_events.specs.Sinks.{SinkLeads}
use Rattle.tpl_exec.specs.Executing.{RunAnswers}
use Rattle.tpl_exec.specs.Steps.{Steps}
use Rattle.tpl_eval.specs.Functions.{max_steps}
use Rattle.tpl_exec.specs.Machine.{Progress, Machine, machine_advance, fails, finishes, machine_run, continues, emits}
use Rattle.tpl_exec.specs.Meaning.{finish_of}
use Rattle.tpl_events.specs.Events.{ExecEvent, Emission}
use Rattle.tpl_exec.specs.Runs.{Run}
use Rattle.tpl_events.specs.declared.sink.HoleStop.{HoleStop}
use Rattle.tpl_events.specs.declared.sink.HoleStop.TheVariants as stop
use Rattle.tpl_exec.specs.declared.stop.ExecStop.{ExecStop}
use Rattle.tpl_exec.specs.declared.stop.ExecStop.TheVariants.{Fault, SinkStop, Memory}
use Rattle.tpl_exec.proofs.MachineFollows.{Follows, follows}
use Rattle.tpl_exec.proofs.MachineShrinks.{Bounded, Shrinks, bounded, shrinks, weight}
use Rattle.tpl_exec.proofs.Reaching.{Reaches, goes_on, led_all, may_now, refused_one, takes_one}
use Rattle.tpl_tree.specs.Forests.{ForestData}

followed : (forest : ForestData) (m : Machine) (a : Progress) → machine_advance forest m ≡ a → Follows forest (machine_run forest m) a
followed forest m a is = subst (λ (x : Progress). Follows forest (machine_run forest m) x) is (follows forest m)

-- the event of an advance may be given
pub may_step : {S : Type 0} (may : S → ExecEvent → Type 0) (takes : S → ExecEvent → S → Type 0) (forest : ForestData) (run : Run) (s t : S) (m : Machine) → Reaches may takes run s t (machine_run forest m)
    → (g : Emission) (n : Machine) → machine_advance forest m ≡ emits g n → may t g.event
may_step may takes forest run s t m r g n is = may_now may takes run (machine_run forest m) s t g (machine_run forest n).events r (followed forest m (emits g n) is).0

-- it went on
pub went_on : {S : Type 0} (may : S → ExecEvent → Type 0) (takes : S → ExecEvent → S → Type 0) (refuses : S → ExecEvent → HoleStop → S → Type 0) (forest : ForestData) (run : Run) (s t u : S) (m n : Machine)
    → Reaches may takes run s t (machine_run forest m) → Steps takes refuses (machine_advance forest m) t (Ok true) n u → Reaches may takes run s u (machine_run forest n)
went_on may takes refuses forest run s t u m n r (inl e) =
    let f = followed forest m (continues n) e.0 in
    subst (λ x. Reaches may takes run s x (machine_run forest n)) (sym e.1) (goes_on may takes run (machine_run forest m) (machine_run forest n) s t r f.0 f.1)
went_on may takes refuses forest run s t u m n r (inr e) =
    let f = followed forest m (emits e.0 n) e.1 in
    takes_one may takes run (machine_run forest m) (machine_run forest n) s t u e.0 r f.0 f.1 e.2

-- it came nearer to its end
pub came_nearer : {S : Type 0} (takes : S → ExecEvent → S → Type 0) (refuses : S → ExecEvent → HoleStop → S → Type 0) (forest : ForestData) (t u : S) (m n : Machine)
    → m.state.steps ≤ max_steps → Steps takes refuses (machine_advance forest m) t (Ok true) n u → weight n < weight m
came_nearer takes refuses forest t u m n fits (inl e) = subst (λ (x : Progress). Shrinks (weight m) x) e.0 (shrinks forest m fits)
came_nearer takes refuses forest t u m n fits (inr e) = subst (λ (x : Progress). Shrinks (weight m) x) e.1 (shrinks forest m fits)

pub stays_bounded : {S : Type 0} (takes : S → ExecEvent → S → Type 0) (refuses : S → ExecEvent → HoleStop → S → Type 0) (forest : ForestData) (t u : S) (m n : Machine)
    → m.state.steps ≤ max_steps → Steps takes refuses (machine_advance forest m) t (Ok true) n u → n.state.steps ≤ max_steps
stays_bounded takes refuses forest t u m n fits (inl e) = subst (λ (x : Progress). Bounded x) e.0 (bounded forest m fits)
stays_bounded takes refuses forest t u m n fits (inr e) = subst (λ (x : Progress). Bounded x) e.1 (bounded forest m fits)

-- all is done
pub was_done : {S : Type 0} (may : S → ExecEvent → Type 0) (takes : S → ExecEvent → S → Type 0) (refuses : S → ExecEvent → HoleStop → S → Type 0) (forest : ForestData) (run : Run) (s t u : S) (m n : Machine)
    → Reaches may takes run s t (machine_run forest m) → Steps takes refuses (machine_advance forest m) t (Ok false) n u → RunAnswers takes refuses run s u (Ok n.state.steps)
was_done may takes refuses forest run s t u m n r e =
    let f = followed forest m (finishes n.state.steps) e.0 in (
      subst (λ x. SinkLeads takes s run.events x) (sym e.1) (led_all may takes run (machine_run forest m) s t r f.0),
      ap finish_of r.end ∙ f.1,
    )

-- it stopped
pub was_stopped : {S : Type 0} (may : S → ExecEvent → Type 0) (takes : S → ExecEvent → S → Type 0) (refuses : S → ExecEvent → HoleStop → S → Type 0) (forest : ForestData) (run : Run) (s t u : S) (m n : Machine) (why : ExecStop)
    → Reaches may takes run s t (machine_run forest m) → Steps takes refuses (machine_advance forest m) t (Err why) n u → RunAnswers takes refuses run s u (Err why)
was_stopped may takes refuses forest run s t u m n (Fault f) r (inl e) =
    let is = followed forest m (fails f) e.0 in
    inl (subst (λ x. SinkLeads takes s run.events x) (sym e.1) (led_all may takes run (machine_run forest m) s t r is.0), r.end ∙ is.1)
was_stopped may takes refuses forest run s t u m n (Fault f) r (inr e) =
    let is = followed forest m (emits e.0 e.1) e.2 in
    inr (e.0, refused_one may takes refuses run (machine_run forest m) s t u e.0 (machine_run forest e.1).events stop.TooLong r is.0 e.3, e.4)
was_stopped may takes refuses forest run s t u m n SinkStop r e =
    let is = followed forest m (emits e.0 e.1) e.2 in
    (e.0, refused_one may takes refuses run (machine_run forest m) s t u e.0 (machine_run forest e.1).events stop.SinkStop r is.0 e.3)
was_stopped may takes refuses forest run s t u m n Memory r (inl e) =
    inl (r.prefix, (machine_run forest m).events, r.events, subst (λ x. SinkLeads takes s r.prefix x) (sym e) r.led)
was_stopped may takes refuses forest run s t u m n Memory r (inr e) =
    let is = followed forest m (emits e.0 e.1) e.3 in
    inr (e.0, e.2, refused_one may takes refuses run (machine_run forest m) s t u e.0 (machine_run forest e.1).events e.2 r is.0 e.4)
