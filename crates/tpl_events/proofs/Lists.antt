-- What a list has after events that it was given.
use Rattle.std.proofs.Common.{◌≡◌, List, [], ◌∷◌, ◌++◌, None, append_assoc, append-nil, refl, sym, ap, ◌∙◌, subst, inl, inr}
use Rattle.tpl_events.specs.Sinks.{SinkLeads, SinkRefuses}
use Rattle.tpl_events.specs.Lists.{ListDeclines, HasAll, HasMore, HasSome, HasUpTo, IsKeptEvent, ListKeeps, ListStays, listed, past_limit, up_to, without_ends}
use Rattle.tpl_events.specs.Events.{ExecEvent, Emission, enters, events_of, gives_hole, gives_text, leaves}
use Rattle.tpl_events.specs.declared.list_sink.ListSink.{ListSink}
use Rattle.tpl_events.specs.declared.sink.HoleStop.{HoleStop}
use Rattle.tpl_events.specs.declared.sink.HoleStop.TheVariants as stop

-- events one after another

events_of-append : (xs ys : List Emission) → events_of (xs ++ ys) ≡ events_of xs ++ events_of ys
events_of-append [] ys = refl
events_of-append (x ∷ xs) ys = ap (λ (es : List ExecEvent). x.event ∷ es) (events_of-append xs ys)

without_ends-append : (xs ys : List ExecEvent) → without_ends (xs ++ ys) ≡ without_ends xs ++ without_ends ys
without_ends-append [] ys = refl
without_ends-append (leaves ∷ xs) ys = without_ends-append xs ys
without_ends-append (gives_text n ∷ xs) ys = ap (λ (es : List ExecEvent). gives_text n ∷ es) (without_ends-append xs ys)
without_ends-append (gives_hole n x ∷ xs) ys = ap (λ (es : List ExecEvent). gives_hole n x ∷ es) (without_ends-append xs ys)
without_ends-append (enters n ∷ xs) ys = ap (λ (es : List ExecEvent). enters n ∷ es) (without_ends-append xs ys)

-- what a list has more

none_more : (s : ListSink) → HasMore s [] s
none_more s = record { whole = λ w. (w, sym (append-nil (listed s))); others = sym (append-nil (without_ends (listed s))) }

added_more : (s t : ListSink) (e : ExecEvent) → listed t ≡ listed s ++ e ∷ [] → t.whole ≡ s.whole → HasMore s (e ∷ []) t
added_more s t e added same = record { whole = λ w. (sym same ∙ w, added); others = ap without_ends added ∙ without_ends-append (listed s) (e ∷ []) }

one_more : (s t : ListSink) (e : ExecEvent) → IsKeptEvent s e t → HasMore s (e ∷ []) t
one_more s t leaves (inl a) = added_more s t leaves a.0 a.1
one_more s t leaves (inr a) = record { whole = λ w. absurd (cc); others = ap without_ends a.0 ∙ sym (append-nil (without_ends (listed s))) }
one_more s t (gives_text n) a = added_more s t (gives_text n) a.0 a.1
one_more s t (gives_hole n x) a = added_more s t (gives_hole n x) a.0 a.1
one_more s t (enters n) a = added_more s t (enters n) a.0 a.1

then_more : (s u t : ListSink) (xs ys : List ExecEvent) → HasMore s xs u → HasMore u ys t → HasMore s (xs ++ ys) t
then_more s u t xs ys first second = record {
  whole = λ w.
      let after = second.whole w in
      let before = first.whole after.0 in
      (before.0, after.1 ∙ ap (λ (es : List ExecEvent). es ++ ys) before.1 ∙ append_assoc (listed s) xs ys);
  others = second.others ∙ ap (λ (es : List ExecEvent). es ++ without_ends ys) first.others ∙ append_assoc (without_ends (listed s)) (without_ends xs) (without_ends ys)
      ∙ ap (λ (es : List ExecEvent). without_ends (listed s) ++ es) (sym (without_ends-append xs ys));
}

stays_more : (s u t : ListSink) (es : List ExecEvent) → HasMore s es u → ListStays u t → HasMore s es t
stays_more s u t es more stays = record {
  whole = λ w.
      let all = more.whole (sym stays.whole ∙ w) in
      (all.0, stays.kept ∙ all.1);
  others = ap without_ends stays.kept ∙ more.others;
}

-- what it has more after events that it took, and what is left for it to take

pub led_more : (s t : ListSink) (gs : List Emission) → SinkLeads ListKeeps s gs t → HasMore s (events_of gs) t
led_more s t [] led = subst (λ (x : ListSink). HasMore s [] x) (sym led) (none_more s)
led_more s t (g ∷ gs) led = then_more s led.0 t (g.event ∷ []) (events_of gs) (one_more s led.0 g.event led.1.added) (led_more led.0 t gs led.2)

led_stop : (s t : ListSink) (gs : List Emission) → SinkLeads ListKeeps s gs t → t.stop ≡ s.stop
led_stop s t [] led = ap (λ (x : ListSink). x.stop) led
led_stop s t (g ∷ gs) led = led_stop led.0 t gs led.2 ∙ led.1.stop

led_up_to : (s t : ListSink) (gs : List Emission) (more : List ExecEvent) → SinkLeads ListKeeps s gs t → up_to s.before (events_of gs ++ more) ≡ events_of gs ++ up_to t.before more
led_up_to s t [] more led = ap (λ (x : ListSink). up_to x.before more) (sym led)
led_up_to s t (g ∷ gs) more led = rw led.1.past (ap (λ (es : List ExecEvent). g.event ∷ es) (led_up_to led.0 t gs more led.2))

pub prefix_up_to : (s t : ListSink) (all prefix rest : List Emission) → all ≡ prefix ++ rest → SinkLeads ListKeeps s prefix t → up_to s.before (events_of all) ≡ events_of prefix ++ up_to t.before (events_of rest)
prefix_up_to s t all prefix rest is led = ap (λ (gs : List Emission). up_to s.before (events_of gs)) is ∙ ap (up_to s.before) (events_of-append prefix rest) ∙ led_up_to s t prefix (events_of rest) led

-- all of them, those up to the one that it refuses, or some

pub has_all : (all : List Emission) (s t : ListSink) → SinkLeads ListKeeps s all t → HasAll all s t
has_all all s t led = record {
  none = ap (up_to s.before) (sym (append-nil (events_of all))) ∙ led_up_to s t all [] led ∙ append-nil (events_of all);
  more = led_more s t all led;
}

stated_up_to : (all : List Emission) (s u t : ListSink) (prefix rest : List Emission) (g : Emission) (why : HoleStop) → all ≡ prefix ++ g ∷ rest → SinkLeads ListKeeps s prefix u
    → past_limit u.before g.event ≡ None → why ≡ u.stop → ListStays u t → HasUpTo all why s t
stated_up_to all s u t prefix rest g why is led stated so stays =
    let events : events_of all ≡ events_of prefix ++ g.event ∷ events_of rest = ap events_of is ∙ events_of-append prefix (g ∷ rest) in
    let none : up_to u.before (g.event ∷ events_of rest) ≡ [] = rw stated refl in
    let up : up_to s.before (events_of all) ≡ events_of prefix = prefix_up_to s u all prefix (g ∷ rest) is led ∙ ap (λ (es : List ExecEvent). events_of prefix ++ es) none ∙ append-nil (events_of prefix) in
    record {
      next = (g.event, events_of rest, events ∙ ap (λ (es : List ExecEvent). es ++ g.event ∷ events_of rest) (sym up));
      so = sym (so ∙ led_stop s u prefix led);
      more = subst (λ (es : List ExecEvent). HasMore s es t) (sym up) (stays_more s u t (events_of prefix) (led_more s u prefix led) stays);
    }

pub has_up_to : (all : List Emission) (s t : ListSink) (g : Emission) (why : HoleStop) → (why ≡ stop.Memory → ⊥) → SinkRefuses ListKeeps ListDeclines all g why s t → HasUpTo all why s t
has_up_to all s t g why free r = elim r.5.reason [
  | inl d ↦ stated_up_to all s r.2 t r.0 r.1 g why r.3 r.4 d.0 d.1 r.5.stays
  | inr d ↦ absurd (free d.1)
]

pub has_some : (all : List Emission) (s t : ListSink) (g : Emission) (why : HoleStop) → SinkRefuses ListKeeps ListDeclines all g why s t → HasSome all s t
has_some all s t g why r = record {
  prefix = events_of r.0;
  rest = up_to r.2.before (g.event ∷ events_of r.1);
  events = prefix_up_to s r.2 all r.0 (g ∷ r.1) r.3 r.4;
  more = stays_more s r.2 t (events_of r.0) (led_more s r.2 r.0 r.4) r.5.stays;
}

pub has_prefix : (all : List Emission) (s t : ListSink) (prefix rest : List Emission) → all ≡ prefix ++ rest → SinkLeads ListKeeps s prefix t → HasSome all s t
has_prefix all s t prefix rest is led = record { prefix = events_of prefix; rest = up_to t.before (events_of rest); events = prefix_up_to s t all prefix rest is led; more = led_more s t prefix led }
