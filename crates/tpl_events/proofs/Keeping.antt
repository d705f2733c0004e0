-- What a list keeps, and that it may be given anything.
use Rattle.std.proofs.Common.{◌≡◌, List, [], ◌∷◌, ◌++◌, refl, ap}
use Rattle.tpl_events.specs.Sinks.{Allows}
use Rattle.tpl_events.specs.Lists.{kept_event, kept_events}
use Rattle.tpl_events.specs.Events.{ExecEvent, Emission}
use Rattle.tpl_events.specs.declared.list_sink.Kept.{Kept}

pub kept_events-push : (ks : List Kept) (k : Kept) → kept_events (ks ++ k ∷ []) ≡ kept_events ks ++ kept_event k ∷ []
kept_events-push [] k = refl
kept_events-push (x ∷ ks) k = ap (λ (es : List ExecEvent). kept_event x ∷ es) (kept_events-push ks k)

pub allows_all : {S : Type 0} (may : S → ExecEvent → Type 0) (takes : S → ExecEvent → S → Type 0) → ((s : S) (e : ExecEvent) → may s e) → (s : S) (gs : List Emission) → Allows may takes s gs
allows_all may takes all s [] = tt
allows_all may takes all s (g ∷ gs) = (all s g.event, λ u _. allows_all may takes all u gs)
