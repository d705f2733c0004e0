use Rattle.std.proofs.Common.{◌≡◌, ◌∙◌, ℕ, List, [], ◌∷◌, ◌++◌, Option, ap, length, subst, sym}
use Rattle.place_flow.specs.Flows.{start_at}
use Rattle.place_flow.specs.declared.point_state.PointState.TheVariants.{At}
use Rattle.place_derive.specs.Logs.{IsKeptLog, log_with}
use Rattle.place_derive.specs.Tracing.{derivation_entering}
use Rattle.place_derive.specs.declared.derivation.Derivation.{Derivation}
use Rattle.place_derive.proofs.Entering.{entered_stay, entered_sound}
use Rattle.place_derive.proofs.KeptLogs.{kept_more}
use Rattle.place_chart.proofs.FreshSummaries.{IsBlank}
use Rattle.place_chart.specs.Summaries.{AreRaised}
use Rattle.place_chart.specs.declared.summary.Summary.{Summary}
use Rattle.tpl_paths.specs.Edges.{Point}
use Rattle.place_derive.proofs.derived.Derived.enter.Goals as goal

pub returns-then-is_point_state_below-clause-sound : goal.returns-then-is_point_state_below-clause-sound
returns-then-is_point_state_below-clause-sound c = λ roots first log enters kept derivation h. record { log = log; is = kept; sound = h }

pub returns-clause-sound : goal.returns-clause-sound
returns-clause-sound c = λ roots first log enters kept derivation h.
    let forest = c.args.flows.now in
    let summaries = c.args.self.now.summaries in
    let conflict = c.args.self.now.conflict in
    let summary = c.in_ok-summary.summary in
    let t = c.args.template in
    let e = c.args.entry in
    let new = c.raise.new.self in
    let blank : IsBlank summary t e = record { template = c.in_ok-summary.ensures.template; entry = c.in_ok-summary.ensures.entry; nothing = c.in_ok-summary.ensures.nothing } in
    let raised : AreRaised (summaries ++ summary ∷ []) new (length summaries) (start_at forest t) (At e) =
    subst (λ (rs : List Summary). AreRaised rs new (length summaries) (start_at forest t) (At e)) c.in_ok-push.ensures.ok
    (subst (λ (n : ℕ). AreRaised c.push.new.self new n (start_at forest t) (At e)) c.count-n.ensures
    (subst (λ (k : Point). AreRaised c.push.new.self new c.count-n.result k (At e)) c.start-start.ensures c.raise.ensures.raised)) in
    let g = derivation_entering forest t e c.args.from c.args.source in
    let same : c.push-2.new.self ≡ log_with c.args.self.now.log (g ∷ []) =
    c.in_ok-push-2.ensures ∙ ap (λ (k : Point). log_with c.args.self.now.log (record { template = t; entry = e; point = k; from = c.args.from; source = c.args.source; place = e } ∷ [])) c.start-start.ensures in
    record {
      log = log ++ g ∷ [];
      is = subst (λ (l : Option (List Derivation)). IsKeptLog l (log ++ g ∷ [])) (sym same) (kept_more c.args.self.now.log log (g ∷ []) kept);
      sound = entered_sound forest roots first summaries new log conflict t e summary c.args.from c.args.source blank raised enters derivation h;
    }

pub returns-clause-stays : goal.returns-clause-stays
returns-clause-stays c =
    let summaries = c.args.self.now.summaries in
    let summary = c.in_ok-summary.summary in
    let new = c.raise.new.self in
    let start = c.start-start.result in
    let e = c.args.entry in
    entered_stay summaries new summary start (At e)
    (subst (λ (rs : List Summary). AreRaised rs new (length summaries) start (At e)) c.in_ok-push.ensures.ok
    (subst (λ (n : ℕ). AreRaised c.push.new.self new n start (At e)) c.count-n.ensures c.raise.ensures.raised))
