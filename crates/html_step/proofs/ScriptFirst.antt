-- Of what a script refuses and what else is refused the one that stands first.
use Rattle.std.proofs.Common.{◌<◌, ◌≤◌, ◌-◌, ℕ, Bool, Some, Err, if◌then◌else◌, sym, ap, arith}
use Rattle.std.proofs.lemmas.Bool.{le-ltb, lt-ltb}
use Rattle.place_core.specs.place.Errors.{PathCause, PathRefusal}
use Rattle.html_scan.specs.ScriptPlaces.{cause_stands_at}
use Rattle.html_step.specs.StepViews.{StandsFirst}

abbrev standing : ℕ → PathCause → PathRefusal
standing k e = record { code = e.code; at = k - e.back; shown = k - e.shown }

pub script-first : (k : ℕ) (s e : PathCause) → e.back < s.back → s.back ≤ k → StandsFirst k (Some s) (cause_stands_at k (Some s)) (Some e)
script-first k s e h i r =
    let less : k - s.back < k - e.back = omega (arith, h, i) in
    sym (ap (λ (x : Bool). Err (if x then standing k s else standing k e)) (lt-ltb (k - s.back) (k - e.back) less))

pub other-first : (k : ℕ) (s e : PathCause) → s.back ≤ e.back → StandsFirst k (Some e) (cause_stands_at k (Some s)) (Some e)
other-first k s e h r =
    let most : k - e.back ≤ k - s.back = omega (arith, h) in
    sym (ap (λ (x : Bool). Err (if x then standing k s else standing k e)) (le-ltb (k - s.back) (k - e.back) most))
