-- Evidence that two paths met apart comes from a place that has it of two of its paths.
use Rattle.std.proofs.Common.{◌≡◌, ℕ, List}
use Rattle.html_step.specs.HoleLaws.{IsHoleEvidence}
use Rattle.html_step.specs.Laws.{IsEvidence}
use Rattle.html_step.specs.OriginViews.{evidence_at}
use Rattle.html_step.specs.declared.evidence.Evidence.{Evidence}
use Rattle.html_step.specs.declared.evidence.Evidence.TheVariants as evidence
use Rattle.place_core.specs.declared.code.Code.{Code}
use Rattle.place_core.specs.declared.place.Place.{Place}
use Rattle.place_core.specs.declared.step_err.StepErr.{StepErr}
use Rattle.place_trace.specs.Apart.{IsApartWhere}

pub text-apart : (bytes : List ℕ) (p : Place) (e : StepErr Place) (h : Evidence) → IsEvidence bytes p e (evidence_at h) → IsApartWhere p h
text-apart bytes p e (evidence.One x) i same = cc
text-apart bytes p e (evidence.Two x y) i same = cc
text-apart bytes p e evidence.Apart i same = i.0

pub hole-apart : (p : Place) (e : Code) (h : Evidence) → IsHoleEvidence p e (evidence_at h) → IsApartWhere p h
hole-apart p e (evidence.One x) i same = cc
hole-apart p e (evidence.Two x y) i same = cc
hole-apart p e evidence.Apart i same = absurd i
