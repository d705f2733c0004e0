-- A set on whose paths no error stands is refused for too many pairs, or for want of memory.
use Rattle.std.proofs.Common.{◌≡◌, ℕ, List, Result, Ok, Err, refl}
use Rattle.std.specs.Prelude.{IfErr}
use Rattle.place_infer.specs.ChartViews.{ChartData}
use Rattle.place_infer.specs.Inferring.{Infers, NeedsError, SetRefuses}
use Rattle.place_infer.specs.declared.set_refused.SetRefused.{SetRefused}
use Rattle.place_infer.specs.declared.set_refused.SetRefused.TheVariants as refused
use Rattle.place_show.proofs.ErrorsStand.{errors-stand, shown-root}
use Rattle.tpl_tree.specs.Forests.{ForestData, HasAscendingNames}

pub needs-error : (forest : ForestData) (names : List (List ℕ)) (why : SetRefused) → HasAscendingNames forest → SetRefuses forest names why → NeedsError forest names why
needs-error forest names (refused.Shows sh) up r = λ free few.
    let t = shown-root forest sh up r.shows in
    absurd (errors-stand forest sh up r.shows (free sh.root t.0 r.root t.1))
needs-error forest names refused.TooManyDerived up r = λ free few. absurd (few r)
needs-error forest names refused.Memory up r = λ free few. refl

pub infers-all : (forest : ForestData) (names : List (List ℕ)) (result : Result ChartData SetRefused) → HasAscendingNames forest → Infers forest names result → IfErr result (NeedsError forest names)
infers-all forest names (Ok chart) up i = tt
infers-all forest names (Err why) up i = needs-error forest names why up i
