use Rattle.place_laws.proofs.NoErrors.{ends-alone}
use Rattle.place_laws.proofs.exact_laws.ends_are_refused_alone.Goals as goal

pub returns : goal.returns
returns c = ends-alone
