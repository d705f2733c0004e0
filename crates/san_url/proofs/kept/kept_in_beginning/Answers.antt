use Rattle.std.proofs.Common.{refl}
use Rattle.san_url.specs.Stays.{stays_in_beginning}
use Rattle.san_url.proofs.Runs.{table-of}
use Rattle.san_url.proofs.kept.kept_in_beginning.Goals as goal

pub returns : goal.returns
returns c = table-of stays_in_beginning _ refl refl
