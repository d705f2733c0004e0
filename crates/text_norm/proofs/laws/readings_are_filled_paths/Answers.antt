use Rattle.text_norm.proofs.FilledReadings.{readings-are-filled-paths}
use Rattle.text_norm.proofs.laws.readings_are_filled_paths.Goals as goal

pub returns : goal.returns
returns c = readings-are-filled-paths
