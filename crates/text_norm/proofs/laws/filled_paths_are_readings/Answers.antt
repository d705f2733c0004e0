use Rattle.text_norm.proofs.FilledReadings.{filled-paths-are-readings}
use Rattle.text_norm.proofs.laws.filled_paths_are_readings.Goals as goal

pub returns : goal.returns
returns c = filled-paths-are-readings
