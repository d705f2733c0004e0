use Rattle.html_scan.proofs.ScriptReading.{reads_on}
use Rattle.html_scan.proofs.laws.scripts_read_on.Goals as goal

pub returns : goal.returns
returns c = reads_on
