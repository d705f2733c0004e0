-- What the code writes of data that have no others in them, and of other data nothing.
use Rattle.std.specs.Prelude.{ℕ, List, []}
use Rattle.page_datum.specs.Data.{Data, null, truth, int, text, list, dict}
use Rattle.page_datum.specs.Printed.{shown}

abbrev pub shown_single : Data → List ℕ
shown_single (list ds) = []
shown_single (dict es) = []
shown_single null = shown null
shown_single (truth b) = shown (truth b)
shown_single (int n) = shown (int n)
shown_single (text t) = shown (text t)
