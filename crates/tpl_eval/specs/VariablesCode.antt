-- Variables as trees of numbers, and back: the toolchain asks for such a code of what a private field is seen as.
use Rattle.std.specs.Prelude.{refl}
use Rattle.std.specs.Coded.{Coded, code_by, coded_list, coded×, coded_ℕ}
use Rattle.page_datum.specs.Code.{list_code}
use Rattle.page_datum.specs.Data.{Data, null, DataList, no_items, item}
use Rattle.tpl_eval.specs.Evaluating.{Variables}

-- a list of one
abbrev one_item : Data → DataList
one_item d = item d no_items

abbrev only_item : DataList → Data
only_item no_items = null
only_item (item d rest) = d

abbrev pub variables_code : Coded Variables
variables_code = coded_list (coded× (coded_list coded_ℕ) (code_by DataList list_code one_item only_item (λ _. refl)))
