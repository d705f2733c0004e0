-- The elements of a range, one at a time.
use Rattle.std.specs.Prelude.{◌≡◌, ℕ, ◌+◌, Bool, true, false, List, [], ◌∷◌, drop, Option, Some, None}
use Rattle.page_datum.specs.Data.{Data}
use Rattle.page_datum.specs.View.{ref_view}
use Rattle.tpl_exec.specs.Meaning.{elements}
use Rattle.tpl_exec.specs.declared.element.RangeElement.{RangeElement}

-- the elements, none where a range has no meaning
abbrev pub all_elements : Option (List (Data × Data)) → List (Data × Data)
all_elements (Some es) = es
all_elements None = []

abbrev pub elements_of : Data → List (Data × Data)
elements_of value = all_elements (elements value)

-- whether there are elements, where a range has a meaning
abbrev pub is_some : List (Data × Data) → Bool
is_some [] = false
is_some (e ∷ es) = true

abbrev pub some_elements : Option (List (Data × Data)) → Option Bool
some_elements (Some es) = Some (is_some es)
some_elements None = None

abbrev pub element_view : RangeElement → Data × Data
element_view e = (ref_view e.index, ref_view e.value)

-- the element with a number among all, or that there are no more
abbrev pub IsElement : Option RangeElement → ℕ → List (Data × Data) → Type 0
IsElement None at all = drop at all ≡ []
IsElement (Some e) at all = drop at all ≡ element_view e ∷ drop (at + 1) all
