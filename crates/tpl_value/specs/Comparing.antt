-- Which values are equal, and which are less (Go's `text/template`, "Functions", in a profile).
use Rattle.std.specs.Prelude.{Bool, true, false, bytes_eq, int_lt, Result, Ok, Err}
use Rattle.std.specs.Bool.{beq}
use Rattle.std.specs.Ordering.{int_eq, nat_cmp, is_lt}
use Rattle.std.specs.Cmp.Lexicographic.{slice_cmp}
use Rattle.page_datum.specs.Data.{Data, null, truth, int, text, list, dict}
use Rattle.page_datum.specs.declared.fault.FaultKind.{FaultKind}
use Rattle.page_datum.specs.declared.fault.FaultKind.TheVariants.{NotComparable}

-- Null equals null alone. A list or a dictionary with anything is not comparable, and so are two kinds of which neither is null.
abbrev pub equals : Data → Data → Result Bool FaultKind
equals (list a) b = Err NotComparable
equals (dict a) b = Err NotComparable
equals a (list b) = Err NotComparable
equals a (dict b) = Err NotComparable
equals null null = Ok true
equals null b = Ok false
equals a null = Ok false
equals (truth a) (truth b) = Ok (beq a b)
equals (int a) (int b) = Ok (int_eq a b)
equals (text a) (text b) = Ok (bytes_eq a b)
equals a b = Err NotComparable

-- whole numbers by size, texts by their bytes; nothing else is comparable
abbrev pub is_less : Data → Data → Result Bool FaultKind
is_less (int a) (int b) = Ok (int_lt a b)
is_less (text a) (text b) = Ok (is_lt (slice_cmp nat_cmp a b))
is_less a b = Err NotComparable
