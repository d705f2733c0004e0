-- The texts that `print` and `println` make of operands (Go's `text/template`, "Functions", in a profile).
use Rattle.std.specs.Prelude.{ℕ, Bool, true, false, not, ◌&&◌, if◌then◌else◌, List, [], ◌∷◌, ◌++◌, codes}
use Rattle.page_datum.specs.Data.{Data, text}
use Rattle.page_datum.specs.Printed.{shown}

abbrev pub is_text_datum : Data → Bool
is_text_datum (text bytes) = true
is_text_datum datum = false

-- a space, where it is wanted
abbrev pub space : Bool → List ℕ
space wanted = if wanted then codes " " else []

-- operands after one that is no text, or after a text or nothing
abbrev pub args_from : Bool → List Data → List ℕ
args_from apart [] = []
args_from apart (datum ∷ rest) = space (apart && not (is_text_datum datum)) ++ (shown datum ++ args_from (not (is_text_datum datum)) rest)

-- a space stands between two operands of which neither is a text
abbrev pub printed_args : List Data → List ℕ
printed_args args = args_from false args

-- operands after another, or the first ones
abbrev pub line_from : Bool → List Data → List ℕ
line_from later [] = 10 ∷ []
line_from later (datum ∷ rest) = space later ++ (shown datum ++ line_from true rest)

-- a space stands between two operands, and LF after them
abbrev pub printed_line : List Data → List ℕ
printed_line args = line_from false args

abbrev pub printed_text : Bool → List Data → List ℕ
printed_text line args = if line then printed_line args else printed_args args
