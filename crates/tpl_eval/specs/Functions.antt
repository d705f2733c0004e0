-- What the functions of templates give for their arguments (Go's `text/template`, "Functions", in a profile).
use Rattle.std.specs.Prelude.{ℕ, ◌+◌, ℤ, pos, Bool, true, false, not, nat_lt, if◌then◌else◌, List, [], ◌∷◌, length, Option, Some, None, Result, Ok, Err}
use Rattle.page_datum.specs.Data.{Data, null, truth, int, text, list}
use Rattle.page_datum.specs.declared.fault.FaultKind.{FaultKind}
use Rattle.page_datum.specs.declared.fault.FaultKind.TheVariants.{WrongCount, KeyKind, NotIndexable, BadFormat, TooLong, Budget}
use Rattle.tpl_format.specs.Answers.{max_format_text}
use Rattle.tpl_format.specs.Formats.{formatted_args}
use Rattle.tpl_format.specs.Prints.{printed_text}
use Rattle.tpl_symbol.specs.declared.func.Func.{Func}
use Rattle.tpl_symbol.specs.declared.func.Func.TheVariants as func
use Rattle.tpl_value.specs.Comparing.{equals, is_less}
use Rattle.tpl_value.specs.Lengths.{length_of}
use Rattle.tpl_value.specs.Picking.{index_of}
use Rattle.tpl_value.specs.Slicing.{slice_of}
use Rattle.tpl_value.specs.Truth.{truth_of}

-- the most steps of an execution
abbrev pub max_steps : ℕ
max_steps = 50000000

-- What is evaluated gives a value and the steps up to there, or a fault.
abbrev pub Outcome : Type 0 → Type 0
Outcome A = Result (A × ℕ) FaultKind

-- that many steps more
abbrev pub counted : ℕ → ℕ → Result ℕ FaultKind
counted more steps = if nat_lt max_steps (steps + more) then Err Budget else Ok (steps + more)

-- what follows where something was found; a fault stays
abbrev pub on_ok : {A B : Type 0} → Result A FaultKind → (A → Result B FaultKind) → Result B FaultKind
on_ok (Ok x) f = f x
on_ok (Err kind) f = Err kind

-- a truth value, as data, or the opposite one
abbrev pub as_truth : Result Bool FaultKind → Result Data FaultKind
as_truth (Ok b) = Ok (truth b)
as_truth (Err kind) = Err kind

abbrev pub as_opposite : Result Bool FaultKind → Result Data FaultKind
as_opposite (Ok b) = Ok (truth (not b))
as_opposite (Err kind) = Err kind

-- exactly one argument, and exactly two
abbrev pub one_of : List Data → Result Data FaultKind
one_of (x ∷ []) = Ok x
one_of args = Err WrongCount

abbrev pub two_of : List Data → Result (Data × Data) FaultKind
two_of (x ∷ y ∷ []) = Ok (x, y)
two_of args = Err WrongCount

-- `not x`
abbrev pub not_of : List Data → Result Data FaultKind
not_of args = on_ok (one_of args) (λ x. Ok (truth (not (truth_of x))))

-- `len x`
abbrev pub len_of : List Data → Result Data FaultKind
len_of args = on_ok (one_of args) (λ x. on_ok (length_of x) (λ n. Ok (int n)))

-- whether a value equals one of others, compared in their order up to the first that is equal
abbrev pub equals_one : Data → List Data → Result Bool FaultKind
equals_one x [] = Ok false
equals_one x (y ∷ ys) = on_ok (equals x y) (λ same. if same then Ok true else equals_one x ys)

-- `eq x y ..`, `ne x y`
abbrev pub eq_of : List Data → Result Data FaultKind
eq_of [] = Err WrongCount
eq_of (x ∷ []) = Err WrongCount
eq_of (x ∷ y ∷ ys) = as_truth (equals_one x (y ∷ ys))

abbrev pub ne_of : List Data → Result Data FaultKind
ne_of args = on_ok (two_of args) (λ p. as_opposite (equals p.0 p.1))

-- `lt x y`, `le x y`, `gt x y`, `ge x y`
abbrev pub lt_of : List Data → Result Data FaultKind
lt_of args = on_ok (two_of args) (λ p. as_truth (is_less p.0 p.1))

abbrev pub le_of : List Data → Result Data FaultKind
le_of args = on_ok (two_of args) (λ p. as_opposite (is_less p.1 p.0))

abbrev pub gt_of : List Data → Result Data FaultKind
gt_of args = on_ok (two_of args) (λ p. as_truth (is_less p.1 p.0))

abbrev pub ge_of : List Data → Result Data FaultKind
ge_of args = on_ok (two_of args) (λ p. as_opposite (is_less p.0 p.1))

-- what was found, or null
abbrev pub or_null : Option Data → Data
or_null (Some x) = x
or_null None = null

abbrev pub found_or_null : Result (Option Data) FaultKind → Result Data FaultKind
found_or_null found = on_ok found (λ part. Ok (or_null part))

-- `index x k ..`: the part at the first key, of that the part at the second one, and so on
abbrev pub indexed : Data → List Data → Result Data FaultKind
indexed x [] = Ok x
indexed x (key ∷ keys) = on_ok (index_of x key) (λ part. indexed (or_null part) keys)

abbrev pub index_all : List Data → Result Data FaultKind
index_all [] = Err WrongCount
index_all (x ∷ keys) = indexed x keys

-- a position in a value, which is a whole number
abbrev pub position_of : Data → Result ℤ FaultKind
position_of (int n) = Ok n
position_of key = Err KeyKind

-- the length of what can be sliced: a text or a list
abbrev pub sliceable_length_of : Data → Result ℤ FaultKind
sliceable_length_of (text bytes) = length_of (text bytes)
sliceable_length_of (list items) = length_of (list items)
sliceable_length_of x = Err NotIndexable

-- `slice x`, `slice x i`, `slice x i j`
abbrev pub slice_all : List Data → Result Data FaultKind
slice_all (x ∷ []) = on_ok (sliceable_length_of x) (λ end. slice_of x (pos 0) end)
slice_all (x ∷ i ∷ []) = on_ok (sliceable_length_of x) (λ end. on_ok (position_of i) (λ from. slice_of x from end))
slice_all (x ∷ i ∷ j ∷ []) = on_ok (sliceable_length_of x) (λ end. on_ok (position_of i) (λ from. on_ok (position_of j) (λ to. slice_of x from to)))
slice_all args = Err WrongCount

-- a text that was made, unless it is too long
abbrev pub made : List ℕ → Result Data FaultKind
made bytes = if nat_lt max_format_text (length bytes) then Err TooLong else Ok (text bytes)

-- the text of a format, where it fits
abbrev pub format_made : Option (List ℕ) → Result Data FaultKind
format_made (Some bytes) = made bytes
format_made None = Err BadFormat

-- the bytes of a text that a function made, each of which is a step; other values have none
abbrev pub bytes_made : Data → ℕ
bytes_made (text bytes) = length bytes
bytes_made x = 0

-- a value, with a step for each byte of it where it is a text
abbrev pub paid : ℕ → Result Data FaultKind → Outcome Data
paid steps (Ok x) = on_ok (counted (bytes_made x) steps) (λ now. Ok (x, now))
paid steps (Err kind) = Err kind

-- a value that costs no step more
abbrev pub free : ℕ → Result Data FaultKind → Outcome Data
free steps (Ok x) = Ok (x, steps)
free steps (Err kind) = Err kind

-- What a function gives for its arguments. `and` and `or` are not here, since they do not evaluate all of them; `html` and
-- `urlquery` with one argument are dropped before they are called.
abbrev pub function_called : Func → List Data → ℕ → Outcome Data
function_called func.And args steps = Err WrongCount
function_called func.Or args steps = Err WrongCount
function_called func.Not args steps = free steps (not_of args)
function_called func.Eq args steps = free steps (eq_of args)
function_called func.Ne args steps = free steps (ne_of args)
function_called func.Lt args steps = free steps (lt_of args)
function_called func.Le args steps = free steps (le_of args)
function_called func.Gt args steps = free steps (gt_of args)
function_called func.Ge args steps = free steps (ge_of args)
function_called func.Index args steps = free steps (index_all args)
function_called func.Slice args steps = paid steps (slice_all args)
function_called func.Len args steps = free steps (len_of args)
function_called func.Print args steps = paid steps (made (printed_text false args))
function_called func.Println args steps = paid steps (made (printed_text true args))
function_called func.Printf args steps = paid steps (format_made (formatted_args args))
function_called func.Html args steps = Err WrongCount
function_called func.Urlquery args steps = Err WrongCount
