-- How `print`, `println` and `printf` answer: with the text, or why there is none.
use Rattle.std.specs.Prelude.{◌≡◌, ℕ, ◌<◌, ◌≤◌, List, [], ◌∷◌, length, Some, None, Result, Ok, Err, ⊤}
use Rattle.page_datum.specs.Data.{Data}
use Rattle.page_datum.specs.View.{ref_view}
use Rattle.page_datum.specs.declared.datum_ref.DatumRef.{DatumRef}
use Rattle.page_datum.specs.declared.fault.FaultKind.TheVariants.{BadFormat, TooLong}
use Rattle.tpl_format.specs.Formats.{formatted_args}
use Rattle.tpl_format.specs.Grammar.{Makes}
use Rattle.page_datum.specs.declared.stop.ValueStop.{ValueStop}
use Rattle.page_datum.specs.declared.stop.ValueStop.TheVariants.{Fault, Memory}

-- the most bytes that a text may have
abbrev pub max_format_text : ℕ
max_format_text = 16777216

-- the data that arguments stand for
abbrev pub datas : List DatumRef → List Data
datas [] = []
datas (d ∷ ds) = ref_view d ∷ datas ds

-- the text, where it is not too long
abbrev pub PrintAnswers : List ℕ → Result (List ℕ) ValueStop → Type 0
PrintAnswers text (Ok made) = (made ≡ text) × (length text ≤ max_format_text)
PrintAnswers text (Err (Fault TooLong)) = max_format_text < length text
PrintAnswers text (Err Memory) = ⊤
PrintAnswers text (Err stop) = ⊥

-- the text that the format's pieces make of the operands, where it is not too long; and BadFormat where they make none, since the
-- format is no pieces, or an operand does not fit, is missing or is left over
abbrev pub PrintfAnswers : List Data → Result (List ℕ) ValueStop → Type 0
PrintfAnswers args (Ok made) = Makes args made × (length made ≤ max_format_text)
PrintfAnswers args (Err (Fault BadFormat)) = (made : List ℕ) → Makes args made → ⊥
PrintfAnswers args (Err (Fault TooLong)) = (made : List ℕ) × Makes args made × (max_format_text < length made)
PrintfAnswers args (Err Memory) = ⊤
PrintfAnswers args (Err stop) = ⊥

-- the same by computing, byte by byte
abbrev pub ComputesFormat : List Data → Result (List ℕ) ValueStop → Type 0
ComputesFormat args (Ok made) = (formatted_args args ≡ Some made) × (length made ≤ max_format_text)
ComputesFormat args (Err (Fault BadFormat)) = formatted_args args ≡ None
ComputesFormat args (Err (Fault TooLong)) = (text : List ℕ) × (formatted_args args ≡ Some text) × (max_format_text < length text)
ComputesFormat args (Err Memory) = ⊤
ComputesFormat args (Err stop) = ⊥
