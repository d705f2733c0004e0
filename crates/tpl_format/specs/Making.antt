-- How a text is made in pieces: what the parts of the code give for the definitions of `Formats`.
use Rattle.std.specs.Prelude.{◌≡◌, ℕ, if◌then◌else◌, nat_lt, List, ◌++◌, drop, length, Option, Some, None, option_map, Result, Ok, Err, ⊤}
use Rattle.std.specs.Borrow.{Bor}
use Rattle.page_datum.specs.Data.{Data}
use Rattle.page_datum.specs.declared.datum_ref.DatumRef.{DatumRef}
use Rattle.page_datum.specs.declared.fault.FaultKind.{FaultKind}
use Rattle.page_datum.specs.declared.fault.FaultKind.TheVariants.{BadFormat, TooLong}
use Rattle.tpl_format.specs.Answers.{max_format_text, datas}
use Rattle.tpl_format.specs.Formats.{FormatStep, format_ended, formatted_from, format_followed, verb_step}
use Rattle.tpl_format.specs.Verbs.{bare}
use Rattle.tpl_format.specs.declared.directive.Directive.{Directive}
use Rattle.tpl_format.specs.declared.directive.Directive.TheVariants.{Sign, Operand}
use Rattle.tpl_format.specs.declared.verb.VerbState.TheVariants as reading
use Rattle.page_datum.specs.declared.stop.ValueStop.{ValueStop}
use Rattle.page_datum.specs.declared.stop.ValueStop.TheVariants.{Fault, Memory}

-- a text with more at its end, unless it is too long already
abbrev pub added : List ℕ → List ℕ → List ℕ
added old more = if nat_lt max_format_text (length old) then old else old ++ more

-- the answer where this much is made, and this is still to come
abbrev pub outcome : List ℕ → Option (List ℕ) → Result (List ℕ) FaultKind
outcome made None = Err BadFormat
outcome made (Some rest) = if nat_lt max_format_text (length (made ++ rest)) then Err TooLong else Ok (made ++ rest)

-- a whole verb takes its operand
abbrev pub directed : Directive → List Data → Option FormatStep
directed Sign left = verb_step bare reading.Percent left
directed (Operand verb conversion) left = verb_step verb (reading.Takes conversion) left

-- the prefix of a format up to its first `%`, and what stands after that
abbrev pub SplitsAtVerb : List ℕ → Option (Bor (List ℕ) × Bor (List ℕ)) → Type 0
SplitsAtVerb format None = (left : List Data) → formatted_from format None left ≡ option_map (λ more. format ++ more) (format_ended None left)
SplitsAtVerb format (Some p) = (left : List Data) → formatted_from format None left ≡ option_map (λ more. p.0.now ++ more) (formatted_from p.1.now (Some bare) left)

-- the verb after a `%`, and what stands after the verb
abbrev pub ReadsVerb : List ℕ → Option (Directive × Bor (List ℕ)) → Type 0
ReadsVerb bytes None = (left : List Data) → formatted_from bytes (Some bare) left ≡ None
ReadsVerb bytes (Some p) = (left : List Data) → formatted_from bytes (Some bare) left ≡ format_followed (formatted_from p.1.now) (directed p.0 left)

-- what a verb prints, and how many operands are used then
abbrev pub Directs : Option FormatStep → List DatumRef → Result (List ℕ × ℕ) ValueStop → Type 0
Directs found operands (Ok p) = found ≡ Some (record { written = p.0; place = None; left = datas (drop p.1 operands) })
Directs found operands (Err (Fault BadFormat)) = found ≡ None
Directs found operands (Err Memory) = ⊤
Directs found operands (Err stop) = ⊥

-- an answer with a text
abbrev pub TextAnswers : Result (List ℕ) FaultKind → Result (List ℕ) ValueStop → Type 0
TextAnswers answer (Ok made) = answer ≡ Ok made
TextAnswers answer (Err (Fault kind)) = answer ≡ Err kind
TextAnswers answer (Err Memory) = ⊤
