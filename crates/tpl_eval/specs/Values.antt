-- What the values of the code stand for, and how its calls answer with one.
use Rattle.std.specs.Prelude.{◌≡◌, ℕ, List, [], ◌∷◌, Result, Ok, Err, ⊤, Vec}
use Rattle.std.specs.declared.alloc.Global.{Global}
use Rattle.page_datum.specs.Data.{Data, text}
use Rattle.page_datum.specs.View.{ref_view}
use Rattle.page_datum.specs.declared.datum_ref.DatumRef.{DatumRef}
use Rattle.page_datum.specs.declared.fault.FaultKind.{FaultKind}
use Rattle.page_datum.specs.declared.stop.ValueStop.{ValueStop}
use Rattle.page_datum.specs.declared.stop.ValueStop.TheVariants.{Fault, Memory}
use Rattle.tpl_eval.specs.Functions.{Outcome, free, paid}
use Rattle.tpl_eval.specs.declared.value.Value.{Value}
use Rattle.tpl_eval.specs.declared.value.Value.TheVariants as value

abbrev pub value_view : Value → Data
value_view (value.Lent d) = ref_view d
value_view (value.Made made) = text made.value

abbrev pub values_view : List Value → List Data
values_view [] = []
values_view (v ∷ vs) = value_view v ∷ values_view vs

-- a value and the steps up to there, a fault, or out of memory
abbrev pub OutcomeAnswers : Outcome Data → Result (Value × ℕ) ValueStop → Type 0
OutcomeAnswers outcome (Ok v) = outcome ≡ Ok (value_view v.0, v.1)
OutcomeAnswers outcome (Err (Fault kind)) = outcome ≡ Err kind
OutcomeAnswers outcome (Err Memory) = ⊤

-- a value, or a fault
abbrev pub FoundAnswers : Result Data FaultKind → Result Value FaultKind → Type 0
FoundAnswers outcome (Ok v) = outcome ≡ Ok (value_view v)
FoundAnswers outcome (Err kind) = outcome ≡ Err kind

-- a value, a fault, or out of memory
abbrev pub MadeAnswers : Result Data FaultKind → Result Value ValueStop → Type 0
MadeAnswers outcome (Ok v) = outcome ≡ Ok (value_view v)
MadeAnswers outcome (Err (Fault kind)) = outcome ≡ Err kind
MadeAnswers outcome (Err Memory) = ⊤

-- a truth value or a number, or a fault
abbrev pub FunctionAnswers : Result Data FaultKind → Result DatumRef FaultKind → Type 0
FunctionAnswers outcome (Ok d) = outcome ≡ Ok (ref_view d)
FunctionAnswers outcome (Err kind) = outcome ≡ Err kind

-- the value that an answer has, whatever it stands for, at no step more, or at a step for each byte of it where it is a text
abbrev pub FreeAnswers : Result DatumRef FaultKind → ℕ → Result (Value × ℕ) ValueStop → Type 0
FreeAnswers answer steps result = (outcome : Result Data FaultKind) → FunctionAnswers outcome answer → OutcomeAnswers (free steps outcome) result

abbrev pub PaidAnswers : Result Value ValueStop → ℕ → Result (Value × ℕ) ValueStop → Type 0
PaidAnswers answer steps result = (outcome : Result Data FaultKind) → MadeAnswers outcome answer → OutcomeAnswers (paid steps outcome) result

-- values and the steps up to there, a fault, or out of memory
abbrev pub AllAnswers : Outcome (List Data) → Result (Vec Value Global × ℕ) ValueStop → Type 0
AllAnswers outcome (Ok v) = outcome ≡ Ok (values_view v.0.items, v.1)
AllAnswers outcome (Err (Fault kind)) = outcome ≡ Err kind
AllAnswers outcome (Err Memory) = ⊤

-- the only argument, or both of two, or a fault
abbrev pub OneAnswers : Result Data FaultKind → Result DatumRef FaultKind → Type 0
OneAnswers outcome (Ok x) = outcome ≡ Ok (ref_view x)
OneAnswers outcome (Err kind) = outcome ≡ Err kind

abbrev pub TwoAnswers : Result (Data × Data) FaultKind → Result (DatumRef × DatumRef) FaultKind → Type 0
TwoAnswers outcome (Ok p) = outcome ≡ Ok (ref_view p.0, ref_view p.1)
TwoAnswers outcome (Err kind) = outcome ≡ Err kind
