-- Indexing by one key after another.
use Rattle.std.proofs.Common.{◌≡◌, List, ◌∷◌, Option, Some, None, Result, Ok, Err, sym, ap, ◌∙◌}
use Rattle.page_datum.specs.Data.{Data}
use Rattle.page_datum.specs.declared.fault.FaultKind.{FaultKind}
use Rattle.tpl_eval.specs.Functions.{index_all, indexed, on_ok, or_null}
use Rattle.tpl_eval.specs.Values.{FoundAnswers, value_view, values_view}
use Rattle.tpl_eval.specs.declared.value.Value.{Value}
use Rattle.tpl_value.specs.Picking.{index_of}

-- what the arguments that are left give after a part, and all of them before there is one
abbrev pub parts_from : Option Value → List Value → Result Data FaultKind
parts_from None args = index_all (values_view args)
parts_from (Some value) keys = indexed (value_view value) (values_view keys)

-- a fault at a key is that of all of them
fault_stays : (found : Result (Option Data) FaultKind) (kind : FaultKind) (keys : List Data) → on_ok found (λ part. Ok (or_null part)) ≡ Err kind → on_ok found (λ part. indexed (or_null part) keys) ≡ Err kind
fault_stays (Ok part) kind keys h = cc
fault_stays (Err k) kind keys h = h

pub stops : (part : Option Value) (value arg : Value) (key : Data) (left rest : List Value) (all : Result Data FaultKind) (kind : FaultKind)
    → part ≡ Some value → left ≡ arg ∷ rest → key ≡ value_view arg → parts_from part left ≡ all
    → FoundAnswers (on_ok (index_of (value_view value) key) (λ found. Ok (or_null found))) (Err kind) → FoundAnswers all (Err kind)
stops part value arg key left rest all kind is first same whole h =
    sym whole
    ∙ ap (λ (o : Option Value). parts_from o left) is
    ∙ ap (parts_from (Some value)) first
    ∙ ap (λ (k : Data). on_ok (index_of (value_view value) k) (λ found. indexed (or_null found) (values_view rest))) (sym same)
    ∙ fault_stays (index_of (value_view value) key) kind (values_view rest) h
