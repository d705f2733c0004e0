-- The values of operands, one after another.
use Rattle.std.proofs.Common.{◌≡◌, ℕ, ◌+◌, ◌<◌, List, [], ◌∷◌, ◌++◌, append_assoc, length, get_or, drop, Ok, Err, refl, sym, ap, ◌∙◌}
use Rattle.std.proofs.lemmas.List.{drop_more}
use Rattle.page_datum.specs.Data.{Data}
use Rattle.tpl_eval.specs.Functions.{Outcome, on_ok}
use Rattle.tpl_eval.specs.Evaluating.{ScopeData, operand_value, operand_values}
use Rattle.tpl_tree.specs.View.{operand_view, operands_view}
use Rattle.tpl_tree.specs.declared.pipe.Operand.{Operand}
use Rattle.tpl_eval.specs.Values.{value_view, values_view}
use Rattle.tpl_eval.specs.declared.value.Value.{Value}

-- values, and then others
abbrev pub all_then : List Data → Outcome (List Data) → Outcome (List Data)
all_then prefix (Ok v) = Ok (prefix ++ v.0, v.1)
all_then prefix (Err kind) = Err kind

pub values_view-push : (vs : List Value) (v : Value) → values_view (vs ++ v ∷ []) ≡ values_view vs ++ value_view v ∷ []
values_view-push [] v = refl
values_view-push (x ∷ vs) v = ap (λ (more : List Data). value_view x ∷ more) (values_view-push vs v)

taken : (vs : List Value) (v : Value) (rest : Outcome (List Data)) → all_then (values_view (vs ++ v ∷ [])) rest ≡ all_then (values_view vs) (on_ok rest (λ w. Ok (value_view v ∷ w.0, w.1)))
taken vs v (Ok w) = ap (λ (prefix : List Data). Ok (prefix ++ w.0, w.1)) (values_view-push vs v) ∙ ap (λ (more : List Data). Ok (more, w.1)) (append_assoc (values_view vs) (value_view v ∷ []) w.0)
taken vs v (Err kind) = refl

-- the value of one operand more
pub value_taken : (s : ScopeData) (os : List Operand) (i : ℕ) (o : Operand) (vs : List Value) (v : Value) (before now : ℕ) (all : Outcome (List Data))
    → i < length os → o ≡ get_or os i o → operand_value s (operand_view o) before ≡ Ok (value_view v, now)
    → all_then (values_view vs) (operand_values s (operands_view (drop i os)) before) ≡ all
    → all_then (values_view (vs ++ v ∷ [])) (operand_values s (operands_view (drop (i + 1) os)) now) ≡ all
value_taken s os i o vs v before now all inside here is h =
    let first : drop i os ≡ o ∷ drop (i + 1) os = drop_more os i o inside ∙ ap (λ (x : Operand). x ∷ drop (i + 1) os) (sym here) in
    let step : operand_values s (operands_view (drop i os)) before ≡ on_ok (operand_values s (operands_view (drop (i + 1) os)) now) (λ w. Ok (value_view v ∷ w.0, w.1)) = rw (first, is) refl in
    taken vs v (operand_values s (operands_view (drop (i + 1) os)) now) ∙ sym (ap (all_then (values_view vs)) step) ∙ h
