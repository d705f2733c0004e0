-- Values that are lent, one after another.
use Rattle.std.proofs.Common.{◌≡◌, ℕ, ◌+◌, ◌<◌, List, [], ◌∷◌, ◌++◌, length, get_or, drop, refl, sym, ap, ◌∙◌}
use Rattle.std.proofs.lemmas.List.{drop_more}
use Rattle.page_datum.specs.Data.{Data}
use Rattle.page_datum.specs.View.{ref_view}
use Rattle.page_datum.specs.declared.datum_ref.DatumRef.{DatumRef}
use Rattle.tpl_eval.specs.Values.{value_view, values_view}
use Rattle.tpl_eval.specs.declared.value.Value.{Value}
use Rattle.tpl_format.specs.Answers.{datas}

one_more : (ds : List DatumRef) (d : DatumRef) (rest : List Data) → datas (ds ++ d ∷ []) ++ rest ≡ datas ds ++ (ref_view d ∷ rest)
one_more [] d rest = refl
one_more (x ∷ ds) d rest = ap (λ (l : List Data). ref_view x ∷ l) (one_more ds d rest)

-- one more value is lent, and the values that are left
pub one_more_lent : (ds : List DatumRef) (d : DatumRef) (v : Value) (vs : List Value) (i : ℕ) → i < length vs → v ≡ get_or vs i v → ref_view d ≡ value_view v
    → datas (ds ++ d ∷ []) ++ values_view (drop (i + 1) vs) ≡ datas ds ++ values_view (drop i vs)
one_more_lent ds d v vs i inside here same =
    let first : drop i vs ≡ v ∷ drop (i + 1) vs = drop_more vs i v inside ∙ ap (λ (x : Value). x ∷ drop (i + 1) vs) (sym here) in
    one_more ds d (values_view (drop (i + 1) vs)) ∙ ap (λ (x : Data). datas ds ++ (x ∷ values_view (drop (i + 1) vs))) same ∙ ap (λ (rest : List Value). datas ds ++ values_view rest) (sym first)
