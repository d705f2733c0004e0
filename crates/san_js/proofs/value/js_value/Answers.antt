use Rattle.std.proofs.Common.{◌≡◌, ◌++◌, ◌∙◌, ℕ, List, ap, subst, sym, string_bytes}
use Rattle.std.specs.Str.{IsUtf8}
use Rattle.std.proofs.lemmas.Str.{IsUtf8-string_bytes}
use Rattle.js_lexer.specs.Sanitizers.{js_value}
use Rattle.js_lexer.specs.ScriptBack.{IsBackInScriptCode}
use Rattle.page_datum.specs.View.{ref_view}
use Rattle.san_js.proofs.JsonReads.{script-code-back-by}
use Rattle.san_js.proofs.value.js_value.Goals as goal

pub returns-clause-in_code : goal.returns-clause-in_code
returns-clause-in_code c =
    let datum = ref_view c.args.datum in
    let written : string_bytes c.push_js_value.new.out ≡ js_value datum =
    c.in_ok-push_js_value.ensures.bytes ∙ ap (λ (bytes : List ℕ). bytes ++ js_value datum) c.new-out.ensures.bytes in
    let utf8 : IsUtf8 (js_value datum) = subst IsUtf8 written (IsUtf8-string_bytes c.push_js_value.new.out) in
    subst (IsBackInScriptCode datum) (sym (c.from.ensures ∙ written))
    (script-code-back-by c.data_are_plain.ensures datum c.in_ok-push_js_value.ensures.whole utf8)
