use Rattle.std.proofs.Common.{◌∷◌, ◌++◌, [], List, ℕ, codes, string_bytes, ap, ◌∙◌}
use Rattle.esc_table.specs.Replaced.{replaced}
use Rattle.san_js.specs.ScriptRows.{text_rows_once}
use Rattle.san_js.proofs.Appended.{appended}
use Rattle.san_js.proofs.Once.{text-escaped}
use Rattle.san_js.proofs.quoted.push_quoted.Goals as goal

pub returns : goal.returns
returns c =
    let before = string_bytes c.args.out.now in
    let text = c.args.text.now in
    appended before (string_bytes c.push_str.new.self) (string_bytes c.push_escaped.new.out) (string_bytes c.push_str-2.new.self) (codes "\"") (replaced text_rows_once text) (codes "\"") c.in_ok-push_str.ensures.bytes c.in_ok-push_escaped.ensures c.in_ok-push_str-2.ensures.bytes
    ∙ ap (λ (written : List ℕ). before ++ 34 ∷ (written ++ 34 ∷ [])) (text-escaped text c.utf8.text)
