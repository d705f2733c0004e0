use Rattle.std.proofs.Common.{◌≡◌, ◌++◌, List, ℕ, OnOk, string_bytes, subst}
use Rattle.js_lexer.specs.Sanitizers.{string_rows}
use Rattle.san_js.proofs.Characters.{replaced-escaped}
use Rattle.san_js.proofs.string.push_js_string.Goals as goal

pub returns : goal.returns
returns c =
    subst (λ (bytes : List ℕ). OnOk c.push_escaped.result (string_bytes c.push_escaped.new.out ≡ string_bytes c.args.out.now ++ bytes)) (replaced-escaped string_rows c.args.text.now c.utf8.text) c.push_escaped.ensures
