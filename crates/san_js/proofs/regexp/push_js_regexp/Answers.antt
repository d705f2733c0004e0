use Rattle.std.proofs.Common.{◌≡◌, ◌<◌, ◌++◌, List, ℕ, OnOk, length, string_bytes, subst, rules}
use Rattle.san_js.proofs.Characters.{regexp-escaped}
use Rattle.san_js.proofs.regexp.push_js_regexp.Goals as goal

pub returns : goal.returns
returns c =
    let some : 0 < length c.args.text.now = search rules in
    subst (λ (bytes : List ℕ). OnOk c.push_escaped.result (string_bytes c.push_escaped.new.out ≡ string_bytes c.args.out.now ++ bytes)) (regexp-escaped c.args.text.now c.utf8.text some) c.push_escaped.ensures
