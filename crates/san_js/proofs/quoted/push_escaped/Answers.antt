use Rattle.std.proofs.Common.{◌≡◌, ◌++◌, List, OnOk, string_bytes, subst}
use Rattle.esc_table.specs.Replaced.{replaced}
use Rattle.esc_table.specs.Rows.{EscapeRow}
use Rattle.san_js.proofs.quoted.push_escaped.Goals as goal

pub returns : goal.returns
returns c =
    subst (λ (rows : List EscapeRow). OnOk c.push_replaced.result (string_bytes c.push_replaced.new.out ≡ string_bytes c.args.out.now ++ replaced rows c.args.text.now)) c.table-table.ensures c.push_replaced.ensures
