use Rattle.std.proofs.Common.{rules, ◌≡◌, ◌++◌, ◌∙◌, ℕ, List, OnOk, ap, arith, length, string_bytes, subst, sym}
use Rattle.std.specs.Prelude.{slice_index_or}
use Rattle.page_datum.specs.View.{ref_view}
use Rattle.page_path.specs.Pages.{datum_bytes, list_bytes, san_bytes}
use Rattle.page_path.specs.Textual.{IsTextBy, IsTextByList}
use Rattle.page_writer.specs.Writing.{value_written}
use Rattle.place_core.specs.declared.san.San.{San}
use Rattle.place_core.specs.declared.san.San.TheVariants as san
use Rattle.page_writer.proofs.ChainBytes.{on_ok, three, value-bytes}
use Rattle.page_writer.proofs.values.push_chain.Goals as goal

pub push_sanitized-requires-2 : goal.push_sanitized-requires-2
push_sanitized-requires-2 c =
    let n : length c.args.chain.sans ≡ 3 = (let fits = c.well_formed in omega arith) in
    (three c.args.chain.count c.args.chain.sans n (λ le. omega (arith, le, c.if-chain-eq1.false, c.if-chain-eq2.false)) c.requires).second

pub push_sanitized-requires-3 : goal.push_sanitized-requires-3
push_sanitized-requires-3 c =
    let n : length c.args.chain.sans ≡ 3 = search rules in
    (three c.args.chain.count c.args.chain.sans n (λ le. omega (arith, le, c.if-chain-eq1.false, c.if-chain-eq2.false)) c.requires).third

pub returns-clause-bytes : goal.returns-clause-bytes
returns-clause-bytes c =
    let sans = c.args.chain.sans in
    let datum = ref_view c.args.datum in
    let x : San = slice_index_or sans 0 san.Html in
    let y : San = slice_index_or sans 1 san.Html in
    let z : San = slice_index_or sans 2 san.Html in
    let n : length sans ≡ 3 = omega (arith, c.well_formed) in
    let all = three c.args.chain.count sans n (λ le. omega (arith, le, c.if-chain-eq1.false, c.if-chain-eq2.false)) c.requires in
    let first = c.as_str-2.ensures.value ∙ c.in_ok-push_first.ensures.bytes
    ∙ ap (λ (bytes : List ℕ). bytes ++ datum_bytes x datum) c.clear.ensures.bytes in
    let second = c.as_str-3.ensures.value ∙ c.in_ok-push_sanitized.ensures
    ∙ ap (λ (bytes : List ℕ). bytes ++ san_bytes y c.as_str-2.result.now) c.clear-2.ensures.bytes ∙ ap (san_bytes y) first in
    let whole : value_written c.args.chain datum ≡ san_bytes z c.as_str-3.result.now =
    value-bytes c.args.chain datum ∙ ap (λ (xs : List San). list_bytes xs datum) all.are ∙ sym (ap (san_bytes z) second) in
    subst (λ (bytes : List ℕ). OnOk c.push_sanitized-3.result
    (string_bytes c.push_sanitized-3.new.out ≡ string_bytes c.args.out.now ++ bytes)) (sym whole) c.push_sanitized-3.ensures

pub returns-clause-textual : goal.returns-clause-textual
returns-clause-textual c =
    let sans = c.args.chain.sans in
    let datum = ref_view c.args.datum in
    let n : length sans ≡ 3 = omega (arith, c.well_formed) in
    let all = three c.args.chain.count sans n (λ le. omega (arith, le, c.if-chain-eq1.false, c.if-chain-eq2.false)) c.requires in
    on_ok c.push_sanitized-3.result (IsTextBy c.args.chain datum)
    (subst (λ (xs : List San). IsTextByList xs datum) (sym all.are) c.in_ok-push_first.ensures.textual)
