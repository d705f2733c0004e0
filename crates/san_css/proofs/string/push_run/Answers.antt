use Rattle.std.proofs.Common.{◌≡◌, ◌<◌, ◌++◌, drop, get_or, length, string_bytes, rules, arith, ap, ◌∙◌}
use Rattle.std.specs.List.{prefix_len}
use Rattle.css_lexer.specs.Sanitizers.{string_byte, string_digits}
use Rattle.san_css.specs.Strings.{is_string_kept}
use Rattle.san_css.proofs.Runs.{byte-written, cut-behind, cut-behind-byte, run-written, stops-behind}
use Rattle.san_css.proofs.string.push_run.Goals as goal

pub split_at-requires : goal.split_at-requires
split_at-requires c =
    let run : c.kept_len.result ≡ prefix_len is_string_kept c.args.text.now = c.kept_len.ensures.len ∙ ap (prefix_len is_string_kept) c.as_bytes.ensures.value in
    cut-behind c.args.text.now c.kept_len.result run (omega (arith, c.kept_len.ensures.bound, c.as_bytes.ensures.len))

pub range_from-rest-requires : goal.range_from-rest-requires
range_from-rest-requires c =
    let run : c.kept_len.result ≡ prefix_len is_string_kept c.args.text.now = c.kept_len.ensures.len ∙ ap (prefix_len is_string_kept) c.as_bytes.ensures.value in
    let some : 0 < length c.split_at.result.1.now = search rules in
    λ _. cut-behind-byte c.args.text.now c.split_at.result.1.now c.kept_len.result c.utf8.text run (omega (arith, c.kept_len.ensures.bound, c.as_bytes.ensures.len)) c.split_at.ensures.back some

pub push_escape-requires : goal.push_escape-requires
push_escape-requires c =
    let run : c.kept_len.result ≡ prefix_len is_string_kept c.args.text.now = c.kept_len.ensures.len ∙ ap (prefix_len is_string_kept) c.as_bytes.ensures.value in
    let some : 0 < length c.split_at.result.1.now = search rules in
    let first : c.in-Some.byte.now ≡ get_or c.split_at.result.1.now 0 0 = search rules in
    ap is_string_kept first ∙ stops-behind c.args.text.now c.split_at.result.1.now c.kept_len.result run c.split_at.ensures.back some

pub returns-in-None-clause-written : goal.returns-in-None-clause-written
returns-in-None-clause-written c =
    let run : c.kept_len.result ≡ prefix_len is_string_kept c.args.text.now = c.kept_len.ensures.len ∙ ap (prefix_len is_string_kept) c.as_bytes.ensures.value in
    run-written c.args.text.now c.split_at.result.0.now c.split_at.result.1.now (string_bytes c.args.out.now) (string_bytes c.push_str.new.self) c.kept_len.result run c.split_at.ensures.front c.split_at.ensures.back c.in_ok-push_str.ensures.bytes

pub returns-in_ok-push_escape-in-Some-clause-written :
    goal.returns-in_ok-push_escape-in-Some-clause-written
returns-in_ok-push_escape-in-Some-clause-written c =
    let run : c.kept_len.result ≡ prefix_len is_string_kept c.args.text.now = c.kept_len.ensures.len ∙ ap (prefix_len is_string_kept) c.as_bytes.ensures.value in
    let front = run-written c.args.text.now c.split_at.result.0.now c.split_at.result.1.now (string_bytes c.args.out.now) (string_bytes c.push_str.new.self) c.kept_len.result run c.split_at.ensures.front c.split_at.ensures.back c.in_ok-push_str.ensures.bytes in
    let some : 0 < length c.split_at.result.1.now = search rules in
    let first : c.in-Some.byte.now ≡ get_or c.split_at.result.1.now 0 0 = search rules in
    let rest : c.range_from-rest.result.now ≡ drop 1 c.split_at.result.1.now = search rules in
    let behind = c.as_bytes-in-Some.ensures.value ∙ rest in
    let wrote : string_bytes c.push_escape.new.out ≡ string_bytes c.push_str.new.self ++ string_byte (string_digits (get_or c.split_at.result.1.now 0 0)) (get_or c.split_at.result.1.now 0 0) (drop 1 c.split_at.result.1.now) = rw (first, behind) at c.in_ok-push_escape-in-Some.ensures in
    rw rest (byte-written c.args.text.now c.split_at.result.1.now (string_bytes c.args.out.now) (string_bytes c.push_str.new.self) (string_bytes c.push_escape.new.out) some front wrote)
