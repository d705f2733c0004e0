use Rattle.std.proofs.Common.{◌+◌, ◌++◌, ℕ, List, ap, ◌∙◌, drop, get_or, length, string_bytes}
use Rattle.url_lexer.specs.Kept.{is_kept_in_url}
use Rattle.url_lexer.specs.Sanitizers.{url_norm}
use Rattle.san_url.specs.Stays.{unkept_written}
use Rattle.san_url.proofs.Runs.{before-end, byte-written, norm-stays, norm-unkept, run-stops, run-written, same-unkept, written-on}
use Rattle.san_url.proofs.norm.push_norm_from.Goals as goal

pub returns-then-end-bytes-clause-written : goal.returns-then-end-bytes-clause-written
returns-then-end-bytes-clause-written c =
    run-written url_norm is_kept_in_url c.kept_in_url.result.now c.args.text.now (string_bytes c.args.out.now) (string_bytes c.push_kept.new.out) c.args.at c.in_ok-end.end norm-stays c.kept_in_url.ensures (λ i. (c.type_inv.text i).fits) c.in_ok-end.ensures.end c.in_ok-end.ensures.written

pub returns-clause-written : goal.returns-clause-written
returns-clause-written c =
    let text = c.args.text.now in
    let end = c.in_ok-end.end in
    let within = before-end end (length c.as_bytes-bytes.result.now) (length text) c.in_ok-end.ensures.inside (ap length c.as_bytes-bytes.ensures.value) c.if-end-bytes.false in
    let run = run-written url_norm is_kept_in_url c.kept_in_url.result.now text (string_bytes c.args.out.now) (string_bytes c.push_kept.new.out) c.args.at end norm-stays c.kept_in_url.ensures (λ i. (c.type_inv.text i).fits) c.in_ok-end.ensures.end c.in_ok-end.ensures.written in
    let stops = run-stops is_kept_in_url c.kept_in_url.result.now text c.args.at end c.kept_in_url.ensures c.in_ok-end.ensures.end within (c.type_inv.text end).fits in
    let byte = byte-written url_norm text (string_bytes c.push_kept.new.out) (string_bytes c.push_unkept.new.out) (unkept_written (get_or text end 0) (drop (end + 1) text)) end within (norm-unkept (get_or text end 0) (drop (end + 1) text) stops)
    (c.in_ok-push_unkept.ensures ∙ ap (λ (x : List ℕ). string_bytes c.push_kept.new.out ++ x) (same-unkept c.as_bytes-bytes.result.now text end c.as_bytes-bytes.ensures.value)) in
    written-on url_norm text (string_bytes c.args.out.now) (string_bytes c.push_kept.new.out) (string_bytes c.push_unkept.new.out) c.args.at end (end + 1) run byte
