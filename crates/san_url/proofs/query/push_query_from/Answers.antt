use Rattle.std.proofs.Common.{◌+◌, ◌++◌, ℕ, List, ap, ◌∙◌, drop, get_or, length, string_bytes}
use Rattle.url_lexer.specs.Kept.{is_unreserved}
use Rattle.url_lexer.specs.Sanitizers.{triple, url_query}
use Rattle.san_url.proofs.Runs.{before-end, byte-written, query-replaced, query-stays, run-stops, run-written, written-on}
use Rattle.san_url.proofs.query.push_query_from.Goals as goal

pub returns-then-end-bytes-clause-written : goal.returns-then-end-bytes-clause-written
returns-then-end-bytes-clause-written c =
    run-written url_query is_unreserved c.unreserved.result.now c.args.text.now (string_bytes c.args.out.now) (string_bytes c.push_kept.new.out) c.args.at c.in_ok-end.end query-stays c.unreserved.ensures (λ i. (c.type_inv.text i).fits) c.in_ok-end.ensures.end c.in_ok-end.ensures.written

pub returns-clause-written : goal.returns-clause-written
returns-clause-written c =
    let text = c.args.text.now in
    let end = c.in_ok-end.end in
    let within = before-end end (length c.as_bytes-bytes.result.now) (length text) c.in_ok-end.ensures.inside (ap length c.as_bytes-bytes.ensures.value) c.if-end-bytes.false in
    let run = run-written url_query is_unreserved c.unreserved.result.now text (string_bytes c.args.out.now) (string_bytes c.push_kept.new.out) c.args.at end query-stays c.unreserved.ensures (λ i. (c.type_inv.text i).fits) c.in_ok-end.ensures.end c.in_ok-end.ensures.written in
    let stops = run-stops is_unreserved c.unreserved.result.now text c.args.at end c.unreserved.ensures c.in_ok-end.ensures.end within (c.type_inv.text end).fits in
    let byte = byte-written url_query text (string_bytes c.push_kept.new.out) (string_bytes c.push_triple.new.out) (triple (get_or text end 0)) end within (query-replaced (get_or text end 0) (drop (end + 1) text) stops)
    (c.in_ok-push_triple.ensures ∙ ap (λ (x : List ℕ). string_bytes c.push_kept.new.out ++ triple (get_or x end 0)) c.as_bytes-bytes.ensures.value) in
    written-on url_query text (string_bytes c.args.out.now) (string_bytes c.push_kept.new.out) (string_bytes c.push_triple.new.out) c.args.at end (end + 1) run byte
