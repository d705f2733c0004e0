use Rattle.std.proofs.Common.{◌≡◌, ◌+◌, ◌++◌, ℕ, List, true, false, sym, ap, ◌∙◌, drop, get_or, length, string_bytes}
use Rattle.url_lexer.specs.Sanitizers.{url_norm, url_open}
use Rattle.san_url.specs.Stays.{ends_beginning, stays_in_beginning, unkept_written}
use Rattle.san_url.proofs.Opening.{open-stays, open-unkept, rest-written}
use Rattle.san_url.proofs.Runs.{before-end, byte-written, run-stops, run-written, same-unkept, written-on}
use Rattle.san_url.proofs.open.push_open_from.Goals as goal

pub returns-then-end-bytes-clause-written : goal.returns-then-end-bytes-clause-written
returns-then-end-bytes-clause-written c =
    run-written url_open stays_in_beginning c.kept_in_beginning.result.now c.args.text.now (string_bytes c.args.out.now) (string_bytes c.push_kept.new.out) c.args.at c.in_ok-end.end open-stays c.kept_in_beginning.ensures (λ i. (c.type_inv.text i).fits) c.in_ok-end.ensures.end c.in_ok-end.ensures.written

pub returns-then-ends_beginning-clause-written : goal.returns-then-ends_beginning-clause-written
returns-then-ends_beginning-clause-written c =
    let text = c.args.text.now in
    let end = c.in_ok-end.end in
    let within = before-end end (length c.as_bytes-bytes.result.now) (length text) c.in_ok-end.ensures.inside (ap length c.as_bytes-bytes.ensures.value) c.if-end-bytes.false in
    let run = run-written url_open stays_in_beginning c.kept_in_beginning.result.now text (string_bytes c.args.out.now) (string_bytes c.push_kept.new.out) c.args.at end open-stays c.kept_in_beginning.ensures (λ i. (c.type_inv.text i).fits) c.in_ok-end.ensures.end c.in_ok-end.ensures.written in
    let ends : ends_beginning (get_or text end 0) ≡ true = ap (λ (x : List ℕ). ends_beginning (get_or x end 0)) (sym c.as_bytes-bytes.ensures.value) ∙ sym c.ends_beginning.ensures ∙ c.if-ends_beginning.true in
    let rest = rest-written text (string_bytes c.push_kept.new.out) (string_bytes c.push_url_norm.new.out) end (length c.as_bytes-bytes.result.now) within ends (ap length c.as_bytes-bytes.ensures.value)
    (c.in_ok-push_url_norm.ensures ∙ ap (λ (x : List ℕ). string_bytes c.push_kept.new.out ++ url_norm x) c.range_from.ensures.value) in
    written-on url_open text (string_bytes c.args.out.now) (string_bytes c.push_kept.new.out) (string_bytes c.push_url_norm.new.out) c.args.at end (length c.as_bytes-bytes.result.now) run rest

pub returns-clause-written : goal.returns-clause-written
returns-clause-written c =
    let text = c.args.text.now in
    let end = c.in_ok-end.end in
    let within = before-end end (length c.as_bytes-bytes.result.now) (length text) c.in_ok-end.ensures.inside (ap length c.as_bytes-bytes.ensures.value) c.if-end-bytes.false in
    let run = run-written url_open stays_in_beginning c.kept_in_beginning.result.now text (string_bytes c.args.out.now) (string_bytes c.push_kept.new.out) c.args.at end open-stays c.kept_in_beginning.ensures (λ i. (c.type_inv.text i).fits) c.in_ok-end.ensures.end c.in_ok-end.ensures.written in
    let stops = run-stops stays_in_beginning c.kept_in_beginning.result.now text c.args.at end c.kept_in_beginning.ensures c.in_ok-end.ensures.end within (c.type_inv.text end).fits in
    let other : ends_beginning (get_or text end 0) ≡ false = ap (λ (x : List ℕ). ends_beginning (get_or x end 0)) (sym c.as_bytes-bytes.ensures.value) ∙ sym c.ends_beginning.ensures ∙ c.if-ends_beginning.false in
    let byte = byte-written url_open text (string_bytes c.push_kept.new.out) (string_bytes c.push_unkept.new.out) (unkept_written (get_or text end 0) (drop (end + 1) text)) end within (open-unkept (get_or text end 0) (drop (end + 1) text) (c.type_inv.text end).fits stops other)
    (c.in_ok-push_unkept.ensures ∙ ap (λ (x : List ℕ). string_bytes c.push_kept.new.out ++ x) (same-unkept c.as_bytes-bytes.result.now text end c.as_bytes-bytes.ensures.value)) in
    written-on url_open text (string_bytes c.args.out.now) (string_bytes c.push_kept.new.out) (string_bytes c.push_unkept.new.out) c.args.at end (end + 1) run byte
