use Rattle.std.proofs.Common.{◌≡◌, ◌+◌, ◌<◌, ◌==◌, true, false, ap, sym, ◌∙◌, drop, length, arith}
use Rattle.std.proofs.lemmas.Bool.Decides.{nat_tests}
use Rattle.std.proofs.lemmas.List.{drop-drop}
use Rattle.tpl_token.specs.Texts.{bytes_before}
use Rattle.tpl_token.proofs.Marks.{before_from, before_here, before_next, before_nothing}
use Rattle.tpl_token.proofs.bytes.bytes_before.Goals as goal

pub returns-then-begins-clause-len : goal.returns-then-begins-clause-len
returns-then-begins-clause-len c =
    let mark = c.args.mark.now in
    let run = before_from mark c.split_at.result.1.now c.bytes_until-run.result (omega (arith, c.fits-mark)) c.bytes_until-run.ensures.len in
    let here = before_here mark c.split_at-in-loop-at.result.1.now (sym c.begins.ensures ∙ c.if-begins.true) in
    omega (arith, c.loop-at.invariant.counts, run, here, ap (bytes_before mark) c.split_at.ensures.back, ap (bytes_before mark) c.split_at-in-loop-at.ensures.back)

pub returns-then-is_empty-clause-len : goal.returns-then-is_empty-clause-len
returns-then-is_empty-clause-len c =
    let mark = c.args.mark.now in
    let run = before_from mark c.split_at.result.1.now c.bytes_until-run.result (omega (arith, c.fits-mark)) c.bytes_until-run.ensures.len in
    let found = c.split_at-in-loop-at.result.1.now in
    let empty : (length found == 0) ≡ true = sym c.is_empty.ensures ∙ c.if-is_empty.true in
    let none : length found ≡ 0 = grind (arith, nat_tests) in
    let here = before_nothing mark found none in
    omega (arith, c.loop-at.invariant.counts, c.loop-at.invariant.within, run, here, none, c.split_at.ensures.back_len, c.split_at-in-loop-at.ensures.back_len, c.bytes_until-run.ensures.bound, ap (bytes_before mark) c.split_at.ensures.back, ap (bytes_before mark) c.split_at-in-loop-at.ensures.back)

pub loop-at-preserved : goal.loop-at-preserved
loop-at-preserved c =
    let mark = c.args.mark.now in
    let text = c.args.bytes.now in
    let at = c.loop-at.at in
    let len = c.bytes_until-run.result in
    let run = before_from mark c.split_at.result.1.now len (omega (arith, c.fits-mark)) c.bytes_until-run.ensures.len in
    let found = c.split_at-in-loop-at.result.1.now in
    let empty : (length found == 0) ≡ false = sym c.is_empty.ensures ∙ c.if-is_empty.false in
    let some : 0 < length found = grind (arith, nat_tests) in
    let next = before_next mark found some (sym c.begins.ensures ∙ c.if-begins.false) in
    let found_is : found ≡ drop (at + len) text = c.split_at-in-loop-at.ensures.back ∙ ap (drop len) c.split_at.ensures.back ∙ drop-drop len at text in
    let behind : drop 1 found ≡ drop (at + (len + 1)) text = ap (drop 1) found_is ∙ drop-drop 1 (at + len) text ∙ ap (λ n. drop n text) (omega arith) in
    record {
      within = omega (arith, some, c.loop-at.invariant.within, c.split_at.ensures.back_len, c.split_at-in-loop-at.ensures.back_len);
      counts = omega (arith, c.loop-at.invariant.counts, run, next, ap (bytes_before mark) c.split_at.ensures.back, ap (bytes_before mark) c.split_at-in-loop-at.ensures.back, ap (bytes_before mark) behind);
    }
