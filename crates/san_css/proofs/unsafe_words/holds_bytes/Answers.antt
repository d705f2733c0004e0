use Rattle.std.proofs.Common.{◌≡◌, ◌<◌, ◌∙◌, List, ap, drop, false, length, nat_eq, rules, sym, ℕ}
use Rattle.std.specs.List.{starts_with}
use Rattle.san_css.proofs.Words.{holds-on, slice-is}
use Rattle.san_css.proofs.unsafe_words.holds_bytes.Goals as goal

pub loop-at-preserved : goal.loop-at-preserved
loop-at-preserved c =
    let inside : c.loop-at.at < length c.args.text.now = search rules in
    let other : starts_with nat_eq (drop c.loop-at.at c.args.text.now) c.args.part.now ≡ false =
    ap (λ (bs : List ℕ). starts_with nat_eq bs c.args.part.now) (sym (slice-is c.args.text.now c.loop-at.at)) ∙ sym c.starts_with.ensures.value ∙ c.if-starts_with.false in
    holds-on c.args.part.now c.args.text.now c.loop-at.at inside other ∙ c.loop-at.invariant
