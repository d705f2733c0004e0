use Rattle.std.proofs.Common.{◌≡◌, ℕ, ◌+◌, ◌-◌, List, [], drop, codes, refl, sym, ap, ◌∙◌, arith, ◌<◌}
use Rattle.std.proofs.lemmas.Str.{IsCharBoundary-after_ascii}
use Rattle.tpl_token.specs.Characters.{begins}
use Rattle.tpl_token.specs.Scanning.{Quoted, after_part, quoted}
use Rattle.tpl_token.proofs.Cuts.{cut_after_escape}
use Rattle.tpl_token.proofs.QuotedStrings.{after_nothing, at_quote, at_cut, at_bad, after_escape}
use Rattle.tpl_token.proofs.string.quoted_at.Goals as goal

-- nothing is read yet
nothing : (v : List ℕ) (n : ℕ) (q : Quoted) → v ≡ [] → n ≡ 0 → after_part v n q ≡ q
nothing v n q none zero = ap (λ (x : List ℕ). after_part x n q) none ∙ ap (λ (k : ℕ). after_part [] k q) zero ∙ after_nothing q

pub loop-at-init : goal.loop-at-init
loop-at-init c = record {
  begun = omega arith;
  within = omega (arith, c.requires.within);
  cut = IsCharBoundary-after_ascii c.args.text.now c.args.start c.utf8.text c.requires.within (omega (arith, c.requires.quote));
  reads = nothing _ (c.args.start + 1 - (c.args.start + 1)) (quoted 0 (drop (c.args.start + 1) c.args.text.now)) c.new-value.ensures.bytes (omega arith);
}

pub returns-then-begins-clause-found : goal.returns-then-begins-clause-found
returns-then-begins-clause-found c =
    let begun = c.loop-at.invariant.begun in
    let whole = quoted 0 (drop (c.args.start + 1) c.args.text.now) in
    let rest = c.split_at.ensures.back ∙ ap (drop c.in_ok-at.at) c.as_bytes.ensures.value in
    let quote = ap (begins (codes "\"")) (sym rest) ∙ sym c.begins.ensures ∙ c.if-begins.true in
    rw c.from.ensures (at_quote (drop c.in_ok-at.at c.args.text.now) _ c.args.start _ (c.in_ok-at.at + 1 - c.args.start) whole quote (omega (arith, begun, c.in_ok-at.ensures.from)) (c.in_ok-at.ensures.copied c.args.start whole begun c.loop-at.invariant.reads))

pub returns-then-not-begins-clause-found : goal.returns-then-not-begins-clause-found
returns-then-not-begins-clause-found c =
    let whole = quoted 0 (drop (c.args.start + 1) c.args.text.now) in
    let rest = c.split_at.ensures.back ∙ ap (drop c.in_ok-at.at) c.as_bytes.ensures.value in
    let quote = ap (begins (codes "\"")) (sym rest) ∙ sym c.begins.ensures ∙ c.if-begins.false in
    let backslash = ap (begins (codes "\\")) (sym rest) ∙ sym c.begins-in-loop-at.ensures ∙ c.if-not-begins.true in
    at_cut (drop c.in_ok-at.at c.args.text.now) _ c.args.start _ whole c.in_ok-at.ensures.stops quote backslash (c.in_ok-at.ensures.copied c.args.start whole c.loop-at.invariant.begun c.loop-at.invariant.reads)

pub returns-in-None-clause-found : goal.returns-in-None-clause-found
returns-in-None-clause-found c =
    let begun = c.loop-at.invariant.begun in
    let whole = quoted 0 (drop (c.args.start + 1) c.args.text.now) in
    let rest = c.split_at.ensures.back ∙ ap (drop c.in_ok-at.at) c.as_bytes.ensures.value in
    let backslash = ap (begins (codes "\\")) (sym rest) ∙ sym c.begins-in-loop-at.ensures ∙ c.if-not-begins.false in
    let after_part = c.split_at-in-loop-at.ensures.back ∙ ap (drop 1) rest in
    at_bad (drop c.in_ok-at.at c.args.text.now) _ _ c.args.start c.in_ok-at.at _ whole backslash after_part (sym c.in-None.ensures.found) (omega (arith, begun, c.in_ok-at.ensures.from)) (c.in_ok-at.ensures.copied c.args.start whole begun c.loop-at.invariant.reads)

pub loop-at-preserved : goal.loop-at-preserved
loop-at-preserved c =
    let text = c.args.text.now in
    let at = c.in_ok-at.at in
    let next = at + (1 + c.in-Some.len) in
    let begun : c.args.start < at = omega (arith, c.loop-at.invariant.begun, c.in_ok-at.ensures.from) in
    let whole = quoted 0 (drop (c.args.start + 1) text) in
    let rest = c.split_at.ensures.back ∙ ap (drop at) c.as_bytes.ensures.value in
    let backslash = ap (begins (codes "\\")) (sym rest) ∙ sym c.begins-in-loop-at.ensures ∙ c.if-not-begins.false in
    let after_part = c.split_at-in-loop-at.ensures.back ∙ ap (drop 1) rest in
    let found = sym c.in-Some.ensures.found in
    let fits = c.in-Some.ensures.bound in
    let reads = c.in_ok-at.ensures.copied c.args.start whole c.loop-at.invariant.begun c.loop-at.invariant.reads in
    let cut = cut_after_escape text (drop at text) _ at c.in-Some.character c.in-Some.len next c.utf8.text refl backslash after_part found fits refl in
    record {
      begun = omega (arith, begun);
      within = cut.0;
      cut = cut;
      reads = after_escape text (drop at text) _ _ _ at c.in-Some.character c.in-Some.len next refl backslash after_part found fits c.in_ok-push-in-Some.ensures.bytes refl c.args.start whole begun reads;
    }
