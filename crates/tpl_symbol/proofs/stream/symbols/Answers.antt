use Rattle.std.proofs.Common.{rules, ◌≡◌, ◌∷◌, subst, arith, length}
use Rattle.tpl_token.specs.Spans.{AreCuts, Ascend}
use Rattle.tpl_symbol.proofs.Lengths.{step_within}
use Rattle.tpl_symbol.proofs.LowLines.{step_low}
use Rattle.tpl_symbol.proofs.stream.symbols.Goals as goal

pub loop-token-preserved : goal.loop-token-preserved
loop-token-preserved c =
    let text = c.args.text.now in
    let token = c.in-Some.token.now in
    let whole : c.loop-token.left.now ≡ token ∷ c.in-Some.rest.now = search rules in
    let spans = subst (Ascend c.loop-token.end (length text)) whole c.loop-token.invariant.spans in
    let cuts = subst (AreCuts text) whole c.loop-token.invariant.cuts in
    record {
      within = spans.2;
      spans = spans.3;
      cuts = cuts.2;
      counted = rw c.up_to-counter.ensures.at c.up_to-counter.ensures.line;
      later = omega (arith, spans.1, c.up_to-counter.ensures.at);
      texts = rw (c.in_ok-put_kind.ensures, c.in_ok-kind.ensures, c.up_to-counter.ensures.line) (step_within text c.loop-token.symbols.items token _ _ c.loop-token.end spans.0 spans.1 spans.2 c.loop-token.invariant.texts);
      lines = rw (c.in_ok-put_kind.ensures, c.in_ok-kind.ensures, c.up_to-counter.ensures.line) (step_low text c.loop-token.symbols.items token _ _ c.loop-token.end c.requires.limit c.loop-token.invariant.lines);
      rest = rw (c.in_ok-put_kind.ensures, c.in_ok-kind.ensures, c.up_to-counter.ensures.line, c.begins_comment.ensures, c.is_comment-comment_before.ensures) (rw whole at c.loop-token.invariant.rest);
    }
