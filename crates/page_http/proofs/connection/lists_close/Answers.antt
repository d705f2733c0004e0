use Rattle.std.proofs.Common.{sym, ◌∙◌}
use Rattle.page_http.proofs.Lists.{found_close, passed_comma, last_element}
use Rattle.page_http.proofs.connection.lists_close.Goals as goal

pub returns-then-is_close : goal.returns-then-is_close
returns-then-is_close c =
    found_close _ _ _ (sym c.comma_in.ensures ∙ c.in-Some.is) c.split_at.ensures.front (sym c.is_close.ensures ∙ c.if-is_close.true) ∙ c.loop-at.invariant

pub loop-at-preserved : goal.loop-at-preserved
loop-at-preserved c =
    passed_comma _ _ _ _ _ (sym c.comma_in.ensures ∙ c.in-Some.is) c.split_at.ensures.front c.split_at.ensures.back c.split_at-in-Some.ensures.back (sym c.is_close.ensures ∙ c.if-is_close.false) ∙ c.loop-at.invariant

pub returns : goal.returns
returns c =
    c.is_close-2.ensures ∙ last_element c.loop-at.rest.now (sym c.comma_in.ensures ∙ c.in_default.is) ∙ c.loop-at.invariant
