use Rattle.std.proofs.Common.{sym}
use Rattle.page_lexer.proofs.Decoding.{all_decoded, one_decoded}
use Rattle.page_lexer.proofs.characters.string_of.Goals as goal

pub returns-in-None : goal.returns-in-None
returns-in-None c = all_decoded _ _ _ _ _ _ c.loop-turn-test.true (sym c.in-None.ensures) c.loop-turn.invariant

pub loop-turn-preserved : goal.loop-turn-preserved
loop-turn-preserved c =
    one_decoded _ _ _ _ _ _ _ _ _ _ c.loop-turn-test.true (sym c.in-Some.ensures) c.behind-rest.ensures c.in_ok-push_code-in-Some.ensures c.loop-turn.invariant
