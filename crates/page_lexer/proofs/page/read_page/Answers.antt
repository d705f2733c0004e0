use Rattle.std.proofs.Common.{arith, sym, subst, get_or, length, ◌≤◌}
use Rattle.page_lexer.specs.Spans.{AreInPage}
use Rattle.page_lexer.proofs.Within.{turn-within, turn-reads, end-within}
use Rattle.page_lexer.proofs.page.read_page.Goals as goal

pub loop-here-preserved : goal.loop-here-preserved
loop-here-preserved c =
    let page = c.args.page.now in let here = c.loop-here.here in let before = c.loop-here.reading in let after = c.read_byte.new.self in record {
      left = turn-reads page here before after c.loop-here-test.true c.in_ok-read_byte.ensures c.loop-here.invariant.left;
      within = turn-within page here (get_or page here 0) before after c.loop-here-test.true c.in_ok-read_byte.ensures c.loop-here.invariant.within;
    }

pub returns-clause-spans : goal.returns-clause-spans
returns-clause-spans c =
    let page = c.args.page.now in let here = c.loop-here.here in
    let here-end : here ≤ length page = omega (arith, c.loop-here.auto.here-end) in
    subst (AreInPage page) (sym c.in_ok-end.ensures) (end-within page c.loop-here.reading.at here c.loop-here.reading here-end c.loop-here.invariant.within)
