use Rattle.page_tool.proofs.SectionSteps.{one_more}
use Rattle.page_tool.proofs.sections.made_bytes.Goals as goal

pub loop-preserved : goal.loop-preserved
loop-preserved c =
    one_more c.loop.bytes _ _ c.args.sections c.loop.counter c.loop.number _ c.loop-test.true c.following-number.ensures
    c.in_ok-push_section.ensures c.loop.invariant
