use Rattle.std.proofs.Common.{arith}
use Rattle.tpl_exec.proofs.Elements.{entry_past, entry_here, entry_nowhere}
use Rattle.tpl_exec.proofs.element.entry_at.Goals as goal

pub returns-then-at-len-clause-element : goal.returns-then-at-len-clause-element
returns-then-at-len-clause-element c = entry_past c.args.entries.now c.args.at (omega (arith, c.if-at-len.true, c.len.ensures.count))

pub returns-in-Some-clause-element : goal.returns-in-Some-clause-element
returns-in-Some-clause-element c =
    let h = c.in-Some.ensures.lookup.3 in
    rw (c.as_str.ensures, c.as_ref.ensures) (entry_here c.as_slice.result.now c.args.entries.now c.args.at c.in-Some.field-0.now c.as_slice.ensures.all h.0 h.1)

pub returns-in-None-clause-element : goal.returns-in-None-clause-element
returns-in-None-clause-element c = entry_nowhere c.as_slice.result.now c.args.entries.now c.args.at c.as_slice.ensures.all c.in-None.ensures.lookup.3
