use Rattle.std.proofs.Common.{◌≡◌, ◌++◌, ◌-◌}
use Rattle.page_tool.specs.Sections.{sections_from}
use Rattle.page_tool.proofs.sections.made_bytes.Given as goal

-- the sections so far and those to come are all
abbrev pub invariant-loop : goal.invariant-loop
invariant-loop l = l.bytes ++ sections_from (l.sections - l.counter) l.number ≡ sections_from l.sections l.sections
