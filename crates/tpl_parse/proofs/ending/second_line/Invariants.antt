use Rattle.std.proofs.Common.{◌≡◌, [], drop}
use Rattle.tpl_parse.specs.Endings.{second_line as second_line_of}
use Rattle.tpl_parse.proofs.ending.second_line.Given as goal

abbrev pub invariant-loop-one : goal.invariant-loop-one
invariant-loop-one l = second_line_of l.names.keys (drop l.one-index l.found) ≡ second_line_of [] l.found
