use Rattle.std.proofs.Common.{◌≡◌, [], drop, length, None}
use denote.Text.{Utf8}
use denote.Shadow.{shadow}
use Rattle.tpl_format.specs.Answers.{datas}
use Rattle.tpl_format.specs.Formats.{formatted_from}
use Rattle.tpl_format.specs.Making.{outcome}
use Rattle.tpl_format.proofs.format.write.Given as goal

abbrev pub invariant-loop-plain : goal.invariant-loop-plain
invariant-loop-plain l = shadow (Utf8 l.rest) × (outcome l.out (formatted_from l.rest None (datas (drop l.used l.operands))) ≡ outcome [] (formatted_from l.format None (datas l.operands)))

abbrev pub decreases-loop-plain : goal.decreases-loop-plain
decreases-loop-plain l = length l.rest
