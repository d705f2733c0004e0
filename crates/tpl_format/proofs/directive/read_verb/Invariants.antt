use Rattle.std.proofs.Common.{◌≡◌, List, drop, Some}
use Rattle.page_datum.specs.Data.{Data}
use Rattle.tpl_format.specs.Formats.{formatted_from}
use Rattle.tpl_format.specs.Verbs.{bare}
use Rattle.tpl_format.proofs.directive.read_verb.Given as goal

abbrev pub invariant-loop-at : goal.invariant-loop-at
invariant-loop-at l = (left : List Data) → formatted_from (drop l.at l.bytes) (Some l.verb) left ≡ formatted_from l.bytes (Some bare) left
