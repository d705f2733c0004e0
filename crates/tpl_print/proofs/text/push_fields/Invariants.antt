use Rattle.std.proofs.Common.{◌≡◌, ◌++◌, drop}
use Rattle.tpl_print.specs.Pipes.{fields_text}
use Rattle.tpl_print.proofs.text.push_fields.Given as goal

abbrev pub invariant-loop-name : goal.invariant-loop-name
invariant-loop-name l = l.out ++ fields_text (drop l.name-index l.fields) ≡ l.fn.out ++ fields_text l.fields
