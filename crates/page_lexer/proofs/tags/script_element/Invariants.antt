use Rattle.std.proofs.Common.{◌≡◌, drop}
use Rattle.page_lexer.specs.Tags.{script_element as script_element_of}
use Rattle.page_lexer.proofs.tags.script_element.Given as goal

abbrev pub invariant-loop-attr : goal.invariant-loop-attr
invariant-loop-attr l = script_element_of (drop l.attr-index l.attrs) ≡ script_element_of l.fn.attrs
