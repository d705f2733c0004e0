use Rattle.std.proofs.Common.{◌≡◌, ◌++◌, drop}
use Rattle.page_lexer.specs.Printing.{attribute_lines}
use Rattle.page_lexer.proofs.print_tags.push_attributes.Given as goal

abbrev pub invariant-loop-attribute : goal.invariant-loop-attribute
invariant-loop-attribute l = l.out ++ attribute_lines (drop l.attribute-index l.attribute-items) ≡ l.fn.out ++ attribute_lines l.attribute-items
