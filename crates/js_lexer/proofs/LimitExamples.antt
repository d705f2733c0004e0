-- Worked examples of texts that are read here otherwise than in JavaScript, without a refusal: what follows stands in a string here, and in code there.
use Rattle.std.proofs.Common.{◌≡◌, ℕ, false, codes, List, [], Some, None, refl}
use Rattle.js_lexer.specs.Classes.{class_of}
use Rattle.js_lexer.specs.Nodes.{node_refusal, script_node, node_and_hole}
use Rattle.js_lexer.specs.Spots.{CodeSpot, StringSpot, NoTail, script_spot}
use Rattle.js_lexer.specs.States.{ScriptState, script_start}
use Rattle.js_lexer.specs.WhiteSpace.{released, held_after}
use Rattle.js_lexer.specs.declared.sense.Sense.TheVariants as sense

pub record EndsInString (bytes : List ℕ) (s : ScriptState) : Type 0 where
  pub stands : node_refusal false bytes s ≡ None
  pub there : script_spot (script_node bytes s) ≡ Some (StringSpot false)

behind_condition : EndsInString (codes "if(a)/'/;") script_start
unfolding class_of released held_after lib.Utf8.encode
behind_condition = record { stands = refl; there = refl }

behind_dots : EndsInString (codes "[.../'/.source,") script_start
unfolding class_of released held_after lib.Utf8.encode
behind_dots = record { stands = refl; there = refl }

behind_increment : EndsInString (codes "++/'/.a;") script_start
unfolding class_of released held_after lib.Utf8.encode
behind_increment = record { stands = refl; there = refl }

behind_extends : EndsInString (codes "class B extends/'/.constructor{};") script_start
unfolding class_of released held_after lib.Utf8.encode
behind_extends = record { stands = refl; there = refl }

behind_brace_in_literal : EndsInString (codes "`${()=>{{}/}}`;'/}}`;") script_start
unfolding class_of released held_after lib.Utf8.encode
behind_brace_in_literal = record { stands = refl; there = refl }

old_comment_in_literal : EndsInString (codes "`${0<!--}`;'\\\n}`;") script_start
unfolding class_of released held_after lib.Utf8.encode
old_comment_in_literal = record { stands = refl; there = refl }

old_end_of_comment_in_literal : EndsInString (codes "`${0\n-->}`;'\\\n}`;") script_start
unfolding class_of released held_after lib.Utf8.encode
old_end_of_comment_in_literal = record { stands = refl; there = refl }

-- behind a value, which may be an object at the beginning of a statement
behind_value : EndsInString (codes "/'/;") (node_and_hole [] script_start)
unfolding class_of released held_after lib.Utf8.encode
behind_value = record { stands = refl; there = refl }

-- and the other way round: code here, and a string in JavaScript
behind_name_as_keyword : script_spot (script_node (codes "x.return/'/;") script_start) ≡ Some (CodeSpot sense.Re NoTail)
unfolding class_of released held_after lib.Utf8.encode
behind_name_as_keyword = refl
