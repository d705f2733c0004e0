-- The pieces of a tree spell what is printed.
use Rattle.std.proofs.Common.{◌≡◌, ℕ, Bool, true, false, true≢false, ◌||◌, List, [], ◌∷◌, ◌++◌, Option, Some, None, codes, refl, sym, ap, ◌∙◌, append_assoc}
use Rattle.tpl_print.proofs.Pieces.{Piece, words, closes, token, string_piece, follows, spelling, spelled, fields_pieces, pipe_pieces, calls_pieces, command_pieces, operands_pieces, operand_pieces, base_pieces, named_pieces, index_pieces, argument_pieces, inner_pieces, head_pieces, else_pieces, parts_pieces, parting_pieces, nodes_pieces, word_pieces}
use Rattle.tpl_symbol.specs.Names.{function_name}
use Rattle.tpl_print.specs.Pipes.{fields_text, is_none, pipe_text, calls_text, command_text, operands_text, printed_operand, base_text}
use Rattle.tpl_print.specs.Replaced.{guarded, print_escaped}
use Rattle.tpl_print.specs.Spelling.{named_text, index_text, argument_text, inner_text, printed_head, node_head, is_control_head, else_mark, printed_parts, begins_text, parting, nodes_text}
use Rattle.tpl_tree.specs.Listing.{has_nodes}
use Rattle.tpl_tree.specs.Pipes.{PipeData, no_commands, command, CommandData, single, call, OperandsData, no_operands, operand, OperandData, with_fields, BaseData, str, number, truth, nil, dot, variable, paren}
use Rattle.tpl_tree.specs.Trees.{NodesData, no_nodes, node, is_text_node}
use Rattle.tpl_tree.specs.declared.node_kind.NodeKind.{NodeKind}
use Rattle.tpl_tree.specs.declared.node_kind.NodeKind.TheVariants as node_kind
use Rattle.tpl_tree.specs.declared.pipe.Pipe.{Pipe}

follows-append : (after : Bool) (a b : List Piece) → follows after (a ++ b) ≡ follows (follows after b) a
follows-append after [] b = refl
follows-append after (p ∷ a) b = refl

pub spelled-append : (after : Bool) (a b : List Piece) → spelled after (a ++ b) ≡ spelled (follows after b) a ++ spelled after b
spelled-append after [] b = refl
spelled-append after (p ∷ a) b =
    ap (λ (f : Bool). spelling f p ++ spelled after (a ++ b)) (follows-append after a b)
    ∙ ap (λ (xs : List ℕ). spelling (follows (follows after b) a) p ++ xs) (spelled-append after a b)
    ∙ sym (append_assoc (spelling (follows (follows after b) a) p) (spelled (follows after b) a) (spelled after b))

-- two lists of pieces after one another
both : (after : Bool) (a b : List Piece) (x y : List ℕ) → spelled (follows after b) a ≡ x → spelled after b ≡ y → spelled after (a ++ b) ≡ x ++ y
both after a b x y e f = spelled-append after a b ∙ ap (λ (xs : List ℕ). xs ++ spelled after b) e ∙ ap (λ (xs : List ℕ). x ++ xs) f

-- pieces before some that are followed are followed
some_after : (after : Bool) (a b : List Piece) → follows after b ≡ true → follows after (a ++ b) ≡ true
some_after after [] b h = h
some_after after (p ∷ a) b h = refl

-- one piece before others
one : (front : List ℕ) (x y : List ℕ) → x ≡ y → front ++ x ≡ front ++ y
one front x y e = ap (λ (xs : List ℕ). front ++ xs) e

append_nil : (xs : List ℕ) → xs ++ [] ≡ xs
append_nil [] = refl
append_nil (x ∷ xs) = ap (λ (ys : List ℕ). x ∷ ys) (append_nil xs)

fields : (f : Bool) (names : List (List ℕ)) → spelled f (fields_pieces names) ≡ fields_text names
fields f [] = refl
fields f (n ∷ names) = one (codes "." ++ n) _ _ (fields f names)

string_before : (f : Bool) (value : List ℕ) (x : List ℕ) → spelling f (string_piece value) ++ x ≡ codes " \"" ++ (print_escaped value ++ (codes "\"" ++ x))
string_before f value x = ap (λ (xs : List ℕ). codes " \"" ++ xs) (append_assoc (print_escaped value) (codes "\"") x)

mutual
  pipe : (f : Bool) (p : PipeData) → spelled f (pipe_pieces p) ≡ pipe_text p
  pipe f no_commands = refl
  pipe f (command c more) = both f (command_pieces c) (calls_pieces more) _ _ (command_is _ c) (calls f more)

  calls : (f : Bool) (p : PipeData) → spelled f (calls_pieces p) ≡ calls_text p
  calls f no_commands = refl
  calls f (command c more) = one (codes " |") _ _ (both f (command_pieces c) (calls_pieces more) _ _ (command_is _ c) (calls f more))

  command_is : (f : Bool) (c : CommandData) → spelled f (command_pieces c) ≡ command_text c
  command_is f (single o) = operand_is f o
  command_is f (call func os) = one (codes " " ++ function_name func) _ _ (operands f os)

  operands : (f : Bool) (os : OperandsData) → spelled f (operands_pieces os) ≡ operands_text os
  operands f no_operands = refl
  operands f (operand o os) = both f (operand_pieces o) (operands_pieces os) _ _ (operand_is _ o) (operands f os)

  operand_is : (f : Bool) (o : OperandData) → spelled f (operand_pieces o) ≡ printed_operand o
  operand_is f (with_fields b names) = base f b names

  base : (f : Bool) (b : BaseData) (names : List (List ℕ)) → spelled f (base_pieces b names) ≡ codes " " ++ (base_text b (is_none names) ++ fields_text names)
  base f (str value) names = one (codes " " ++ base_text (str value) (is_none names)) _ _ (fields f names)
  base f (number n) names = one (codes " " ++ base_text (number n) (is_none names)) _ _ (fields f names)
  base f (truth true) names = one (codes " true") _ _ (fields f names)
  base f (truth false) names = one (codes " false") _ _ (fields f names)
  base f nil names = one (codes " nil") _ _ (fields f names)
  base f dot [] = refl
  base f dot (n ∷ names) = one (codes " ." ++ n) _ _ (fields f names)
  base f (variable x) names = one (codes " $" ++ x) _ _ (fields f names)
  base f (paren p) names = one (codes " (") _ _ (both f (pipe_pieces p) (token _ (codes ")") ∷ fields_pieces names) _ _ (pipe _ p) (one (codes " )") _ _ (fields f names)) ∙ sym (append_assoc (pipe_text p) (codes " )") (fields_text names)))

named : (f : Bool) (x : Option (List ℕ)) → spelled f (named_pieces x) ≡ named_text x
named f None = refl
named f (Some x) = refl

index : (f : Bool) (x : Option (List ℕ)) → spelled f (index_pieces x) ≡ index_text x
index f None = refl
index f (Some x) = refl

argument : (f : Bool) (p : Option Pipe) → spelled f (argument_pieces p) ≡ argument_text p
argument f None = refl
argument f (Some p) = pipe f p.commands

variable_before : (x mark rest more : List ℕ) → rest ≡ more → codes " $" ++ (x ++ (mark ++ rest)) ≡ codes " $" ++ (x ++ (mark ++ more))
variable_before x mark rest more e = ap (λ (xs : List ℕ). codes " $" ++ (x ++ (mark ++ xs))) e

inner : (f : Bool) (k : NodeKind) → spelled f (inner_pieces k) ≡ inner_text f k
inner f (node_kind.Text text) = append_nil (guarded f text)
inner f (node_kind.Action p) = pipe f p.commands
inner f (node_kind.Declare x p) = variable_before x (codes " :=") _ _ (pipe f p.commands) ∙ ap (λ (xs : List ℕ). codes " $" ++ xs) (sym (append_assoc x (codes " :=") (pipe_text p.commands)))
inner f (node_kind.Assign x p) = variable_before x (codes " =") _ _ (pipe f p.commands)
inner f (node_kind.If x p) = one (codes " if") _ _ (both f (named_pieces x) (pipe_pieces p.commands) _ _ (named _ x) (pipe f p.commands))
inner f (node_kind.With x p) = one (codes " with") _ _ (both f (named_pieces x) (pipe_pieces p.commands) _ _ (named _ x) (pipe f p.commands))
inner f (node_kind.Range i e p) = one (codes " range") _ _ (both f (index_pieces i) (named_pieces e ++ pipe_pieces p.commands) _ _ (index _ i) (both f (named_pieces e) (pipe_pieces p.commands) _ _ (named _ e) (pipe f p.commands)))
inner f node_kind.Break = refl
inner f node_kind.Continue = refl
inner f (node_kind.Template n p) = one (codes " template") _ _ (string_before (follows f (argument_pieces p)) n (spelled f (argument_pieces p)) ∙ ap (λ (xs : List ℕ). codes " \"" ++ (print_escaped n ++ (codes "\"" ++ xs))) (argument f p))

action_head : (f : Bool) (k : NodeKind) → spelled f (head_pieces false (inner_pieces k)) ≡ printed_head false (inner_text true k)
action_head f k = one (codes "{{") _ _ (both f (inner_pieces k) (closes ∷ []) _ _ (inner true k) refl)

head : (f followed : Bool) (k : NodeKind) → (is_text_node k ≡ true → f ≡ followed) → spelled f (head_pieces (is_text_node k) (inner_pieces k)) ≡ node_head followed k
head f followed (node_kind.Text text) h = ap (λ (g : Bool). spelled g (words text ∷ [])) (h refl) ∙ inner followed (node_kind.Text text)
head f followed (node_kind.Action p) h = action_head f (node_kind.Action p)
head f followed (node_kind.Declare x p) h = action_head f (node_kind.Declare x p)
head f followed (node_kind.Assign x p) h = action_head f (node_kind.Assign x p)
head f followed (node_kind.If x p) h = action_head f (node_kind.If x p)
head f followed (node_kind.With x p) h = action_head f (node_kind.With x p)
head f followed (node_kind.Range i e p) h = action_head f (node_kind.Range i e p)
head f followed node_kind.Break h = action_head f node_kind.Break
head f followed node_kind.Continue h = action_head f node_kind.Continue
head f followed (node_kind.Template n p) h = action_head f (node_kind.Template n p)

else_is : (f : Bool) (b : Bool) → spelled f (else_pieces b) ≡ else_mark b
else_is f true = refl
else_is f false = refl

parts : (f : Bool) (b : Bool) (first mark other : List Piece) (x m y : List ℕ) → spelled true first ≡ x → ((g : Bool) → spelled g mark ≡ m) → spelled true other ≡ y
    → spelled f (parts_pieces b first mark other) ≡ printed_parts b x m y
parts f true first mark other x m y is_first is_mark is_other =
    let end = word_pieces (codes "end") in
    both f first (mark ++ (other ++ end)) _ _ (ap (λ (g : Bool). spelled g first) (some_after f mark (other ++ end) (some_after f other end refl)) ∙ is_first)
    (both f mark (other ++ end) _ _ (is_mark _) (both f other end _ _ is_other refl))
parts f false first mark other x m y is_first is_mark is_other = refl

parting_is : (f : Bool) (a b : Bool) → spelled f (parting_pieces a b) ≡ parting a b
parting_is f true true = refl
parting_is f true false = refl
parting_is f false b = refl

-- after a text an action follows where nodes do, or where one follows them
text_before : (f : Bool) (rest : NodesData) → follows f (parting_pieces true (begins_text rest) ++ nodes_pieces rest) ≡ has_nodes rest || f
text_before f no_nodes = refl
text_before f (node (node_kind.Text text) line seams first other rest) = refl
text_before f (node (node_kind.Action p) line seams first other rest) = refl
text_before f (node (node_kind.Declare x p) line seams first other rest) = refl
text_before f (node (node_kind.Assign x p) line seams first other rest) = refl
text_before f (node (node_kind.If x p) line seams first other rest) = refl
text_before f (node (node_kind.With x p) line seams first other rest) = refl
text_before f (node (node_kind.Range i e p) line seams first other rest) = refl
text_before f (node node_kind.Break line seams first other rest) = refl
text_before f (node node_kind.Continue line seams first other rest) = refl
text_before f (node (node_kind.Template n p) line seams first other rest) = refl

text_followed : (f : Bool) (k : NodeKind) (first mark other : List Piece) (rest : NodesData) → is_text_node k ≡ true
    → follows f (parts_pieces (is_control_head k) first mark other ++ (parting_pieces (is_text_node k) (begins_text rest) ++ nodes_pieces rest)) ≡ has_nodes rest || f
text_followed f (node_kind.Text text) first mark other rest h = text_before f rest
text_followed f (node_kind.Action p) first mark other rest h = absurd (true≢false (sym h))
text_followed f (node_kind.Declare x p) first mark other rest h = absurd (true≢false (sym h))
text_followed f (node_kind.Assign x p) first mark other rest h = absurd (true≢false (sym h))
text_followed f (node_kind.If x p) first mark other rest h = absurd (true≢false (sym h))
text_followed f (node_kind.With x p) first mark other rest h = absurd (true≢false (sym h))
text_followed f (node_kind.Range i e p) first mark other rest h = absurd (true≢false (sym h))
text_followed f node_kind.Break first mark other rest h = absurd (true≢false (sym h))
text_followed f node_kind.Continue first mark other rest h = absurd (true≢false (sym h))
text_followed f (node_kind.Template n p) first mark other rest h = absurd (true≢false (sym h))

pub spelled-nodes : (f : Bool) (nodes : NodesData) → spelled f (nodes_pieces nodes) ≡ nodes_text f nodes
spelled-nodes f no_nodes = refl
spelled-nodes f (node k l s first other rest) =
    both f (head_pieces (is_text_node k) (inner_pieces k)) _ _ _ (head _ (has_nodes rest || f) k (text_followed f k (nodes_pieces first) (else_pieces (has_nodes other)) (nodes_pieces other) rest))
    (both f (parts_pieces (is_control_head k) (nodes_pieces first) (else_pieces (has_nodes other)) (nodes_pieces other)) _ _ _
    (parts _ (is_control_head k) (nodes_pieces first) (else_pieces (has_nodes other)) (nodes_pieces other) _ _ _ (spelled-nodes true first) (λ g. else_is g (has_nodes other)) (spelled-nodes true other))
    (both f (parting_pieces (is_text_node k) (begins_text rest)) (nodes_pieces rest) _ _ (parting_is _ (is_text_node k) (begins_text rest)) (spelled-nodes f rest)))
