-- The definitions computed on a small file.
use Rattle.std.proofs.Common.{◌≡◌, ℕ, true, false, List, [], ◌∷◌, Ok, codes, refl, arith}
use Rattle.tpl_parse.specs.Forms.{no_forms, text, action}
use Rattle.tpl_print.specs.Parsed.{IsParsed}
use Rattle.tpl_print.specs.Spelling.{nodes_text}
use Rattle.tpl_symbol.specs.Symbols.{symbols_of}
use Rattle.tpl_symbol.specs.declared.symbol.SymbolKind.TheVariants as kind_of
use Rattle.tpl_token.proofs.NextFound.{token}
use Rattle.tpl_token.proofs.OneAnswer.{computed}
use Rattle.tpl_token.specs.declared.token.Token.{Token}
use Rattle.tpl_token.specs.declared.token.TokenKind.TheVariants as kind
use Rattle.tpl_tree.specs.Pipes.{no_commands, command, single, with_fields, dot}
use Rattle.tpl_tree.specs.Trees.{NodesData, no_nodes, node}
use Rattle.tpl_tree.specs.declared.node_kind.NodeKind.TheVariants as node_kind
use Rattle.tpl_tree.specs.declared.pipe.Pipe.{Pipe}

-- `.a`
field : Pipe
field = record { commands = command (single (with_fields dot (codes "a" ∷ []))) no_commands }

-- `b{{.a}}`
nodes : NodesData
nodes = node (node_kind.Text (codes "b")) 1 [] no_nodes no_nodes (node (node_kind.Action field) 1 [] no_nodes no_nodes no_nodes)

tokens : List Token
tokens = token kind.Text 0 1 ∷ token kind.Open 1 3 ∷ token kind.Field 3 5 ∷ token kind.Close 5 7 ∷ []

no_field : (n : List ℕ) (end : ℕ) → kind_of.Close end ≡ kind_of.Field n → ⊥
no_field n end e = cc

-- the tree is one that parsing gives
parsed : IsParsed nodes
unfolding field nodes tokens
parsed = record {
  text = codes "b{{.a}}";
  tokens = tokens;
  are_tokens = computed 9 (codes "b{{.a}}") (Ok tokens) refl;
  front = [];
  symbols = symbols_of (codes "b{{.a}}") tokens;
  rest = [];
  among = refl;
  forms = text (codes "b") 1 [] (action (node_kind.Action field) 1 no_forms);
  room = 100;
  bound = omega arith;
  top = true;
  are = (_, (refl, refl, refl), (_, _, _, (_, _, (refl, refl, refl)), (_, ((λ x. x), (_, (refl, refl), (refl, λ n more t. no_field n 7 t.0))), refl), (_, (refl, refl)), refl));
  nodes_are = refl;
}

-- this is printed
printed : nodes_text false nodes ≡ codes "b{{ .a }}"
unfolding field nodes
printed = refl
