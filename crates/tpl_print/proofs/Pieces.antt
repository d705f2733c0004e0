-- What a printed tree is built of: its texts, the delimiters of its actions, and the tokens in these. Each piece is one symbol.
use Rattle.std.proofs.Common.{◌≡◌, ◌≢◌, ℕ, Bool, true, false, List, [], ◌∷◌, ◌++◌, Option, Some, None, codes, ◌==◌}
use Rattle.std.specs.Bool.{⊤}
use Rattle.std.specs.Fmt.{signed_decimal}
use Rattle.tpl_symbol.specs.Names.{function_name}
use Rattle.tpl_print.specs.Replaced.{guarded, print_escaped}
use Rattle.tpl_print.specs.Spelling.{is_control_head, begins_text}
use Rattle.tpl_symbol.specs.Kinds.{unmarked}
use Rattle.tpl_symbol.specs.Names.{name_kind}
use Rattle.tpl_symbol.specs.declared.symbol.Seam.{Seam}
use Rattle.tpl_symbol.specs.declared.symbol.Symbol.{Symbol}
use Rattle.tpl_symbol.specs.declared.symbol.SymbolKind.{SymbolKind}
use Rattle.tpl_symbol.specs.declared.symbol.SymbolKind.TheVariants as kind
use Rattle.tpl_token.specs.Characters.{first_is, is_name_byte}
use Rattle.tpl_token.specs.Lexemes.{EndsWord, IsLexeme}
use Rattle.tpl_token.specs.declared.token.TokenKind.{TokenKind}
use Rattle.tpl_token.specs.declared.token.TokenKind.TheVariants as token_kind
use Rattle.tpl_tree.specs.Listing.{has_nodes}
use Rattle.tpl_tree.specs.Pipes.{PipeData, no_commands, command, CommandData, single, call, OperandsData, no_operands, operand, OperandData, with_fields, BaseData, str, number, truth, nil, dot, variable, paren}
use Rattle.tpl_tree.specs.Trees.{NodesData, no_nodes, node, is_text_node}
use Rattle.tpl_tree.specs.declared.node_kind.NodeKind.{NodeKind}
use Rattle.tpl_tree.specs.declared.node_kind.NodeKind.TheVariants as node_kind
use Rattle.tpl_tree.specs.declared.pipe.Pipe.{Pipe}

pub data Piece : Type 0 where
  -- a text, as its bytes
  words : List ℕ → Piece
  -- `{{` and `}}`
  opens : Piece
  closes : Piece
  -- a token of an action, after a space
  token : TokenKind → List ℕ → Piece
  -- a field that touches what stands before it
  field : List ℕ → Piece

-- whether pieces follow, or else what comes after them
abbrev pub follows : Bool → List Piece → Bool
follows after [] = after
follows after (p ∷ ps) = true

-- a piece, after which an action follows or not
abbrev pub spelling : Bool → Piece → List ℕ
spelling followed (words bytes) = guarded followed bytes
spelling followed opens = codes "{{"
spelling followed closes = codes " }}"
spelling followed (token what bytes) = codes " " ++ bytes
spelling followed (field name) = codes "." ++ name

abbrev pub spelled : Bool → List Piece → List ℕ
spelled after [] = []
spelled after (p ∷ ps) = spelling (follows after ps) p ++ spelled after ps

-- tokens that are printed
abbrev pub name : List ℕ → Piece
name bytes = token token_kind.Name bytes

abbrev pub variable_piece : List ℕ → Piece
variable_piece x = token token_kind.Variable (codes "$" ++ x)

abbrev pub string_piece : List ℕ → Piece
string_piece value = token (token_kind.Str value) (codes "\"" ++ (print_escaped value ++ codes "\""))

abbrev pub fields_pieces : List (List ℕ) → List Piece
fields_pieces [] = []
fields_pieces (n ∷ names) = field n ∷ fields_pieces names

abbrev mutual
  pub pipe_pieces : PipeData → List Piece
  pipe_pieces no_commands = []
  pipe_pieces (command c more) = command_pieces c ++ calls_pieces more

  pub calls_pieces : PipeData → List Piece
  calls_pieces no_commands = []
  calls_pieces (command c more) = token token_kind.Bar (codes "|") ∷ (command_pieces c ++ calls_pieces more)

  pub command_pieces : CommandData → List Piece
  command_pieces (single o) = operand_pieces o
  command_pieces (call f os) = name (function_name f) ∷ operands_pieces os

  pub operands_pieces : OperandsData → List Piece
  operands_pieces no_operands = []
  operands_pieces (operand o os) = operand_pieces o ++ operands_pieces os

  pub operand_pieces : OperandData → List Piece
  operand_pieces (with_fields b fields) = base_pieces b fields

  pub base_pieces : BaseData → List (List ℕ) → List Piece
  base_pieces (str value) fields = string_piece value ∷ fields_pieces fields
  base_pieces (number n) fields = token (token_kind.Number n) (signed_decimal n) ∷ fields_pieces fields
  base_pieces (truth true) fields = name (codes "true") ∷ fields_pieces fields
  base_pieces (truth false) fields = name (codes "false") ∷ fields_pieces fields
  base_pieces nil fields = name (codes "nil") ∷ fields_pieces fields
  base_pieces dot [] = token token_kind.Dot (codes ".") ∷ []
  base_pieces dot (n ∷ fields) = token token_kind.Field (codes "." ++ n) ∷ fields_pieces fields
  base_pieces (variable x) fields = variable_piece x ∷ fields_pieces fields
  base_pieces (paren p) fields = token token_kind.Left (codes "(") ∷ (pipe_pieces p ++ (token token_kind.Right (codes ")") ∷ fields_pieces fields))

abbrev pub named_pieces : Option (List ℕ) → List Piece
named_pieces None = []
named_pieces (Some x) = variable_piece x ∷ token token_kind.Declare (codes ":=") ∷ []

abbrev pub index_pieces : Option (List ℕ) → List Piece
index_pieces None = []
index_pieces (Some i) = variable_piece i ∷ token token_kind.Comma (codes ",") ∷ []

abbrev pub argument_pieces : Option Pipe → List Piece
argument_pieces None = []
argument_pieces (Some p) = pipe_pieces p.commands

abbrev pub inner_pieces : NodeKind → List Piece
inner_pieces (node_kind.Text text) = words text ∷ []
inner_pieces (node_kind.Action p) = pipe_pieces p.commands
inner_pieces (node_kind.Declare x p) = variable_piece x ∷ token token_kind.Declare (codes ":=") ∷ pipe_pieces p.commands
inner_pieces (node_kind.Assign x p) = variable_piece x ∷ token token_kind.Assign (codes "=") ∷ pipe_pieces p.commands
inner_pieces (node_kind.If x p) = name (codes "if") ∷ (named_pieces x ++ pipe_pieces p.commands)
inner_pieces (node_kind.With x p) = name (codes "with") ∷ (named_pieces x ++ pipe_pieces p.commands)
inner_pieces (node_kind.Range i e p) = name (codes "range") ∷ (index_pieces i ++ (named_pieces e ++ pipe_pieces p.commands))
inner_pieces node_kind.Break = name (codes "break") ∷ []
inner_pieces node_kind.Continue = name (codes "continue") ∷ []
inner_pieces (node_kind.Template n p) = name (codes "template") ∷ string_piece n ∷ argument_pieces p

abbrev pub head_pieces : Bool → List Piece → List Piece
head_pieces true inner = inner
head_pieces false inner = opens ∷ (inner ++ closes ∷ [])

-- an action of one word
abbrev pub word_pieces : List ℕ → List Piece
word_pieces bytes = opens ∷ name bytes ∷ closes ∷ []

abbrev pub else_pieces : Bool → List Piece
else_pieces true = word_pieces (codes "else")
else_pieces false = []

abbrev pub parts_pieces : Bool → List Piece → List Piece → List Piece → List Piece
parts_pieces true first mark other = first ++ (mark ++ (other ++ word_pieces (codes "end")))
parts_pieces false first mark other = []

abbrev pub parting_pieces : Bool → Bool → List Piece
parting_pieces true true = opens ∷ name (codes "define") ∷ string_piece [] ∷ closes ∷ word_pieces (codes "end")
parting_pieces true false = []
parting_pieces false after = []

abbrev pub nodes_pieces : NodesData → List Piece
nodes_pieces no_nodes = []
nodes_pieces (node k line seams first other rest) =
    head_pieces (is_text_node k) (inner_pieces k)
    ++ (parts_pieces (is_control_head k) (nodes_pieces first) (else_pieces (has_nodes other)) (nodes_pieces other)
    ++ (parting_pieces (is_text_node k) (begins_text rest) ++ nodes_pieces rest))

-- the symbol that a token is
abbrev pub meaning : TokenKind → List ℕ → Option SymbolKind
meaning token_kind.Name bytes = Some (name_kind bytes)
meaning token_kind.Field bytes = Some (kind.Field (unmarked 46 bytes))
meaning token_kind.Dot bytes = Some kind.Dot
meaning token_kind.Variable bytes = Some (kind.Variable (unmarked 36 bytes))
meaning (token_kind.Number n) bytes = Some (kind.Number n)
meaning (token_kind.Str value) bytes = Some (kind.Str value)
meaning token_kind.Declare bytes = Some kind.Declare
meaning token_kind.Assign bytes = Some kind.Assign
meaning token_kind.Bar bytes = Some kind.Bar
meaning token_kind.Comma bytes = Some kind.Comma
meaning token_kind.Left bytes = Some kind.Left
meaning token_kind.Right bytes = Some kind.Right
meaning _ bytes = None

-- a symbol is that of a piece
abbrev pub IsOf : Piece → Symbol → Type 0
IsOf (words bytes) s = (seams : List Seam) × (s.kind ≡ kind.Text bytes seams)
IsOf opens s = (start : ℕ) × (before : ℕ) × (s.kind ≡ kind.Open start before)
IsOf closes s = (end : ℕ) × (s.kind ≡ kind.Close end)
IsOf (token what bytes) s = (meaning what bytes ≡ Some s.kind) × (s.touches ≡ false)
IsOf (field n) s = (s.kind ≡ kind.Field n) × (s.touches ≡ true)

-- symbols up to a rest are those of pieces
abbrev pub Says : List Piece → List Symbol → List Symbol → Type 0
Says [] symbols rest = symbols ≡ rest
Says (p ∷ ps) [] rest = ⊥
Says (p ∷ ps) (s ∷ symbols) rest = IsOf p s × Says ps symbols rest

-- white space follows
abbrev pub SpacedHead : List Piece → Type 0
SpacedHead (closes ∷ ps) = ⊤
SpacedHead (token what bytes ∷ ps) = ⊤
SpacedHead _ = ⊥

-- an action follows, or nothing
abbrev pub OpenHead : List Piece → Type 0
OpenHead [] = ⊤
OpenHead (opens ∷ ps) = ⊤
OpenHead _ = ⊥

abbrev pub is_number : TokenKind → Bool
is_number (token_kind.Number n) = true
is_number _ = false

-- the bytes are a token of this kind, where no letter or digit follows, and after a number no dot
abbrev pub IsToken : TokenKind → List ℕ → Type 0
IsToken what bytes = (rest : List ℕ) → EndsWord rest → (is_number what ≡ true → first_is (λ b. b == 46) rest ≡ false) → IsLexeme what bytes rest

-- pieces may stand after one another, inside of an action, and outside
abbrev mutual
  pub FitIn : List Piece → Type 0
  FitIn [] = ⊥
  FitIn (words bytes ∷ ps) = ⊥
  FitIn (opens ∷ ps) = ⊥
  FitIn (closes ∷ ps) = FitOut ps
  FitIn (token what bytes ∷ ps) = IsToken what bytes × (is_number what ≡ true → SpacedHead ps) × FitIn ps
  FitIn (field n ∷ ps) = (is_name_byte n ≡ true) × FitIn ps

  pub FitOut : List Piece → Type 0
  FitOut [] = ⊤
  FitOut (words bytes ∷ ps) = (bytes ≢ []) × OpenHead ps × FitOut ps
  FitOut (opens ∷ ps) = SpacedHead ps × FitIn ps
  FitOut (closes ∷ ps) = ⊥
  FitOut (token what bytes ∷ ps) = ⊥
  FitOut (field n ∷ ps) = ⊥
