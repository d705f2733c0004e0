-- Trees that parsing gives, and what a printed tree reads as.
use Rattle.std.specs.Prelude.{◌≡◌, ℕ, ◌≤◌, Bool, false, List, [], ◌∷◌, ◌++◌}
use Rattle.std.specs.List.{All}
use Rattle.tpl_parse.specs.Files.{IsFile}
use Rattle.tpl_parse.specs.Forms.{Forms, form_nodes, found_in}
use Rattle.tpl_parse.specs.Grammar.{AreForms, IsFileBody}
use Rattle.tpl_parse.specs.Steps.{most_open}
use Rattle.tpl_build.specs.declared.definition.Def.{Def}
use Rattle.tpl_print.specs.Lines.{without_lines}
use Rattle.tpl_symbol.specs.Symbols.{symbols_of}
use Rattle.tpl_symbol.specs.declared.symbol.Symbol.{Symbol}
use Rattle.tpl_token.specs.Grammar.{AreTokens}
use Rattle.tpl_token.specs.declared.token.Token.{Token}
use Rattle.tpl_tree.specs.Trees.{NodesData}

-- The nodes are those of forms that stand among the symbols of some text, as the body of a file does, or that of a `define` or a
-- `block`: no variable is declared before them, no `range` is around them, and no more may be open than in a file.
pub record IsParsed (nodes : NodesData) : Type 0 where
  pub text : List ℕ
  pub tokens : List Token
  pub are_tokens : AreTokens text tokens
  pub front : List Symbol
  pub symbols : List Symbol
  pub rest : List Symbol
  pub among : symbols_of text tokens ≡ front ++ symbols
  pub forms : Forms
  pub room : ℕ
  pub bound : room ≤ most_open
  pub top : Bool
  pub are : AreForms [] room false top forms symbols rest
  pub nodes_are : form_nodes forms ≡ nodes

-- A template file of this name and text has definitions, of which the last, its own body, has these nodes, lines apart.
pub record HasBody (name text : List ℕ) (nodes : NodesData) : Type 0 where
  pub others : List Def
  pub own : Def
  pub file : IsFile name text (others ++ own ∷ [])
  pub named : own.name ≡ name
  pub same : without_lines own.tree.nodes ≡ without_lines nodes

-- The text is a template file, whatever its name, whose own body has these nodes, lines apart.
abbrev pub ParsesAs : List ℕ → NodesData → Type 0
ParsesAs text nodes = (name : List ℕ) → HasBody name text nodes

-- The text has these tokens, and as symbols they are these forms of a file.
abbrev pub IsFileOf : List ℕ → List Token → Forms → Type 0
IsFileOf text tokens forms = AreTokens text tokens × IsFileBody forms (symbols_of text tokens)

-- The body of any file is a tree that parsing gives.
abbrev pub FilesAreParsed : Type 0
FilesAreParsed = (text : List ℕ) (tokens : List Token) (forms : Forms) → IsFileOf text tokens forms → IsParsed (form_nodes forms)

-- So is the body of each definition in it.
abbrev pub DefinitionsAreParsed : Type 0
DefinitionsAreParsed = (text : List ℕ) (tokens : List Token) (forms : Forms) → IsFileOf text tokens forms → All (λ f. IsParsed f.def.tree.nodes) (found_in forms)
