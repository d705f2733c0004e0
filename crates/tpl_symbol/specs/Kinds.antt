-- What tokens are to the grammar of trees.
use Rattle.std.specs.Prelude.{ℕ, ◌-◌, ◌==◌, Bool, true, false, if◌then◌else◌, List, [], ◌∷◌, take, drop, Option, Some, None}
use Rattle.tpl_symbol.specs.Lines.{line_of}
use Rattle.tpl_symbol.specs.Names.{name_kind}
use Rattle.tpl_symbol.specs.declared.symbol.SymbolKind.{SymbolKind}
use Rattle.tpl_symbol.specs.declared.symbol.SymbolKind.TheVariants as symbol
use Rattle.tpl_token.specs.declared.token.Token.{Token}
use Rattle.tpl_token.specs.declared.token.TokenKind.{TokenKind}
use Rattle.tpl_token.specs.declared.token.TokenKind.TheVariants as token

-- the bytes of a token
abbrev pub token_bytes : List ℕ → Token → List ℕ
token_bytes text t = take (t.end - t.start) (drop t.start text)

-- bytes without this mark at their prefix, where they have it
abbrev pub unmarked : ℕ → List ℕ → List ℕ
unmarked mark [] = []
unmarked mark (b ∷ bs) = if b == mark then bs else b ∷ bs

abbrev pub is_comment_kind : TokenKind → Bool
is_comment_kind token.Comment = true
is_comment_kind what = false

abbrev pub is_comment : Token → Bool
is_comment t = is_comment_kind t.kind

-- the first of these tokens is a comment
abbrev pub token_begins_comment : List Token → Bool
token_begins_comment [] = false
token_begins_comment (t ∷ tokens) = is_comment t

-- What a token of this kind is to the grammar, where a comment comes right before or right after it, or not. Comments are
-- nothing, nor are the `{{` and `}}` around them.
abbrev pub symbol_kind_of : TokenKind → List ℕ → Token → Bool → Bool → Option SymbolKind
symbol_kind_of token.Text text t before after = Some (symbol.Text (token_bytes text t) [])
symbol_kind_of token.Open text t before after = if after then None else Some (symbol.Open t.start (line_of text (t.start - 1)))
symbol_kind_of token.Close text t before after = if before then None else Some (symbol.Close t.end)
symbol_kind_of token.Comment text t before after = None
symbol_kind_of token.Name text t before after = Some (name_kind (token_bytes text t))
symbol_kind_of token.Field text t before after = Some (symbol.Field (unmarked 46 (token_bytes text t)))
symbol_kind_of token.Dot text t before after = Some symbol.Dot
symbol_kind_of token.Variable text t before after = Some (symbol.Variable (unmarked 36 (token_bytes text t)))
symbol_kind_of (token.Number n) text t before after = Some (symbol.Number n)
symbol_kind_of (token.Str value) text t before after = Some (symbol.Str value)
symbol_kind_of token.Declare text t before after = Some symbol.Declare
symbol_kind_of token.Assign text t before after = Some symbol.Assign
symbol_kind_of token.Bar text t before after = Some symbol.Bar
symbol_kind_of token.Comma text t before after = Some symbol.Comma
symbol_kind_of token.Left text t before after = Some symbol.Left
symbol_kind_of token.Right text t before after = Some symbol.Right

-- the same of a token
abbrev pub symbol_kind_at : List ℕ → Token → Bool → Bool → Option SymbolKind
symbol_kind_at text t before after = symbol_kind_of t.kind text t before after
