-- What names are: words of the language, its functions, and others.
use Rattle.std.specs.Prelude.{ℕ, codes, if◌then◌else◌, List, Option, Some, None}
use Rattle.std.specs.Str.{bytes_eq}
use Rattle.tpl_symbol.specs.declared.func.Func.{Func}
use Rattle.tpl_symbol.specs.declared.func.Func.TheVariants as func
use Rattle.tpl_symbol.specs.declared.symbol.SymbolKind.{SymbolKind}
use Rattle.tpl_symbol.specs.declared.symbol.SymbolKind.TheVariants as kind
use Rattle.tpl_symbol.specs.declared.word.Word.{Word}
use Rattle.tpl_symbol.specs.declared.word.Word.TheVariants as word

-- the word with this name
abbrev pub word_of : List ℕ → Option Word
word_of name =
    if bytes_eq name (codes "if") then Some word.If
    else if bytes_eq name (codes "with") then Some word.With
    else if bytes_eq name (codes "range") then Some word.Range
    else if bytes_eq name (codes "else") then Some word.Else
    else if bytes_eq name (codes "end") then Some word.End
    else if bytes_eq name (codes "break") then Some word.Break
    else if bytes_eq name (codes "continue") then Some word.Continue
    else if bytes_eq name (codes "template") then Some word.Template
    else if bytes_eq name (codes "define") then Some word.Define
    else if bytes_eq name (codes "block") then Some word.Block
    else if bytes_eq name (codes "true") then Some word.True
    else if bytes_eq name (codes "false") then Some word.False
    else if bytes_eq name (codes "nil") then Some word.Nil
    else None

-- the name of a function
abbrev pub function_name : Func → List ℕ
function_name func.And = codes "and"
function_name func.Or = codes "or"
function_name func.Not = codes "not"
function_name func.Eq = codes "eq"
function_name func.Ne = codes "ne"
function_name func.Lt = codes "lt"
function_name func.Le = codes "le"
function_name func.Gt = codes "gt"
function_name func.Ge = codes "ge"
function_name func.Index = codes "index"
function_name func.Slice = codes "slice"
function_name func.Len = codes "len"
function_name func.Print = codes "print"
function_name func.Println = codes "println"
function_name func.Printf = codes "printf"
function_name func.Html = codes "html"
function_name func.Urlquery = codes "urlquery"

-- the function with this name
abbrev pub function_of : List ℕ → Option Func
function_of name =
    if bytes_eq name (function_name func.And) then Some func.And
    else if bytes_eq name (function_name func.Or) then Some func.Or
    else if bytes_eq name (function_name func.Not) then Some func.Not
    else if bytes_eq name (function_name func.Eq) then Some func.Eq
    else if bytes_eq name (function_name func.Ne) then Some func.Ne
    else if bytes_eq name (function_name func.Lt) then Some func.Lt
    else if bytes_eq name (function_name func.Le) then Some func.Le
    else if bytes_eq name (function_name func.Gt) then Some func.Gt
    else if bytes_eq name (function_name func.Ge) then Some func.Ge
    else if bytes_eq name (function_name func.Index) then Some func.Index
    else if bytes_eq name (function_name func.Slice) then Some func.Slice
    else if bytes_eq name (function_name func.Len) then Some func.Len
    else if bytes_eq name (function_name func.Print) then Some func.Print
    else if bytes_eq name (function_name func.Println) then Some func.Println
    else if bytes_eq name (function_name func.Printf) then Some func.Printf
    else if bytes_eq name (function_name func.Html) then Some func.Html
    else if bytes_eq name (function_name func.Urlquery) then Some func.Urlquery
    else None

-- a function, or else an unknown name
abbrev pub function_kind : Option Func → SymbolKind
function_kind (Some function) = kind.Function function
function_kind None = kind.Unknown

-- a word, or else one of the others
abbrev pub word_kind : Option Word → SymbolKind → SymbolKind
word_kind (Some word) other = kind.Word word
word_kind None other = other

-- what a name is
abbrev pub name_kind : List ℕ → SymbolKind
name_kind name = word_kind (word_of name) (function_kind (function_of name))
