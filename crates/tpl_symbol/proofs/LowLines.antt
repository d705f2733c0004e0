-- The lines of symbols and of seams are lines of a file, so they stay low.
use Rattle.std.proofs.Common.{◌==◌, ℕ, ◌+◌, ◌≤◌, Bool, true, false, cond, List, [], ◌∷◌, length, take, Option, Some, None, arith}
use Rattle.std.proofs.lemmas.List.{length-take}
use Rattle.std.proofs.lemmas.List.Elements.{All-append, All-cons, All-head, All-nil, All-tail}
use Rattle.std.proofs.lemmas.List.Sums.{count_by-le-length}
use Rattle.std.specs.Bool.{⊤}
use Rattle.std.specs.List.{All}
use Rattle.std.specs.Option.{IfSome}
use Rattle.tpl_symbol.proofs.Lengths.{IsTextWithin, IsWithin}
use Rattle.tpl_symbol.specs.Joins.{joined_symbol_kinds, put_symbol, put_kind, symbol_at}
use Rattle.tpl_symbol.specs.Kinds.{symbol_kind_of}
use Rattle.tpl_symbol.specs.Lines.{line_of}
use Rattle.tpl_symbol.specs.Names.{function_kind, word_kind}
use Rattle.tpl_symbol.specs.Symbols.{IsFineSymbol, IsFineKind, add}
use Rattle.tpl_symbol.specs.declared.func.Func.{Func}
use Rattle.tpl_symbol.specs.declared.symbol.Seam.{Seam}
use Rattle.tpl_symbol.specs.declared.symbol.Symbol.{Symbol}
use Rattle.tpl_symbol.specs.declared.symbol.SymbolKind.{SymbolKind}
use Rattle.tpl_symbol.specs.declared.symbol.SymbolKind.TheVariants as symbol
use Rattle.tpl_symbol.specs.declared.word.Word.{Word}
use Rattle.tpl_token.specs.Answers.{max_template_text}
use Rattle.tpl_token.specs.declared.token.Token.{Token}
use Rattle.tpl_token.specs.declared.token.TokenKind.{TokenKind}
use Rattle.tpl_token.specs.declared.token.TokenKind.TheVariants as token

-- a line of a file
abbrev pub IsLow : ℕ → Type 0
IsLow line = line ≤ max_template_text + 1

-- where it is a text, the lines of its seams are low
abbrev pub HasLowSeams : SymbolKind → Type 0
HasLowSeams (symbol.Text bytes seams) = All (λ (s : Seam). IsLow s.line) seams
HasLowSeams kind = ⊤

-- the line and those of the seams are low
abbrev pub HasLowLines : Symbol → Type 0
HasLowLines s = IsLow s.line × HasLowSeams s.kind

line_low : (text : List ℕ) (offset : ℕ) → length text ≤ max_template_text → IsLow (line_of text offset)
line_low text offset limit = omega (arith, count_by-le-length (λ (b : ℕ). b == 10) (take offset text), length-take offset text)

joined_low : (kind other : SymbolKind) (first second : Symbol) → HasLowSeams kind → HasLowLines first → HasLowLines second → All HasLowLines (joined_symbol_kinds kind other first second)
joined_low (symbol.Text bytes seams) (symbol.Text more _) first second h p q =
    let seam : Seam = record { at = length bytes; line = second.line } in
    let low = λ (s : Seam). IsLow s.line in
    All-cons HasLowLines _ [] (p.0, All-append low seams (seam ∷ []) h (All-cons low seam [] q.0 (All-nil low))) (All-nil HasLowLines)
joined_low kind other first second h p q = All-cons HasLowLines first (second ∷ []) p (All-cons HasLowLines second [] q (All-nil HasLowLines))

put_low : (symbols : List Symbol) (new : Symbol) → All HasLowLines symbols → HasLowLines new → All HasLowLines (put_symbol symbols new)
put_low [] new h k = All-cons HasLowLines new [] k (All-nil HasLowLines)
put_low (last ∷ []) new h k =
    let l = All-head HasLowLines last [] h in
    joined_low last.kind new.kind last new l.1 l k
put_low (s ∷ t ∷ symbols) new h k = All-cons HasLowLines s (put_symbol (t ∷ symbols) new) (All-head HasLowLines s (t ∷ symbols) h) (put_low (t ∷ symbols) new (All-tail HasLowLines s (t ∷ symbols) h) k)

name_low : (word : Option Word) (function : Option Func) → HasLowSeams (word_kind word (function_kind function))
name_low (Some w) f = tt
name_low None (Some f) = tt
name_low None None = tt

if_some : (b : Bool) (kind : SymbolKind) → HasLowSeams kind → IfSome (cond b None (Some kind)) HasLowSeams
if_some true kind h = tt
if_some false kind h = h

kind_low : (what : TokenKind) (text : List ℕ) (t : Token) (before after : Bool) → IfSome (symbol_kind_of what text t before after) HasLowSeams
kind_low token.Text text t before after = All-nil (λ (s : Seam). IsLow s.line)
kind_low token.Open text t before after = if_some after _ tt
kind_low token.Close text t before after = if_some before _ tt
kind_low token.Name text t before after = name_low _ _
kind_low what text t before after = tt

put_kind_low : (kind : Option SymbolKind) (symbols : List Symbol) (line : ℕ) (touches : Bool) → IsLow line → All HasLowLines symbols → IfSome kind HasLowSeams → All HasLowLines (put_kind symbols kind line touches)
put_kind_low None symbols line touches low h k = h
put_kind_low (Some kind) symbols line touches low h k = put_low symbols (symbol_at kind line touches) h (low, k)

-- With one more token the lines stay low.
pub step_low : (text : List ℕ) (symbols : List Symbol) (t : Token) (before after : Bool) (end : ℕ) → length text ≤ max_template_text → All HasLowLines symbols → All HasLowLines (add text symbols end before after t)
step_low text symbols t before after end limit h = put_kind_low (symbol_kind_of t.kind text t before after) symbols (line_of text t.start) (t.start == end) (line_low text t.start limit) h (kind_low t.kind text t before after)

fine : (kind : SymbolKind) (line end : ℕ) → end ≤ max_template_text → IsTextWithin end kind → IsLow line → HasLowSeams kind → IsFineKind kind line
fine (symbol.Text bytes seams) line end fits h low k = record {
  some = omega (arith, h.0);
  bound = omega (arith, h.1);
  line = omega (arith, h.1, low);
  seams = λ n d within. omega (arith, h.1, k n d within);
}
fine kind line end fits h low k = tt

-- Texts within a file whose lines are low are fine.
pub all_fine : (symbols : List Symbol) (end : ℕ) → end ≤ max_template_text → All (IsWithin end) symbols → All HasLowLines symbols → All IsFineSymbol symbols
all_fine symbols end fits h k = λ n d within. let low = k n d within in fine _ _ end fits (h n d within) low.0 low.1
