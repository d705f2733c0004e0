-- How long the texts among symbols are.
use Rattle.std.proofs.Common.{◌==◌, ℕ, ◌+◌, ◌-◌, ◌<◌, ◌≤◌, Bool, true, false, cond, List, [], ◌∷◌, length, drop, Option, Some, None, arith, length-append}
use Rattle.std.proofs.lemmas.List.{length-drop, length-take}
use Rattle.std.proofs.lemmas.List.Elements.{All-nil, All-cons, All-head, All-tail, All-weaker}
use Rattle.std.specs.Bool.{⊤}
use Rattle.std.specs.List.{All}
use Rattle.std.specs.Option.{IfSome}
use Rattle.tpl_symbol.specs.Names.{function_kind, word_kind}
use Rattle.tpl_symbol.specs.Joins.{joined_symbol_kinds, put_symbol, put_kind, symbol_at}
use Rattle.tpl_symbol.specs.Kinds.{symbol_kind_of}
use Rattle.tpl_symbol.specs.Lines.{line_of}
use Rattle.tpl_symbol.specs.Symbols.{add}
use Rattle.tpl_symbol.specs.declared.func.Func.{Func}
use Rattle.tpl_symbol.specs.declared.symbol.Symbol.{Symbol}
use Rattle.tpl_symbol.specs.declared.symbol.SymbolKind.{SymbolKind}
use Rattle.tpl_symbol.specs.declared.symbol.SymbolKind.TheVariants as symbol
use Rattle.tpl_symbol.specs.declared.word.Word.{Word}
use Rattle.tpl_token.specs.declared.token.Token.{Token}
use Rattle.tpl_token.specs.declared.token.TokenKind.{TokenKind}
use Rattle.tpl_token.specs.declared.token.TokenKind.TheVariants as token

-- where it is a text, it has at least one byte and at most so many
abbrev pub IsTextWithin : ℕ → SymbolKind → Type 0
IsTextWithin most (symbol.Text bytes seams) = (1 ≤ length bytes) × (length bytes ≤ most)
IsTextWithin most kind = ⊤

abbrev pub IsWithin : ℕ → Symbol → Type 0
IsWithin most s = IsTextWithin most s.kind

wider : (kind : SymbolKind) (less most : ℕ) → less ≤ most → IsTextWithin less kind → IsTextWithin most kind
wider (symbol.Text bytes seams) less most fits h = (h.0, omega (arith, h.1))
wider kind less most fits h = tt

-- a wider bound
pub all_wider : (symbols : List Symbol) (less most : ℕ) → less ≤ most → All (IsWithin less) symbols → All (IsWithin most) symbols
all_wider symbols less most fits h = All-weaker (IsWithin less) (IsWithin most) (λ s. wider s.kind less most fits) symbols h

both_within : (most : ℕ) (first second : Symbol) → IsWithin most first → IsWithin most second → All (IsWithin most) (first ∷ second ∷ [])
both_within most first second h k = All-cons (IsWithin most) first (second ∷ []) h (All-cons (IsWithin most) second [] k (All-nil (IsWithin most)))

joined_within : (kind other : SymbolKind) (less more most : ℕ) (first second : Symbol) → less + more ≤ most → IsTextWithin less kind → IsTextWithin more other → IsWithin most first → IsWithin most second → All (IsWithin most) (joined_symbol_kinds kind other first second)
joined_within (symbol.Text bytes seams) (symbol.Text onward _) less more most first second fits h k _ _ =
    All-cons (IsWithin most) _ [] (omega (arith, h.0, length-append bytes onward), omega (arith, h.1, k.1, length-append bytes onward)) (All-nil (IsWithin most))
joined_within kind other less more most first second fits h k p q = both_within most first second p q

pub put_within : (symbols : List Symbol) (new : Symbol) (less more most : ℕ) → less + more ≤ most → All (IsWithin less) symbols → IsWithin more new → All (IsWithin most) (put_symbol symbols new)
put_within [] new less more most fits h k = All-cons (IsWithin most) new [] (wider new.kind more most (omega arith) k) (All-nil (IsWithin most))
put_within (last ∷ []) new less more most fits h k =
    let l = All-head (IsWithin less) last [] h in
    joined_within last.kind new.kind less more most last new fits l k (wider last.kind less most (omega arith) l) (wider new.kind more most (omega arith) k)
put_within (s ∷ t ∷ symbols) new less more most fits h k =
    All-cons (IsWithin most) s (put_symbol (t ∷ symbols) new) (wider s.kind less most (omega arith) (All-head (IsWithin less) s (t ∷ symbols) h)) (put_within (t ∷ symbols) new less more most fits (All-tail (IsWithin less) s (t ∷ symbols) h) k)

name_within : (word : Option Word) (function : Option Func) (n : ℕ) → IsTextWithin n (word_kind word (function_kind function))
name_within (Some w) f n = tt
name_within None (Some f) n = tt
name_within None None n = tt

if_some : (b : Bool) (kind : SymbolKind) (n : ℕ) → IsTextWithin n kind → IfSome (cond b None (Some kind)) (IsTextWithin n)
if_some true kind n h = tt
if_some false kind n h = h

kind_within : (what : TokenKind) (text : List ℕ) (t : Token) (before after : Bool) → t.start < t.end → t.end ≤ length text → IfSome (symbol_kind_of what text t before after) (IsTextWithin (t.end - t.start))
kind_within token.Text text t before after some fits = (omega (arith, length-take (t.end - t.start) (drop t.start text), length-drop t.start text), omega (arith, length-take (t.end - t.start) (drop t.start text)))
kind_within token.Open text t before after some fits = if_some after _ _ tt
kind_within token.Close text t before after some fits = if_some before _ _ tt
kind_within token.Name text t before after some fits = name_within _ _ _
kind_within what text t before after some fits = tt

put_kind_within : (kind : Option SymbolKind) (symbols : List Symbol) (line : ℕ) (touches : Bool) (less more most : ℕ) → less + more ≤ most → All (IsWithin less) symbols → IfSome kind (IsTextWithin more) → All (IsWithin most) (put_kind symbols kind line touches)
put_kind_within None symbols line touches less more most fits h k = all_wider symbols less most (omega arith) h
put_kind_within (Some kind) symbols line touches less more most fits h k = put_within symbols (symbol_at kind line touches) less more most fits h k

-- With one more token no text passes its end.
pub step_within : (text : List ℕ) (symbols : List Symbol) (t : Token) (before after : Bool) (end : ℕ) → end ≤ t.start → t.start < t.end → t.end ≤ length text → All (IsWithin end) symbols → All (IsWithin t.end) (add text symbols end before after t)
step_within text symbols t before after end later some fits h = put_kind_within (symbol_kind_of t.kind text t before after) symbols (line_of text t.start) (t.start == end) end (t.end - t.start) t.end (omega arith) h (kind_within t.kind text t before after some fits)
