-- Tokens, in the order in which they stand in a script, as the events that tell them; the last event first.
use Rattle.std.proofs.Common.{ℕ, List, [], ◌∷◌}
use Rattle.js_lexer.specs.Events.{ScriptEvent, WordBegins, NumberBegins, PunctuatorBegins, StringBegins, RegexpBegins, TemplateBegins, BracketsBegin, LineCuts, script_bytes}

pub data Token : Type 0 where
  Named : List ℕ → Token
  Numeric : List ℕ → Token
  Punctuation : List ℕ → Token
  Quoted : List ℕ → Token
  CutString : List ℕ → Token
  Expression : List ℕ → Token
  CutExpression : List ℕ → Token
  -- up to a `[`, and from there
  WithBrackets : List ℕ → List ℕ → Token
  Template : List ℕ → Token

abbrev pub told_token : Token → List ScriptEvent → List ScriptEvent
told_token (Named bs) t = script_bytes bs (WordBegins ∷ t)
told_token (Numeric bs) t = script_bytes bs (NumberBegins ∷ t)
told_token (Punctuation bs) t = script_bytes bs (PunctuatorBegins ∷ t)
told_token (Quoted bs) t = script_bytes bs (StringBegins ∷ t)
told_token (CutString bs) t = LineCuts ∷ script_bytes bs (StringBegins ∷ t)
told_token (Expression bs) t = script_bytes bs (RegexpBegins ∷ t)
told_token (WithBrackets bs cs) t = script_bytes cs (BracketsBegin ∷ script_bytes bs (RegexpBegins ∷ t))
told_token (CutExpression bs) t = LineCuts ∷ script_bytes bs (RegexpBegins ∷ t)
told_token (Template bs) t = script_bytes bs (TemplateBegins ∷ t)

abbrev pub told_from : List Token → List ScriptEvent → List ScriptEvent
told_from [] t = t
told_from (x ∷ xs) t = told_from xs (told_token x t)

abbrev pub told : List Token → List ScriptEvent
told xs = told_from xs []
