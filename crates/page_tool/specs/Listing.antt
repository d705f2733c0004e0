-- What `tokens` writes, and why it stops.
use Rattle.std.specs.Prelude.{◌≡◌, ◌⊎◌, ◌<◌, ◌≤◌, ℕ, codes, length, List, [], ◌∷◌, ◌++◌, Option, IfSome, Result, Ok, Err, ⊤}
use Rattle.std.specs.Io.KnownBytes.{Appends}
use Rattle.page_io.specs.Whole.{AppendsPart}
use Rattle.page_datum.specs.declared.refused.DataRefused.{DataRefused}
use Rattle.page_datum.specs.declared.refused.DataRefused.TheVariants.{TooLong}
use Rattle.page_lexer.specs.Pages.{tokens_of}
use Rattle.page_lexer.specs.Printing.{printed_tokens}
use Rattle.page_tool.specs.Exact.{Ends}
use Rattle.page_tool.specs.Lines.{stop_text}
use Rattle.page_tool.specs.declared.status.Status.{Status}
use Rattle.page_tool.specs.declared.status.Status.TheVariants as status
use Rattle.page_tool.specs.declared.stop.CommandStop.{CommandStop}
use Rattle.page_tool.specs.declared.stop.CommandStop.TheVariants as stop

-- the most bytes that a page may have
abbrev pub max_page_length : ℕ
max_page_length = 16777216

abbrev pub IsPageWithin : List ℕ → Type 0
IsPageWithin page = length page ≤ max_page_length

abbrev pub IsPageTooLong : List ℕ → Type 0
IsPageTooLong page = max_page_length < length page

-- the tokens of a page, as they are printed
abbrev pub tokens_text : List ℕ → List ℕ
tokens_text page = printed_tokens page (tokens_of page)

-- how reading a page answers, where the input tells its bytes
abbrev pub IsPageRefusedFor : Option (List ℕ) → DataRefused → Type 0
IsPageRefusedFor left (TooLong len) = IfSome left IsPageTooLong
IsPageRefusedFor left _ = ⊥

abbrev pub ReadInputAnswers : Option (List ℕ) → Result (List ℕ) CommandStop → Type 0
ReadInputAnswers left (Ok page) = IfSome left (λ all. IsPageWithin all × (page ≡ all))
ReadInputAnswers left (Err (stop.Data why)) = IsPageRefusedFor left why
ReadInputAnswers left (Err stop.Read) = ⊤
ReadInputAnswers left (Err stop.Memory) = ⊤
ReadInputAnswers left (Err _) = ⊥

-- how printing its tokens answers
abbrev pub TokensTextAnswers : Option (List ℕ) → Result (List ℕ) CommandStop → Type 0
TokensTextAnswers left (Ok text) = IfSome left (λ page. IsPageWithin page × (text ≡ tokens_text page))
TokensTextAnswers left (Err (stop.Data why)) = IsPageRefusedFor left why
TokensTextAnswers left (Err stop.Read) = ⊤
TokensTextAnswers left (Err stop.Memory) = ⊤
TokensTextAnswers left (Err _) = ⊥

-- all of the tokens were written
abbrev pub WritesTokens : Option (List ℕ) → Option (List ℕ) → Option (List ℕ) → Type 0
WritesTokens left old new =
    IfSome left (λ page. IsPageWithin page × Appends old new (tokens_text page))

-- a prefix of them was written
abbrev pub WritesTokensPart : Option (List ℕ) → Option (List ℕ) → Option (List ℕ) → Type 0
WritesTokensPart left old new =
    IfSome left (λ page. IsPageWithin page × AppendsPart old new (tokens_text page))

-- how writing them ends
abbrev pub ListTokensAnswers : Option (List ℕ) → Option (List ℕ) → Option (List ℕ) → Result ⊤ CommandStop → Type 0
ListTokensAnswers left old new (Ok _) = WritesTokens left old new
ListTokensAnswers left old new (Err stop.Write) = WritesTokensPart left old new
ListTokensAnswers left old new (Err (stop.Data why)) = (new ≡ old) × IsPageRefusedFor left why
ListTokensAnswers left old new (Err stop.Read) = new ≡ old
ListTokensAnswers left old new (Err stop.Memory) = new ≡ old
ListTokensAnswers left old new (Err _) = ⊥

-- what the output has got at each status
abbrev pub TokensOutput : Option (List ℕ) → Option (List ℕ) → Option (List ℕ) → Status → Type 0
TokensOutput left old new status.Ok = WritesTokens left old new
TokensOutput left old new status.WriteFault = WritesTokensPart left old new
TokensOutput left old new _ = new ≡ old

-- why the command ends in each status
abbrev pub TokensCause : Option (List ℕ) → Status → Type 0
TokensCause left status.Ok = IfSome left IsPageWithin
TokensCause left status.WriteFault = IfSome left IsPageWithin
TokensCause left status.DataRefused = IfSome left IsPageTooLong
TokensCause left status.ReadFault = ⊤
TokensCause left status.Memory = ⊤
TokensCause left _ = ⊥

-- which causes lead to which status, where the input or the output failed in this call: a page that is too long, and else all of its
-- tokens; and a read fault is the input's
pub record TokensExact (left : Option (List ℕ)) (input_rose out_rose : Type 0) (s : Status) : Type 0 where
  pub too_long : IfSome left (λ page. IsPageTooLong page → Ends status.DataRefused input_rose s)
  pub complete : IfSome left (λ page.
      IsPageWithin page → Ends status.Ok input_rose s ⊎ ((s ≡ status.WriteFault) × out_rose))
  pub read : s ≡ status.ReadFault → input_rose

-- the lines for people at each status
abbrev pub TokensLines : Status → List ℕ → Type 0
TokensLines status.Ok text = text ≡ []
TokensLines status.DataRefused text = text ≡ codes "data TooLong" ++ 10 ∷ []
TokensLines status.ReadFault text = text ≡ stop_text stop.Read []
TokensLines status.WriteFault text = text ≡ stop_text stop.Write []
TokensLines status.Memory text = text ≡ stop_text stop.Memory []
TokensLines _ text = ⊥
