-- Why the text of a template is refused in a style, and where.
use Rattle.std.specs.Prelude.{ℕ, Option, Some, None}

-- the codes, by their printed names
pub data RefusalCode : Type 0 where
  -- a byte means different things, by what data is written before it
  AmbigContext : RefusalCode
  -- a value may not stand there
  BadHTML : RefusalCode
  -- a node ends inside an escape, or inside a percent triple of a URL
  PartialEscape : RefusalCode
  -- text would go on with what an action has split, or a node ends in what the next one may go on with
  SplitToken : RefusalCode
  -- a string or a url that is none
  BadString : RefusalCode

-- A refusal at the end of a node. It stands that many bytes before the end (`back`); the place that is shown for it is the one before the
-- lexeme that is not finished, that many bytes before the end (`shown`). Both count bytes as the style is fed them: in an attribute with
-- references undone.
pub record StyleCutRefusal : Type 0 where
  pub code : RefusalCode
  pub back : ℕ
  pub shown : ℕ

-- at the end of the node, with a lexeme of this length before it
abbrev pub at_end : RefusalCode → ℕ → Option StyleCutRefusal
at_end code shown = Some (record { code = code; back = 0; shown = shown })

abbrev pub first_refusal : Option StyleCutRefusal → Option StyleCutRefusal → Option StyleCutRefusal
first_refusal (Some r) o = Some r
first_refusal None o = o
