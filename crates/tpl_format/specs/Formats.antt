-- The text that a format makes of operands, by computing (Go's package `fmt`, "Printing", in a profile). `Grammar` says what a
-- format is, and the law of `Laws` that both are the same.
use Rattle.std.specs.Prelude.{ℕ, ◌==◌, if◌then◌else◌, List, [], ◌∷◌, ◌++◌, Option, Some, None, option_map}
use Rattle.page_datum.specs.Data.{Data, text}
use Rattle.tpl_format.specs.Operands.{operand_text}
use Rattle.tpl_format.specs.Verbs.{bare, read_flag}
use Rattle.tpl_format.specs.declared.verb.Verb.{Verb}
use Rattle.tpl_format.specs.declared.verb.VerbState.{VerbState}
use Rattle.tpl_format.specs.declared.verb.VerbState.TheVariants.{More, Percent, Takes, Bad}

-- A format is read byte by byte, outside of a verb or within one. A byte writes some text, leads on to a place, and leaves some
-- operands.
abbrev pub FormatState : Type 0
FormatState = Option Verb

pub record FormatStep : Type 0 where
  pub written : List ℕ
  pub place : FormatState
  pub left : List Data

-- a byte within a verb: the letter takes the next operand, and none may be missing
abbrev pub verb_step : Verb → VerbState → List Data → Option FormatStep
verb_step verb (More longer) left = Some (record { written = []; place = Some longer; left = left })
verb_step verb Percent left = Some (record { written = 37 ∷ []; place = None; left = left })
verb_step verb (Takes conversion) [] = None
verb_step verb (Takes conversion) (datum ∷ left) = option_map (λ text. record { written = text; place = None; left = left }) (operand_text verb conversion datum)
verb_step verb Bad left = None

-- outside of verbs each byte stands for itself, but `%` begins a verb
abbrev pub format_step : FormatState → ℕ → List Data → Option FormatStep
format_step None b left = Some (if b == 37 then record { written = []; place = Some bare; left = left } else record { written = b ∷ []; place = None; left = left })
format_step (Some verb) b left = verb_step verb (read_flag verb b) left

-- a format ends outside of verbs, and leaves no operand
abbrev pub format_ended : FormatState → List Data → Option (List ℕ)
format_ended None [] = Some []
format_ended place left = None

-- what a step writes, and then what is made after it
abbrev pub format_followed : (FormatState → List Data → Option (List ℕ)) → Option FormatStep → Option (List ℕ)
format_followed behind None = None
format_followed behind (Some s) = option_map (λ more. s.written ++ more) (behind s.place s.left)

abbrev pub formatted_from : List ℕ → FormatState → List Data → Option (List ℕ)
formatted_from [] place left = format_ended place left
formatted_from (b ∷ bytes) place left = format_followed (formatted_from bytes) (format_step place b left)

-- the text that a format makes of operands, and nothing where they do not fit
abbrev pub formatted : List ℕ → List Data → Option (List ℕ)
formatted format operands = formatted_from format None operands

-- the same of the arguments of `printf`, of which the first is the format
abbrev pub formatted_args : List Data → Option (List ℕ)
formatted_args (text format ∷ operands) = formatted format operands
formatted_args args = None
