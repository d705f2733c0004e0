-- The lines of a refusal, each ended by a line feed.
use Rattle.std.specs.Prelude.{ℕ, codes, List, [], ◌∷◌, ◌++◌, Bool, true, false}
use Rattle.std.specs.Fmt.{decimal}
use Rattle.page_check.specs.CauseNames.{code_name, parse_name}
use Rattle.tpl_token.specs.Names.{token_refusal_name}
use Rattle.page_check.specs.PathLines.{seen_lines}
use Rattle.page_check.specs.declared.refused.MakeRefused.{MakeRefused}
use Rattle.page_check.specs.declared.refused.MakeRefused.TheVariants.{TooLarge, NotUtf8, File, TooManyTemplates, NoTemplates, Set, Memory}
use Rattle.page_datum.specs.Legible.{legible}
use Rattle.place_infer.specs.declared.set_refused.SetRefused.{SetRefused}
use Rattle.place_infer.specs.declared.set_refused.SetRefused.TheVariants as set
use Rattle.place_show.specs.declared.showing.Showing.{Showing}
use Rattle.tpl_parse.specs.declared.refused.FileRefused.{FileRefused}
use Rattle.tpl_parse.specs.declared.refused.FileRefused.TheVariants as file

-- a cause and a file: `refused CAUSE FILE`
abbrev pub file_line : List ℕ → List ℕ → List ℕ
file_line cause name = codes "refused " ++ (cause ++ 32 ∷ (legible name ++ 10 ∷ []))

-- a cause, with the file and the line where it is: `refused CAUSE NAME:LINE`
abbrev pub cause_line : List ℕ → List ℕ → ℕ → List ℕ
cause_line cause name line = codes "refused " ++ (cause ++ 32 ∷ (legible name ++ 58 ∷ (decimal line ++ 10 ∷ [])))

-- why a file is refused
abbrev pub file_text : List ℕ → FileRefused → List ℕ
file_text name (file.Token why line) = cause_line (token_refusal_name why) name line
file_text name (file.Parse why line) = cause_line (parse_name why) name line
file_text name file.Memory = []

-- an error, and the paths that have it
abbrev pub showing_text : Showing → List ℕ
showing_text sh = cause_line (code_name sh.code) sh.template sh.line ++ seen_lines sh.paths

-- why a set has no chart
abbrev pub refused_set_text : SetRefused → List ℕ
refused_set_text (set.Shows sh) = showing_text sh
refused_set_text set.TooManyDerived = codes "refused TooManyDerived" ++ 10 ∷ []
refused_set_text set.Memory = []

-- why files are refused; out of memory has no line here
abbrev pub refusal_text : MakeRefused → List ℕ
refusal_text (TooLarge name) = file_line (codes "TooLarge") name
refusal_text (NotUtf8 name) = file_line (codes "NotUtf8") name
refusal_text (File name why) = file_text name why
refusal_text TooManyTemplates = codes "refused TooManyTemplates" ++ 10 ∷ []
refusal_text NoTemplates = codes "refused NoTemplates" ++ 10 ∷ []
refusal_text (Set why) = refused_set_text why
refusal_text Memory = []

-- whether a refusal is out of memory
abbrev pub is_memory : MakeRefused → Bool
is_memory (TooLarge name) = false
is_memory (NotUtf8 name) = false
is_memory (File name why) = false
is_memory TooManyTemplates = false
is_memory NoTemplates = false
is_memory (Set why) = false
is_memory Memory = true
