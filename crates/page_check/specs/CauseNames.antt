-- The names of causes, as they are printed.
use Rattle.std.specs.Prelude.{ℕ, codes, List, []}
use Rattle.place_core.specs.declared.code.Code.{Code}
use Rattle.place_core.specs.declared.code.Code.TheVariants as code
use Rattle.tpl_pipe.specs.declared.refused.ParseRefused.{ParseRefused}
use Rattle.tpl_pipe.specs.declared.refused.ParseRefused.TheVariants as parse

-- why tokens are no templates
abbrev pub parse_name : ParseRefused → List ℕ
parse_name parse.UnexpectedToken = codes "UnexpectedToken"
parse_name parse.UnexpectedEnd = codes "UnexpectedEnd"
parse_name parse.UnclosedBlock = codes "UnclosedBlock"
parse_name parse.ElseTwice = codes "ElseTwice"
parse_name parse.UndefinedVariable = codes "UndefinedVariable"
parse_name parse.UnknownFunction = codes "UnknownFunction"
parse_name parse.BreakOutside = codes "BreakOutside"
parse_name parse.DefineNested = codes "DefineNested"
parse_name parse.MultipleDefinition = codes "MultipleDefinition"
parse_name parse.EmptyPipeline = codes "EmptyPipeline"
parse_name parse.TooNested = codes "TooNested"

-- the error of a path
abbrev pub code_name : Code → List ℕ
code_name code.AmbigContext = codes "AmbigContext"
code_name code.BadHTML = codes "BadHTML"
code_name code.BranchEnd = codes "BranchEnd"
code_name code.EndContext = codes "EndContext"
code_name code.NoSuchTemplate = codes "NoSuchTemplate"
code_name code.PartialCharset = codes "PartialCharset"
code_name code.PartialEscape = codes "PartialEscape"
code_name code.RangeLoopReentry = codes "RangeLoopReentry"
code_name code.SlashAmbig = codes "SlashAmbig"
code_name code.PredefinedEscaper = codes "PredefinedEscaper"
code_name code.JSTemplate = codes "JSTemplate"
code_name code.SplitToken = codes "SplitToken"
code_name code.BadString = codes "BadString"
code_name code.HtmlInScript = codes "HtmlInScript"
