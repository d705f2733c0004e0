-- Where in a file reading is.
use Rattle.tpl_parse.specs.Phases.{Phase}
use Rattle.tpl_build.specs.declared.builder.Builder.{Builder}

-- What was read, and where in the file that is: outside actions, or in one.
pub record ParserState : Type 0 where
  pub builder : Builder
  pub phase : Phase
