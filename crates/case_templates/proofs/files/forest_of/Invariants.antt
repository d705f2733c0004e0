use Rattle.std.specs.Prelude.{All}
use Rattle.case_templates.specs.ParsedFiles.{IsParsedFile}
use Rattle.case_templates.proofs.files.forest_of.Given as goal

abbrev pub invariant-loop-file : goal.invariant-loop-file
invariant-loop-file l = All IsParsedFile l.list
