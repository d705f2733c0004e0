use Rattle.std.proofs.Common.{sym, subst}
use Rattle.std.proofs.lemmas.List.Elements.{All-push}
use Rattle.std.specs.Prelude.{All}
use Rattle.case_templates.specs.ParsedFiles.{IsParsedFile}
use Rattle.case_templates.proofs.files.forest_of.Goals as goal

pub loop-file-preserved : goal.loop-file-preserved
loop-file-preserved c =
    subst (All IsParsedFile) (sym c.in_ok-push-in-Some.ensures.ok) (All-push IsParsedFile c.loop-file.list c.in-Some.file c.loop-file.invariant (rw c.in-Some.is at c.in_ok-file.ensures))
