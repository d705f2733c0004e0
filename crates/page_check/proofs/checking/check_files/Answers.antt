use Rattle.std.proofs.Common.{sym, subst}
use Rattle.page_check.proofs.NotRefused.{ends_alone, needs_cause, no_cause, only_memory}
use Rattle.page_check.specs.Refusing.{IsRefused, FilesRefuse}
use Rattle.page_datum.specs.declared.files.Files.{Files}
use Rattle.page_check.proofs.checking.check_files.Goals as goal

pub returns-in-Ok-clause-accepted : goal.returns-in-Ok-clause-accepted
returns-in-Ok-clause-accepted c = subst (λ (files : Files). FilesRefuse files.list → ⊥) c.in-Ok.ensures.made (no_cause c.in-Ok.checked c.in-Ok.ensures.checked)

pub returns-in-Err-clause-sets : goal.returns-in-Err-clause-sets
returns-in-Err-clause-sets c = λ d is same. only_memory d c.in-Err.why is (subst (λ (files : Files). IsRefused files.list c.in-Err.why) (sym same) c.in-Err.ensures.refused)

pub returns-in-Err-clause-complete : goal.returns-in-Err-clause-complete
returns-in-Err-clause-complete c = needs_cause c.args.files.list c.in-Err.why c.in-Err.ensures.refused

pub returns-in-Err-clause-ends : goal.returns-in-Err-clause-ends
returns-in-Err-clause-ends c = ends_alone c.args.files.list c.in-Err.why c.in-Err.ensures.refused
