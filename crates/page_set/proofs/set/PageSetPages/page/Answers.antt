use Rattle.std.proofs.Common.{Ok, Err, length, refl, ap, subst, arith}
use Rattle.std.specs.Io.KnownBytes.{Appends}
use Rattle.page_check.specs.CheckedSets.{CheckedData, IsChecked}
use Rattle.page_datum.specs.View.{view}
use Rattle.page_io.specs.Whole.{AppendsPart}
use Rattle.page_set.proofs.SetPages.{finishes, meant, part, sound, unmade, unwritten, whole}
use Rattle.page_set.specs.RootPages.{RootPageAnswers}
use Rattle.page_set.proofs.set.PageSetPages.page.Goals as goal

pub returns-in-Err-clause-answers : goal.returns-in-Err-clause-answers
returns-in-Err-clause-answers g c =
    let root = c.args.root.now in let datum = view c.args.datum.now in
    unwritten c.args.self.now root datum c.in-Err.stop (g.K.Sink.taken c.args.out.now)
    (subst (λ (s : CheckedData). RootPageAnswers s root datum (Err c.in-Err.stop)) c.self.view_is c.in-Err.ensures.answers)

pub returns-in-Err-clause-meant : goal.returns-in-Err-clause-meant
returns-in-Err-clause-meant g c = meant c.args.self.now c.args.root.now (view c.args.datum.now) (subst IsChecked c.self.view_is c.root_page.ensures.checked)

pub returns-in-Ok-write_all-clause-answers : goal.returns-in-Ok-write_all-clause-answers
returns-in-Ok-write_all-clause-answers g c =
    let root = c.args.root.now in let datum = view c.args.datum.now in
    whole c.args.self.now root datum c.in-Ok.made (g.K.Sink.taken c.args.out.now) (g.K.Sink.taken c.write_all.new.sink) _
    (subst (λ (s : CheckedData). RootPageAnswers s root datum (Ok c.in-Ok.made)) c.self.view_is c.in-Ok.ensures.answers)
    (subst (Appends (g.K.Sink.taken c.args.out.now) (g.K.Sink.taken c.write_all.new.sink)) c.as_bytes.ensures.value c.in-Ok-write_all.ensures.all)
    (omega (arith, c.len.ensures, c.as_bytes.ensures.len, ap length c.as_bytes.ensures.value)) refl

pub returns-in-Ok-write_all-clause-meant : goal.returns-in-Ok-write_all-clause-meant
returns-in-Ok-write_all-clause-meant g c = meant c.args.self.now c.args.root.now (view c.args.datum.now) (subst IsChecked c.self.view_is c.root_page.ensures.checked)

pub returns-in-Ok-write_all-clause-sound : goal.returns-in-Ok-write_all-clause-sound
returns-in-Ok-write_all-clause-sound g c =
    let root = c.args.root.now in let datum = view c.args.datum.now in
    sound c.args.self.now root datum c.in-Ok.made (subst IsChecked c.self.view_is c.root_page.ensures.checked)
    (subst (λ (s : CheckedData). RootPageAnswers s root datum (Ok c.in-Ok.made)) c.self.view_is c.in-Ok.ensures.answers)

pub returns-clause-answers : goal.returns-clause-answers
returns-clause-answers g c =
    let root = c.args.root.now in let datum = view c.args.datum.now in
    part c.args.self.now root datum c.in-Ok.made (g.K.Sink.taken c.args.out.now) (g.K.Sink.taken c.write_all.new.sink)
    (subst (λ (s : CheckedData). RootPageAnswers s root datum (Ok c.in-Ok.made)) c.self.view_is c.in-Ok.ensures.answers)
    (subst (AppendsPart (g.K.Sink.taken c.args.out.now) (g.K.Sink.taken c.write_all.new.sink)) c.as_bytes.ensures.value c.write_all.ensures.part)

pub returns-clause-meant : goal.returns-clause-meant
returns-clause-meant g c = meant c.args.self.now c.args.root.now (view c.args.datum.now) (subst IsChecked c.self.view_is c.root_page.ensures.checked)

pub returns-clause-gathered : goal.returns-clause-gathered
returns-clause-gathered g c =
    let root = c.args.root.now in let datum = view c.args.datum.now in
    finishes c.args.self.now root datum c.in-Ok.made
    (subst (λ (s : CheckedData). RootPageAnswers s root datum (Ok c.in-Ok.made)) c.self.view_is c.in-Ok.ensures.answers)

pub returns-in-Err-clause-gathered : goal.returns-in-Err-clause-gathered
returns-in-Err-clause-gathered g c =
    unmade c.self.inside.checked c.args.root.now (view c.args.datum.now) c.in-Err.stop _ _ c.in-Err.ensures.answers
