use Rattle.std.proofs.Common.{sym}
use Rattle.page_check.proofs.RootStarts.{root_found, starts}
use Rattle.page_check.specs.CheckedSets.{CheckedData}
use Rattle.page_check.proofs.checked.Checked.start.Goals as goal

pub returns-in-Some : goal.returns-in-Some
returns-in-Some c =
    let inside : CheckedData = record { files = c.self.inside.files; forest = c.self.inside.forest; chart = c.self.inside.chart } in
    starts inside c.args.self.now c.args.root.now c.in-Some.template c.start_of.result c.self.view_is c.self.invariant (sym c.if-not-is_root.ensures) c.in-Some.ensures.number c.start_of.ensures

pub returns-in-None : goal.returns-in-None
returns-in-None c =
    let inside : CheckedData = record { files = c.self.inside.files; forest = c.self.inside.forest; chart = c.self.inside.chart } in
    absurd (root_found inside c.args.self.now c.args.root.now c.self.view_is c.self.invariant (sym c.if-not-is_root.ensures) c.in-None.ensures.number)
