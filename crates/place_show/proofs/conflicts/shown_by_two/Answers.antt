use Rattle.std.proofs.Common.{◌≡◌, subst}
use Rattle.place_core.proofs.Semilattices.{of_some}
use Rattle.place_trace.specs.Replays.{IsPathReplay}
use Rattle.place_show.proofs.Mapped.{if-shown}
use Rattle.place_show.specs.Showings.{Shows}
use Rattle.place_show.specs.declared.showing.Showing.{Showing}
use Rattle.tpl_tree.specs.Forests.{ForestData}
use Rattle.place_show.proofs.conflicts.shown_by_two.Goals as goal

pub returns-in-Some-Some : goal.returns-in-Some-Some
returns-in-Some-Some c =
    let forest = c.args.forest.now in let flows = c.args.flows.now in
    let w = c.in-Some-Some.replay in let v = c.in-Some-Some.other in
    let iw = of_some (IsPathReplay flows) c.in_ok-one.one w c.in_ok-one.ensures c.in-Some-Some.is-0 in
    let iv = of_some (IsPathReplay flows) c.in_ok-other.other v c.in_ok-other.ensures c.in-Some-Some.is-1 in
    if-shown (λ (sh : Showing). IsPathReplay forest w → IsPathReplay forest v → Shows forest sh) (λ (sh : Showing). flows ≡ forest → Shows forest sh) c.error_of_two.result
    (λ sh f same. f (subst (λ (x : ForestData). IsPathReplay x w) same iw) (subst (λ (x : ForestData). IsPathReplay x v) same iv)) c.error_of_two.ensures
