use Rattle.std.proofs.Common.{◌≡◌, refl, subst}
use Rattle.place_core.proofs.Semilattices.{of_some}
use Rattle.place_show.proofs.Makings.{meets}
use Rattle.place_show.proofs.Mapped.{if-shown}
use Rattle.place_show.specs.Showings.{ShowsTwo}
use Rattle.place_show.specs.Together.{GoOnTogether, ShowsMet}
use Rattle.place_show.specs.declared.showing.Showing.{Showing}
use Rattle.place_trace.specs.Replays.{IsPathReplay}
use Rattle.tpl_tree.specs.Forests.{ForestData}
use Rattle.place_show.proofs.met_apart.where_met.Goals as goal

pub returns-in-Some : goal.returns-in-Some
returns-in-Some c =
    let forest = c.args.forest.now in
    let flows = c.args.flows.now in
    let w = c.args.one in
    let v = c.args.other in
    let w1 = c.go_together.new.one in
    let v1 = c.go_together.new.other in
    let last = c.in-Some.last in
    let stands = c.if-not-stands_with.ensures in
    let meet = meets w v (stands.root refl) (stands.template refl) (stands.point refl) (stands.open_calls refl) in
    let together = of_some (GoOnTogether flows w v w1 v1) c.in_ok-last.field-0 last c.in_ok-last.ensures c.in-Some.is in
    if-shown (ShowsMet forest w1 v1 last) (λ (sh : Showing). flows ≡ forest → IsPathReplay forest w → IsPathReplay forest v → ShowsTwo forest sh) c.refused_on_both.result
    (λ sh f same i j. f w v i j meet (subst (λ (x : ForestData). GoOnTogether x w v w1 v1 last) same together)) c.refused_on_both.ensures
