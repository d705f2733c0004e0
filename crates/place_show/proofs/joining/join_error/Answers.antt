use Rattle.std.proofs.Common.{refl, sym, ◌∙◌, inl, inr}
use Rattle.place_core.specs.declared.code.Code.TheVariants as code
use Rattle.place_trace.specs.Replays.{IsPathReplay}
use Rattle.place_show.proofs.Makings.{meets}
use Rattle.place_show.proofs.Mapped.{if-shown}
use Rattle.place_show.proofs.Conflict.{none-joined, conflict-shown}
use Rattle.place_show.specs.Made.{IsMadeTwo}
use Rattle.place_show.specs.Showings.{ShowsTwo, line_of_node}
use Rattle.place_show.proofs.joining.join_error.Goals as goal

pub returns-in-Head : goal.returns-in-Head
returns-in-Head c =
    let forest = c.args.forest.now in
    let w = c.args.replay.now in
    let v = c.args.other.now in
    let n = c.in-Head.node in
    let stands = c.if-not-stands_with.ensures in
    let meet = meets w v (stands.root refl) (stands.template refl) (stands.point refl) (stands.open_calls refl) in
    let conflict = sym c.join.ensures ∙ none-joined c.join.result c.if-is_some.ensures in
    if-shown (IsMadeTwo forest w v code.RangeLoopReentry (line_of_node forest w.template n) n 0 w.place v.place) (λ sh. IsPathReplay forest w → IsPathReplay forest v → ShowsTwo forest sh) c.conflict.result
    (λ sh m. conflict-shown forest w v code.RangeLoopReentry n sh meet conflict (inl (refl, c.in-Head.is)) m) c.conflict.ensures

pub returns-in-Past : goal.returns-in-Past
returns-in-Past c =
    let forest = c.args.forest.now in
    let w = c.args.replay.now in
    let v = c.args.other.now in
    let n = c.in-Past.node in
    let stands = c.if-not-stands_with.ensures in
    let meet = meets w v (stands.root refl) (stands.template refl) (stands.point refl) (stands.open_calls refl) in
    let conflict = sym c.join.ensures ∙ none-joined c.join.result c.if-is_some.ensures in
    if-shown (IsMadeTwo forest w v code.BranchEnd (line_of_node forest w.template n) n 0 w.place v.place) (λ sh. IsPathReplay forest w → IsPathReplay forest v → ShowsTwo forest sh) c.conflict-in-Past.result
    (λ sh m. conflict-shown forest w v code.BranchEnd n sh meet conflict (inr (refl, c.in-Past.is)) m) c.conflict-in-Past.ensures
