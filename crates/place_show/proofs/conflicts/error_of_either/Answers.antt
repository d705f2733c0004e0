use Rattle.std.proofs.Common.{inl}
use Rattle.place_trace.specs.Replays.{IsPathReplay}
use Rattle.place_show.proofs.Mapped.{if-shown}
use Rattle.place_show.specs.Showings.{Shows, ShowsOne}
use Rattle.place_show.specs.declared.showing.Showing.{Showing}
use Rattle.place_show.proofs.conflicts.error_of_either.Goals as goal

pub returns : goal.returns
returns c =
    let forest = c.args.forest.now in let w = c.args.replay.now in let v = c.args.other.now in
    if-shown (λ (sh : Showing). IsPathReplay forest v → ShowsOne forest sh) (λ (sh : Showing). IsPathReplay forest w → IsPathReplay forest v → Shows forest sh) c.node_error-2.result
    (λ sh f i j. inl (f j)) c.node_error-2.ensures
