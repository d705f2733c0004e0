use Rattle.std.proofs.Common.{arith}
use Rattle.place_core.specs.declared.code.Code.TheVariants as code
use Rattle.place_trace.specs.Replays.{IsPathReplay}
use Rattle.place_show.proofs.Elsewhere.{end-shown, none-open, not-text}
use Rattle.place_show.proofs.Mapped.{if-shown}
use Rattle.place_show.specs.Ends.{last_node_of}
use Rattle.place_show.specs.Made.{IsMadeOne}
use Rattle.place_show.specs.Showings.{ShowsOne, template_end}
use Rattle.tpl_tree.specs.Forests.{tree_at}
use Rattle.place_show.proofs.ending.end_error.Goals as goal

pub returns-in-Finish : goal.returns-in-Finish
returns-in-Finish c =
    let forest = c.args.forest.now in
    let w = c.args.replay.now in
    let none = none-open w.open_calls.items (omega (arith, c.len.ensures, c.if-len-gt0.false)) in
    if-shown (IsMadeOne forest w code.EndContext (template_end (tree_at forest w.root)) (last_node_of (tree_at forest w.root)) 0 w.place) (λ sh. IsPathReplay forest w → ShowsOne forest sh) c.ended.result
    (λ sh m. end-shown forest w sh c.if-replay.false none c.in-Finish.is (not-text w.place c.if-is_text.ensures) m) c.ended.ensures
