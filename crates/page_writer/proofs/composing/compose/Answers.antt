use Rattle.page_datum.specs.View.{view}
use Rattle.page_writer.proofs.RootPairs.{begins, has_start}
use Rattle.page_writer.proofs.WholePages.{broken_off, composed, may_write}
use Rattle.page_writer.proofs.composing.compose.Goals as goal

pub unreachable-requires : goal.unreachable-requires
unreachable-requires c =
    has_start c.args.forest.now c.args.chart.now c.args.root c.requires.root c.requires.set c.start.result c.start.ensures c.in-None.is

pub execute-requires-clause-may : goal.execute-requires-clause-may
execute-requires-clause-may c =
    let forest = c.args.forest.now in let chart = c.args.chart.now in
    may_write forest chart _ _ c.in_ok-writer.writer
    (begins forest chart c.args.root c.requires.root c.requires.set c.args.outputs.now c.start.result c.in-Some.pair c.in_ok-writer.writer
    c.requires.outputs c.start.ensures c.in-Some.is c.in_ok-writer.ensures) (view c.args.datum.now)

pub returns-in-Ok : goal.returns-in-Ok
returns-in-Ok c =
    let forest = c.args.forest.now in let chart = c.args.chart.now in
    composed forest chart _ _ c.in_ok-writer.writer
    (begins forest chart c.args.root c.requires.root c.requires.set c.args.outputs.now c.start.result c.in-Some.pair c.in_ok-writer.writer
    c.requires.outputs c.start.ensures c.in-Some.is c.in_ok-writer.ensures) (view c.args.datum.now)
    c.pages_are_sound.ensures c.execute.new.sink (record { page = c.into_page.result; steps = c.in-Ok.steps }) c.into_page.ensures c.in-Ok.ensures

pub returns-in-Err : goal.returns-in-Err
returns-in-Err c =
    let forest = c.args.forest.now in let chart = c.args.chart.now in
    broken_off forest chart _ _ c.in_ok-writer.writer
    (begins forest chart c.args.root c.requires.root c.requires.set c.args.outputs.now c.start.result c.in-Some.pair c.in_ok-writer.writer
    c.requires.outputs c.start.ensures c.in-Some.is c.in_ok-writer.ensures) (view c.args.datum.now)
    c.execute.new.sink c.in-Err.stop c.in-Err.ensures
