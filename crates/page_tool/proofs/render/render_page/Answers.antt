use Rattle.std.proofs.Common.{sym}
use Rattle.page_datum.specs.View.{view}
use Rattle.page_set.specs.Executions.{execution_of}
use Rattle.page_tool.proofs.Pages.{kept, output, sound_output, written_cause}
use Rattle.page_tool.proofs.render.render_page.Goals as goal

pub returns-clause-output : goal.returns-clause-output
returns-clause-output g c =
    let e = execution_of c.in-Ok-of.set.files.list c.in-Ok-of.set.forest c.args.root.now (view c.in-Ok-read_data.datum) in
    output _ _ _ _ c.in-Ok-of.set (view c.in-Ok-read_data.datum) e _ _ _ (kept _ _ _ _ c.in-Ok-of.ensures c.in-Ok.ensures.set)
    c.in-Ok-read_data.ensures.data c.write_page.ensures.meant c.write_page.ensures.page

pub returns-clause-sound : goal.returns-clause-sound
returns-clause-sound g c =
    let e = execution_of c.in-Ok-of.set.files.list c.in-Ok-of.set.forest c.args.root.now (view c.in-Ok-read_data.datum) in
    sound_output _ _ _ _ c.in-Ok-of.set (view c.in-Ok-read_data.datum) e _ _ _ (kept _ _ _ _ c.in-Ok-of.ensures c.in-Ok.ensures.set)
    c.in-Ok-read_data.ensures.data c.write_page.ensures.sound c.write_page.ensures.page

pub returns-clause-cause : goal.returns-clause-cause
returns-clause-cause g c =
    let e = execution_of c.in-Ok-of.set.files.list c.in-Ok-of.set.forest c.args.root.now (view c.in-Ok-read_data.datum) in
    written_cause _ _ _ _ c.in-Ok-of.set (view c.in-Ok-read_data.datum) e _ _ _ (kept _ _ _ _ c.in-Ok-of.ensures c.in-Ok.ensures.set)
    (sym c.if-not-is_root.ensures) c.in-Ok-read_data.ensures.data c.write_page.ensures.meant c.write_page.ensures.page
