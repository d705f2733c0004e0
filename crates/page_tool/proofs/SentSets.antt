-- A set of pages may be handed to threads, and shared by them: by its parts, from the pipes of its templates up.
use denote.Param.Send.{IsSend, IsSync, plain_send, plain_sync, recorded_send, recorded_sync, sendable, struct_send, struct_sync, view_send, view_sync}
use denote.Struct.Declared.{shape}
use Rattle.page_check.specs.contracts.checked.Checked.TheInside as in_checked
use Rattle.page_check.specs.contracts.checked.Checked as checked
use Rattle.page_datum.proofs.files.Files.TheSendSync as files
use Rattle.page_io.proofs.list.List.TheSendSync as list
use Rattle.page_io.proofs.text.Text.TheSendSync as text
use Rattle.page_set.specs.contracts.set.PageSet as set
use Rattle.page_set.specs.contracts.set.PageSet.TheInside as in_set
use Rattle.page_writer.proofs.output.Output.TheSendSync as output
use Rattle.place_infer.proofs.chart.Chart.TheSendSync as chart
use Rattle.std.proofs.Crossing as crossing
use Rattle.std.proofs.alloc.Global.TheSendSync as global
use Rattle.std.proofs.boxed.Box.TheSendSync as box
use Rattle.std.proofs.option.Option.TheSendSync as option
use Rattle.std.proofs.vec.Vec.TheSendSync as vec
use Rattle.tpl_tree.proofs.Func.TheSendSync as func
use Rattle.tpl_tree.proofs.boxed.Boxed.TheSendSync as boxed
use Rattle.tpl_tree.proofs.kept_seams.KeptSeams.TheSendSync as seams
use Rattle.tpl_tree.proofs.pipe.Commands.TheLaws.TheKnot as knot
use Rattle.tpl_tree.specs.contracts.entry.Entry as entry
use Rattle.tpl_tree.specs.contracts.forest.Forest as forest
use Rattle.tpl_tree.specs.contracts.forest.Forest.TheInside as in_forest
use Rattle.tpl_tree.specs.contracts.node_kind.NodeKind as kind
use Rattle.tpl_tree.specs.contracts.tree.Tree as tree
use Rattle.tpl_tree.specs.contracts.tree.Tree.TheInside as in_tree

kind_send : IsSend (kind.the_field).row
kind_send = search (text.the_send, func.the_send, boxed.the_send, option.the_send, option.the_field_send, list.the_send, crossing.crosses, knot.crosses, sendable) depth 60 fits 20000

entry_send : IsSend entry.the_row
entry_send = recorded_send (entry.the_field).row _ _ (entry.the_type).to_one (struct_send (shape entry.the_type)
    (plain_send _ _ _ _ _, (plain_send _ _ _ _ _, (plain_send _ _ _ _ _, (plain_send _ _ _ _ _, (kind_send, (seams.the_send, tt)))))))

tree_send : IsSend tree.the_row
tree_send = view_send in_tree.the_row _ _ _ _ (recorded_send (in_tree.the_field).row _ _ (in_tree.the_type).to_one (struct_send (shape in_tree.the_type)
    (search (entry_send, vec.the_send, global.the_send, crossing.crosses), (plain_send _ _ _ _ _, tt))))

forest_send : IsSend forest.the_row
forest_send = view_send in_forest.the_row _ _ _ _ (recorded_send (in_forest.the_field).row _ _ (in_forest.the_type).to_one
    (struct_send (shape in_forest.the_type) (search (tree_send, text.the_send, vec.the_send, global.the_send, crossing.crosses, sendable) depth 30 fits 20000, tt)))

checked_send : IsSend checked.the_row
checked_send = view_send in_checked.the_row _ _ _ _ (recorded_send (in_checked.the_field).row _ _ (in_checked.the_type).to_one
    (struct_send (shape in_checked.the_type) (files.the_field_send, (forest_send, (chart.the_send, tt)))))

pub set_send : IsSend set.the_row
set_send = view_send in_set.the_row _ _ _ _ (recorded_send (in_set.the_field).row _ _ (in_set.the_type).to_one (struct_send (shape in_set.the_type)
    (checked_send, (search (output.the_send, output.the_field_send, vec.the_send, global.the_send, crossing.crosses, sendable) depth 30 fits 20000, tt))))

kind_sync : IsSync (kind.the_field).row
kind_sync = search (text.the_sync, func.the_sync, boxed.the_sync, option.the_sync, option.the_field_sync, list.the_sync, crossing.crosses, knot.crosses, sendable) depth 60 fits 20000

entry_sync : IsSync entry.the_row
entry_sync = recorded_sync (entry.the_field).row _ _ (entry.the_type).to_one (struct_sync (shape entry.the_type)
    (plain_sync _ _ _ _ _, (plain_sync _ _ _ _ _, (plain_sync _ _ _ _ _, (plain_sync _ _ _ _ _, (kind_sync, (seams.the_sync, tt)))))))

tree_sync : IsSync tree.the_row
tree_sync = view_sync in_tree.the_row _ _ _ _ (recorded_sync (in_tree.the_field).row _ _ (in_tree.the_type).to_one (struct_sync (shape in_tree.the_type)
    (search (entry_sync, vec.the_sync, global.the_sync, crossing.crosses), (plain_sync _ _ _ _ _, tt))))

forest_sync : IsSync forest.the_row
forest_sync = view_sync in_forest.the_row _ _ _ _ (recorded_sync (in_forest.the_field).row _ _ (in_forest.the_type).to_one
    (struct_sync (shape in_forest.the_type) (search (tree_sync, text.the_sync, vec.the_sync, global.the_sync, crossing.crosses, sendable) depth 30 fits 20000, tt)))

checked_sync : IsSync checked.the_row
checked_sync = view_sync in_checked.the_row _ _ _ _ (recorded_sync (in_checked.the_field).row _ _ (in_checked.the_type).to_one
    (struct_sync (shape in_checked.the_type) (files.the_field_sync, (forest_sync, (chart.the_sync, tt)))))

pub set_sync : IsSync set.the_row
set_sync = view_sync in_set.the_row _ _ _ _ (recorded_sync (in_set.the_field).row _ _ (in_set.the_type).to_one (struct_sync (shape in_set.the_type)
    (checked_sync, (search (output.the_sync, output.the_field_sync, vec.the_sync, global.the_sync, crossing.crosses, sendable) depth 30 fits 20000, tt))))
