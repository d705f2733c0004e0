-- The numbers of statuses, and the status of each stop.
use Rattle.std.specs.Prelude.{ℕ}
use Rattle.page_tool.specs.declared.status.Status.{Status}
use Rattle.page_tool.specs.declared.status.Status.TheVariants as status
use Rattle.page_tool.specs.declared.stop.CommandStop.{CommandStop}
use Rattle.page_tool.specs.declared.stop.CommandStop.TheVariants as stop

abbrev pub code_of : Status → ℕ
code_of status.Ok = 0
code_of status.SetRefused = 1
code_of status.Usage = 2
code_of status.ExecFault = 3
code_of status.DataRefused = 4
code_of status.ReadFault = 5
code_of status.WriteFault = 6
code_of status.NetFault = 7
code_of status.SpawnFault = 8
code_of status.SeatFault = 9
code_of status.NoTemplate = 10
code_of status.Memory = 11

abbrev pub status_for : CommandStop → Status
status_for (stop.Set why) = status.SetRefused
status_for (stop.Fault fault) = status.ExecFault
status_for (stop.Data why) = status.DataRefused
status_for stop.Read = status.ReadFault
status_for stop.Write = status.WriteFault
status_for stop.NoTemplate = status.NoTemplate
status_for stop.Memory = status.Memory
