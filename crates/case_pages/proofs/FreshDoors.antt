-- Doors of which none has failed or got a link back.
use Rattle.std.specs.Prelude.{Some}
use Rattle.page_net.specs.Doors.{IsFreshDoor}
use Rattle.page_net.specs.Loans.{door_told}
use Rattle.page_net.specs.declared.mem_door.MemDoor.{MemDoor}
use Rattle.page_net.specs.declared.mem_link.MemLink.{MemLink}

abbrev pub IsFresh : MemDoor MemLink → Type 0
IsFresh d = IsFreshDoor d.calls.faults (Some (door_told d.links))
