use Rattle.std.proofs.Common.{Some}
use Rattle.page_net.specs.Doors.{IsFreshDoor}
use Rattle.page_net.specs.Loans.{door_told}
use Rattle.page_net.proofs.Firsts.{first_has}
use Rattle.page_net.proofs.mem_net.MemNetNet.door.Goals as goal

pub returns-in-Some-clause-fresh : goal.returns-in-Some-clause-fresh
returns-in-Some-clause-fresh g c =
    first_has (λ d. IsFreshDoor d.calls.faults (Some (door_told d.links))) c.args.self.now.doors.coming _ c.in-Some.door c.in-Some.ensures.0 c.args.self.now.fresh
