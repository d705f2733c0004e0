-- What the devices that only `serve` uses reveal at one moment.
use Rattle.std.specs.Prelude.{ℕ, Option}
use Rattle.page_net.specs.Nets.{NetTold}

pub record ServeDevices (D : Type 0) : Type 0 where
  -- the doors that the net gave and got back
  pub doors : Option (NetTold D)
  pub net_faults : ℕ
  pub spawner_faults : ℕ
  pub seats_faults : ℕ

abbrev pub serve_devices : {D : Type 0} → Option (NetTold D) → ℕ → ℕ → ℕ → ServeDevices D
serve_devices doors net_faults spawner_faults seats_faults = record {
  doors = doors;
  net_faults = net_faults;
  spawner_faults = spawner_faults;
  seats_faults = seats_faults;
}
