-- A worker at a door, as contracts see it.
use Rattle.std.specs.Prelude.{ℕ, refl}
use Rattle.std.specs.Coded.{Coded, code_by, coded×, coded_ℕ}
use Rattle.set_publisher.specs.Values.{Watched, watched_code}

-- its door, what its viewer has seen, its clerk, and the most links that it serves
pub record DoorWorker (V D C : Type 0) : Type 0 where
  pub door : D
  pub viewer : Watched V
  pub clerk : C
  pub links : ℕ

module _ {V D C : Type 0} (set : Coded V) (door : Coded D) (clerk : Coded C) where
  abbrev pub door_worker_code : Coded (DoorWorker V D C)
  door_worker_code =
      code_by (D × (Watched V × (C × ℕ)))
      (coded× door (coded× (watched_code set) (coded× clerk coded_ℕ)))
      (λ w. (w.door, (w.viewer, (w.clerk, w.links))))
      (λ t. record { door = t.0; viewer = t.1.0; clerk = t.1.1.0; links = t.1.1.1 })
      (λ _. refl)
