-- From the ends of workers to what they served, and to which doors failed.
use Rattle.std.proofs.Common.{arith, ◌≡◌, ◌⊎◌, ◌<◌, ◌≤◌, ◌||◌, ℕ, Bool, true, false, List, [], ◌∷◌, length, map, Option, None, inl, inr, refl, sym, ap, ◌∙◌, subst}
use Rattle.std.proofs.lemmas.List.{length-map}
use Rattle.page_io.specs.Causes.{Rose}
use Rattle.page_net.specs.Doors.{DoorTold}
use Rattle.page_net.specs.Nets.{NetTold}
use Rattle.page_net.specs.Tellings.{BothTold}
use Rattle.page_server.specs.Answering.{Answering}
use Rattle.page_spawn.proofs.Completing.{length-ends}
use Rattle.page_spawn.specs.Ends.{AllFulfil}
use Rattle.page_spawn.specs.Gates.{Each}
use Rattle.page_worker.specs.DoorWork.{StopsWork}
use Rattle.page_worker.specs.DoorWorkers.{DoorWorker}
use Rattle.page_worker.specs.declared.ended.Ended.{Ended}
use Rattle.set_publisher.specs.Publishing.{Seats}
use Rattle.set_publisher.specs.Values.{Published, Watched}
use Rattle.page_serve.specs.DoorMoves.{AreFreshDoors, HasFailedDoor, MovesDoors}
use Rattle.page_serve.specs.Seating.{SeatsAll}
use Rattle.page_serve.specs.SummaryLines.{has_door_fault}
use Rattle.page_serve.specs.Workers.{HasEnded, HaveServed, IsServed, WorkersEnd, doors_of_ends, doors_of_workers}
use Rattle.page_serve.proofs.DoorMoving.{all_returned}

-- what holds of each value holds still where less is asked
pub each_weaker : {X : Type 0} (P Q : X → Type 0) (xs : List X) → ((x : X) → P x → Q x) → Each P xs → Each Q xs
each_weaker P Q [] f h = tt
each_weaker P Q (x ∷ xs) f h = (f x h.0, each_weaker P Q xs f h.1)

-- viewers that were given their places have seen the desk's list
pub seen_sets : {V : Type 0} (desk : Published V) (count : ℕ) (viewers : List (Watched V)) → SeatsAll desk count viewers
    → Each (λ viewer. viewer.sets ≡ desk.sets) viewers
seen_sets desk count viewers h = each_weaker (Seats desk) (λ viewer. viewer.sets ≡ desk.sets) viewers (λ viewer seat. seat.sets) h.seated

one_of_two : (a b : Bool) → (a || b) ≡ true → (a ≡ true) ⊎ (b ≡ true)
one_of_two true b h = inl refl
one_of_two false b h = inr h

module _ {V D L : Type 0} (answers : Answering V)
    (told : D → Option (DoorTold L)) (door_faults : D → ℕ)
    (left taken : L → Option (List ℕ)) (link_faults : L → ℕ) where
  served_each : (ws : List (DoorWorker V D (Unit {0}))) (es : List (Ended D)) (sets : List V) (most : ℕ)
      → Each (λ w. w.links ≡ most) ws → AreFreshDoors door_faults told (doors_of_workers ws)
      → Each (λ viewer. viewer.sets ≡ sets) (map (λ w. w.viewer) ws)
      → AllFulfil (HasEnded answers told door_faults left taken link_faults) ws es
      → Each (IsServed answers told door_faults left taken link_faults sets most) es
  served_each [] [] sets most ls fs vs h = tt
  served_each [] (e ∷ es) sets most ls fs vs h = absurd h
  served_each (w ∷ ws) [] sets most ls fs vs h = absurd h
  served_each (w ∷ ws) (e ∷ es) sets most ls fs vs h = (
    record { worker = w; fresh = fs.0; began = vs.0; links = ls.0; ends = h.0 },
    served_each ws es sets most ls.1 fs.1 vs.1 h.1,
  )

  -- there are as many ends as doors
  pub as_many_ends : (doors : List D) (viewers : List (Watched V)) (most : ℕ) (es : List (Ended D))
      → WorkersEnd answers told door_faults left taken link_faults doors viewers most es → length es ≡ length doors
  as_many_ends doors viewers most es w =
      length-ends (HasEnded answers told door_faults left taken link_faults) w.workers es w.ended
      ∙ sym (length-map w.workers (λ v. v.door)) ∙ ap length w.are_at.doors_are

  -- workers at doors as their net gave them have served, and the doors are back
  pub have_served : (doors : List D) (viewers : List (Watched V)) (most : ℕ) (es : List (Ended D)) (sets : List V)
      (before now after : Option (NetTold D))
      → WorkersEnd answers told door_faults left taken link_faults doors viewers most es
      → AreFreshDoors door_faults told doors → Each (λ viewer. viewer.sets ≡ sets) viewers
      → BothTold before now (λ o n. MovesDoors o n (length doors) [])
      → BothTold now after (λ o n. MovesDoors o n 0 (doors_of_ends es))
      → HaveServed answers told door_faults left taken link_faults sets (length doors) most before after es
  have_served doors viewers most es sets before now after w fresh seen given back = record {
    count_is = as_many_ends doors viewers most es w;
    served = served_each w.workers es sets most w.are_at.links_are
        (subst (λ (ds : List D). AreFreshDoors door_faults told ds) (sym w.are_at.doors_are) fresh)
        (subst (λ (vs : List (Watched V)). Each (λ viewer. viewer.sets ≡ sets) vs) (sym w.are_at.viewers_are) seen) w.ended;
    back = all_returned (length doors) (doors_of_ends es) before now after given back;
  }

  fault_fails : (w : DoorWorker V D (Unit {0})) (e : Ended D) → door_faults w.door ≡ 0
      → HasEnded answers told door_faults left taken link_faults w e → e.end.door_fault ≡ true → 0 < door_faults e.door
  fault_fails w e fresh h failed =
      let rose : Rose (door_faults w.door) (door_faults h.left_off.door) =
      subst (λ (b : Bool). StopsWork answers told door_faults left taken link_faults (λ (c : Unit {0}). None) w h.left_off e.end.links b) failed h.serves.stops in
      omega (arith, fresh, rose, ap door_faults h.door_is)

  first_or_later : (e : Ended D) (es : List (Ended D)) → (e.end.door_fault ≡ true → 0 < door_faults e.door)
      → (has_door_fault es ≡ true → HasFailedDoor door_faults (doors_of_ends es))
      → (e.end.door_fault ≡ true) ⊎ (has_door_fault es ≡ true) → HasFailedDoor door_faults (doors_of_ends (e ∷ es))
  first_or_later e es f g (inl first) = inl (f first)
  first_or_later e es f g (inr later) = inr (g later)

  one_fails : (ws : List (DoorWorker V D (Unit {0}))) (es : List (Ended D)) → AreFreshDoors door_faults told (doors_of_workers ws)
      → AllFulfil (HasEnded answers told door_faults left taken link_faults) ws es → has_door_fault es ≡ true
      → HasFailedDoor door_faults (doors_of_ends es)
  one_fails [] [] fs h failed = cc failed
  one_fails [] (e ∷ es) fs h failed = absurd h
  one_fails (w ∷ ws) [] fs h failed = absurd h
  one_fails (w ∷ ws) (e ∷ es) fs h failed =
      first_or_later e es (λ first. fault_fails w e fs.0.unfailed h.0 first) (λ later. one_fails ws es fs.1 h.1 later)
      (one_of_two e.end.door_fault (has_door_fault es) failed)

  -- where the end of a worker tells that its door failed, one of the doors has failed
  pub fault_is_counted : (doors : List D) (viewers : List (Watched V)) (most : ℕ) (es : List (Ended D))
      → WorkersEnd answers told door_faults left taken link_faults doors viewers most es → AreFreshDoors door_faults told doors
      → has_door_fault es ≡ true → HasFailedDoor door_faults (doors_of_ends es)
  fault_is_counted doors viewers most es w fresh failed =
      one_fails w.workers es (subst (λ (ds : List D). AreFreshDoors door_faults told ds) (sym w.are_at.doors_are) fresh) w.ended failed
