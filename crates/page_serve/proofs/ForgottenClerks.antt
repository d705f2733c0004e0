-- How workers ended, whatever their clerks, which tell no replies.
use Rattle.std.proofs.Common.{◌≡◌, ℕ, Bool, true, false, List, [], ◌∷◌, map, Option, None, refl, sym, ap, ◌∙◌, subst}
use Rattle.page_net.specs.Doors.{DoorTold}
use Rattle.page_server.specs.Answering.{Answering}
use Rattle.page_spawn.specs.Ends.{AllFulfil}
use Rattle.page_spawn.specs.Gates.{Each}
use Rattle.page_worker.specs.DoorWork.{EndsWork, StopsWork}
use Rattle.page_worker.specs.DoorWorkers.{DoorWorker}
use Rattle.page_worker.specs.declared.ended.Ended.{Ended}
use Rattle.set_publisher.specs.Values.{Watched}
use Rattle.page_serve.specs.Workers.{AreWorkersAt, HasEnded, WorkersEnd, doors_of_workers}

module _ {V D C : Type 0} where
  -- a worker without its clerk
  abbrev pub forget : DoorWorker V D C → DoorWorker V D (Unit {0})
  forget w = record { door = w.door; viewer = w.viewer; clerk = tt; links = w.links }

  same_doors : (ws : List (DoorWorker V D C)) → doors_of_workers (map forget ws) ≡ doors_of_workers ws
  same_doors [] = refl
  same_doors (w ∷ ws) = ap (λ (ds : List D). w.door ∷ ds) (same_doors ws)

  same_viewers : (ws : List (DoorWorker V D C)) → map (λ w. w.viewer) (map forget ws) ≡ map (λ w. w.viewer) ws
  same_viewers [] = refl
  same_viewers (w ∷ ws) = ap (λ (vs : List (Watched V)). w.viewer ∷ vs) (same_viewers ws)

  same_links : (most : ℕ) (ws : List (DoorWorker V D C)) → Each (λ w. w.links ≡ most) ws → Each (λ w. w.links ≡ most) (map forget ws)
  same_links most [] h = tt
  same_links most (w ∷ ws) h = (h.0, same_links most ws h.1)

  pub forgotten_at : (doors : List D) (viewers : List (Watched V)) (most : ℕ) (ws : List (DoorWorker V D C)) → AreWorkersAt doors viewers most ws
      → AreWorkersAt doors viewers most (map forget ws)
  forgotten_at doors viewers most ws h = record {
    doors_are = same_doors ws ∙ h.doors_are;
    viewers_are = same_viewers ws ∙ h.viewers_are;
    links_are = same_links most ws h.links_are;
  }

module _ {V D L : Type 0} (answers : Answering V)
    (told : D → Option (DoorTold L)) (door_faults : D → ℕ)
    (left taken : L → Option (List ℕ)) (link_faults : L → ℕ) {C : Type 0} where
  -- how a worker ended whose clerk tells no replies
  abbrev pub EndsUntold : DoorWorker V D C → Ended D → Type 0
  EndsUntold = EndsWork answers told door_faults left taken link_faults (λ (c : C). None)

  forgotten_stop : (old now : DoorWorker V D C) (links : ℕ) (failed : Bool)
      → StopsWork answers told door_faults left taken link_faults (λ (c : C). None) old now links failed
      → StopsWork answers told door_faults left taken link_faults (λ (c : Unit {0}). None) (forget old) (forget now) links failed
  forgotten_stop old now links true h = h
  forgotten_stop old now links false h = h

  forgotten_end : (w : DoorWorker V D C) (e : Ended D) → EndsUntold w e
      → HasEnded answers told door_faults left taken link_faults (forget w) e
  forgotten_end w e h = record {
    left_off = forget h.left_off;
    serves = record {
      links = h.serves.links;
      serves = h.serves.serves;
      summary = h.serves.summary;
      within = h.serves.within;
      stops = forgotten_stop w h.left_off e.end.links e.end.door_fault h.serves.stops;
      most = h.serves.most;
    };
    door_is = h.door_is;
  }

  forgotten_ends : (ws : List (DoorWorker V D C)) (es : List (Ended D)) → AllFulfil EndsUntold ws es
      → AllFulfil (HasEnded answers told door_faults left taken link_faults) (map forget ws) es
  forgotten_ends [] [] h = tt
  forgotten_ends [] (e ∷ es) h = absurd h
  forgotten_ends (w ∷ ws) [] h = absurd h
  forgotten_ends (w ∷ ws) (e ∷ es) h = (forgotten_end w e h.0, forgotten_ends ws es h.1)

  -- the ends of workers at these doors
  pub workers_end : (doors : List D) (viewers : List (Watched V)) (most : ℕ) (ws : List (DoorWorker V D C)) (es : List (Ended D))
      → AreWorkersAt doors viewers most ws → AllFulfil EndsUntold ws es
      → WorkersEnd answers told door_faults left taken link_faults doors viewers most es
  workers_end doors viewers most ws es at ends = record {
    workers = map forget ws;
    are_at = forgotten_at doors viewers most ws at;
    ended = forgotten_ends ws es ends;
  }

  -- the same where the lists come by other names
  pub workers_end_by : (doors ds : List D) (viewers vs : List (Watched V)) (most : ℕ) (ws wv : List (DoorWorker V D C)) (es : List (Ended D))
      → ds ≡ doors → vs ≡ viewers → ws ≡ wv → AreWorkersAt ds vs most wv → AllFulfil EndsUntold ws es
      → WorkersEnd answers told door_faults left taken link_faults doors viewers most es
  workers_end_by doors ds viewers vs most ws wv es d v w at ends =
      workers_end doors viewers most ws es
      (subst (λ (z : List D). AreWorkersAt z viewers most ws) d
      (subst (λ (z : List (Watched V)). AreWorkersAt ds z most ws) v
      (subst (λ (z : List (DoorWorker V D C)). AreWorkersAt ds vs most z) (sym w) at))) ends
