-- From what the stages of serving answer to what it answers.
use Rattle.std.proofs.Common.{arith, ◌≡◌, ◌≢◌, ◌⊎◌, ◌≤◌, ℕ, true, List, [], ◌∷◌, length, Option, Result, Ok, Err, inl, inr, refl, sym, subst}
use Rattle.page_net.specs.Doors.{DoorTold}
use Rattle.page_net.specs.Nets.{NetTold}
use Rattle.page_net.specs.Tellings.{BothTold}
use Rattle.page_server.specs.Answering.{Answering}
use Rattle.page_worker.specs.declared.ended.Ended.{Ended}
use Rattle.set_publisher.specs.Values.{Published, Watched}
use Rattle.page_serve.specs.DoorMoves.{AreFreshDoors, MovesDoors, ReturnsDoors, TakesDoors}
use Rattle.page_serve.specs.ServeAnswers.{IsDoneOrOutOfMemory, NoneServes, PlacesAnswers, ReportAnswers, ServeAnswers, ServeCause}
use Rattle.page_serve.specs.SummaryLines.{has_door_fault}
use Rattle.page_serve.specs.Workers.{HaveServed, IsSpawnStop, doors_of_ends}
use Rattle.page_serve.specs.declared.stop.ServeStop.{ServeStop}
use Rattle.page_serve.specs.declared.stop.ServeStop.TheVariants as stop
use Rattle.page_serve.proofs.DoorMoving.{all_returned, none_returned}

-- why a report stops
pub report_cause : {D : Type 0} (es : List (Ended D)) (out0 out : Option (List ℕ)) (failed net spawn outs : Type 0) (r : Result (Unit {0}) ServeStop)
    → ReportAnswers es out0 out r → (has_door_fault es ≡ true → failed) → (failed → net) → (r ≡ Err stop.Write → outs)
    → ServeCause net spawn ⊥ outs r
report_cause es out0 out failed net spawn outs (Ok u) h f n w = tt
report_cause es out0 out failed net spawn outs (Err stop.Net) h f n w = n (f h.0)
report_cause es out0 out failed net spawn outs (Err stop.Spawn) h f n w = absurd h
report_cause es out0 out failed net spawn outs (Err stop.Seat) h f n w = absurd h
report_cause es out0 out failed net spawn outs (Err stop.Write) h f n w = w refl
report_cause es out0 out failed net spawn outs (Err stop.Memory) h f n w = tt

-- no count rose, so there is no cause but memory
pub none_rose : (net spawn seats outs : Type 0) (r : Result (Unit {0}) ServeStop) → ServeCause net spawn seats outs r
    → (net → ⊥) → (spawn → ⊥) → (seats → ⊥) → (outs → ⊥) → IsDoneOrOutOfMemory r
none_rose net spawn seats outs (Ok u) h n s q o = tt
none_rose net spawn seats outs (Err stop.Net) h n s q o = absurd (n h)
none_rose net spawn seats outs (Err stop.Spawn) h n s q o = absurd (s h)
none_rose net spawn seats outs (Err stop.Seat) h n s q o = absurd (q h)
none_rose net spawn seats outs (Err stop.Write) h n s q o = absurd (o h)
none_rose net spawn seats outs (Err stop.Memory) h n s q o = tt

-- a cause of a stage is one of the whole
pub cause_weaker : {U : Type 0} (n1 s1 q1 o1 n2 s2 q2 o2 : Type 0) (r : Result U ServeStop)
    → (n1 → n2) → (s1 → s2) → (q1 → q2) → (o1 → o2) → ServeCause n1 s1 q1 o1 r → ServeCause n2 s2 q2 o2 r
cause_weaker n1 s1 q1 o1 n2 s2 q2 o2 (Ok v) n s q o h = tt
cause_weaker n1 s1 q1 o1 n2 s2 q2 o2 (Err stop.Net) n s q o h = n h
cause_weaker n1 s1 q1 o1 n2 s2 q2 o2 (Err stop.Spawn) n s q o h = s h
cause_weaker n1 s1 q1 o1 n2 s2 q2 o2 (Err stop.Seat) n s q o h = q h
cause_weaker n1 s1 q1 o1 n2 s2 q2 o2 (Err stop.Write) n s q o h = o h
cause_weaker n1 s1 q1 o1 n2 s2 q2 o2 (Err stop.Memory) n s q o h = tt

module _ {V D L : Type 0}
    (told : D → Option (DoorTold L)) (door_faults : D → ℕ) (answers : Answering V)
    (left taken : L → Option (List ℕ)) (link_faults : L → ℕ) where
  -- workers have served, and their ends are reported
  pub report_answers : (sets : List V) (count most : ℕ) (old now : Option (NetTold D)) (out0 out : Option (List ℕ)) (kept : Type 0)
      (es : List (Ended D)) (r : Result (Unit {0}) ServeStop)
      → HaveServed answers told door_faults left taken link_faults sets count most old now es → ReportAnswers es out0 out r
      → ServeAnswers told door_faults answers left taken link_faults sets count most old now out0 out kept r
  report_answers sets count most old now out0 out kept es (Ok u) s w = record { ends = es; served = s; written = w }
  report_answers sets count most old now out0 out kept es (Err stop.Net) s w = inr (record { ends = es; served = s; written = w })
  report_answers sets count most old now out0 out kept es (Err stop.Spawn) s w = absurd w
  report_answers sets count most old now out0 out kept es (Err stop.Seat) s w = absurd w
  report_answers sets count most old now out0 out kept es (Err stop.Write) s w = record { ends = es; served = s; written = w }
  report_answers sets count most old now out0 out kept es (Err stop.Memory) s w = inr (record { ends = es; served = s; written = w })

  -- no worker has run
  pub not_run_answers : (sets : List V) (count most : ℕ) (old now : Option (NetTold D)) (out : Option (List ℕ)) (spawn kept : Type 0) (s : ServeStop)
      → IsSpawnStop spawn s → ReturnsDoors door_faults told count old now
      → ServeAnswers told door_faults answers left taken link_faults sets count most old now out out kept (Err s)
  not_run_answers sets count most old now out spawn kept stop.Net h b = absurd h
  not_run_answers sets count most old now out spawn kept stop.Spawn h b = record { back = b; unwritten = refl }
  not_run_answers sets count most old now out spawn kept stop.Seat h b = absurd h
  not_run_answers sets count most old now out spawn kept stop.Write h b = absurd h
  not_run_answers sets count most old now out spawn kept stop.Memory h b = inl (record { back = b; unwritten = refl })

  -- a door or a place was not given
  pub no_places : (desk : Published V) (sets : List V) (count most : ℕ) (old now : Option (NetTold D)) (out : Option (List ℕ)) (kept : Type 0)
      (s : ServeStop) → PlacesAnswers told door_faults desk count old now (Err s) → kept
      → ServeAnswers told door_faults answers left taken link_faults sets count most old now out out kept (Err s)
  no_places desk sets count most old now out kept stop.Net h k = inl (record { back = h; unwritten = refl }, k)
  no_places desk sets count most old now out kept stop.Spawn h k = absurd h
  no_places desk sets count most old now out kept stop.Seat h k = (record { back = h; unwritten = refl }, k)
  no_places desk sets count most old now out kept stop.Write h k = absurd h
  no_places desk sets count most old now out kept stop.Memory h k = inl (record { back = h; unwritten = refl })

  pub kept_weaker : (sets : List V) (count most : ℕ) (old now : Option (NetTold D)) (out0 out : Option (List ℕ)) (kept : Type 0)
      (r : Result (Unit {0}) ServeStop)
      → ServeAnswers told door_faults answers left taken link_faults sets count most old now out0 out ⊥ r
      → ServeAnswers told door_faults answers left taken link_faults sets count most old now out0 out kept r
  kept_weaker sets count most old now out0 out kept (Ok u) h = h
  kept_weaker sets count most old now out0 out kept (Err stop.Net) (inl h) = absurd h.1
  kept_weaker sets count most old now out0 out kept (Err stop.Net) (inr h) = inr h
  kept_weaker sets count most old now out0 out kept (Err stop.Spawn) h = h
  kept_weaker sets count most old now out0 out kept (Err stop.Seat) h = absurd h.1
  kept_weaker sets count most old now out0 out kept (Err stop.Write) h = h
  kept_weaker sets count most old now out0 out kept (Err stop.Memory) h = h

  -- workers served, or none has run, at the doors that were given for so many
  pub places_served : (sets : List V) (count most : ℕ) (doors : List D) (before now after : Option (NetTold D)) (out0 out : Option (List ℕ))
      (kept : Type 0) (r : Result (Unit {0}) ServeStop) → TakesDoors door_faults told count before now doors
      → (BothTold before now (λ o n. MovesDoors o n (length doors) [])
      → ServeAnswers told door_faults answers left taken link_faults sets (length doors) most before after out0 out ⊥ r)
      → ServeAnswers told door_faults answers left taken link_faults sets count most before after out0 out kept r
  places_served sets count most doors before now after out0 out kept r takes serves =
      kept_weaker sets count most before after out0 out kept r
      (subst (λ (n : ℕ). ServeAnswers told door_faults answers left taken link_faults sets n most before after out0 out ⊥ r) takes.count_is
      (serves (subst (λ (n : ℕ). BothTold before now (λ o w. MovesDoors o w n [])) (sym takes.count_is) takes.given)))

  -- there was no memory for a desk
  pub nothing_served : (sets : List V) (count most : ℕ) (old : Option (NetTold D)) (out : Option (List ℕ)) (kept : Type 0)
      → ServeAnswers told door_faults answers left taken link_faults sets count most old old out out kept (Err stop.Memory)
  nothing_served sets count most old out kept = inl (record { back = none_returned door_faults told count old; unwritten = refl })
