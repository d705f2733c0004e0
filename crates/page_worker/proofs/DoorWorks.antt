-- A worker's links, one after another, and the end of its work.
use Rattle.std.proofs.Common.{arith, ℕ, min, ◌≡◌, ◌≤◌, ◌+◌, ◌^◌, ◌-◌, Bool, false, true, List, [], ◌∷◌, ◌++◌, Option, None, Some, append-nil, append_assoc, IfSome, sym, ap, ◌∙◌, subst, refl, inl, inr, ◌⊎◌}
use mathlib.Core.List.{IsPrefix}
use Rattle.page_io.specs.Causes.{Rose}
use Rattle.page_http.specs.declared.reply.Reply.{Reply}
use Rattle.page_net.specs.Doors.{DoorTold, GivesLink, TakesLinkBack}
use Rattle.page_net.specs.Tellings.{BothTold}
use Rattle.page_server.specs.Answering.{Answering}
use Rattle.page_server.specs.declared.end.LinkEnd.{LinkEnd}
use Rattle.set_publisher.specs.Values.{Watched}
use Rattle.page_worker.specs.DoorSteps.{HasServedLinks, ServesNone, ServesOne, ServesThis, failed_work, no_work, work_with}
use Rattle.page_worker.specs.DoorWork.{HasNoLinkToCome, ServesDoor, ServesLinks, StopsWork}
use Rattle.page_worker.specs.DoorWorkers.{DoorWorker}
use Rattle.page_worker.specs.LinksServed.{AreLinksServed, Carried, LinkServed, PassesLinks, carried, no_links, next_link}
use Rattle.page_worker.specs.Summaries.{IsSummaryOf}
use Rattle.page_worker.specs.declared.work_end.WorkEnd.{WorkEnd}
use Rattle.page_worker.proofs.LinkByLink.{passes_more, passes_none, passes_one, summary_more, summary_none, told_own, told_then}

-- a count that rose since a later moment rose since an earlier one
rose_since : (before between now : ℕ) → before ≤ between → Rose between now → Rose before now
rose_since before between now later rose = omega (arith, later, rose)

prefix_self : {A : Type 0} (xs : List A) → IsPrefix xs xs
prefix_self xs = ([], append-nil xs)

prefix_then : {A : Type 0} (xs ys zs : List A) → IsPrefix xs ys → IsPrefix ys zs → IsPrefix xs zs
prefix_then xs ys zs p q = (p.0 ++ q.0, sym (append_assoc xs p.0 q.0) ∙ ap (λ l. l ++ q.0) p.1 ∙ q.1)

none_to_come : {L : Type 0} (a b : Option (DoorTold L)) → BothTold a b (λ old now. (old.coming ≡ []) × (now ≡ old)) → HasNoLinkToCome b
none_to_come a None closed = tt
none_to_come None (Some y) closed = absurd closed
none_to_come (Some x) (Some y) closed = ap (λ t. t.coming) closed.1 ∙ closed.0

stays_closed : {L : Type 0} (a b : Option (DoorTold L)) → BothTold a b (λ old now. (old.coming ≡ []) × (now ≡ old)) → BothTold a b (λ old now. now ≡ old)
stays_closed None None closed = tt
stays_closed None (Some y) closed = absurd closed
stays_closed (Some x) None closed = absurd closed
stays_closed (Some x) (Some y) closed = closed.1

kept_same : {T : Type 0} (a b : Option T) → b ≡ a → BothTold a b (λ old now. now ≡ old)
kept_same a b same = subst (λ t. BothTold a t (λ old now. now ≡ old)) (sym same) (told_own a (λ old now. now ≡ old) (λ x. refl))

module _ {V D L : Type 0} (answers : Answering V)
    (told : D → Option (DoorTold L)) (door_faults : D → ℕ)
    (left taken : L → Option (List ℕ)) (link_faults : L → ℕ) where
  -- the door failed
  pub none_failed : (door0 door : D) (c : Carried V) → told door ≡ told door0 → door_faults door0 ≤ door_faults door
      → Rose (door_faults door0) (door_faults door)
      → ServesNone answers told door_faults left taken link_faults door0 door c c × Rose (door_faults door0) (door_faults door)
  none_failed door0 door c same later rose =
      (record { same = refl; told_same = kept_same (told door0) (told door) same; later = later }, rose)

  -- the door is closed
  pub none_closed : (door0 door : D) (c : Carried V) → BothTold (told door0) (told door) (λ old now. (old.coming ≡ []) × (now ≡ old))
      → door_faults door0 ≤ door_faults door
      → ServesNone answers told door_faults left taken link_faults door0 door c c × HasNoLinkToCome (told door)
  none_closed door0 door c closed later = (
    record { same = refl; told_same = stays_closed (told door0) (told door) closed; later = later },
    none_to_come (told door0) (told door) closed,
  )

  -- a link came, was served, and went back
  pub one_served : (door0 door1 door : D) (before after : Carried V) (link : L) (end : LinkEnd)
      → BothTold (told door0) (told door1) (λ old now. GivesLink old now link) → door_faults door0 ≤ door_faults door1
      → ServesThis answers told door_faults left taken link_faults door1 door before after link end
      → ServesOne answers told door_faults left taken link_faults door0 door before after end
  one_served door0 door1 door before after link end gives later s = record {
    link = record { came = link; back = s.back; end = end };
    ends = refl;
    served = s.served;
    passed = told_then (told door0) (told door1) (told door)
        (λ old now. GivesLink old now link) (λ old now. TakesLinkBack old now s.back)
        (λ old now. PassesLinks old now (record { came = link; back = s.back; end = end } ∷ []))
        (passes_one link s.back end) gives s.returned;
    later = omega (arith, later, s.same_faults);
  }

  -- at the beginning of the work
  pub served_none : (door : D) (c : Carried V) → HasServedLinks answers told door_faults left taken link_faults door door c c no_work
  served_none door c = record {
    links = [];
    serves = record {
      served = no_links;
      passed = told_own (told door) (λ old now. PassesLinks old now []) passes_none;
      grows = prefix_self c.viewer.sets;
      later = omega arith;
    };
    summary = summary_none;
    unfailed = refl;
  }

  -- the same of what a worker has before its work
  pub served_before : {C : Type 0} (given : C → Option (List Reply)) (old : DoorWorker V D C)
      (door : D) (viewer : Watched V) (clerk : C) (links : ℕ) (end : WorkEnd)
      → record { door = door; viewer = viewer; clerk = clerk; links = links } ≡ old → end ≡ no_work
      → HasServedLinks answers told door_faults left taken link_faults old.door door
      (carried old.viewer (given old.clerk)) (carried viewer (given clerk)) end
  served_before given old door viewer clerk links end whole none =
      subst (λ w. HasServedLinks answers told door_faults left taken link_faults w.door door
      (carried w.viewer (given w.clerk)) (carried viewer (given clerk)) end) whole
      (subst (λ e. HasServedLinks answers told door_faults left taken link_faults door door
      (carried viewer (given clerk)) (carried viewer (given clerk)) e) (sym none) (served_none door (carried viewer (given clerk))))

  links_more : (door0 door1 door : D) (first before after : Carried V) (links : List (LinkServed L)) (end : LinkEnd)
      → ServesLinks answers told door_faults left taken link_faults door0 door1 first before links
      → (s : ServesOne answers told door_faults left taken link_faults door1 door before after end)
      → ServesLinks answers told door_faults left taken link_faults door0 door first after (links ++ s.link ∷ [])
  links_more door0 door1 door first before after links end h s = record {
    served = next_link links before s.link after h.served s.served;
    passed = told_then (told door0) (told door1) (told door)
        (λ old now. PassesLinks old now links) (λ old now. PassesLinks old now (s.link ∷ []))
        (λ old now. PassesLinks old now (links ++ s.link ∷ []))
        (passes_more links s.link) h.passed s.passed;
    grows = prefix_then first.viewer.sets before.viewer.sets after.viewer.sets h.grows s.served.grows;
    later = omega (arith, s.later, h.later);
  }

  -- one link more
  pub served_more : (door0 door1 door : D) (first before after : Carried V) (end now : WorkEnd) (link : LinkEnd)
      → HasServedLinks answers told door_faults left taken link_faults door0 door1 first before end
      → ServesOne answers told door_faults left taken link_faults door1 door before after link
      → now ≡ work_with end link
      → HasServedLinks answers told door_faults left taken link_faults door0 door first after now
  served_more door0 door1 door first before after end now link h s added =
      subst (λ e. HasServedLinks answers told door_faults left taken link_faults door0 door first after e) (sym added) (record {
        links = h.links ++ s.link ∷ [];
        serves = links_more door0 door1 door first before after h.links link h.serves s;
        summary = subst (λ e. IsSummaryOf (h.links ++ s.link ∷ []) (work_with end e)) s.ends (summary_more h.links s.link end h.summary);
        unfailed = h.unfailed;
      })

  -- no link more
  links_still : (door0 door1 door : D) (first before after : Carried V) (links : List (LinkServed L))
      → ServesLinks answers told door_faults left taken link_faults door0 door1 first before links
      → ServesNone answers told door_faults left taken link_faults door1 door before after
      → ServesLinks answers told door_faults left taken link_faults door0 door first after links
  links_still door0 door1 door first before after links h s = record {
    served = subst (λ c. AreLinksServed answers left taken link_faults first links c) (sym s.same) h.served;
    passed = told_then (told door0) (told door1) (told door)
        (λ old now. PassesLinks old now links) (λ old now. now ≡ old) (λ old now. PassesLinks old now links)
        (λ x y z p q. subst (λ t. PassesLinks x t links) (sym q) p) h.passed s.told_same;
    grows = subst (λ (c : Carried V). IsPrefix first.viewer.sets c.viewer.sets) (sym s.same) h.grows;
    later = omega (arith, s.later, h.later);
  }

  module _ {C : Type 0} (given : C → Option (List Reply)) where
    -- as many links were served as the worker serves
    pub works_full : (old now : DoorWorker V D C) (end : WorkEnd)
        → HasServedLinks answers told door_faults left taken link_faults old.door now.door
        (carried old.viewer (given old.clerk)) (carried now.viewer (given now.clerk)) end
        → now.links ≡ old.links → end.links ≡ old.links
        → ServesDoor answers told door_faults left taken link_faults given old now end
    works_full old now end h most full = record {
      links = h.links;
      serves = h.serves;
      summary = h.summary;
      within = omega (arith, full);
      stops = subst (λ b. StopsWork answers told door_faults left taken link_faults given old now end.links b) (sym h.unfailed) (inl full);
      most = most;
    }

    -- none is to come
    pub works_closed : (old now : DoorWorker V D C) (door1 : D) (before : Carried V) (end : WorkEnd)
        → HasServedLinks answers told door_faults left taken link_faults old.door door1 (carried old.viewer (given old.clerk)) before end
        → ServesNone answers told door_faults left taken link_faults door1 now.door before (carried now.viewer (given now.clerk))
        × HasNoLinkToCome (told now.door)
        → now.links ≡ old.links → end.links ≤ old.links
        → ServesDoor answers told door_faults left taken link_faults given old now end
    works_closed old now door1 before end h s most within = record {
      links = h.links;
      serves = links_still old.door door1 now.door (carried old.viewer (given old.clerk)) before (carried now.viewer (given now.clerk))
          h.links h.serves s.0;
      summary = h.summary;
      within = within;
      stops = subst (λ b. StopsWork answers told door_faults left taken link_faults given old now end.links b) (sym h.unfailed) (inr s.1);
      most = most;
    }

    -- the door failed
    pub works_failed : (old now : DoorWorker V D C) (door1 : D) (before : Carried V) (end : WorkEnd)
        → HasServedLinks answers told door_faults left taken link_faults old.door door1 (carried old.viewer (given old.clerk)) before end
        → ServesNone answers told door_faults left taken link_faults door1 now.door before (carried now.viewer (given now.clerk))
        × Rose (door_faults door1) (door_faults now.door)
        → now.links ≡ old.links → end.links ≤ old.links
        → ServesDoor answers told door_faults left taken link_faults given old now (failed_work end)
    works_failed old now door1 before end h s most within = record {
      links = h.links;
      serves = links_still old.door door1 now.door (carried old.viewer (given old.clerk)) before (carried now.viewer (given now.clerk))
          h.links h.serves s.0;
      summary = record { count = h.summary.count; requests = h.summary.requests; last = h.summary.last };
      within = within;
      stops = rose_since (door_faults old.door) (door_faults door1) (door_faults now.door) h.serves.later s.1;
      most = most;
    }
