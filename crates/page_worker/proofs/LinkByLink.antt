-- One link more, and the end of the work.
use Rattle.std.proofs.Common.{arith, ℕ, ◌≡◌, ◌≤◌, ◌+◌, length, map, List, [], ◌∷◌, ◌++◌, Option, None, Some, append-nil, append_assoc, length-append, sym, ap, ◌∙◌, subst, refl, inl, inr}
use mathlib.Core.List.{map-append}
use Rattle.page_net.specs.Doors.{DoorTold, GivesLink, TakesLinkBack}
use Rattle.page_net.specs.Tellings.{BothTold}
use Rattle.page_server.specs.declared.end.LinkEnd.{LinkEnd}
use Rattle.page_worker.specs.LinksServed.{LinkServed, PassesLinks}
use Rattle.page_worker.specs.Summaries.{IsSummaryOf, last_number_on, number_behind, requests_on}
use Rattle.page_worker.specs.DoorSteps.{no_work, work_with}
use Rattle.page_worker.specs.declared.work_end.WorkEnd.{WorkEnd}

-- what holds of three tellings after one another
pub told_then : {T : Type 0} (a b c : Option T) (P Q R : T → T → Type 0) → ((x y z : T) → P x y → Q y z → R x z)
    → BothTold a b P → BothTold b c Q → BothTold a c R
told_then None None None P Q R f p q = tt
told_then None None (Some z) P Q R f p q = absurd q
told_then None (Some y) c P Q R f p q = absurd p
told_then (Some x) None c P Q R f p q = absurd p
told_then (Some x) (Some y) None P Q R f p q = absurd q
told_then (Some x) (Some y) (Some z) P Q R f p q = f x y z p q

-- what holds of each value and itself holds of a telling that stays
pub told_own : {T : Type 0} (a : Option T) (P : T → T → Type 0) → ((x : T) → P x x) → BothTold a a P
told_own None P f = tt
told_own (Some x) P f = f x

module _ {L : Type 0} where
  pub passes_none : (t : DoorTold L) → PassesLinks t t []
  passes_none t = record {
    coming = refl;
    given = omega arith;
    back = sym (append-nil t.back);
  }

  pub passes_one : (came back : L) (end : LinkEnd) (a b c : DoorTold L) → GivesLink a b came → TakesLinkBack b c back
      → PassesLinks a c (record { came = came; back = back; end = end } ∷ [])
  passes_one came back end a b c g t = record {
    coming = g.first ∙ ap (λ (l : List L). came ∷ l) (sym t.coming);
    given = omega (arith, g.given, t.given);
    back = t.back ∙ ap (λ (l : List L). l ++ back ∷ []) g.back;
  }

  pub passes_more : (links : List (LinkServed L)) (s : LinkServed L) (a b c : DoorTold L) → PassesLinks a b links → PassesLinks b c (s ∷ [])
      → PassesLinks a c (links ++ s ∷ [])
  passes_more links s a b c p q = record {
    coming = p.coming ∙ ap (λ (l : List L). map (λ t. t.came) links ++ l) q.coming
        ∙ sym (append_assoc (map (λ t. t.came) links) (s.came ∷ []) c.coming)
        ∙ ap (λ (l : List L). l ++ c.coming) (sym (map-append (λ t. t.came) links (s ∷ [])));
    given = omega (arith, p.given, q.given, length-append links (s ∷ []));
    back = q.back ∙ ap (λ (l : List L). l ++ s.back ∷ []) p.back
        ∙ append_assoc a.back (map (λ t. t.back) links) (s.back ∷ [])
        ∙ ap (λ (l : List L). a.back ++ l) (sym (map-append (λ t. t.back) links (s ∷ [])));
  }

  requests_more : (links : List (LinkServed L)) (s : LinkServed L) → requests_on (links ++ s ∷ []) ≡ requests_on links + s.end.requests
  requests_more [] s = omega arith
  requests_more (t ∷ links) s = omega (arith, requests_more links s)

  last_more : (links : List (LinkServed L)) (s : LinkServed L) (number : ℕ)
      → last_number_on number (links ++ s ∷ []) ≡ number_behind (last_number_on number links) s.end
  last_more [] s number = refl
  last_more (t ∷ links) s number = last_more links s (number_behind number t.end)

  pub summary_none : IsSummaryOf {L = L} [] no_work
  summary_none = record { count = refl; requests = refl; last = refl }

  pub summary_more : (links : List (LinkServed L)) (s : LinkServed L) (end : WorkEnd) → IsSummaryOf links end
      → IsSummaryOf (links ++ s ∷ []) (work_with end s.end)
  summary_more links s end h = record {
    count = omega (arith, h.count, length-append links (s ∷ []));
    requests = omega (arith, h.requests, requests_more links s);
    last = ap (λ (n : ℕ). number_behind n s.end) h.last ∙ sym (last_more links s 0);
  }
