-- Members through whole texts.
use Rattle.std.proofs.Common.{◌≡◌, ℕ, ◌+◌, List, [], ◌∷◌, Ok, sym, ◌∙◌, subst, refl}
use Rattle.place_core.specs.page.Classes.{class_of}
use Rattle.place_core.specs.place.Errors.{TextRead, nothing_read}
use Rattle.place_core.specs.place.Membership.{IsIn, Bears}
use Rattle.place_core.specs.place.Places.{Has, IsValid}
use Rattle.place_core.specs.page.States.{LexState}
use Rattle.place_core.specs.page.Tags.{ValueState}
use Rattle.place_core.specs.declared.member.Member.{Member}
use Rattle.place_core.specs.declared.place.Place.{Place}
use Rattle.place_core.proofs.Semilattices.{one_value}
use Rattle.html_scan.specs.Scans.{Scan, At, scan_next}
use Rattle.html_step.specs.Laws.{FromText, IsOrigin}
use Rattle.html_step.specs.Origins.{origin}
use Rattle.html_step.specs.Steps.{after_text, scan_read_behind, stepped}
use Rattle.html_step.proofs.FromSteps.{from-byte, from-end}
use Rattle.html_step.proofs.ScanOrder.{ScanBelow, ScanHas, ScanValid, scan-grows}
use Rattle.html_step.proofs.OneTexts.{one-text}
use Rattle.html_step.proofs.ValidSteps.{scan-valid}
use Rattle.html_step.proofs.WholeTexts.{end-ok, grows-text, step-ok, text-steps}

-- a member after the bytes comes from this one, from wherever the texts stand
pub record FromBytes (bytes : List ℕ) (f : Scan) (y x : Member) : Type 0 where
  pub there : ScanHas f x
  pub leads : (k : ℕ) (since : TextRead) (g : Scan) (a : Place) → ScanValid g → ScanBelow g f → ScanHas g x → stepped k since bytes g ≡ Ok a → Has a y

pub from-bytes : (bytes : List ℕ) (k : ℕ) (since : TextRead) (f : Scan) (q : Place) (y : Member) → ScanValid f → stepped k since bytes f ≡ Ok q → Has q y
    → FromBytes bytes f y (origin bytes f y)
from-bytes [] k since f q y v e h =
    let n = end-ok k since f q e in
    let x = from-end f y v n.cut n.script (subst (λ (p : Place). Has p y) (sym n.place) h) in
    record {
      there = x.there;
      leads = λ k since g a w l o d. subst (λ (p : Place). Has p y) (end-ok k since g a d).place (x.leads g w l o);
    }
from-bytes (b ∷ bs) k since f q y v e h =
    let n = step-ok k since b bs f q e in
    let r = from-bytes bs (k + 1) (scan_read_behind k since f (class_of b) b) (scan_next f (class_of b) b) q y (scan-valid f (class_of b) b v n.0) n.1 h in
    let x = from-byte f (class_of b) b (origin bs (scan_next f (class_of b) b) y) refl v n.0 r.there in
    record {
      there = x.there;
      leads = λ k since g a w l o d. let m = scan-grows g f (class_of b) b refl w l n.0 in
          r.leads (k + 1) (scan_read_behind k since g (class_of b) b) (scan_next g (class_of b) b) a (scan-valid g (class_of b) b w m.0)
          m.1 (x.leads g w l o) (step-ok k since b bs g a d).1;
    }

-- what a path bears, its own place has
pub own-has : (p : Place) (s : LexState ValueState) (x : Member) (i : IsIn p s) → Bears s x → Has i.own x
own-has p s x i h = subst (λ (a : Place). Has a x) (one_value h.own i.own (sym h.stands ∙ i.stands)) h.has

-- on the paths that a place stands for
pub from-text-at : (bytes : List ℕ) (p q : Place) (y : Member) → IsValid p → after_text bytes p ≡ Ok q → Has q y → IsOrigin bytes p y (origin bytes (At p) y)
from-text-at bytes p q y v e h =
    let r = from-bytes bytes 0 nothing_read (At p) q y v (text-steps bytes p q e) h in (
      r.there,
      λ s i o.
          let g = grows-text bytes i.own p q i.valid v i.below e in
          record {
            own = g.0;
            stands = ((one-text bytes i.own s i.stands).0 g.0 g.1).1;
            has = r.leads 0 nothing_read (At i.own) g.0 i.valid i.below (own-has p s (origin bytes (At p) y) i o) (text-steps bytes i.own g.0 g.1);
          },
    )

pub from-text : FromText
from-text bytes p q y v e h = (origin bytes (At p) y, from-text-at bytes p q y v e h)
