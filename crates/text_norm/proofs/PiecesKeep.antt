-- Pieces that are accepted one after another, from where a page's reading stands for a path.
use Rattle.std.proofs.Common.{◌≡◌, ℕ, Bool, true, false, List, [], ◌∷◌, ◌++◌, inl, inr, refl, sym, ap, ◌∙◌, subst}
use Rattle.place_core.specs.page.Html.{read, start}
use Rattle.place_core.specs.place.Membership.{IsIn}
use Rattle.place_core.specs.page.Paths.{at_hole, mark_in, read_node, read_path}
use Rattle.place_core.specs.page.Shape.{ShapePart, TextPart, HolePart, PageReads, marked, shape_of}
use Rattle.place_core.specs.page.States.{Page, LexState, Config, config}
use Rattle.place_core.specs.page.Tags.{ValueState, languages}
use Rattle.place_core.specs.declared.place.Place.{Place}
use Rattle.place_core.specs.declared.place.Place.TheVariants as place
use Rattle.place_core.proofs.Joins.{the_order}
use Rattle.html_step.proofs.HoleOrder.{valid-hole}
use Rattle.html_step.proofs.WholeTexts.{valid-text}
use Rattle.text_norm.specs.Scanned.{written_at}
use Rattle.text_norm.specs.HoleLaws.{ArePlainUnless, hole_parts, leaves_out, parts_unless}
use Rattle.text_norm.specs.Pieces.{TextPiece, TextAt, HoleAt, AreAccepted, ArePlainIn, IsOver, page_of, path_of}
use Rattle.text_norm.specs.Standing.{page}
use Rattle.text_norm.specs.StandsLaws.{PagesReadAsPaths, holds_nothing, StandsAtStart, StandsSomewhere}
use Rattle.text_norm.proofs.HoleKeeps.{keeps-hole}
use Rattle.text_norm.proofs.Keeps.{keeps-shape}
use Rattle.text_norm.proofs.Emits.{in-text, same-state}

pub stands-at-start : StandsAtStart
stands-at-start = (record { own = place.Text; stands = refl; valid = tt; below = refl }, refl)

-- a place over another one stands for its paths
over : (p q : Place) (s : LexState ValueState) → IsIn p s → IsOver p q → IsIn q s
over p q s i o = record { own = i.own; stands = i.stands; valid = i.valid; below = the_order.1 i.own p q i.below o.below }

over-over : (p r q : Place) → IsOver p r → IsOver r q → IsOver p q
over-over p r q o h = record { valid = h.valid; below = the_order.1 p r q o.below h.below }

-- what is accepted from a place is accepted from one that it is over
pub accepted-below : (pieces : List TextPiece) (p r q : Place) → IsOver p r → AreAccepted pieces r q → AreAccepted pieces p q
accepted-below [] p r q o a = over-over p r q o a
accepted-below (TextAt at bytes ∷ pieces) p r q o a = (over-over p r at o a.0, a.1)
accepted-below (HoleAt at x datum bytes ∷ pieces) p r q o a = (over-over p r at o a.0, a.1)

-- reading parts, and then more of them
reads-then : (parts more : List ShapePart) (c d e : Config ValueState) → PageReads parts c d → PageReads more d e → PageReads (parts ++ more) c e
reads-then [] more c d e p q = subst (λ (z : Config ValueState). PageReads more z e) p q
reads-then (TextPart bytes ∷ parts) more c d e p q = reads-then parts more (read Page bytes c) d e p q
reads-then (HolePart bytes ∷ parts) more c d e (inl p) q = inl (p.0, reads-then parts more (marked bytes c) d e p.1 q)
reads-then (HolePart bytes ∷ parts) more c d e (inr p) q = inr (p.0, reads-then parts more (read Page bytes c) d e p.1 q)

-- a plain hole, before what is plain
plain-then : (left_out : Bool) (bytes : List ℕ) (more : List ShapePart) (c d : Config ValueState) → ArePlainUnless left_out bytes c
    → PageReads (parts_unless left_out bytes) c d → ArePlainIn more d → ArePlainIn (parts_unless left_out bytes ++ more) c
plain-then true bytes more c d p q h = subst (ArePlainIn more) q h
plain-then false bytes more c d p (inl q) h = (p, subst (ArePlainIn more) q.1 h)
plain-then false bytes more c d p (inr q) h = absurd (q.0 p)

-- parts are read to one end at most
one-end : (parts : List ShapePart) (from e f : Config ValueState) → PageReads parts from e → PageReads parts from f → e ≡ f
one-end [] from e f p q = p ∙ sym q
one-end (TextPart bytes ∷ parts) from e f p q = one-end parts (read Page bytes from) e f p q
one-end (HolePart bytes ∷ parts) from e f (inl p) (inl q) = one-end parts (marked bytes from) e f p.1 q.1
one-end (HolePart bytes ∷ parts) from e f (inl p) (inr q) = absurd (q.0 p.0)
one-end (HolePart bytes ∷ parts) from e f (inr p) (inl q) = absurd (p.0 q.0)
one-end (HolePart bytes ∷ parts) from e f (inr p) (inr q) = one-end parts (read Page bytes from) e f p.1 q.1

pub stands-somewhere : StandsSomewhere
stands-somewhere [] p q c d v i a l = record { valid = a.valid; is_in = over p q c.at i a; plain = tt; end = d; reads = refl; stands = l }
stands-somewhere (TextAt at bytes ∷ pieces) p q c d v i a l =
    let b = a.1.0 in
    let k = keeps-shape bytes at b c.at c.emitted d a.0.valid (over p at c.at i a.0) a.1.1 l in
    let rest = stands-somewhere pieces b q (read_node languages bytes c) (page languages (written_at bytes at) d) (valid-text bytes at b a.0.valid a.1.1) k.0 a.1.2 k.1 in
    record { valid = rest.valid; is_in = rest.is_in; plain = rest.plain; end = rest.end; reads = rest.reads; stands = rest.stands }
stands-somewhere (HoleAt at x datum bytes ∷ pieces) p q c d v i a l =
    let b = a.1.0 in
    let k = keeps-hole at b x datum bytes c.at c.emitted d a.0.valid (over p at c.at i a.0) a.1.1 a.1.2 l in
    let e = k.2.0 in
    let rest = stands-somewhere pieces b q (config (at_hole languages c.at) (mark_in languages c.at c.emitted)) e (valid-hole at b x a.0.valid a.1.1) k.0 a.1.3 k.2.2 in
    record {
      valid = rest.valid;
      is_in = rest.is_in;
      plain = plain-then (leaves_out x) bytes (page_of pieces) d e k.1 k.2.1 rest.plain;
      end = rest.end;
      reads = reads-then (hole_parts x bytes) (page_of pieces) d e rest.end k.2.1 rest.reads;
      stands = rest.stands;
    }

pub pages-read-as-paths : PagesReadAsPaths
pages-read-as-paths pieces a =
    let c = read_path languages (path_of pieces) start in
    let r = stands-somewhere pieces place.Text place.Text start start tt stands-at-start.0 a stands-at-start.1 in
    let own = in-text c.at r.is_in in
    let same : r.end ≡ c = same-state c.at c.emitted r.end (ap holds_nothing own) r.stands in
    let reads = subst (PageReads (page_of pieces) start) same r.reads in
    record {
      in_text = own;
      plain = r.plain;
      reads = reads;
      no_other = λ end h. one-end (page_of pieces) start end c h reads;
      shape = λ end h. ap shape_of (one-end (page_of pieces) start end c h reads);
    }
