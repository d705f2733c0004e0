-- Pieces that are accepted one after another, from where a page is read with marks, and beside that as bytes alone.
use Rattle.std.proofs.Common.{◌≡◌, ℕ, Bool, true, false, List, [], ◌∷◌, ◌++◌, Ok, inl, inr, refl, sym, ap, ◌∙◌, subst}
use Rattle.page_datum.specs.Data.{Data}
use Rattle.page_datum.specs.Printed.{printed}
use Rattle.place_core.proofs.Joins.{the_order}
use Rattle.place_core.proofs.Readings.{read-append}
use Rattle.place_core.specs.place.Errors.{node}
use Rattle.place_core.specs.page.Events.{LexEvent}
use Rattle.place_core.specs.page.Html.{read, start}
use Rattle.place_core.specs.place.Membership.{IsIn}
use Rattle.place_core.specs.page.Paths.{Hole, Symbol, Written, at_hole, mark_in, read_node, read_path}
use Rattle.place_core.specs.place.Places.{IsValid}
use Rattle.place_core.specs.page.References.{Closed}
use Rattle.place_core.specs.page.Shape.{PageReads, ShapePart, event_bytes}
use Rattle.place_core.specs.page.States.{Config, Page, LexState, Text, config}
use Rattle.place_core.specs.page.Tags.{ValueState, languages}
use Rattle.place_core.specs.declared.place.Place.{Place}
use Rattle.place_core.specs.declared.place.Place.TheVariants as place
use Rattle.place_core.specs.declared.chain.Chain.{Chain}
use Rattle.html_step.specs.Holes.{after_hole}
use Rattle.html_step.specs.Steps.{after_text}
use Rattle.text_norm.proofs.FilledMarks.{StandsRaw, beside-raw, node-state, raw-beside, raw-there}
use Rattle.text_norm.proofs.HolesLead.{LeadsUnless, hole-leads}
use Rattle.text_norm.specs.FillingLaws.{PagesFillPaths, texts_in}
use Rattle.text_norm.specs.Fillings.{Fills, Filling, fillings_at, fillings_along}
use Rattle.text_norm.proofs.HoleKeeps.{keeps-hole}
use Rattle.text_norm.proofs.Keeps.{keeps-shape}
use Rattle.text_norm.proofs.PiecesKeep.{stands-at-start}
use Rattle.text_norm.proofs.Emits.{in-text, same-state}
use Rattle.text_norm.proofs.Same.{written-on-paths}
use Rattle.text_norm.proofs.SlashReads.{raw-node}
use Rattle.text_norm.specs.Scanned.{written_at}
use Rattle.text_norm.specs.HoleLaws.{ArePlainUnless, IsBackBy, hole_parts, leaves_out, parts_unless}
use Rattle.text_norm.specs.Pieces.{AreAccepted, HoleAt, IsOver, TextPiece, TextAt, page_of, path_of}
use Rattle.text_norm.specs.Standing.{TextStands}
use Rattle.text_norm.specs.StandsLaws.{holds_nothing}

-- Where bytes and the symbols of a path lead: the reading with marks, which stands for the path, and that of bytes alone beside it.
record IsFilled (symbols : List Symbol) (texts : List (List ℕ)) (bytes : List ℕ) (q : Place) (s : LexState ValueState) (vs : List Filling)
    (t : List LexEvent) (d : Config ValueState) : Type 0 where
  end : Config ValueState
  is_in : IsIn q (read_path languages symbols (config s t)).at
  stands : TextStands languages (read_path languages symbols (config s t)).at (read_path languages symbols (config s t)).emitted end
  beside : StandsRaw (read_path languages symbols (config s t)).at (fillings_along symbols texts s vs) end (read Page bytes d)

-- a text
text-filled : (bytes : List ℕ) (p b q : Place) (s : LexState ValueState) (vs : List Filling) (t : List LexEvent) (m d : Config ValueState)
    (symbols : List Symbol) (texts : List (List ℕ)) (more : List ℕ) → IsValid p → IsIn p s → after_text bytes p ≡ Ok b
    → TextStands languages s t m → StandsRaw s vs m d
    → ((t : List LexEvent) (m d : Config ValueState) → IsIn b (node bytes s) → TextStands languages (node bytes s) t m
    → StandsRaw (node bytes s) vs m d
    → IsFilled symbols texts more q (node bytes s) vs t d)
    → IsFilled (Written bytes ∷ symbols) texts (written_at bytes p ++ more) q s vs t d
text-filled bytes p b q s vs t m d symbols texts more v i accepted l f rest =
    let c = read_node languages bytes (config s t) in
    let out = written_at bytes p in
    let k = keeps-shape bytes p b s t m v i accepted l in
    let own = node-state bytes s t in
    let beside = subst (λ (z : List ℕ). StandsRaw (node bytes s) vs (read Page z m) (read Page z d)) (written-on-paths bytes p b s v i accepted)
    (raw-node bytes p b s vs m d v i accepted f) in
    let r = rest c.emitted (read Page out m) (read Page out d) (subst (IsIn b) own k.0)
    (subst (λ (a : LexState ValueState). TextStands languages a c.emitted (read Page out m)) own k.1) beside in
    record {
      end = r.end;
      is_in = subst (λ (a : LexState ValueState). IsIn q (read_path languages symbols (config a c.emitted)).at) (sym own) r.is_in;
      stands = subst (λ (a : LexState ValueState). TextStands languages (read_path languages symbols (config a c.emitted)).at
          (read_path languages symbols (config a c.emitted)).emitted r.end) (sym own) r.stands;
      beside = subst (λ (a : LexState ValueState). StandsRaw (read_path languages symbols (config a c.emitted)).at
          (fillings_along symbols texts (node bytes s) vs) r.end
          (read Page (out ++ more) d)) (sym own)
          (subst (StandsRaw (read_path languages symbols (config (node bytes s) c.emitted)).at
          (fillings_along symbols texts (node bytes s) vs) r.end) (sym (read-append Page out more d)) r.beside);
    }

-- the bytes of a hole, before more
hole-bytes : (left_out : Bool) (bytes : List ℕ) (d : Config ValueState) (parts : List ShapePart) → ArePlainUnless left_out bytes d
    → event_bytes (parts_unless left_out bytes ++ parts) ≡ bytes ++ event_bytes parts
hole-bytes true bytes d parts k = ap (λ (z : List ℕ). z ++ event_bytes parts) (sym k)
hole-bytes false bytes d parts k = refl

-- where both readings come over a hole
pub over-hole : (left_out : Bool) (s : LexState ValueState) (text bytes : List ℕ) (vs : List Filling) (t : List LexEvent) (m d e : Config ValueState)
    → LeadsUnless left_out s text bytes → ArePlainUnless left_out bytes m → PageReads (parts_unless left_out bytes) m e → TextStands languages s t m
    → StandsRaw s vs m d
    → StandsRaw (at_hole languages s) (fillings_at s text vs) e (read Page bytes d)
over-hole true s text bytes vs t m d e leads p h l f =
    subst (λ (z : Config ValueState). StandsRaw (at_hole languages s) (fillings_at s text vs) z (read Page bytes d)) (sym h)
    (subst (λ (z : List ℕ). StandsRaw (at_hole languages s) (fillings_at s text vs) m (read Page z d)) (sym p) (leads vs t m d l f))
over-hole false s text bytes vs t m d e leads p (inl h) l f =
    subst (λ (z : Config ValueState). StandsRaw (at_hole languages s) (fillings_at s text vs) z (read Page bytes d)) (sym h.1) (leads vs t m d l f)
over-hole false s text bytes vs t m d e leads p (inr h) l f = absurd (h.0 p)

hole-filled : (p b q : Place) (x : Chain) (datum : Data) (bytes : List ℕ) (s : LexState ValueState) (vs : List Filling) (t : List LexEvent)
    (m d : Config ValueState) (symbols : List Symbol) (texts : List (List ℕ)) (parts : List ShapePart) → IsValid p → IsIn p s
    → after_hole p ≡ Ok (b, x) → IsBackBy x datum bytes → TextStands languages s t m → StandsRaw s vs m d
    → ((vs : List Filling) (t : List LexEvent) (m d : Config ValueState) → IsIn b (at_hole languages s)
    → TextStands languages (at_hole languages s) t m
    → StandsRaw (at_hole languages s) vs m d
    → IsFilled symbols texts (event_bytes parts) q (at_hole languages s) vs t d)
    → IsFilled (Hole ∷ symbols) (printed datum ∷ texts) (event_bytes (hole_parts x bytes ++ parts)) q s vs t d
hole-filled p b q x datum bytes s vs t m d symbols texts parts v i accepted k l f rest =
    let leads = hole-leads p b x s datum bytes v i accepted k in
    let kept = keeps-hole p b x datum bytes s t m v i accepted k l in
    let e = kept.2.0 in
    let r = rest (fillings_at s (printed datum) vs) (mark_in languages s t) e (read Page bytes d) kept.0 kept.2.2
    (over-hole (leaves_out x) s (printed datum) bytes vs t m d e leads kept.1 kept.2.1 l f) in
    let same = ap (λ (z : List ℕ). read Page z d) (hole-bytes (leaves_out x) bytes m parts kept.1) ∙ read-append Page bytes (event_bytes parts) d in
    record {
      end = r.end;
      is_in = r.is_in;
      stands = r.stands;
      beside = subst (StandsRaw (read_path languages symbols (config (at_hole languages s) (mark_in languages s t))).at
          (fillings_along symbols texts (at_hole languages s) (fillings_at s (printed datum) vs)) r.end) (sym same) r.beside;
    }

over : (p q : Place) (s : LexState ValueState) → IsIn p s → IsOver p q → IsIn q s
over p q s i o = record { own = i.own; stands = i.stands; valid = i.valid; below = the_order.1 i.own p q i.below o.below }

pieces-filled : (pieces : List TextPiece) (p q : Place) (s : LexState ValueState) (vs : List Filling) (t : List LexEvent) (m d : Config ValueState)
    → IsIn p s → AreAccepted pieces p q → TextStands languages s t m → StandsRaw s vs m d
    → IsFilled (path_of pieces) (texts_in pieces) (event_bytes (page_of pieces)) q s vs t d
pieces-filled [] p q s vs t m d i a l f = record { end = m; is_in = over p q s i a; stands = l; beside = f }
pieces-filled (TextAt at bytes ∷ pieces) p q s vs t m d i a l f =
    let b = a.1.0 in
    text-filled bytes at b q s vs t m d (path_of pieces) (texts_in pieces) (event_bytes (page_of pieces)) a.0.valid (over p at s i a.0) a.1.1 l f
    (λ t m d i l f. pieces-filled pieces b q (node bytes s) vs t m d i a.1.2 l f)
pieces-filled (HoleAt at x datum bytes ∷ pieces) p q s vs t m d i a l f =
    let b = a.1.0 in
    hole-filled at b q x datum bytes s vs t m d (path_of pieces) (texts_in pieces) (page_of pieces) a.0.valid (over p at s i a.0) a.1.1 a.1.2 l f
    (λ vs t m d i l f. pieces-filled pieces b q (at_hole languages s) vs t m d i a.1.3 l f)

-- in text both readings are where the path is
pub in-text-filled : (c m d : Config ValueState) (vs : List Filling) → IsIn place.Text c.at → TextStands languages c.at c.emitted m
    → StandsRaw c.at vs m d
    → (d.at ≡ c.at) × Fills c.emitted vs d.emitted
in-text-filled c m d vs i l f =
    let own = in-text c.at i in
    let there : m ≡ config (Text Closed) c.emitted =
    same-state c.at c.emitted m (ap holds_nothing own) l ∙ ap (λ (z : LexState ValueState). config z c.emitted) own in
    let beside = raw-beside (Text Closed) vs c.emitted m d tt (subst (λ (z : LexState ValueState). TextStands languages z c.emitted m) own l)
    (subst (λ (z : LexState ValueState). StandsRaw z vs m d) own f) in
    let r = raw-there (Text Closed) vs c.emitted m d tt there beside in
    (ap (λ (z : Config ValueState). z.at) r.0 ∙ sym own, r.1)

pub pages-fill-paths : PagesFillPaths
pages-fill-paths pieces a =
    let c = read_path languages (path_of pieces) start in
    let page = read Page (event_bytes (page_of pieces)) start in
    let r = pieces-filled pieces place.Text place.Text start.at [] [] start start stands-at-start.0 a stands-at-start.1
    (beside-raw start.at [] start start (refl, (refl, refl))) in
    let k = in-text-filled c r.end page (fillings_along (path_of pieces) (texts_in pieces) start.at []) r.is_in r.stands r.beside in
    record { ends = k.0; events = k.1 }
