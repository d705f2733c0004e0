-- The bytes of a page, read without knowing where values stand in it, beside the reading with marks that stands for its path: a text, and a hole,
-- before more.
use Rattle.std.proofs.Common.{◌≡◌, ℕ, Bool, true, false, List, [], ◌∷◌, ◌++◌, Ok, refl, sym, ap, ◌∙◌, subst}
use Rattle.std.specs.Prelude.{if◌then◌else◌}
use Rattle.html_step.specs.Holes.{after_hole}
use Rattle.html_step.specs.Steps.{after_text}
use Rattle.page_path.proofs.HolesBack.{is-safe}
use Rattle.page_path.proofs.StyleBack.{WrittenInLanguages}
use Rattle.page_path.proofs.OwnPieces.{on-path}
use Rattle.page_path.proofs.PiecesRead.{StandsFor, node-state}
use Rattle.page_datum.specs.Data.{Data}
use Rattle.page_datum.specs.Printed.{printed}
use Rattle.page_path.specs.Pages.{PagePiece, chain_bytes, hole_pieces, page_bytes, value}
use Rattle.page_path.specs.Textual.{IsTextBy}
use Rattle.place_core.proofs.Readings.{read-append}
use Rattle.place_core.specs.place.Errors.{node}
use Rattle.place_core.specs.page.Events.{LexEvent}
use Rattle.place_core.specs.page.Html.{read}
use Rattle.place_core.specs.place.Membership.{IsIn}
use Rattle.place_core.specs.page.Paths.{Hole, Symbol, Written, at_hole, mark_in, read_node, read_path}
use Rattle.place_core.specs.place.Places.{IsValid}
use Rattle.place_core.specs.place.StatePlaces.{placed}
use Rattle.place_core.specs.page.States.{Config, Page, LexState, config}
use Rattle.place_core.specs.page.Tags.{ValueState, languages}
use Rattle.place_core.specs.declared.chain.Chain.{Chain}
use Rattle.place_core.specs.declared.place.Place.{Place}
use Rattle.text_norm.proofs.FilledMarks.{StandsRaw}
use Rattle.text_norm.proofs.HoleKeeps.{keeps-hole}
use Rattle.text_norm.proofs.HolesLead.{hole-leads}
use Rattle.text_norm.proofs.Keeps.{keeps-shape}
use Rattle.text_norm.proofs.PagesFill.{over-hole}
use Rattle.text_norm.proofs.Same.{written-on-paths}
use Rattle.text_norm.proofs.SlashReads.{raw-node}
use Rattle.text_norm.specs.Fillings.{Filling, fillings_along, fillings_at}
use Rattle.text_norm.specs.HoleLaws.{ArePlainUnless, leaves_out}
use Rattle.text_norm.specs.Standing.{TextStands, page}
use Rattle.text_norm.specs.Written.{written}

-- Where bytes and the symbols of a path lead: the reading with marks, which stands for the path, and that of bytes alone beside it, with its marks
-- filled by the values with these texts.
pub record IsFilled (symbols : List Symbol) (texts : List (List ℕ)) (bytes : List ℕ) (s : LexState ValueState) (vs : List Filling)
    (t : List LexEvent) (d : Config ValueState) : Type 0 where
  pub end : Config ValueState
  pub stands : StandsFor (read_path languages symbols (config s t)) end
  pub beside : StandsRaw (read_path languages symbols (config s t)).at (fillings_along symbols texts s vs) end (read Page bytes d)

-- a text
pub text-filled : (bytes : List ℕ) (p q : Place) (s : LexState ValueState) (vs : List Filling) (t : List LexEvent) (m d : Config ValueState)
    (symbols : List Symbol) (texts : List (List ℕ)) (more : List ℕ) → IsValid p → IsIn p s → after_text bytes p ≡ Ok q
    → TextStands languages s t m → StandsRaw s vs m d
    → ((t : List LexEvent) (m d : Config ValueState) → TextStands languages (node bytes s) t m → StandsRaw (node bytes s) vs m d
    → IsFilled symbols texts more (node bytes s) vs t d)
    → IsFilled (Written bytes ∷ symbols) texts (written languages bytes s ++ more) s vs t d
text-filled bytes p q s vs t m d symbols texts more v i accepted l f rest =
    let c = read_node languages bytes (config s t) in
    let out = written languages bytes s in
    let own = sym (written-on-paths bytes p q s v i accepted) in
    let here = subst (λ (w : List ℕ). StandsFor c (page languages w m)) own (keeps-shape bytes p q s t m v i accepted l).1 in
    let same = node-state bytes s t in
    let r = rest c.emitted (read Page out m) (read Page out d)
    (subst (λ (a : LexState ValueState). TextStands languages a c.emitted (read Page out m)) same here)
    (raw-node bytes p q s vs m d v i accepted f) in
    record {
      end = r.end;
      stands = subst (λ (a : LexState ValueState). StandsFor (read_path languages symbols (config a c.emitted)) r.end) (sym same) r.stands;
      beside = subst (λ (a : LexState ValueState). StandsRaw (read_path languages symbols (config a c.emitted)).at
          (fillings_along symbols texts (node bytes s) vs) r.end (read Page (out ++ more) d)) (sym same)
          (subst (StandsRaw (read_path languages symbols (config (node bytes s) c.emitted)).at
          (fillings_along symbols texts (node bytes s) vs) r.end) (sym (read-append Page out more d)) r.beside);
    }

-- the bytes of a hole before more pieces
hole-bytes : (left_out : Bool) (datum : Data) (bytes : List ℕ) (d : Config ValueState) (more : List PagePiece) → ArePlainUnless left_out bytes d
    → page_bytes ((if left_out then [] else value datum bytes ∷ []) ++ more) ≡ bytes ++ page_bytes more
hole-bytes true datum bytes d more p = ap (λ (z : List ℕ). z ++ page_bytes more) (sym p)
hole-bytes false datum bytes d more p = refl

-- a hole
pub hole-filled : WrittenInLanguages → (p q : Place) (c : Chain) (datum : Data) (s : LexState ValueState) (vs : List Filling) (t : List LexEvent)
    (m d : Config ValueState) (symbols : List Symbol) (texts : List (List ℕ)) (more : List PagePiece)
    → IsValid p → IsIn p s → after_hole p ≡ Ok (q, c) → IsTextBy c datum → TextStands languages s t m → StandsRaw s vs m d
    → ((vs : List Filling) (t : List LexEvent) (m d : Config ValueState) → TextStands languages (at_hole languages s) t m
    → StandsRaw (at_hole languages s) vs m d
    → IsFilled symbols texts (page_bytes more) (at_hole languages s) vs t d)
    → IsFilled (Hole ∷ symbols) (printed datum ∷ texts) (page_bytes (hole_pieces (placed s) datum ++ more)) s vs t d
hole-filled laws p q c datum s vs t m d symbols texts more v i accepted is_text l f rest =
    let own = chain_bytes c datum in
    let back = (is-safe p q c s v i accepted).promised laws datum is_text in
    let leads = hole-leads p q c s datum own v i accepted back in
    let kept = keeps-hole p q c datum own s t m v i accepted back l in
    let e = kept.2.0 in
    let r = rest (fillings_at s (printed datum) vs) (mark_in languages s t) e (read Page own d) kept.2.2
    (over-hole (leaves_out c) s (printed datum) own vs t m d e leads kept.1 kept.2.1 l f) in
    let bytes = ap (λ (ps : List PagePiece). page_bytes (ps ++ more)) (on-path p q c s datum v i accepted)
    ∙ hole-bytes (leaves_out c) datum own m more kept.1 in
    let same = ap (λ (z : List ℕ). read Page z d) bytes ∙ read-append Page own (page_bytes more) d in
    record {
      end = r.end;
      stands = r.stands;
      beside = subst (StandsRaw (read_path languages symbols (config (at_hole languages s) (mark_in languages s t))).at
          (fillings_along symbols texts (at_hole languages s) (fillings_at s (printed datum) vs)) r.end) (sym same) r.beside;
    }
