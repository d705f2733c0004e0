-- Pieces of a page, and the symbols of its path, from where the page's reading stands for the path: a text, and a hole, before more.
use Rattle.std.proofs.Common.{◌≡◌, ℕ, Bool, true, false, List, [], ◌∷◌, ◌++◌, Ok, inl, inr, refl, sym, ap, ◌∙◌, subst}
use Rattle.std.specs.Prelude.{if◌then◌else◌}
use Rattle.html_step.specs.Holes.{after_hole}
use Rattle.html_step.specs.Steps.{after_text}
use Rattle.page_path.proofs.HolesBack.{BackUnless, is-safe}
use Rattle.page_path.proofs.StyleBack.{WrittenInLanguages}
use Rattle.page_path.proofs.OwnPieces.{on-path}
use Rattle.page_datum.specs.Data.{Data}
use Rattle.page_path.specs.Pages.{PagePiece, chain_bytes, hole_pieces, page_parts, value, words}
use Rattle.page_path.specs.Soundness.{AreValuesBack}
use Rattle.page_path.specs.Textual.{IsTextBy}
use Rattle.place_core.specs.page.Classes.{class_of}
use Rattle.place_core.specs.place.Errors.{node, states}
use Rattle.place_core.specs.page.Events.{LexEvent}
use Rattle.place_core.specs.page.Html.{next, read, read_over, emits}
use Rattle.place_core.specs.place.Membership.{IsIn}
use Rattle.place_core.specs.page.Paths.{Hole, Symbol, Written, at_cut, at_hole, mark_in, read_node, read_path}
use Rattle.place_core.specs.place.Places.{IsValid}
use Rattle.place_core.specs.page.Shape.{HolePart, ShapePart, PageReads, TextPart, marked}
use Rattle.place_core.specs.place.StatePlaces.{placed}
use Rattle.place_core.specs.page.States.{Config, Page, LexState, Template, config}
use Rattle.place_core.specs.page.Tags.{ValueState, languages}
use Rattle.place_core.specs.declared.chain.Chain.{Chain}
use Rattle.place_core.specs.declared.place.Place.{Place}
use Rattle.text_norm.proofs.HoleKeeps.{keeps-hole}
use Rattle.text_norm.proofs.Keeps.{keeps-shape}
use Rattle.text_norm.proofs.Same.{written-on-paths}
use Rattle.text_norm.specs.HoleLaws.{ArePlainUnless, leaves_out, parts_unless}
use Rattle.text_norm.specs.Standing.{TextStands, page}
use Rattle.text_norm.specs.Written.{written}

-- pieces that are read to an end, and whose values read back
pub record AreRead (pieces : List PagePiece) (d end : Config ValueState) : Type 0 where
  pub reads : PageReads (page_parts pieces) d end
  pub back : AreValuesBack pieces d

-- the page's reading stands for the path
abbrev pub StandsFor : Config ValueState → Config ValueState → Type 0
StandsFor c d = TextStands languages c.at c.emitted d

-- pieces that are read to where it stands for the path after these symbols
pub record IsReadTo (pieces : List PagePiece) (symbols : List Symbol) (s : LexState ValueState) (t : List LexEvent) (d : Config ValueState)
    : Type 0 where
  pub end : Config ValueState
  pub are : AreRead pieces d end
  pub stands : StandsFor (read_path languages symbols (config s t)) end

-- the state after a text is that of its bytes
same-states : (bytes : List ℕ) (s : LexState ValueState) (t : List LexEvent)
    → (read_over languages Template bytes (config s t)).at ≡ states bytes s
same-states [] s t = refl
same-states (b ∷ bs) s t = same-states bs (next languages Template s (class_of b) b) (emits languages Template s (class_of b) b t)

pub node-state : (bytes : List ℕ) (s : LexState ValueState) (t : List LexEvent) → (read_node languages bytes (config s t)).at ≡ node bytes s
node-state bytes s t = ap (at_cut languages) (same-states bytes s t)

-- a text
pub text-read : (bytes : List ℕ) (p q : Place) (s : LexState ValueState) (t : List LexEvent) (d : Config ValueState) (pieces : List PagePiece)
    (symbols : List Symbol) → IsValid p → IsIn p s → after_text bytes p ≡ Ok q → TextStands languages s t d
    → ((u : List LexEvent) (e : Config ValueState) → TextStands languages (node bytes s) u e → IsReadTo pieces symbols (node bytes s) u e)
    → IsReadTo (words (written languages bytes s) ∷ pieces) (Written bytes ∷ symbols) s t d
text-read bytes p q s t d pieces symbols v i accepted l rest =
    let c = read_node languages bytes (config s t) in
    let e = read Page (written languages bytes s) d in
    let same = node-state bytes s t in
    let own = sym (written-on-paths bytes p q s v i accepted) in
    let here = subst (λ (z : List ℕ). StandsFor c (page languages z d)) own (keeps-shape bytes p q s t d v i accepted l).1 in
    let r = rest c.emitted e (subst (λ (z : LexState ValueState). TextStands languages z c.emitted e) same here) in
    record {
      end = r.end;
      are = record { reads = r.are.reads; back = r.are.back };
      stands = subst (λ (z : LexState ValueState). StandsFor (read_path languages symbols (config z c.emitted)) r.end) (sym same) r.stands;
    }

-- what a hole has before more pieces, by whether its value is left out
plain-read : (left_out : Bool) (datum : Data) (bytes : List ℕ) (s : LexState ValueState) (t : List LexEvent) (d e end : Config ValueState)
    (pieces : List PagePiece) → ArePlainUnless left_out bytes d → PageReads (parts_unless left_out bytes) d e
    → BackUnless left_out s datum bytes → TextStands languages s t d → AreRead pieces e end
    → AreRead ((if left_out then [] else value datum bytes ∷ []) ++ pieces) d end
plain-read true datum bytes s t d e end pieces p r b l h = subst (λ (z : Config ValueState). AreRead pieces z end) r h
plain-read false datum bytes s t d e end pieces p (inl r) b l h =
    let there = subst (λ (z : Config ValueState). AreRead pieces z end) r.1 h in
    record { reads = inl (p, there.reads); back = (p, b t d l, there.back) }
plain-read false datum bytes s t d e end pieces p (inr r) b l h = absurd (r.0 p)

-- a hole
pub hole-read : WrittenInLanguages → (p q : Place) (c : Chain) (datum : Data) (s : LexState ValueState) (t : List LexEvent) (d : Config ValueState)
    (pieces : List PagePiece) (symbols : List Symbol)
    → IsValid p → IsIn p s → after_hole p ≡ Ok (q, c) → IsTextBy c datum → TextStands languages s t d
    → ((u : List LexEvent)
    (e : Config ValueState) → TextStands languages (at_hole languages s) u e → IsReadTo pieces symbols (at_hole languages s) u e)
    → IsReadTo (hole_pieces (placed s) datum ++ pieces) (Hole ∷ symbols) s t d
hole-read laws p q c datum s t d pieces symbols v i accepted u l rest =
    let safe = is-safe p q c s v i accepted in
    let bytes = chain_bytes c datum in
    let kept = keeps-hole p q c datum bytes s t d v i accepted (safe.promised laws datum u) l in
    let e = kept.2.0 in
    let r = rest (mark_in languages s t) e kept.2.2 in
    let whole = plain-read (leaves_out c) datum bytes s t d e r.end pieces kept.1 kept.2.1 (safe.back laws datum u) l r.are in
    record {
      end = r.end;
      are = subst (λ (z : List PagePiece). AreRead (z ++ pieces) d r.end) (sym (on-path p q c s datum v i accepted)) whole;
      stands = r.stands;
    }

-- parts are read to one end at most
pub one-end : (parts : List ShapePart) (from e f : Config ValueState) → PageReads parts from e → PageReads parts from f → e ≡ f
one-end [] from e f p q = p ∙ sym q
one-end (TextPart bytes ∷ parts) from e f p q = one-end parts (read Page bytes from) e f p q
one-end (HolePart bytes ∷ parts) from e f (inl p) (inl q) = one-end parts (marked bytes from) e f p.1 q.1
one-end (HolePart bytes ∷ parts) from e f (inl p) (inr q) = absurd (q.0 p.0)
one-end (HolePart bytes ∷ parts) from e f (inr p) (inl q) = absurd (p.0 q.0)
one-end (HolePart bytes ∷ parts) from e f (inr p) (inr q) = one-end parts (read Page bytes from) e f p.1 q.1
