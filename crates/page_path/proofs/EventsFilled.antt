-- The page of events, read without knowing where values stand in it, goes beside its reading with marks, which are filled by the values.
use Rattle.std.proofs.Common.{ℕ, List, [], ◌∷◌, ◌++◌, Option, ap, ◌∙◌}
use Rattle.html_step.specs.Steps.{after_text}
use Rattle.page_path.proofs.Finding.{AllFind, Finds, event_symbols, symbols_from}
use Rattle.page_path.proofs.StyleBack.{WrittenInLanguages}
use Rattle.page_path.proofs.OwnPieces.{text-at-place}
use Rattle.page_path.proofs.PiecesFilled.{IsFilled, hole-filled, text-filled}
use Rattle.page_path.specs.Pages.{bytes_in, event_pieces, kind_in, open_behind, page_bytes, pieces_from, state_behind}
use Rattle.page_path.specs.Soundness.{event_texts, texts_of}
use Rattle.page_path.specs.Textual.{AreTextual, IsTextual}
use Rattle.place_flow.specs.Covering.{ChartByName, Pair, sign_pairs}
use Rattle.place_core.specs.place.Errors.{node}
use Rattle.place_core.specs.page.Events.{LexEvent}
use Rattle.place_core.specs.page.Paths.{at_hole}
use Rattle.place_core.specs.page.States.{Config, LexState}
use Rattle.place_core.specs.page.Tags.{ValueState, languages}
use Rattle.place_core.specs.declared.place.Place.{Place}
use Rattle.text_norm.proofs.FilledMarks.{StandsRaw}
use Rattle.text_norm.specs.Fillings.{Filling}
use Rattle.text_norm.specs.Standing.{TextStands}
use Rattle.tpl_events.specs.Events.{Emission, ExecEvent, enters, gives_hole, gives_text, leaves}
use Rattle.tpl_paths.specs.Edges.{before}
use Rattle.page_path.specs.Taken.{move_sign}
use Rattle.tpl_tree.specs.Forests.{ForestData}
use Rattle.tpl_tree.specs.declared.node_kind.NodeKind.{NodeKind}

module _ (laws : WrittenInLanguages) (forest : ForestData) (chart : ChartByName Place) where
  -- the bytes of events, and the symbols and the texts of their path
  abbrev FilledFrom : List Emission → List (List ℕ) → LexState ValueState → List Filling → List LexEvent → Config ValueState → Type 0
  FilledFrom gs ts s vs t d = IsFilled (symbols_from forest gs ts) (texts_of gs) (page_bytes (pieces_from forest gs ts s)) s vs t d

  abbrev FilledAt : ExecEvent → List Emission → List (List ℕ) → LexState ValueState → List Filling → List LexEvent → Config ValueState → Type 0
  FilledAt e gs ts s vs t d =
      (let us = open_behind forest e ts in
      IsFilled (event_symbols forest e ts (symbols_from forest gs us)) (event_texts e (texts_of gs))
      (page_bytes (event_pieces forest e ts s ++ pieces_from forest gs us (state_behind forest e ts s))) s vs t d)

  event-filled : (e : ExecEvent) (gs : List Emission) (ps : List (Pair Place)) (ts : List (List ℕ)) (s : LexState ValueState)
      (vs : List Filling) (t : List LexEvent) (m d : Config ValueState) → Finds forest chart e ps ts s → IsTextual forest chart e ps
      → TextStands languages s t m → StandsRaw s vs m d
      → (let r = state_behind forest e ts s in
      (vs : List Filling) (t : List LexEvent) (m d : Config ValueState) → TextStands languages r t m → StandsRaw r vs m d
      → FilledFrom gs (open_behind forest e ts) r vs t d)
      → FilledAt e gs ts s vs t d
  event-filled e gs [] ts s vs t m d f is_text l k rest = absurd f
  event-filled (gives_text n) gs (p ∷ ps) ts s vs t m d f is_text l k rest =
      let h = f.here in
      let bytes = bytes_in (kind_in forest ts n) in
      let accepted = ap (λ (o : Option NodeKind). after_text (bytes_in o) h.place) h.innermost ∙ f.accepted in
      text-filled bytes h.place f.next s vs t m d (symbols_from forest gs ts) (texts_of gs)
      (page_bytes (pieces_from forest gs ts (node bytes s))) h.valid h.is_in accepted l k (rest vs)
  event-filled (gives_hole n datum) gs (p ∷ ps) ts s vs t m d f is_text l k rest =
      let h = f.here in
      let text = text-at-place (chart p.template p.entry (before n)) h.place f.next f.chain datum h.there f.accepted is_text in
      hole-filled laws h.place f.next f.chain datum s vs t m d (symbols_from forest gs ts) (texts_of gs)
      (pieces_from forest gs ts (at_hole languages s)) h.valid h.is_in f.accepted text l k rest
  event-filled (enters n) gs (p ∷ ps) ts s vs t m d f is_text l k rest = rest vs t m d l k
  event-filled leaves gs (p ∷ ps) ts s vs t m d f is_text l k rest = rest vs t m d l k

  pub events-filled : (gs : List Emission) (ps : List (Pair Place)) (ts : List (List ℕ)) (s : LexState ValueState) (vs : List Filling)
      (t : List LexEvent) (m d : Config ValueState) → AllFind forest chart gs ps ts s → AreTextual forest chart gs ps
      → TextStands languages s t m → StandsRaw s vs m d → FilledFrom gs ts s vs t d
  events-filled [] ps ts s vs t m d f are_texts l k = record { end = m; stands = l; beside = k }
  events-filled (g ∷ gs) ps ts s vs t m d f are_texts l k =
      let e = g.event in
      let qs = sign_pairs forest chart (move_sign e) ps in
      event-filled e gs ps ts s vs t m d f.0 are_texts.0 l k
      (λ vs t m d l k. events-filled gs qs (open_behind forest e ts) (state_behind forest e ts s) vs t m d f.1 are_texts.1 l k)
