-- The page of an execution that is done is sound.
use Rattle.std.proofs.Common.{◌≡◌, ℕ, List, [], ◌∷◌, ◌++◌, Option, Some, refl, sym, ap, ◌∙◌, subst}
use Rattle.std.proofs.lemmas.List.Elements.{All-contains}
use Rattle.html_step.specs.Steps.{after_text}
use Rattle.page_path.proofs.EventsFilled.{events-filled}
use Rattle.page_path.proofs.Finding.{AllFind, Finds, event_symbols, symbols_from}
use Rattle.page_path.proofs.StyleBack.{WrittenInLanguages}
use Rattle.page_path.proofs.OwnPieces.{text-at-place}
use Rattle.page_path.proofs.PiecesFilled.{IsFilled}
use Rattle.page_path.proofs.PiecesRead.{IsReadTo, StandsFor, hole-read, node-state, one-end, text-read}
use Rattle.page_path.proofs.Walked.{along-root}
use Rattle.page_path.specs.Laws.{IsRootOf, PagesAreSound, SoundPagesHaveTheShapeOfTheirPath}
use Rattle.page_path.specs.Pages.{bytes_in, event_pieces, kind_in, open_behind, page_bytes, page_parts, pieces_from, pieces_of, state_behind}
use Rattle.page_path.specs.Soundness.{IsDone, path_symbols, texts_of}
use Rattle.place_flow.specs.Covering.{ChartByName, IsCovered, IsStack, Pair, pair, pairs_along, read_moves, sign_pairs}
use Rattle.place_flow.specs.HtmlCovering.{html_language}
use Rattle.place_core.specs.place.Errors.{node}
use Rattle.place_core.specs.page.Events.{LexEvent}
use Rattle.place_core.specs.page.Html.{read, start}
use Rattle.place_core.specs.place.Membership.{IsIn}
use Rattle.place_core.specs.page.Paths.{Symbol, at_hole, read_node, read_path}
use Rattle.place_core.specs.page.References.{Closed}
use Rattle.place_core.specs.page.Shape.{PageReads, shape_of}
use Rattle.place_core.specs.page.States.{Config, Page, LexState, Text}
use Rattle.place_core.specs.page.Tags.{ValueState, languages}
use Rattle.place_core.specs.declared.place.Place.{Place}
use Rattle.place_core.specs.declared.place.Place.TheVariants as place
use Rattle.place_flow.specs.declared.point_state.PointState.{PointState}
use Rattle.place_flow.specs.declared.point_state.PointState.TheVariants.{Unreached, At, Conflict}
use Rattle.place_infer.proofs.JudgedCharts.{root-in}
use Rattle.place_infer.specs.ChartViews.{ChartData}
use Rattle.place_infer.specs.Inferring.{EndsInText, root_numbers}
use Rattle.place_chart.specs.Exact.{point_place, places_at, places_of}
use Rattle.place_chart.specs.Summaries.{chart_of}
use Rattle.text_norm.proofs.FilledMarks.{beside-raw}
use Rattle.text_norm.proofs.PagesFill.{in-text-filled}
use Rattle.text_norm.proofs.PiecesKeep.{stands-at-start}
use Rattle.text_norm.proofs.Emits.{in-text, same-state}
use Rattle.text_norm.specs.Fillings.{FillsPath, fillings_along}
use Rattle.text_norm.specs.Standing.{TextStands}
use Rattle.text_norm.specs.StandsLaws.{holds_nothing}
use Rattle.tpl_events.specs.Events.{Emission, ExecEvent, enters, gives_hole, gives_text, leaves}
use Rattle.tpl_exec.specs.Meaning.{meaning}
use Rattle.tpl_exec.specs.Runs.{End, broken, continued, faulted, next}
use Rattle.tpl_paths.specs.Edges.{before, calls, fills, finish_point, passes, picks, writes}
use Rattle.tpl_paths.specs.Paths.{IsPath, Move, Standing, along, at_root, back, reached, signs_of, open_standing}
use Rattle.page_path.specs.Taken.{Arrives, exits, move_sign}
use Rattle.page_path.specs.Textual.{AreTextual, IsTextual}
use Rattle.tpl_tree.specs.Forests.{ForestData}
use Rattle.tpl_tree.specs.declared.node_kind.NodeKind.{NodeKind}

module _ (laws : WrittenInLanguages) (forest : ForestData) (chart : ChartByName Place) where
  -- the pieces of events, and the symbols of their path
  abbrev ReadFrom : List Emission → List (List ℕ) → LexState ValueState → List LexEvent → Config ValueState → Type 0
  ReadFrom gs ts s t d = IsReadTo (pieces_from forest gs ts s) (symbols_from forest gs ts) s t d

  abbrev ReadAt : ExecEvent → List Emission → List (List ℕ) → LexState ValueState → List LexEvent → Config ValueState → Type 0
  ReadAt e gs ts s t d =
      (let us = open_behind forest e ts in
      IsReadTo (event_pieces forest e ts s ++ pieces_from forest gs us (state_behind forest e ts s))
      (event_symbols forest e ts (symbols_from forest gs us)) s t d)

  event-read : (e : ExecEvent) (gs : List Emission) (ps : List (Pair Place)) (ts : List (List ℕ)) (s : LexState ValueState) (t : List LexEvent)
      (d : Config ValueState) → Finds forest chart e ps ts s → IsTextual forest chart e ps → TextStands languages s t d
      → (let r = state_behind forest e ts s in
      (u : List LexEvent) (c : Config ValueState) → TextStands languages r u c → ReadFrom gs (open_behind forest e ts) r u c)
      → ReadAt e gs ts s t d
  event-read e gs [] ts s t d f u l rest = absurd f
  event-read (gives_text n) gs (p ∷ ps) ts s t d f u l rest =
      let h = f.here in
      let bytes = bytes_in (kind_in forest ts n) in
      let accepted = ap (λ (o : Option NodeKind). after_text (bytes_in o) h.place) h.innermost ∙ f.accepted in
      text-read bytes h.place f.next s t d (pieces_from forest gs ts (node bytes s)) (symbols_from forest gs ts) h.valid h.is_in accepted l
      rest
  event-read (gives_hole n datum) gs (p ∷ ps) ts s t d f u l rest =
      let h = f.here in
      let more = pieces_from forest gs ts (at_hole languages s) in
      let text = text-at-place (chart p.template p.entry (before n)) h.place f.next f.chain datum h.there f.accepted u in
      hole-read laws h.place f.next f.chain datum s t d more (symbols_from forest gs ts) h.valid h.is_in f.accepted text l rest
  event-read (enters n) gs (p ∷ ps) ts s t d f u l rest = rest t d l
  event-read leaves gs (p ∷ ps) ts s t d f u l rest = rest t d l

  events-read : (gs : List Emission) (ps : List (Pair Place)) (ts : List (List ℕ)) (s : LexState ValueState) (t : List LexEvent)
      (d : Config ValueState) → AllFind forest chart gs ps ts s → AreTextual forest chart gs ps → TextStands languages s t d → ReadFrom gs ts s t d
  events-read [] ps ts s t d f u l = record { end = d; are = record { reads = refl; back = tt }; stands = l }
  events-read (g ∷ gs) ps ts s t d f u l =
      let e = g.event in
      let qs = sign_pairs forest chart (move_sign e) ps in
      event-read e gs ps ts s t d f.0 u.0 l
      (λ v c k. events-read gs qs (open_behind forest e ts) (state_behind forest e ts s) v c f.1 u.1 k)

-- what the symbols of moves lead to is what the moves lead to
path-state : (ms : List Move) (c : Config ValueState) → (read_path languages (path_symbols ms) c).at ≡ read_moves html_language ms c.at
path-state [] c = refl
path-state (along (writes n bytes to) ∷ ms) c =
    path-state ms (read_node languages bytes c) ∙ ap (read_moves html_language ms) (node-state bytes c.at c.emitted)
path-state (along (fills n pipe to) ∷ ms) c = path-state ms _
path-state (along (calls n name to) ∷ ms) c = path-state ms c
path-state (along (picks from choice to) ∷ ms) c = path-state ms c
path-state (along (passes from to) ∷ ms) c = path-state ms c
path-state (back ∷ ms) c = path-state ms c

-- where an execution that is done leads
landed : (root : List ℕ) (end : End) (b : Standing) → IsDone end → Arrives (exits [] root finish_point finish_point finish_point) end b
    → b ≡ open_standing [] root finish_point
landed root (next state) b is l = l
landed root (broken state) b is l = l
landed root (continued state) b is l = l
landed root (faulted why) b is l = absurd is

-- At the end of a root the path is in text.
some-one : (x y : Place) → Some x ≡ Some y → x ≡ y
some-one x y e = cc

text-spot : (s : PointState) (p : Place) → EndsInText s → point_place s ≡ Some p → p ≡ place.Text
text-spot Unreached p ends e = cc
text-spot (At q) p ends e = sym (some-one q p e) ∙ ends
text-spot Conflict p ends e = absurd ends

entry-text : (forest : ForestData) (chart : ChartByName Place) (t : List ℕ) (p : Place) (ps : List (Pair Place))
    → IsStack forest chart place.Text [] t p ps → p ≡ place.Text
entry-text forest chart t p [] st = st
entry-text forest chart t p (q ∷ qs) st = absurd st

ends-in-text : (forest : ForestData) (names : List (List ℕ)) (chart : ChartData) (root : List ℕ) (ps : List (Pair Place))
    (s : LexState ValueState) → IsRootOf forest names chart root
    → IsCovered html_language forest (places_of forest chart.summaries) place.Text (open_standing [] root finish_point) ps s → s ≡ Text Closed
ends-in-text forest names chart root ps s r c =
    let places = places_of forest chart.summaries in
    let point_state : ℕ → PointState = λ t. chart_of chart.summaries t place.Text finish_point in
    let among = root-in forest names root r.number r.among r.numbered in
    let ends = All-contains (λ (t : ℕ). EndsInText (point_state t)) (root_numbers forest names) r.number r.is.ends among in
    let number = sym (ap (λ (o : Option ℕ). places_at chart.summaries o place.Text finish_point) r.numbered) in
    let entry = sym (ap (λ (p : Place). places root p finish_point) (entry-text forest places root c.entry c.below c.opened)) in
    let text = text-spot (point_state r.number) c.place ends (number ∙ entry ∙ c.there) in
    in-text s (subst (λ (p : Place). IsIn p s) text c.is_in.1)

-- the path of an execution that is done leads to its root's end, and to text
root-read : (forest : ForestData) (names : List (List ℕ)) (chart : ChartData) (root : List ℕ) (moves : List Move)
    → IsRootOf forest names chart root → IsPath forest (at_root forest root) moves
    → reached forest (at_root forest root) moves ≡ open_standing [] root finish_point → (read_path languages (path_symbols moves) start).at ≡ Text Closed
root-read forest names chart root moves r walk whole =
    let places = places_of forest chart.summaries in
    let ps = pairs_along forest places (signs_of moves) (pair root place.Text ∷ []) in
    let s = read_moves html_language moves start.at in
    let covered = r.is.covers root r.number r.among r.numbered moves walk in
    let at_end = subst (λ (a : Standing). IsCovered html_language forest places place.Text a ps s) whole covered in
    path-state moves start ∙ ends-in-text forest names chart root ps s r at_end

-- where the path ends in text, the page's reading is there too, and has emitted the path's events with its marks filled
raw-read : (symbols : List Symbol) (texts : List (List ℕ)) (bytes : List ℕ) → (read_path languages symbols start).at ≡ Text Closed
    → IsFilled symbols texts bytes start.at [] start.emitted start → FillsPath symbols texts bytes
raw-read symbols texts bytes own f =
    let c = read_path languages symbols start in
    let is_in = subst (IsIn place.Text) (sym own) stands-at-start.0 in
    let there = in-text-filled c f.end (read Page bytes start) (fillings_along symbols texts start.at []) is_in f.stands f.beside in
    record { ends = there.0; events = there.1 }

pub pages-are-sound : WrittenInLanguages → PagesAreSound
pages-are-sound laws forest names chart root datum r done textual =
    let run = meaning forest root datum in
    let v = along-root forest names chart root datum r in
    let moves = v.taken.moves in
    let c = read_path languages (path_symbols moves) start in
    let parts = page_parts (pieces_of forest root datum) in
    let whole = landed root run.end (reached forest (at_root forest root) moves) done v.taken.lands in
    let own = root-read forest names chart root moves r v.taken.walk whole in
    let page = events-read laws forest (places_of forest chart.summaries) run.events (pair root place.Text ∷ []) (root ∷ []) start.at start.emitted start
    v.found.find textual stands-at-start.1 in
    let filled = events-filled laws forest (places_of forest chart.summaries) run.events (pair root place.Text ∷ []) (root ∷ []) start.at []
    start.emitted start start v.found.find textual stands-at-start.1 (beside-raw start.at [] start start (refl, (refl, refl))) in
    let bytes = page_bytes (pieces_of forest root datum) in
    let same = sym v.found.same in
    let stands = subst (λ (z : List Symbol). StandsFor (read_path languages z start) page.end) same page.stands in
    let reads = subst (PageReads parts start) (same-state c.at c.emitted page.end (ap holds_nothing own) stands) page.are.reads in
    record {
      finished = done;
      bytes = refl;
      takes = record {
        path = moves;
        walk = v.taken.walk;
        taken = v.taken.same_choices;
        same = v.taken.same_signs;
        whole = whole;
      };
      reads = record { reads = reads; no_other = λ end h. one-end parts start end c h reads; in_text = own };
      values = page.are.back;
      raw = raw-read (path_symbols moves) (texts_of run.events) bytes own
          (subst (λ (z : List Symbol). IsFilled z (texts_of run.events) bytes start.at [] start.emitted start) same filled);
    }

pub shape-of-path : SoundPagesHaveTheShapeOfTheirPath
shape-of-path forest root datum page sound end reads = ap shape_of (sound.reads.no_other end reads)
