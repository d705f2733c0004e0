-- A writer that goes by the chart may be given each event of an execution, and writes what the page has for it.
use Rattle.std.proofs.Common.{◌≡◌, ℕ, List, [], ◌∷◌, Option, sym, ap, ◌∙◌, refl, Some}
use Rattle.page_datum.specs.Data.{Data}
use Rattle.page_path.proofs.Finding.{AllFind, Finds, FindsHole, FindsText}
use Rattle.page_path.proofs.OwnPieces.{at-place, on-path}
use Rattle.page_path.proofs.Walked.{along-root}
use Rattle.page_path.specs.ByChart.{ChartMay, pair_pieces, text_pieces}
use Rattle.page_path.specs.Laws.{GoTogether, PagesGoByTheChart}
use Rattle.page_path.specs.Pages.{bytes_in, event_pieces, hole_pieces, kind_in, open_behind, state_behind, words}
use Rattle.place_flow.specs.Covering.{ChartByName, Pair, pair, sign_pairs}
use Rattle.place_core.specs.page.Html.{start}
use Rattle.place_core.specs.place.StatePlaces.{placed}
use Rattle.place_core.specs.page.States.{LexState}
use Rattle.place_core.specs.page.Tags.{ValueState, languages}
use Rattle.place_core.specs.declared.place.Place.{Place}
use Rattle.place_core.specs.declared.place.Place.TheVariants as place
use Rattle.place_chart.specs.Exact.{places_of}
use Rattle.text_norm.proofs.Same.{written-on-paths}
use Rattle.text_norm.specs.Written.{written}
use Rattle.tpl_events.specs.Events.{Emission, ExecEvent, enters, gives_hole, gives_text, leaves}
use Rattle.tpl_exec.specs.Meaning.{meaning}
use Rattle.tpl_paths.specs.Edges.{before, node_kind_at}
use Rattle.page_path.specs.Taken.{move_sign}
use Rattle.tpl_tree.specs.Forests.{ForestData}
use Rattle.tpl_tree.specs.declared.node_kind.NodeKind.{NodeKind}

module _ (forest : ForestData) (chart : ChartByName Place) where
  -- a text and a hole are written alike
  text-alike : (n : ℕ) (p : Pair Place) (ts : List (List ℕ)) (s : LexState ValueState) → FindsText forest chart n p ts s
      → text_pieces (chart p.template p.entry (before n))
      (bytes_in (node_kind_at forest p.template n)) ≡ words (written languages (bytes_in (kind_in forest ts n)) s) ∷ []
  text-alike n p ts s f =
      let here = f.here in
      let own = written-on-paths f.bytes here.place f.next s here.valid here.is_in f.accepted in
      ap (λ (o : Option Place). text_pieces o (bytes_in (node_kind_at forest p.template n))) here.there
      ∙ ap (λ (o : Option NodeKind). text_pieces (Some here.place) (bytes_in o)) here.is
      ∙ ap (λ (bytes : List ℕ). words bytes ∷ []) (sym own)
      ∙ ap (λ (o : Option NodeKind). words (written languages (bytes_in o) s) ∷ []) (sym here.innermost)

  hole-alike : (n : ℕ) (datum : Data) (p : Pair Place) (ts : List (List ℕ)) (s : LexState ValueState) → FindsHole forest chart n p ts s
      → hole_pieces (chart p.template p.entry (before n)) datum ≡ hole_pieces (placed s) datum
  hole-alike n datum p ts s f =
      let here = f.here in
      at-place (chart p.template p.entry (before n)) here.place f.next f.chain datum here.there f.accepted
      ∙ sym (on-path here.place f.next f.chain s datum here.valid here.is_in f.accepted)

  -- an event that finds what it needs may be given
  goes : (e : ExecEvent) (ps : List (Pair Place)) (ts : List (List ℕ)) (s : LexState ValueState) → Finds forest chart e ps ts s
      → ChartMay forest chart e ps × (pair_pieces forest chart e ps ≡ event_pieces forest e ts s)
  goes e [] ts s f = absurd f
  goes (gives_text n) (p ∷ ps) ts s f =
      let h = f.here in (
        record { bytes = f.bytes; place = h.place; next = f.next; is = h.is; there = h.there; accepted = f.accepted },
        text-alike n p ts s f,
      )
  goes (gives_hole n datum) (p ∷ ps) ts s f =
      let h = f.here in (
        record { pipe = f.pipe; place = h.place; next = f.next; chain = f.chain; is = h.is; there = h.there; accepted = f.accepted },
        hole-alike n datum p ts s f,
      )
  goes (enters n) (p ∷ ps) ts s f =
      let h = f.here in
      (record { name = f.name; argument = f.argument; place = h.place; is = h.is; there = h.there; begins = f.begins }, refl)
  goes leaves (p ∷ ps) ts s f = (f, refl)

  go-together : (gs : List Emission) (ps : List (Pair Place)) (ts : List (List ℕ)) (s : LexState ValueState)
      → AllFind forest chart gs ps ts s → GoTogether forest chart gs ps ts s
  go-together [] ps ts s f = tt
  go-together (g ∷ gs) ps ts s f =
      let one = goes g.event ps ts s f.0 in
      let qs = sign_pairs forest chart (move_sign g.event) ps in
      (one.0, one.1, go-together gs qs (open_behind forest g.event ts) (state_behind forest g.event ts s) f.1)

pub pages-go-by-the-chart : PagesGoByTheChart
pages-go-by-the-chart forest names chart root datum r =
    let v = along-root forest names chart root datum r in
    let events = (meaning forest root datum).events in
    go-together forest (places_of forest chart.summaries) events (pair root place.Text ∷ []) (root ∷ []) start.at v.found.find
