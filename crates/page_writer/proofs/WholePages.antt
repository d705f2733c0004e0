-- The page of a root, as a writer has written it.
use Rattle.std.proofs.Common.{◌≡◌, ◌++◌, ◌∷◌, ℕ, ◌≤◌, List, [], Option, None, Some, Ok, Err, inl, inr, length, refl, string_bytes, sym}
use Rattle.std.proofs.Common.{ap, ◌∙◌, subst, arith}
use Rattle.page_datum.specs.Data.{Data}
use Rattle.page_datum.specs.Execution.{Execution, faulted}
use Rattle.page_path.proofs.Together.{pages-go-by-the-chart}
use Rattle.page_path.specs.Laws.{IsRootOf, PagesAreSound}
use Rattle.page_path.specs.Pages.{page_ended, execution, max_page, page_bytes, pieces_of}
use Rattle.page_path.specs.Soundness.{IsFinished, IsSound}
use Rattle.page_writer.proofs.WrittenPages.{Goes, IsAt, IsWritten, Stand, allowed, over, refused, size, written}
use Rattle.page_writer.specs.Composing.{ComposeAnswers, IsComposed}
use Rattle.page_writer.specs.Outputs.{AreOutputs}
use Rattle.page_writer.specs.Writing.{WriterDeclines, WriterMay, Takes}
use Rattle.page_writer.specs.declared.composing.Composed.{Composed}
use Rattle.page_writer.specs.declared.output.Output.{Output}
use Rattle.page_writer.specs.declared.writer.PageWriter.{PageWriter}
use Rattle.place_flow.specs.Covering.{pair}
use Rattle.place_core.specs.page.Html.{start}
use Rattle.place_core.specs.declared.place.Place.TheVariants as place
use Rattle.place_infer.specs.ChartViews.{ChartData}
use Rattle.tpl_events.specs.Events.{Emission}
use Rattle.tpl_events.specs.Sinks.{Allows, SinkLeads, SinkRefuses}
use Rattle.tpl_events.specs.declared.sink.HoleStop.TheVariants as stop
use Rattle.tpl_exec.specs.Executing.{RunAnswers}
use Rattle.tpl_exec.specs.Meaning.{Finish, finish_of, finished, meaning, stopped}
use Rattle.tpl_exec.specs.Runs.{Run}
use Rattle.tpl_exec.specs.declared.stop.ExecStop.{ExecStop}
use Rattle.tpl_exec.specs.declared.stop.ExecStop.TheVariants.{Fault, Memory, SinkStop}
use Rattle.tpl_tree.specs.Forests.{ForestData}

abbrev pub first : List ℕ → Stand
first root = record { pairs = pair root place.Text ∷ []; templates = root ∷ []; state = start.at }

-- a root of a set, the outputs of its chart, and a writer that begins with the root's pair and has no page yet
pub record Begins (forest : ForestData) (chart : ChartData) (root : List ℕ) (outputs : List (List Output)) (w : PageWriter) : Type 0 where
  pub names : List (List ℕ)
  pub is : IsRootOf forest names chart root
  pub are : AreOutputs forest chart outputs
  pub at : IsAt forest chart outputs w (first root)
  pub page : string_bytes w.page ≡ []

module _ (forest : ForestData) (chart : ChartData) (root : List ℕ) (outputs : List (List Output)) (w : PageWriter)
    (b : Begins forest chart root outputs w) (datum : Data) where
  abbrev run : Run
  run = meaning forest root datum

  goes : Goes forest chart run.events (first root)
  goes = pages-go-by-the-chart forest b.names chart root datum b.is

  few : size w ≤ max_page
  few = (let none = ap length b.page in omega (arith, none))

  pub may_write : Allows WriterMay Takes w run.events
  may_write = allowed forest chart outputs b.is.is.calls b.are w run.events (first root) b.at goes

  -- where the writer took all events, and where it refused one
  taken : (v : PageWriter) → SinkLeads Takes w run.events v → IsWritten forest chart w v run.events (first root)
  taken v led = written forest chart outputs b.is.is.calls b.are w v run.events (first root) b.at goes few led

  stops : (v : PageWriter) (g : Emission) → SinkRefuses Takes WriterDeclines run.events g stop.TooLong w v
      → over forest (size w) run.events (first root) ≡ Some g
  stops v g r =
      ap (λ (gs : List Emission). over forest (size w) gs (first root)) r.3
      ∙ refused forest chart outputs b.is.is.calls b.are w r.2 r.0 r.1 g (first root) b.at
      (subst (λ (gs : List Emission). Goes forest chart gs (first root)) r.3 goes) few r.4 r.5

  -- how the execution ends
  ends : (o : Option Emission) (end : Finish) → over forest (size w) run.events (first root) ≡ o → finish_of run.end ≡ end
      → execution forest root datum ≡ page_ended (page_bytes (pieces_of forest root datum)) o end
  ends o end is e =
      let from_none : over forest 0 run.events (first root) ≡ o =
      subst (λ (bytes : List ℕ). over forest (length bytes) run.events (first root) ≡ o) b.page is in
      ap (λ (x : Option Emission). page_ended (page_bytes (pieces_of forest root datum)) x (finish_of run.end)) from_none
      ∙ ap (page_ended (page_bytes (pieces_of forest root datum)) o) e

  pub composed : PagesAreSound → (v : PageWriter) (made : Composed) → made.page ≡ v.page → RunAnswers Takes WriterDeclines run w v (Ok made.steps)
      → IsComposed forest root datum made
  composed are_sound v made same r =
      let bytes = page_bytes (pieces_of forest root datum) in
      let all = taken v r.0 in
      let whole = ends None (finished made.steps) all.under r.1 in
      let page : string_bytes made.page ≡ bytes =
      ap (λ p. string_bytes p) same ∙ all.page ∙ ap (λ (before : List ℕ). before ++ bytes) b.page in
      record {
        done = ap (λ (x : Execution). x.ending) whole;
        page = page ∙ sym (ap (λ (x : Execution). x.bytes) whole);
        steps = sym (ap (λ (x : Execution). x.steps) whole);
        sound = subst (λ (p : List ℕ). IsSound forest root datum p) (sym page)
            (are_sound forest b.names chart root datum b.is (subst IsFinished (sym r.1) tt) all.textual);
      }

  pub broken_off : (v : PageWriter) (e : ExecStop) → RunAnswers Takes WriterDeclines run w v (Err e) → ComposeAnswers forest root datum (Err e)
  broken_off v (Fault why) (inl r) = ap (λ (x : Execution). x.ending) (ends None (stopped why) (taken v r.0).under (ap finish_of r.1))
  broken_off v (Fault why) (inr r) =
      ap (λ (x : Execution). x.ending) (ends (Some r.0) (finish_of run.end) (stops v r.0 r.1) refl) ∙ ap faulted (sym r.2)
  broken_off v SinkStop r = r.1.5
  broken_off v Memory r = tt
