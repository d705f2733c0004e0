-- What a writer has written after events that it took.
use Rattle.std.proofs.Common.{◌≡◌, ℕ, ◌+◌, ◌<◌, ◌≤◌, false, List, [], ◌∷◌, ◌++◌, Option, Some, None, append_assoc, append-nil, length}
use Rattle.std.proofs.Common.{length-append, map, nat_le, refl, string_bytes, sym, ap, ◌∙◌, subst, arith}
use Rattle.std.proofs.lemmas.Bool.{le-leb}
use Rattle.std.proofs.lemmas.Bool.Decides.{nat_tests}
use Rattle.std.specs.Prelude.{if◌then◌else◌}
use Rattle.page_path.specs.Laws.{GoTogether}
use Rattle.page_path.specs.Pages.{PagePiece, event_pieces, max_page, open_behind, over_from, page_bytes, page_parts, pieces_from, state_behind}
use Rattle.page_path.specs.Pages.{value, words}
use Rattle.page_path.specs.Textual.{AreTextual}
use Rattle.page_writer.proofs.OpenPairs.{AreNumbers}
use Rattle.page_writer.proofs.PairOutputs.{IsFollowed, followed}
use Rattle.page_writer.specs.Outputs.{AreOutputs}
use Rattle.page_writer.specs.Writing.{IsGivenText, WriterMay, MayGive, Takes, page_open_after, output_pieces, outputs_in}
use Rattle.page_writer.specs.declared.output.Output.{Output}
use Rattle.page_writer.specs.declared.writer.PageWriter.{PageWriter}
use Rattle.place_flow.specs.Covering.{Pair, sign_pairs}
use Rattle.place_core.specs.page.Shape.{HolePart, ShapePart, TextPart, event_bytes}
use Rattle.place_core.specs.page.States.{LexState}
use Rattle.place_core.specs.page.Tags.{ValueState}
use Rattle.place_core.specs.declared.place.Place.{Place}
use Rattle.place_infer.specs.ChartViews.{ArePairCalls, ChartData}
use Rattle.place_chart.specs.Exact.{places_of}
use Rattle.tpl_events.specs.Events.{Emission}
use Rattle.tpl_events.specs.Sinks.{Allows, SinkLeads}
use Rattle.page_path.specs.Taken.{move_sign}
use Rattle.tpl_tree.specs.Forests.{ForestData}

-- the bytes of pieces one after another

parts_of-append : (xs ys : List PagePiece) → page_parts (xs ++ ys) ≡ page_parts xs ++ page_parts ys
parts_of-append [] ys = refl
parts_of-append (words bytes ∷ xs) ys = ap (λ (ps : List ShapePart). TextPart bytes ∷ ps) (parts_of-append xs ys)
parts_of-append (value text bytes ∷ xs) ys = ap (λ (ps : List ShapePart). HolePart bytes ∷ ps) (parts_of-append xs ys)

behind : (bytes more rest both : List ℕ) → both ≡ more ++ rest → bytes ++ both ≡ (bytes ++ more) ++ rest
behind bytes more rest both e = ap (λ (bs : List ℕ). bytes ++ bs) e ∙ sym (append_assoc bytes more rest)

bytes_of-append : (xs ys : List ShapePart) → event_bytes (xs ++ ys) ≡ event_bytes xs ++ event_bytes ys
bytes_of-append [] ys = refl
bytes_of-append (TextPart bytes ∷ xs) ys = behind bytes (event_bytes xs) (event_bytes ys) (event_bytes (xs ++ ys)) (bytes_of-append xs ys)
bytes_of-append (HolePart bytes ∷ xs) ys = behind bytes (event_bytes xs) (event_bytes ys) (event_bytes (xs ++ ys)) (bytes_of-append xs ys)

page_bytes-append : (xs ys : List PagePiece) → page_bytes (xs ++ ys) ≡ page_bytes xs ++ page_bytes ys
page_bytes-append xs ys = ap event_bytes (parts_of-append xs ys) ∙ bytes_of-append (page_parts xs) (page_parts ys)

-- whether a page is longer than it may be

within : (n : ℕ) (a b : Option Emission) → n ≤ max_page → (if nat_le n max_page then a else b) ≡ a
within n a b le = rw (le-leb n max_page le) refl

beyond : (n : ℕ) (a b : Option Emission) → max_page < n → (if nat_le n max_page then a else b) ≡ b
beyond n a b lt = (let e : nat_le n max_page ≡ false = grind (arith, nat_tests) in rw e refl)

abbrev pub size : PageWriter → ℕ
size w = length (string_bytes w.page)

-- how an execution stands: the pairs and the templates that are open, the innermost first, and what the path has read
pub record Stand : Type 0 where
  pub pairs : List (Pair Place)
  pub templates : List (List ℕ)
  pub state : LexState ValueState

abbrev next : ForestData → ChartData → Emission → Stand → Stand
next forest chart g x = record {
  pairs = sign_pairs forest (places_of forest chart.summaries) (move_sign g.event) x.pairs;
  templates = open_behind forest g.event x.templates;
  state = state_behind forest g.event x.templates x.state;
}

abbrev pub Goes : ForestData → ChartData → List Emission → Stand → Type 0
Goes forest chart gs x = GoTogether forest (places_of forest chart.summaries) gs x.pairs x.templates x.state

-- the pieces of one event and of all, and the first event with which a page would be too long
abbrev one : ForestData → Emission → Stand → List PagePiece
one forest g x = event_pieces forest g.event x.templates x.state

abbrev all : ForestData → List Emission → Stand → List PagePiece
all forest gs x = pieces_from forest gs x.templates x.state

abbrev pub over : ForestData → ℕ → List Emission → Stand → Option Emission
over forest n gs x = over_from n forest gs x.templates x.state

-- a page has the pieces of events after what it had, which are none too many
pub record IsWritten (forest : ForestData) (chart : ChartData) (w v : PageWriter) (gs : List Emission) (x : Stand) : Type 0 where
  pub page : string_bytes v.page ≡ string_bytes w.page ++ page_bytes (all forest gs x)
  pub under : over forest (size w) gs x ≡ None
  pub textual : AreTextual forest (places_of forest chart.summaries) gs x.pairs

-- a writer goes by these outputs, and its numbers are those of the pairs that are open
pub record IsAt (forest : ForestData) (chart : ChartData) (outputs : List (List Output)) (w : PageWriter) (x : Stand) : Type 0 where
  pub goes_by : outputs_in w ≡ outputs
  pub numbers : AreNumbers forest chart.summaries w.pairs x.pairs

module _ (forest : ForestData) (chart : ChartData) (outputs : List (List Output)) (calls : ArePairCalls forest chart.summaries chart.calls)
    (are : AreOutputs forest chart outputs) where
  abbrev At : PageWriter → Stand → Type 0
  At w x = IsAt forest chart outputs w x

  -- with one event
  module _ (w : PageWriter) (g : Emission) (gs : List Emission) (x : Stand) (at : At w x) (go : Goes forest chart (g ∷ gs) x) where
    follows : IsFollowed forest chart outputs g.event w.pairs x.pairs
    follows = followed forest chart outputs calls are g.event w.pairs x.pairs at.numbers go.0

    may_be_given : WriterMay w g.event
    may_be_given = subst (λ (os : List (List Output)). MayGive os w.pairs g.event) (sym at.goes_by) follows.may

    -- what is written for it is what is written by the path
    same_pieces : output_pieces (outputs_in w) w.pairs g.event ≡ one forest g x
    same_pieces = ap (λ (os : List (List Output)). output_pieces os w.pairs g.event) at.goes_by ∙ follows.same ∙ go.1

    -- where it is taken
    module _ (u : PageWriter) (took : Takes w g.event u) where
      moved : At u (next forest chart g x)
      moved =
          let opens = took.pairs ∙ ap (λ (os : List (List Output)). page_open_after os w.pairs g.event) at.goes_by in
          record {
            goes_by = ap (map (λ row. row.items)) took.outputs ∙ at.goes_by;
            numbers = subst (λ (ns : List ℕ). AreNumbers forest chart.summaries ns (next forest chart g x).pairs) (sym opens) follows.numbers;
          }

      longer : string_bytes u.page ≡ string_bytes w.page ++ page_bytes (one forest g x)
      longer = took.page ∙ ap (λ (pieces : List PagePiece). string_bytes w.page ++ page_bytes pieces) same_pieces

      count : size u ≡ size w + length (page_bytes (one forest g x))
      count = ap length longer ∙ length-append (string_bytes w.page) (page_bytes (one forest g x))

      -- the page is not too long with it
      goes_on : size w ≤ max_page → over forest (size w) (g ∷ gs) x ≡ over forest (size u) gs (next forest chart g x)
      goes_on few =
          let n = count in let fits = took.fits few in
          within (size w + length (page_bytes (one forest g x))) _ (Some g) (omega (arith, n, fits))
          ∙ ap (λ (k : ℕ). over forest k gs (next forest chart g x)) (sym n)

    -- where with it the page would be too long
    too_long : max_page < size w + length (page_bytes (output_pieces (outputs_in w) w.pairs g.event))
        → over forest (size w) (g ∷ gs) x ≡ Some g
    too_long long =
        beyond (size w + length (page_bytes (one forest g x))) _ (Some g)
        (subst (λ (pieces : List PagePiece). max_page < size w + length (page_bytes pieces)) same_pieces long)

  -- with all of them
  pub allowed : (w : PageWriter) (gs : List Emission) (x : Stand) → At w x → Goes forest chart gs x → Allows WriterMay Takes w gs
  allowed w [] x at go = tt
  allowed w (g ∷ gs) x at go =
      (may_be_given w g gs x at go, λ u took. allowed u gs (next forest chart g x) (moved w g gs x at go u took) go.2)

  pub written : (w v : PageWriter) (gs : List Emission) (x : Stand) → At w x → Goes forest chart gs x → size w ≤ max_page
      → SinkLeads Takes w gs v
      → IsWritten forest chart w v gs x
  written w v [] x at go few led = record {
    page = ap (λ (y : PageWriter). string_bytes y.page) led ∙ sym (append-nil (string_bytes w.page));
    under = refl;
    textual = tt;
  }
  written w v (g ∷ gs) x at go few led =
      let u = led.0 in let took = led.1 in let y = next forest chart g x in
      let rest = written u v gs y (moved w g gs x at go u took) go.2 (took.fits few) led.2 in
      record {
        page = rest.page ∙ ap (λ (bytes : List ℕ). bytes ++ page_bytes (all forest gs y)) (longer w g gs x at go u took)
            ∙ sym (behind (string_bytes w.page) (page_bytes (one forest g x)) (page_bytes (all forest gs y))
            (page_bytes (all forest (g ∷ gs) x)) (page_bytes-append (one forest g x) (all forest gs y)));
        under = goes_on w g gs x at go u took few ∙ rest.under;
        textual = (
          (follows w g gs x at go).textual (subst (λ (os : List (List Output)). IsGivenText os w.pairs g.event) at.goes_by took.textual),
          rest.textual,
        );
      }

  -- the event that is refused is the first with which the page would be too long
  pub refused : (w u : PageWriter) (prefix rest : List Emission) (g : Emission) (x : Stand) → At w x
      → Goes forest chart (prefix ++ g ∷ rest) x
      → size w ≤ max_page → SinkLeads Takes w prefix u
      → max_page < size u + length (page_bytes (output_pieces (outputs_in u) u.pairs g.event))
      → over forest (size w) (prefix ++ g ∷ rest) x ≡ Some g
  refused w u [] rest g x at go few led long =
      too_long w g rest x at go
      (subst (λ (y : PageWriter). max_page < size y + length (page_bytes (output_pieces (outputs_in y) y.pairs g.event))) led long)
  refused w u (h ∷ prefix) rest g x at go few led long =
      let y = led.0 in let took = led.1 in let gs = prefix ++ g ∷ rest in
      goes_on w h gs x at go y took few
      ∙ refused y u prefix rest g (next forest chart h x) (moved w h gs x at go y took) go.2 (took.fits few) led.2 long
