-- Parts of paths on which no error of one path stands, and how they follow one another.
use Rattle.std.proofs.Common.{◌≡◌, ℕ, List, [], ◌∷◌, ◌++◌, refl, sym, ap, ◌∙◌, subst}
use Rattle.place_flow.specs.Covering.{edge_read, read_moves}
use Rattle.place_flow.specs.HtmlCovering.{html_language}
use Rattle.place_core.specs.page.States.{LexState}
use Rattle.place_core.specs.page.Tags.{ValueState}
use Rattle.tpl_paths.proofs.Appends.{reached-append, walk-append}
use Rattle.tpl_paths.specs.Edges.{Edge, Within, edges_in, finish_point, from_of}
use Rattle.tpl_paths.specs.Paths.{IsPath, Move, Open, Standing, along, along_edge, back, left_calls, reached, open_standing}
use Rattle.tpl_tree.specs.Forests.{ForestData}
use Rattle.place_flow.specs.Errors.{Errs, IsClear}

-- moves that lead from where a path stands, in a state, to another such place and state
pub record Goes (forest : ForestData) (a : Standing) (s : LexState ValueState) (b : Standing) (r : LexState ValueState) : Type 0 where
  pub moves : List Move
  pub path : IsPath forest a moves
  pub clear : IsClear forest a s moves
  pub stands : reached forest a moves ≡ b
  pub reads : read_moves html_language moves s ≡ r

pub read-append : (ms ns : List Move) (s : LexState ValueState) → read_moves html_language (ms ++ ns) s ≡ read_moves html_language ns (read_moves html_language ms s)
read-append [] ns s = refl
read-append (along e ∷ ms) ns s = read-append ms ns (edge_read html_language e s)
read-append (back ∷ ms) ns s = read-append ms ns s

pub clear-append : (forest : ForestData) (a : Standing) (s : LexState ValueState) (ms ns : List Move) → IsClear forest a s ms → IsClear forest (reached forest a ms) (read_moves html_language ms s) ns → IsClear forest a s (ms ++ ns)
clear-append forest a s [] ns h k = k
clear-append forest a s (along e ∷ ms) ns h k = (h.0, clear-append forest (along_edge forest a e) (edge_read html_language e s) ms ns h.1 k)
clear-append forest a s (back ∷ ms) ns h k = clear-append forest (left_calls a.open_calls a) s ms ns h k

unfoldable pub stays : (forest : ForestData) (a : Standing) (s : LexState ValueState) → Goes forest a s a s
stays forest a s = record { moves = []; path = tt; clear = tt; stands = refl; reads = refl }

-- one part after another
unfoldable pub goes-on : (forest : ForestData) (a b c : Standing) (s r u : LexState ValueState) → Goes forest a s b r → Goes forest b r c u → Goes forest a s c u
goes-on forest a b c s r u g h = record {
  moves = g.moves ++ h.moves;
  path = walk-append forest a g.moves h.moves g.path (subst (λ (x : Standing). IsPath forest x h.moves) (sym g.stands) h.path);
  clear = clear-append forest a s g.moves h.moves g.clear
      (subst (λ (x : Standing). IsClear forest x (read_moves html_language g.moves s) h.moves) (sym g.stands)
      (subst (λ (x : LexState ValueState). IsClear forest b x h.moves) (sym g.reads) h.clear));
  stands = reached-append forest a g.moves h.moves ∙ (ap (λ (x : Standing). reached forest x h.moves) g.stands ∙ h.stands);
  reads = read-append g.moves h.moves s ∙ (ap (read_moves html_language h.moves) g.reads ∙ h.reads);
}

-- along an edge at which no error stands
unfoldable pub goes-along : (forest : ForestData) (os : List Open) (name : List ℕ) (e : Edge) (s : LexState ValueState) → Within e (edges_in forest name) → (Errs forest name e s → ⊥)
    → Goes forest (open_standing os name (from_of e)) s (along_edge forest (open_standing os name (from_of e)) e) (edge_read html_language e s)
goes-along forest os name e s w c = record { moves = along e ∷ []; path = ((w, refl), tt); clear = (c, tt); stands = refl; reads = refl }

-- out of a call
unfoldable pub goes-back : (forest : ForestData) (o : Open) (os : List Open) (name : List ℕ) (s : LexState ValueState) → Goes forest (open_standing (o ∷ os) name finish_point) s (open_standing os o.template o.back) s
goes-back forest o os name s = record { moves = back ∷ []; path = ((tt, refl), tt); clear = tt; stands = refl; reads = refl }
