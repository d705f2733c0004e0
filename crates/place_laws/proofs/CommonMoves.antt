-- Two paths that take the same moves and stay in the beginning of a URL, and two that met apart and then do so.
use Rattle.std.proofs.Common.{◌≡◌, List, [], ◌∷◌, ◌++◌, ℕ, refl, sym, ap, ap₂, ◌∙◌, subst, inl, inr}
use Rattle.place_core.specs.page.States.{LexState}
use Rattle.place_core.specs.page.Tags.{ValueState}
use Rattle.place_core.specs.place.PathPairs.{Apart}
use Rattle.place_flow.proofs.Goings.{Goes, goes-along, goes-back, goes-on, stays}
use Rattle.place_flow.specs.Covering.{edge_read, read_moves}
use Rattle.place_flow.specs.Errors.{EdgeKeeps, EdgeParts, Errs, KeepsAlong, MeetApart, PartAlong}
use Rattle.place_flow.specs.HtmlCovering.{html_language}
use Rattle.tpl_paths.specs.Edges.{Edge, Within, edges_in, finish_point, from_of}
use Rattle.tpl_paths.specs.Paths.{Move, Open, Standing, along, along_edge, back, open_standing}
use Rattle.tpl_tree.specs.Forests.{ForestData}

-- two paths take the same moves from where they stand, and stay in the beginning of a URL
pub record KeepTogether (forest : ForestData) (a : Standing) (s r : LexState ValueState) (b : Standing) (u w : LexState ValueState) : Type 0 where
  pub one : Goes forest a s b u
  pub other : Goes forest a r b w
  pub same : other.moves ≡ one.moves
  pub kept : KeepsAlong one.moves s
  pub also : KeepsAlong one.moves r

-- two paths meet apart, and take the same moves from there
pub record MeetTogether (forest : ForestData) (a : Standing) (s r : LexState ValueState) (b : Standing) (u w : LexState ValueState) : Type 0 where
  pub at : Standing
  pub here : LexState ValueState
  pub there : LexState ValueState
  pub first : Goes forest a s at here
  pub other_first : Goes forest a r at there
  pub one : Goes forest at here b u
  pub other : Goes forest at there b w
  pub same : other.moves ≡ one.moves
  pub met : MeetApart one.moves here there

keeps-append : (ms ns : List Move) (s : LexState ValueState) → KeepsAlong ms s → KeepsAlong ns (read_moves html_language ms s) → KeepsAlong (ms ++ ns) s
keeps-append [] ns s h k = k
keeps-append (along e ∷ ms) ns s h k = (h.0, keeps-append ms ns (edge_read html_language e s) h.1 k)
keeps-append (back ∷ ms) ns s h k = keeps-append ms ns s h k

parts-append : (ms ns : List Move) (s r : LexState ValueState) → PartAlong ms s r → KeepsAlong ns (read_moves html_language ms s) → KeepsAlong ns (read_moves html_language ms r) → PartAlong (ms ++ ns) s r
parts-append [] ns s r h k l = absurd h
parts-append (along e ∷ ms) ns s r h k l = (h.0, keeps-append ms ns (edge_read html_language e s) h.1 k, keeps-append ms ns (edge_read html_language e r) h.2 l)
parts-append (back ∷ ms) ns s r h k l = absurd h

meet-append : (ms ns : List Move) (s r : LexState ValueState) → MeetApart ms s r → KeepsAlong ns (read_moves html_language ms s) → KeepsAlong ns (read_moves html_language ms r) → MeetApart (ms ++ ns) s r
meet-append ms ns s r (inl h) k l = inl (h.0, keeps-append ms ns s h.1 k, keeps-append ms ns r h.2 l)
meet-append ms ns s r (inr h) k l = inr (parts-append ms ns s r h k l)

-- what the other path has read, by the moves of the first
other-reads : (ms ns : List Move) (r w : LexState ValueState) → ns ≡ ms → read_moves html_language ns r ≡ w → w ≡ read_moves html_language ms r
other-reads ms ns r w same reads = sym reads ∙ ap (λ (x : List Move). read_moves html_language x r) same

module _ (forest : ForestData) where
  -- one after the other
  pub keep-on : (a b c : Standing) (s r u w x y : LexState ValueState) → KeepTogether forest a s r b u w → KeepTogether forest b u w c x y → KeepTogether forest a s r c x y
  unfolding goes-on
  keep-on a b c s r u w x y g h = record {
    one = goes-on forest a b c s u x g.one h.one;
    other = goes-on forest a b c r w y g.other h.other;
    same = ap₂ ◌++◌ g.same h.same;
    kept = keeps-append g.one.moves h.one.moves s g.kept (subst (KeepsAlong h.one.moves) (sym g.one.reads) h.kept);
    also = keeps-append g.one.moves h.one.moves r g.also (subst (KeepsAlong h.one.moves) (other-reads g.one.moves g.other.moves r w g.same g.other.reads) h.also);
  }

  pub meet-on : (a b c : Standing) (s r u w x y : LexState ValueState) → MeetTogether forest a s r b u w → KeepTogether forest b u w c x y → MeetTogether forest a s r c x y
  unfolding goes-on
  meet-on a b c s r u w x y m k = record {
    at = m.at;
    here = m.here;
    there = m.there;
    first = m.first;
    other_first = m.other_first;
    one = goes-on forest m.at b c m.here u x m.one k.one;
    other = goes-on forest m.at b c m.there w y m.other k.other;
    same = ap₂ ◌++◌ m.same k.same;
    met = meet-append m.one.moves k.one.moves m.here m.there m.met (subst (KeepsAlong k.one.moves) (sym m.one.reads) k.kept)
        (subst (KeepsAlong k.one.moves) (other-reads m.one.moves m.other.moves m.there w m.same m.other.reads) k.also);
  }

  -- paths that come to where two meet apart
  pub meet-behind : (a b c : Standing) (s r u w x y : LexState ValueState) → Goes forest a s b u → Goes forest a r b w → MeetTogether forest b u w c x y → MeetTogether forest a s r c x y
  meet-behind a b c s r u w x y g h m = record {
    at = m.at;
    here = m.here;
    there = m.there;
    first = goes-on forest a b m.at s u m.here g m.first;
    other_first = goes-on forest a b m.at r w m.there h m.other_first;
    one = m.one;
    other = m.other;
    same = m.same;
    met = m.met;
  }

  pub keep-still : (a : Standing) (s r : LexState ValueState) → KeepTogether forest a s r a s r
  unfolding stays
  keep-still a s r = record { one = stays forest a s; other = stays forest a r; same = refl; kept = tt; also = tt }

  pub meet-here : (a : Standing) (s r : LexState ValueState) → Apart s r → MeetTogether forest a s r a s r
  unfolding stays
  meet-here a s r h = record {
    at = a;
    here = s;
    there = r;
    first = stays forest a s;
    other_first = stays forest a r;
    one = stays forest a s;
    other = stays forest a r;
    same = refl;
    met = inl (h, tt, tt);
  }

  module _ (os : List Open) (name : List ℕ) (e : Edge) (s r : LexState ValueState) (w : Within e (edges_in forest name)) (clear : Errs forest name e s → ⊥) (other : Errs forest name e r → ⊥) where
    -- along an edge
    pub keep-along : EdgeKeeps e s → EdgeKeeps e r → KeepTogether forest (open_standing os name (from_of e)) s r (along_edge forest (open_standing os name (from_of e)) e) (edge_read html_language e s) (edge_read html_language e r)
    unfolding goes-along
    keep-along h k = record { one = goes-along forest os name e s w clear; other = goes-along forest os name e r w other; same = refl; kept = (h, tt); also = (k, tt) }

    -- within its text
    pub meet-within : EdgeParts e s r → MeetTogether forest (open_standing os name (from_of e)) s r (along_edge forest (open_standing os name (from_of e)) e) (edge_read html_language e s) (edge_read html_language e r)
    unfolding goes-along
    meet-within h = record {
      at = open_standing os name (from_of e);
      here = s;
      there = r;
      first = stays forest (open_standing os name (from_of e)) s;
      other_first = stays forest (open_standing os name (from_of e)) r;
      one = goes-along forest os name e s w clear;
      other = goes-along forest os name e r w other;
      same = refl;
      met = inr (h, tt, tt);
    }

  -- out of a call
  pub keep-back : (o : Open) (os : List Open) (name : List ℕ) (s r : LexState ValueState) → KeepTogether forest (open_standing (o ∷ os) name finish_point) s r (open_standing os o.template o.back) s r
  unfolding goes-back
  keep-back o os name s r = record { one = goes-back forest o os name s; other = goes-back forest o os name r; same = refl; kept = tt; also = tt }
