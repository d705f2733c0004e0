-- From a root to the start of each pair: each member of the place in which a pair is entered comes along a path of one root, with the same
-- calls open; and so does all that was given to the pair's points. Where two paths of such a place met apart, there are two such paths that
-- did.
use Rattle.std.proofs.Common.{◌≡◌, ℕ, zero, suc, ◌<◌, List, [], ◌∷◌, ◌++◌, length, take, Some, refl, inl, inr, sym, ap, ◌∙◌, subst, arith}
use Rattle.std.proofs.lemmas.List.Elements.{All-contains}
use Rattle.std.specs.Prelude.{Contains, slice_get}
use Rattle.place_core.specs.page.Html.{start}
use Rattle.place_core.specs.place.ApartPlaces.{HasApart, side}
use Rattle.place_core.specs.place.Membership.{Bears, IsIn}
use Rattle.place_core.specs.place.Places.{Has, joined}
use Rattle.place_core.specs.page.States.{LexState}
use Rattle.place_core.specs.page.Tags.{ValueState}
use Rattle.place_core.specs.declared.member.Member.{Member}
use Rattle.place_core.specs.declared.member.Member.TheVariants as member
use Rattle.place_core.specs.declared.place.Place.{Place}
use Rattle.place_core.specs.declared.place.Place.TheVariants as place
use Rattle.tpl_paths.specs.Edges.{Point, from_of, start_in}
use Rattle.tpl_paths.specs.Paths.{Move, Open, at_root, open_standing}
use Rattle.tpl_tree.specs.Forests.{ForestData, HasAscendingNames, tree_name_at, number_named}
use Rattle.place_derive.specs.Derivations.{AllGiven, ApartGiven, HasEntry, HasDerivation, IsCalled, IsDerivation, IsMadeDerivation}
use Rattle.place_derive.specs.declared.derivation.DerivedFrom.{DerivedFrom}
use Rattle.place_derive.specs.declared.derivation.DerivedFrom.TheVariants.{Root, Called, Along}
use Rattle.place_derive.specs.declared.derivation.Derivation.{Derivation}
use Rattle.place_flow.specs.Covering.{read_moves}
use Rattle.place_flow.specs.Errors.{MeetApart}
use Rattle.place_flow.specs.HtmlCovering.{html_language}
use Rattle.place_laws.proofs.ApartComings.{AllComeApart, BearSides, ComesApart, all-come-apart, keep-into, of_part_apart}
use Rattle.place_laws.proofs.Comings.{AllCome, Comes, all-come, goes-into, of_part, take_get}
use Rattle.place_laws.proofs.CommonMoves.{MeetTogether, meet-behind, meet-on}
use Rattle.place_laws.proofs.RefusalEvidences.{BearingApart}
use Rattle.place_flow.proofs.Goings.{Goes, goes-on, stays}
use Rattle.place_flow.proofs.NamedParts.{edge_within, has_name, named, numbered}
use Rattle.place_flow.proofs.StepEdges.{is-call}
use Rattle.place_laws.specs.Witness.{AreTemplates, Bearing, EveryMemberHasPath, EveryRootHasPath}

-- a path of a root that stands at a point with some calls open, and bears a member of a place
pub record Arrives (forest : ForestData) (root_name : List ℕ) (open_calls : List Open) (name : List ℕ) (k : Point) (p : Place) (m : Member) : Type 0 where
  pub state : LexState ValueState
  pub goes : Goes forest (at_root forest root_name) start.at (open_standing open_calls name k) state
  pub is_in : IsIn p state
  pub bears : Bears state m

-- two paths of the root that met apart, stand at the point with these calls open, and are in the beginning of a URL
pub record ArriveApart (forest : ForestData) (root_name : List ℕ) (open_calls : List Open) (name : List ℕ) (k : Point) (p : Place) : Type 0 where
  pub state : LexState ValueState
  pub other : LexState ValueState
  pub meet : MeetTogether forest (at_root forest root_name) start.at start.at (open_standing open_calls name k) state other
  pub bear : BearSides p state other

-- a root and open calls with which paths arrive at the start of a pair, for each member of its place of entry, and two where two met apart
pub record Arrival (forest : ForestData) (roots : List ℕ) (t : ℕ) (e : Place) : Type 0 where
  pub root : ℕ
  pub is_root : Contains roots root
  pub root_name : List ℕ
  pub root_is : tree_name_at forest root ≡ Some root_name
  pub name : List ℕ
  pub name_is : tree_name_at forest t ≡ Some name
  pub open_calls : List Open
  pub arrives : (m : Member) → Has e m → Arrives forest root_name open_calls name (start_in forest name) e m
  pub arrive_apart : HasApart e → ArriveApart forest root_name open_calls name (start_in forest name) e

-- what comes from the place of entry arrives
pub arrives-by : (forest : ForestData) (roots : List ℕ) (t : ℕ) (e : Place) (k : Point) (p : Place) (m : Member) → (a : Arrival forest roots t e) → Comes forest a.name e k p m → Arrives forest a.root_name a.open_calls a.name k p m
arrives-by forest roots t e k p m a c =
    let b = a.arrives c.from c.has in
    let l = c.leads b.state b.is_in b.bears in
    record {
      state = l.state;
      goes = goes-on forest (at_root forest a.root_name) (open_standing a.open_calls a.name (start_in forest a.name)) (open_standing a.open_calls a.name k) start.at b.state l.state b.goes (l.goes a.open_calls);
      is_in = l.is_in;
      bears = l.bears;
    }

pub arrive-apart-by : (forest : ForestData) (roots : List ℕ) (t : ℕ) (e : Place) (k : Point) (p : Place) → (a : Arrival forest roots t e) → ComesApart forest a.name e k p → ArriveApart forest a.root_name a.open_calls a.name k p
arrive-apart-by forest roots t e k p a (inl c) =
    let b = a.arrive_apart c.before in
    let l = c.leads b.state b.other b.bear in
    record {
      state = l.state;
      other = l.other;
      meet = meet-on forest (at_root forest a.root_name) (open_standing a.open_calls a.name (start_in forest a.name)) (open_standing a.open_calls a.name k) start.at start.at b.state b.other l.state l.other b.meet (l.goes a.open_calls);
      bear = l.bear;
    }
arrive-apart-by forest roots t e k p a (inr c) =
    let b = a.arrives c.one c.has in
    let d = a.arrives c.other c.also in
    let l = c.leads b.state d.state b.is_in b.bears d.is_in d.bears in
    record {
      state = l.state;
      other = l.other;
      meet = meet-behind forest (at_root forest a.root_name) (open_standing a.open_calls a.name (start_in forest a.name)) (open_standing a.open_calls a.name k) start.at start.at b.state d.state l.state l.other b.goes d.goes (l.goes a.open_calls);
      bear = l.bear;
    }

pub bearing : (forest : ForestData) (roots : List ℕ) (t : ℕ) (e : Place) (k : Point) (p : Place) (m : Member) → (a : Arrival forest roots t e) → Arrives forest a.root_name a.open_calls a.name k p m → Bearing forest a.root a.open_calls t k p m
bearing forest roots t e k p m a b = record {
  path = record { root_name = a.root_name; root_is = a.root_is; name = a.name; name_is = a.name_is; moves = b.goes.moves; path = b.goes.path; clear = b.goes.clear; stands = b.goes.stands };
  is_in = subst (IsIn p) (sym b.goes.reads) b.is_in;
  bears = subst (λ (s : LexState ValueState). Bears s m) (sym b.goes.reads) b.bears;
}

pub bearing-apart : (forest : ForestData) (roots : List ℕ) (t : ℕ) (e : Place) (k : Point) (p : Place) → (a : Arrival forest roots t e) → ArriveApart forest a.root_name a.open_calls a.name k p → BearingApart forest a.root a.open_calls t k p
unfolding goes-on
bearing-apart forest roots t e k p a b =
    let m = b.meet in
    let here = at_root forest a.root_name in
    let end = open_standing a.open_calls a.name k in
    let one = goes-on forest here m.at end start.at m.here b.state m.first m.one in
    let other = goes-on forest here m.at end start.at m.there b.other m.other_first m.other in
    record {
      paths = record {
        path = record { root_name = a.root_name; root_is = a.root_is; name = a.name; name_is = a.name_is; moves = one.moves; path = one.path; clear = one.clear; stands = one.stands };
        other = record { root_name = a.root_name; root_is = a.root_is; name = a.name; name_is = a.name_is; moves = other.moves; path = other.path; clear = other.clear; stands = other.stands };
        first = m.first.moves;
        other_first = m.other_first.moves;
        common = m.one.moves;
        moves = refl;
        other_moves = ap (λ (ms : List Move). m.other_first.moves ++ ms) m.same;
        meet = m.other_first.stands ∙ sym m.first.stands;
        met = subst (λ (s : LexState ValueState). MeetApart m.one.moves s (read_moves html_language m.other_first.moves start.at)) (sym m.first.reads)
            (subst (MeetApart m.one.moves m.here) (sym m.other_first.reads) m.met);
      };
      is_in = subst (IsIn p) (sym one.reads) b.bear.is_in;
      bears = subst (λ (s : LexState ValueState). Bears s side) (sym one.reads) b.bear.bears;
      other_in = subst (IsIn p) (sym other.reads) b.bear.other_in;
      other_bears = subst (λ (s : LexState ValueState). Bears s side) (sym other.reads) b.bear.other_bears;
    }

-- in text there are no two that met apart
no-apart : HasApart place.Text → ⊥
no-apart h = cc

module _ (forest : ForestData) (up : HasAscendingNames forest) (roots : List ℕ) (are : AreTemplates forest roots) (log : List Derivation) (made : IsMadeDerivation forest roots place.Text log) where
  all : AllCome forest log
  all = all-come forest up roots place.Text log made

  apart : AllComeApart forest log
  apart = all-come-apart forest up roots place.Text log made

  -- a root stands at its start from the beginning
  root-arrival : (t : ℕ) (e : Place) → Contains roots t → e ≡ place.Text → Arrival forest roots t e
  root-arrival t e is first =
      let name = has_name forest t (All-contains (λ (r : ℕ). r < length forest) roots t are is) in
      record {
        root = t;
        is_root = is;
        root_name = name.0;
        root_is = name.1;
        name = name.0;
        name_is = name.1;
        open_calls = [];
        arrives = λ m h. record {
          state = start.at;
          goes = stays forest (at_root forest name.0) start.at;
          is_in = record { own = place.Text; stands = refl; valid = tt; below = ap (λ (p : Place). joined place.Text p) first ∙ ap Some (sym first) };
          bears = record { own = place.Text; stands = refl; has = subst (λ (p : Place). Has p m) first h };
        };
        arrive_apart = λ h. absurd (no-apart (subst HasApart first h));
      }

  -- a pair that is called, from the pair that calls it
  called-arrival : (i : ℕ) (g : Derivation) (t : ℕ) (e : Place) (n : ℕ) → IsCalled forest (take i log) g t e n → Arrival forest roots t e → Arrival forest roots g.template g.entry
  called-arrival i g t e n k a =
      let call = is-call forest t k.edge g.source g.template g.entry k.enters in
      let number : number_named a.name forest ≡ Some t = numbered forest t a.name up a.name_is in
      let w = edge_within forest t n a.name k.edge number k.is in
      let o : Open = record { template = a.name; node = call.node; back = call.behind } in
      record {
        root = a.root;
        is_root = a.is_root;
        root_name = a.root_name;
        root_is = a.root_is;
        name = call.callee;
        name_is = named forest g.template call.callee call.number;
        open_calls = o ∷ a.open_calls;
        arrives = λ m h. (
            let given = k.from.members m (subst (λ (p : Place). Has p m) call.place h) in
            let b = arrives-by forest roots t e (from_of k.edge) g.source m a (all t a.name e (from_of k.edge) g.source m a.name_is (of_part log i t e (from_of k.edge) g.source m given)) in
            record {
              state = b.state;
              goes = goes-on forest (at_root forest a.root_name) (open_standing a.open_calls a.name (from_of k.edge)) (open_standing (o ∷ a.open_calls) call.callee (start_in forest call.callee)) start.at b.state b.state b.goes
                  (goes-into forest up t a.name k.edge g.template g.source g.entry a.open_calls b.state number w k.from.valid b.is_in k.enters call);
              is_in = subst (λ (p : Place). IsIn p b.state) (sym call.place) b.is_in;
              bears = b.bears;
            });
        arrive_apart = λ h. (
            let given = k.from.apart (subst (λ (p : Place). HasApart p) call.place h) in
            let b = arrive-apart-by forest roots t e (from_of k.edge) g.source a (apart t a.name e (from_of k.edge) g.source a.name_is (of_part_apart log i t e (from_of k.edge) g.source given)) in
            record {
              state = b.state;
              other = b.other;
              meet = meet-on forest (at_root forest a.root_name) (open_standing a.open_calls a.name (from_of k.edge)) (open_standing (o ∷ a.open_calls) call.callee (start_in forest call.callee)) start.at start.at b.state b.other b.state b.other b.meet
                  (keep-into forest up t a.name k.edge g.template g.source g.entry a.open_calls b.state b.other number w k.from.valid b.bear.is_in b.bear.other_in k.enters call);
              bear = subst (λ (p : Place). BearSides p b.state b.other) (sym call.place) b.bear;
            });
      }

  -- the pair of a derivation before, which gave the whole of a place
  abbrev ArriveBefore : ℕ → Type 0
  ArriveBefore i = (j : ℕ) (g : Derivation) → j < i → slice_get log j ≡ Some g → Arrival forest roots g.template g.entry

  given-arrival : (i : ℕ) (t : ℕ) (e : Place) (k : Point) (p : Place) → ArriveBefore i → AllGiven (take i log) t e k p → Arrival forest roots t e
  given-arrival i t e k p before from =
      let h = from.members member.Whole refl in
      let was = take_get log i h.number h.derivation h.is in
      subst (λ (x : Place). Arrival forest roots t x) h.entry (subst (λ (x : ℕ). Arrival forest roots x h.derivation.entry) h.template (before h.number h.derivation was.0 was.1))

  derivation-arrival : (i : ℕ) (g : Derivation) (how : DerivedFrom) → ArriveBefore i → IsDerivation forest roots place.Text (take i log) g how → Arrival forest roots g.template g.entry
  derivation-arrival i g Root before k = root-arrival g.template g.entry k.root k.starts
  derivation-arrival i g (Called t e n) before k = called-arrival i g t e n k (given-arrival i t e (from_of k.edge) g.source before k.from)
  derivation-arrival i g (Along n) before k = given-arrival i g.template g.entry (from_of k.edge) g.source before k.from

  arrival-to : (n i : ℕ) (g : Derivation) → i < n → slice_get log i ≡ Some g → Arrival forest roots g.template g.entry
  arrival-to zero i g lt is = absurd (omega (arith, lt))
  arrival-to (suc n) i g lt is = derivation-arrival i g g.from (λ j f le was. arrival-to n j f (omega (arith, lt, le)) was) (made i g is)

  -- Paths arrive at each pair that was entered.
  pub arrival : (t : ℕ) (e : Place) → HasEntry forest log t e → Arrival forest roots t e
  arrival t e h = subst (λ (x : Place). Arrival forest roots t x) h.entry (subst (λ (x : ℕ). Arrival forest roots x h.derivation.entry) h.template (arrival-to (suc h.number) h.number h.derivation (omega arith) h.is))

  pub given-bearing : (t : ℕ) (e : Place) (k : Point) (p : Place) (m : Member) → (a : Arrival forest roots t e) → HasDerivation log t e k p m → Bearing forest a.root a.open_calls t k p m
  given-bearing t e k p m a h = bearing forest roots t e k p m a (arrives-by forest roots t e k p m a (all t a.name e k p m a.name_is h))

  -- and two where two of its paths met apart
  pub given-apart : (t : ℕ) (e : Place) (k : Point) (p : Place) → (a : Arrival forest roots t e) → ApartGiven log t e k p → BearingApart forest a.root a.open_calls t k p
  given-apart t e k p a h = bearing-apart forest roots t e k p a (arrive-apart-by forest roots t e k p a (apart t a.name e k p a.name_is h))

pub every-member : EveryMemberHasPath
every-member forest roots log t e up are made entered =
    let a = arrival forest up roots are log made t e entered in
    record { root = a.root; is_root = a.is_root; open_calls = a.open_calls; comes = λ k p m h. given-bearing forest up roots are log made t e k p m a h }

pub every-root : EveryRootHasPath
unfolding root-arrival
every-root forest roots log t k p m up are made is h =
    given-bearing forest up roots are log made t place.Text k p m (root-arrival forest up roots are log made t place.Text is refl) h
