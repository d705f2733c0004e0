-- Where an edge is in conflict, an error stands on a path, on two that meet before the edge or after it, or on two that met apart.
use Rattle.std.proofs.Common.{◌≡◌, ℕ, List, Some, refl, ◌⊎◌, inl, inr}
use Rattle.std.specs.Prelude.{slice_get}
use Rattle.place_core.proofs.ConflictPlaces.{the_conflict}
use Rattle.place_core.specs.place.Places.{IsValid}
use Rattle.place_core.specs.declared.place.Place.{Place}
use Rattle.place_core.specs.declared.place.Place.TheVariants as place
use Rattle.tpl_paths.specs.Edges.{Edge, from_of, to_of}
use Rattle.tpl_tree.specs.Forests.{ForestData, HasAscendingNames}
use Rattle.place_flow.specs.Flows.{edges_at}
use Rattle.place_flow.specs.Transfer.{step_of}
use Rattle.place_flow.specs.declared.step.EdgeStep.{EdgeStep}
use Rattle.place_flow.specs.declared.step.EdgeStep.TheVariants.{Reaches, Enters, Refused as refused_step}
use Rattle.place_derive.specs.Derivations.{AllGiven, IsDerivedBy, IsMadeDerivation}
use Rattle.place_derive.specs.FirstConflicts.{IsClash, IsWhy}
use Rattle.place_derive.specs.declared.derivation.Derivation.{Derivation}
use Rattle.place_derive.specs.declared.conflict.Why.{Why}
use Rattle.place_derive.specs.declared.conflict.Why.TheVariants.{Refused, Clashes}
use Rattle.place_laws.proofs.Arrivals.{Arrival, arrival, arrives-by, bearing, given-apart, given-bearing}
use Rattle.place_laws.proofs.Comings.{all-come, along-comes}
use Rattle.place_flow.proofs.NamedParts.{edge_within, numbered}
use Rattle.place_laws.proofs.RefusalEvidences.{own-has, refused-stands}
use Rattle.place_laws.specs.Witness.{AreTemplates, MembersDoNotJoin, EveryConflictHasError, RefusalErr, path_state}

derived-valid : (log : List Derivation) (step : EdgeStep) (derived : Place) → IsDerivedBy log step derived → IsValid derived
derived-valid log (Reaches q) derived h = h.1
derived-valid log (Enters c q) derived h = h.valid
derived-valid log refused_step derived h = absurd h

module _ (forest : ForestData) (up : HasAscendingNames forest) (roots : List ℕ) (are : AreTemplates forest roots) (log : List Derivation) (made : IsMadeDerivation forest roots place.Text log) where
  clash-stands : (t : ℕ) (e : Place) (n : ℕ) (edge : Edge) (source before derived : Place) → (a : Arrival forest roots t e) → slice_get (edges_at forest t) n ≡ Some edge → AllGiven log t e (from_of edge) source → IsClash forest log t e edge source before derived → MembersDoNotJoin forest a.root a.open_calls t (to_of edge)
  clash-stands t e n edge source before derived a is from h =
      let conflict = the_conflict before derived h.was.valid (derived-valid log (step_of forest t edge source) derived h.gives) h.clash in
      let one = given-bearing forest up roots are log made t e (to_of edge) before conflict.0 a (h.was.members conflict.0 conflict.2.0) in
      let within = edge_within forest t n a.name edge (numbered forest t a.name up a.name_is) is in
      let come = along-comes forest up log (all-come forest up roots place.Text log made) t a.name a.name_is e edge source derived conflict.1 (step_of forest t edge source) within from refl h.gives conflict.2.1 in
      let two = bearing forest roots t e (to_of edge) derived conflict.1 a (arrives-by forest roots t e (to_of edge) derived conflict.1 a come) in
      record {
        path = one.path;
        other = two.path;
        own = one.is_in.own;
        other_own = two.is_in.own;
        stands = one.is_in.stands;
        other_stands = two.is_in.stands;
        conflict = conflict.2.2 one.is_in.own two.is_in.own one.is_in.valid one.is_in.below (own-has before (path_state one.path) conflict.0 one.is_in one.bears)
            two.is_in.valid two.is_in.below (own-has derived (path_state two.path) conflict.1 two.is_in two.bears);
      }

  why-stands : (t : ℕ) (e : Place) (n : ℕ) (edge : Edge) (source : Place) (why : Why) → (a : Arrival forest roots t e) → slice_get (edges_at forest t) n ≡ Some edge → AllGiven log t e (from_of edge) source → IsWhy forest log t e edge source why
      → RefusalErr forest a.root a.open_calls t edge ⊎ MembersDoNotJoin forest a.root a.open_calls t (to_of edge)
  why-stands t e n edge source Refused a is from h =
      inl (refused-stands forest up a.root a.open_calls t source from.valid edge (λ m k. given-bearing forest up roots are log made t e (from_of edge) source m a (from.members m k))
      (λ k. given-apart forest up roots are log made t e (from_of edge) source a (from.apart k)) h)
  why-stands t e n edge source (Clashes before derived) a is from h = inr (clash-stands t e n edge source before derived a is from h)

pub every-conflict : EveryConflictHasError
every-conflict forest roots log conflict up are made h =
    let a = arrival forest up roots are log made conflict.template conflict.entry h.entered in
    record {
      root = a.root;
      is_root = a.is_root;
      open_calls = a.open_calls;
      edge = h.edge;
      is = h.is;
      errs = why-stands forest up roots are log made conflict.template conflict.entry conflict.edge h.edge conflict.source conflict.why a h.is h.from h.why;
    }
