-- Moves that two paths take as ones that met apart, with more moves behind them.
use Rattle.std.proofs.Common.{◌≡◌, ℕ, true, List, [], ◌∷◌, ◌++◌, Some, None, append_assoc, refl, sym, subst, inl, inr}
use Rattle.place_core.specs.page.States.{LexState}
use Rattle.place_core.specs.page.Tags.{ValueState}
use Rattle.place_core.specs.declared.place.Place.{Place}
use Rattle.place_flow.proofs.Goings.{read-append}
use Rattle.place_flow.specs.Covering.{read_moves}
use Rattle.place_flow.specs.Errors.{KeepsAlong, MeetApart, PartAlong}
use Rattle.place_flow.specs.HtmlCovering.{html_language}
use Rattle.place_show.specs.LastApart.{IsLastAlong, NotApartAlong}
use Rattle.place_show.specs.Together.{IsFoundAlong, IsFoundOn, LastPlaces, PassMove, PassMoves, latest}
use Rattle.tpl_paths.specs.Paths.{Move, along, back}

abbrev pub State : Type 0
State = LexState ValueState

abbrev pub read_all : List Move → State → State
read_all ms s = read_moves html_language ms s

abbrev read : Move → State → State
read m s = read_moves html_language (m ∷ []) s

-- one move before more moves
pub keeps-more : (m : Move) (rest : List Move) (s s1 : State) → s1 ≡ read m s → KeepsAlong (m ∷ []) s → KeepsAlong rest s1 → KeepsAlong (m ∷ rest) s
keeps-more (along e) rest s s1 is k l = (k.0, subst (KeepsAlong rest) is l)
keeps-more back rest s s1 is k l = subst (KeepsAlong rest) is l

pub not-along : (rest : List Move) (upto : ℕ) (bytes : List ℕ) (s r s1 r1 : State) → s1 ≡ s → r1 ≡ r → NotApartAlong rest upto bytes s1 r1 → NotApartAlong rest upto bytes s r
not-along rest upto bytes s r s1 r1 e f h =
    subst (λ (y : State). NotApartAlong rest upto bytes s y) f (subst (λ (x : State). NotApartAlong rest upto bytes x r1) e h)

pub last-along : (rest : List Move) (upto : ℕ) (bytes : List ℕ) (s r s1 r1 : State) (p q : Place) → s1 ≡ s → r1 ≡ r → IsLastAlong rest upto bytes s1 r1 p q → IsLastAlong rest upto bytes s r p q
last-along rest upto bytes s r s1 r1 p q e f h =
    subst (λ (y : State). IsLastAlong rest upto bytes s y p q) f (subst (λ (x : State). IsLastAlong rest upto bytes x r1 p q) e h)

pub last-more : (m : Move) (s r s1 r1 : State) → s1 ≡ read m s → r1 ≡ read m r → (rest : List Move) (upto : ℕ) (bytes : List ℕ) (p q : Place)
    → IsLastAlong rest upto bytes s1 r1 p q → IsLastAlong (m ∷ rest) upto bytes s r p q
last-more (along e) s r s1 r1 is other_is rest upto bytes p q h = inr (last-along rest upto bytes (read (along e) s) (read (along e) r) s1 r1 p q is other_is h)
last-more back s r s1 r1 is other_is rest upto bytes p q h = last-along rest upto bytes s r s1 r1 p q is other_is h

not-more : (m : Move) (s r s1 r1 : State) → s1 ≡ read m s → r1 ≡ read m r → IsFoundOn m s r None → (rest : List Move) (upto : ℕ) (bytes : List ℕ)
    → NotApartAlong rest upto bytes s1 r1 → NotApartAlong (m ∷ rest) upto bytes s r
not-more (along e) s r s1 r1 is other_is f rest upto bytes h = (f, not-along rest upto bytes (read (along e) s) (read (along e) r) s1 r1 is other_is h)
not-more back s r s1 r1 is other_is f rest upto bytes h = not-along rest upto bytes s r s1 r1 is other_is h

pub found-last : (m : Move) (s r s1 r1 : State) (x : Place × Place) → s1 ≡ read m s → r1 ≡ read m r → IsFoundOn m s r (Some x) → (rest : List Move) (upto : ℕ) (bytes : List ℕ)
    → NotApartAlong rest upto bytes s1 r1 → IsLastAlong (m ∷ rest) upto bytes s r x.0 x.1
found-last (along e) s r s1 r1 x is other_is f rest upto bytes h = inl (f, not-along rest upto bytes (read (along e) s) (read (along e) r) s1 r1 is other_is h)
found-last back s r s1 r1 x is other_is f rest upto bytes h = absurd f

pub parts-more : (m : Move) (s r s1 r1 : State) → s1 ≡ read m s → r1 ≡ read m r → PartAlong (m ∷ []) s r → (rest : List Move) → KeepsAlong rest s1 → KeepsAlong rest r1
    → MeetApart (m ∷ rest) s r
parts-more (along e) s r s1 r1 is other_is p rest k l = inr (p.0, subst (KeepsAlong rest) is k, subst (KeepsAlong rest) other_is l)
parts-more back s r s1 r1 is other_is p rest k l = absurd p

-- one move
found-one : (m : Move) (s r : State) (found : LastPlaces) → IsFoundOn m s r found → IsFoundAlong (m ∷ []) s r found
found-one m s r None f = not-more m s r (read m s) (read m r) refl refl f
found-one m s r (Some x) f = found-last m s r (read m s) (read m r) x refl refl f

pub one-move : (m : Move) (s r : State) (found : LastPlaces) → PassMove true m s r → IsFoundOn m s r found → PassMoves (m ∷ []) s r found
one-move m s r found pass f = record {
  keeps = λ rest k. keeps-more m rest s (read m s) refl pass.0 k;
  other_keeps = λ rest k. keeps-more m rest r (read m r) refl pass.1 k;
  more = last-more m s r (read m s) (read m r) refl refl;
  last = found-one m s r found f;
}

-- none
pub no-moves : (s r : State) → PassMoves [] s r None
no-moves s r = record {
  keeps = λ rest k. k;
  other_keeps = λ rest k. k;
  more = λ rest upto bytes p q l. l;
  last = λ rest upto bytes n. n;
}

-- some after others
module _ (ms ns : List Move) (s r : State) where
  found-after : (f g : LastPlaces)
      → ((rest : List Move) (upto : ℕ) (bytes : List ℕ) (p q : Place) → IsLastAlong rest upto bytes (read_all ms s) (read_all ms r) p q → IsLastAlong (ms ++ rest) upto bytes s r p q)
      → IsFoundAlong ms s r f → IsFoundAlong ns (read_all ms s) (read_all ms r) g → IsFoundAlong (ms ++ ns) s r (latest f g)
  found-after f (Some x) more h k = λ rest upto bytes n.
      subst (λ (os : List Move). IsLastAlong os upto bytes s r x.0 x.1) (sym (append_assoc ms ns rest))
      (more (ns ++ rest) upto bytes x.0 x.1 (k rest upto bytes
      (not-along rest upto bytes (read_all ns (read_all ms s)) (read_all ns (read_all ms r)) (read_all (ms ++ ns) s) (read_all (ms ++ ns) r) (read-append ms ns s) (read-append ms ns r) n)))
  found-after None None more h k = λ rest upto bytes n.
      subst (λ (os : List Move). NotApartAlong os upto bytes s r) (sym (append_assoc ms ns rest))
      (h (ns ++ rest) upto bytes (k rest upto bytes
      (not-along rest upto bytes (read_all ns (read_all ms s)) (read_all ns (read_all ms r)) (read_all (ms ++ ns) s) (read_all (ms ++ ns) r) (read-append ms ns s) (read-append ms ns r) n)))
  found-after (Some x) None more h k = λ rest upto bytes n.
      subst (λ (os : List Move). IsLastAlong os upto bytes s r x.0 x.1) (sym (append_assoc ms ns rest))
      (h (ns ++ rest) upto bytes (k rest upto bytes
      (not-along rest upto bytes (read_all ns (read_all ms s)) (read_all ns (read_all ms r)) (read_all (ms ++ ns) s) (read_all (ms ++ ns) r) (read-append ms ns s) (read-append ms ns r) n)))

  keeps-after : (x : State) → ((rest : List Move) → KeepsAlong rest (read_all ms x) → KeepsAlong (ms ++ rest) x)
      → ((rest : List Move) → KeepsAlong rest (read_all ns (read_all ms x)) → KeepsAlong (ns ++ rest) (read_all ms x)) → (rest : List Move) → KeepsAlong rest (read_all (ms ++ ns) x)
      → KeepsAlong ((ms ++ ns) ++ rest) x
  keeps-after x h k rest l =
      subst (λ (os : List Move). KeepsAlong os x) (sym (append_assoc ms ns rest)) (h (ns ++ rest) (k rest (subst (KeepsAlong rest) (read-append ms ns x) l)))

  pub moves-after : (f g : LastPlaces) → PassMoves ms s r f → PassMoves ns (read_all ms s) (read_all ms r) g → PassMoves (ms ++ ns) s r (latest f g)
  moves-after f g h k = record {
    keeps = keeps-after s h.keeps k.keeps;
    other_keeps = keeps-after r h.other_keeps k.other_keeps;
    more = λ rest upto bytes p q l.
        subst (λ (os : List Move). IsLastAlong os upto bytes s r p q) (sym (append_assoc ms ns rest))
        (h.more (ns ++ rest) upto bytes p q (k.more rest upto bytes p q
        (last-along rest upto bytes (read_all ns (read_all ms s)) (read_all ns (read_all ms r)) (read_all (ms ++ ns) s) (read_all (ms ++ ns) r) p q (read-append ms ns s) (read-append ms ns r) l)));
    last = found-after f g h.more h.last k.last;
  }
