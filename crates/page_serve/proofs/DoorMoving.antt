-- Doors that a net gives and gets back, one after another.
use Rattle.std.proofs.Common.{arith, ◌≡◌, ◌⊎◌, ◌<◌, ◌≤◌, ℕ, ◌+◌, ◌-◌, ◌^◌, min, List, [], ◌∷◌, ◌++◌, length, reverse, map, Option, None, Some, IfSome, inl, inr, refl, sym, ap, ◌∙◌, subst, append_assoc, append-nil, length-append}
use Rattle.std.proofs.lemmas.List.{reverse-append}
use Rattle.page_io.specs.Causes.{Rose}
use Rattle.page_net.specs.Doors.{DoorTold}
use Rattle.page_net.specs.Nets.{NetTold, CountsDoor, HasDoorOut, IsNetBounded, TakesDoorBack}
use Rattle.page_net.specs.Tellings.{BothTold}
use Rattle.page_worker.proofs.LinkByLink.{told_own, told_then}
use Rattle.page_serve.specs.DoorMoves.{AreFreshDoors, HasFailedDoor, HaveDoorsOut, MovesDoors, ReturnsDoors}

-- a count that rose has risen still, however it rises before or after
pub rose_before : (a b c : ℕ) → a ≤ b → Rose b c → Rose a c
rose_before a b c h r = omega (arith, h, r)

pub rose_then : (a b c : ℕ) → Rose a b → b ≤ c → Rose a c
rose_then a b c r h = omega (arith, h, r)

-- a list whose end is taken from the list that is read backwards
pub popped_first : {X : Type 0} (before left : List X) (x : X) → before ≡ left ++ x ∷ [] → reverse before ≡ x ∷ reverse left
popped_first before left x pop = ap reverse pop ∙ reverse-append left (x ∷ [])

module _ {D : Type 0} where
  pub moves_none : (t : NetTold D) → MovesDoors t t 0 []
  moves_none t = record { given = omega arith; back = sym (append-nil t.back) }

  pub moves_then : (n m : ℕ) (ds es : List D) (a b c : NetTold D) → MovesDoors a b n ds → MovesDoors b c m es
      → MovesDoors a c (n + m) (ds ++ es)
  moves_then n m ds es a b c p q = record {
    given = omega (arith, p.given, q.given);
    back = q.back ∙ ap (λ (l : List D). l ++ es) p.back ∙ append_assoc a.back ds es;
  }

  closes_then : (d : D) (ds : List D) (a b c : NetTold D) → TakesDoorBack a b d → MovesDoors b c 0 ds → MovesDoors a c 0 (d ∷ ds)
  closes_then d ds a b c t m = record {
    given = omega (arith, t.given, m.given);
    back = m.back ∙ ap (λ (l : List D). l ++ ds) t.back ∙ append_assoc a.back (d ∷ []) ds;
  }

  -- From one net to another these doors went back, where these are left to go from here: with those that are left they are all
  abbrev pub Closing : Option (NetTold D) → List D → Option (NetTold D) → List D → Type 0
  Closing old all now rest = (after : Option (NetTold D))
      → BothTold now after (λ o n. MovesDoors o n 0 rest) → BothTold old after (λ o n. MovesDoors o n 0 all)

  pub closing_begun : (old : Option (NetTold D)) (all rest : List D) → rest ≡ all → Closing old all old rest
  closing_begun old all rest same after m = subst (λ (z : List D). BothTold old after (λ o n. MovesDoors o n 0 z)) same m

  pub closing_more : (old now next : Option (NetTold D)) (all rest : List D) (d : D) (left : List D) → Closing old all now rest
      → rest ≡ d ∷ left → BothTold now next (λ o n. TakesDoorBack o n d) → Closing old all next left
  closing_more old now next all rest d left c pop back after m =
      c after (subst (λ (z : List D). BothTold now after (λ o n. MovesDoors o n 0 z)) (sym pop)
      (told_then now next after (λ o n. TakesDoorBack o n d) (λ o n. MovesDoors o n 0 left) (λ o n. MovesDoors o n 0 (d ∷ left)) (closes_then d left) back m))

  pub closing_done : (old now : Option (NetTold D)) (all rest : List D) → Closing old all now rest → rest ≡ []
      → BothTold old now (λ o n. MovesDoors o n 0 all)
  closing_done old now all rest c none =
      c now (subst (λ (z : List D). BothTold now now (λ o n. MovesDoors o n 0 z)) (sym none) (told_own now (λ o n. MovesDoors o n 0 []) moves_none))

  -- a net that has doors out has one out, and one less when it is back
  pub one_out : (n : ℕ) (told : Option (NetTold D)) → HaveDoorsOut (n + 1) told → HasDoorOut told
  one_out n None h = tt
  one_out n (Some t) h = omega (arith, h)

  pub less_out : (n : ℕ) (d : D) (old now : Option (NetTold D)) → HaveDoorsOut (n + 1) old → BothTold old now (λ o n. TakesDoorBack o n d)
      → HaveDoorsOut n now
  less_out n d None None h t = tt
  less_out n d None (Some b) h t = absurd t
  less_out n d (Some a) None h t = absurd t
  less_out n d (Some a) (Some b) h t = omega (arith, h, t.given, ap length t.back, length-append a.back (d ∷ []))

  -- from one count of faults to another: where one of all doors had failed, the count rose, or one of those that are left has failed
  abbrev pub Counting : (D → ℕ) → ℕ → List D → ℕ → List D → Type 0
  Counting faults old all now rest = HasFailedDoor faults all → Rose old now ⊎ HasFailedDoor faults rest

  pub counting_begun : (faults : D → ℕ) (old : ℕ) (all rest : List D) → rest ≡ all → Counting faults old all old rest
  counting_begun faults old all rest same h = inr (subst (λ (z : List D). HasFailedDoor faults z) (sym same) h)

  counted : (faults : D → ℕ) (old now next : ℕ) (d : D) (left : List D) → old ≤ now → CountsDoor now next (faults d)
      → Rose old now ⊎ HasFailedDoor faults (d ∷ left) → Rose old next ⊎ HasFailedDoor faults left
  counted faults old now next d left later counts (inl r) = inl (rose_then old now next r counts.later)
  counted faults old now next d left later counts (inr (inl failed)) = inl (rose_before old now next later (counts.failed failed))
  counted faults old now next d left later counts (inr (inr more)) = inr more

  pub counting_more : (faults : D → ℕ) (old now next : ℕ) (all rest : List D) (d : D) (left : List D) → old ≤ now
      → Counting faults old all now rest → rest ≡ d ∷ left → CountsDoor now next (faults d) → Counting faults old all next left
  counting_more faults old now next all rest d left later c pop counts h =
      counted faults old now next d left later counts (subst (λ (z : List D). Rose old now ⊎ HasFailedDoor faults z) pop (c h))

  counted_none : (faults : D → ℕ) (old now : ℕ) → Rose old now ⊎ HasFailedDoor faults [] → Rose old now
  counted_none faults old now (inl r) = r
  counted_none faults old now (inr none) = absurd none

  pub counting_done : (faults : D → ℕ) (old now : ℕ) (all rest : List D) → Counting faults old all now rest → rest ≡ []
      → HasFailedDoor faults all → Rose old now
  counting_done faults old now all rest c none h =
      counted_none faults old now (subst (λ (z : List D). Rose old now ⊎ HasFailedDoor faults z) none (c h))

  returned : (n : ℕ) (ds : List D) (a b c : NetTold D) → MovesDoors a b n [] → MovesDoors b c 0 ds → MovesDoors a c n ds
  returned n ds a b c p q = record {
    given = omega (arith, p.given, q.given);
    back = q.back ∙ ap (λ (l : List D). l ++ ds) (p.back ∙ append-nil a.back);
  }

  -- doors that were given are back
  pub all_returned : (n : ℕ) (ds : List D) (a b c : Option (NetTold D)) → BothTold a b (λ o w. MovesDoors o w n [])
      → BothTold b c (λ o w. MovesDoors o w 0 ds) → BothTold a c (λ o w. MovesDoors o w n ds)
  all_returned n ds a b c p q =
      told_then a b c (λ o w. MovesDoors o w n []) (λ o w. MovesDoors o w 0 ds) (λ o w. MovesDoors o w n ds) (returned n ds) p q

  -- no door was given yet
  pub none_given : (a : Option (NetTold D)) → BothTold a a (λ o w. MovesDoors o w 0 [])
  none_given a = told_own a (λ o w. MovesDoors o w 0 []) moves_none

  -- doors that were given, and are not back, are out
  pub given_out : (n : ℕ) (a b : Option (NetTold D)) → IsNetBounded a → BothTold a b (λ o w. MovesDoors o w n []) → HaveDoorsOut n b
  given_out n None None h p = tt
  given_out n None (Some y) h p = absurd p
  given_out n (Some x) None h p = absurd p
  given_out n (Some x) (Some y) h p = omega (arith, h, p.given, ap length p.back, length-append x.back [])

  module _ {L : Type 0} (faults : D → ℕ) (told : D → Option (DoorTold L)) where
    -- no door was given, and none has to go back
    pub none_returned : (count : ℕ) (a : Option (NetTold D)) → ReturnsDoors faults told count a a
    none_returned count a = record { doors = []; within = omega arith; fresh = tt; back = none_given a }

    -- the doors that were given before one was not are back
    pub some_returned : (n count : ℕ) (doors : List D) (a b c : Option (NetTold D)) → length doors ≡ n → n ≤ count
        → AreFreshDoors faults told doors → BothTold a b (λ o w. MovesDoors o w n []) → BothTold b c (λ o w. MovesDoors o w 0 doors)
        → ReturnsDoors faults told count a c
    some_returned n count doors a b c long within fresh given back = record {
      doors = doors;
      within = omega (arith, long, within);
      fresh = fresh;
      back = all_returned (length doors) doors a b c (subst (λ (m : ℕ). BothTold a b (λ o w. MovesDoors o w m [])) (sym long) given) back;
    }

    -- the doors that were given are back, which have another name there
    pub closed_back : (doors ds : List D) (a b c : Option (NetTold D)) → ds ≡ doors → AreFreshDoors faults told doors
        → BothTold a b (λ o w. MovesDoors o w (length doors) []) → BothTold b c (λ o w. MovesDoors o w 0 ds)
        → ReturnsDoors faults told (length doors) a c
    closed_back doors ds a b c same fresh given back = record {
      doors = doors;
      within = omega arith;
      fresh = fresh;
      back = all_returned (length doors) doors a b c given (subst (λ (z : List D). BothTold b c (λ o w. MovesDoors o w 0 z)) same back);
    }
