-- A path is determined by its choices, up to how far it goes.
use Rattle.std.proofs.Common.{◌≡◌, ℕ, List, [], ◌∷◌, Option, Some, None, refl, sym, ap, ◌∙◌, subst, ◌⊎◌, inl, inr}
use Rattle.tpl_paths.specs.declared.choice.Way.{Way}
use Rattle.tpl_paths.specs.declared.choice.Way.TheVariants as chosen
use Rattle.tpl_paths.specs.declared.point.Point.TheVariants as point
use Rattle.tpl_tree.specs.Forests.{ForestData}
use Rattle.tpl_paths.specs.Laws.{ChoicesDetermine, IsPathPrefix}
use Rattle.tpl_paths.specs.Edges.{Edge, Point, calls, fills, finish_point, head, passes, picks, writes}
use Rattle.tpl_paths.specs.Paths.{IsMove, IsPath, Move, Open, Standing, after_moves, along, back, choices_of, open_standing}
use Rattle.tpl_paths.proofs.Blocks.{Agree, choice_of, head_choice, head_turns, no_finish, one_edge}

abbrev first_or : Way → List Way → Way
first_or d [] = d
first_or d (c ∷ cs) = c

abbrev others : List Way → List Way
others [] = []
others (c ∷ cs) = cs

none_first : (c : Way) (cs : List Way) → [] ≡ c ∷ cs → ⊥
none_first c cs e = cc

none_turn : None ≡ Some chosen.Turn → ⊥
none_turn e = cc

not_finish : (n : ℕ) → head n ≡ finish_point → ⊥
not_finish n e = cc

abbrev some_or : Way → Option Way → Way
some_or d None = d
some_or d (Some c) = c

-- after the head of a range the next choice is a turn
turn_next : (forest : ForestData) (os : List Open) (t : List ℕ) (n : ℕ) (ms : List Move) (d : Way) (ds : List Way) → IsPath forest (open_standing os t (head n)) ms → choices_of ms ≡ d ∷ ds → d ≡ chosen.Turn
turn_next forest os t n [] d ds w e = absurd (none_first d ds e)
turn_next forest os t n (back ∷ ms) d ds w e = absurd (not_finish n w.0.1)
turn_next forest os t n (along (picks from c to) ∷ ms) d ds w e = sym (ap (first_or c) e) ∙ ap (some_or c) (head_turns forest t (picks from c to) n w.0.0 (sym w.0.1))
turn_next forest os t n (along (writes m bytes to) ∷ ms) d ds w e = absurd (none_turn (head_turns forest t (writes m bytes to) n w.0.0 (sym w.0.1)))
turn_next forest os t n (along (fills m pipe to) ∷ ms) d ds w e = absurd (none_turn (head_turns forest t (fills m pipe to) n w.0.0 (sym w.0.1)))
turn_next forest os t n (along (calls m name to) ∷ ms) d ds w e = absurd (none_turn (head_turns forest t (calls m name to) n w.0.0 (sym w.0.1)))
turn_next forest os t n (along (passes from to) ∷ ms) d ds w e = absurd (none_turn (head_turns forest t (passes from to) n w.0.0 (sym w.0.1)))

-- an edge that leads to a point, and another one with a choice
head_agrees : (forest : ForestData) (os : List Open) (t : List ℕ) (to : Point) (ms : List Move) (d : Way) (ds : List Way) → IsPath forest (open_standing os t to) ms → choices_of ms ≡ d ∷ ds → Agree (head_choice to) (Some d)
head_agrees forest os t (point.Head n) ms d ds w e = sym (turn_next forest os t n ms d ds w e)
head_agrees forest os t (point.Before n) ms d ds w e = tt
head_agrees forest os t (point.Again n) ms d ds w e = tt
head_agrees forest os t (point.Past n) ms d ds w e = tt
head_agrees forest os t point.Finish ms d ds w e = tt

heads_agree : (p q : Point) → Agree (head_choice p) (head_choice q)
heads_agree (point.Head n) (point.Head m) = refl
heads_agree (point.Head n) (point.Before m) = tt
heads_agree (point.Head n) (point.Again m) = tt
heads_agree (point.Head n) (point.Past m) = tt
heads_agree (point.Head n) point.Finish = tt
heads_agree (point.Before n) q = tt
heads_agree (point.Again n) q = tt
heads_agree (point.Past n) q = tt
heads_agree point.Finish q = tt

no_choice : (o : Option Way) → Agree o None
no_choice (Some c) = tt
no_choice None = tt

swapped : (a b : Option Way) → Agree a b → Agree b a
swapped (Some c) (Some d) h = sym h
swapped (Some c) None h = tt
swapped None (Some d) h = tt
swapped None None h = tt

-- the first choices of moves with the same choices
agree : (forest : ForestData) (a : Standing) (e f : Edge) (ms ns : List Move) → IsPath forest (after_moves forest a (along e)) ms → IsPath forest (after_moves forest a (along f)) ns
    → choices_of (along e ∷ ms) ≡ choices_of (along f ∷ ns) → Agree (choice_of e) (choice_of f)
agree forest a (writes n bytes to) f ms ns v w h = tt
agree forest a (fills n pipe to) f ms ns v w h = tt
agree forest a (calls n name to) f ms ns v w h = tt
agree forest a (passes from to) (writes n bytes u) ms ns v w h = no_choice (head_choice to)
agree forest a (passes from to) (fills n pipe u) ms ns v w h = no_choice (head_choice to)
agree forest a (passes from to) (calls n name u) ms ns v w h = no_choice (head_choice to)
agree forest a (passes from to) (passes g u) ms ns v w h = heads_agree to u
agree forest a (passes from to) (picks g d u) ms ns v w h = head_agrees forest a.open_calls a.template to ms d (choices_of ns) v h
agree forest a (picks from c to) (writes n bytes u) ms ns v w h = tt
agree forest a (picks from c to) (fills n pipe u) ms ns v w h = tt
agree forest a (picks from c to) (calls n name u) ms ns v w h = tt
agree forest a (picks from c to) (picks g d u) ms ns v w h = ap (first_or c) h
agree forest a (picks from c to) (passes g u) ms ns v w h = swapped (head_choice u) (Some c) (head_agrees forest a.open_calls a.template u ns c (choices_of ms) w (sym h))

same_move : (forest : ForestData) (a : Standing) (m k : Move) (ms ns : List Move) → IsMove forest a m → IsMove forest a k → IsPath forest (after_moves forest a m) ms → IsPath forest (after_moves forest a k) ns
    → choices_of (m ∷ ms) ≡ choices_of (k ∷ ns) → m ≡ k
same_move forest a (along e) (along f) ms ns h i v w c = ap along (one_edge forest a.template e f h.0 i.0 (sym h.1 ∙ i.1) (agree forest a e f ms ns v w c))
same_move forest a (along e) back ms ns h i v w c = absurd (no_finish forest a.template e h.0 (sym h.1 ∙ i.1))
same_move forest a back (along f) ms ns h i v w c = absurd (no_finish forest a.template f i.0 (sym i.1 ∙ h.1))
same_move forest a back back ms ns h i v w c = refl

same_others : (m : Move) (ms ns : List Move) → choices_of (m ∷ ms) ≡ choices_of (m ∷ ns) → choices_of ms ≡ choices_of ns
same_others (along (writes n bytes to)) ms ns h = h
same_others (along (fills n pipe to)) ms ns h = h
same_others (along (calls n name to)) ms ns h = h
same_others (along (picks from c to)) ms ns h = ap others h
same_others (along (passes from to)) ms ns h = h
same_others back ms ns h = h

longer : (m k : Move) (ms ns : List Move) → m ≡ k → IsPathPrefix ms ns → IsPathPrefix (m ∷ ms) (k ∷ ns)
longer m k ms ns e h = (h.0, ap (λ (x : Move). x ∷ ns) (sym e) ∙ ap (λ (xs : List Move). m ∷ xs) h.1)

pub one_walk : ChoicesDetermine
one_walk forest a [] ns h i c = inl (ns, refl)
one_walk forest a (m ∷ ms) [] h i c = inr (m ∷ ms, refl)
one_walk forest a (m ∷ ms) (k ∷ ns) h i c =
    let same : m ≡ k = same_move forest a m k ms ns h.0 i.0 h.1 i.1 c in
    let walk : IsPath forest (after_moves forest a m) ns = subst (λ (x : Move). IsPath forest (after_moves forest a x) ns) (sym same) i.1 in
    let choices : choices_of (m ∷ ms) ≡ choices_of (m ∷ ns) = c ∙ ap (λ (x : Move). choices_of (x ∷ ns)) (sym same) in
    either m k ms ns same (one_walk forest (after_moves forest a m) ms ns h.1 walk (same_others m ms ns choices))
  where
    either : (m k : Move) (ms ns : List Move) → m ≡ k → IsPathPrefix ms ns ⊎ IsPathPrefix ns ms → IsPathPrefix (m ∷ ms) (k ∷ ns) ⊎ IsPathPrefix (k ∷ ns) (m ∷ ms)
    either m k ms ns e (inl h) = inl (longer m k ms ns e h)
    either m k ms ns e (inr h) = inr (longer k m ns ms (sym e) h)
