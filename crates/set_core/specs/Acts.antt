-- What is done to a list of published keys, and by its viewers.
use Rattle.std.specs.Prelude.{◌≡◌, ℕ, ◌≤◌, List, [], ◌∷◌, ◌++◌, length, max, slice_set, ⊤}
use Rattle.set_core.specs.Publications.{Publication, IsViewer, seen_by}

pub data Act (K : Type 0) : Type 0 where
  publish : K → Act K
  refuse : Act K
  add_viewer : Act K
  enter : ℕ → ℕ → Act K
  tell : Act K
  learn : ℕ → ℕ → Act K

-- the number lies from what the viewer has seen to the length of the list
abbrev pub ViewerMayEnter : {K : Type 0} → Publication K → ℕ → ℕ → Type 0
ViewerMayEnter p viewer number = (seen_by p viewer ≤ number) × (number ≤ length p.keys)

-- the act may come now
abbrev pub ActMay : {K : Type 0} → Publication K → Act K → Type 0
ActMay p (publish key) = ⊤
ActMay p refuse = ⊤
ActMay p add_viewer = ⊤
ActMay p (enter viewer number) = IsViewer p viewer × ViewerMayEnter p viewer number
ActMay p tell = ⊤
ActMay p (learn viewer number) = IsViewer p viewer × (number ≤ length p.keys)

-- what an act leaves
abbrev pub after_act : {K : Type 0} → Publication K → Act K → Publication K
after_act p (publish key) = record { keys = p.keys ++ key ∷ []; seen = p.seen }
after_act p refuse = p
after_act p add_viewer = record { keys = p.keys; seen = p.seen ++ 1 ∷ [] }
after_act p (enter viewer number) = record { keys = p.keys; seen = slice_set p.seen viewer number }
after_act p tell = p
after_act p (learn viewer number) = record { keys = p.keys; seen = slice_set p.seen viewer (max (seen_by p viewer) number) }

-- these acts, one after another, each where it may come, lead from one publication to another
abbrev pub ActLeads : {K : Type 0} → Publication K → List (Act K) → Publication K → Type 0
ActLeads p [] q = p ≡ q
ActLeads p (act ∷ acts) q = ActMay p act × ActLeads (after_act p act) acts q
