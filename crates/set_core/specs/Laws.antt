-- What holds of every list of acts.
use Rattle.std.specs.Prelude.{◌≡◌, ℕ, ◌≤◌, List, ◌∷◌, length, Some, IsSomeAnd}
use mathlib.Core.List.{IsPrefix}
use Rattle.set_core.specs.Publications.{Publication, IsPublication, IsViewer, seen_by, key_of}
use Rattle.set_core.specs.Acts.{Act, ViewerMayEnter, ActLeads, enter, learn}

-- what was published stays, with its numbers; viewers stay, and none has seen less
pub record ActKeeps {K : Type 0} (p q : Publication K) : Type 0 where
  pub is : IsPublication q
  pub keys : IsPrefix p.keys q.keys
  pub viewers : length p.seen ≤ length q.seen
  pub seen : (viewer : ℕ) → IsViewer p viewer → seen_by p viewer ≤ seen_by q viewer

abbrev pub ActsKeep : Type 0 → Type 0
ActsKeep K = (p q : Publication K) (acts : List (Act K)) → IsPublication p → ActLeads p acts q → ActKeeps p q

-- a viewer enters, then come any acts, and then the viewer may enter at a number
abbrev pub NumbersNeverFall : Type 0 → Type 0
NumbersNeverFall K = (p q : Publication K) (viewer first then : ℕ) (acts : List (Act K)) → IsPublication p
    → ActLeads p (enter viewer first ∷ acts) q → ViewerMayEnter q viewer then → first ≤ then

abbrev pub LearntIsLeast : Type 0 → Type 0
LearntIsLeast K = (p q : Publication K) (viewer learnt then : ℕ) (acts : List (Act K)) → IsPublication p
    → ActLeads p (learn viewer learnt ∷ acts) q → ViewerMayEnter q viewer then → learnt ≤ then

-- where a viewer may enter there is a key, which stays that of the number
abbrev pub KeyStays : Type 0 → Type 0
KeyStays K = (p q : Publication K) (viewer number : ℕ) (acts : List (Act K)) → IsPublication p → IsViewer p viewer
    → ViewerMayEnter p viewer number → ActLeads p acts q → IsSomeAnd (key_of p number) (λ key. key_of q number ≡ Some key)

abbrev pub LastMayEnter : Type 0 → Type 0
LastMayEnter K = (p : Publication K) (viewer : ℕ) → IsPublication p → IsViewer p viewer
    → ViewerMayEnter p viewer (length p.keys) × ViewerMayEnter p viewer (seen_by p viewer)
