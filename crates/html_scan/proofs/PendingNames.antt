-- What has been read of a text grows by the byte at hand.
use Rattle.std.proofs.Common.{◌≡◌, ℕ, ◌+◌, ◌-◌, ◌<◌, ◌≤◌, List, [], ◌∷◌, ◌++◌, length, take, arith}
use Rattle.std.specs.Prelude.{get_or}
use Rattle.std.proofs.lemmas.Grind.{take_at_read}
use Rattle.std.proofs.lemmas.List.{drop-append-le, length-drop, length-take, length-take-le, drop_at, drop_all}
use Rattle.html_scan.specs.Slices.{pending}

pub pending_grows : (text : List ℕ) (from k : ℕ) → from ≤ k → k < length text → pending text from (k + 1) ≡ pending text from k ++ get_or text k 0 ∷ []
pending_grows text from k h i = rw ((take_at_read text k 0 i).1) (drop-append-le from (take k text) _ (rw (length-take-le k text (omega arith)) h))

pub pending_begins : (text : List ℕ) (k : ℕ) → k < length text → pending text k (k + 1) ≡ get_or text k 0 ∷ []
pending_begins text k i = rw ((take_at_read text k 0 i).1) (drop_at (take k text) _ k (length-take-le k text (omega arith)))

pub pending_nothing : (text : List ℕ) (k : ℕ) → pending text k k ≡ []
pending_nothing text k = drop_all k (take k text) (omega (arith, length-take {A = ℕ}))

pub length_pending : (text : List ℕ) (from k : ℕ) → k ≤ length text → length (pending text from k) ≡ k - from
length_pending text from k h = omega (arith, length-drop from (take k text), length-take-le k text h)
