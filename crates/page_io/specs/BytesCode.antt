-- Bytes as a tree of numbers, and back.
use Rattle.std.specs.Prelude.{◌≡◌, refl, ℕ, List, [], ◌∷◌}
use base.Stored.{Gv, gnil, gnum, gcons}

abbrev pub bytes_tree : List ℕ → Gv
bytes_tree [] = gnil
bytes_tree (b ∷ bs) = gcons (gnum b) (bytes_tree bs)

abbrev pub bytes_from : Gv → List ℕ
bytes_from (gcons (gnum b) bs) = b ∷ bytes_from bs
bytes_from _ = []

pub bytes_from-bytes_tree : (bs : List ℕ) → bytes_from (bytes_tree bs) ≡ bs
bytes_from-bytes_tree [] = refl
bytes_from-bytes_tree (b ∷ bs) = λ i. b ∷ bytes_from-bytes_tree bs i
