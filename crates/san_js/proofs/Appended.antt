-- Three texts that are appended one after the other.
use Rattle.std.proofs.Common.{◌≡◌, ℕ, List, ◌++◌, ap, ◌∙◌}
use Rattle.std.proofs.lemmas.List.{append_assoc}

pub appended : (before first second whole x y z : List ℕ) → first ≡ before ++ x → second ≡ first ++ y → whole ≡ second ++ z → whole ≡ before ++ (x ++ (y ++ z))
appended before first second whole x y z e f g =
    g ∙ ap (λ (bytes : List ℕ). bytes ++ z) (f ∙ ap (λ (bytes : List ℕ). bytes ++ y) e)
    ∙ append_assoc (before ++ x) y z ∙ append_assoc before x (y ++ z)
