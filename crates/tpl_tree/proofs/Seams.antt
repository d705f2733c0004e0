-- The lines after the seam before a byte fit where those after all seams do.
use Rattle.std.proofs.Common.{ℕ, suc, ◌+◌, ◌<◌, Bool, true, false, nat_le, if◌then◌else◌, List, [], ◌∷◌, All, arith}
use Rattle.tpl_symbol.specs.declared.symbol.Seam.{Seam}
use Rattle.tpl_tree.specs.Trees.{seam_before}

-- one of two seams
chosen-line : (b : Bool) (seam before : Seam) (n bound : ℕ) → seam.line + n < bound → before.line + n < bound → (if b then seam else before).line + n < bound
chosen-line true seam before n bound one other = one
chosen-line false seam before n bound one other = other

pub seam_before-line : (before : Seam) (seams : List Seam) (byte n bound : ℕ) → before.line + n < bound → All (λ (s : Seam). s.line + n < bound) seams
    → (seam_before before seams byte).line + n < bound
seam_before-line before [] byte n bound lt all = lt
seam_before-line before (seam ∷ seams) byte n bound lt all =
    seam_before-line (if nat_le seam.at byte then seam else before) seams byte n bound
    (chosen-line (nat_le seam.at byte) seam before n bound (all 0 seam (omega arith)) lt)
    (λ k d inside. all (suc k) d (omega arith))
