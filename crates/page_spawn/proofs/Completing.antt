-- Ends that are gathered one after another.
use Rattle.std.proofs.Common.{◌≡◌, List, [], ◌∷◌, ◌++◌, length, sym, ap, subst, append_assoc, append-nil, refl, suc}
use Rattle.page_spawn.specs.Ends.{AllFulfil}

-- With ends for the rest of the workers, these are ends for all of them.
abbrev pub Complete : {W E : Type 0} → (W → E → Type 0) → List W → List W → List E → Type 0
Complete {E = E} fulfils all rest ends = (more : List E) → AllFulfil fulfils rest more → AllFulfil fulfils all (ends ++ more)

pub one_end_more : {W E : Type 0} (fulfils : W → E → Type 0) (all rest : List W) (w : W) (ends : List E) (e : E)
    → Complete fulfils all (w ∷ rest) ends → fulfils w e → Complete fulfils all rest (ends ++ e ∷ [])
one_end_more fulfils all rest w ends e complete this more m =
    subst (λ z. AllFulfil fulfils all z) (sym (append_assoc ends (e ∷ []) more)) (complete (e ∷ more) (this, m))

-- at the end nothing is left
pub complete-nothing : {W E : Type 0} (fulfils : W → E → Type 0) (all rest : List W) (ends : List E) → rest ≡ []
    → Complete fulfils all rest ends → AllFulfil fulfils all ends
complete-nothing {W = W} {E = E} fulfils all rest ends none complete =
    let last : Complete fulfils all [] ends = subst (λ (z : List W). Complete fulfils all z ends) none complete in
    subst (λ (z : List E). AllFulfil fulfils all z) (append-nil ends) (last [] tt)

pub length-ends : {W E : Type 0} (fulfils : W → E → Type 0) (workers : List W) (ends : List E)
    → AllFulfil fulfils workers ends → length ends ≡ length workers
length-ends fulfils [] [] all = refl
length-ends fulfils [] (e ∷ es) all = absurd all
length-ends fulfils (w ∷ ws) [] all = absurd all
length-ends fulfils (w ∷ ws) (e ∷ es) all = ap suc (length-ends fulfils ws es all.1)
