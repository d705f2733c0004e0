-- Lists that are read from their end, which was their beginning before they were turned round.
use Rattle.std.proofs.Common.{◌≡◌, List, [], ◌∷◌, ◌++◌, length, map, reverse, sym, ap, ◌∙◌, subst, append_assoc}
use Rattle.std.proofs.lemmas.List.{length-reverse, map-append, reverse-append, reverse-reverse}
use Rattle.page_spawn.specs.Gates.{Each}

-- nothing was made of a list yet, which was turned round
pub queue_begun : {W X : Type 0} (of : W → X) (made : List W) (all turned : List X) → made ≡ [] → turned ≡ reverse all
    → map of made ++ reverse turned ≡ all
queue_begun {W = W} of made all turned none turn =
    ap (λ (z : List W). map of z ++ reverse turned) none ∙ ap reverse turn ∙ reverse-reverse all

-- one value more was taken from the end, and something was made of it
pub queue_more : {W X : Type 0} (of : W → X) (made more : List W) (w : W) (all left : List X) (x : X) (before : List X)
    → map of made ++ reverse before ≡ all → before ≡ left ++ x ∷ [] → more ≡ made ++ w ∷ [] → of w ≡ x
    → map of more ++ reverse left ≡ all
queue_more {W = W} {X = X} of made more w all left x before is pop push this =
    ap (λ (z : List W). map of z ++ reverse left) push
    ∙ ap (λ (z : List X). z ++ reverse left) (map-append of made (w ∷ []))
    ∙ append_assoc (map of made) (of w ∷ []) (reverse left)
    ∙ ap (λ (z : X). map of made ++ z ∷ reverse left) this
    ∙ ap (λ (z : List X). map of made ++ z) (sym (ap reverse pop ∙ reverse-append left (x ∷ [])))
    ∙ is

-- what holds of each value of a list holds where it is read from the end of the list turned round
pub each_begun : {X : Type 0} (P : X → Type 0) (all turned : List X) → Each P all → turned ≡ reverse all → Each P (reverse turned)
each_begun {X = X} P all turned each turn = subst (λ (z : List X). Each P z) (sym (ap reverse turn ∙ reverse-reverse all)) each

-- and of the last one, and of those that are left
pub each_taken : {X : Type 0} (P : X → Type 0) (before left : List X) (x : X) → Each P (reverse before) → before ≡ left ++ x ∷ []
    → P x × Each P (reverse left)
each_taken {X = X} P before left x each pop =
    subst (λ (z : List X). Each P z) (ap reverse pop ∙ reverse-append left (x ∷ [])) each

pub queue_length : {X : Type 0} (all turned : List X) → turned ≡ reverse all → length turned ≡ length all
queue_length all turned turn = ap length turn ∙ length-reverse all
