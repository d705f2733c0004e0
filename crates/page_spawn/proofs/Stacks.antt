-- A stack of threads whose workers were taken from the end of a list: read from the top it has them in the list's order.
use Rattle.std.proofs.Common.{◌≡◌, List, [], ◌∷◌, ◌++◌, map, reverse, sym, ap, ◌∙◌, subst, append_assoc}
use Rattle.std.proofs.lemmas.List.{reverse-append, map-append}
use Rattle.page_spawn.proofs.Completing.{Complete, one_end_more}

reverse_pushed : {T W : Type 0} (worker : T → W) (threads : List T) (t : T)
    → reverse (map worker (threads ++ t ∷ [])) ≡ worker t ∷ reverse (map worker threads)
reverse_pushed worker threads t =
    ap reverse (map-append worker threads (t ∷ [])) ∙ reverse-append (map worker threads) (worker t ∷ [])

pub reverse_none : {T W : Type 0} (worker : T → W) (threads : List T) → threads ≡ [] → reverse (map worker threads) ≡ []
reverse_none {T = T} worker threads none = ap (λ (z : List T). reverse (map worker z)) none

-- a worker is taken from the list, and its thread is put on the stack
pub stack_started : {T W : Type 0} (worker : T → W) (all before now : List W) (w : W) (threads started : List T) (t : T)
    → all ≡ before ++ reverse (map worker threads) → before ≡ now ++ w ∷ [] → started ≡ threads ++ t ∷ [] → worker t ≡ w
    → all ≡ now ++ reverse (map worker started)
stack_started {T = T} {W = W} worker all before now w threads started t is pop push of =
    let stack : w ∷ reverse (map worker threads) ≡ reverse (map worker started) =
    ap (λ (z : W). z ∷ reverse (map worker threads)) (sym of) ∙ sym (reverse_pushed worker threads t)
    ∙ ap (λ (z : List T). reverse (map worker z)) (sym push) in
    is ∙ ap (λ (z : List W). z ++ reverse (map worker threads)) pop ∙ append_assoc now (w ∷ []) (reverse (map worker threads))
    ∙ ap (λ (z : List W). now ++ z) stack

-- a thread is taken from the stack, and its worker is put back on the list
pub stack_returned : {T W : Type 0} (worker : T → W) (all before now : List W) (w : W) (threads left : List T) (t : T)
    → before ++ reverse (map worker threads) ≡ all → threads ≡ left ++ t ∷ [] → now ≡ before ++ w ∷ [] → w ≡ worker t
    → now ++ reverse (map worker left) ≡ all
stack_returned {T = T} {W = W} worker all before now w threads left t is pop push of =
    let stack : w ∷ reverse (map worker left) ≡ reverse (map worker threads) =
    ap (λ (z : W). z ∷ reverse (map worker left)) of ∙ sym (reverse_pushed worker left t)
    ∙ ap (λ (z : List T). reverse (map worker z)) (sym pop) in
    ap (λ (z : List W). z ++ reverse (map worker left)) push ∙ append_assoc before (w ∷ []) (reverse (map worker left))
    ∙ ap (λ (z : List W). before ++ z) stack ∙ is

-- a thread is taken from the stack, and its worker has ended
pub stack_ended : {T W E : Type 0} (fulfils : W → E → Type 0) (worker : T → W) (all : List W) (threads left : List T) (t : T)
    (ends more : List E) (e : E) → Complete fulfils all (reverse (map worker threads)) ends → threads ≡ left ++ t ∷ []
    → more ≡ ends ++ e ∷ [] → fulfils (worker t) e → Complete fulfils all (reverse (map worker left)) more
stack_ended {T = T} {W = W} {E = E} fulfils worker all threads left t ends more e complete pop push this =
    let top : reverse (map worker threads) ≡ worker t ∷ reverse (map worker left) =
    ap (λ (z : List T). reverse (map worker z)) pop ∙ reverse_pushed worker left t in
    let before : Complete fulfils all (worker t ∷ reverse (map worker left)) ends =
    subst (λ (z : List W). Complete fulfils all z ends) top complete in
    subst (λ (z : List E). Complete fulfils all (reverse (map worker left)) z) (sym push)
    (one_end_more fulfils all (reverse (map worker left)) (worker t) ends e before this)
