-- Signs after one another, and the events that have them.
use Rattle.std.proofs.Common.{◌≡◌, ℕ, List, [], ◌∷◌, Bool, true, false, ap, true≢false}
use Rattle.page_datum.specs.Data.{Data}
use Rattle.tpl_events.specs.Events.{ExecEvent, enters, gives_hole, gives_text, leaves}
use Rattle.tpl_paths.specs.Paths.{Sign, enters_at, hole_of, leaves_call, text_of}
use Rattle.page_path.specs.Taken.{move_sign}

abbrev is_some : List Sign → Bool
is_some [] = false
is_some (x ∷ xs) = true

abbrev head_or : Sign → List Sign → Sign
head_or d [] = d
head_or d (x ∷ xs) = x

abbrev tail_of : List Sign → List Sign
tail_of [] = []
tail_of (x ∷ xs) = xs

pub nothing : {A : Type 0} {x : Sign} {xs : List Sign} → x ∷ xs ≡ [] → A
nothing e = absurd (true≢false (ap is_some e))

pub heads : {x y : Sign} {xs ys : List Sign} → x ∷ xs ≡ y ∷ ys → x ≡ y
heads {x = x} e = ap (head_or x) e

pub tails : {x y : Sign} {xs ys : List Sign} → x ∷ xs ≡ y ∷ ys → xs ≡ ys
tails e = ap tail_of e

-- the event of a sign; a hole has a value besides
pub text-event : (n : ℕ) (e : ExecEvent) → text_of n ≡ move_sign e → gives_text n ≡ e
text-event n (gives_text m) h = cc
text-event n (gives_hole m datum) h = cc
text-event n (enters m) h = cc
text-event n leaves h = cc

pub hole-event : (n : ℕ) (e : ExecEvent) → hole_of n ≡ move_sign e → (datum : Data) × (gives_hole n datum ≡ e)
hole-event n (gives_text m) h = cc
hole-event n (gives_hole m datum) h = (datum, cc)
hole-event n (enters m) h = cc
hole-event n leaves h = cc

pub enter-event : (n : ℕ) (e : ExecEvent) → enters_at n ≡ move_sign e → enters n ≡ e
enter-event n (gives_text m) h = cc
enter-event n (gives_hole m datum) h = cc
enter-event n (enters m) h = cc
enter-event n leaves h = cc

pub leave-event : (e : ExecEvent) → leaves_call ≡ move_sign e → leaves ≡ e
leave-event (gives_text m) h = cc
leave-event (gives_hole m datum) h = cc
leave-event (enters m) h = cc
leave-event leaves h = cc
