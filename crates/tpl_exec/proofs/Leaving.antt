-- After a part that a `break` or a `continue` leaves, what is open besides does not matter.
use Rattle.std.proofs.Common.{◌≡◌, ℕ, Bool, true, false, List, [], ◌∷◌, Option, refl}
use Rattle.page_datum.specs.Data.{Data}
use Rattle.tpl_exec.specs.Machine.{Frame, Machine, after_control, loop_broken_off, call, leaving, loop, nowhere, part}

pub off_after : (ends : Bool) (m : Machine) (dot : Option Data) (count : ℕ) (fs gs : List Frame) → loop_broken_off ends (leaving m dot count) fs ≡ loop_broken_off ends (after_control m dot nowhere count gs) fs
off_after ends m dot count [] gs = refl
off_after ends m dot count (part outer rest remain ∷ fs) gs = refl
off_after true m dot count (loop outer l rest remain ∷ fs) gs = refl
off_after false m dot count (loop outer l rest remain ∷ fs) gs = refl
off_after ends m dot count (call caller line rest variables ∷ fs) gs = refl
