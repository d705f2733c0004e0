-- What the clause `keeps` of the calls excludes: a log that was asked for and is not there. One that was asked for and is there is kept.
use Rattle.std.proofs.Common.{◌≡◌, true, false, List, None, Some, refl}
use Rattle.place_derive.specs.Logs.{empty_log, is_kept, log_with}
use Rattle.place_derive.specs.declared.derivation.Derivation.{Derivation}

pub asked_and_missing : is_kept None ≡ true → ⊥
asked_and_missing e = cc

pub asked_and_there : (log : List Derivation) → is_kept (Some log) ≡ true
asked_and_there log = refl

-- a log that is made where it is asked for is there, and one that is not there does not come by what is derived later
pub made_there : is_kept (empty_log true) ≡ true
made_there = refl

pub never_there : (more : List Derivation) → is_kept (log_with None more) ≡ true → ⊥
never_there more e = cc
