-- What is kept of a log that grows.
use Rattle.std.proofs.Common.{◌≡◌, List, [], ◌++◌, Bool, true, false, Option, Some, None, refl, ap}
use Rattle.place_derive.specs.Logs.{IsKeptLog, empty_log, log_with}
use Rattle.place_derive.specs.declared.derivation.Derivation.{Derivation}

pub kept_more : (kept : Option (List Derivation)) (log more : List Derivation) → IsKeptLog kept log → IsKeptLog (log_with kept more) (log ++ more)
kept_more None log more h = tt
kept_more (Some l) log more h = ap (λ (x : List Derivation). x ++ more) h

pub kept_none : (keeps : Bool) → IsKeptLog (empty_log keeps) []
kept_none true = refl
kept_none false = tt
