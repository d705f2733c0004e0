-- A log that is kept, or not.
use Rattle.std.specs.Prelude.{◌≡◌, Bool, true, false, List, [], ◌++◌, if◌then◌else◌, Option, Some, None, ⊤}
use Rattle.place_derive.specs.declared.derivation.Derivation.{Derivation}

-- whether it is kept
abbrev pub is_kept : Option (List Derivation) → Bool
is_kept None = false
is_kept (Some log) = true

-- the log before any derivation
abbrev pub empty_log : Bool → Option (List Derivation)
empty_log keeps = if keeps then Some [] else None

-- the log with more derivations after it
abbrev pub log_with : Option (List Derivation) → List Derivation → Option (List Derivation)
log_with None more = None
log_with (Some log) more = Some (log ++ more)

-- its derivations; none where it is not kept
abbrev pub kept_list : Option (List Derivation) → List Derivation
kept_list None = []
kept_list (Some log) = log

-- what is kept, where anything is, is this log
abbrev pub IsKeptLog : Option (List Derivation) → List Derivation → Type 0
IsKeptLog None log = ⊤
IsKeptLog (Some kept) log = kept ≡ log
