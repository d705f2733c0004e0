-- What is derived is sound, and stays so.
use Rattle.std.specs.Prelude.{ℕ, List, Option}
use Rattle.place_core.specs.declared.place.Place.{Place}
use Rattle.place_chart.specs.declared.summary.Summary.{Summary}
use Rattle.place_derive.specs.FirstConflicts.{IsSoundLog}
use Rattle.place_derive.specs.Logs.{IsKeptLog}
use Rattle.place_derive.specs.declared.conflict.FirstConflict.{FirstConflict}
use Rattle.place_derive.specs.declared.derivation.Derivation.{Derivation}
use Rattle.place_derive.specs.declared.derived.Derived.{Derived}
use Rattle.tpl_tree.specs.Forests.{ForestData}

-- Some log is sound for the summaries; where a log is kept, it is that one.
pub record HasSoundLog (forest : ForestData) (roots : List ℕ) (first : Place) (summaries : List Summary) (kept : Option (List Derivation)) (conflict : Option FirstConflict) : Type 0 where
  pub log : List Derivation
  pub is : IsKeptLog kept log
  pub sound : IsSoundLog forest roots first summaries log conflict

-- its summaries lie below each closed chart, a log says where each place came from, and its conflict is one
abbrev pub IsSoundDerived : ForestData → List ℕ → Place → Derived → Type 0
IsSoundDerived forest roots first d = HasSoundLog forest roots first d.summaries d.log d.conflict

-- from whatever roots it was sound, it is sound from the same roots
abbrev pub StaysSound : ForestData → Derived → Derived → Type 0
StaysSound forest old new = (roots : List ℕ) (first : Place) → IsSoundDerived forest roots first old → IsSoundDerived forest roots first new
