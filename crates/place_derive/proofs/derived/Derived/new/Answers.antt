use Rattle.std.proofs.Common.{List, [], None, Option, sym, subst}
use Rattle.place_derive.specs.FirstConflicts.{IsSoundLog}
use Rattle.place_derive.specs.Logs.{IsKeptLog}
use Rattle.place_derive.specs.declared.derivation.Derivation.{Derivation}
use Rattle.place_derive.proofs.KeptLogs.{kept_none}
use Rattle.place_derive.proofs.NothingSound.{nothing_sound}
use Rattle.place_chart.specs.declared.summary.Summary.{Summary}
use Rattle.place_derive.proofs.derived.Derived.new.Goals as goal

pub returns-clause-sound : goal.returns-clause-sound
returns-clause-sound c = λ forest roots first. record {
  log = [];
  is = subst (λ (kept : Option (List Derivation)). IsKeptLog kept []) (sym c.new-log.ensures) (kept_none c.args.keeps_log);
  sound = subst (λ (summaries : List Summary). IsSoundLog forest roots first summaries [] None) (sym c.new-summaries.ensures) (nothing_sound forest roots first);
}
