use Rattle.std.proofs.Common.{Bool, Some, ap}
use Rattle.tpl_exec.proofs.Elements.{some_entries, some_values}
use Rattle.tpl_exec.proofs.element.has_elements.Goals as goal

pub returns-in-List : goal.returns-in-List
returns-in-List c = rw c.in-List.is (ap (λ (b : Bool). Some b) (some_values c.in-List.values.now))

pub returns-in-Dict : goal.returns-in-Dict
returns-in-Dict c = rw c.in-Dict.is (ap (λ (b : Bool). Some b) (some_entries c.in-Dict.entries.now c.len.result c.len.ensures.count))
