use Rattle.std.proofs.Common.{◌≡◌, ◌≤◌, length, Some, None, true, false, sym, ◌∙◌}
use Rattle.tpl_eval.proofs.NewestNumbers.{got, number_at, number_beyond, number_none}
use Rattle.tpl_eval.proofs.variable_stack.VariableStack.number_of.Goals as goal

pub returns-in-None-clause-number : goal.returns-in-None-clause-number
returns-in-None-clause-number c =
    let name = c.args.name.now in
    let newest = c.self.inside.newest in
    let lacks : got newest name ≡ None = cc (c.in-None.ensures.value) in
    number_none c.self.inside.all.items c.args.self.now newest name c.self.view_is c.self.invariant lacks

pub returns-in-Some-get-clause-number : goal.returns-in-Some-get-clause-number
returns-in-Some-get-clause-number c =
    let name = c.args.name.now in
    let newest = c.self.inside.newest in
    let n = c.in-Some.number.now in
    let v = c.in-Some-get.variable.now in
    let at : got newest name ≡ Some n = cc (c.in-Some.ensures.value) in
    let here = c.in-Some-get.ensures.lookup.3 in
    number_at c.self.inside.all.items c.as_slice.result.now c.args.self.now newest name n v true c.self.view_is c.self.invariant at c.as_slice.ensures.value here.0 (here.1 v) (sym c.eq.ensures ∙ c.if-eq.true)

pub returns-in_default-clause-number : goal.returns-in_default-clause-number
returns-in_default-clause-number c =
    let name = c.args.name.now in
    let newest = c.self.inside.newest in
    let n = c.in-Some.number.now in
    let v = c.in-Some-get.variable.now in
    let at : got newest name ≡ Some n = cc (c.in-Some.ensures.value) in
    let here = c.in-Some-get.ensures.lookup.3 in
    number_at c.self.inside.all.items c.as_slice.result.now c.args.self.now newest name n v false c.self.view_is c.self.invariant at c.as_slice.ensures.value here.0 (here.1 v) (sym c.eq.ensures ∙ c.if-eq.false)

pub returns-in_default-2-clause-number : goal.returns-in_default-2-clause-number
returns-in_default-2-clause-number c =
    let name = c.args.name.now in
    let newest = c.self.inside.newest in
    let n = c.in-Some.number.now in
    let at : got newest name ≡ Some n = cc (c.in-Some.ensures.value) in
    let outside : length c.as_slice.result.now ≤ n = rw c.in_default.is at c.get-2.ensures.lookup.3 in
    number_beyond c.self.inside.all.items c.as_slice.result.now c.args.self.now newest name n c.self.view_is c.self.invariant at c.as_slice.ensures.value outside
