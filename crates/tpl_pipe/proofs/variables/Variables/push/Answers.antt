use Rattle.std.proofs.Common.{◌≡◌, List, ℕ, Some, false, true, length, nat_cmp, sym, ap, ◌∙◌, subst}
use Rattle.std.specs.BTreeMap.{Updates}
use Rattle.std.specs.Cmp.Lexicographic.{slice_cmp}
use Rattle.std.specs.Option.{is_some}
use Rattle.tpl_pipe.specs.Variables.{AreNumbered, variable_number}
use Rattle.tpl_pipe.proofs.VariableNumbers.{numbered-put, numbered-new, numbered-again}
use Rattle.tpl_pipe.proofs.variables.Variables.push.Goals as goal

pub invariant_of-self-then-has_declared : goal.invariant_of-self-then-has_declared
invariant_of-self-then-has_declared c =
    let names = c.self.inside.names.items in
    let there : is_some (variable_number c.args.name names) ≡ true = cc (c.if-has_declared.true, c.has_declared.ensures, c.self.view_is) in
    subst (λ (all : List (List ℕ)). AreNumbered all c.self.inside.numbers) (sym c.in_ok-push.ensures.items) (numbered-again names c.args.name c.self.inside.numbers c.self.invariant there)

pub invariant_of-self-in_err-push-2 : goal.invariant_of-self-in_err-push-2
invariant_of-self-in_err-push-2 c =
    let names = c.self.inside.names.items in
    let old = c.self.inside.numbers in
    let new = c.insert.new.self in
    let fresh : is_some (variable_number c.args.name names) ≡ false = cc (c.if-has_declared.false, c.has_declared.ensures, c.self.view_is) in
    let copied : c.in_ok-copy.copy ≡ c.args.name = c.in_ok-copy.ensures ∙ c.as_str.ensures in
    let put = subst (λ (x : List ℕ). Updates (slice_cmp nat_cmp) old new x (Some (length c.as_slice-number.result.now))) copied c.in_ok-insert.ensures.updates in
    let same : c.push-2.new.self.items ≡ names = c.in_err-push-2.ensures.items in
    subst (λ (all : List (List ℕ)). AreNumbered all new) (sym same) (numbered-put names c.args.name old new (length c.as_slice-number.result.now) c.self.invariant fresh put)

pub invariant_of-self-2 : goal.invariant_of-self-2
invariant_of-self-2 c =
    let names = c.self.inside.names.items in
    let old = c.self.inside.numbers in
    let new = c.insert.new.self in
    let fresh : is_some (variable_number c.args.name names) ≡ false = cc (c.if-has_declared.false, c.has_declared.ensures, c.self.view_is) in
    let copied : c.in_ok-copy.copy ≡ c.args.name = c.in_ok-copy.ensures ∙ c.as_str.ensures in
    let count : length c.as_slice-number.result.now ≡ length names = ap length c.as_slice-number.ensures.value in
    let put = subst (λ (x : List ℕ). Updates (slice_cmp nat_cmp) old new x (Some (length c.as_slice-number.result.now))) copied c.in_ok-insert.ensures.updates in
    let placed = subst (λ (k : ℕ). Updates (slice_cmp nat_cmp) old new c.args.name (Some k)) count put in
    subst (λ (all : List (List ℕ)). AreNumbered all new) (sym c.in_ok-push-2.ensures.items) (numbered-new names c.args.name old new c.self.invariant fresh placed)
