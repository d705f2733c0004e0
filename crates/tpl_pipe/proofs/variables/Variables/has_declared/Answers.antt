use Rattle.std.proofs.Common.{◌≡◌, ℕ, List, length, Some, None, nat_cmp, refl, subst}
use Rattle.std.proofs.lemmas.Option.{slice_get_read, slice_get_past}
use Rattle.std.specs.BTreeMap.{get}
use Rattle.std.specs.Cmp.Lexicographic.{slice_cmp}
use Rattle.std.specs.List.{slice_get}
use Rattle.tpl_pipe.proofs.VariableNumbers.{numbered-found, numbered-past, numbered-lacks}
use Rattle.tpl_pipe.proofs.variables.Variables.has_declared.Goals as goal

pub returns-in-Some-get : goal.returns-in-Some-get
returns-in-Some-get c =
    let names = c.self.inside.names.items in
    let name = c.args.name.now in
    let n = c.in-Some.number.now in
    let found = c.in-Some-get.found.now in
    let at : get (slice_cmp nat_cmp) c.self.inside.numbers name ≡ Some n = cc (c.in-Some.ensures.value) in
    let h = c.in-Some-get.ensures.lookup.3 in
    let read = slice_get_read c.as_slice.result.now (length c.as_slice.result.now) n found refl h.0 (h.1 found) in
    let here : slice_get names n ≡ Some found = subst (λ (xs : List (List ℕ)). slice_get xs n ≡ Some found) c.as_slice.ensures.value read in
    let is = numbered-found names name found c.self.inside.numbers n c.self.invariant at here in
    cc (is, c.eq.ensures, c.self.view_is)

pub returns-in-None-get : goal.returns-in-None-get
returns-in-None-get c =
    let names = c.self.inside.names.items in
    let name = c.args.name.now in
    let n = c.in-Some.number.now in
    let at : get (slice_cmp nat_cmp) c.self.inside.numbers name ≡ Some n = cc (c.in-Some.ensures.value) in
    let read = slice_get_past c.as_slice.result.now n c.in-None-get.ensures.lookup.3 in
    let past : slice_get names n ≡ None = subst (λ (xs : List (List ℕ)). slice_get xs n ≡ None) c.as_slice.ensures.value read in
    let is = numbered-past names name c.self.inside.numbers n c.self.invariant at past in
    cc (is, c.self.view_is)

pub returns-in-None : goal.returns-in-None
returns-in-None c =
    let names = c.self.inside.names.items in
    let name = c.args.name.now in
    let lacks : get (slice_cmp nat_cmp) c.self.inside.numbers name ≡ None = cc (c.in-None.ensures.value) in
    let is = numbered-lacks names name c.self.inside.numbers c.self.invariant lacks in
    cc (is, c.self.view_is)
