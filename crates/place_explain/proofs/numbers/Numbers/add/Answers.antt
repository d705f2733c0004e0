use Rattle.std.proofs.Common.{◌≡◌, ◌++◌, ◌∷◌, [], ℕ, ◌<◌, List, Bool, true, false, length, get_or, inr, sym, subst, arith}
use Rattle.std.proofs.lemmas.List.Elements.{Contains-push}
use Rattle.std.proofs.lemmas.List.{length-set}
use Rattle.std.proofs.Math.ListN.{set}
use Rattle.std.specs.Prelude.{Contains}
use Rattle.place_explain.proofs.Marks.{marks_push}
use Rattle.place_explain.specs.Numbers.{AreMarked, IsNumberAdded, NumbersData}
use Rattle.place_explain.proofs.numbers.Numbers.add.Goals as goal

no_mark : (marks : List Bool) (n : ℕ) (mark : Bool) → mark ≡ get_or marks n mark → mark ≡ false → get_or marks n false ≡ false
no_mark marks n mark is no_one = sym (subst (λ (b : Bool). b ≡ get_or marks n b) no_one is)

pub invariant_of-self-2 : goal.invariant_of-self-2
invariant_of-self-2 c =
    let marks = c.self.inside.marks.items in
    subst (λ (list : List ℕ). AreMarked list (set marks c.args.n true)) (sym c.in_ok-push.ensures.items)
    (marks_push c.self.inside.list.items marks c.args.n c.self.invariant (omega (arith, c.len.ensures, c.if-at-len.false)) (no_mark marks c.args.n c.index.result.now c.index.ensures c.if-index.false))

added : (list new : List ℕ) (marks : List Bool) (n : ℕ) → n < length marks → new ≡ list ++ n ∷ [] → IsNumberAdded (record { list = list; limit = length marks }) (record { list = new; limit = length (set marks n true) }) n
added list new marks n lt is = record {
  limit = length-set marks n true;
  has = λ _. subst (λ (ns : List ℕ). Contains ns n) (sym is) (Contains-push list n);
  rest = inr (is, lt);
}

pub returns : goal.returns
returns c =
    let new : NumbersData = record { list = c.push.new.self.items; limit = length (set c.self.inside.marks.items c.args.n true) } in
    subst (λ (old : NumbersData). IsNumberAdded old new c.args.n) c.self.view_is
    (added c.self.inside.list.items c.push.new.self.items c.self.inside.marks.items c.args.n (omega (arith, c.len.ensures, c.if-at-len.false)) c.in_ok-push.ensures.items)
