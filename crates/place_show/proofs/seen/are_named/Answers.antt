use Rattle.std.proofs.Common.{All, subst, take_all, slice_index_or, arith}
use Rattle.std.proofs.lemmas.List.Elements.{All-more}
use Rattle.place_trace.specs.declared.chosen.Chosen.{Chosen}
use Rattle.place_show.proofs.Named.{has-name}
use Rattle.place_show.specs.Showings.{IsNamedTemplate}
use Rattle.tpl_paths.specs.declared.choice.Way.TheVariants as way
use Rattle.place_show.proofs.seen.are_named.Goals as goal

pub loop-choice-preserved : goal.loop-choice-preserved
loop-choice-preserved c =
    let none : Chosen = record { template = 0; node = 0; way = way.Then } in
    let choice : Chosen = slice_index_or c.args.chosen.now c.loop-choice.choice-index none in
    let lt = c.if-choice-count.false in
    let count = c.count.ensures.count in
    let named : IsNamedTemplate c.args.forest.now choice = has-name c.args.forest.now choice.template (omega (arith, lt, count)) in
    All-more (IsNamedTemplate c.args.forest.now) c.args.chosen.now c.loop-choice.choice-index none c.loop-choice-test.true c.loop-choice.invariant named

pub returns : goal.returns
returns c = λ t. subst (All (IsNamedTemplate c.args.forest.now)) (take_all c.loop-choice.choice-index c.args.chosen.now c.loop-choice-test.false) c.loop-choice.invariant
