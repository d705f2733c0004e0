use Rattle.std.proofs.Common.{subst, List, length, ◌<◌, ◌≡◌, refl, Some, sym, ◌∙◌, ap}
use Rattle.std.proofs.lemmas.Option.{slice_get_read}
use Rattle.std.specs.Prelude.{slice_get, slice_set}
use Rattle.place_chart.proofs.Numbering.{numbers_set}
use Rattle.place_chart.specs.declared.summary.Summary.{Summary}
use Rattle.place_chart.proofs.summaries.Summaries.raise.Goals as goal

pub invariant_of-self : goal.invariant_of-self
invariant_of-self c = λ t. c.self.invariant t
    ∙ sym (numbers_set c.self.inside.summaries.items c.args.n c.raise.new.summary c.index_mut.result.now 0 t (c.raise.ensures.template ∙ ap (λ (r : Summary). r.template) c.index_mut.ensures.value) (subst (λ (summaries : List Summary). c.args.n < length summaries) (sym c.self.view_is) c.requires))

pub returns-clause-raised : goal.returns-clause-raised
returns-clause-raised c = record {
  before = c.index_mut.result.now;
  after = c.raise.new.summary;
  was = subst (λ (summaries : List Summary). slice_get summaries c.args.n ≡ Some c.index_mut.result.now) c.self.view_is
      (slice_get_read c.self.inside.summaries.items (length c.self.inside.summaries.items) c.args.n c.index_mut.result.now refl (subst (λ (summaries : List Summary). c.args.n < length summaries) (sym c.self.view_is) c.requires) c.index_mut.ensures.value);
  is = ap (λ (summaries : List Summary). slice_set summaries c.args.n c.raise.new.summary) c.self.view_is;
  template = c.raise.ensures.template;
  entry = c.raise.ensures.entry;
  raised = c.raise.ensures.raised;
}
