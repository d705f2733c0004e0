use Rattle.std.proofs.Common.{subst, List, length, ◌<◌, ◌≡◌, refl, Some, sym, ◌∙◌, ap}
use Rattle.std.proofs.lemmas.List.{get_or_default}
use Rattle.std.proofs.lemmas.Option.{slice_get_read}
use Rattle.std.specs.Prelude.{slice_get, slice_set}
use Rattle.place_chart.proofs.Numbering.{numbers_set}
use Rattle.place_chart.specs.Summaries.{point_state_in}
use Rattle.place_chart.specs.declared.summary.Summary.{Summary}
use Rattle.place_chart.proofs.summaries.Summaries.take.Goals as goal

pub invariant_of-self : goal.invariant_of-self
invariant_of-self c = λ t.
    let items = c.self.inside.summaries.items in
    let n = c.args.n in
    let lt : n < length items = subst (λ (summaries : List Summary). n < length summaries) (sym c.self.view_is) c.requires in
    c.self.invariant t
    ∙ sym (numbers_set items n c.replace.new.dest c.index_mut.result.now 0 t
    (ap (λ (r : Summary). r.template) c.replace.ensures.after ∙ c.empty_summary-left.ensures.template ∙ ap (λ (r : Summary). r.template) (c.index-pair.ensures ∙ get_or_default items n c.index-pair.result.now c.index_mut.result.now lt)) lt)

pub returns-clause-taken : goal.returns-clause-taken
returns-clause-taken c =
    let items = c.self.inside.summaries.items in
    let n = c.args.n in
    let lt : n < length items = subst (λ (summaries : List Summary). n < length summaries) (sym c.self.view_is) c.requires in
    subst (λ (summaries : List Summary). slice_get summaries n ≡ Some c.index_mut.result.now) c.self.view_is
    (slice_get_read items (length items) n c.index_mut.result.now refl lt c.index_mut.ensures.value)
    ∙ ap Some (sym c.replace.ensures.value)

pub returns-clause-left : goal.returns-clause-left
returns-clause-left c =
    let items = c.self.inside.summaries.items in
    let n = c.args.n in
    let lt : n < length items = subst (λ (summaries : List Summary). n < length summaries) (sym c.self.view_is) c.requires in
    let same : c.index-pair.result.now ≡ c.index_mut.result.now = c.index-pair.ensures ∙ get_or_default items n c.index-pair.result.now c.index_mut.result.now lt ∙ sym c.index_mut.ensures.value in
    record {
      before = c.index_mut.result.now;
      after = c.replace.new.dest;
      was = subst (λ (summaries : List Summary). slice_get summaries n ≡ Some c.index_mut.result.now) c.self.view_is
          (slice_get_read items (length items) n c.index_mut.result.now refl lt c.index_mut.ensures.value);
      is = ap (λ (summaries : List Summary). slice_set summaries n c.replace.new.dest) c.self.view_is;
      template = ap (λ (r : Summary). r.template) c.replace.ensures.after ∙ c.empty_summary-left.ensures.template ∙ ap (λ (r : Summary). r.template) same;
      entry = ap (λ (r : Summary). r.entry) c.replace.ensures.after ∙ c.empty_summary-left.ensures.entry ∙ ap (λ (r : Summary). r.entry) same;
      nothing = λ k. ap (λ (r : Summary). point_state_in r k) c.replace.ensures.after ∙ c.empty_summary-left.ensures.nothing k;
    }
