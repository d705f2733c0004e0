use Rattle.std.proofs.Common.{get_or, sym, ap, ◌∙◌, subst}
use Rattle.place_core.specs.declared.place.Place.{Place}
use Rattle.place_core.specs.declared.place.Place.TheVariants as place
use Rattle.text_norm.specs.Resting.{ReferenceStays}
use Rattle.text_norm.proofs.Rests.{block_stays, text_stays}
use Rattle.text_norm.proofs.plain_runs.place_end.Goals as goal

pub returns-in-Text-clause-stays : goal.returns-in-Text-clause-stays
returns-in-Text-clause-stays c i from to = subst (λ (p : Place). ReferenceStays p (get_or c.args.bytes.now i 0)) (sym c.in-Text.is) (text_stays (get_or c.args.bytes.now i 0) (c.run_end.ensures.differs i from to))

pub returns-in-Block-false-clause-stays : goal.returns-in-Block-false-clause-stays
returns-in-Block-false-clause-stays c i from to =
    subst (λ (p : Place). ReferenceStays p (get_or c.args.bytes.now i 0)) (sym (c.in-Block-false.is ∙ ap place.Block c.in-Block-false.field-0-test))
    (block_stays (get_or c.args.bytes.now i 0) (c.run_end-in-Block-false.ensures.differs i from to))
