use Rattle.std.proofs.Common.{get_or, refl, sym, subst}
use Rattle.place_core.specs.declared.element.Element.{Element}
use Rattle.place_core.specs.declared.element.Element.TheVariants as element
use Rattle.place_core.specs.declared.place.Place.TheVariants as place
use Rattle.text_norm.specs.Resting.{ReferenceStays}
use Rattle.text_norm.proofs.Rests.{rcdata_stays}
use Rattle.text_norm.proofs.plain_runs.rcdata_end.Goals as goal

pub returns-in-Title-clause-stays : goal.returns-in-Title-clause-stays
returns-in-Title-clause-stays c i from to =
    subst (λ (e : Element). ReferenceStays (place.Rcdata e) (get_or c.args.bytes.now i 0)) (sym c.in-Title.is) (rcdata_stays element.Title refl (get_or c.args.bytes.now i 0) (c.run_end.ensures.differs i from to))

pub returns-in-Textarea-clause-stays : goal.returns-in-Textarea-clause-stays
returns-in-Textarea-clause-stays c i from to =
    subst (λ (e : Element). ReferenceStays (place.Rcdata e) (get_or c.args.bytes.now i 0)) (sym c.in-Textarea.is)
    (rcdata_stays element.Textarea refl (get_or c.args.bytes.now i 0) (c.run_end-in-Textarea.ensures.differs i from to))
