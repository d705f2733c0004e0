use Rattle.std.proofs.Common.{◌∙◌, List, ap}
use Rattle.std.specs.Prelude.{slice_index_or}
use Rattle.html_step.proofs.OriginSteps.{member-at}
use Rattle.html_step.specs.OriginViews.{member_number}
use Rattle.place_core.specs.declared.member.Member.{Member}
use Rattle.place_core.specs.declared.member.Member.TheVariants as member
use Rattle.html_step.proofs.origins.Origins.same.Goals as goal

pub returns : goal.returns
returns c = λ y. ap (λ (xs : List Member). slice_index_or xs (member_number y) member.Whole) c.members.ensures ∙ member-at (λ m. m) y
