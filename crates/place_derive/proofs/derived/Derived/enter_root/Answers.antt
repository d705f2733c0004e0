use Rattle.std.proofs.Common.{refl}
use Rattle.place_derive.proofs.derived.Derived.enter_root.Goals as goal

pub returns-in-Some-clause-sound : goal.returns-in-Some-clause-sound
returns-in-Some-clause-sound c = λ roots within h. c.in_ok-enter.ensures.sound roots c.args.first h.log tt h.is
    (record { entry = record { point = refl; place = refl; valid = c.requires }; root = within; starts = refl }) h.sound

pub returns-in-None-clause-sound : goal.returns-in-None-clause-sound
returns-in-None-clause-sound c = λ roots within h. c.in_ok-enter.ensures.sound roots c.args.first h.log tt h.is
    (record { entry = record { point = refl; place = refl; valid = c.requires }; root = within; starts = refl }) h.sound
