-- When two paths that met apart show why something is in conflict.
use Rattle.std.specs.Prelude.{◌≡◌}
use Rattle.html_step.specs.declared.evidence.Evidence.{Evidence}
use Rattle.html_step.specs.declared.evidence.Evidence.TheVariants as evidence
use Rattle.place_core.specs.place.ApartPlaces.{HasApart}
use Rattle.place_core.specs.declared.place.Place.{Place}

-- Such evidence comes only from a place that has it of two of its paths that they met apart.
abbrev pub IsApartWhere : Place → Evidence → Type 0
IsApartWhere place shown = shown ≡ evidence.Apart → HasApart place
