-- A part of a URL behind a hole comes from one part before it.
use Rattle.std.proofs.Common.{◌≡◌, Bool, true, false, ◌||◌, is_some, if◌then◌else◌, refl}
use Rattle.place_core.specs.place.LanguagePlaces.{parts_have}
use Rattle.place_core.specs.declared.member.Member.{Member}
use Rattle.place_core.specs.declared.member.Member.TheVariants as member
use Rattle.place_core.specs.declared.parts.Parts.{Parts}
use Rattle.html_step.specs.HoleOrigins.{part_hole_origin}
use Rattle.html_step.proofs.FromParts.{or-behind, or-first}
use Rattle.url_step.specs.PartSets.{parts_at_hole}

no : false ≡ true → ⊥
no e = cc

pub record PartBehind (s : Parts) (y x : Member) : Type 0 where
  pub there : parts_have s x ≡ true
  pub leads : (t : Parts) → parts_have t x ≡ true → parts_have (parts_at_hole t) y ≡ true

openhole-from : (s : Parts) (a o : Bool) → s.start ≡ a → is_some s.opened ≡ o → (a || (o || s.openhole)) ≡ true
    → PartBehind s member.PartOpenhole (if a then member.PartStart else (if o then member.PartOpen else member.PartOpenhole))
openhole-from s true o e f h = record { there = e; leads = λ t k. or-first t.start (is_some t.opened || t.openhole) k }
openhole-from s false true e f h =
    record { there = f; leads = λ t k. or-behind t.start (is_some t.opened || t.openhole) (or-first (is_some t.opened) t.openhole k) }
openhole-from s false false e f h =
    record { there = h; leads = λ t k. or-behind t.start (is_some t.opened || t.openhole) (or-behind (is_some t.opened) t.openhole k) }

pub part-behind : (s : Parts) (y : Member) → parts_have (parts_at_hole s) y ≡ true → PartBehind s y (part_hole_origin s y)
part-behind s member.PartOpenhole h = openhole-from s s.start (is_some s.opened) refl refl h
part-behind s member.PartPrequery h = record { there = h; leads = λ t k. k }
part-behind s member.PartQuery h = record { there = h; leads = λ t k. k }
part-behind s member.PartBad h = record { there = h; leads = λ t k. k }
part-behind s _ h = absurd (no h)
