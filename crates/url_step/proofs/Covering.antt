-- The parts in a set that refuses nothing: none is refused, no two are refused together, and each comes to a part in the next set.
use Rattle.std.proofs.Common.{◌≡◌, Bool, true, false, not, Some, None, if◌then◌else◌, refl, sym, ap, ◌∙◌, subst}
use Rattle.place_core.specs.place.LanguagePlaces.{both_parts, same_prefix}
use Rattle.place_core.specs.declared.parts.Parts.{Parts}
use Rattle.place_core.specs.declared.prefix.Prefix.{Prefix as PlacedPrefix}
use Rattle.place_core.specs.declared.prefix.Prefix.TheVariants as prefix
use Rattle.place_core.proofs.JoinParts.{parts_union}
use Rattle.url_lexer.specs.Classes.{url_class_of}
use Rattle.url_lexer.specs.Parts.{UrlPart, UrlStart, UrlOpen, UrlOpenhole, UrlPrequery, UrlQuery, UrlBad}
use Rattle.url_lexer.specs.Prefixes.{Prefix, Off, Javascript, Vbscript, DataScheme, Differs, same_url_prefix}
use Rattle.url_lexer.specs.Refusals.{AmbigContext}
use Rattle.url_lexer.specs.TwoPaths.{are_apart, refuses_hole_on_two}
use Rattle.url_lexer.specs.declared.class.UrlClass.TheVariants as class
use Rattle.url_step.specs.PartLaws.{CoversParts, CoversUrls, PartsAgree}
use Rattle.place_core.specs.place.UrlParts.{placed_prefix, parts_of}
use Rattle.url_step.specs.PartSets.{PartsBelow, spells_apart, parts_next, parts_error, parts_at_hole, parts_hole_error}
use Rattle.url_step.proofs.Growth.{if-none, parts-grow}
use Rattle.url_step.proofs.OnePath.{one-next, one-error, one-hole-error, one-at-hole}

-- a path's own set is below the set, so that it grows to it
pub covers-parts : CoversParts
covers-parts s p h =
    let grows = parts-grow (parts_of p) s h in
    record {
      error = λ c e. sym (one-error p c) ∙ grows.error c e;
      next = λ c b e. subst (λ (z : Parts). PartsBelow z (parts_next s c b)) (one-next p c b) (grows.next c b e);
      hole_error = λ e. sym (one-hole-error p) ∙ grows.hole_error e;
      at_hole = λ e. subst (λ (z : Parts). PartsBelow z (parts_at_hole s)) (one-at-hole p) grows.at_hole;
    }

pub covers-urls : CoversUrls
covers-urls s u h =
    let part = covers-parts s u.part h in
    record {
      error = λ b e. part.error (url_class_of b) e;
      next = λ b e. part.next (url_class_of b) b e;
      hole_error = λ e. part.hole_error e;
      at_hole = λ e. part.at_hole e;
      at_cut = h;
    }

-- two parts in a set: their joined set is below it
two-below : (s a b : Parts) → PartsBelow a s → PartsBelow b s → PartsBelow (both_parts a b) s
two-below s a b h k = parts_union.grouped a b s ∙ ap (both_parts a) k ∙ h

ambiguous-none : Some AmbigContext ≡ None → ⊥
ambiguous-none e = cc

same-placed : (x y : Prefix) → same_prefix (placed_prefix x) (placed_prefix y) ≡ same_url_prefix x y
same-placed Off Off = refl
same-placed (Javascript n) (Javascript m) = refl
same-placed (Vbscript n) (Vbscript m) = refl
same-placed (DataScheme n) (DataScheme m) = refl
same-placed Differs Differs = refl
same-placed _ _ = refl

apart-by : (p : PlacedPrefix) (x : Bool) → spells_apart (Some (if x then p else prefix.Differs)) ≡ false → not x ≡ false
apart-by p true e = refl
apart-by p false e = e

agree-at-colon : (p q : UrlPart) → parts_error (both_parts (parts_of p) (parts_of q)) class.Colon ≡ None → are_apart p q ≡ false
agree-at-colon (UrlOpen x) (UrlOpen y) e =
    ap not (sym (same-placed x y))
    ∙ apart-by (placed_prefix x) (same_prefix (placed_prefix x) (placed_prefix y))
    (if-none (spells_apart (Some (if same_prefix (placed_prefix x) (placed_prefix y) then placed_prefix x else prefix.Differs))) e)
agree-at-colon _ _ e = refl

agree-at-hole : (p q : UrlPart) → parts_hole_error (both_parts (parts_of p) (parts_of q)) ≡ None → refuses_hole_on_two p q ≡ None
agree-at-hole UrlStart UrlStart e = refl
agree-at-hole (UrlOpen x) (UrlOpen y) e = refl
agree-at-hole UrlOpenhole UrlOpenhole e = refl
agree-at-hole UrlPrequery UrlPrequery e = refl
agree-at-hole UrlQuery UrlQuery e = refl
agree-at-hole UrlBad UrlBad e = refl
agree-at-hole _ _ e = absurd (ambiguous-none e)

pub parts-agree : PartsAgree
parts-agree s p q h k =
    let grows = parts-grow (both_parts (parts_of p) (parts_of q)) s (two-below s (parts_of p) (parts_of q) h k) in
    record { colon = λ e. agree-at-colon p q (grows.error class.Colon e); hole = λ e. agree-at-hole p q (grows.hole_error e) }
