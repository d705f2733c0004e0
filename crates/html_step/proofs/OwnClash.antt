-- No path is refused together with itself.
use Rattle.std.proofs.Common.{◌≡◌, Some, None, refl, sym, ◌∙◌}
use Rattle.place_core.specs.page.Classes.{Class}
use Rattle.place_core.specs.page.States.{AttributeValue, BeforeAttributeValue, LexState}
use Rattle.place_core.specs.page.Tags.{Deciding, DoubleQuoted, SingleQuoted, Unquoted, ValueOf, ValueState}
use Rattle.place_core.specs.place.PathPairs.{byte_clash}
use Rattle.place_core.specs.declared.code.Code.{Code}

-- a path is in a value, or before it
none-own : (s : LexState ValueState) (c : Class) → byte_clash s s c ≡ None
none-own (BeforeAttributeValue t k) c = refl
none-own (AttributeValue Unquoted t (ValueOf v) r) c = refl
none-own (AttributeValue Unquoted t (Deciding k before) r) c = refl
none-own (AttributeValue DoubleQuoted t v r) c = refl
none-own (AttributeValue SingleQuoted t v r) c = refl
none-own _ c = refl

pub no-own-clash : (s : LexState ValueState) (c : Class) (e : Code) → byte_clash s s c ≡ Some e → ⊥
no-own-clash s c e h = (let same : None ≡ Some e = sym (none-own s c) ∙ h in cc)
