-- A name that data may make is of kind Plain on each element.
use Rattle.std.proofs.Common.{◌≡◌, ℕ, Bool, true, false, not, ◌||◌, List, refl}
use Rattle.place_core.specs.page.Words.{is_plain_name, is_special, kind_of}
use Rattle.place_core.specs.declared.element.Element.{Element}
use Rattle.place_core.specs.declared.element.Element.TheVariants as element
use Rattle.place_core.specs.declared.kind.Kind.{Kind}
use Rattle.place_core.specs.declared.kind.Kind.TheVariants as kind

no : false ≡ true → ⊥
no e = cc

yes : true ≡ false → ⊥
yes e = cc

plain-kind : (k : Kind) → is_plain_name k ≡ true → k ≡ kind.Plain
plain-kind kind.Plain e = refl
plain-kind kind.Url e = absurd (no e)
plain-kind kind.Script e = absurd (no e)
plain-kind kind.Style e = absurd (no e)
plain-kind kind.ScriptType e = absurd (no e)
plain-kind kind.NoHole e = absurd (no e)

both-plain : (a b c : Bool) → (not a || (not b || c)) ≡ false → (a ≡ true) × (b ≡ true)
both-plain true true c e = (refl, refl)
both-plain true false c e = absurd (yes e)
both-plain false b c e = absurd (yes e)

plain-on-both : (name : List ℕ) → is_special name ≡ false
    → (is_plain_name (kind_of element.Other name) ≡ true) × (is_plain_name (kind_of element.Script name) ≡ true)
plain-on-both name h = both-plain (is_plain_name (kind_of element.Other name)) (is_plain_name (kind_of element.Script name)) _ h

pub harmless-kind : (e : Element) (name : List ℕ) → is_special name ≡ false → kind_of e name ≡ kind.Plain
harmless-kind element.Script name h = plain-kind (kind_of element.Script name) (plain-on-both name h).1
harmless-kind element.DataBlock name h = plain-kind (kind_of element.Script name) (plain-on-both name h).1
harmless-kind _ name h = plain-kind (kind_of element.Other name) (plain-on-both name h).0
