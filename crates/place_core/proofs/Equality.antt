-- Two places that compare equal are the same.
use Rattle.std.proofs.Common.{◌≡◌, Bool, true, false, ◌&&◌, Option, Some, None, refl, sym, ap, ap₂, ◌∙◌, eq-eqb, eqb-true}
use Rattle.place_core.specs.declared.bare.Bare.{Bare}
use Rattle.place_core.specs.declared.body.Body.{Body}
use Rattle.place_core.specs.declared.body.Body.TheVariants as body
use Rattle.place_core.specs.declared.css.Css.{Css}
use Rattle.place_core.specs.declared.css.Css.TheVariants as css
use Rattle.place_core.specs.declared.css_tails.CssTails.{CssTails}
use Rattle.place_core.specs.declared.element.Element.{Element}
use Rattle.place_core.specs.declared.element.Element.TheVariants as element
use Rattle.place_core.specs.declared.js.Js.{Js}
use Rattle.place_core.specs.declared.js.Js.TheVariants as js
use Rattle.place_core.specs.declared.js_tails.JsTails.{JsTails}
use Rattle.place_core.specs.declared.kind.Kind.{Kind}
use Rattle.place_core.specs.declared.kind.Kind.TheVariants as kind
use Rattle.place_core.specs.declared.parts.Parts.{Parts}
use Rattle.place_core.specs.declared.prefix.Prefix.{Prefix}
use Rattle.place_core.specs.declared.prefix.Prefix.TheVariants as prefix
use Rattle.place_core.specs.declared.quotes.Quotes.{Quotes}
use Rattle.place_core.specs.declared.quotes.Quotes.TheVariants as quotes
use Rattle.place_core.specs.declared.senses.Senses.{Senses}
use Rattle.place_core.specs.declared.spots.Spots.{Spots}
use Rattle.place_core.specs.declared.tag_of.TagOf.{TagOf}
use Rattle.place_core.specs.declared.tag_of.TagOf.TheVariants as tag
use Rattle.place_core.specs.declared.tag_place.TagPlace.{TagPlace}
use Rattle.place_core.specs.declared.value_place.ValuePlace.{ValuePlace}
use Rattle.place_core.specs.declared.place.Place.{Place}
use Rattle.place_core.specs.declared.place.Place.TheVariants as place
use Rattle.std.specs.contracts.prelude.BoolPartialEq.TheImpl as bool_eq
use Rattle.std.specs.contracts.prelude.U8PartialEq.TheImpl as u8_eq
use Rattle.std.specs.contracts.prelude.OptionPartialEq.TheImpl as option_eq
use Rattle.place_core.specs.contracts.kind.Kind as kind_row
use Rattle.place_core.specs.contracts.prefix.Prefix as prefix_row
use Rattle.place_core.specs.contracts.bare.BarePartialEq.TheImpl as bare_eq
use Rattle.place_core.specs.contracts.body.BodyPartialEq.TheImpl as body_eq
use Rattle.place_core.specs.contracts.css.CssPartialEq.TheImpl as css_eq
use Rattle.place_core.specs.contracts.css_tails.CssTailsPartialEq.TheImpl as css_tails_eq
use Rattle.place_core.specs.contracts.element.ElementPartialEq.TheImpl as element_eq
use Rattle.place_core.specs.contracts.js.JsPartialEq.TheImpl as js_eq
use Rattle.place_core.specs.contracts.js_tails.JsTailsPartialEq.TheImpl as js_tails_eq
use Rattle.place_core.specs.contracts.kind.KindPartialEq.TheImpl as kind_eq
use Rattle.place_core.specs.contracts.parts.PartsPartialEq.TheImpl as parts_eq
use Rattle.place_core.specs.contracts.place.PlacePartialEq.TheImpl as place_eq
use Rattle.place_core.specs.contracts.prefix.PrefixPartialEq.TheImpl as prefix_eq
use Rattle.place_core.specs.contracts.quotes.QuotesPartialEq.TheImpl as quotes_eq
use Rattle.place_core.specs.contracts.senses.SensesPartialEq.TheImpl as senses_eq
use Rattle.place_core.specs.contracts.spots.SpotsPartialEq.TheImpl as spots_eq
use Rattle.place_core.specs.contracts.tag_of.TagOfPartialEq.TheImpl as tag_of_eq
use Rattle.place_core.specs.contracts.tag_place.TagPlacePartialEq.TheImpl as tag_place_eq
use Rattle.place_core.specs.contracts.value_place.ValuePlacePartialEq.TheImpl as value_place_eq
use Rattle.place_core.proofs.Semilattices.{IsTest}

no : false ≡ true → ⊥
no e = cc

and_first : (a b : Bool) → (a && b) ≡ true → a ≡ true
and_first true b h = refl
and_first false b h = h

and_second : (a b : Bool) → (a && b) ≡ true → b ≡ true
and_second true b h = h
and_second false b h = absurd (no h)

bools_same : (a : Bool) → (bool_eq.ghosts).eq a a ≡ true
bools_same true = refl
bools_same false = refl

bools_say : (a b : Bool) → (bool_eq.ghosts).eq a b ≡ true → a ≡ b
bools_say true true h = refl
bools_say false false h = refl
bools_say true false h = absurd (no h)
bools_say false true h = absurd (no h)

bools : IsTest ((bool_eq.ghosts).eq)
bools = record { same = bools_same; says = bools_say }

numbers : IsTest ((u8_eq.ghosts).eq)
numbers = record { same = λ a. eq-eqb a a refl; says = λ a b h. eqb-true a b h }

bares_same : (x : Bare) → (bare_eq.ghosts).eq x x ≡ true
bares_same x = ap₂ ◌&&◌ (bools.same x.uq) (bools.same x.unbegun)

bares_of : (uq1 uq2 : Bool) (unbegun1 unbegun2 : Bool) → uq1 ≡ uq2 → unbegun1 ≡ unbegun2
    → ◌≡◌ {A = Bare} (record { uq = uq1; unbegun = unbegun1 }) (record { uq = uq2; unbegun = unbegun2 })
bares_of uq1 uq2 unbegun1 unbegun2 e0 e1 = rw (e0, e1) refl

bares_say : (x y : Bare) → (bare_eq.ghosts).eq x y ≡ true → x ≡ y
bares_say x y h =
    let h0 : ((bool_eq.ghosts).eq x.unbegun y.unbegun) ≡ true = and_second ((bool_eq.ghosts).eq x.uq y.uq) ((bool_eq.ghosts).eq x.unbegun y.unbegun) h in
    bares_of x.uq y.uq x.unbegun y.unbegun (bools.says x.uq y.uq (and_first ((bool_eq.ghosts).eq x.uq y.uq) ((bool_eq.ghosts).eq x.unbegun y.unbegun) h)) (bools.says x.unbegun y.unbegun h0)

pub bares : IsTest ((bare_eq.ghosts).eq)
bares = record { same = bares_same; says = bares_say }

spotss_same : (x : Spots) → (spots_eq.ghosts).eq x x ≡ true
spotss_same x = ap₂ ◌&&◌ (bools.same x.name) (ap₂ ◌&&◌ (bools.same x.before) (ap₂ ◌&&◌ (bools.same x.inside) (bools.same x.after)))

spotss_of : (name1 name2 : Bool) (before1 before2 : Bool) (inside1 inside2 : Bool) (after1 after2 : Bool) → name1 ≡ name2 → before1 ≡ before2 → inside1 ≡ inside2 → after1 ≡ after2
    → ◌≡◌ {A = Spots} (record { name = name1; before = before1; inside = inside1; after = after1 }) (record { name = name2; before = before2; inside = inside2; after = after2 })
spotss_of name1 name2 before1 before2 inside1 inside2 after1 after2 e0 e1 e2 e3 = rw (e0, e1, e2, e3) refl

spotss_say : (x y : Spots) → (spots_eq.ghosts).eq x y ≡ true → x ≡ y
spotss_say x y h =
    let h0 : (((bool_eq.ghosts).eq x.before y.before) && (((bool_eq.ghosts).eq x.inside y.inside) && ((bool_eq.ghosts).eq x.after y.after))) ≡ true = and_second ((bool_eq.ghosts).eq x.name y.name) (((bool_eq.ghosts).eq x.before y.before) && (((bool_eq.ghosts).eq x.inside y.inside) && ((bool_eq.ghosts).eq x.after y.after))) h in
    let h1 : (((bool_eq.ghosts).eq x.inside y.inside) && ((bool_eq.ghosts).eq x.after y.after)) ≡ true = and_second ((bool_eq.ghosts).eq x.before y.before) (((bool_eq.ghosts).eq x.inside y.inside) && ((bool_eq.ghosts).eq x.after y.after)) h0 in
    let h2 : ((bool_eq.ghosts).eq x.after y.after) ≡ true = and_second ((bool_eq.ghosts).eq x.inside y.inside) ((bool_eq.ghosts).eq x.after y.after) h1 in
    spotss_of x.name y.name x.before y.before x.inside y.inside x.after y.after (bools.says x.name y.name (and_first ((bool_eq.ghosts).eq x.name y.name) (((bool_eq.ghosts).eq x.before y.before) && (((bool_eq.ghosts).eq x.inside y.inside) && ((bool_eq.ghosts).eq x.after y.after))) h)) (bools.says x.before y.before (and_first ((bool_eq.ghosts).eq x.before y.before) (((bool_eq.ghosts).eq x.inside y.inside) && ((bool_eq.ghosts).eq x.after y.after)) h0)) (bools.says x.inside y.inside (and_first ((bool_eq.ghosts).eq x.inside y.inside) ((bool_eq.ghosts).eq x.after y.after) h1)) (bools.says x.after y.after h2)

pub spotss : IsTest ((spots_eq.ghosts).eq)
spotss = record { same = spotss_same; says = spotss_say }

sensess_same : (x : Senses) → (senses_eq.ghosts).eq x x ≡ true
sensess_same x = ap₂ ◌&&◌ (bools.same x.re) (ap₂ ◌&&◌ (bools.same x.div) (bools.same x.brace))

sensess_of : (re1 re2 : Bool) (div1 div2 : Bool) (brace1 brace2 : Bool) → re1 ≡ re2 → div1 ≡ div2 → brace1 ≡ brace2
    → ◌≡◌ {A = Senses} (record { re = re1; div = div1; brace = brace1 }) (record { re = re2; div = div2; brace = brace2 })
sensess_of re1 re2 div1 div2 brace1 brace2 e0 e1 e2 = rw (e0, e1, e2) refl

sensess_say : (x y : Senses) → (senses_eq.ghosts).eq x y ≡ true → x ≡ y
sensess_say x y h =
    let h0 : (((bool_eq.ghosts).eq x.div y.div) && ((bool_eq.ghosts).eq x.brace y.brace)) ≡ true = and_second ((bool_eq.ghosts).eq x.re y.re) (((bool_eq.ghosts).eq x.div y.div) && ((bool_eq.ghosts).eq x.brace y.brace)) h in
    let h1 : ((bool_eq.ghosts).eq x.brace y.brace) ≡ true = and_second ((bool_eq.ghosts).eq x.div y.div) ((bool_eq.ghosts).eq x.brace y.brace) h0 in
    sensess_of x.re y.re x.div y.div x.brace y.brace (bools.says x.re y.re (and_first ((bool_eq.ghosts).eq x.re y.re) (((bool_eq.ghosts).eq x.div y.div) && ((bool_eq.ghosts).eq x.brace y.brace)) h)) (bools.says x.div y.div (and_first ((bool_eq.ghosts).eq x.div y.div) ((bool_eq.ghosts).eq x.brace y.brace) h0)) (bools.says x.brace y.brace h1)

pub sensess : IsTest ((senses_eq.ghosts).eq)
sensess = record { same = sensess_same; says = sensess_say }

js_tailss_same : (x : JsTails) → (js_tails_eq.ghosts).eq x x ≡ true
js_tailss_same x = ap₂ ◌&&◌ (bools.same x.word) (ap₂ ◌&&◌ (bools.same x.num) (ap₂ ◌&&◌ (bools.same x.lt) (ap₂ ◌&&◌ (bools.same x.slash) (ap₂ ◌&&◌ (bools.same x.plus) (ap₂ ◌&&◌ (bools.same x.minus) (bools.same x.hash))))))

js_tailss_of : (word1 word2 : Bool) (num1 num2 : Bool) (lt1 lt2 : Bool) (slash1 slash2 : Bool) (plus1 plus2 : Bool) (minus1 minus2 : Bool) (hash1 hash2 : Bool) → word1 ≡ word2 → num1 ≡ num2 → lt1 ≡ lt2 → slash1 ≡ slash2 → plus1 ≡ plus2 → minus1 ≡ minus2 → hash1 ≡ hash2
    → ◌≡◌ {A = JsTails} (record { word = word1; num = num1; lt = lt1; slash = slash1; plus = plus1; minus = minus1; hash = hash1 }) (record { word = word2; num = num2; lt = lt2; slash = slash2; plus = plus2; minus = minus2; hash = hash2 })
js_tailss_of word1 word2 num1 num2 lt1 lt2 slash1 slash2 plus1 plus2 minus1 minus2 hash1 hash2 e0 e1 e2 e3 e4 e5 e6 = rw (e0, e1, e2, e3, e4, e5, e6) refl

js_tailss_say : (x y : JsTails) → (js_tails_eq.ghosts).eq x y ≡ true → x ≡ y
js_tailss_say x y h =
    let h0 : (((bool_eq.ghosts).eq x.num y.num) && (((bool_eq.ghosts).eq x.lt y.lt) && (((bool_eq.ghosts).eq x.slash y.slash) && (((bool_eq.ghosts).eq x.plus y.plus) && (((bool_eq.ghosts).eq x.minus y.minus) && ((bool_eq.ghosts).eq x.hash y.hash)))))) ≡ true = and_second ((bool_eq.ghosts).eq x.word y.word) (((bool_eq.ghosts).eq x.num y.num) && (((bool_eq.ghosts).eq x.lt y.lt) && (((bool_eq.ghosts).eq x.slash y.slash) && (((bool_eq.ghosts).eq x.plus y.plus) && (((bool_eq.ghosts).eq x.minus y.minus) && ((bool_eq.ghosts).eq x.hash y.hash)))))) h in
    let h1 : (((bool_eq.ghosts).eq x.lt y.lt) && (((bool_eq.ghosts).eq x.slash y.slash) && (((bool_eq.ghosts).eq x.plus y.plus) && (((bool_eq.ghosts).eq x.minus y.minus) && ((bool_eq.ghosts).eq x.hash y.hash))))) ≡ true = and_second ((bool_eq.ghosts).eq x.num y.num) (((bool_eq.ghosts).eq x.lt y.lt) && (((bool_eq.ghosts).eq x.slash y.slash) && (((bool_eq.ghosts).eq x.plus y.plus) && (((bool_eq.ghosts).eq x.minus y.minus) && ((bool_eq.ghosts).eq x.hash y.hash))))) h0 in
    let h2 : (((bool_eq.ghosts).eq x.slash y.slash) && (((bool_eq.ghosts).eq x.plus y.plus) && (((bool_eq.ghosts).eq x.minus y.minus) && ((bool_eq.ghosts).eq x.hash y.hash)))) ≡ true = and_second ((bool_eq.ghosts).eq x.lt y.lt) (((bool_eq.ghosts).eq x.slash y.slash) && (((bool_eq.ghosts).eq x.plus y.plus) && (((bool_eq.ghosts).eq x.minus y.minus) && ((bool_eq.ghosts).eq x.hash y.hash)))) h1 in
    let h3 : (((bool_eq.ghosts).eq x.plus y.plus) && (((bool_eq.ghosts).eq x.minus y.minus) && ((bool_eq.ghosts).eq x.hash y.hash))) ≡ true = and_second ((bool_eq.ghosts).eq x.slash y.slash) (((bool_eq.ghosts).eq x.plus y.plus) && (((bool_eq.ghosts).eq x.minus y.minus) && ((bool_eq.ghosts).eq x.hash y.hash))) h2 in
    let h4 : (((bool_eq.ghosts).eq x.minus y.minus) && ((bool_eq.ghosts).eq x.hash y.hash)) ≡ true = and_second ((bool_eq.ghosts).eq x.plus y.plus) (((bool_eq.ghosts).eq x.minus y.minus) && ((bool_eq.ghosts).eq x.hash y.hash)) h3 in
    let h5 : ((bool_eq.ghosts).eq x.hash y.hash) ≡ true = and_second ((bool_eq.ghosts).eq x.minus y.minus) ((bool_eq.ghosts).eq x.hash y.hash) h4 in
    js_tailss_of x.word y.word x.num y.num x.lt y.lt x.slash y.slash x.plus y.plus x.minus y.minus x.hash y.hash (bools.says x.word y.word (and_first ((bool_eq.ghosts).eq x.word y.word) (((bool_eq.ghosts).eq x.num y.num) && (((bool_eq.ghosts).eq x.lt y.lt) && (((bool_eq.ghosts).eq x.slash y.slash) && (((bool_eq.ghosts).eq x.plus y.plus) && (((bool_eq.ghosts).eq x.minus y.minus) && ((bool_eq.ghosts).eq x.hash y.hash)))))) h)) (bools.says x.num y.num (and_first ((bool_eq.ghosts).eq x.num y.num) (((bool_eq.ghosts).eq x.lt y.lt) && (((bool_eq.ghosts).eq x.slash y.slash) && (((bool_eq.ghosts).eq x.plus y.plus) && (((bool_eq.ghosts).eq x.minus y.minus) && ((bool_eq.ghosts).eq x.hash y.hash))))) h0)) (bools.says x.lt y.lt (and_first ((bool_eq.ghosts).eq x.lt y.lt) (((bool_eq.ghosts).eq x.slash y.slash) && (((bool_eq.ghosts).eq x.plus y.plus) && (((bool_eq.ghosts).eq x.minus y.minus) && ((bool_eq.ghosts).eq x.hash y.hash)))) h1)) (bools.says x.slash y.slash (and_first ((bool_eq.ghosts).eq x.slash y.slash) (((bool_eq.ghosts).eq x.plus y.plus) && (((bool_eq.ghosts).eq x.minus y.minus) && ((bool_eq.ghosts).eq x.hash y.hash))) h2)) (bools.says x.plus y.plus (and_first ((bool_eq.ghosts).eq x.plus y.plus) (((bool_eq.ghosts).eq x.minus y.minus) && ((bool_eq.ghosts).eq x.hash y.hash)) h3)) (bools.says x.minus y.minus (and_first ((bool_eq.ghosts).eq x.minus y.minus) ((bool_eq.ghosts).eq x.hash y.hash) h4)) (bools.says x.hash y.hash h5)

pub js_tailss : IsTest ((js_tails_eq.ghosts).eq)
js_tailss = record { same = js_tailss_same; says = js_tailss_say }

css_tailss_same : (x : CssTails) → (css_tails_eq.ghosts).eq x x ≡ true
css_tailss_same x = ap₂ ◌&&◌ (bools.same x.word) (ap₂ ◌&&◌ (bools.same x.slash) (bools.same x.lt))

css_tailss_of : (word1 word2 : Bool) (slash1 slash2 : Bool) (lt1 lt2 : Bool) → word1 ≡ word2 → slash1 ≡ slash2 → lt1 ≡ lt2
    → ◌≡◌ {A = CssTails} (record { word = word1; slash = slash1; lt = lt1 }) (record { word = word2; slash = slash2; lt = lt2 })
css_tailss_of word1 word2 slash1 slash2 lt1 lt2 e0 e1 e2 = rw (e0, e1, e2) refl

css_tailss_say : (x y : CssTails) → (css_tails_eq.ghosts).eq x y ≡ true → x ≡ y
css_tailss_say x y h =
    let h0 : (((bool_eq.ghosts).eq x.slash y.slash) && ((bool_eq.ghosts).eq x.lt y.lt)) ≡ true = and_second ((bool_eq.ghosts).eq x.word y.word) (((bool_eq.ghosts).eq x.slash y.slash) && ((bool_eq.ghosts).eq x.lt y.lt)) h in
    let h1 : ((bool_eq.ghosts).eq x.lt y.lt) ≡ true = and_second ((bool_eq.ghosts).eq x.slash y.slash) ((bool_eq.ghosts).eq x.lt y.lt) h0 in
    css_tailss_of x.word y.word x.slash y.slash x.lt y.lt (bools.says x.word y.word (and_first ((bool_eq.ghosts).eq x.word y.word) (((bool_eq.ghosts).eq x.slash y.slash) && ((bool_eq.ghosts).eq x.lt y.lt)) h)) (bools.says x.slash y.slash (and_first ((bool_eq.ghosts).eq x.slash y.slash) ((bool_eq.ghosts).eq x.lt y.lt) h0)) (bools.says x.lt y.lt h1)

pub css_tailss : IsTest ((css_tails_eq.ghosts).eq)
css_tailss = record { same = css_tailss_same; says = css_tailss_say }

elements_same : (a : Element) → (element_eq.ghosts).eq a a ≡ true
elements_same element.Other = refl
elements_same element.Title = refl
elements_same element.Textarea = refl
elements_same element.Style = refl
elements_same element.Script = refl
elements_same element.DataBlock = refl

elements_say : (a b : Element) → (element_eq.ghosts).eq a b ≡ true → a ≡ b
elements_say element.Other element.Other h = refl
elements_say element.Title element.Title h = refl
elements_say element.Textarea element.Textarea h = refl
elements_say element.Style element.Style h = refl
elements_say element.Script element.Script h = refl
elements_say element.DataBlock element.DataBlock h = refl
elements_say _ _ h = absurd (no h)

pub elements : IsTest ((element_eq.ghosts).eq)
elements = record { same = elements_same; says = elements_say }

kinds_same : (a : Kind) → (kind_eq.ghosts).eq a a ≡ true
kinds_same kind.Plain = refl
kinds_same kind.Url = refl
kinds_same kind.Script = refl
kinds_same kind.Style = refl
kinds_same kind.ScriptType = refl
kinds_same kind.NoHole = refl

kinds_say : (a b : Kind) → (kind_eq.ghosts).eq a b ≡ true → a ≡ b
kinds_say kind.Plain kind.Plain h = refl
kinds_say kind.Url kind.Url h = refl
kinds_say kind.Script kind.Script h = refl
kinds_say kind.Style kind.Style h = refl
kinds_say kind.ScriptType kind.ScriptType h = refl
kinds_say kind.NoHole kind.NoHole h = refl
kinds_say _ _ h = absurd (no h)

pub kinds : IsTest ((kind_eq.ghosts).eq)
kinds = record { same = kinds_same; says = kinds_say }

prefixs_same : (a : Prefix) → (prefix_eq.ghosts).eq a a ≡ true
prefixs_same prefix.Off = refl
prefixs_same (prefix.Javascript a) = numbers.same a
prefixs_same (prefix.Vbscript a) = numbers.same a
prefixs_same (prefix.DataScheme a) = numbers.same a
prefixs_same prefix.Differs = refl

prefixs_say : (a b : Prefix) → (prefix_eq.ghosts).eq a b ≡ true → a ≡ b
prefixs_say prefix.Off prefix.Off h = refl
prefixs_say (prefix.Javascript a) (prefix.Javascript b) h = ap prefix.Javascript (numbers.says a b h)
prefixs_say (prefix.Vbscript a) (prefix.Vbscript b) h = ap prefix.Vbscript (numbers.says a b h)
prefixs_say (prefix.DataScheme a) (prefix.DataScheme b) h = ap prefix.DataScheme (numbers.says a b h)
prefixs_say prefix.Differs prefix.Differs h = refl
prefixs_say _ _ h = absurd (no h)

pub prefixs : IsTest ((prefix_eq.ghosts).eq)
prefixs = record { same = prefixs_same; says = prefixs_say }

tag_ofs_same : (a : TagOf) → (tag_of_eq.ghosts).eq a a ≡ true
tag_ofs_same tag.End = refl
tag_ofs_same (tag.Start a) = elements.same a

tag_ofs_say : (a b : TagOf) → (tag_of_eq.ghosts).eq a b ≡ true → a ≡ b
tag_ofs_say tag.End tag.End h = refl
tag_ofs_say (tag.Start a) (tag.Start b) h = ap tag.Start (elements.says a b h)
tag_ofs_say _ _ h = absurd (no h)

pub tag_ofs : IsTest ((tag_of_eq.ghosts).eq)
tag_ofs = record { same = tag_ofs_same; says = tag_ofs_say }

some_kinds_same : (a : Option Kind) → (option_eq.ghosts kind_row.the_row kind_eq.ghosts kind_eq.dict).eq a a ≡ true
some_kinds_same None = refl
some_kinds_same (Some a) = kinds.same a

some_kinds_say : (a b : Option Kind) → (option_eq.ghosts kind_row.the_row kind_eq.ghosts kind_eq.dict).eq a b ≡ true → a ≡ b
some_kinds_say None None h = refl
some_kinds_say (Some a) (Some b) h = ap Some (kinds.says a b h)
some_kinds_say None (Some b) h = absurd (no h)
some_kinds_say (Some a) None h = absurd (no h)

some_kinds : IsTest ((option_eq.ghosts kind_row.the_row kind_eq.ghosts kind_eq.dict).eq)
some_kinds = record { same = some_kinds_same; says = some_kinds_say }

some_prefixs_same : (a : Option Prefix) → (option_eq.ghosts prefix_row.the_row prefix_eq.ghosts prefix_eq.dict).eq a a ≡ true
some_prefixs_same None = refl
some_prefixs_same (Some a) = prefixs.same a

some_prefixs_say : (a b : Option Prefix) → (option_eq.ghosts prefix_row.the_row prefix_eq.ghosts prefix_eq.dict).eq a b ≡ true → a ≡ b
some_prefixs_say None None h = refl
some_prefixs_say (Some a) (Some b) h = ap Some (prefixs.says a b h)
some_prefixs_say None (Some b) h = absurd (no h)
some_prefixs_say (Some a) None h = absurd (no h)

some_prefixs : IsTest ((option_eq.ghosts prefix_row.the_row prefix_eq.ghosts prefix_eq.dict).eq)
some_prefixs = record { same = some_prefixs_same; says = some_prefixs_say }

partss_same : (x : Parts) → (parts_eq.ghosts).eq x x ≡ true
partss_same x = ap₂ ◌&&◌ (bools.same x.start) (ap₂ ◌&&◌ (some_prefixs.same x.opened) (ap₂ ◌&&◌ (bools.same x.openhole) (ap₂ ◌&&◌ (bools.same x.prequery) (ap₂ ◌&&◌ (bools.same x.query) (bools.same x.bad)))))

partss_of : (start1 start2 : Bool) (opened1 opened2 : Option Prefix) (openhole1 openhole2 : Bool) (prequery1 prequery2 : Bool) (query1 query2 : Bool) (bad1 bad2 : Bool) → start1 ≡ start2 → opened1 ≡ opened2 → openhole1 ≡ openhole2 → prequery1 ≡ prequery2 → query1 ≡ query2 → bad1 ≡ bad2
    → ◌≡◌ {A = Parts} (record { start = start1; opened = opened1; openhole = openhole1; prequery = prequery1; query = query1; bad = bad1 }) (record { start = start2; opened = opened2; openhole = openhole2; prequery = prequery2; query = query2; bad = bad2 })
partss_of start1 start2 opened1 opened2 openhole1 openhole2 prequery1 prequery2 query1 query2 bad1 bad2 e0 e1 e2 e3 e4 e5 = rw (e0, e1, e2, e3, e4, e5) refl

partss_say : (x y : Parts) → (parts_eq.ghosts).eq x y ≡ true → x ≡ y
partss_say x y h =
    let h0 : (((option_eq.ghosts prefix_row.the_row prefix_eq.ghosts prefix_eq.dict).eq x.opened y.opened) && (((bool_eq.ghosts).eq x.openhole y.openhole) && (((bool_eq.ghosts).eq x.prequery y.prequery) && (((bool_eq.ghosts).eq x.query y.query) && ((bool_eq.ghosts).eq x.bad y.bad))))) ≡ true = and_second ((bool_eq.ghosts).eq x.start y.start) (((option_eq.ghosts prefix_row.the_row prefix_eq.ghosts prefix_eq.dict).eq x.opened y.opened) && (((bool_eq.ghosts).eq x.openhole y.openhole) && (((bool_eq.ghosts).eq x.prequery y.prequery) && (((bool_eq.ghosts).eq x.query y.query) && ((bool_eq.ghosts).eq x.bad y.bad))))) h in
    let h1 : (((bool_eq.ghosts).eq x.openhole y.openhole) && (((bool_eq.ghosts).eq x.prequery y.prequery) && (((bool_eq.ghosts).eq x.query y.query) && ((bool_eq.ghosts).eq x.bad y.bad)))) ≡ true = and_second ((option_eq.ghosts prefix_row.the_row prefix_eq.ghosts prefix_eq.dict).eq x.opened y.opened) (((bool_eq.ghosts).eq x.openhole y.openhole) && (((bool_eq.ghosts).eq x.prequery y.prequery) && (((bool_eq.ghosts).eq x.query y.query) && ((bool_eq.ghosts).eq x.bad y.bad)))) h0 in
    let h2 : (((bool_eq.ghosts).eq x.prequery y.prequery) && (((bool_eq.ghosts).eq x.query y.query) && ((bool_eq.ghosts).eq x.bad y.bad))) ≡ true = and_second ((bool_eq.ghosts).eq x.openhole y.openhole) (((bool_eq.ghosts).eq x.prequery y.prequery) && (((bool_eq.ghosts).eq x.query y.query) && ((bool_eq.ghosts).eq x.bad y.bad))) h1 in
    let h3 : (((bool_eq.ghosts).eq x.query y.query) && ((bool_eq.ghosts).eq x.bad y.bad)) ≡ true = and_second ((bool_eq.ghosts).eq x.prequery y.prequery) (((bool_eq.ghosts).eq x.query y.query) && ((bool_eq.ghosts).eq x.bad y.bad)) h2 in
    let h4 : ((bool_eq.ghosts).eq x.bad y.bad) ≡ true = and_second ((bool_eq.ghosts).eq x.query y.query) ((bool_eq.ghosts).eq x.bad y.bad) h3 in
    partss_of x.start y.start x.opened y.opened x.openhole y.openhole x.prequery y.prequery x.query y.query x.bad y.bad (bools.says x.start y.start (and_first ((bool_eq.ghosts).eq x.start y.start) (((option_eq.ghosts prefix_row.the_row prefix_eq.ghosts prefix_eq.dict).eq x.opened y.opened) && (((bool_eq.ghosts).eq x.openhole y.openhole) && (((bool_eq.ghosts).eq x.prequery y.prequery) && (((bool_eq.ghosts).eq x.query y.query) && ((bool_eq.ghosts).eq x.bad y.bad))))) h)) (some_prefixs.says x.opened y.opened (and_first ((option_eq.ghosts prefix_row.the_row prefix_eq.ghosts prefix_eq.dict).eq x.opened y.opened) (((bool_eq.ghosts).eq x.openhole y.openhole) && (((bool_eq.ghosts).eq x.prequery y.prequery) && (((bool_eq.ghosts).eq x.query y.query) && ((bool_eq.ghosts).eq x.bad y.bad)))) h0)) (bools.says x.openhole y.openhole (and_first ((bool_eq.ghosts).eq x.openhole y.openhole) (((bool_eq.ghosts).eq x.prequery y.prequery) && (((bool_eq.ghosts).eq x.query y.query) && ((bool_eq.ghosts).eq x.bad y.bad))) h1)) (bools.says x.prequery y.prequery (and_first ((bool_eq.ghosts).eq x.prequery y.prequery) (((bool_eq.ghosts).eq x.query y.query) && ((bool_eq.ghosts).eq x.bad y.bad)) h2)) (bools.says x.query y.query (and_first ((bool_eq.ghosts).eq x.query y.query) ((bool_eq.ghosts).eq x.bad y.bad) h3)) (bools.says x.bad y.bad h4)

pub partss : IsTest ((parts_eq.ghosts).eq)
partss = record { same = partss_same; says = partss_say }

jss_same : (a : Js) → (js_eq.ghosts).eq a a ≡ true
jss_same (js.Code a b) = ap₂ ◌&&◌ (sensess.same a) (js_tailss.same b)
jss_same js.Dq = refl
jss_same js.Sq = refl
jss_same (js.Regexp a) = bools.same a
jss_same (js.Line a) = sensess.same a
jss_same (js.Block a b) = ap₂ ◌&&◌ (sensess.same a) (bools.same b)

jss_say : (a b : Js) → (js_eq.ghosts).eq a b ≡ true → a ≡ b
jss_say (js.Code a b) (js.Code c d) h = ap₂ js.Code (sensess.says a c (and_first ((senses_eq.ghosts).eq a c) ((js_tails_eq.ghosts).eq b d) h)) (js_tailss.says b d (and_second ((senses_eq.ghosts).eq a c) ((js_tails_eq.ghosts).eq b d) h))
jss_say js.Dq js.Dq h = refl
jss_say js.Sq js.Sq h = refl
jss_say (js.Regexp a) (js.Regexp b) h = ap js.Regexp (bools.says a b h)
jss_say (js.Line a) (js.Line b) h = ap js.Line (sensess.says a b h)
jss_say (js.Block a b) (js.Block c d) h = ap₂ js.Block (sensess.says a c (and_first ((senses_eq.ghosts).eq a c) ((bool_eq.ghosts).eq b d) h)) (bools.says b d (and_second ((senses_eq.ghosts).eq a c) ((bool_eq.ghosts).eq b d) h))
jss_say _ _ h = absurd (no h)

pub jss : IsTest ((js_eq.ghosts).eq)
jss = record { same = jss_same; says = jss_say }

csss_same : (a : Css) → (css_eq.ghosts).eq a a ≡ true
csss_same (css.Code a) = css_tailss.same a
csss_same css.Dq = refl
csss_same css.Sq = refl
csss_same css.UrlFresh = refl
csss_same (css.Url a) = partss.same a
csss_same (css.UrlDq a) = partss.same a
csss_same (css.UrlSq a) = partss.same a
csss_same css.UrlEnd = refl
csss_same (css.Comment a) = bools.same a

csss_say : (a b : Css) → (css_eq.ghosts).eq a b ≡ true → a ≡ b
csss_say (css.Code a) (css.Code b) h = ap css.Code (css_tailss.says a b h)
csss_say css.Dq css.Dq h = refl
csss_say css.Sq css.Sq h = refl
csss_say css.UrlFresh css.UrlFresh h = refl
csss_say (css.Url a) (css.Url b) h = ap css.Url (partss.says a b h)
csss_say (css.UrlDq a) (css.UrlDq b) h = ap css.UrlDq (partss.says a b h)
csss_say (css.UrlSq a) (css.UrlSq b) h = ap css.UrlSq (partss.says a b h)
csss_say css.UrlEnd css.UrlEnd h = refl
csss_say (css.Comment a) (css.Comment b) h = ap css.Comment (bools.says a b h)
csss_say _ _ h = absurd (no h)

pub csss : IsTest ((css_eq.ghosts).eq)
csss = record { same = csss_same; says = csss_say }

quotess_same : (a : Quotes) → (quotes_eq.ghosts).eq a a ≡ true
quotess_same quotes.Dq = refl
quotess_same quotes.Sq = refl
quotess_same (quotes.Bare a) = bares.same a

quotess_say : (a b : Quotes) → (quotes_eq.ghosts).eq a b ≡ true → a ≡ b
quotess_say quotes.Dq quotes.Dq h = refl
quotess_say quotes.Sq quotes.Sq h = refl
quotess_say (quotes.Bare a) (quotes.Bare b) h = ap quotes.Bare (bares.says a b h)
quotess_say _ _ h = absurd (no h)

pub quotess : IsTest ((quotes_eq.ghosts).eq)
quotess = record { same = quotess_same; says = quotess_say }

bodys_same : (a : Body) → (body_eq.ghosts).eq a a ≡ true
bodys_same body.Plain = refl
bodys_same body.NoHole = refl
bodys_same (body.Url a) = partss.same a
bodys_same (body.Js a) = jss.same a
bodys_same (body.Css a) = csss.same a

bodys_say : (a b : Body) → (body_eq.ghosts).eq a b ≡ true → a ≡ b
bodys_say body.Plain body.Plain h = refl
bodys_say body.NoHole body.NoHole h = refl
bodys_say (body.Url a) (body.Url b) h = ap body.Url (partss.says a b h)
bodys_say (body.Js a) (body.Js b) h = ap body.Js (jss.says a b h)
bodys_say (body.Css a) (body.Css b) h = ap body.Css (csss.says a b h)
bodys_say _ _ h = absurd (no h)

pub bodys : IsTest ((body_eq.ghosts).eq)
bodys = record { same = bodys_same; says = bodys_say }

tag_places_same : (x : TagPlace) → (tag_place_eq.ghosts).eq x x ≡ true
tag_places_same x = ap₂ ◌&&◌ (tag_ofs.same x.tag) (ap₂ ◌&&◌ (bools.same x.typed) (ap₂ ◌&&◌ (spotss.same x.spots) (some_kinds.same x.kind)))

tag_places_of : (tag1 tag2 : TagOf) (typed1 typed2 : Bool) (spots1 spots2 : Spots) (kind1 kind2 : Option Kind) → tag1 ≡ tag2 → typed1 ≡ typed2 → spots1 ≡ spots2 → kind1 ≡ kind2
    → ◌≡◌ {A = TagPlace} (record { tag = tag1; typed = typed1; spots = spots1; kind = kind1 }) (record { tag = tag2; typed = typed2; spots = spots2; kind = kind2 })
tag_places_of tag1 tag2 typed1 typed2 spots1 spots2 kind1 kind2 e0 e1 e2 e3 = rw (e0, e1, e2, e3) refl

tag_places_say : (x y : TagPlace) → (tag_place_eq.ghosts).eq x y ≡ true → x ≡ y
tag_places_say x y h =
    let h0 : (((bool_eq.ghosts).eq x.typed y.typed) && (((spots_eq.ghosts).eq x.spots y.spots) && ((option_eq.ghosts kind_row.the_row kind_eq.ghosts kind_eq.dict).eq x.kind y.kind))) ≡ true = and_second ((tag_of_eq.ghosts).eq x.tag y.tag) (((bool_eq.ghosts).eq x.typed y.typed) && (((spots_eq.ghosts).eq x.spots y.spots) && ((option_eq.ghosts kind_row.the_row kind_eq.ghosts kind_eq.dict).eq x.kind y.kind))) h in
    let h1 : (((spots_eq.ghosts).eq x.spots y.spots) && ((option_eq.ghosts kind_row.the_row kind_eq.ghosts kind_eq.dict).eq x.kind y.kind)) ≡ true = and_second ((bool_eq.ghosts).eq x.typed y.typed) (((spots_eq.ghosts).eq x.spots y.spots) && ((option_eq.ghosts kind_row.the_row kind_eq.ghosts kind_eq.dict).eq x.kind y.kind)) h0 in
    let h2 : ((option_eq.ghosts kind_row.the_row kind_eq.ghosts kind_eq.dict).eq x.kind y.kind) ≡ true = and_second ((spots_eq.ghosts).eq x.spots y.spots) ((option_eq.ghosts kind_row.the_row kind_eq.ghosts kind_eq.dict).eq x.kind y.kind) h1 in
    tag_places_of x.tag y.tag x.typed y.typed x.spots y.spots x.kind y.kind (tag_ofs.says x.tag y.tag (and_first ((tag_of_eq.ghosts).eq x.tag y.tag) (((bool_eq.ghosts).eq x.typed y.typed) && (((spots_eq.ghosts).eq x.spots y.spots) && ((option_eq.ghosts kind_row.the_row kind_eq.ghosts kind_eq.dict).eq x.kind y.kind))) h)) (bools.says x.typed y.typed (and_first ((bool_eq.ghosts).eq x.typed y.typed) (((spots_eq.ghosts).eq x.spots y.spots) && ((option_eq.ghosts kind_row.the_row kind_eq.ghosts kind_eq.dict).eq x.kind y.kind)) h0)) (spotss.says x.spots y.spots (and_first ((spots_eq.ghosts).eq x.spots y.spots) ((option_eq.ghosts kind_row.the_row kind_eq.ghosts kind_eq.dict).eq x.kind y.kind) h1)) (some_kinds.says x.kind y.kind h2)

pub tag_places : IsTest ((tag_place_eq.ghosts).eq)
tag_places = record { same = tag_places_same; says = tag_places_say }

value_places_same : (x : ValuePlace) → (value_place_eq.ghosts).eq x x ≡ true
value_places_same x = ap₂ ◌&&◌ (tag_ofs.same x.tag) (ap₂ ◌&&◌ (bools.same x.typed) (ap₂ ◌&&◌ (quotess.same x.quotes) (bodys.same x.body)))

value_places_of : (tag1 tag2 : TagOf) (typed1 typed2 : Bool) (quotes1 quotes2 : Quotes) (body1 body2 : Body) → tag1 ≡ tag2 → typed1 ≡ typed2 → quotes1 ≡ quotes2 → body1 ≡ body2
    → ◌≡◌ {A = ValuePlace} (record { tag = tag1; typed = typed1; quotes = quotes1; body = body1 }) (record { tag = tag2; typed = typed2; quotes = quotes2; body = body2 })
value_places_of tag1 tag2 typed1 typed2 quotes1 quotes2 body1 body2 e0 e1 e2 e3 = rw (e0, e1, e2, e3) refl

value_places_say : (x y : ValuePlace) → (value_place_eq.ghosts).eq x y ≡ true → x ≡ y
value_places_say x y h =
    let h0 : (((bool_eq.ghosts).eq x.typed y.typed) && (((quotes_eq.ghosts).eq x.quotes y.quotes) && ((body_eq.ghosts).eq x.body y.body))) ≡ true = and_second ((tag_of_eq.ghosts).eq x.tag y.tag) (((bool_eq.ghosts).eq x.typed y.typed) && (((quotes_eq.ghosts).eq x.quotes y.quotes) && ((body_eq.ghosts).eq x.body y.body))) h in
    let h1 : (((quotes_eq.ghosts).eq x.quotes y.quotes) && ((body_eq.ghosts).eq x.body y.body)) ≡ true = and_second ((bool_eq.ghosts).eq x.typed y.typed) (((quotes_eq.ghosts).eq x.quotes y.quotes) && ((body_eq.ghosts).eq x.body y.body)) h0 in
    let h2 : ((body_eq.ghosts).eq x.body y.body) ≡ true = and_second ((quotes_eq.ghosts).eq x.quotes y.quotes) ((body_eq.ghosts).eq x.body y.body) h1 in
    value_places_of x.tag y.tag x.typed y.typed x.quotes y.quotes x.body y.body (tag_ofs.says x.tag y.tag (and_first ((tag_of_eq.ghosts).eq x.tag y.tag) (((bool_eq.ghosts).eq x.typed y.typed) && (((quotes_eq.ghosts).eq x.quotes y.quotes) && ((body_eq.ghosts).eq x.body y.body))) h)) (bools.says x.typed y.typed (and_first ((bool_eq.ghosts).eq x.typed y.typed) (((quotes_eq.ghosts).eq x.quotes y.quotes) && ((body_eq.ghosts).eq x.body y.body)) h0)) (quotess.says x.quotes y.quotes (and_first ((quotes_eq.ghosts).eq x.quotes y.quotes) ((body_eq.ghosts).eq x.body y.body) h1)) (bodys.says x.body y.body h2)

pub value_places : IsTest ((value_place_eq.ghosts).eq)
value_places = record { same = value_places_same; says = value_places_say }

places_same : (a : Place) → (place_eq.ghosts).eq a a ≡ true
places_same place.Text = refl
places_same place.Doctype = refl
places_same (place.Comment a) = bools.same a
places_same (place.Rcdata a) = elements.same a
places_same (place.Tag a) = tag_places.same a
places_same (place.Value a) = value_places.same a
places_same (place.Script a) = jss.same a
places_same (place.Style a) = csss.same a
places_same (place.Block a) = bools.same a

places_say : (a b : Place) → (place_eq.ghosts).eq a b ≡ true → a ≡ b
places_say place.Text place.Text h = refl
places_say place.Doctype place.Doctype h = refl
places_say (place.Comment a) (place.Comment b) h = ap place.Comment (bools.says a b h)
places_say (place.Rcdata a) (place.Rcdata b) h = ap place.Rcdata (elements.says a b h)
places_say (place.Tag a) (place.Tag b) h = ap place.Tag (tag_places.says a b h)
places_say (place.Value a) (place.Value b) h = ap place.Value (value_places.says a b h)
places_say (place.Script a) (place.Script b) h = ap place.Script (jss.says a b h)
places_say (place.Style a) (place.Style b) h = ap place.Style (csss.says a b h)
places_say (place.Block a) (place.Block b) h = ap place.Block (bools.says a b h)
places_say _ _ h = absurd (no h)

pub places : IsTest ((place_eq.ghosts).eq)
places = record { same = places_same; says = places_say }

pub the_same : (a b : Place) → ((place_eq.ghosts).eq a b ≡ true → a ≡ b) × (a ≡ b → (place_eq.ghosts).eq a b ≡ true)
the_same a b = (places_say a b, λ e. ap ((place_eq.ghosts).eq a) (sym e) ∙ places_same a)
