-- Worked examples of bytes that are not a text in its place, and of the type of a script, which goes on with a text.
use Rattle.std.proofs.Common.{◌≡◌, ℕ, zero, suc, IsTrue, false, List, [], ◌∷◌, codes, refl, sym, ap, ◌∙◌, length, true≢false}
use Rattle.place_core.specs.page.Classes.{class_of}
use Rattle.place_core.specs.page.Events.{LexEvent, ValueByte, value_bytes}
use Rattle.place_core.specs.page.Html.{read}
use Rattle.place_core.specs.page.References.{meaning, flushed}
use Rattle.place_core.specs.page.States.{Page, AfterAttributeValue, AttributeName, BeforeAttributeName, Config, config}
use Rattle.place_core.specs.page.Tags.{end_tag, ValueOf, ValueState, OfKind, Deciding, DoubleQuoted, Unquoted}
use Rattle.place_core.specs.declared.element.Element.TheVariants as element
use Rattle.place_core.specs.declared.kind.Kind.TheVariants as kind
use Rattle.san_html.specs.ReadBack.{in_value, IsBackInText, IsBackInRcdata, IsBackInBlock, IsBackInQuoted, IsBackInUnquoted, IsBackInTag}

no : IsTrue false → ⊥
no h = cc

markup : IsBackInText (codes "<b>") (codes "<b>") → ⊥
unfolding class_of meaning flushed lib.Utf8.encode
markup h = no (h.plain []).1.1

one_is_four : suc zero ≡ suc (suc (suc (suc zero))) → ⊥
one_is_four e = cc

reference : IsBackInText (codes "&lt;") (codes "&lt;") → ⊥
unfolding class_of meaning flushed lib.Utf8.encode
reference h = one_is_four (ap (λ (c : Config ValueState). length c.emitted) (h.reads []))

end_of_title : IsBackInRcdata (codes "</title>") (codes "</title>") → ⊥
unfolding class_of meaning flushed lib.Utf8.encode
end_of_title h = no (h.plain element.Title []).1.1

end_of_block : IsBackInBlock (codes "</script>") (codes "</script>") → ⊥
unfolding class_of meaning flushed lib.Utf8.encode
end_of_block h = no (h.plain []).1.1

after_and_in : AfterAttributeValue end_tag ≡ in_value DoubleQuoted end_tag (ValueOf (OfKind kind.Plain)) → ⊥
after_and_in e = cc

quote : IsBackInQuoted (codes "\"") (codes "\"") → ⊥
unfolding class_of meaning flushed lib.Utf8.encode
quote h = after_and_in ((h.plain DoubleQuoted end_tag [] refl).1.within ∙ ap (λ (v : ValueState). in_value DoubleQuoted end_tag (ValueOf v)) (h.plain DoubleQuoted end_tag [] refl).1.leads)

name_and_value : AttributeName end_tag (codes "b") ≡ in_value Unquoted end_tag (ValueOf (OfKind kind.Plain)) → ⊥
name_and_value e = cc

blank : IsBackInUnquoted (codes "a b") (codes "a b") → ⊥
unfolding class_of meaning flushed lib.Utf8.encode
blank h = name_and_value ((h.plain end_tag []).1.within ∙ ap (λ (v : ValueState). in_value Unquoted end_tag (ValueOf v)) (h.plain end_tag []).1.leads)

some_byte : (bs : List ℕ) (e : LexEvent) (t : List LexEvent) → value_bytes bs (e ∷ t) ≡ [] → ⊥
some_byte [] e t h = cc
some_byte (b ∷ bs) e t h = some_byte bs (ValueByte b) (e ∷ t) h

no_byte : (bs : List ℕ) → value_bytes bs [] ≡ [] → bs ≡ []
no_byte [] e = refl
no_byte (b ∷ bs) e = absurd (some_byte bs (ValueByte b) [] e)

empty : IsBackInUnquoted [] [] → ⊥
empty h = (h.plain end_tag []).1.some (no_byte (h.plain end_tag []).1.value (sym (h.plain end_tag []).1.emitted))

handler : IsBackInTag (codes "onclick") (codes "onclick") → ⊥
unfolding class_of
handler h = true≢false (h.plain (BeforeAttributeName end_tag) end_tag [] refl).1.harmless

type_goes_on : IsBackInQuoted (codes "on") (codes "on") → read Page (codes "on") (config (in_value DoubleQuoted end_tag (Deciding kind.ScriptType (codes "js"))) []) ≡ config (in_value DoubleQuoted end_tag (Deciding kind.ScriptType (codes "json"))) (ValueByte 110 ∷ ValueByte 111 ∷ [])
type_goes_on h = h.reads DoubleQuoted end_tag (Deciding kind.ScriptType (codes "js")) [] refl
