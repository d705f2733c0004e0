-- Worked examples of bytes that are not plain in their place.
use Rattle.std.proofs.Common.{◌≡◌, ℕ, false, List, [], codes, sym, ap, subst}
use Rattle.js_lexer.specs.Classes as script
use Rattle.js_lexer.specs.Holes.{script_after_cut, LeadsPlainAt}
use Rattle.js_lexer.specs.States.{Code, Word, ScriptState, script_start}
use Rattle.js_lexer.specs.WhiteSpace.{released, held_after}
use Rattle.js_lexer.specs.declared.sense.Sense.{Sense}
use Rattle.js_lexer.specs.declared.sense.Sense.TheVariants as sense
use Rattle.place_core.specs.page.Classes.{class_of}
use Rattle.place_core.specs.page.Plain.{IsPlain}
use Rattle.place_core.specs.page.References.{Closed, meaning, flushed}
use Rattle.place_core.specs.page.States.{LexState, Text, TagOpen, BeforeAttributeName, BeforeAttributeValue, AttributeValue, InContent, Characters, Bytes, Nothing, PendingName, config}
use Rattle.place_core.specs.page.Tags.{tag_named, ValueOf, ValueState, OfKind, OfScript, LeadsPlainState, DoubleQuoted, Unquoted}
use Rattle.place_core.specs.declared.element.Element.TheVariants as element
use Rattle.place_core.specs.declared.kind.Kind.TheVariants as kind

tag_in_text : IsPlain (codes "</p>") (config (Text Closed) []) → ⊥
unfolding class_of meaning flushed lib.Utf8.encode
tag_in_text p = cc

comment_in_text : IsPlain (codes "<!-- -->") (config (Text Closed) []) → ⊥
unfolding class_of meaning flushed lib.Utf8.encode
comment_in_text p = cc

reference_in_text : IsPlain (codes "a&lt") (config (Text Closed) []) → ⊥
unfolding class_of meaning flushed lib.Utf8.encode
reference_in_text p = cc

after_less_than : IsPlain (codes "a") (config (TagOpen Closed) []) → ⊥
unfolding class_of meaning flushed lib.Utf8.encode
after_less_than p = p.1

end_of_title : IsPlain (codes "</title>") (config (InContent element.Title (Characters Closed) Nothing) []) → ⊥
unfolding class_of meaning flushed lib.Utf8.encode
end_of_title p = cc

end_of_block : IsPlain (codes "</script >") (config (InContent element.DataBlock Bytes Nothing) []) → ⊥
unfolding class_of meaning flushed lib.Utf8.encode
end_of_block p = cc

in_end_tag : IsPlain (codes "ript>") (config (InContent element.DataBlock Bytes (PendingName (codes "sc"))) []) → ⊥
unfolding class_of meaning flushed lib.Utf8.encode
in_end_tag p = p.1

quote_in_value : IsPlain (codes "\"") (config (AttributeValue DoubleQuoted (tag_named false (codes "p")) (ValueOf (OfKind kind.Plain)) Closed) []) → ⊥
unfolding class_of meaning flushed lib.Utf8.encode
quote_in_value p = cc

-- In an event handler a hole has to be a whole value, behind which a slash divides: a word is still open behind its letters.
value_in : LexState ValueState → ValueState
value_in (AttributeValue q t (ValueOf v) r) = v
value_in s = OfKind kind.Plain

word-code : (w : List ℕ) (s : Sense) → Word w ≡ Code s → ⊥
word-code w s h = cc

leads-in-handler : (s r : ScriptState) (bytes : List ℕ) (v : ValueState) → OfScript r ≡ v → LeadsPlainState (OfScript s) bytes v → LeadsPlainAt s.at r.at
leads-in-handler s r bytes v e l = (subst (λ (x : ValueState). LeadsPlainState (OfScript s) bytes x) (sym e) l).leads.at

in_handler : IsPlain (codes "a") (config (AttributeValue DoubleQuoted (tag_named false (codes "p")) (ValueOf (OfScript (script_after_cut script_start))) Closed) []) → ⊥
unfolding value_in class_of meaning flushed script.class_of released held_after lib.Utf8.encode
in_handler p = word-code (codes "a") sense.Div (leads-in-handler _ _ p.1.value p.1.after (ap value_in p.1.within) p.1.leads)

blank_in_unquoted : IsPlain (codes "a b") (config (AttributeValue Unquoted (tag_named false (codes "p")) (ValueOf (OfKind kind.Plain)) Closed) []) → ⊥
unfolding class_of meaning flushed lib.Utf8.encode
blank_in_unquoted p = cc

empty_unquoted : IsPlain [] (config (BeforeAttributeValue (tag_named false (codes "p")) kind.Plain) []) → ⊥
unfolding class_of meaning flushed lib.Utf8.encode
empty_unquoted p = cc

handler_name : IsPlain (codes "onclick") (config (BeforeAttributeName (tag_named false (codes "p"))) []) → ⊥
unfolding class_of meaning flushed lib.Utf8.encode
handler_name p = cc

two_names : IsPlain (codes "a b") (config (BeforeAttributeName (tag_named false (codes "p"))) []) → ⊥
unfolding class_of meaning flushed lib.Utf8.encode
two_names p = cc
