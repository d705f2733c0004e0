-- Worked examples of bytes that are plain where a hole stands in a script: those that the sanitizers write.
use Rattle.std.proofs.Common.{◌≢◌, ℕ, inl, inr, pos, negsuc, true, false, codes, List, [], ◌∷◌, refl}
use Rattle.std.specs.Fmt.{digits}
use Rattle.page_datum.specs.Data.{null, truth, int, text, list, dict, no_items, item, no_entries, entry}
use Rattle.js_lexer.specs.Classes.{class_of}
use Rattle.js_lexer.specs.Plain.{IsPlainInScript}
use Rattle.js_lexer.specs.Sanitizers.{js_value, js_string, js_regexp, script_failsafe}
use Rattle.js_lexer.specs.States.{NoEscape, At, Code, Word, Minuses, Slash, BlockComment, InString, InRegexp, ScriptState, no_trail}
use Rattle.js_lexer.specs.WhiteSpace.{released, held_after}
use Rattle.js_lexer.specs.declared.sense.Sense.TheVariants as sense

abbrev standing : At → ScriptState
standing a = record { literals = []; at = a; held = []; trail = no_trail }

-- In code: behind a slash that divides, behind `<`, behind a `-`, behind `return`.
number_behind_division : IsPlainInScript (js_value (int (pos 5))) (standing (Slash sense.Div))
unfolding class_of released held_after digits lib.Utf8.encode
number_behind_division = record {
  apart = refl;
  leads = record { at = refl; outside = refl; within = refl; whole_before = record { none = refl; closed = refl }; whole_after = record { none = refl; closed = refl }; settled = refl; released = refl };
  tells = (int (pos 5), refl);
  written = (int (pos 5), refl);
}

number_behind_less : IsPlainInScript (js_value (int (pos 5))) (standing (Code sense.Re))
unfolding class_of released held_after digits lib.Utf8.encode
number_behind_less = record {
  apart = refl;
  leads = record { at = refl; outside = refl; within = refl; whole_before = record { none = refl; closed = refl }; whole_after = record { none = refl; closed = refl }; settled = refl; released = refl };
  tells = (int (pos 5), refl);
  written = (int (pos 5), refl);
}

negative_behind_minus : IsPlainInScript (js_value (int (negsuc 4))) (standing (Minuses true))
unfolding class_of released held_after digits lib.Utf8.encode
negative_behind_minus = record {
  apart = refl;
  leads = record { at = refl; outside = refl; within = refl; whole_before = record { none = refl; closed = refl }; whole_after = record { none = refl; closed = refl }; settled = refl; released = refl };
  tells = (int (negsuc 4), refl);
  written = (int (negsuc 4), refl);
}

null_behind_word : IsPlainInScript (js_value null) (standing (Word (codes "return")))
unfolding class_of released held_after digits lib.Utf8.encode
null_behind_word = record {
  apart = refl;
  leads = record { at = refl; outside = refl; within = refl; whole_before = record { none = refl; closed = refl }; whole_after = record { none = refl; closed = refl }; settled = refl; released = refl };
  tells = (null, refl);
  written = (null, refl);
}

object_with_end_tag : IsPlainInScript (js_value (dict (entry (codes "a") (text (codes "</script>")) no_entries))) (standing (Code sense.Re))
unfolding class_of released held_after digits lib.Utf8.encode
object_with_end_tag = record {
  apart = refl;
  leads = record { at = refl; outside = refl; within = refl; whole_before = record { none = refl; closed = refl }; whole_after = record { none = refl; closed = refl }; settled = refl; released = refl };
  tells = (dict (entry (codes "a") (text (codes "</script>")) no_entries), refl);
  written = (dict (entry (codes "a") (text (codes "</script>")) no_entries), refl);
}

list_of_all : IsPlainInScript (js_value (list (item (truth true) (item (int (negsuc 0)) (item null (item (text (codes "\"")) no_items)))))) (standing (Code sense.Re))
unfolding class_of released held_after digits lib.Utf8.encode
list_of_all = record {
  apart = refl;
  leads = record { at = refl; outside = refl; within = refl; whole_before = record { none = refl; closed = refl }; whole_after = record { none = refl; closed = refl }; settled = refl; released = refl };
  tells = (list (item (truth true) (item (int (negsuc 0)) (item null (item (text (codes "\"")) no_items)))), refl);
  written = (list (item (truth true) (item (int (negsuc 0)) (item null (item (text (codes "\"")) no_items)))), refl);
}

-- In a string: what would end it, HTML, a line separator.
quote_in_string : IsPlainInScript (js_string (codes "'\\")) (standing (InString false NoEscape))
unfolding class_of released held_after digits lib.Utf8.encode
quote_in_string = record {
  apart = refl;
  leads = record { at = refl; outside = refl; within = refl; whole_before = record { none = refl; closed = refl }; whole_after = record { none = refl; closed = refl }; settled = refl; released = refl };
  tells = refl;
  written = tt;
}

end_tag_in_string : IsPlainInScript (js_string (codes "</script>")) (standing (InString true NoEscape))
unfolding class_of released held_after digits lib.Utf8.encode
end_tag_in_string = record {
  apart = refl;
  leads = record { at = refl; outside = refl; within = refl; whole_before = record { none = refl; closed = refl }; whole_after = record { none = refl; closed = refl }; settled = refl; released = refl };
  tells = refl;
  written = tt;
}

separator_in_string : IsPlainInScript (js_string (0xE2 ∷ 0x80 ∷ 0xA8 ∷ [])) (standing (InString false NoEscape))
unfolding class_of released held_after digits lib.Utf8.encode
separator_in_string = record {
  apart = refl;
  leads = record { at = refl; outside = refl; within = refl; whole_before = record { none = refl; closed = refl }; whole_after = record { none = refl; closed = refl }; settled = refl; released = refl };
  tells = refl;
  written = tt;
}

not-empty : (b : ℕ) (bs : List ℕ) → b ∷ bs ≢ []
not-empty b bs h = cc

-- In a regular expression: nothing, behind the slash that begins it; its syntax.
empty_regexp : IsPlainInScript (js_regexp []) (standing (Slash sense.Re))
unfolding class_of released held_after digits lib.Utf8.encode
empty_regexp = record {
  apart = refl;
  leads = record { at = refl; outside = refl; within = refl; whole_before = record { none = refl; closed = refl }; whole_after = record { none = refl; closed = refl }; settled = refl; released = refl };
  tells = refl;
  written = not-empty _ _;
}

syntax_in_regexp : IsPlainInScript (js_regexp (codes "[a/](")) (standing (InRegexp false NoEscape))
unfolding class_of released held_after digits lib.Utf8.encode
syntax_in_regexp = record {
  apart = refl;
  leads = record { at = refl; outside = refl; within = refl; whole_before = record { none = refl; closed = refl }; whole_after = record { none = refl; closed = refl }; settled = refl; released = refl };
  tells = refl;
  written = not-empty _ _;
}

-- In a comment: nothing, and in a value without quotes a word.
nothing_in_comment : IsPlainInScript ([]) (standing (BlockComment sense.Re true))
unfolding class_of released held_after digits lib.Utf8.encode
nothing_in_comment = record {
  apart = refl;
  leads = record { at = inl refl; outside = refl; within = refl; whole_before = record { none = refl; closed = refl }; whole_after = record { none = refl; closed = refl }; settled = refl; released = refl };
  tells = refl;
  written = inl refl;
}

failsafe_in_comment : IsPlainInScript script_failsafe (standing (BlockComment sense.Re true))
unfolding class_of released held_after digits lib.Utf8.encode
failsafe_in_comment = record {
  apart = refl;
  leads = record { at = inr refl; outside = refl; within = refl; whole_before = record { none = refl; closed = refl }; whole_after = record { none = refl; closed = refl }; settled = refl; released = refl };
  tells = refl;
  written = inr refl;
}
