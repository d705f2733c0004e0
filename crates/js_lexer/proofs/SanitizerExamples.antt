-- Worked examples of what the sanitizers of scripts write, and of what it reads back as.
use Rattle.std.proofs.Common.{◌≡◌, pos, negsuc, true, false, codes, [], ◌∷◌, refl}
use Rattle.page_datum.specs.Data.{null, truth, int, text, list, dict, no_items, item, no_entries, entry}
use Rattle.std.specs.Fmt.{digits}
use Rattle.fast_float.specs.Text.{scan}
use Rattle.json.specs.Json.{items, members, value}
use Rattle.json.specs.Lex.{lex, punctuate}
use Rattle.json.specs.Text.{content, code_unit, short_escape}
use Rattle.json.specs.Word.{word, after_number}
use Rattle.serde_json.specs.Data as json
use Rattle.serde_json.specs.Read.{number_of}
use Rattle.js_lexer.specs.Classes.{class_of}
use Rattle.js_lexer.specs.Feeding.{read_on, script_reading}
use Rattle.js_lexer.specs.Plain.{IsDataBack, IsStringBack, IsRegexpBack}
use Rattle.js_lexer.specs.Sanitizers.{js_value, js_string, js_regexp}
use Rattle.js_lexer.specs.States.{script_start}
use Rattle.js_lexer.specs.WhiteSpace.{released, held_after}
use Rattle.js_lexer.specs.Undone.{script_escapes_undone}

number : js_value (int (pos 5)) ≡ codes " 5 "
unfolding digits lib.Utf8.encode
number = refl

negative : js_value (int (negsuc 4)) ≡ codes " -5 "
unfolding digits lib.Utf8.encode
negative = refl

nothing : js_value null ≡ codes " null "
unfolding lib.Utf8.encode
nothing = refl

object : js_value (dict (entry (codes "a") (text (codes "</script>")) no_entries)) ≡ codes "{\"a\":\"\\u003c/script\\u003e\"}"
unfolding lib.Utf8.encode
object = refl

entries : js_value (dict (entry (codes "a") (int (pos 1)) (entry (codes "b") (list (item (truth true) (item null no_items))) no_entries))) ≡ codes "{\"a\":1,\"b\":[true,null]}"
unfolding digits lib.Utf8.encode
entries = refl

quoted : js_value (text (codes "a\"\\&")) ≡ codes "\"a\\\"\\\\\\u0026\""
unfolding lib.Utf8.encode
quoted = refl

controls : js_value (text (1 ∷ 31 ∷ 10 ∷ 9 ∷ [])) ≡ codes "\"\\u0001\\u001f\\n\\t\""
unfolding lib.Utf8.encode
controls = refl

separators_as_data : js_value (text (0xE2 ∷ 0x80 ∷ 0xA8 ∷ [])) ≡ codes "\"\\u2028\""
unfolding lib.Utf8.encode
separators_as_data = refl

end_tag : js_string (codes "</script>'") ≡ codes "\\u003c\\/script\\u003e\\u0027"
unfolding lib.Utf8.encode
end_tag = refl

separator : js_string (0xE2 ∷ 0x80 ∷ 0xA8 ∷ []) ≡ codes "\\u2028"
unfolding lib.Utf8.encode
separator = refl

letter_past_ascii : js_string (0xC3 ∷ 0xA9 ∷ []) ≡ 0xC3 ∷ 0xA9 ∷ []
unfolding lib.Utf8.encode
letter_past_ascii = refl

empty_regexp : js_regexp [] ≡ codes "(?:)"
unfolding lib.Utf8.encode
empty_regexp = refl

dot : js_regexp (codes "a.b") ≡ codes "a\\.b"
unfolding lib.Utf8.encode
dot = refl

-- they read back
negative_back : IsDataBack (int (negsuc 4)) (js_value (int (negsuc 4))) (read_on (js_value (int (negsuc 4))) (script_reading script_start [])).told
unfolding class_of released held_after digits lib.Utf8.encode number_of lex punctuate items members value content word after_number code_unit short_escape scan
negative_back = record {
  json = record { depth = 0; value = json.number (json.negative (negsuc 4)); utf8 = (codes " -5 ", (refl, refl)); reads = refl; stands = refl };
  tokens = refl;
}

object_back : IsDataBack (dict (entry (codes "<") (list (item null (item (truth true) no_items))) no_entries)) (codes "{\"\\u003c\":[null,true]}") (read_on (codes "{\"\\u003c\":[null,true]}") (script_reading script_start [])).told
unfolding class_of released held_after digits lib.Utf8.encode number_of lex punctuate items members value content word after_number code_unit short_escape scan
object_back = record {
  json = record { depth = 2; value = json.object (json.member (codes "<") (json.array (json.item json.null (json.item (json.boolean true) json.no_items))) json.no_members); utf8 = (codes "{\"\\u003c\":[null,true]}", (refl, refl)); reads = refl; stands = refl };
  tokens = refl;
}

string_back : IsStringBack (0 ∷ codes "a'\"\\</\n`+") (js_string (0 ∷ codes "a'\"\\</\n`+"))
unfolding lib.Utf8.encode
string_back = refl

separator_back : IsStringBack (0xE2 ∷ 0x80 ∷ 0xA9 ∷ 0xC3 ∷ 0xA9 ∷ []) (js_string (0xE2 ∷ 0x80 ∷ 0xA9 ∷ 0xC3 ∷ 0xA9 ∷ []))
unfolding lib.Utf8.encode
separator_back = refl

regexp_back : IsRegexpBack (codes "[a-z]/$1") (js_regexp (codes "[a-z]/$1"))
unfolding lib.Utf8.encode
regexp_back = (refl, refl)

written_out_back : IsRegexpBack (codes "(?:)") (js_regexp (codes "(?:)"))
unfolding lib.Utf8.encode
written_out_back = (refl, refl)

no-true : true ≡ false → ⊥
no-true e = cc

-- the expression of the empty text is no other one's
empty_regexp_is_no_text : IsRegexpBack (codes "(?:)") (codes "(?:)") → ⊥
unfolding lib.Utf8.encode
empty_regexp_is_no_text back = no-true back.1

empty_regexp_back : IsRegexpBack [] (js_regexp [])
unfolding lib.Utf8.encode
empty_regexp_back = refl

escapes_of_others : script_escapes_undone (codes "\\x3C\\u{1F600}\\b\\q") ≡ 60 ∷ 0xF0 ∷ 0x9F ∷ 0x98 ∷ 0x80 ∷ 8 ∷ 113 ∷ []
unfolding lib.Utf8.encode
escapes_of_others = refl
