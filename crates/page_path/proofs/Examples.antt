-- Small pages, by the definition alone, and pages that are none.
use Rattle.std.proofs.Common.{◌≡◌, ℕ, pos, false, true, codes, List, [], ◌∷◌, ◌++◌, Some, length, refl, ap, ◌∙◌, arith, IsUtf8}
use Rattle.std.proofs.lemmas.Bool.{false≢true}
use Rattle.std.proofs.lemmas.Str.{is_utf8-from_IsUtf8}
use Rattle.std.specs.Str.{chars, is_utf8}
use Rattle.css_lexer.specs.Classes.{style_class}
use Rattle.esc_table.proofs.Runs.{replaced-encodes}
use Rattle.html_step.specs.Holes.{only}
use Rattle.js_lexer.specs.Classes as script
use Rattle.js_lexer.specs.Sanitizers.{js_value}
use Rattle.js_lexer.specs.WhiteSpace.{held_after, released}
use Rattle.page_datum.specs.Data.{Data, dict, entry, int, no_entries, null, text, truth}
use Rattle.page_path.specs.Pages.{PagePiece, page_bytes, pieces_of, value, value_pieces, words}
use Rattle.page_path.specs.Soundness.{AreValuesBack, IsSound}
use Rattle.page_path.specs.Textual.{AreTextual, IsTextBy}
use Rattle.place_core.specs.page.Classes.{class_of}
use Rattle.place_core.specs.page.Html.{read, start}
use Rattle.place_core.specs.page.Paths.{Hole, Written}
use Rattle.place_core.specs.page.References.{Closed, flushed, meaning}
use Rattle.place_core.specs.page.States.{Config, Page, LexState, TagOpen, Text}
use Rattle.place_core.specs.page.Tags.{ValueState}
use Rattle.place_core.specs.declared.place.Place.{Place}
use Rattle.place_core.specs.declared.place.Place.TheVariants as place
use Rattle.place_core.specs.declared.san.San.TheVariants as san
use Rattle.place_flow.specs.Covering.{pair}
use Rattle.san_html.specs.Sanitizers.{html, html_rows}
use Rattle.text_norm.specs.FilledReadings.{read_filled}
use Rattle.tpl_events.specs.Events.{gives_hole}
use Rattle.tpl_tree.specs.Forests.{ForestData}
use Rattle.tpl_tree.specs.Pipes.{command, dot, no_commands, single, with_fields}
use Rattle.tpl_tree.specs.Trees.{NodesData, no_nodes, node}
use Rattle.tpl_tree.specs.declared.node_kind.NodeKind.{NodeKind}
use Rattle.tpl_tree.specs.declared.node_kind.NodeKind.TheVariants as kind
use Rattle.url_lexer.specs.Classes.{url_class_of}

abbrev name : List ℕ
name = codes "a.html"

abbrev alone : NodeKind → NodesData → NodesData
alone what rest = node what 1 [] no_nodes no_nodes rest

-- a text, {{.}}, and another text
abbrev around : List ℕ → List ℕ → ForestData
around before behind =
    (let hole = kind.Action (record { commands = command (single (with_fields dot [])) no_commands }) in
    (name, record { nodes = alone (kind.Text before) (alone hole (alone (kind.Text behind) no_nodes)); end_line = 1 }) ∷ [])

abbrev pieces : List ℕ → List ℕ → List ℕ → List PagePiece
pieces before datum behind = pieces_of (around before behind) name (text datum)

less : html (codes "<") ≡ codes "&lt;"
unfolding lib.Utf8.encode
less = replaced-encodes html_rows (codes "<") refl

in_a_tag : pieces (codes "<b>") (codes "<") (codes "</b>")
    ≡ words (codes "<b>") ∷ value (text (codes "<")) (codes "&lt;") ∷ words (codes "</b>") ∷ []
unfolding class_of
in_a_tag = ap (λ (bytes : List ℕ). words (codes "<b>") ∷ value (text (codes "<")) bytes ∷ words (codes "</b>") ∷ []) less

in_an_empty_value : page_bytes (pieces (codes "<a title=") [] (codes ">")) ≡ codes "<a title=ZgotmplZ>"
unfolding class_of
in_an_empty_value = refl

-- in a URL: a scheme that data may not choose, in any case, and `&` and `/` in the query
failsafe_in_quotes : html (codes "#ZgotmplZ") ≡ codes "#ZgotmplZ"
unfolding lib.Utf8.encode
failsafe_in_quotes = replaced-encodes html_rows (codes "#ZgotmplZ") refl

triples_in_quotes : html (codes "a%26b%2f") ≡ codes "a%26b%2f"
unfolding lib.Utf8.encode
triples_in_quotes = replaced-encodes html_rows (codes "a%26b%2f") refl

in_a_url : page_bytes (pieces (codes "<a href='") (codes "JavaScript:a") (codes "'>")) ≡ codes "<a href='#ZgotmplZ'>"
unfolding class_of url_class_of
in_a_url = ap (λ (bytes : List ℕ). codes "<a href='" ++ bytes ++ codes "'>") failsafe_in_quotes

in_a_query : page_bytes (pieces (codes "<a href='?a=") (codes "a&b/") (codes "'>")) ≡ codes "<a href='?a=a%26b%2f'>"
unfolding class_of url_class_of
in_a_query = ap (λ (bytes : List ℕ). codes "<a href='?a=" ++ bytes ++ codes "'>") triples_in_quotes

in_an_empty_url : page_bytes (pieces (codes "<a href=/") [] (codes ">")) ≡ codes "<a href=/ZgotmplZ>"
unfolding class_of url_class_of
in_an_empty_url = refl

-- in a style: a text that may not stand there, a quotation mark in a string, and in a comment none of the value
safe_in_quotes : html (codes "ZgotmplZ") ≡ codes "ZgotmplZ"
unfolding lib.Utf8.encode
safe_in_quotes = replaced-encodes html_rows (codes "ZgotmplZ") refl

escape_in_quotes : html (codes "\\22 ") ≡ codes "\\22 "
unfolding lib.Utf8.encode
escape_in_quotes = replaced-encodes html_rows (codes "\\22 ") refl

in_a_style : page_bytes (pieces (codes "<b style='color:") (codes "url(a)") (codes "'>")) ≡ codes "<b style='color:ZgotmplZ'>"
unfolding class_of style_class
in_a_style = ap (λ (bytes : List ℕ). codes "<b style='color:" ++ bytes ++ codes "'>") safe_in_quotes

in_a_string : page_bytes (pieces (codes "<b style='content:\"") (codes "\"") (codes "\"'>")) ≡ codes "<b style='content:\"\\22 \"'>"
unfolding class_of style_class
in_a_string = ap (λ (bytes : List ℕ). codes "<b style='content:\"" ++ bytes ++ codes "\"'>") escape_in_quotes

in_a_comment_of_a_style : page_bytes (pieces (codes "<b style=a/*") (codes "red") (codes "*/>")) ≡ codes "<b style=a/*ZgotmplZ*/>"
unfolding class_of style_class
in_a_comment_of_a_style = refl

-- in the element of a style the same, as it is; and there a value in a comment is left out
in_a_style_element : page_bytes (pieces (codes "<style>b{color:") (codes "url(a)") (codes "}</style>"))
    ≡ codes "<style>b{color:ZgotmplZ}</style>"
unfolding class_of style_class
in_a_style_element = refl

in_a_string_of_an_element : page_bytes (pieces (codes "<style>b{content:'") (codes "</style>") (codes "'}</style>"))
    ≡ codes "<style>b{content:'\\3c\\2fstyle\\3e '}</style>"
unfolding class_of style_class
in_a_string_of_an_element = refl

in_a_comment_of_an_element : pieces (codes "<style>a/*") (codes "red") (codes "*/</style>")
    ≡ words (codes "<style>a ") ∷ words (codes " </style>") ∷ []
unfolding class_of style_class
in_a_comment_of_an_element = refl

-- in a script: a text in code is a string of JSON, in which a `<` is an escape, and the quotation marks are references of HTML; in a string and
-- in a regular expression they are escapes; and in a comment none of the value
datum_in_quotes : html (codes "\"\\u003ca\"") ≡ codes "&#34;\\u003ca&#34;"
unfolding lib.Utf8.encode
datum_in_quotes = replaced-encodes html_rows (codes "\"\\u003ca\"") refl

escapes_in_quotes : html (codes "\\u0022\\u003c\\/") ≡ codes "\\u0022\\u003c\\/"
unfolding lib.Utf8.encode
escapes_in_quotes = replaced-encodes html_rows (codes "\\u0022\\u003c\\/") refl

expression_in_quotes : html (codes "(?:)") ≡ codes "(?:)"
unfolding lib.Utf8.encode
expression_in_quotes = replaced-encodes html_rows (codes "(?:)") refl

truth_in_quotes : html (codes " true ") ≡ codes " true "
unfolding lib.Utf8.encode
truth_in_quotes = replaced-encodes html_rows (codes " true ") refl

in_a_script : page_bytes (pieces (codes "<b onclick='f(") (codes "<a") (codes ")'>")) ≡ codes "<b onclick='f(&#34;\\u003ca&#34;)'>"
unfolding class_of script.class_of released held_after lib.Utf8.encode
in_a_script = ap (λ (bytes : List ℕ). codes "<b onclick='f(" ++ bytes ++ codes ")'>") datum_in_quotes

a_truth_in_a_script : page_bytes (pieces_of (around (codes "<b onclick='f(") (codes ")'>")) name (truth true))
    ≡ codes "<b onclick='f( true )'>"
unfolding class_of script.class_of released held_after lib.Utf8.encode
a_truth_in_a_script = ap (λ (bytes : List ℕ). codes "<b onclick='f(" ++ bytes ++ codes ")'>") truth_in_quotes

in_a_string_of_a_script : page_bytes (pieces (codes "<b onclick='f(\"") (codes "\"</") (codes "\")'>"))
    ≡ codes "<b onclick='f(\"\\u0022\\u003c\\/\")'>"
unfolding class_of script.class_of released held_after lib.Utf8.encode
in_a_string_of_a_script = ap (λ (bytes : List ℕ). codes "<b onclick='f(\"" ++ bytes ++ codes "\")'>") escapes_in_quotes

in_a_regular_expression : page_bytes (pieces (codes "<b onclick='f(/") [] (codes "/)'>")) ≡ codes "<b onclick='f(/(?:)/)'>"
unfolding class_of script.class_of released held_after lib.Utf8.encode
in_a_regular_expression = ap (λ (bytes : List ℕ). codes "<b onclick='f(/" ++ bytes ++ codes "/)'>") expression_in_quotes

in_a_comment_of_a_script : page_bytes (pieces (codes "<b onclick=a/*") (codes "b") (codes "*/>")) ≡ codes "<b onclick=a/*ZgotmplZ*/>"
unfolding class_of script.class_of released held_after lib.Utf8.encode
in_a_comment_of_a_script = refl

-- with another sanitizer after Drop the value is not left out
dropped_first : value_pieces (record { count = 2; sans = san.Drop ∷ san.AttrNospace ∷ san.AttrNospace ∷ [] }) (text (codes "a"))
    ≡ value (text (codes "a")) (codes "ZgotmplZ") ∷ []
dropped_first = refl

in_a_comment : pieces (codes "a<!-- ") (codes "-->") (codes " -->b") ≡ words (codes "a") ∷ words (codes "b") ∷ []
unfolding class_of
in_a_comment = refl

-- a value as it is makes no page of the set, and is read as something else
as_it_is : IsSound (around (codes "<b>") (codes "</b>")) name (text (codes "<")) (codes "<b><</b>") → ⊥
as_it_is h = let same = ap length (h.bytes ∙ ap page_bytes in_a_tag) in omega (arith, same)

in_another_state : (c d : LexState ValueState) → c ≡ TagOpen Closed → d ≡ Text Closed → c ≡ d → ⊥
in_another_state c d e f g = cc

not_back : AreValuesBack (words (codes "<b>") ∷ value (text (codes "<")) (codes "<") ∷ words (codes "</b>") ∷ []) start → ⊥
unfolding class_of
not_back h = in_another_state (TagOpen Closed) (Text Closed) refl refl h.0.1.0

-- the same pages read as bytes alone, and their paths with the texts in their holes
abbrev with_text : List ℕ → List ℕ → List ℕ → Config ValueState
with_text before datum behind = read_filled (Written before ∷ Hole ∷ Written behind ∷ []) (datum ∷ []) start

raw_in_a_tag : read Page (codes "<b>&lt;</b>") start ≡ with_text (codes "<b>") (codes "<") (codes "</b>")
unfolding class_of meaning lib.Utf8.encode
raw_in_a_tag = refl

raw_in_an_empty_value : read Page (codes "<a title=ZgotmplZ>") start ≡ with_text (codes "<a title=") [] (codes ">")
unfolding class_of
raw_in_an_empty_value = refl

raw_in_a_name : read Page (codes "<a ab=c>") start ≡ with_text (codes "<a ") (codes "aB") (codes "=c>")
unfolding class_of
raw_in_a_name = refl

raw_in_a_comment : read Page (codes "ab") start ≡ with_text (codes "a<!-- ") (codes "-->") (codes " -->b")
unfolding class_of
raw_in_a_comment = refl

raw_behind_a_url : read Page (codes "<a href=/b?c&amp;d>&lt;</a>") start ≡ with_text (codes "<a href=/b?c&amp;d>") (codes "<") (codes "</a>")
unfolding class_of url_class_of meaning flushed lib.Utf8.encode
raw_behind_a_url = refl

-- a value as it is reads as more than its text
not_raw : read Page (codes "<b><i a></b>") start ≡ with_text (codes "<b>") (codes "<i a>") (codes "</b>") → ⊥
unfolding class_of
not_raw h = let same = ap (λ (c : Config ValueState). length c.emitted) h in omega (arith, same)

-- a byte with which no character begins is asked about only where its text is written
abbrev broken : List ℕ
broken = 255 ∷ []

not_utf8 : IsUtf8 broken → ⊥
unfolding is_utf8 chars
not_utf8 u = (let is : false ≡ true = is_utf8-from_IsUtf8 broken u in false≢true is)

as_a_name : IsTextBy (only san.AttrName) (text broken)
as_a_name = tt

as_a_text : IsTextBy (only san.Html) (text broken) → ⊥
as_a_text u = not_utf8 u

-- one that reads the datum itself asks about what it writes of that, in which a key stands too, and for a number that JSON data have
abbrev broken_key : Data
broken_key = dict (entry broken null no_entries)

not_utf8_key : IsUtf8 (js_value broken_key) → ⊥
unfolding is_utf8 chars lib.Utf8.encode
not_utf8_key u = (let is : false ≡ true = is_utf8-from_IsUtf8 (js_value broken_key) u in false≢true is)

as_a_script_value : IsTextBy (only san.JsValue) broken_key → ⊥
as_a_script_value u = not_utf8_key u.0

as_a_large_number : IsTextBy (only san.JsValue) (int (pos 9223372036854775808)) → ⊥
as_a_large_number u = omega (arith, u.1)

-- a hole with that text, wherever the chart has this place
abbrev AreTextsAt : Place → Type 0
AreTextsAt at =
    AreTextual [] (λ template entry k. Some at) (record { event = gives_hole 0 (text broken); template = name; line = 1 } ∷ [])
    (pair name place.Text ∷ [])

hole_in_a_comment : AreTextsAt (place.Comment false)
hole_in_a_comment = (tt, tt)

hole_in_text : AreTextsAt place.Text → ⊥
hole_in_text h = not_utf8 h.0
