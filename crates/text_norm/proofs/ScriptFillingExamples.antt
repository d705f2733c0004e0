-- Small pages with scripts that fill their paths: a value in code, in a string, in a regular expression and in a comment of an attribute, and in the element.
use Rattle.std.proofs.Common.{◌≢◌, ℕ, false, true, codes, List, [], ◌∷◌, refl, ◌++◌}
use Rattle.js_lexer.specs.Classes.{class_of}
use Rattle.js_lexer.specs.Events.{RegexpBegins, ScriptByte}
use Rattle.js_lexer.specs.BackLaws.{in_string, in_regexp}
use Rattle.js_lexer.specs.Plain.{IsPlainInScript, literal_events}
use Rattle.js_lexer.specs.States.{no_trail}
use Rattle.js_lexer.specs.WhiteSpace.{released, held_after}
use Rattle.page_datum.specs.Data.{truth}
use Rattle.place_core.specs.page.Classes as html
use Rattle.place_core.specs.page.Contents.{in_word}
use Rattle.place_core.specs.page.Events.{InsideScript, LexEvent, Mark, told_in_script}
use Rattle.place_core.specs.page.Html.{read, start}
use Rattle.place_core.specs.page.Paths.{Hole, Written, read_path}
use Rattle.place_core.specs.page.References.{Closed, meaning}
use Rattle.place_core.specs.page.States.{Page, Text}
use Rattle.place_core.specs.page.Tags.{DoubleQuoted, languages}
use Rattle.text_norm.proofs.FilledEvents.{fills-mark}
use Rattle.text_norm.proofs.SureStates.{fills-node}
use Rattle.text_norm.specs.Fillings.{Fills, FillsPath, IsLiteralRun, IsRegexpRun, IsScriptStringRun, ScriptCodeSite, ScriptRegexpSite, ScriptStringSite, filling, script_run}

-- a text, a hole, another text
abbrev FillsAround : List ℕ → List ℕ → List ℕ → List ℕ → Type 0
FillsAround before text behind page = FillsPath (Written before ∷ Hole ∷ Written behind ∷ []) (text ∷ []) page

abbrev page_events : List ℕ → List LexEvent
page_events page = (read Page page start).emitted

begun : (before : List ℕ) → Fills (read_path languages (Written before ∷ []) start).emitted []
    (read_path languages (Written before ∷ []) start).emitted
begun before = fills-node [] before (Text Closed) [] [] refl (refl, refl)

-- <a onclick="f({{.}})"> with true: the tokens of its literal
abbrev call : List ℕ
call = codes "<a onclick=\"f("

in_code : FillsAround call (codes "true") (codes ")\">") (codes "<a onclick=\"f( true )\">")
unfolding html.class_of class_of released held_after meaning lib.Utf8.encode
in_code =
    let t = page_events call in
    let v = filling ScriptCodeSite (codes "true") in
    let run = told_in_script (literal_events (truth true) []) [] in
    let fits : IsLiteralRun (codes "true") run = record { datum = truth true; prints = refl; emitted = refl } in
    record { ends = refl; events = (_, _, refl, refl, (_, _, refl, refl, (_, _, refl, refl, fills-mark v [] run t t fits (begun call)))) }

-- <a onclick="f('{{.}}')"> with `a'`: bytes of the string
abbrev string : List ℕ
string = codes "<a onclick=\"f('"

abbrev in_string_bytes : List ℕ
in_string_bytes = codes "a\\u0027"

plain_in_string : IsPlainInScript in_string_bytes (in_string false no_trail)
unfolding class_of released held_after
plain_in_string = record {
  apart = refl;
  leads = record {
    at = refl;
    outside = refl;
    within = refl;
    whole_before = record { none = refl; closed = refl };
    whole_after = record { none = refl; closed = refl };
    settled = refl;
    released = refl;
  };
  tells = refl;
  written = tt;
}

in_a_string : FillsAround string (codes "a'") (codes "')\">") (codes "<a onclick=\"f('a\\u0027')\">")
unfolding html.class_of class_of released held_after meaning lib.Utf8.encode
in_a_string =
    let t = page_events string in
    let v = filling (ScriptStringSite DoubleQuoted false) (codes "a'") in
    let run = script_run (in_string false no_trail) in_string_bytes in
    let fits : IsScriptStringRun DoubleQuoted false (codes "a'") run = record { bytes = in_string_bytes; emitted = refl; plain = plain_in_string; reads = refl } in
    record {
      ends = refl;
      events = (_, _, refl, refl, (_, _, refl, refl, (_, _, refl, refl, (_, _, refl, refl, fills-mark v [] run t t fits (begun string)))));
    }

-- <a onclick="/{{.}}/"> with no text: the slash before it begins a regular expression
abbrev regexp : List ℕ
regexp = codes "<a onclick=\"/"

expression_some : codes "(?:)" ≢ []
expression_some e = cc

plain_in_regexp : IsPlainInScript (codes "(?:)") (in_regexp no_trail)
unfolding class_of released held_after
plain_in_regexp = record {
  apart = refl;
  leads = record {
    at = refl;
    outside = refl;
    within = refl;
    whole_before = record { none = refl; closed = refl };
    whole_after = record { none = refl; closed = refl };
    settled = refl;
    released = refl;
  };
  tells = refl;
  written = expression_some;
}

empty_regexp : FillsAround regexp [] (codes "/\">") (codes "<a onclick=\"/(?:)/\">")
unfolding html.class_of class_of released held_after meaning lib.Utf8.encode
empty_regexp =
    let t = page_events (codes "<a onclick=\"") in
    let v = filling ScriptRegexpSite [] in
    let run = script_run (in_regexp no_trail) (codes "(?:)") in
    let fits : IsRegexpRun [] run = record { bytes = codes "(?:)"; emitted = refl; plain = plain_in_regexp; reads = refl } in
    let slash : List LexEvent = InsideScript (ScriptByte 47) ∷ InsideScript RegexpBegins ∷ t in
    let told : Fills slash [] slash = (_, _, refl, refl, (_, _, refl, refl, begun (codes "<a onclick=\""))) in
    let ends = fills-mark v [] run slash slash fits told in
    record { ends = refl; events = (_, _, refl, refl, (_, _, refl, refl, ends)) }

-- <a onclick="//{{.}}">: in a comment no value has a filling
abbrev comment : List ℕ
comment = codes "<a onclick=\"//"

in_a_comment : FillsAround comment (codes "a") (codes "\">") (codes "<a onclick=\"//\">")
unfolding html.class_of class_of released held_after meaning lib.Utf8.encode
in_a_comment = record { ends = refl; events = (_, _, refl, refl, begun comment) }

-- <script>f({{.}})</script> with true: in the element of a script as in a value
abbrev element_call : List ℕ
element_call = codes "<script>f("

in_element_code : FillsAround element_call (codes "true") (codes ")</script>") (codes "<script>f( true )</script>")
unfolding html.class_of class_of released held_after meaning in_word lib.Utf8.encode
in_element_code =
    let t = page_events element_call in
    let v = filling ScriptCodeSite (codes "true") in
    let run = told_in_script (literal_events (truth true) []) [] in
    let fits : IsLiteralRun (codes "true") run = record { datum = truth true; prints = refl; emitted = refl } in
    let at = (read_path languages (Written element_call ∷ Hole ∷ []) start).at in
    let held = fills-mark v [] run t t fits (begun element_call) in
    record { ends = refl; events = fills-node (v ∷ []) (codes ")</script>") at (Mark ∷ t) (run ++ t) (_, refl, refl) held }

-- <script>//{{.}}</script>: of the comment nothing is written, and no value has a filling
abbrev element_comment : List ℕ
element_comment = codes "<script>//"

in_element_comment : FillsAround element_comment (codes "a") (codes "</script>") (codes "<script></script>")
unfolding html.class_of class_of released held_after meaning in_word lib.Utf8.encode
in_element_comment =
    let at = (read_path languages (Written element_comment ∷ Hole ∷ []) start).at in
    let t = page_events (codes "<script>") in
    record { ends = refl; events = fills-node [] (codes "</script>") at t t (_, refl, refl) (begun (codes "<script>")) }
