-- Every file has exactly one answer.
use Rattle.std.proofs.Common.{◌≡◌, ℕ, List, ◌∷◌, ◌++◌, Some, Ok, Err, inl, inr, refl, sym, ap, ◌∙◌}
use Rattle.tpl_parse.proofs.FileLaws.{body_leads, parsed_of, SaysParsed, says_parsed, stopped_parsed, run_more}
use Rattle.tpl_parse.proofs.FormsLead.{with_forms}
use Rattle.tpl_parse.specs.Endings.{checked}
use Rattle.tpl_parse.specs.Files.{all_found, file_last_line, IsFile, refusal_offset, IsParseRefused}
use Rattle.tpl_parse.specs.Laws.{HasParseAnswer, HaveOneTree, NoneGoesOn}
use Rattle.tpl_build.specs.Building.{empty_builder}
use Rattle.tpl_parse.specs.Parsing.{Parsed, parser_end, parsed}
use Rattle.tpl_parse.specs.Steps.{Stepped, step_and_then, parser_run, parser_beginning, most_open}
use Rattle.tpl_parse.specs.Actions.{ActionRefusal}
use Rattle.tpl_build.specs.declared.definition.Def.{Def}
use Rattle.tpl_parse.specs.State.{ParserState}
use Rattle.tpl_build.specs.declared.builder.Builder.{Builder}
use Rattle.tpl_parse.specs.declared.refused.FileRefused.{FileRefused}
use Rattle.tpl_parse.specs.declared.refused.FileRefused.TheVariants as file_refused
use Rattle.tpl_symbol.specs.Lines.{line_of}
use Rattle.tpl_symbol.specs.Symbols.{symbols_of}
use Rattle.tpl_token.proofs.OneAnswer.{has_answer, not_refused, one_list, one_refusal}
use Rattle.tpl_token.specs.Answers as token_answers
use Rattle.tpl_token.specs.Grammar.{AreTokens}
use Rattle.tpl_token.specs.Refusals as tokens
use Rattle.tpl_token.specs.declared.refused.TokenRefused.{TokenRefused}
use Rattle.tpl_token.specs.declared.refused.TokenRefused.TheVariants as token_refused
use Rattle.tpl_token.specs.declared.token.Token.{Token}

abbrev as_parsed : List Def → Parsed
as_parsed defs = Ok defs

abbrev as_refused : ActionRefusal → Parsed
as_refused why = Err why

same_defs : {a b : List Def} → as_parsed a ≡ Ok b → a ≡ b
same_defs e = cc

same_refusal : {a b : ActionRefusal} → as_refused a ≡ Err b → a ≡ b
same_refusal e = cc

not_both_parsed : {defs : List Def} {why : ActionRefusal} → as_parsed defs ≡ Err why → ⊥
not_both_parsed e = cc

some_offset : {a b : ℕ} → Some a ≡ Some b → a ≡ b
some_offset e = cc

-- a file is computed
file_parsed : (name text : List ℕ) (defs : List Def) (file : IsFile name text defs) → parsed name (parser_end text) (symbols_of text file.tokens) ≡ Ok defs
file_parsed name text defs file =
    parsed_of name text file.forms (symbols_of text file.tokens) file.body ∙ ap (λ r. checked r (all_found name (file_last_line text) file.forms)) file.single ∙ ap (λ (ds : List Def). as_parsed ds) file.all

pub one_of : (name text : List ℕ) (a b : List Def) → IsFile name text a → IsFile name text b → a ≡ b
one_of name text a b x y =
    let same : x.tokens ≡ y.tokens = one_list text x.tokens y.tokens x.are_tokens y.are_tokens in
    same_defs (sym (file_parsed name text a x) ∙ ap (λ ts. parsed name (parser_end text) (symbols_of text ts)) same ∙ file_parsed name text b y)

pub file_not_refused : (name text : List ℕ) (a : List Def) (b : FileRefused) → IsFile name text a → IsParseRefused name text b → ⊥
file_not_refused name text a (file_refused.Token why line) x h = not_refused text x.tokens why x.are_tokens h.1
file_not_refused name text a (file_refused.Parse why line) x h =
    let same : x.tokens ≡ h.0 = one_list text x.tokens h.0 x.are_tokens h.1 in
    not_both_parsed (sym (file_parsed name text a x) ∙ ap (λ ts. parsed name (parser_end text) (symbols_of text ts)) same ∙ stopped_parsed name text (symbols_of text h.0) why line h.2)
file_not_refused name text a file_refused.Memory x h = h

abbrev token_of : TokenRefused → ℕ → FileRefused
token_of why line = file_refused.Token why line

abbrev parse_of : ActionRefusal → FileRefused
parse_of why = file_refused.Parse why.0 why.1

pub one_stop : (name text : List ℕ) (a b : FileRefused) → IsParseRefused name text a → IsParseRefused name text b → a ≡ b
one_stop name text (file_refused.Token v l) (file_refused.Token w m) x y =
    let same : v ≡ w = one_refusal text v w x.1 y.1 in
    let offsets : x.0 ≡ y.0 = some_offset (sym x.2 ∙ ap refusal_offset same ∙ y.2) in
    ap (λ (v : TokenRefused). token_of v l) same ∙ ap (λ (n : ℕ). token_of w n) (x.3 ∙ ap (line_of text) offsets ∙ sym y.3)
one_stop name text (file_refused.Token v l) (file_refused.Parse w m) x y = absurd (not_refused text y.0 v y.1 x.1)
one_stop name text (file_refused.Token v l) file_refused.Memory x y = absurd y
one_stop name text (file_refused.Parse v l) (file_refused.Token w m) x y = absurd (not_refused text x.0 w x.1 y.1)
one_stop name text (file_refused.Parse v l) (file_refused.Parse w m) x y =
    let same : x.0 ≡ y.0 = one_list text x.0 y.0 x.1 y.1 in
    ap (λ (r : ActionRefusal). parse_of r) (same_refusal (sym (stopped_parsed name text (symbols_of text x.0) v l x.2) ∙ ap (λ ts. parsed name (parser_end text) (symbols_of text ts)) same ∙ stopped_parsed name text (symbols_of text y.0) w m y.2))
one_stop name text (file_refused.Parse v l) file_refused.Memory x y = absurd y
one_stop name text file_refused.Memory b x y = absurd x

-- an answer of the symbols
parsed_answer : (name text : List ℕ) (list : List Token) (r : Parsed) → AreTokens text list → SaysParsed name text (symbols_of text list) r → HasParseAnswer name text
parsed_answer name text list (Ok defs) are says = inl (defs, record { tokens = list; are_tokens = are; forms = says.0; body = says.1; single = says.2; all = says.3 })
parsed_answer name text list (Err why) are says = inr (file_refused.Parse why.0 why.1, (list, are, says))

token_answer : (name text : List ℕ) (why : TokenRefused) → tokens.IsTokenRefused text why → HasParseAnswer name text
token_answer name text (token_refused.UnclosedAction offset) h = inr (file_refused.Token (token_refused.UnclosedAction offset) (line_of text offset), (offset, h, refl, refl))
token_answer name text (token_refused.BadCharacter offset) h = inr (file_refused.Token (token_refused.BadCharacter offset) (line_of text offset), (offset, h, refl, refl))
token_answer name text (token_refused.UnclosedString offset) h = inr (file_refused.Token (token_refused.UnclosedString offset) (line_of text offset), (offset, h, refl, refl))
token_answer name text (token_refused.UnclosedComment offset) h = inr (file_refused.Token (token_refused.UnclosedComment offset) (line_of text offset), (offset, h, refl, refl))
token_answer name text (token_refused.BadNumber offset) h = inr (file_refused.Token (token_refused.BadNumber offset) (line_of text offset), (offset, h, refl, refl))
token_answer name text (token_refused.BadDelimiter offset) h = inr (file_refused.Token (token_refused.BadDelimiter offset) (line_of text offset), (offset, h, refl, refl))
token_answer name text (token_refused.BadEscape offset) h = inr (file_refused.Token (token_refused.BadEscape offset) (line_of text offset), (offset, h, refl, refl))
token_answer name text token_refused.Memory h = absurd h.cause.3

answer_of : (name text : List ℕ) → token_answers.HasTokenAnswer text → HasParseAnswer name text
answer_of name text (inl (list, are)) = parsed_answer name text list (parsed name (parser_end text) (symbols_of text list)) are (says_parsed name text (symbols_of text list))
answer_of name text (inr (why, h)) = token_answer name text why h

pub has_file_answer : (name text : List ℕ) → HasParseAnswer name text
has_file_answer name text = answer_of name text (has_answer text)

abbrev as_stepped : ParserState → Stepped
as_stepped at = Ok at

same_state : {a b : ParserState} → as_stepped a ≡ Ok b → a ≡ b
same_state e = cc

-- two readings of the same symbols end alike
pub one_tree : HaveOneTree
one_tree symbols a b x y =
    let ends : with_forms a (empty_builder most_open) ≡ with_forms b (empty_builder most_open) = ap (λ (s : ParserState). s.builder) (same_state (sym (body_leads a symbols x) ∙ body_leads b symbols y)) in
    (ap (λ (n : Builder). n.body) ends, ap (λ (n : Builder). n.blank) ends, ap (λ (n : Builder). n.found) ends)

abbrev as_stop : ActionRefusal → Stepped
as_stop why = Err why

no_stop : {at : ParserState} {why : ActionRefusal} → as_stepped at ≡ Err why → ⊥
no_stop e = cc

pub none_goes_on : NoneGoesOn
none_goes_on before more symbol at why line forms leads refused body =
    no_stop (sym (body_leads forms (before ++ symbol ∷ more) body) ∙ run_more parser_beginning at before (symbol ∷ more) leads ∙ ap (λ (x : Stepped). step_and_then x (λ next. parser_run next more)) refused)
