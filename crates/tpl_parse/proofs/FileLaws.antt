-- Computing a file's definitions gives what the file is.
use Rattle.std.proofs.Common.{◌≡◌, ℕ, true, false, List, [], ◌∷◌, ◌++◌, length, Option, Some, None, Result, Ok, Err, inl, inr, refl, sym, ap, ◌∙◌, subst}
use Rattle.tpl_parse.proofs.FilesSay.{file_stands}
use Rattle.tpl_parse.proofs.FormsLead.{forms_lead, with_forms}
use Rattle.tpl_parse.specs.Endings.{second_line, with_own, defs_of, checked, finished_in}
use Rattle.tpl_parse.specs.Files.{all_found, file_last_line, IsFile, IsFileOpen, IsStopped, refusal_offset, IsParseRefused, ParseFileAnswers, GivesFile}
use Rattle.tpl_parse.specs.Forms.{Forms}
use Rattle.tpl_parse.specs.Grammar.{IsFileBody}
use Rattle.tpl_build.specs.Building.{empty_builder}
use Rattle.tpl_parse.specs.Parsing.{Parsed, parser_end, ended_in, parser_ended, parsed, ParseTokensAnswers, token_refusal}
use Rattle.tpl_parse.specs.Steps.{Stepped, state, step_and_then, parser_step, parser_run, parser_beginning, most_open}
use Rattle.tpl_parse.specs.Actions.{ActionRefusal}
use Rattle.tpl_build.specs.declared.definition.Def.{Def}
use Rattle.tpl_build.specs.declared.definition.File.{File}
use Rattle.tpl_build.specs.declared.frame.OpenForm.{OpenForm}
use Rattle.tpl_parse.specs.declared.action.ActionState.{ActionState}
use Rattle.tpl_parse.specs.Phases.{Phase}
use Rattle.tpl_parse.specs.Phases as phase
use Rattle.tpl_build.specs.declared.action.Opening.{Opening}
use Rattle.tpl_parse.specs.State.{ParserState}
use Rattle.tpl_parse.specs.declared.refused.FileRefused.{FileRefused}
use Rattle.tpl_parse.specs.declared.refused.FileRefused.TheVariants as file_refused
use Rattle.tpl_pipe.specs.declared.refused.ParseRefused.{ParseRefused}
use Rattle.tpl_pipe.specs.declared.refused.ParseRefused.TheVariants as refused
use Rattle.tpl_symbol.specs.Lines.{line_of}
use Rattle.tpl_symbol.specs.Symbols.{symbols_of}
use Rattle.tpl_symbol.specs.declared.symbol.Symbol.{Symbol}
use Rattle.tpl_token.specs.Answers as token_answers
use Rattle.tpl_token.specs.Grammar.{AreTokens}
use Rattle.tpl_token.specs.Refusals as tokens
use Rattle.tpl_token.specs.declared.refused.TokenRefused.{TokenRefused}
use Rattle.tpl_token.specs.declared.refused.TokenRefused.TheVariants as token_refused
use Rattle.tpl_token.specs.declared.token.Token.{Token}
use Rattle.tpl_tree.specs.Trees.{no_nodes}

-- the forms of a file lead to its end
pub body_leads : (forms : Forms) (symbols : List Symbol) → IsFileBody forms symbols → parser_run parser_beginning symbols ≡ Ok (state (with_forms forms (empty_builder most_open)) phase.Outside)
body_leads forms symbols body = forms_lead forms true [] no_nodes [] false most_open true [] symbols [] (λ e. refl) body

pub parsed_of : (name text : List ℕ) (forms : Forms) (symbols : List Symbol) → IsFileBody forms symbols
    → parsed name (parser_end text) symbols ≡ checked (second_line [] (all_found name (file_last_line text) forms)) (all_found name (file_last_line text) forms)
parsed_of name text forms symbols body = ap (parser_ended name (parser_end text)) (body_leads forms symbols body)

abbrev as_state : ParserState → Stepped
as_state at = Ok at

no_refusal : {at : ParserState} {why : ActionRefusal} → as_state at ≡ Err why → ⊥
no_refusal e = cc

same_state : {at next : ParserState} → as_state at ≡ Ok next → at ≡ next
same_state e = cc

abbrev as_stop : ActionRefusal → Stepped
as_stop why = Err why

same_stop : {a b : ActionRefusal} → as_stop a ≡ Err b → a ≡ b
same_stop e = cc

no_state : {at : ParserState} {why : ActionRefusal} → as_stop why ≡ Ok at → ⊥
no_state e = cc

abbrev as_refused : ActionRefusal → Parsed
as_refused why = Err why

-- what is found of a refusal
abbrev FoundAt : ParserState → List Symbol → ParseRefused → ℕ → Type 0
FoundAt from symbols why line =
    (before : List Symbol) × (symbol : Symbol) × (following : List Symbol) × (at : ParserState) × (symbols ≡ before ++ symbol ∷ following) × (parser_run from before ≡ Ok at) × (parser_step at symbol ≡ Err (why, line))

refused_in : (from : ParserState) (s : Symbol) (symbols : List Symbol) (why : ParseRefused) (line : ℕ) (r : Stepped) → parser_step from s ≡ r → step_and_then r (λ next. parser_run next symbols) ≡ Err (why, line)
    → ((next : ParserState) → parser_run next symbols ≡ Err (why, line) → FoundAt next symbols why line) → FoundAt from (s ∷ symbols) why line
refused_in from s symbols why line (Err w) e f later = ([], s, symbols, from, refl, refl, e ∙ f)
refused_in from s symbols why line (Ok next) e f later =
    let found = later next f in
    (s ∷ found.0, found.1, found.2, found.3, ap (λ (xs : List Symbol). s ∷ xs) found.4, (rw e found.5), found.6)

run_in : (from at : ParserState) (s : Symbol) (before more : List Symbol) (r : Stepped) → parser_step from s ≡ r → step_and_then r (λ next. parser_run next before) ≡ Ok at
    → ((next : ParserState) → parser_run next before ≡ Ok at → parser_run next (before ++ more) ≡ parser_run at more) → parser_run from (s ∷ (before ++ more)) ≡ parser_run at more
run_in from at s before more (Err w) e f later = absurd (no_state f)
run_in from at s before more (Ok next) e f later = rw e (later next f)

-- what stands before a symbol that is refused
refused_at : (from : ParserState) (symbols : List Symbol) (why : ParseRefused) (line : ℕ) → parser_run from symbols ≡ Err (why, line)
    → FoundAt from symbols why line
refused_at from [] why line e = absurd (no_refusal e)
refused_at from (s ∷ symbols) why line e = refused_in from s symbols why line (parser_step from s) refl e (λ next h. refused_at next symbols why line h)

-- symbols one after another
pub run_more : (from at : ParserState) (before more : List Symbol) → parser_run from before ≡ Ok at → parser_run from (before ++ more) ≡ parser_run at more
run_more from at [] more e = ap (λ (st : ParserState). parser_run st more) (same_state e)
run_more from at (s ∷ before) more e = run_in from at s before more (parser_step from s) refl e (λ next h. run_more next at before more h)

inside_no_end : (o : Opening) (h : ActionState) → phase.Inside o h ≡ phase.Outside → ⊥
inside_no_end o h e = cc

no_frames : (f : OpenForm) (frames : List OpenForm) → f ∷ frames ≡ [] → ⊥
no_frames f frames e = cc

-- what computing says of a file's symbols
abbrev pub SaysParsed : List ℕ → List ℕ → List Symbol → Parsed → Type 0
SaysParsed name text symbols (Ok defs) =
    (forms : Forms) × IsFileBody forms symbols × (second_line [] (all_found name (file_last_line text) forms) ≡ None) × (defs_of (all_found name (file_last_line text) forms) ≡ defs)
SaysParsed name text symbols (Err why) = IsStopped name text symbols why.0 why.1

says_checked : (name text : List ℕ) (symbols : List Symbol) (forms : Forms) (r : Option ℕ) → IsFileBody forms symbols → second_line [] (all_found name (file_last_line text) forms) ≡ r
    → SaysParsed name text symbols (checked r (all_found name (file_last_line text) forms))
says_checked name text symbols forms None body e = (forms, body, e, refl)
says_checked name text symbols forms (Some line) body e = inr (inr (refl, record { forms = forms; body = body; second = e }))

says_finished : (name text : List ℕ) (symbols : List Symbol) (at : ParserState) (frames : List OpenForm) → parser_run parser_beginning symbols ≡ Ok at → at.phase ≡ phase.Outside → at.builder.frames ≡ frames
    → SaysParsed name text symbols (finished_in frames name (parser_end text) at.builder)
says_finished name text symbols at (f ∷ frames) e outside none = inr (inl (refl, refl, record { at = at; leads = e; still = inr (λ empty. no_frames f frames (sym none ∙ empty)) }))
says_finished name text symbols at [] e outside none =
    let stands = file_stands symbols at e outside none in
    subst (λ n. SaysParsed name text symbols (checked (second_line [] (with_own name (parser_end text) n)) (with_own name (parser_end text) n))) (sym stands.2)
    (says_checked name text symbols stands.0 (second_line [] (all_found name (file_last_line text) stands.0)) stands.1 refl)

says_ended : (name text : List ℕ) (symbols : List Symbol) (at : ParserState) (m : Phase) → parser_run parser_beginning symbols ≡ Ok at → at.phase ≡ m → SaysParsed name text symbols (ended_in m name (parser_end text) at.builder)
says_ended name text symbols at phase.Outside e same = says_finished name text symbols at at.builder.frames e same refl
says_ended name text symbols at (phase.Inside o h) e same = inr (inl (refl, refl, record { at = at; leads = e; still = inl (λ outside. inside_no_end o h (sym same ∙ outside)) }))

says_run : (name text : List ℕ) (symbols : List Symbol) (r : Stepped) → parser_run parser_beginning symbols ≡ r → SaysParsed name text symbols (parser_ended name (parser_end text) r)
says_run name text symbols (Ok at) e = says_ended name text symbols at at.phase e refl
says_run name text symbols (Err why) e =
    let found = refused_at parser_beginning symbols why.0 why.1 e in
    inl (record { before = found.0; symbol = found.1; following = found.2; split = found.4; at = found.3; leads = found.5; refused = found.6 })

pub says_parsed : (name text : List ℕ) (symbols : List Symbol) → SaysParsed name text symbols (parsed name (parser_end text) symbols)
says_parsed name text symbols = says_run name text symbols (parser_run parser_beginning symbols) refl

-- a file that is refused is refused by computing
open_ended : (name text : List ℕ) (at : ParserState) (m : Phase) (frames : List OpenForm) → at.phase ≡ m → at.builder.frames ≡ frames → IsFileOpen at → parser_ended name (parser_end text) (Ok at) ≡ Err (refused.UnclosedBlock, line_of text (length text))
open_ended name text at (phase.Inside o h) frames m f still = rw m refl
open_ended name text at phase.Outside (f ∷ frames) m e still = rw (m, e) refl
open_ended name text at phase.Outside [] m e (inl not) = absurd (not m)
open_ended name text at phase.Outside [] m e (inr not) = absurd (not e)

pub stopped_parsed : (name text : List ℕ) (symbols : List Symbol) (why : ParseRefused) (line : ℕ) → IsStopped name text symbols why line → parsed name (parser_end text) symbols ≡ Err (why, line)
stopped_parsed name text symbols why line (inl r) =
    ap (λ xs. parsed name (parser_end text) xs) r.split ∙ ap (parser_ended name (parser_end text)) (run_more parser_beginning r.at r.before (r.symbol ∷ r.following) r.leads ∙ ap (λ (x : Stepped). step_and_then x (λ next. parser_run next r.following)) r.refused)
stopped_parsed name text symbols why line (inr (inl (is, at_line, u))) =
    ap (parser_ended name (parser_end text)) u.leads ∙ open_ended name text u.at u.at.phase u.at.builder.frames refl refl u.still ∙ ap (λ (w : ParseRefused). as_refused (w, line_of text (length text))) (sym is) ∙ ap (λ (l : ℕ). as_refused (why, l)) (sym at_line)
stopped_parsed name text symbols why line (inr (inr (is, t))) =
    parsed_of name text t.forms symbols t.body ∙ ap (λ r. checked r (all_found name (file_last_line text) t.forms)) t.second ∙ ap (λ (w : ParseRefused). as_refused (w, line)) (sym is)

-- what was returned, from the symbols of a text with these tokens
pub ok_answers : (name text : List ℕ) (list : List Token) (r : Result File FileRefused) → AreTokens text list → ParseTokensAnswers r (parsed name (parser_end text) (symbols_of text list)) → ParseFileAnswers name text r
ok_answers name text list (Ok file) are h =
    let says = subst (SaysParsed name text (symbols_of text list)) h (says_parsed name text (symbols_of text list)) in
    record { tokens = list; are_tokens = are; forms = says.0; body = says.1; single = says.2; all = says.3 }
ok_answers name text list (Err (file_refused.Parse why line)) are h =
    (list, are, subst (SaysParsed name text (symbols_of text list)) h (says_parsed name text (symbols_of text list)))
ok_answers name text list (Err (file_refused.Token why line)) are h = absurd h
ok_answers name text list (Err file_refused.Memory) are h = tt

-- no other tokens, and no refusal of tokens
abbrev pub AreAll : List ℕ → List Token → Type 0
AreAll text list = ((other : List Token) → AreTokens text other → token_answers.IsOrOutOfMemory (Ok list) (Ok other)) × ((why : TokenRefused) → tokens.IsTokenRefused text why → token_answers.IsOrOutOfMemory (Ok list) (Err why))

abbrev tokens_as : List Token → Result (List Token) TokenRefused
tokens_as list = Ok list

same_tokens : {a b : List Token} → tokens_as a ≡ Ok b → a ≡ b
same_tokens e = cc

abbrev refused_as : TokenRefused → Result (List Token) TokenRefused
refused_as why = Err why

no_tokens : {why : TokenRefused} {list : List Token} → refused_as why ≡ Ok list → ⊥
no_tokens e = cc

abbrev as_parsed : List Def → Parsed
as_parsed defs = Ok defs

no_defs : {why : ActionRefusal} {defs : List Def} → as_parsed defs ≡ Err why → ⊥
no_defs e = cc

same_refusal : {a b : ActionRefusal} → as_refused a ≡ Err b → a ≡ b
same_refusal e = cc

same_defs : {a b : List Def} → as_parsed a ≡ Ok b → a ≡ b
same_defs e = cc

-- the definitions, or a refusal, as of a file
abbrev defs_given : List Def → Result (List Def) FileRefused
defs_given defs = Ok defs

abbrev as_file_refused : ActionRefusal → Result (List Def) FileRefused
as_file_refused why = Err (file_refused.Parse why.0 why.1)

gives_file : (r : Result File FileRefused) (p : Parsed) (defs : List Def) → ParseTokensAnswers r p → p ≡ Ok defs → GivesFile r (Ok defs)
gives_file (Ok file) p defs h e = ap (λ (ds : List Def). defs_given ds) (same_defs (sym e ∙ h))
gives_file (Err (file_refused.Parse why line)) p defs h e = absurd (no_defs (sym e ∙ h))
gives_file (Err (file_refused.Token why line)) p defs h e = absurd h
gives_file (Err file_refused.Memory) p defs h e = tt

gives_stop : (r : Result File FileRefused) (p : Parsed) (why : ParseRefused) (line : ℕ) → ParseTokensAnswers r p → p ≡ Err (why, line) → GivesFile r (Err (file_refused.Parse why line))
gives_stop (Ok file) p why line h e = absurd (no_defs (sym h ∙ e))
gives_stop (Err (file_refused.Parse other at)) p why line h e = ap (λ (w : ActionRefusal). as_file_refused w) (same_refusal (sym e ∙ h))
gives_stop (Err (file_refused.Token other at)) p why line h e = absurd h
gives_stop (Err file_refused.Memory) p why line h e = tt

file_parsed : (name text : List ℕ) (list : List Token) (defs : List Def) → AreAll text list → IsFile name text defs → parsed name (parser_end text) (symbols_of text list) ≡ Ok defs
file_parsed name text list defs all file =
    let same : file.tokens ≡ list = same_tokens (all.0 file.tokens file.are_tokens) in
    ap (λ ts. parsed name (parser_end text) (symbols_of text ts)) (sym same)
    ∙ parsed_of name text file.forms (symbols_of text file.tokens) file.body
    ∙ ap (λ r. checked r (all_found name (file_last_line text) file.forms)) file.single
    ∙ ap (λ (ds : List Def). as_parsed ds) file.all

pub ok_accepted : (name text : List ℕ) (list : List Token) (r : Result File FileRefused) → AreAll text list → ParseTokensAnswers r (parsed name (parser_end text) (symbols_of text list))
    → (defs : List Def) → IsFile name text defs → GivesFile r (Ok defs)
ok_accepted name text list r all h defs file = gives_file r (parsed name (parser_end text) (symbols_of text list)) defs h (file_parsed name text list defs all file)

pub ok_refused : (name text : List ℕ) (list : List Token) (r : Result File FileRefused) → AreAll text list → ParseTokensAnswers r (parsed name (parser_end text) (symbols_of text list))
    → (why : FileRefused) → IsParseRefused name text why → GivesFile r (Err why)
ok_refused name text list r all h (file_refused.Token why line) is = absurd (no_tokens (all.1 why is.1))
ok_refused name text list r all h (file_refused.Parse why line) is =
    let same : is.0 ≡ list = same_tokens (all.0 is.0 is.1) in
    gives_stop r (parsed name (parser_end text) (symbols_of text list)) why line h
    (stopped_parsed name text (symbols_of text list) why line (subst (λ ts. IsStopped name text (symbols_of text ts) why line) same is.2))
ok_refused name text list r all h file_refused.Memory is = absurd is

-- what was returned, where the text has no tokens
pub err_answers : (name text : List ℕ) (why : TokenRefused) → token_answers.TokensAnswers text (Err why) → ParseFileAnswers name text (Err (token_refusal text why))
err_answers name text (token_refused.UnclosedAction offset) h = (offset, h, refl, refl)
err_answers name text (token_refused.BadCharacter offset) h = (offset, h, refl, refl)
err_answers name text (token_refused.UnclosedString offset) h = (offset, h, refl, refl)
err_answers name text (token_refused.UnclosedComment offset) h = (offset, h, refl, refl)
err_answers name text (token_refused.BadNumber offset) h = (offset, h, refl, refl)
err_answers name text (token_refused.BadDelimiter offset) h = (offset, h, refl, refl)
err_answers name text (token_refused.BadEscape offset) h = (offset, h, refl, refl)
err_answers name text token_refused.Memory h = tt

-- no tokens
abbrev pub HasNone : List ℕ → TokenRefused → Type 0
HasNone text why = ((list : List Token) → AreTokens text list → token_answers.IsOrOutOfMemory {X = List Token} (Err why) (Ok list)) × ((other : TokenRefused) → tokens.IsTokenRefused text other → token_answers.IsOrOutOfMemory {X = List Token} (Err why) (Err other))

tokens_refused : {list : List Token} {why : TokenRefused} → tokens_as list ≡ Err why → ⊥
tokens_refused e = cc

same_why : {a b : TokenRefused} → refused_as a ≡ Err b → a ≡ b
same_why e = cc

some_offset : {a b : ℕ} → Some a ≡ Some b → a ≡ b
some_offset e = cc

pub err_accepted : (name text : List ℕ) (why : TokenRefused) → HasNone text why → (defs : List Def) → IsFile name text defs → GivesFile (Err (token_refusal text why)) (Ok defs)
err_accepted name text (token_refused.UnclosedAction offset) none defs file = absurd (tokens_refused (none.0 file.tokens file.are_tokens))
err_accepted name text (token_refused.BadCharacter offset) none defs file = absurd (tokens_refused (none.0 file.tokens file.are_tokens))
err_accepted name text (token_refused.UnclosedString offset) none defs file = absurd (tokens_refused (none.0 file.tokens file.are_tokens))
err_accepted name text (token_refused.UnclosedComment offset) none defs file = absurd (tokens_refused (none.0 file.tokens file.are_tokens))
err_accepted name text (token_refused.BadNumber offset) none defs file = absurd (tokens_refused (none.0 file.tokens file.are_tokens))
err_accepted name text (token_refused.BadDelimiter offset) none defs file = absurd (tokens_refused (none.0 file.tokens file.are_tokens))
err_accepted name text (token_refused.BadEscape offset) none defs file = absurd (tokens_refused (none.0 file.tokens file.are_tokens))
err_accepted name text token_refused.Memory none defs file = tt

-- a refusal of tokens, as what is wanted of a file
abbrev token_wanted : TokenRefused → ℕ → Result (List Def) FileRefused
token_wanted why line = Err (file_refused.Token why line)

wants : (text : List ℕ) (why other : TokenRefused) (offset at line : ℕ) → other ≡ why → refusal_offset why ≡ Some offset → refusal_offset other ≡ Some at → line ≡ line_of text at → token_wanted other line ≡ Err (file_refused.Token why (line_of text offset))
wants text why other offset at line same p a l =
    let offsets : at ≡ offset = some_offset (sym a ∙ ap refusal_offset same ∙ p) in
    ap (λ (w : TokenRefused). token_wanted w line) same ∙ ap (λ (n : ℕ). token_wanted why n) (l ∙ ap (line_of text) offsets)

pub err_refused : (name text : List ℕ) (why : TokenRefused) → HasNone text why → (is : FileRefused) → IsParseRefused name text is → GivesFile (Err (token_refusal text why)) (Err is)
err_refused name text (token_refused.UnclosedAction offset) none (file_refused.Token other line) h = wants text (token_refused.UnclosedAction offset) other offset h.0 line (same_why (none.1 other h.1)) refl h.2 h.3
err_refused name text (token_refused.UnclosedAction offset) none (file_refused.Parse other line) h = absurd (tokens_refused (none.0 h.0 h.1))
err_refused name text (token_refused.UnclosedAction offset) none file_refused.Memory h = absurd h
err_refused name text (token_refused.BadCharacter offset) none (file_refused.Token other line) h = wants text (token_refused.BadCharacter offset) other offset h.0 line (same_why (none.1 other h.1)) refl h.2 h.3
err_refused name text (token_refused.BadCharacter offset) none (file_refused.Parse other line) h = absurd (tokens_refused (none.0 h.0 h.1))
err_refused name text (token_refused.BadCharacter offset) none file_refused.Memory h = absurd h
err_refused name text (token_refused.UnclosedString offset) none (file_refused.Token other line) h = wants text (token_refused.UnclosedString offset) other offset h.0 line (same_why (none.1 other h.1)) refl h.2 h.3
err_refused name text (token_refused.UnclosedString offset) none (file_refused.Parse other line) h = absurd (tokens_refused (none.0 h.0 h.1))
err_refused name text (token_refused.UnclosedString offset) none file_refused.Memory h = absurd h
err_refused name text (token_refused.UnclosedComment offset) none (file_refused.Token other line) h = wants text (token_refused.UnclosedComment offset) other offset h.0 line (same_why (none.1 other h.1)) refl h.2 h.3
err_refused name text (token_refused.UnclosedComment offset) none (file_refused.Parse other line) h = absurd (tokens_refused (none.0 h.0 h.1))
err_refused name text (token_refused.UnclosedComment offset) none file_refused.Memory h = absurd h
err_refused name text (token_refused.BadNumber offset) none (file_refused.Token other line) h = wants text (token_refused.BadNumber offset) other offset h.0 line (same_why (none.1 other h.1)) refl h.2 h.3
err_refused name text (token_refused.BadNumber offset) none (file_refused.Parse other line) h = absurd (tokens_refused (none.0 h.0 h.1))
err_refused name text (token_refused.BadNumber offset) none file_refused.Memory h = absurd h
err_refused name text (token_refused.BadDelimiter offset) none (file_refused.Token other line) h = wants text (token_refused.BadDelimiter offset) other offset h.0 line (same_why (none.1 other h.1)) refl h.2 h.3
err_refused name text (token_refused.BadDelimiter offset) none (file_refused.Parse other line) h = absurd (tokens_refused (none.0 h.0 h.1))
err_refused name text (token_refused.BadDelimiter offset) none file_refused.Memory h = absurd h
err_refused name text (token_refused.BadEscape offset) none (file_refused.Token other line) h = wants text (token_refused.BadEscape offset) other offset h.0 line (same_why (none.1 other h.1)) refl h.2 h.3
err_refused name text (token_refused.BadEscape offset) none (file_refused.Parse other line) h = absurd (tokens_refused (none.0 h.0 h.1))
err_refused name text (token_refused.BadEscape offset) none file_refused.Memory h = absurd h
err_refused name text token_refused.Memory none is h = tt
