-- The symbols of a file that are read to the end are its forms.
use Rattle.std.proofs.Common.{◌≡◌, ℕ, Bool, true, false, ◌||◌, List, [], ◌∷◌, Option, Some, None, Result, Ok, Err, ◌⊎◌, inl, inr, refl, sym, ap, ◌∙◌, subst, true≢false}
use Rattle.std.specs.Prelude.{⊤}
use Rattle.tpl_token.proofs.Marks.{either}
use Rattle.tpl_parse.proofs.ActionsSay.{Rests, StartRest, ElseRest, Advanced, is_else, advanced, Ended, ended_rest, following_piped}
use Rattle.tpl_parse.proofs.ElseWords.{gives_else, is_special, is_start, no_else, start_else}
use Rattle.tpl_parse.proofs.Fitting.{FitsIn, fits_with_else, fits_done}
use Rattle.tpl_parse.proofs.FormsLead.{with_forms, none_more}
use Rattle.tpl_parse.proofs.FormsSay.{Fits, Left, LeftOf, ActionLeft, begun_left, text_left, else_left, else_if_left, if_named}
use Rattle.tpl_parse.proofs.ActionsLead.{names_else_if}
use Rattle.tpl_parse.specs.Forms.{Forms, no_forms}
use Rattle.tpl_parse.specs.Grammar.{StandsOn, IsIf, AreForms, IsFileBody}
use Rattle.tpl_build.specs.Building.{empty_builder, with_text, with_else, else_from, done}
use Rattle.tpl_parse.specs.Steps.{Stepped, state, opening, close_end, parser_run, step_and_then, after_symbol, form_entered, onward, inside, outside, parser_beginning, most_open}
use Rattle.tpl_parse.specs.Actions.{ActionRefusal, ActionAdvance, start_kind, action_advance, action_kind_of, else_word, has_first, is_if}
use Rattle.tpl_build.specs.declared.frame.Control.{Control}
use Rattle.tpl_build.specs.declared.frame.Control.TheVariants as control_word
use Rattle.tpl_build.specs.declared.frame.OpenForm.{OpenForm}
use Rattle.tpl_build.specs.declared.frame.OpenForm.TheVariants as frame
use Rattle.tpl_build.specs.declared.frame.OpenControl.{OpenControl}
use Rattle.tpl_parse.specs.declared.action.Before.TheVariants as before
use Rattle.tpl_build.specs.declared.action.ActionKind.{ActionKind}
use Rattle.tpl_build.specs.declared.action.ActionKind.TheVariants as action_kind
use Rattle.tpl_parse.specs.declared.action.ActionState.{ActionState}
use Rattle.tpl_parse.specs.declared.action.ActionState.TheVariants as action_state
use Rattle.tpl_parse.specs.Phases.{Phase}
use Rattle.tpl_parse.specs.Phases as phase
use Rattle.tpl_build.specs.declared.action.Opening.{Opening}
use Rattle.tpl_parse.specs.State.{ParserState}
use Rattle.tpl_build.specs.declared.builder.Builder.{Builder}
use Rattle.tpl_pipe.specs.Grammar.{SymbolStands}
use Rattle.tpl_pipe.specs.Runs.{is_close}
use Rattle.tpl_symbol.specs.declared.symbol.Symbol.{Symbol}
use Rattle.tpl_symbol.specs.declared.symbol.SymbolKind.{SymbolKind}
use Rattle.tpl_symbol.specs.declared.symbol.SymbolKind.TheVariants as kind
use Rattle.tpl_symbol.specs.declared.word.Word.TheVariants as word

-- after `{{`, the word `else` and what follows
abbrev pub ElseLeft : Builder → Opening → List Symbol → Builder → Type 0
ElseLeft n o symbols final =
    (following : List Symbol) × (line : ℕ) × SymbolStands (kind.Word word.Else) symbols following × (gives_else (else_word n.frames line) ≡ true) × ActionLeft (with_else n) o (ElseRest (with_else n)) following final

-- what is left in an action
abbrev pub InLeft : Builder → Opening → ActionState → List Symbol → Builder → Type 0
InLeft n o action_state.Start symbols final = ActionLeft n o (StartRest n) symbols final ⊎ ElseLeft n o symbols final
InLeft n o h symbols final = ActionLeft n o (Rests n h) symbols final

in_action : (n : Builder) (o : Opening) (h : ActionState) (symbols : List Symbol) (final : Builder) → ActionLeft n o (Rests n h) symbols final → InLeft n o h symbols final
in_action n o action_state.Start symbols final a = inl a
in_action n o (action_state.AfterWord _) symbols final a = a
in_action n o (action_state.Named _ _ _) symbols final a = a
in_action n o (action_state.Second _) symbols final a = a
in_action n o (action_state.SecondNamed _ _ _) symbols final a = a
in_action n o (action_state.Pipe _ _) symbols final a = a
in_action n o action_state.Else symbols final a = a
in_action n o action_state.End symbols final a = a
in_action n o action_state.Break symbols final a = a
in_action n o action_state.Continue symbols final a = a
in_action n o action_state.Template symbols final a = a
in_action n o (action_state.TemplateNamed _) symbols final a = a
in_action n o (action_state.Define _) symbols final a = a
in_action n o (action_state.DefineNamed _ _) symbols final a = a
in_action n o (action_state.Block _) symbols final a = a

out_action : (n : Builder) (o : Opening) (h : ActionState) (symbols : List Symbol) (final : Builder) → is_start h ≡ false → InLeft n o h symbols final → ActionLeft n o (Rests n h) symbols final
out_action n o action_state.Start symbols final e a = absurd (true≢false e)
out_action n o (action_state.AfterWord _) symbols final e a = a
out_action n o (action_state.Named _ _ _) symbols final e a = a
out_action n o (action_state.Second _) symbols final e a = a
out_action n o (action_state.SecondNamed _ _ _) symbols final e a = a
out_action n o (action_state.Pipe _ _) symbols final e a = a
out_action n o action_state.Else symbols final e a = a
out_action n o action_state.End symbols final e a = a
out_action n o action_state.Break symbols final e a = a
out_action n o action_state.Continue symbols final e a = a
out_action n o action_state.Template symbols final e a = a
out_action n o (action_state.TemplateNamed _) symbols final e a = a
out_action n o (action_state.Define _) symbols final e a = a
out_action n o (action_state.DefineNamed _ _) symbols final e a = a
out_action n o (action_state.Block _) symbols final e a = a

-- the `else` part of the control
if_is : (c : Control) → is_if c ≡ true → IsIf c
if_is (control_word.If x) e = tt
if_is (control_word.With x) e = absurd (true≢false (sym e))
if_is (control_word.Range i x) e = absurd (true≢false (sym e))

else_first : (frames : List OpenForm) (c : OpenControl) (n : Builder) (o : Opening) (line : ℕ) (all inner following mid rest : List Symbol) (d : ActionKind) (end : ℕ) (final : Builder)
    → n.frames ≡ frame.Control c ∷ frames → Fits (frame.Control c ∷ frames) n.variables → c.first ≡ None
    → StandsOn (kind.Open o.start o.before) o.line all inner → SymbolStands (kind.Word word.Else) inner following → SymbolStands (kind.Close end) mid rest
    → ElseRest (else_from (frame.Control c ∷ frames) n) d following mid → LeftOf (done d o end (else_from (frame.Control c ∷ frames) n)) rest final → Left (frame.Control c ∷ frames) false n all final
else_first frames c n o line all inner following mid rest d end final e fits first opens w c' (inl (is, same)) left =
    let one : OpenControl = record { control = c.control; pipe = c.pipe; line = c.line; before = c.before; first = None; chained = c.chained; around = c.around } in
    let whole : c ≡ one = ap (λ f. record { control = c.control; pipe = c.pipe; line = c.line; before = c.before; first = f; chained = c.chained; around = c.around }) first in
    subst (λ c. Left (frame.Control c ∷ frames) false n all final) (sym whole)
    (else_left frames c.control c.pipe c.line c.before c.chained c.around n o.start o.before o.line all inner following rest final fits.0 opens w (end, subst (λ xs. SymbolStands (kind.Close end) xs rest) (sym same) c')
    (subst (λ d. LeftOf (done d o end (else_from (frame.Control c ∷ frames) n)) rest final) is left))
else_first frames c n o line all inner following mid rest d end final e fits first opens w c' (inr (after_if, ifs, room, word_if, h)) left =
    let one : OpenControl = record { control = c.control; pipe = c.pipe; line = c.line; before = c.before; first = None; chained = c.chained; around = c.around } in
    let whole : c ≡ one = ap (λ f. record { control = c.control; pipe = c.pipe; line = c.line; before = c.before; first = f; chained = c.chained; around = c.around }) first in
    let n' = else_from (frame.Control c ∷ frames) n in
    let p = following_piped n' before.ElseIf d after_if mid h in
    let x = if_named n' before.ElseIf p.0 d after_if p.1 p.2 p.3 p.5 refl in
    subst (λ c. Left (frame.Control c ∷ frames) false n all final) (sym whole)
    (else_if_left frames c.control c.pipe c.line c.before c.chained c.around n (control_word.If x.0) p.2 o.start o.before o.line all inner following mid rest final fits.0 room (if_is c.control ifs) tt opens w
    (after_if, p.1, word_if, x.1, p.4) (end, c')
    (subst (λ q. LeftOf (done (action_kind.Piped q p.2) o end n') rest final) (names_else_if x.0) (subst (λ d. LeftOf (done d o end n') rest final) x.2 left)))

-- the frame in which the word `else` may stand
first_is : {X : Type 0} (first : Option X) (line : ℕ) → gives_else (has_first first line) ≡ true → first ≡ None
first_is None line e = refl
first_is (Some x) line e = absurd (true≢false (sym e))

else_begins_left : (frames : List OpenForm) (n : Builder) (o : Opening) (line : ℕ) (all inner following mid rest : List Symbol) (d : ActionKind) (end : ℕ) (final : Builder)
    → n.frames ≡ frames → FitsIn n → gives_else (else_word frames line) ≡ true
    → StandsOn (kind.Open o.start o.before) o.line all inner → SymbolStands (kind.Word word.Else) inner following → SymbolStands (kind.Close end) mid rest
    → ElseRest (else_from frames n) d following mid → LeftOf (done d o end (else_from frames n)) rest final → LeftOf n all final
else_begins_left [] n o line all inner following mid rest d end final e fits g opens w c h left = absurd (true≢false (sym g))
else_begins_left (frame.Definition f ∷ frames) n o line all inner following mid rest d end final e fits g opens w c h left = absurd (true≢false (sym g))
else_begins_left (frame.Control f ∷ frames) n o line all inner following mid rest d end final e fits g opens w c h left =
    subst (λ fs. Left fs false n all final) (sym e)
    (else_first frames f n o line all inner following mid rest d end final e (subst (λ fs. Fits fs n.variables) e fits) (first_is f.first line g) opens w c h left)

-- an action begins
opens_left : (n : Builder) (o : Opening) (all symbols : List Symbol) (final : Builder) → FitsIn n → StandsOn (kind.Open o.start o.before) o.line all symbols → InLeft n o action_state.Start symbols final → LeftOf n all final
opens_left n o all symbols final fits opens (inl (d, mid, rest, end, (b, begun), c, left)) = begun_left n o b d all symbols mid rest end final opens begun c left
opens_left n o all symbols final fits opens (inr (following, line, w, g, (d, mid, rest, end, h, c, left))) =
    else_begins_left n.frames n o line all symbols following mid rest d end final refl fits g opens w c h left

-- what is left of a file
abbrev pub PhaseLeft : Builder → Phase → List Symbol → Builder → Type 0
PhaseLeft n phase.Outside symbols final = LeftOf n symbols final
PhaseLeft n (phase.Inside o h) symbols final = InLeft n o h symbols final

abbrev pub IsDone : ParserState → Type 0
IsDone final = (final.phase ≡ phase.Outside) × (final.builder.frames ≡ [])

abbrev pub Said : Builder → Phase → List Symbol → Stepped → Type 0
Said n m symbols (Ok final) = IsDone final → PhaseLeft n m symbols final.builder
Said n m symbols (Err why) = ⊤

abbrev pub Later : List Symbol → Type 0
Later symbols = (n : Builder) (m : Phase) → FitsIn n → Said n m symbols (parser_run (state n m) symbols)

carry : (n n' : Builder) (m m' : Phase) (symbols symbols' : List Symbol) → ((final : Builder) → PhaseLeft n' m' symbols' final → PhaseLeft n m symbols final) → (r : Stepped) → Said n' m' symbols' r → Said n m symbols r
carry n n' m m' symbols symbols' f (Ok final) h = λ e. f final.builder (h e)
carry n n' m m' symbols symbols' f (Err why) h = tt

inside_no_end : (o : Opening) (h : ActionState) → phase.Inside o h ≡ phase.Outside → ⊥
inside_no_end o h e = cc

says_none : (n : Builder) (m : Phase) → Said n m [] (Ok (state n m))
says_none n phase.Outside = λ e. subst (λ fs. Left fs false n [] n) (sym e.1) (no_forms, [], refl, (refl, none_more n))
says_none n (phase.Inside o h) = λ e. absurd (inside_no_end o h e.0)

says_outside : (n : Builder) (k : SymbolKind) (s : Symbol) (symbols : List Symbol) → Later symbols → FitsIn n → s.kind ≡ k
    → Said n phase.Outside (s ∷ symbols) (step_and_then (outside k s.line n) (λ next. parser_run next symbols))
says_outside n (kind.Text bytes seams) s symbols later fits k =
    let n' = with_text bytes s.line seams n in
    carry n n' phase.Outside phase.Outside (s ∷ symbols) symbols (λ final h. text_left n bytes seams s symbols final k h) (parser_run (state n' phase.Outside) symbols) (later n' phase.Outside fits)
says_outside n (kind.Open start last) s symbols later fits k =
    let o = opening s.line start last in
    carry n n phase.Outside (phase.Inside o action_state.Start) (s ∷ symbols) symbols (λ final h. opens_left n o (s ∷ symbols) symbols final fits (k, refl, refl) h) (parser_run (state n (phase.Inside o action_state.Start)) symbols) (later n (phase.Inside o action_state.Start) fits)
says_outside n (kind.Close _) s symbols later fits k = tt
says_outside n (kind.Word _) s symbols later fits k = tt
says_outside n (kind.Function _) s symbols later fits k = tt
says_outside n kind.Unknown s symbols later fits k = tt
says_outside n (kind.Field _) s symbols later fits k = tt
says_outside n kind.Dot s symbols later fits k = tt
says_outside n (kind.Variable _) s symbols later fits k = tt
says_outside n (kind.Number _) s symbols later fits k = tt
says_outside n (kind.Str _) s symbols later fits k = tt
says_outside n kind.Declare s symbols later fits k = tt
says_outside n kind.Assign s symbols later fits k = tt
says_outside n kind.Bar s symbols later fits k = tt
says_outside n kind.Comma s symbols later fits k = tt
says_outside n kind.Left s symbols later fits k = tt
says_outside n kind.Right s symbols later fits k = tt

-- the end of an action
says_after : (n : Builder) (o : Opening) (h : ActionState) (end : ℕ) (r : Result ActionKind ActionRefusal) (s : Symbol) (symbols : List Symbol) → Later symbols → FitsIn n → s.kind ≡ kind.Close end → action_kind_of h n s.line ≡ r
    → Ended n h (s ∷ symbols) r → Said n (phase.Inside o h) (s ∷ symbols) (step_and_then (after_symbol r o end n) (λ next. parser_run next symbols))
says_after n o h end (Err why) s symbols later fits k e is = tt
says_after n o h end (Ok d) s symbols later fits k e is =
    let n' = done d o end n in
    carry n n' (phase.Inside o h) phase.Outside (s ∷ symbols) symbols (λ final left. in_action n o h (s ∷ symbols) final (d, s ∷ symbols, symbols, end, is, (k, refl), left)) (parser_run (state n' phase.Outside) symbols)
    (later n' phase.Outside (fits_done d o end n fits))

-- another symbol of it
not_start : (n : Builder) (h next : ActionState) (s : Symbol) → action_advance h n s ≡ Ok next → is_special next ≡ true → is_start h ≡ false → ⊥
not_start n h next s e is other = true≢false (sym (ap gives_else e ∙ is) ∙ no_else n h s other)

same_entered : (next : ActionState) (n : Builder) → is_else next ≡ false → form_entered next n ≡ n
same_entered action_state.Else n e = absurd (true≢false e)
same_entered action_state.Start n e = refl
same_entered (action_state.AfterWord _) n e = refl
same_entered (action_state.Named _ _ _) n e = refl
same_entered (action_state.Second _) n e = refl
same_entered (action_state.SecondNamed _ _ _) n e = refl
same_entered (action_state.Pipe _ _) n e = refl
same_entered action_state.End n e = refl
same_entered action_state.Break n e = refl
same_entered action_state.Continue n e = refl
same_entered action_state.Template n e = refl
same_entered (action_state.TemplateNamed _) n e = refl
same_entered (action_state.Define _) n e = refl
same_entered (action_state.DefineNamed _ _) n e = refl
same_entered (action_state.Block _) n e = refl

-- after `else`
says_else : (n : Builder) (o : Opening) (h : ActionState) (s : Symbol) (symbols : List Symbol) → Later symbols → FitsIn n → action_advance h n s ≡ Ok action_state.Else
    → Said n (phase.Inside o h) (s ∷ symbols) (parser_run (state (with_else n) (phase.Inside o action_state.Else)) symbols)
says_else n o action_state.Start s symbols later fits e =
    let begins = start_else n s.kind s refl (ap gives_else e) in
    carry n (with_else n) (phase.Inside o action_state.Start) (phase.Inside o action_state.Else) (s ∷ symbols) symbols (λ final h. inr (symbols, s.line, (begins.0, refl), begins.1, h)) (parser_run (state (with_else n) (phase.Inside o action_state.Else)) symbols)
    (later (with_else n) (phase.Inside o action_state.Else) (fits_with_else n fits))
says_else n o (action_state.AfterWord b) s symbols later fits e = absurd (not_start n (action_state.AfterWord b) action_state.Else s e refl refl)
says_else n o (action_state.Named b x line) s symbols later fits e = absurd (not_start n (action_state.Named b x line) action_state.Else s e refl refl)
says_else n o (action_state.Second i) s symbols later fits e = absurd (not_start n (action_state.Second i) action_state.Else s e refl refl)
says_else n o (action_state.SecondNamed i x line) s symbols later fits e = absurd (not_start n (action_state.SecondNamed i x line) action_state.Else s e refl refl)
says_else n o (action_state.Pipe p at) s symbols later fits e = absurd (not_start n (action_state.Pipe p at) action_state.Else s e refl refl)
says_else n o action_state.Else s symbols later fits e = absurd (not_start n action_state.Else action_state.Else s e refl refl)
says_else n o action_state.End s symbols later fits e = absurd (not_start n action_state.End action_state.Else s e refl refl)
says_else n o action_state.Break s symbols later fits e = absurd (not_start n action_state.Break action_state.Else s e refl refl)
says_else n o action_state.Continue s symbols later fits e = absurd (not_start n action_state.Continue action_state.Else s e refl refl)
says_else n o action_state.Template s symbols later fits e = absurd (not_start n action_state.Template action_state.Else s e refl refl)
says_else n o (action_state.TemplateNamed name) s symbols later fits e = absurd (not_start n (action_state.TemplateNamed name) action_state.Else s e refl refl)
says_else n o (action_state.Define line) s symbols later fits e = absurd (not_start n (action_state.Define line) action_state.Else s e refl refl)
says_else n o (action_state.DefineNamed name line) s symbols later fits e = absurd (not_start n (action_state.DefineNamed name line) action_state.Else s e refl refl)
says_else n o (action_state.Block line) s symbols later fits e = absurd (not_start n (action_state.Block line) action_state.Else s e refl refl)

-- no advance leads back to the beginning of an action
says_plain : (n : Builder) (o : Opening) (h next : ActionState) (s : Symbol) (symbols : List Symbol) → Later symbols → FitsIn n → is_else next ≡ false → is_start next ≡ false
    → ((d : ActionKind) (mid : List Symbol) → Rests n next d symbols mid → Rests n h d (s ∷ symbols) mid) → Said n (phase.Inside o h) (s ∷ symbols) (parser_run (state n (phase.Inside o next)) symbols)
says_plain n o h next s symbols later fits e other f =
    carry n n (phase.Inside o h) (phase.Inside o next) (s ∷ symbols) symbols
    (λ final left. let a = out_action n o next symbols final other left in in_action n o h (s ∷ symbols) final (a.0, a.1, a.2, a.3, f a.0 a.1 a.4, a.5, a.6))
    (parser_run (state n (phase.Inside o next)) symbols) (later n (phase.Inside o next) fits)

abbrev advanced_to : ActionState → ActionAdvance
advanced_to h = Ok h

abbrev refused_to : ActionRefusal → ActionAdvance
refused_to why = Err why

refused_advance : {why : ActionRefusal} {next : ActionState} → refused_to why ≡ Ok next → ⊥
refused_advance e = cc

-- the word `else` leads after it
first_leads : {X : Type 0} (first : Option X) (line : ℕ) (next : ActionState) → has_first first line ≡ Ok next → next ≡ action_state.Else
first_leads None line next e = cc
first_leads (Some x) line next e = absurd (refused_advance e)

else_leads : (frames : List OpenForm) (line : ℕ) (next : ActionState) → else_word frames line ≡ Ok next → next ≡ action_state.Else
else_leads [] line next e = absurd (refused_advance e)
else_leads (frame.Definition _ ∷ _) line next e = absurd (refused_advance e)
else_leads (frame.Control c ∷ _) line next e = first_leads c.first line next e

start_leads : (n : Builder) (next : ActionState) (s : Symbol) → action_advance action_state.Start n s ≡ Ok next → is_special next ≡ true → next ≡ action_state.Else
start_leads n next s e is =
    let begins = start_else n s.kind s refl (ap gives_else e ∙ is) in
    else_leads n.frames s.line next (sym (ap (λ k. start_kind k n s) begins.0) ∙ e)

neither : (a b : Bool) → (a || b) ≡ false → (a ≡ false) × (b ≡ false)
neither false b e = (refl, e)
neither true b e = absurd (true≢false e)

special_leads : (n : Builder) (h next : ActionState) (s : Symbol) → action_advance h n s ≡ Ok next → is_special next ≡ true → next ≡ action_state.Else
special_leads n action_state.Start next s e is = start_leads n next s e is
special_leads n (action_state.AfterWord b) next s e is = absurd (not_start n (action_state.AfterWord b) next s e is refl)
special_leads n (action_state.Named b x line) next s e is = absurd (not_start n (action_state.Named b x line) next s e is refl)
special_leads n (action_state.Second i) next s e is = absurd (not_start n (action_state.Second i) next s e is refl)
special_leads n (action_state.SecondNamed i x line) next s e is = absurd (not_start n (action_state.SecondNamed i x line) next s e is refl)
special_leads n (action_state.Pipe p at) next s e is = absurd (not_start n (action_state.Pipe p at) next s e is refl)
special_leads n action_state.Else next s e is = absurd (not_start n action_state.Else next s e is refl)
special_leads n action_state.End next s e is = absurd (not_start n action_state.End next s e is refl)
special_leads n action_state.Break next s e is = absurd (not_start n action_state.Break next s e is refl)
special_leads n action_state.Continue next s e is = absurd (not_start n action_state.Continue next s e is refl)
special_leads n action_state.Template next s e is = absurd (not_start n action_state.Template next s e is refl)
special_leads n (action_state.TemplateNamed name) next s e is = absurd (not_start n (action_state.TemplateNamed name) next s e is refl)
special_leads n (action_state.Define line) next s e is = absurd (not_start n (action_state.Define line) next s e is refl)
special_leads n (action_state.DefineNamed name line) next s e is = absurd (not_start n (action_state.DefineNamed name line) next s e is refl)
special_leads n (action_state.Block line) next s e is = absurd (not_start n (action_state.Block line) next s e is refl)

says_advance : (n : Builder) (o : Opening) (h : ActionState) (t : ActionAdvance) (s : Symbol) (symbols : List Symbol) → Later symbols → FitsIn n → action_advance h n s ≡ t → Advanced n s symbols t (Rests n h)
    → Said n (phase.Inside o h) (s ∷ symbols) (step_and_then (onward t o n) (λ next. parser_run next symbols))
says_advance n o h (Err why) s symbols later fits e f = tt
says_advance n o h (Ok next) s symbols later fits e f = either (is_special next)
    (λ is. let same = special_leads n h next s e is in
    subst (λ k. Said n (phase.Inside o h) (s ∷ symbols) (parser_run (state (form_entered k n) (phase.Inside o k)) symbols)) (sym same) (says_else n o h s symbols later fits (e ∙ ap (λ k. advanced_to k) same)))
    (λ is. let none = neither (is_else next) (is_start next) is in
    subst (λ m. Said n (phase.Inside o h) (s ∷ symbols) (parser_run (state m (phase.Inside o next)) symbols)) (sym (same_entered next n none.0))
    (says_plain n o h next s symbols later fits none.0 none.1 (f none.0)))

says_inside : (n : Builder) (o : Opening) (h : ActionState) (k : SymbolKind) (s : Symbol) (symbols : List Symbol) → Later symbols → FitsIn n → s.kind ≡ k
    → Said n (phase.Inside o h) (s ∷ symbols) (step_and_then (inside (close_end k) o h s n) (λ next. parser_run next symbols))
says_inside n o h (kind.Close end) s symbols later fits k = says_after n o h end (action_kind_of h n s.line) s symbols later fits k refl (ended_rest n h s symbols s.line (ap is_close k))
says_inside n o h (kind.Text _ _) s symbols later fits k = says_advance n o h (action_advance h n s) s symbols later fits refl (advanced n h s symbols (ap is_close k))
says_inside n o h (kind.Open _ _) s symbols later fits k = says_advance n o h (action_advance h n s) s symbols later fits refl (advanced n h s symbols (ap is_close k))
says_inside n o h (kind.Word _) s symbols later fits k = says_advance n o h (action_advance h n s) s symbols later fits refl (advanced n h s symbols (ap is_close k))
says_inside n o h (kind.Function _) s symbols later fits k = says_advance n o h (action_advance h n s) s symbols later fits refl (advanced n h s symbols (ap is_close k))
says_inside n o h kind.Unknown s symbols later fits k = says_advance n o h (action_advance h n s) s symbols later fits refl (advanced n h s symbols (ap is_close k))
says_inside n o h (kind.Field _) s symbols later fits k = says_advance n o h (action_advance h n s) s symbols later fits refl (advanced n h s symbols (ap is_close k))
says_inside n o h kind.Dot s symbols later fits k = says_advance n o h (action_advance h n s) s symbols later fits refl (advanced n h s symbols (ap is_close k))
says_inside n o h (kind.Variable _) s symbols later fits k = says_advance n o h (action_advance h n s) s symbols later fits refl (advanced n h s symbols (ap is_close k))
says_inside n o h (kind.Number _) s symbols later fits k = says_advance n o h (action_advance h n s) s symbols later fits refl (advanced n h s symbols (ap is_close k))
says_inside n o h (kind.Str _) s symbols later fits k = says_advance n o h (action_advance h n s) s symbols later fits refl (advanced n h s symbols (ap is_close k))
says_inside n o h kind.Declare s symbols later fits k = says_advance n o h (action_advance h n s) s symbols later fits refl (advanced n h s symbols (ap is_close k))
says_inside n o h kind.Assign s symbols later fits k = says_advance n o h (action_advance h n s) s symbols later fits refl (advanced n h s symbols (ap is_close k))
says_inside n o h kind.Bar s symbols later fits k = says_advance n o h (action_advance h n s) s symbols later fits refl (advanced n h s symbols (ap is_close k))
says_inside n o h kind.Comma s symbols later fits k = says_advance n o h (action_advance h n s) s symbols later fits refl (advanced n h s symbols (ap is_close k))
says_inside n o h kind.Left s symbols later fits k = says_advance n o h (action_advance h n s) s symbols later fits refl (advanced n h s symbols (ap is_close k))
says_inside n o h kind.Right s symbols later fits k = says_advance n o h (action_advance h n s) s symbols later fits refl (advanced n h s symbols (ap is_close k))

says : (symbols : List Symbol) → Later symbols
says [] n m fits = says_none n m
says (s ∷ symbols) n phase.Outside fits = says_outside n s.kind s symbols (says symbols) fits refl
says (s ∷ symbols) n (phase.Inside o h) fits = says_inside n o h s.kind s symbols (says symbols) fits refl

-- Symbols that are read to the end, with nothing open, are the forms of a file.
pub file_stands : (symbols : List Symbol) (final : ParserState) → parser_run parser_beginning symbols ≡ Ok final → final.phase ≡ phase.Outside → final.builder.frames ≡ []
    → (forms : Forms) × IsFileBody forms symbols × (final.builder ≡ with_forms forms (empty_builder most_open))
file_stands symbols final e outside none =
    let left = subst (Said (empty_builder most_open) phase.Outside symbols) e (says symbols (empty_builder most_open) phase.Outside tt) (outside, none) in
    (left.0, subst (AreForms [] most_open false true left.0 symbols) left.3.0 left.2, left.3.1)
