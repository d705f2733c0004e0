-- Where a slash would be one thing on some paths and the other on others.
use Rattle.std.proofs.Common.{◌≡◌, ◌∙◌, ◌⊎◌, inl, inr, ℕ, Bool, true, false, ◌||◌, ◌&&◌, List, [], Option, None, refl, sym, ap, subst}
use Rattle.js_lexer.specs.Classes.{class_of}
use Rattle.js_lexer.specs.Feeding.{tells_white_apart, read_at, held_at, feed_script}
use Rattle.js_lexer.specs.Refusals.{Cause, first_script_cause, refusal_outside, whole_cut_refusal, unless_in_character, end_refusal_at}
use Rattle.js_lexer.specs.States.{At, Code, Slash, LineComment, BlockComment, ScriptPoint, Trail, ScriptState}
use Rattle.js_lexer.specs.declared.class.ScriptClass.{ScriptClass}
use Rattle.js_lexer.specs.declared.class.ScriptClass.TheVariants as class
use Rattle.js_lexer.specs.declared.sense.Sense.{Sense}
use Rattle.js_lexer.specs.declared.sense.Sense.TheVariants as sense
use Rattle.place_core.specs.declared.js.Js.{Js}
use Rattle.place_core.specs.declared.js.Js.TheVariants as js
use Rattle.place_core.specs.declared.js_tails.JsTails.{JsTails}
use Rattle.place_core.specs.declared.member.Member.{Member}
use Rattle.place_core.specs.declared.member.Member.TheVariants as member
use Rattle.place_core.specs.declared.senses.Senses.{Senses}
use Rattle.place_core.specs.place.LanguagePlaces.{both_js_tails, both_senses, senses_have, some_sense}
use Rattle.place_core.specs.place.ScriptParts.{script_senses}
use Rattle.js_step.specs.KeptWords.{kept_at, kept_scan}
use Rattle.js_step.specs.ScriptEvidence.{ScriptSensesFit, script_with_brace, ScriptClashes, ScriptsClash}
use Rattle.js_step.specs.ScriptOrigins.{script_set_has}
use Rattle.js_step.specs.ScriptScanOrder.{MayDifferInSense, differ_within, differ_behind_slash, ScriptScanBelow}
use Rattle.js_step.specs.ScriptScans.{ScriptScan, script_scan, script_one_sense, script_at_in, script_in_sense, script_sense_at, script_first_goes_on, script_tails_next, script_senses_next, script_scan_next, script_senses_differ, script_two_senses, script_slash_error, script_scan_start, script_scan_error, script_scan_cut_error, script_scan_end_error}
use Rattle.js_step.specs.ScriptSetLaws.{KeepsSense, keeps_code, keeps_line, keeps_block, StepsSense}
use Rattle.js_step.specs.ScriptValidity.{IsScriptScan}
use Rattle.js_step.proofs.MemberKinds.{set-of-sense}
use Rattle.js_step.proofs.NextSenses.{SensesBehind, senses_stay, senses_meet, senses-behind, senses-kept, sense-in, slash-own, upper-senses}
use Rattle.js_step.proofs.OneScriptPath.{senses-alone, alone-differ}
use Rattle.js_step.proofs.ScriptEvidence.{both-true}
use Rattle.js_step.proofs.ScriptGrowth.{state-of, comment-keeps, keeps-in, kept-cut, kept-end, differ-plain, scan-grows}
use Rattle.js_step.proofs.ScriptMembers.{differ-has}
use Rattle.js_step.proofs.SensePoints.{SenseLeads, leads_within, leads_behind_slash, leads_alike, sense-point, sense-leads}
use Rattle.js_step.proofs.SensesBelow.{next-united, plain-scan, error-plain, next-plain}
use Rattle.js_step.proofs.SlashComments.{slash-state, slash-error, IsUnclear, unclear-byte, comment-at, comment-by, comment-leads-at, comment-outside}
use Rattle.js_step.proofs.TailsGrowth.{tails-by, or-same, split-if}
use Rattle.js_step.proofs.UnitedSenses.{set-of, script-senses-unite}

no : true ≡ false → ⊥
no e = cc

or-true : (p : Bool) → (p || true) ≡ true
or-true true = refl
or-true false = refl

differ-some : (s : Senses) → script_senses_differ s ≡ true → some_sense s ≡ true
differ-some s h = ap (λ (z : Bool). z || (s.div || s.brace)) (both-true s.re s.div h).0

differ-unclear : (s : Senses) → script_senses_differ s ≡ true → IsUnclear s
differ-unclear s h = ap (λ (z : Bool). s.brace || z) h ∙ or-true s.brace

one-differ : (s : Senses) (r : Sense) → s ≡ script_senses r → script_senses_differ s ≡ false
one-differ s r e = ap script_senses_differ e ∙ alone-differ r

abbrev with-brace : Senses → Senses
with-brace s = record { re = s.re; div = s.div; brace = true }

brace-above : (s : Senses) → both_senses s (with-brace s) ≡ with-brace s
brace-above s = set-of (both_senses s (with-brace s)) (with-brace s) (or-same s.re) (or-same s.div) (or-true s.brace)

-- What senses come to behind a byte that is accepted, where paths may differ: what they were, or one.
data PairLeads (s : Senses) (v : ScriptState) (b : ℕ) : Type 0 where
  pair_stay : script_senses_next s v b ≡ s → PairLeads s v b
  pair_one : (r : Sense) → script_senses_next s v b ≡ script_senses r → PairLeads s v b

within-pair : (s : Senses) (a : At) (h : List ℕ) (u : Trail) (b : ℕ) (r : Sense) → some_sense s ≡ true
    → SenseLeads (sense-point a h b) (held_at (tells_white_apart (script_at_in r a)) h b) → PairLeads s (state-of [] a h u) b
within-pair s a h u b r i (leads_within d k f) =
    pair_stay (senses-kept s (state-of [] a h u) b (λ z. ap (λ (p : ScriptPoint). script_sense_at p.at) (f z) ∙ sense-in z d k))
within-pair s a h u b r i (leads_behind_slash e f) = pair_stay (senses-kept s (state-of [] a h u) b (λ z. ap (λ (p : ScriptPoint). script_sense_at p.at) (f z)))
within-pair s a h u b r i (leads_alike p f) =
    pair_one (script_sense_at p.at) (next-united s i (state-of [] a h u) b p.at (λ z. ap (λ (w : ScriptPoint). w.at) (f z)))

-- behind a slash: a comment, or one sense at most
clear-next : (p q w : Bool) (v : ScriptState) (b : ℕ) → (w || (p && q)) ≡ false → (p || (q || w)) ≡ true → (r : Sense) × (record { re = p; div = q; brace = w } ≡ script_senses r)
clear-next true true true v b h i = absurd (no h)
clear-next true true false v b h i = absurd (no h)
clear-next true false true v b h i = absurd (no h)
clear-next true false false v b h i = (sense.Re, refl)
clear-next false true true v b h i = absurd (no h)
clear-next false true false v b h i = (sense.Div, refl)
clear-next false false true v b h i = absurd (no h)
clear-next false false false v b h i = absurd (no (sym i))

single-pair : (s : Senses) (r : Sense) (v : ScriptState) (b : ℕ) → s ≡ script_senses r → PairLeads s v b
single-pair s r v b e =
    pair_one (script_sense_at (feed_script (script_in_sense r v) b).at) (ap (λ (z : Senses). script_senses_next z v b) e ∙ senses-alone r v b)

slash-pair : (s : Senses) (z : Sense) (u : Trail) (b : ℕ) (p : Bool) → (s.brace || (s.re && s.div)) ≡ p → some_sense s ≡ true → (IsUnclear s → (b ≡ 47) ⊎ (b ≡ 42))
    → PairLeads s (slash-state z u) b
slash-pair s z u b true e i f = pair_stay (senses-kept s (slash-state z u) b (slash-own z u b (f e)))
slash-pair s z u b false e i f =
    let one = clear-next s.re s.div s.brace (slash-state z u) b e i in
    single-pair s one.0 (slash-state z u) b one.1

differ-pair : (element : Bool) (s : Senses) (y : JsTails) (l : Bool) (a : At) (h : List ℕ) (u : Trail) (b : ℕ) → MayDifferInSense a h → some_sense s ≡ true
    → script_scan_error element (script_scan s y l (state-of [] a h u)) b ≡ None → PairLeads s (state-of [] a h u) b
differ-pair element s y l _ _ u b (differ_within a h keeps) i e = within-pair s a h u b sense.Re i (sense-leads a keeps h b sense.Re)
differ-pair element s y l _ _ u b (differ_behind_slash z) i e = slash-pair s z u b (s.brace || (s.re && s.div)) refl i (λ d. unclear-byte s y l z u element b d e)

parts-pair : (element : Bool) (s : Senses) (y : JsTails) (l : Bool) (fs : List ℕ) (a : At) (h : List ℕ) (u : Trail) (b : ℕ)
    → ((r : Sense) × (s ≡ script_senses r)) ⊎ ((fs ≡ []) × MayDifferInSense a h) → some_sense s ≡ true
    → script_scan_error element (script_scan s y l (state-of fs a h u)) b ≡ None → PairLeads s (state-of fs a h u) b
parts-pair element s y l fs a h u b (inl d) i e = single-pair s d.0 (state-of fs a h u) b d.1
parts-pair element s y l fs a h u b (inr d) i e =
    subst (λ (w : List ℕ). script_scan_error element (script_scan s y l (state-of w a h u)) b ≡ None → PairLeads s (state-of w a h u) b) (sym d.0)
    (λ o. differ-pair element s y l a h u b d.1 i o) e

fit-plain : (m : ScriptScan) → ScriptSensesFit m → ScriptSensesFit (plain-scan m)
fit-plain m (inl d) = inl d
fit-plain m (inr d) = inr (d.0, differ-plain m.state.at m.state.held d.1)

pair-of : (element : Bool) (m : ScriptScan) (b : ℕ) → ScriptSensesFit m → some_sense m.senses ≡ true → script_scan_error element m b ≡ None
    → PairLeads m.senses (script_in_sense sense.Re m.state) b
pair-of element m b f i e =
    parts-pair element m.senses m.before m.star m.state.literals (script_at_in sense.Re m.state.at) m.state.held m.state.trail b (fit-plain m f) i (error-plain element m b ∙ e)

-- Where more than one sense fits.
fit-differ : (m : ScriptScan) → ScriptSensesFit m → script_senses_differ m.senses ≡ true → (m.state.literals ≡ []) × MayDifferInSense m.state.at m.state.held
fit-differ m (inl d) h = absurd (no (sym h ∙ one-differ m.senses d.0 d.1))
fit-differ m (inr d) h = d

abbrev Outside : ScriptScan → Type 0
Outside m = (m.state.literals ≡ []) × MayDifferInSense m.state.at m.state.held

set-there : (m : ScriptScan) (w : Member) → MayDifferInSense m.state.at m.state.held → senses_have m.senses w ≡ true → script_set_has m w ≡ true
set-there m w d h = set-of-sense m.senses m.before m.star m.state.at w (differ-has m.senses m.state.at m.state.held w d h)

-- the next state fits
within-fits : (s : Senses) (y : JsTails) (l : Bool) (a : At) (h : List ℕ) (u : Trail) (b : ℕ) → some_sense s ≡ true
    → SenseLeads (sense-point a h b) (held_at (tells_white_apart (script_at_in (script_one_sense s) a)) h b)
    → ScriptSensesFit (script_scan_next (script_scan s y l (state-of [] a h u)) b)
within-fits s y l a h u b i (leads_within d k f) =
    let one : Sense = script_one_sense s in
    let held : List ℕ = held_at (tells_white_apart (script_at_in one a)) h b in
    inr (
      ap (λ (p : ScriptPoint). p.literals) (f one),
      subst (λ (c : At). MayDifferInSense c held) (sym (ap (λ (p : ScriptPoint). p.at) (f one))) (differ_within (script_at_in one d) held (keeps-in one d k)),
    )
within-fits s y l a h u b i (leads_behind_slash e f) =
    let one : Sense = script_one_sense s in
    let held : List ℕ = held_at (tells_white_apart (script_at_in one a)) h b in
    inr (
      ap (λ (p : ScriptPoint). p.literals) (f one),
      subst (λ (c : At). MayDifferInSense c held) (sym (ap (λ (p : ScriptPoint). p.at) (f one)))
          (subst (λ (w : List ℕ). MayDifferInSense (Slash one) w) (sym e) (differ_behind_slash one)),
    )
within-fits s y l a h u b i (leads_alike p f) =
    inl (script_sense_at p.at, next-united s i (state-of [] a h u) b p.at (λ z. ap (λ (w : ScriptPoint). w.at) (f z)))

comment-fits : (line : Bool) (s : Senses) (y : JsTails) (l : Bool) (z : Sense) (u : Trail) → ScriptSensesFit (script_scan_next (script_scan s y l (slash-state z u)) (comment-by line))
comment-fits line s y l z u =
    let one : Sense = script_one_sense s in
    let w : ScriptState = feed_script (slash-state one u) (comment-by line) in
    inr (
      comment-outside line one u,
      subst (λ (c : At). MayDifferInSense c w.held) (sym (comment-leads-at line one u)) (differ_within (comment-at line one) w.held (comment-keeps line one)),
    )

byte-fits : (s : Senses) (y : JsTails) (l : Bool) (z : Sense) (u : Trail) (b : ℕ) → (b ≡ 47) ⊎ (b ≡ 42) → ScriptSensesFit (script_scan_next (script_scan s y l (slash-state z u)) b)
byte-fits s y l z u b (inl e) = subst (λ (c : ℕ). ScriptSensesFit (script_scan_next (script_scan s y l (slash-state z u)) c)) (sym e) (comment-fits true s y l z u)
byte-fits s y l z u b (inr e) = subst (λ (c : ℕ). ScriptSensesFit (script_scan_next (script_scan s y l (slash-state z u)) c)) (sym e) (comment-fits false s y l z u)

single-fits : (s : Senses) (y : JsTails) (l : Bool) (v : ScriptState) (b : ℕ) (r : Sense) → s ≡ script_senses r → ScriptSensesFit (script_scan_next (script_scan s y l v) b)
single-fits s y l v b r e =
    inl (script_sense_at (feed_script (script_in_sense r v) b).at, ap (λ (z : Senses). script_senses_next z v b) e ∙ senses-alone r v b)

slash-fits : (s : Senses) (y : JsTails) (l : Bool) (z : Sense) (u : Trail) (b : ℕ) (p : Bool) → (s.brace || (s.re && s.div)) ≡ p → some_sense s ≡ true
    → (IsUnclear s → (b ≡ 47) ⊎ (b ≡ 42)) → ScriptSensesFit (script_scan_next (script_scan s y l (slash-state z u)) b)
slash-fits s y l z u b true e i f = byte-fits s y l z u b (f e)
slash-fits s y l z u b false e i f =
    let one = clear-next s.re s.div s.brace (slash-state z u) b e i in
    single-fits s y l (slash-state z u) b one.0 one.1

differ-fits : (element : Bool) (s : Senses) (y : JsTails) (l : Bool) (a : At) (h : List ℕ) (u : Trail) (b : ℕ) → MayDifferInSense a h → some_sense s ≡ true
    → script_scan_error element (script_scan s y l (state-of [] a h u)) b ≡ None → ScriptSensesFit (script_scan_next (script_scan s y l (state-of [] a h u)) b)
differ-fits element s y l _ _ u b (differ_within a h keeps) i e = within-fits s y l a h u b i (sense-leads a keeps h b (script_one_sense s))
differ-fits element s y l _ _ u b (differ_behind_slash z) i e = slash-fits s y l z u b (s.brace || (s.re && s.div)) refl i (λ d. unclear-byte s y l z u element b d e)

parts-fits : (element : Bool) (s : Senses) (y : JsTails) (l : Bool) (fs : List ℕ) (a : At) (h : List ℕ) (u : Trail) (b : ℕ)
    → ((r : Sense) × (s ≡ script_senses r)) ⊎ ((fs ≡ []) × MayDifferInSense a h) → some_sense s ≡ true
    → script_scan_error element (script_scan s y l (state-of fs a h u)) b ≡ None → ScriptSensesFit (script_scan_next (script_scan s y l (state-of fs a h u)) b)
parts-fits element s y l fs a h u b (inl d) i e = single-fits s y l (state-of fs a h u) b d.0 d.1
parts-fits element s y l fs a h u b (inr d) i e =
    subst (λ (w : List ℕ). script_scan_error element (script_scan s y l (state-of w a h u)) b ≡ None → ScriptSensesFit (script_scan_next (script_scan s y l (state-of w a h u)) b)) (sym d.0)
    (λ o. differ-fits element s y l a h u b d.1 i o) e

next-fits : (element : Bool) (m : ScriptScan) (b : ℕ) → IsScriptScan m → ScriptSensesFit m → script_scan_error element m b ≡ None → ScriptSensesFit (script_scan_next m b)
next-fits element m b i f e =
    subst ScriptSensesFit (next-plain m b)
    (parts-fits element m.senses m.before m.star m.state.literals (script_at_in sense.Re m.state.at) m.state.held m.state.trail b (fit-plain m f) i (error-plain element m b ∙ e))

start-fits : (c : Js) → ScriptSensesFit (script_scan_start c)
start-fits (js.Code s x) = inr (refl, differ_within (Code (script_one_sense s)) [] (keeps_code (script_one_sense s)))
start-fits js.Dq = inl (sense.Div, refl)
start-fits js.Sq = inl (sense.Div, refl)
start-fits (js.Regexp slash) = inl (sense.Div, refl)
start-fits (js.Line s) = inr (refl, differ_within (LineComment (script_one_sense s)) [] (keeps_line (script_one_sense s)))
start-fits (js.Block s star) = inr (refl, differ_within (BlockComment (script_one_sense s) false) [] (keeps_block (script_one_sense s) false))

kept-keeps : (a : At) → KeepsSense a → KeepsSense (kept_at a)
kept-keeps _ (keeps_code s) = keeps_code s
kept-keeps _ (keeps_line s) = keeps_line s
kept-keeps _ (keeps_block s star) = keeps_block s star

kept-differs : (a : At) (h : List ℕ) → MayDifferInSense a h → MayDifferInSense (kept_at a) h
kept-differs _ _ (differ_within a h keeps) = differ_within (kept_at a) h (kept-keeps a keeps)
kept-differs _ _ (differ_behind_slash z) = differ_behind_slash z

kept-fits : (m : ScriptScan) → ScriptSensesFit m → ScriptSensesFit (kept_scan m)
kept-fits m (inl d) = inl d
kept-fits m (inr d) = inr (d.0, kept-differs m.state.at m.state.held d.1)

-- Where they differ behind a byte, they do so before it.
empty-next : (p q w : Bool) (v : ScriptState) (b : ℕ) → (p || (q || w)) ≡ false → script_senses_differ (script_senses_next (record { re = p; div = q; brace = w }) v b) ≡ false
empty-next true q w v b h = absurd (no h)
empty-next false true w v b h = absurd (no h)
empty-next false false true v b h = absurd (no h)
empty-next false false false v b h = refl

differ-pair-of : (m : ScriptScan) (b : ℕ) → PairLeads m.senses (script_in_sense sense.Re m.state) b → script_senses_differ (script_scan_next m b).senses ≡ true → script_senses_differ m.senses ≡ true
differ-pair-of m b (pair_stay e) h = ap script_senses_differ (sym e ∙ sym (upper-senses m b)) ∙ h
differ-pair-of m b (pair_one r e) h = absurd (no (sym h ∙ one-differ _ r (upper-senses m b ∙ e)))

differ-before : (element : Bool) (m : ScriptScan) (b : ℕ) (p : Bool) → some_sense m.senses ≡ p → ScriptSensesFit m → script_scan_error element m b ≡ None
    → script_senses_differ (script_scan_next m b).senses ≡ true → script_senses_differ m.senses ≡ true
differ-before element m b true i f e h = differ-pair-of m b (pair-of element m b f i e) h
differ-before element m b false i f e h =
    absurd (no (sym h ∙ (ap script_senses_differ (upper-senses m b) ∙ empty-next m.senses.re m.senses.div m.senses.brace (script_in_sense sense.Re m.state) b i)))

differs-before : (element : Bool) (m : ScriptScan) (b : ℕ) → ScriptSensesFit m → script_scan_error element m b ≡ None → script_senses_differ (script_scan_next m b).senses ≡ true
    → (script_senses_differ m.senses ≡ true) × (script_set_has m member.SenseRe ≡ true) × (script_set_has m member.SenseDiv ≡ true)
differs-before element m b f e h =
    let d = differ-before element m b (some_sense m.senses) refl f e h in
    let o = fit-differ m f d in
    let both = both-true m.senses.re m.senses.div d in
    (d, set-there m member.SenseRe o.1 both.0, set-there m member.SenseDiv o.1 both.1)

-- A path on which it is not known is refused the same.
div-brace : (x : JsTails) (k : Bool) (z : Sense) (u : Trail) (element : Bool) (c : ScriptClass) (b : ℕ) (o : Option Cause)
    → first_script_cause o (first_script_cause (script_two_senses true [] (Slash z) c) (refusal_outside [] element (slash-state sense.Brace u) c b))
    ≡ first_script_cause o (first_script_cause (script_two_senses true [] (Slash z) c) (refusal_outside [] element (slash-state sense.Div u) c b))
div-brace x k z u element class.Solidus b o = refl
div-brace x k z u element class.Asterisk b o = refl
div-brace x k z u element _ b o = refl

slash-brace : (p q w : Bool) → (p && q) ≡ true → (x : JsTails) (k : Bool) (z : Sense) (u : Trail) (element : Bool) (b : ℕ)
    → slash-error (p && q) sense.Brace x k z u element b ≡ slash-error (p && q) (script_one_sense (record { re = p; div = q; brace = w })) x k z u element b
slash-brace true true true h x k z u element b = refl
slash-brace true true false h x k z u element b =
    div-brace x k z u element (class_of b) b (split-if (u.fresh && script_first_goes_on x k (read_at true [] (class_of b) b)) [])
slash-brace true false w h x k z u element b = absurd (no (sym h))
slash-brace false q w h x k z u element b = absurd (no (sym h))

abbrev brace-scan : Senses → JsTails → Bool → ScriptState → ScriptScan
brace-scan s x k v = script_scan (with-brace s) x k v

within-brace : (element : Bool) (s : Senses) (x : JsTails) (k : Bool) (v : ScriptState) (b : ℕ) → KeepsSense v.at → s.re ≡ true
    → script_scan_error element (brace-scan s x k v) b ≡ script_scan_error element (script_scan s x k v) b
within-brace element s x k v b keeps h =
    let lower : StepsSense (script_scan s x k v) sense.Re = script-senses-unite (script_scan s x k v) sense.Re keeps h in
    let upper : StepsSense (brace-scan s x k v) sense.Re = script-senses-unite (brace-scan s x k v) sense.Re keeps h in
    sym (upper.error element b) ∙ lower.error element b

differ-brace : (element : Bool) (s : Senses) (x : JsTails) (k : Bool) (a : At) (h : List ℕ) (u : Trail) (b : ℕ) → MayDifferInSense a h → script_senses_differ s ≡ true
    → script_scan_error element (brace-scan s x k (state-of [] a h u)) b ≡ script_scan_error element (script_scan s x k (state-of [] a h u)) b
differ-brace element s x k _ _ u b (differ_within a h keeps) i = within-brace element s x k (state-of [] a h u) b keeps (both-true s.re s.div i).0
differ-brace element s x k _ _ u b (differ_behind_slash z) i = slash-brace s.re s.div s.brace i x k z u element b

brace-error-at : (element : Bool) (s : Senses) (x : JsTails) (k : Bool) (fs : List ℕ) (a : At) (h : List ℕ) (u : Trail) (b : ℕ) → (fs ≡ []) × MayDifferInSense a h
    → script_senses_differ s ≡ true
    → script_scan_error element (brace-scan s x k (state-of fs a h u)) b ≡ script_scan_error element (script_scan s x k (state-of fs a h u)) b
brace-error-at element s x k fs a h u b d i =
    subst (λ (w : List ℕ). script_scan_error element (brace-scan s x k (state-of w a h u)) b ≡ script_scan_error element (script_scan s x k (state-of w a h u)) b) (sym d.0)
    (differ-brace element s x k a h u b d.1 i)

-- the ends
slash-first : (d : Bool) (z : Sense) (o p : Option Cause) → d ≡ true → first_script_cause (script_slash_error d [] (Slash z)) o ≡ first_script_cause (script_slash_error d [] (Slash z)) p
slash-first true z o p h = refl
slash-first false z o p h = absurd (no (sym h))

differ-brace-cut : (s : Senses) (x : JsTails) (k : Bool) (a : At) (h : List ℕ) (u : Trail) → MayDifferInSense a h → script_senses_differ s ≡ true
    → script_scan_cut_error (brace-scan s x k (state-of [] a h u)) ≡ script_scan_cut_error (script_scan s x k (state-of [] a h u))
differ-brace-cut s x k _ _ u (differ_within a h keeps) i =
    ap (λ (p : Option Cause). unless_in_character h (first_script_cause (script_slash_error (script_senses_differ s) [] a) p)) (kept-cut sense.Brace (script_one_sense s) a u keeps)
differ-brace-cut s x k _ _ u (differ_behind_slash z) i =
    slash-first (script_senses_differ s) z (whole_cut_refusal [] (Slash sense.Brace) u) (whole_cut_refusal [] (Slash (script_one_sense s)) u) i

differ-brace-end : (s : Senses) (x : JsTails) (k : Bool) (a : At) (h : List ℕ) (u : Trail) → MayDifferInSense a h → script_senses_differ s ≡ true
    → script_scan_end_error (brace-scan s x k (state-of [] a h u)) ≡ script_scan_end_error (script_scan s x k (state-of [] a h u))
differ-brace-end s x k _ _ u (differ_within a h keeps) i =
    ap (λ (p : Option Cause). first_script_cause (script_slash_error (script_senses_differ s) [] a) p) (kept-end sense.Brace (script_one_sense s) a u keeps)
differ-brace-end s x k _ _ u (differ_behind_slash z) i =
    slash-first (script_senses_differ s) z (end_refusal_at [] (Slash sense.Brace) u) (end_refusal_at [] (Slash (script_one_sense s)) u) i

brace-cut-at : (s : Senses) (x : JsTails) (k : Bool) (fs : List ℕ) (a : At) (h : List ℕ) (u : Trail) → (fs ≡ []) × MayDifferInSense a h → script_senses_differ s ≡ true
    → script_scan_cut_error (brace-scan s x k (state-of fs a h u)) ≡ script_scan_cut_error (script_scan s x k (state-of fs a h u))
brace-cut-at s x k fs a h u d i =
    subst (λ (w : List ℕ). script_scan_cut_error (brace-scan s x k (state-of w a h u)) ≡ script_scan_cut_error (script_scan s x k (state-of w a h u))) (sym d.0)
    (differ-brace-cut s x k a h u d.1 i)

brace-end-at : (s : Senses) (x : JsTails) (k : Bool) (fs : List ℕ) (a : At) (h : List ℕ) (u : Trail) → (fs ≡ []) × MayDifferInSense a h → script_senses_differ s ≡ true
    → script_scan_end_error (brace-scan s x k (state-of fs a h u)) ≡ script_scan_end_error (script_scan s x k (state-of fs a h u))
brace-end-at s x k fs a h u d i =
    subst (λ (w : List ℕ). script_scan_end_error (brace-scan s x k (state-of w a h u)) ≡ script_scan_end_error (script_scan s x k (state-of w a h u))) (sym d.0)
    (differ-brace-end s x k a h u d.1 i)

-- Below one scan is below another one that is alike.
slash-held : (a : At) (h : List ℕ) (z : Sense) → MayDifferInSense a h → a ≡ Slash z → h ≡ []
slash-held _ _ z (differ_within _ h (keeps_code s)) e = cc
slash-held _ _ z (differ_within _ h (keeps_line s)) e = cc
slash-held _ _ z (differ_within _ h (keeps_block s star)) e = cc
slash-held _ _ z (differ_behind_slash s) e = refl

from-plain-at : (a : At) (h : List ℕ) → MayDifferInSense (script_at_in sense.Re a) h → MayDifferInSense a h
from-plain-at (Code z) h d = differ_within (Code z) h (keeps_code z)
from-plain-at (LineComment z) h d = differ_within (LineComment z) h (keeps_line z)
from-plain-at (BlockComment z star) h d = differ_within (BlockComment z star) h (keeps_block z star)
from-plain-at (Slash z) h d = subst (MayDifferInSense (Slash z)) (sym (slash-held (Slash sense.Re) h sense.Re d refl)) (differ_behind_slash z)
from-plain-at a h d = d

alike-differ : (v w : ScriptState) → script_in_sense sense.Re v ≡ script_in_sense sense.Re w → (v.literals ≡ []) × MayDifferInSense v.at v.held
    → (w.literals ≡ []) × MayDifferInSense w.at w.held
alike-differ v w e d = (
  sym (ap (λ (z : ScriptState). z.literals) e) ∙ d.0,
  from-plain-at w.at w.held (subst (λ (z : ScriptState). MayDifferInSense z.at z.held) e (differ-plain v.at v.held d.1)),
)

alike-apart : (s t r : Senses) (v w : ScriptState) → t ≡ r → script_in_sense sense.Re v ≡ script_in_sense sense.Re w
    → (s ≡ t) ⊎ ((v.literals ≡ []) × MayDifferInSense v.at v.held) → (s ≡ r) ⊎ ((w.literals ≡ []) × MayDifferInSense w.at w.held)
alike-apart s t r v w e f (inl d) = inl (d ∙ e)
alike-apart s t r v w e f (inr d) = inr (alike-differ v w f d)

below-alike : (n x y : ScriptScan) → x.senses ≡ y.senses → x.before ≡ y.before → x.star ≡ y.star → script_in_sense sense.Re x.state ≡ script_in_sense sense.Re y.state
    → ScriptScanBelow n x → ScriptScanBelow n y
below-alike n x y e f g h l = record {
  some = l.some;
  senses = subst (λ (z : Senses). both_senses n.senses z ≡ z) e l.senses;
  before = subst (λ (z : JsTails). both_js_tails n.before z ≡ z) f l.before;
  star = subst (λ (z : Bool). (n.star || z) ≡ z) g l.star;
  state = l.state ∙ h;
  apart = alike-apart n.senses x.senses y.senses x.state y.state e h l.apart;
}

brace-over : (m : ScriptScan) → Outside m → script_senses_differ m.senses ≡ true → ScriptScanBelow m (script_with_brace m)
brace-over m d h =
    record { some = differ-some m.senses h; senses = brace-above m.senses; before = tails-by m.before; star = or-same m.star; state = refl; apart = inr d }

-- Behind a byte.
behind-alike : (m : ScriptScan) (b : ℕ) (n : ScriptScan) (s : Senses) → ScriptScanBelow (script_scan_next m b) (script_scan_next (script_with_brace m) b)
    → (script_scan_next (script_with_brace m) b).senses ≡ s → ScriptScanBelow n (script_scan_next (script_with_brace m) b)
    → ScriptScanBelow n (script_scan s (script_scan_next m b).before (script_scan_next m b).star (script_scan_next m b).state)
behind-alike m b n s low e l =
    let f : (script_scan_next (script_with_brace m) b).state.trail.fresh ≡ (script_scan_next m b).state.trail.fresh = sym (ap (λ (v : ScriptState). v.trail.fresh) low.state) in
    below-alike n (script_scan_next (script_with_brace m) b) (script_scan s (script_scan_next m b).before (script_scan_next m b).star (script_scan_next m b).state) e
    (ap (λ (z : Bool). script_tails_next z m.before) f) (ap (λ (z : Bool). z && m.star) f) (sym low.state) l

same-behind : (m : ScriptScan) (b : ℕ) → script_senses_differ m.senses ≡ true → script_senses_differ (script_scan_next m b).senses ≡ false
    → SensesBehind m.senses (with-brace m.senses) (script_in_sense sense.Re m.state) b
    → (script_scan_next (script_with_brace m) b).senses ≡ (script_scan_next m b).senses
same-behind m b d h (senses_stay o p e f) = absurd (no (sym d ∙ (ap script_senses_differ (sym e ∙ sym (upper-senses m b)) ∙ h)))
same-behind m b d h (senses_meet e) = upper-senses (script_with_brace m) b ∙ (sym e ∙ sym (upper-senses m b))

apart-behind : (m : ScriptScan) (b : ℕ) → script_senses_differ (script_scan_next m b).senses ≡ true
    → SensesBehind m.senses (with-brace m.senses) (script_in_sense sense.Re m.state) b → PairLeads (with-brace m.senses) (script_in_sense sense.Re m.state) b
    → (script_scan_next (script_with_brace m) b).senses ≡ with-brace (script_scan_next m b).senses
apart-behind m b h (senses_stay o p e f) q = upper-senses (script_with_brace m) b ∙ (f ∙ ap with-brace (sym (upper-senses m b ∙ e)))
apart-behind m b h (senses_meet e) (pair_stay f) =
    upper-senses (script_with_brace m) b ∙ (f ∙ ap with-brace (sym (upper-senses m b ∙ (e ∙ f))))
apart-behind m b h (senses_meet e) (pair_one r f) = absurd (no (sym h ∙ one-differ _ r (upper-senses m b ∙ (e ∙ f))))

clashes : (m : ScriptScan) → ScriptSensesFit m → script_senses_differ m.senses ≡ true → ScriptClashes m
clashes m fit h =
    let d : Outside m = fit-differ m fit h in
    let w : ScriptScan = script_with_brace m in
    let over : ScriptScanBelow m w = brace-over m d h in
    let error : ((element : Bool) (b : ℕ) → script_scan_error element w b ≡ script_scan_error element m b) =
    λ element b. brace-error-at element m.senses m.before m.star m.state.literals m.state.at m.state.held m.state.trail b d h in
    let low : ((element : Bool) (b : ℕ) → script_scan_error element m b ≡ None → ScriptScanBelow (script_scan_next m b) (script_scan_next w b)) =
    λ element b e. (scan-grows m w over).next element b (error element b ∙ e) in
    let some : some_sense w.senses ≡ true = differ-some w.senses h in
    record {
      brace = set-there w member.SenseBrace d.1 refl;
      error = error;
      cut_error = brace-cut-at m.senses m.before m.star m.state.literals m.state.at m.state.held m.state.trail d h;
      end_error = brace-end-at m.senses m.before m.star m.state.literals m.state.at m.state.held m.state.trail d h;
      next_same = λ element b e o n l. behind-alike m b n (script_scan_next m b).senses (low element b e)
          (same-behind m b h o (senses-behind m w element b over (error element b ∙ e))) l;
      next_apart = λ element b e o.
          let same = apart-behind m b o (senses-behind m w element b over (error element b ∙ e)) (pair-of element w b (inr d) some (error element b ∙ e)) in
          let fits : ScriptSensesFit (script_scan_next w b) = next-fits element w b some (inr d) (error element b ∙ e) in
          let out = fit-differ (script_scan_next w b) fits (ap script_senses_differ same ∙ o) in (
            set-there (script_scan_next w b) member.SenseBrace out.1 (ap (λ (s : Senses). s.brace) same),
            λ n l. behind-alike m b n (with-brace (script_scan_next m b).senses) (low element b e) same l,
          );
    }

pub scripts-clash : ScriptsClash
scripts-clash = record { clashes = clashes; before = differs-before; start = start-fits; next = next-fits; kept = kept-fits }
