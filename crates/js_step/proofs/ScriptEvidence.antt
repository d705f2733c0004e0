-- What shows that a script is refused, by what refuses it.
use Rattle.std.specs.Prelude.{⊤}
use Rattle.std.proofs.Common.{◌≡◌, ◌∙◌, ◌⊎◌, inl, inr, ℕ, Bool, true, false, ◌||◌, ◌&&◌, List, [], ◌∷◌, Option, Some, None, length, if◌then◌else◌, refl, sym, ap, ap₂, subst}
use Rattle.js_lexer.specs.Classes.{class_of}
use Rattle.js_lexer.specs.Feeding.{tells_white_apart, read_at}
use Rattle.js_lexer.specs.Refusals.{Refusal, SlashAmbig, SplitToken, Cause, cause, first_script_cause, refusal_outside, slash_refusal, unless_taken, line_refusal, markup_refusal, whole_cut_refusal, unless_in_character, escape_refusal, cut_markup_refusal, cut_refusal_at, end_refusal_at}
use Rattle.js_lexer.specs.Steps.{is_taken_in_string}
use Rattle.js_lexer.specs.States.{At, Code, Slash, LineComment, BlockComment, InString, InRegexp, TooDeep, Trail, ScriptState}
use Rattle.js_lexer.specs.WhiteSpace.{ClassedByte}
use Rattle.js_lexer.specs.declared.class.ScriptClass.{ScriptClass}
use Rattle.js_lexer.specs.declared.class.ScriptClass.TheVariants as class
use Rattle.js_lexer.specs.declared.sense.Sense.{Sense}
use Rattle.js_lexer.specs.declared.sense.Sense.TheVariants as sense
use Rattle.place_core.specs.declared.js_tails.JsTails.{JsTails}
use Rattle.place_core.specs.declared.member.Member.{Member}
use Rattle.place_core.specs.declared.member.Member.TheVariants as member
use Rattle.place_core.specs.declared.senses.Senses.{Senses}
use Rattle.place_core.specs.place.LanguagePlaces.{both_js_tails, both_senses, some_sense}
use Rattle.place_core.specs.place.Places.{is_whole}
use Rattle.place_core.specs.place.ScriptParts.{script_senses}
use Rattle.js_step.specs.ScriptEvidence.{script_tail_shows, script_first_shows, script_split_shows, script_shown_by, IsScriptShownBy, ScriptsShown}
use Rattle.js_step.specs.ScriptOrigins.{script_senses_at, script_set_at, script_set_has}
use Rattle.js_step.specs.ScriptScanOrder.{MayDifferInSense, differ_within, differ_behind_slash, ScriptScanBelow}
use Rattle.js_step.specs.ScriptScans.{ScriptScan, script_scan, script_one_sense, script_at_in, script_in_sense, script_shared, script_first_goes_on, script_senses_differ, script_two_senses, script_slash_error, script_scan_error, script_scan_cut_error, script_scan_end_error}
use Rattle.js_step.specs.ScriptSetLaws.{KeepsSense, StepsSense}
use Rattle.js_step.proofs.MemberKinds.{or-cases, or-right-of, sense-of-set, set-of-sense, set-plain}
use Rattle.js_step.proofs.OneScriptPath.{given, none-given, some-same}
use Rattle.js_step.proofs.ScriptGrowth.{by-byte, state-of, apart-plain, kept-slash, kept-cut, kept-end}
use Rattle.js_step.proofs.ScriptMembers.{plain-has}
use Rattle.js_step.proofs.SensesBelow.{a-sense, has-more, error-plain, cut-plain, end-plain, in-twice}
use Rattle.js_step.proofs.SlashComments.{begins-comment, comment-byte, slash-state, slash-error, comment-error, solidus-error, asterisk-error, IsUnclear, same-or-unclear}
use Rattle.js_step.proofs.TailEvidence.{first-there, first-shown, alone-read, set-not-whole}
use Rattle.js_step.proofs.TailsGrowth.{goes-grows, first-grows, split-if}
use Rattle.js_step.proofs.UnitedSenses.{white-in, tails-in, script-senses-unite}

no : true ≡ false → ⊥
no e = cc

-- The first of two causes.
first-is : (o p : Option Cause) (e : Cause) → first_script_cause o p ≡ Some e → (o ≡ Some e) ⊎ ((o ≡ None) × (p ≡ Some e))
first-is (Some x) p e h = inl h
first-is None p e h = inr (refl, h)

-- what is refused on each path
abbrev IsPlainRefusal : Refusal → Type 0
IsPlainRefusal SplitToken = ⊥
IsPlainRefusal SlashAmbig = ⊥
IsPlainRefusal r = ⊤

some-plain : (x e : Cause) → Some x ≡ Some e → IsPlainRefusal x.refusal → IsPlainRefusal e.refusal
some-plain x e h i = subst (λ (z : Cause). IsPlainRefusal z.refusal) (some-same x e h) i

if-plain : (p : Bool) (x e : Cause) → (if p then Some x else None) ≡ Some e → IsPlainRefusal x.refusal → IsPlainRefusal e.refusal
if-plain true x e h i = some-plain x e h i
if-plain false x e h i = absurd (none-given e h)

unless-plain : (p : Bool) (c : ScriptClass) (e : Cause) → unless_taken p c ≡ Some e → IsPlainRefusal e.refusal
unless-plain false class.LineEnd e h = some-plain _ e h tt
unless-plain false c e h = absurd (none-given e h)
unless-plain true c e h = absurd (none-given e h)

line-plain : (a : At) (c : ScriptClass) (b : ℕ) (e : Cause) → line_refusal a c b ≡ Some e → IsPlainRefusal e.refusal
line-plain (InString q r) c b e h = unless-plain (is_taken_in_string r b) c e h
line-plain (InRegexp k r) c b e h = unless-plain false c e h
line-plain (Slash sense.Re) c b e h = unless-plain false c e h
line-plain a c b e h = absurd (none-given e h)

line-or-markup : (a : At) (c : ScriptClass) (b : ℕ) (v : ScriptState) (e : Cause) → (line_refusal a c b ≡ Some e) ⊎ ((line_refusal a c b ≡ None) × (markup_refusal v b ≡ Some e))
    → IsPlainRefusal e.refusal
line-or-markup a c b v e (inl h) = line-plain a c b e h
line-or-markup a c b v e (inr h) = if-plain _ _ e h.1 tt

plain-of-rest : (a : At) (c : ScriptClass) (b : ℕ) (v : ScriptState) (e : Cause) → first_script_cause (line_refusal a c b) (markup_refusal v b) ≡ Some e → IsPlainRefusal e.refusal
plain-of-rest a c b v e h = line-or-markup a c b v e (first-is (line_refusal a c b) (markup_refusal v b) e h)

-- What is refused of a byte but for what the first character goes on with: a slash that is unclear, and no comment; or it is on each path.
abbrev rest-error : Senses → List ℕ → At → List ℕ → Trail → Bool → ScriptClass → ℕ → Option Cause
rest-error t fs a h u element c b =
    first_script_cause (script_two_senses (script_senses_differ t) fs a c) (refusal_outside fs element (script_in_sense (script_one_sense t) (state-of fs a h u)) c b)

data SlashSum (re div brace : Bool) (c : ScriptClass) (e : Cause) : Type 0 where
  sum_slash : (brace || (re && div)) ≡ true → begins-comment c ≡ false → cause SlashAmbig 1 1 ≡ Some e → SlashSum re div brace c e
  sum_plain : IsPlainRefusal e.refusal → ((brace || (re && div)) ≡ true → begins-comment c ≡ true) → SlashSum re div brace c e

slash-sum : (re div brace : Bool) (z : Sense) (u : Trail) (element : Bool) (c : ScriptClass) (b : ℕ) (e : Cause)
    → first_script_cause (script_two_senses (re && div) [] (Slash z) c)
    (refusal_outside [] element (slash-state (script_one_sense (record { re = re; div = div; brace = brace })) u) c b) ≡ Some e
    → SlashSum re div brace c e
slash-sum true true true z u element class.Solidus b e h = sum_plain (plain-of-rest (Slash sense.Brace) class.Solidus b (slash-state sense.Brace u) e h) (λ i. refl)
slash-sum true true true z u element class.Asterisk b e h = sum_plain (plain-of-rest (Slash sense.Brace) class.Asterisk b (slash-state sense.Brace u) e h) (λ i. refl)
slash-sum true true true z u element _ b e h = sum_slash refl refl h
slash-sum true true false z u element class.Solidus b e h = sum_plain (plain-of-rest (Slash sense.Div) class.Solidus b (slash-state sense.Div u) e h) (λ i. refl)
slash-sum true true false z u element class.Asterisk b e h = sum_plain (plain-of-rest (Slash sense.Div) class.Asterisk b (slash-state sense.Div u) e h) (λ i. refl)
slash-sum true true false z u element _ b e h = sum_slash refl refl h
slash-sum true false true z u element class.Solidus b e h = sum_plain (plain-of-rest (Slash sense.Brace) class.Solidus b (slash-state sense.Brace u) e h) (λ i. refl)
slash-sum true false true z u element class.Asterisk b e h = sum_plain (plain-of-rest (Slash sense.Brace) class.Asterisk b (slash-state sense.Brace u) e h) (λ i. refl)
slash-sum true false true z u element _ b e h = sum_slash refl refl h
slash-sum false true true z u element class.Solidus b e h = sum_plain (plain-of-rest (Slash sense.Brace) class.Solidus b (slash-state sense.Brace u) e h) (λ i. refl)
slash-sum false true true z u element class.Asterisk b e h = sum_plain (plain-of-rest (Slash sense.Brace) class.Asterisk b (slash-state sense.Brace u) e h) (λ i. refl)
slash-sum false true true z u element _ b e h = sum_slash refl refl h
slash-sum false false true z u element class.Solidus b e h = sum_plain (plain-of-rest (Slash sense.Brace) class.Solidus b (slash-state sense.Brace u) e h) (λ i. refl)
slash-sum false false true z u element class.Asterisk b e h = sum_plain (plain-of-rest (Slash sense.Brace) class.Asterisk b (slash-state sense.Brace u) e h) (λ i. refl)
slash-sum false false true z u element _ b e h = sum_slash refl refl h
slash-sum true false false z u element class.Solidus b e h = sum_plain (plain-of-rest (Slash sense.Re) class.Solidus b (slash-state sense.Re u) e h) (λ i. refl)
slash-sum true false false z u element class.Asterisk b e h = sum_plain (plain-of-rest (Slash sense.Re) class.Asterisk b (slash-state sense.Re u) e h) (λ i. refl)
slash-sum true false false z u element k b e h = sum_plain (plain-of-rest (Slash sense.Re) k b (slash-state sense.Re u) e h) (λ i. absurd (no (sym i)))
slash-sum false true false z u element class.Solidus b e h = sum_plain (plain-of-rest (Slash sense.Div) class.Solidus b (slash-state sense.Div u) e h) (λ i. refl)
slash-sum false true false z u element class.Asterisk b e h = sum_plain (plain-of-rest (Slash sense.Div) class.Asterisk b (slash-state sense.Div u) e h) (λ i. refl)
slash-sum false true false z u element k b e h = sum_plain (plain-of-rest (Slash sense.Div) k b (slash-state sense.Div u) e h) (λ i. absurd (no (sym i)))
slash-sum false false false z u element class.Solidus b e h = sum_plain (plain-of-rest (Slash sense.Re) class.Solidus b (slash-state sense.Re u) e h) (λ i. refl)
slash-sum false false false z u element class.Asterisk b e h = sum_plain (plain-of-rest (Slash sense.Re) class.Asterisk b (slash-state sense.Re u) e h) (λ i. refl)
slash-sum false false false z u element k b e h = sum_plain (plain-of-rest (Slash sense.Re) k b (slash-state sense.Re u) e h) (λ i. absurd (no (sym i)))

data RestView (t : Senses) (fs : List ℕ) (a : At) (c : ScriptClass) (e : Cause) : Type 0 where
  view_slash : (z : Sense) → fs ≡ [] → a ≡ Slash z → IsUnclear t → begins-comment c ≡ false → cause SlashAmbig 1 1 ≡ Some e → RestView t fs a c e
  view_plain : IsPlainRefusal e.refusal → ((z : Sense) → fs ≡ [] → a ≡ Slash z → IsUnclear t → begins-comment c ≡ true) → RestView t fs a c e

view-sum : (t : Senses) (z : Sense) (c : ScriptClass) (e : Cause) → SlashSum t.re t.div t.brace c e → RestView t [] (Slash z) c e
view-sum t z c e (sum_slash h i j) = view_slash z refl refl h i j
view-sum t z c e (sum_plain h i) = view_plain h (λ w f g. i)

abbrev NotSlash : At → Type 0
NotSlash (Slash z) = ⊥
NotSlash a = ⊤

no-slash : (a : At) (z : Sense) → NotSlash a → a ≡ Slash z → ⊥
no-slash a z h e = subst NotSlash e h

two-other : (d : Bool) (a : At) (c : ScriptClass) → NotSlash a → script_two_senses d [] a c ≡ None
two-other true (Slash z) c h = absurd h
two-other true a c h = refl
two-other false a c h = refl

other-refusal : (o : Sense) (a : At) (c : ScriptClass) → NotSlash a → slash_refusal (script_at_in o a) c ≡ None
other-refusal o (Slash z) c h = absurd h
other-refusal o a c h = refl

behind-two-nones : (o p q : Option Cause) (e : Cause) → o ≡ None → p ≡ None → first_script_cause o (first_script_cause p q) ≡ Some e → q ≡ Some e
behind-two-nones (Some x) p q e h i j = absurd (given x h)
behind-two-nones None (Some x) q e h i j = absurd (given x i)
behind-two-nones None None q e h i j = j

other-view : (t : Senses) (a : At) (h : List ℕ) (u : Trail) (element : Bool) (c : ScriptClass) (b : ℕ) (e : Cause) → NotSlash a → rest-error t [] a h u element c b ≡ Some e
    → RestView t [] a c e
other-view t a h u element c b e i j =
    view_plain (plain-of-rest (script_at_in (script_one_sense t) a) c b (script_in_sense (script_one_sense t) (state-of [] a h u)) e (behind-two-nones _ (slash_refusal (script_at_in (script_one_sense t) a) c) _ e (two-other (script_senses_differ t) a c i) (other-refusal (script_one_sense t) a c i) j))
    (λ z f g. absurd (no-slash a z i g))

slash-held : (t : Senses) (z : Sense) (h : List ℕ) (u : Trail) (element : Bool) (c : ScriptClass) (b : ℕ)
    → first_script_cause (script_two_senses (script_senses_differ t) [] (Slash z) c) (refusal_outside [] element (slash-state (script_one_sense t) u) c b)
    ≡ rest-error t [] (Slash z) h u element c b
slash-held t z h u element c b = refl

outside-view : (t : Senses) (a : At) (h : List ℕ) (u : Trail) (element : Bool) (c : ScriptClass) (b : ℕ) (e : Cause) → rest-error t [] a h u element c b ≡ Some e → RestView t [] a c e
outside-view t (Slash z) h u element c b e i = view-sum t z c e (slash-sum t.re t.div t.brace z u element c b e (slash-held t z h u element c b ∙ i))
outside-view t a h u element c b e i = other-view t a h u element c b e tt i

two-inside : (d : Bool) (n : ℕ) (fs : List ℕ) (a : At) (c : ScriptClass) → script_two_senses d (n ∷ fs) a c ≡ None
two-inside true n fs a c = refl
two-inside false n fs a c = refl

pub behind-none : (o p : Option Cause) (e : Cause) → o ≡ None → first_script_cause o p ≡ Some e → p ≡ Some e
behind-none (Some x) p e h i = absurd (given x h)
behind-none None p e h i = i

cons-empty : (n : ℕ) (fs : List ℕ) → n ∷ fs ≡ [] → ⊥
cons-empty n fs e = cc

rest-view : (t : Senses) (fs : List ℕ) (a : At) (h : List ℕ) (u : Trail) (element : Bool) (c : ScriptClass) (b : ℕ) (e : Cause) → rest-error t fs a h u element c b ≡ Some e
    → RestView t fs a c e
rest-view t [] a h u element c b e i = outside-view t a h u element c b e i
rest-view t (n ∷ fs) a h u element c b e i =
    view_plain (if-plain _ _ e (behind-none _ _ e (two-inside (script_senses_differ t) n fs a c) i) tt) (λ z f g. absurd (cons-empty n fs f))

-- The bytes that a path reads at a byte, and whether the first character goes on with what it has ended in.
abbrev reads : Senses → At → List ℕ → ℕ → List ClassedByte
reads t a h b = read_at (tells_white_apart (script_at_in (script_one_sense t) a)) h (class_of b) b

abbrev error-at : Bool → Senses → JsTails → Bool → List ℕ → At → List ℕ → Trail → ℕ → Option Cause
error-at element t y l fs a h u b = script_scan_error element (script_scan t y l (state-of fs a h u)) b

abbrev splits-at : Senses → JsTails → Bool → At → List ℕ → Trail → ℕ → Bool
splits-at t y l a h u b = u.fresh && script_first_goes_on y l (reads t a h b)

split-some : (p : Bool) (h : List ℕ) (e : Cause) → split-if p h ≡ Some e → (p ≡ true) × (cause SplitToken (length h) (length h) ≡ Some e)
split-some true h e i = (refl, i)
split-some false h e i = absurd (none-given e i)

pub both-true : (p q : Bool) → (p && q) ≡ true → (p ≡ true) × (q ≡ true)
both-true true q h = (refl, h)
both-true false q h = absurd (no (sym h))

splits-now : (p q : Bool) (h : List ℕ) (o : Option Cause) → p ≡ true → q ≡ true → first_script_cause (split-if (p && q) h) o ≡ cause SplitToken (length h) (length h)
splits-now true true h o e f = refl
splits-now true false h o e f = absurd (no (sym f))
splits-now false q h o e f = absurd (no (sym e))

-- A path below: in the same shared state, but for what a slash would be.
abbrev Apart : Senses → Senses → List ℕ → At → List ℕ → Type 0
Apart s t fs a h = (s ≡ t) ⊎ ((fs ≡ []) × MayDifferInSense a h)

unclear-white-by : (re div brace : Bool) → (brace || (re && div)) ≡ true → tells_white_apart (Slash (script_one_sense (record { re = re; div = div; brace = brace }))) ≡ true
unclear-white-by re div true h = refl
unclear-white-by true true false h = refl
unclear-white-by true false false h = absurd (no (sym h))
unclear-white-by false div false h = absurd (no (sym h))

unclear-white : (t : Senses) → IsUnclear t → tells_white_apart (Slash (script_one_sense t)) ≡ true
unclear-white t h = unclear-white-by t.re t.div t.brace h

slash-reads : (q p : Bool) (y : JsTails) (l : Bool) (b : ℕ) → q ≡ true → script_first_goes_on y l (read_at q [] (class_of b) b) ≡ true
    → read_at p [] (class_of b) b ≡ read_at q [] (class_of b) b
slash-reads true true y l b e h = refl
slash-reads true false y l b e h = sym (alone-read y l b h)
slash-reads false p y l b e h = absurd (no (sym e))

clear-reads : (s t : Senses) (z : Sense) (y : JsTails) (l : Bool) (b : ℕ) → (s ≡ t) ⊎ IsUnclear t → script_first_goes_on y l (reads t (Slash z) [] b) ≡ true
    → reads s (Slash z) [] b ≡ reads t (Slash z) [] b
clear-reads s t z y l b (inl e) h = ap (λ (w : Senses). reads w (Slash z) [] b) e
clear-reads s t z y l b (inr d) h = slash-reads _ (tells_white_apart (Slash (script_one_sense s))) y l b (unclear-white t d) h

differ-reads : (s t : Senses) (a : At) (h : List ℕ) (y : JsTails) (l : Bool) (b : ℕ) → MayDifferInSense a h → some_sense s ≡ true → both_senses s t ≡ t
    → script_first_goes_on y l (reads t a h b) ≡ true → reads s a h b ≡ reads t a h b
differ-reads s t _ _ y l b (differ_within a h keeps) i j g = ap (λ (p : Bool). read_at p h (class_of b) b) (white-in a keeps (script_one_sense s) (script_one_sense t))
differ-reads s t _ _ y l b (differ_behind_slash z) i j g = clear-reads s t z y l b (same-or-unclear s t i j) g

same-reads : (s t : Senses) (fs : List ℕ) (a : At) (h : List ℕ) (y : JsTails) (l : Bool) (b : ℕ) → Apart s t fs a h → some_sense s ≡ true → both_senses s t ≡ t
    → script_first_goes_on y l (reads t a h b) ≡ true → reads s a h b ≡ reads t a h b
same-reads s t fs a h y l b (inl e) i j g = ap (λ (w : Senses). reads w a h b) e
same-reads s t fs a h y l b (inr d) i j g = differ-reads s t a h y l b d.1 i j g

-- a split is shown by the member
split-lower : (element : Bool) (s t : Senses) (x y : JsTails) (k l : Bool) (fs : List ℕ) (a : At) (h : List ℕ) (u : Trail) (b : ℕ) → Apart s t fs a h
    → some_sense s ≡ true → both_senses s t ≡ t → u.fresh ≡ true → script_first_goes_on y l (reads t a h b) ≡ true
    → script_set_at s x k a (script_first_shows y a (reads t a h b)) ≡ true
    → error-at element s x k fs a h u b ≡ cause SplitToken (length h) (length h)
split-lower element s t x y k l fs a h u b d i j f g m =
    splits-now u.fresh _ h (rest-error s fs a h u element (class_of b) b) f
    (ap (script_first_goes_on x k) (same-reads s t fs a h y l b d i j g) ∙ first-shown s x y k l a (reads t a h b) g m)

-- What is refused on each path.
split-keeps : (fresh p q : Bool) → (q ≡ false → p ≡ false) → (h : List ℕ) (o : Option Cause) (e : Cause) → split-if (fresh && q) h ≡ None
    → first_script_cause (split-if (fresh && q) h) o ≡ Some e → first_script_cause (split-if (fresh && p) h) o ≡ Some e
split-keeps false p q f h o e i j = j
split-keeps true p true f h o e i j = absurd (given _ i)
split-keeps true true false f h o e i j = absurd (no (f refl))
split-keeps true false false f h o e i j = j

same-lower : (element : Bool) (t : Senses) (x y : JsTails) (k l : Bool) (fs : List ℕ) (a : At) (h : List ℕ) (u : Trail) (b : ℕ) (e : Cause) → both_js_tails x y ≡ y → (k || l) ≡ l
    → split-if (splits-at t y l a h u b) h ≡ None → error-at element t y l fs a h u b ≡ Some e → error-at element t x k fs a h u b ≡ Some e
same-lower element t x y k l fs a h u b e f g i j =
    split-keeps u.fresh _ _ (first-grows x y k l f g (reads t a h b)) h (rest-error t fs a h u element (class_of b) b) e i j

equal-lower : (element : Bool) (s t : Senses) (x y : JsTails) (k l : Bool) (fs : List ℕ) (a : At) (h : List ℕ) (u : Trail) (b : ℕ) (e : Cause) → s ≡ t
    → both_js_tails x y ≡ y → (k || l) ≡ l → split-if (splits-at t y l a h u b) h ≡ None → error-at element t y l fs a h u b ≡ Some e
    → error-at element s x k fs a h u b ≡ Some e
equal-lower element s t x y k l fs a h u b e d f g i j =
    ap (λ (w : Senses). error-at element w x k fs a h u b) d ∙ same-lower element t x y k l fs a h u b e f g i j

within-lower : (element : Bool) (s t : Senses) (x y : JsTails) (k l : Bool) (a : At) (h : List ℕ) (u : Trail) (b : ℕ) (e : Cause) → KeepsSense a
    → some_sense s ≡ true → both_senses s t ≡ t → both_js_tails x y ≡ y → (k || l) ≡ l → split-if (splits-at t y l a h u b) h ≡ None
    → error-at element t y l [] a h u b ≡ Some e → error-at element s x k [] a h u b ≡ Some e
within-lower element s t x y k l a h u b e keeps i j f g o p =
    let v : ScriptState = state-of [] a h u in
    let n : ScriptScan = script_scan s x k v in
    let m : ScriptScan = script_scan t y l v in
    let one = a-sense s i in
    let of_n : StepsSense n one.0 = script-senses-unite n one.0 keeps one.1 in
    let of_m : StepsSense m one.0 = script-senses-unite m one.0 keeps (has-more s t j one.0 one.1) in
    sym (of_n.error element b)
    ∙ same-lower element (script_senses one.0) x y k l [] a h u b e f g (tails-in m keeps one.0 (class_of b) b ∙ o) (of_m.error element b ∙ p)

split-plain : (fresh p q : Bool) → (q ≡ false → p ≡ false) → (h : List ℕ) (o : Option Cause) (e : Cause) → IsPlainRefusal e.refusal
    → first_script_cause (split-if (fresh && q) h) o ≡ Some e → first_script_cause (split-if (fresh && p) h) o ≡ Some e
split-plain false p q f h o e i j = j
split-plain true p true f h o e i j = absurd (subst (λ (z : Cause). IsPlainRefusal z.refusal) (sym (some-same _ e j)) i)
split-plain true true false f h o e i j = absurd (no (f refl))
split-plain true false false f h o e i j = j

comment-lower : (c : ScriptClass) (b : ℕ) (x y : JsTails) (k l : Bool) (u : Trail) (e : Cause) → both_js_tails x y ≡ y → (k || l) ≡ l
    → IsPlainRefusal e.refusal → comment-error c b y l u ≡ Some e → comment-error c b x k u ≡ Some e
comment-lower c b x y k l u e f g p h = split-plain u.fresh _ _ (goes-grows x y k l f g c) [] _ e p h

unclear-lower : (element : Bool) (s t : Senses) (x y : JsTails) (k l : Bool) (z : Sense) (u : Trail) (b : ℕ) (e : Cause) → (b ≡ 47) ⊎ (b ≡ 42)
    → both_js_tails x y ≡ y → (k || l) ≡ l → IsPlainRefusal e.refusal
    → slash-error (script_senses_differ t) (script_one_sense t) y l z u element b ≡ Some e
    → slash-error (script_senses_differ s) (script_one_sense s) x k z u element b ≡ Some e
unclear-lower element s t x y k l z u b e d f g p h =
    by-byte (λ (c : ℕ). slash-error (script_senses_differ t) (script_one_sense t) y l z u element c ≡ Some e → slash-error (script_senses_differ s) (script_one_sense s) x k z u element c ≡ Some e) b d
    (λ i. solidus-error (script_senses_differ s) (script_one_sense s) x k z u element
    ∙ comment-lower class.Solidus 47 x y k l u e f g p (sym (solidus-error (script_senses_differ t) (script_one_sense t) y l z u element) ∙ i))
    (λ i. asterisk-error (script_senses_differ s) (script_one_sense s) x k z u element
    ∙ comment-lower class.Asterisk 42 x y k l u e f g p (sym (asterisk-error (script_senses_differ t) (script_one_sense t) y l z u element) ∙ i)) h

clear-lower : (element : Bool) (s t : Senses) (x y : JsTails) (k l : Bool) (z : Sense) (u : Trail) (b : ℕ) (e : Cause) → (s ≡ t) ⊎ IsUnclear t
    → both_js_tails x y ≡ y → (k || l) ≡ l → IsPlainRefusal e.refusal → (IsUnclear t → begins-comment (class_of b) ≡ true)
    → split-if (splits-at t y l (Slash z) [] u b) [] ≡ None → error-at element t y l [] (Slash z) [] u b ≡ Some e → error-at element s x k [] (Slash z) [] u b ≡ Some e
clear-lower element s t x y k l z u b e (inl d) f g p c o i = equal-lower element s t x y k l [] (Slash z) [] u b e d f g o i
clear-lower element s t x y k l z u b e (inr d) f g p c o i = unclear-lower element s t x y k l z u b e (comment-byte b (c d)) f g p i

differ-lower : (element : Bool) (s t : Senses) (x y : JsTails) (k l : Bool) (a : At) (h : List ℕ) (u : Trail) (b : ℕ) (e : Cause) → MayDifferInSense a h
    → some_sense s ≡ true → both_senses s t ≡ t → both_js_tails x y ≡ y → (k || l) ≡ l → IsPlainRefusal e.refusal
    → ((z : Sense) → a ≡ Slash z → IsUnclear t → begins-comment (class_of b) ≡ true)
    → split-if (splits-at t y l a h u b) h ≡ None → error-at element t y l [] a h u b ≡ Some e → error-at element s x k [] a h u b ≡ Some e
differ-lower element s t x y k l _ _ u b e (differ_within a h keeps) i j f g p c o q = within-lower element s t x y k l a h u b e keeps i j f g o q
differ-lower element s t x y k l _ _ u b e (differ_behind_slash z) i j f g p c o q =
    clear-lower element s t x y k l z u b e (same-or-unclear s t i j) f g p (c z refl) o q

plain-lower : (element : Bool) (s t : Senses) (x y : JsTails) (k l : Bool) (fs : List ℕ) (a : At) (h : List ℕ) (u : Trail) (b : ℕ) (e : Cause) → Apart s t fs a h
    → some_sense s ≡ true → both_senses s t ≡ t → both_js_tails x y ≡ y → (k || l) ≡ l → IsPlainRefusal e.refusal
    → ((z : Sense) → fs ≡ [] → a ≡ Slash z → IsUnclear t → begins-comment (class_of b) ≡ true)
    → split-if (splits-at t y l a h u b) h ≡ None → error-at element t y l fs a h u b ≡ Some e → error-at element s x k fs a h u b ≡ Some e
plain-lower element s t x y k l fs a h u b e (inl d) i j f g p c o q = equal-lower element s t x y k l fs a h u b e d f g o q
plain-lower element s t x y k l fs a h u b e (inr d) i j f g p c o q =
    subst (λ (w : List ℕ). error-at element t y l w a h u b ≡ Some e → error-at element s x k w a h u b ≡ Some e) (sym d.0)
    (λ r. differ-lower element s t x y k l a h u b e d.1 i j f g p (λ z. c z d.0) o r) q

-- A slash that is unclear: behind `}` it is so on each path there.
brace-one : (s : Senses) → s.brace ≡ true → script_one_sense s ≡ sense.Brace
brace-one s h = ap (λ (w : Bool). if w then sense.Brace else (if s.div then sense.Div else sense.Re)) h

slash-alone : (d : Bool) (z : Sense) (u : Trail) (element : Bool) (c : ScriptClass) (b : ℕ) → begins-comment c ≡ false
    → first_script_cause (script_two_senses d [] (Slash z) c) (refusal_outside [] element (slash-state sense.Brace u) c b) ≡ cause SlashAmbig 1 1
slash-alone d z u element class.Solidus b h = absurd (no h)
slash-alone d z u element class.Asterisk b h = absurd (no h)
slash-alone true z u element _ b h = refl
slash-alone false z u element _ b h = refl

none-split : (fresh p q : Bool) → (q ≡ false → p ≡ false) → (h : List ℕ) (o : Option Cause) → split-if (fresh && q) h ≡ None → first_script_cause (split-if (fresh && p) h) o ≡ o
none-split false p q f h o i = refl
none-split true p true f h o i = absurd (given _ i)
none-split true true false f h o i = absurd (no (f refl))
none-split true false false f h o i = refl

brace-lower : (element : Bool) (s t : Senses) (x y : JsTails) (k l : Bool) (z : Sense) (h : List ℕ) (u : Trail) (b : ℕ) → s.brace ≡ true → t.brace ≡ true
    → both_js_tails x y ≡ y → (k || l) ≡ l → split-if (splits-at t y l (Slash z) h u b) h ≡ None → begins-comment (class_of b) ≡ false
    → error-at element s x k [] (Slash z) h u b ≡ cause SlashAmbig 1 1
brace-lower element s t x y k l z h u b i j f g o c =
    let same : reads s (Slash z) h b ≡ reads t (Slash z) h b = ap (λ (w : Sense). read_at (tells_white_apart (Slash w)) h (class_of b) b) (brace-one s i ∙ sym (brace-one t j)) in
    none-split u.fresh _ _ (λ q. ap (script_first_goes_on x k) same ∙ first-grows x y k l f g (reads t (Slash z) h b) q) h (rest-error s [] (Slash z) h u element (class_of b) b) o
    ∙ (ap (λ (w : Sense). first_script_cause (script_two_senses (script_senses_differ s) [] (Slash z) (class_of b)) (refusal_outside [] element (slash-state w u) (class_of b) b)) (brace-one s i)
    ∙ slash-alone (script_senses_differ s) z u element (class_of b) b c)

-- By parts: what shows it in the shared state in one sense shows it.
tail-shows-plain : (y : JsTails) (a : At) (c : ScriptClass) → script_tail_shows y (script_at_in sense.Re a) c ≡ script_tail_shows y a c
tail-shows-plain y (Code z) c = refl
tail-shows-plain y (Slash z) c = refl
tail-shows-plain y (LineComment z) c = refl
tail-shows-plain y (BlockComment z star) c = refl
tail-shows-plain y a c = refl

first-shows-plain : (y : JsTails) (a : At) (xs : List ClassedByte) → script_first_shows y (script_at_in sense.Re a) xs ≡ script_first_shows y a xs
first-shows-plain y a [] = refl
first-shows-plain y a (z ∷ zs) = tail-shows-plain y a z.class

split-shows-plain : (m : ScriptScan) (b : ℕ)
    → script_first_shows m.before (script_at_in sense.Re m.state.at) (reads m.senses (script_at_in sense.Re m.state.at) m.state.held b) ≡ script_split_shows m b
split-shows-plain m b =
    ap (λ (c : At). script_first_shows m.before (script_at_in sense.Re m.state.at) (read_at (tells_white_apart c) m.state.held (class_of b) b)) (in-twice (script_one_sense m.senses) sense.Re m.state.at)
    ∙ first-shows-plain m.before m.state.at (read_at (tells_white_apart (script_shared m).at) m.state.held (class_of b) b)

abbrev Agree : ScriptScan → (ScriptScan → Option Cause) → (Senses → JsTails → Bool → Option Cause) → Type 0
Agree m refuses by = (n : ScriptScan) → ScriptScanBelow n m → by n.senses n.before n.star ≡ refuses n

abbrev plain-at : ScriptScan → At
plain-at m = script_at_in sense.Re m.state.at

shown-whole : (m : ScriptScan) (refuses : ScriptScan → Option Cause) (by : Senses → JsTails → Bool → Option Cause) (e : Cause) → Agree m refuses by
    → ((n : ScriptScan) → ScriptScanBelow n m → by n.senses n.before n.star ≡ Some e) → IsScriptShownBy (Some member.Whole) m refuses e
shown-whole m refuses by e f g = (refl, λ n l o. sym (f n l) ∙ g n l)

bears : (m n : ScriptScan) (w : Member) → ScriptScanBelow n m → script_set_at m.senses m.before m.star (plain-at m) w ≡ true
    → (is_whole w ≡ true) ⊎ (script_set_has n w ≡ true) → script_set_at n.senses n.before n.star (plain-at m) w ≡ true
bears m n w l h (inl i) = absurd (set-not-whole m.senses m.before m.star (plain-at m) w h i)
bears m n w l h (inr i) = plain-has n (plain-at m) w (ap (λ (v : ScriptState). v.at) l.state) ∙ i

shown-one : (m : ScriptScan) (refuses : ScriptScan → Option Cause) (by : Senses → JsTails → Bool → Option Cause) (e : Cause) (w : Member) → Agree m refuses by
    → script_set_at m.senses m.before m.star (plain-at m) w ≡ true
    → ((n : ScriptScan) → ScriptScanBelow n m → script_set_at n.senses n.before n.star (plain-at m) w ≡ true → by n.senses n.before n.star ≡ Some e)
    → IsScriptShownBy (Some w) m refuses e
shown-one m refuses by e w f h g = (
  or-right-of (is_whole w) (script_set_has m w) (sym (set-plain m.senses m.before m.star m.state.at w) ∙ h),
  λ n l o. sym (f n l) ∙ g n l (bears m n w l h (or-cases (is_whole w) (script_set_has n w) o)),
)

apart-of : (n m : ScriptScan) → ScriptScanBelow n m → Apart n.senses m.senses m.state.literals (plain-at m) m.state.held
apart-of n m l = apart-plain n.senses m.senses m.state l.apart

-- A slash that is unclear, at a byte and at an end.
brace-there : (t : Senses) (y : JsTails) (l : Bool) (a : At) (z : Sense) → a ≡ Slash z → t.brace ≡ true → script_set_at t y l a member.SenseBrace ≡ true
brace-there t y l a z g h = set-of-sense t y l a member.SenseBrace (subst (λ (c : At). script_senses_at t c member.SenseBrace ≡ true) (sym g) h)

brace-borne : (s : Senses) (x : JsTails) (k : Bool) (a : At) (z : Sense) → a ≡ Slash z → script_set_at s x k a member.SenseBrace ≡ true → s.brace ≡ true
brace-borne s x k a z g h = subst (λ (c : At). script_senses_at s c member.SenseBrace ≡ true) g (sense-of-set s x k a member.SenseBrace h refl)

abbrev slash-cause : Cause
slash-cause = record { refusal = SlashAmbig; back = 1; shown = 1 }

unclear-differ : (m : ScriptScan) (z : Sense) → plain-at m ≡ Slash z → script_senses_differ m.senses ≡ true
    → (script_senses_differ m.senses ≡ true) × (script_set_has m member.SenseRe ≡ true) × (script_set_has m member.SenseDiv ≡ true)
unclear-differ m z g h =
    let both = both-true m.senses.re m.senses.div h in (
      h,
      sym (set-plain m.senses m.before m.star m.state.at member.SenseRe)
          ∙ set-of-sense m.senses m.before m.star (plain-at m) member.SenseRe (subst (λ (c : At). script_senses_at m.senses c member.SenseRe ≡ true) (sym g) both.0),
      sym (set-plain m.senses m.before m.star m.state.at member.SenseDiv)
          ∙ set-of-sense m.senses m.before m.star (plain-at m) member.SenseDiv (subst (λ (c : At). script_senses_at m.senses c member.SenseDiv ≡ true) (sym g) both.1),
    )

slash-shown : (m : ScriptScan) (refuses : ScriptScan → Option Cause) (by : Senses → JsTails → Bool → Option Cause) (z : Sense) (p : Bool) → m.senses.brace ≡ p
    → Agree m refuses by → plain-at m ≡ Slash z → IsUnclear m.senses
    → ((n : ScriptScan) → ScriptScanBelow n m → n.senses.brace ≡ true → m.senses.brace ≡ true → by n.senses n.before n.star ≡ Some slash-cause)
    → IsScriptShownBy (if p then Some member.SenseBrace else None) m refuses slash-cause
slash-shown m refuses by z true i f g h d =
    shown-one m refuses by slash-cause member.SenseBrace f (brace-there m.senses m.before m.star (plain-at m) z g i)
    (λ n l o. d n l (brace-borne n.senses n.before n.star (plain-at m) z g o) i)
slash-shown m refuses by z false i f g h d = unclear-differ m z g (sym (ap (λ (q : Bool). q || (m.senses.re && m.senses.div)) i) ∙ h)

plain-shown-by : (m : ScriptScan) (w : Member) (r : Refusal) → IsPlainRefusal r → script_shown_by m w r ≡ Some member.Whole
plain-shown-by m w SplitToken h = absurd h
plain-shown-by m w SlashAmbig h = absurd h
plain-shown-by m w r h = refl

-- at a byte
byte-agrees : (element : Bool) (b : ℕ) (m : ScriptScan)
    → Agree m (λ n. script_scan_error element n b) (λ s x k. error-at element s x k m.state.literals (plain-at m) m.state.held m.state.trail b)
byte-agrees element b m n l = ap (λ (w : ScriptState). script_scan_error element (script_scan n.senses n.before n.star w) b) (sym l.state) ∙ error-plain element n b

byte-split : (element : Bool) (b : ℕ) (m : ScriptScan) (e : Cause) → split-if (splits-at m.senses m.before m.star (plain-at m) m.state.held m.state.trail b) m.state.held ≡ Some e
    → IsScriptShownBy (script_shown_by m (script_split_shows m b) e.refusal) m (λ n. script_scan_error element n b) e
byte-split element b m e h =
    let a : At = plain-at m in
    let held : List ℕ = m.state.held in
    let u : Trail = m.state.trail in
    let fires = split-some (splits-at m.senses m.before m.star a held u b) held e h in
    let both = both-true u.fresh (script_first_goes_on m.before m.star (reads m.senses a held b)) fires.0 in
    let refuses : ScriptScan → Option Cause = λ n. script_scan_error element n b in
    let shows : Member = script_split_shows m b in
    subst (λ (z : Cause). IsScriptShownBy (script_shown_by m shows z.refusal) m refuses z) (some-same (record { refusal = SplitToken; back = length held; shown = length held }) e fires.1)
    (shown-one m refuses (λ s x k. error-at element s x k m.state.literals a held u b) (record { refusal = SplitToken; back = length held; shown = length held }) shows (byte-agrees element b m)
    (ap (λ (w : Member). script_set_at m.senses m.before m.star a w) (sym (split-shows-plain m b)) ∙ first-there m.senses m.before m.star a (reads m.senses a held b) both.1)
    (λ n l o. split-lower element n.senses m.senses n.before m.before n.star m.star m.state.literals a held u b (apart-of n m l) l.some l.senses both.0 both.1
    (ap (λ (w : Member). script_set_at n.senses n.before n.star a w) (split-shows-plain m b) ∙ o)))

brace-error : (element : Bool) (b : ℕ) (m n : ScriptScan) (z : Sense) → ScriptScanBelow n m → m.state.literals ≡ [] → plain-at m ≡ Slash z → begins-comment (class_of b) ≡ false
    → split-if (splits-at m.senses m.before m.star (plain-at m) m.state.held m.state.trail b) m.state.held ≡ None → n.senses.brace ≡ true → m.senses.brace ≡ true
    → error-at element n.senses n.before n.star m.state.literals (plain-at m) m.state.held m.state.trail b ≡ Some slash-cause
brace-error element b m n z l f g c o i j =
    ap₂ (λ (w : List ℕ) (a : At). error-at element n.senses n.before n.star w a m.state.held m.state.trail b) f g
    ∙ brace-lower element n.senses m.senses n.before m.before n.star m.star z m.state.held m.state.trail b i j l.before l.star
    (subst (λ (a : At). split-if (splits-at m.senses m.before m.star a m.state.held m.state.trail b) m.state.held ≡ None) g o) c

byte-rest : (element : Bool) (b : ℕ) (m : ScriptScan) (e : Cause) → split-if (splits-at m.senses m.before m.star (plain-at m) m.state.held m.state.trail b) m.state.held ≡ None
    → error-at element m.senses m.before m.star m.state.literals (plain-at m) m.state.held m.state.trail b ≡ Some e
    → RestView m.senses m.state.literals (plain-at m) (class_of b) e
    → IsScriptShownBy (script_shown_by m (script_split_shows m b) e.refusal) m (λ n. script_scan_error element n b) e
byte-rest element b m e o h (view_slash z f g d c i) =
    subst (λ (q : Cause). IsScriptShownBy (script_shown_by m (script_split_shows m b) q.refusal) m (λ n. script_scan_error element n b) q) (some-same slash-cause e i)
    (slash-shown m (λ n. script_scan_error element n b) (λ s x k. error-at element s x k m.state.literals (plain-at m) m.state.held m.state.trail b) z m.senses.brace refl
    (byte-agrees element b m) g d (λ n l p q. brace-error element b m n z l f g c o p q))
byte-rest element b m e o h (view_plain p c) =
    subst (λ (q : Option Member). IsScriptShownBy q m (λ n. script_scan_error element n b) e) (sym (plain-shown-by m (script_split_shows m b) e.refusal p))
    (shown-whole m (λ n. script_scan_error element n b) (λ s x k. error-at element s x k m.state.literals (plain-at m) m.state.held m.state.trail b) e (byte-agrees element b m)
    (λ n l. plain-lower element n.senses m.senses n.before m.before n.star m.star m.state.literals (plain-at m) m.state.held m.state.trail b e (apart-of n m l) l.some l.senses l.before l.star p c o h))

byte-by : (element : Bool) (b : ℕ) (m : ScriptScan) (e : Cause)
    → error-at element m.senses m.before m.star m.state.literals (plain-at m) m.state.held m.state.trail b ≡ Some e
    → (split-if (splits-at m.senses m.before m.star (plain-at m) m.state.held m.state.trail b) m.state.held ≡ Some e)
    ⊎ ((split-if (splits-at m.senses m.before m.star (plain-at m) m.state.held m.state.trail b) m.state.held ≡ None)
    × (rest-error m.senses m.state.literals (plain-at m) m.state.held m.state.trail element (class_of b) b ≡ Some e))
    → IsScriptShownBy (script_shown_by m (script_split_shows m b) e.refusal) m (λ n. script_scan_error element n b) e
byte-by element b m e h (inl i) = byte-split element b m e i
byte-by element b m e h (inr i) =
    byte-rest element b m e i.0 h (rest-view m.senses m.state.literals (plain-at m) m.state.held m.state.trail element (class_of b) b e i.1)

byte-shown : (element : Bool) (b : ℕ) (m : ScriptScan) (e : Cause) → script_scan_error element m b ≡ Some e
    → IsScriptShownBy (script_shown_by m (script_split_shows m b) e.refusal) m (λ n. script_scan_error element n b) e
byte-shown element b m e h =
    let upper = error-plain element m b ∙ h in
    byte-by element b m e upper (first-is (split-if (splits-at m.senses m.before m.star (plain-at m) m.state.held m.state.trail b) m.state.held)
    (rest-error m.senses m.state.literals (plain-at m) m.state.held m.state.trail element (class_of b) b) e upper)

-- The ends of a node and of a value: a slash that is unclear, or they are refused on each path.
abbrev IsNoSlash : Refusal → Type 0
IsNoSlash SlashAmbig = ⊥
IsNoSlash r = ⊤

some-no-slash : (x e : Cause) → Some x ≡ Some e → IsNoSlash x.refusal → IsNoSlash e.refusal
some-no-slash x e h i = subst (λ (z : Cause). IsNoSlash z.refusal) (some-same x e h) i

if-no-slash : (p : Bool) (x e : Cause) → (if p then Some x else None) ≡ Some e → IsNoSlash x.refusal → IsNoSlash e.refusal
if-no-slash true x e h i = some-no-slash x e h i
if-no-slash false x e h i = absurd (none-given e h)

markup-no-slash : (u : Trail) (e : Cause) → cut_markup_refusal u ≡ Some e → IsNoSlash e.refusal
markup-no-slash u e h = if-no-slash _ _ e h tt

if-else-no-slash : (p q : Bool) (x y e : Cause) → (if p then Some x else (if q then None else Some y)) ≡ Some e → IsNoSlash x.refusal → IsNoSlash y.refusal → IsNoSlash e.refusal
if-else-no-slash true q x y e h i j = some-no-slash x e h i
if-else-no-slash false true x y e h i j = absurd (none-given e h)
if-else-no-slash false false x y e h i j = some-no-slash y e h j

escape-no-slash : (u : Trail) (e : Cause) → escape_refusal u ≡ Some e → IsNoSlash e.refusal
escape-no-slash u e h = if-else-no-slash _ _ _ _ e h tt tt

regexp-no-slash : (u : Trail) (e : Cause) → (escape_refusal u ≡ Some e) ⊎ ((escape_refusal u ≡ None) × (cut_markup_refusal u ≡ Some e)) → IsNoSlash e.refusal
regexp-no-slash u e (inl h) = escape-no-slash u e h
regexp-no-slash u e (inr h) = markup-no-slash u e h.1

data EndsSum (re div brace : Bool) (e : Cause) : Type 0 where
  ends_slash : (brace || (re && div)) ≡ true → cause SlashAmbig 1 1 ≡ Some e → EndsSum re div brace e
  ends_other : IsNoSlash e.refusal → ((brace || (re && div)) ≡ true → ⊥) → EndsSum re div brace e

cut-sum : (re div brace : Bool) (z : Sense) (u : Trail) (e : Cause)
    → first_script_cause (script_slash_error (re && div) [] (Slash z)) (whole_cut_refusal [] (Slash (script_one_sense (record { re = re; div = div; brace = brace }))) u) ≡ Some e
    → EndsSum re div brace e
cut-sum true true true z u e h = ends_slash refl h
cut-sum true true false z u e h = ends_slash refl h
cut-sum true false true z u e h = ends_slash refl h
cut-sum false true true z u e h = ends_slash refl h
cut-sum false false true z u e h = ends_slash refl h
cut-sum true false false z u e h = ends_other (markup-no-slash u e h) (λ i. no (sym i))
cut-sum false true false z u e h = ends_other (markup-no-slash u e h) (λ i. no (sym i))
cut-sum false false false z u e h = ends_other (markup-no-slash u e h) (λ i. no (sym i))

end-sum : (re div brace : Bool) (z : Sense) (u : Trail) (e : Cause)
    → first_script_cause (script_slash_error (re && div) [] (Slash z)) (end_refusal_at [] (Slash (script_one_sense (record { re = re; div = div; brace = brace }))) u) ≡ Some e
    → EndsSum re div brace e
end-sum true true true z u e h = ends_slash refl h
end-sum true true false z u e h = ends_slash refl h
end-sum true false true z u e h = ends_slash refl h
end-sum false true true z u e h = ends_slash refl h
end-sum false false true z u e h = ends_slash refl h
end-sum true false false z u e h = absurd (none-given e h)
end-sum false true false z u e h = absurd (none-given e h)
end-sum false false false z u e h = absurd (none-given e h)

data EndView (t : Senses) (fs : List ℕ) (a : At) (held : List ℕ) (e : Cause) : Type 0 where
  at_slash : (z : Sense) → held ≡ [] → fs ≡ [] → a ≡ Slash z → IsUnclear t → cause SlashAmbig 1 1 ≡ Some e → EndView t fs a held e
  at_other : IsNoSlash e.refusal → ((z : Sense) → held ≡ [] → fs ≡ [] → a ≡ Slash z → IsUnclear t → ⊥) → EndView t fs a held e

end-view-sum : (t : Senses) (z : Sense) (e : Cause) → EndsSum t.re t.div t.brace e → EndView t [] (Slash z) [] e
end-view-sum t z e (ends_slash h i) = at_slash z refl refl refl h i
end-view-sum t z e (ends_other h i) = at_other h (λ w f g j. i)

slash-inside : (d : Bool) (n : ℕ) (fs : List ℕ) (a : At) → script_slash_error d (n ∷ fs) a ≡ None
slash-inside true n fs a = refl
slash-inside false n fs a = refl

slash-other : (d : Bool) (a : At) → NotSlash a → script_slash_error d [] a ≡ None
slash-other true (Slash z) h = absurd h
slash-other true a h = refl
slash-other false a h = refl

cut-no-slash : (o : Sense) (a : At) (u : Trail) (e : Cause) → NotSlash a → cut_refusal_at (script_at_in o a) u ≡ Some e → IsNoSlash e.refusal
cut-no-slash o (Slash z) u e h i = absurd h
cut-no-slash o (InString q r) u e h i = escape-no-slash u e i
cut-no-slash o (InRegexp true r) u e h i = some-no-slash _ e i tt
cut-no-slash o (InRegexp false r) u e h i = regexp-no-slash u e (first-is (escape_refusal u) (cut_markup_refusal u) e i)
cut-no-slash o (Code z) u e h i = markup-no-slash u e i
cut-no-slash o (LineComment z) u e h i = markup-no-slash u e i
cut-no-slash o (BlockComment z star) u e h i = markup-no-slash u e i
cut-no-slash o a u e h i = markup-no-slash u e i

abbrev cut-at : Senses → List ℕ → At → List ℕ → Trail → Option Cause
cut-at t fs a h u = unless_in_character h (first_script_cause (script_slash_error (script_senses_differ t) fs a) (whole_cut_refusal fs (script_at_in (script_one_sense t) a) u))

cut-whole-view : (t : Senses) (a : At) (u : Trail) (e : Cause) → cut-at t [] a [] u ≡ Some e → EndView t [] a [] e
cut-whole-view t (Slash z) u e h = end-view-sum t z e (cut-sum t.re t.div t.brace z u e h)
cut-whole-view t a u e h = at_other (cut-no-slash (script_one_sense t) a u e tt (behind-none _ _ e (slash-other (script_senses_differ t) a tt) h)) (λ z f g i d. no-slash a z tt i)

cut-view : (t : Senses) (fs : List ℕ) (a : At) (h : List ℕ) (u : Trail) (e : Cause) → cut-at t fs a h u ≡ Some e → EndView t fs a h e
cut-view t [] a [] u e i = cut-whole-view t a u e i
cut-view t (n ∷ fs) a [] u e i =
    at_other (some-no-slash _ e (behind-none _ _ e (slash-inside (script_senses_differ t) n fs a) i) tt) (λ z f g j d. cons-empty n fs g)
cut-view t fs a (b ∷ h) u e i = at_other (some-no-slash _ e i tt) (λ z f g j d. cons-empty b h f)

abbrev end-at : Senses → List ℕ → At → Trail → Option Cause
end-at t fs a u = first_script_cause (script_slash_error (script_senses_differ t) fs a) (end_refusal_at fs (script_at_in (script_one_sense t) a) u)

end-no-slash : (o : Sense) (a : At) (u : Trail) (e : Cause) → NotSlash a → end_refusal_at [] (script_at_in o a) u ≡ Some e → IsNoSlash e.refusal
end-no-slash o (Slash z) u e h i = absurd h
end-no-slash o TooDeep u e h i = some-no-slash _ e i tt
end-no-slash o a u e h i = absurd (none-given e i)

inside-no-slash : (o : Sense) (n : ℕ) (fs : List ℕ) (a : At) (u : Trail) (e : Cause) → end_refusal_at (n ∷ fs) (script_at_in o a) u ≡ Some e → IsNoSlash e.refusal
inside-no-slash o n fs TooDeep u e i = some-no-slash _ e i tt
inside-no-slash o n fs a u e i = absurd (none-given e i)

-- the end of a value does not look at what is held back
data ValueEndView (t : Senses) (fs : List ℕ) (a : At) (e : Cause) : Type 0 where
  value_slash : (z : Sense) → fs ≡ [] → a ≡ Slash z → IsUnclear t → cause SlashAmbig 1 1 ≡ Some e → ValueEndView t fs a e
  value_other : IsNoSlash e.refusal → ((z : Sense) → fs ≡ [] → a ≡ Slash z → IsUnclear t → ⊥) → ValueEndView t fs a e

value-end-sum : (t : Senses) (z : Sense) (e : Cause) → EndsSum t.re t.div t.brace e → ValueEndView t [] (Slash z) e
value-end-sum t z e (ends_slash h i) = value_slash z refl refl h i
value-end-sum t z e (ends_other h i) = value_other h (λ w f g. i)

end-view : (t : Senses) (fs : List ℕ) (a : At) (u : Trail) (e : Cause) → end-at t fs a u ≡ Some e → ValueEndView t fs a e
end-view t [] (Slash z) u e i = value-end-sum t z e (end-sum t.re t.div t.brace z u e i)
end-view t [] a u e i = value_other (end-no-slash (script_one_sense t) a u e tt (behind-none _ _ e (slash-other (script_senses_differ t) a tt) i)) (λ z k l d. no-slash a z tt l)
end-view t (n ∷ fs) a u e i =
    value_other (inside-no-slash (script_one_sense t) n fs a u e (behind-none _ _ e (slash-inside (script_senses_differ t) n fs a) i)) (λ z k l d. cons-empty n fs k)

-- below: the same, where the slash is clear
kept-ends : (s t : Senses) (a : At) (h : List ℕ) (u : Trail) → KeepsSense a → cut-at s [] a h u ≡ cut-at t [] a h u
kept-ends s t a h u keeps =
    ap₂ (λ (p q : Option Cause). unless_in_character h (first_script_cause p q))
    (kept-slash (script_senses_differ s) a keeps ∙ sym (kept-slash (script_senses_differ t) a keeps)) (kept-cut (script_one_sense s) (script_one_sense t) a u keeps)

kept-value-ends : (s t : Senses) (a : At) (u : Trail) → KeepsSense a → end-at s [] a u ≡ end-at t [] a u
kept-value-ends s t a u keeps =
    ap₂ first_script_cause (kept-slash (script_senses_differ s) a keeps ∙ sym (kept-slash (script_senses_differ t) a keeps)) (kept-end (script_one_sense s) (script_one_sense t) a u keeps)

clear-cut : (s t : Senses) (z : Sense) (u : Trail) → (s ≡ t) ⊎ IsUnclear t → (IsUnclear t → ⊥) → cut-at s [] (Slash z) [] u ≡ cut-at t [] (Slash z) [] u
clear-cut s t z u (inl e) f = ap (λ (w : Senses). cut-at w [] (Slash z) [] u) e
clear-cut s t z u (inr d) f = absurd (f d)

clear-end : (s t : Senses) (z : Sense) (u : Trail) → (s ≡ t) ⊎ IsUnclear t → (IsUnclear t → ⊥) → end-at s [] (Slash z) u ≡ end-at t [] (Slash z) u
clear-end s t z u (inl e) f = ap (λ (w : Senses). end-at w [] (Slash z) u) e
clear-end s t z u (inr d) f = absurd (f d)

differ-cut : (s t : Senses) (a : At) (h : List ℕ) (u : Trail) → MayDifferInSense a h → some_sense s ≡ true → both_senses s t ≡ t
    → ((z : Sense) → h ≡ [] → a ≡ Slash z → IsUnclear t → ⊥) → cut-at s [] a h u ≡ cut-at t [] a h u
differ-cut s t _ _ u (differ_within a h keeps) i j f = kept-ends s t a h u keeps
differ-cut s t _ _ u (differ_behind_slash z) i j f = clear-cut s t z u (same-or-unclear s t i j) (f z refl refl)

differ-end : (s t : Senses) (a : At) (h : List ℕ) (u : Trail) → MayDifferInSense a h → some_sense s ≡ true → both_senses s t ≡ t
    → ((z : Sense) → a ≡ Slash z → IsUnclear t → ⊥) → end-at s [] a u ≡ end-at t [] a u
differ-end s t _ _ u (differ_within a h keeps) i j f = kept-value-ends s t a u keeps
differ-end s t _ _ u (differ_behind_slash z) i j f = clear-end s t z u (same-or-unclear s t i j) (f z refl)

cut-lower : (s t : Senses) (fs : List ℕ) (a : At) (h : List ℕ) (u : Trail) → Apart s t fs a h → some_sense s ≡ true → both_senses s t ≡ t
    → ((z : Sense) → h ≡ [] → fs ≡ [] → a ≡ Slash z → IsUnclear t → ⊥) → cut-at s fs a h u ≡ cut-at t fs a h u
cut-lower s t fs a h u (inl e) i j f = ap (λ (w : Senses). cut-at w fs a h u) e
cut-lower s t fs a h u (inr d) i j f =
    subst (λ (w : List ℕ). cut-at s w a h u ≡ cut-at t w a h u) (sym d.0) (differ-cut s t a h u d.1 i j (λ z k l. f z k d.0 l))

end-lower : (s t : Senses) (fs : List ℕ) (a : At) (h : List ℕ) (u : Trail) → Apart s t fs a h → some_sense s ≡ true → both_senses s t ≡ t
    → ((z : Sense) → fs ≡ [] → a ≡ Slash z → IsUnclear t → ⊥) → end-at s fs a u ≡ end-at t fs a u
end-lower s t fs a h u (inl e) i j f = ap (λ (w : Senses). end-at w fs a u) e
end-lower s t fs a h u (inr d) i j f =
    subst (λ (w : List ℕ). end-at s w a u ≡ end-at t w a u) (sym d.0) (differ-end s t a h u d.1 i j (λ z l. f z d.0 l))

-- behind `}`
brace-cut-by : (d : Bool) (z : Sense) (u : Trail) → first_script_cause (script_slash_error d [] (Slash z)) (whole_cut_refusal [] (Slash sense.Brace) u) ≡ Some slash-cause
brace-cut-by true z u = refl
brace-cut-by false z u = refl

brace-end-by : (d : Bool) (z : Sense) (u : Trail) → first_script_cause (script_slash_error d [] (Slash z)) (end_refusal_at [] (Slash sense.Brace) u) ≡ Some slash-cause
brace-end-by true z u = refl
brace-end-by false z u = refl

brace-cut : (s : Senses) (fs : List ℕ) (a : At) (h : List ℕ) (u : Trail) (z : Sense) → s.brace ≡ true → h ≡ [] → fs ≡ [] → a ≡ Slash z → cut-at s fs a h u ≡ Some slash-cause
brace-cut s fs a h u z i e f g =
    (λ j. cut-at s (f j) (g j) (e j) u)
    ∙ (ap (λ (w : Sense). first_script_cause (script_slash_error (script_senses_differ s) [] (Slash z)) (whole_cut_refusal [] (Slash w) u)) (brace-one s i)
    ∙ brace-cut-by (script_senses_differ s) z u)

brace-end : (s : Senses) (fs : List ℕ) (a : At) (u : Trail) (z : Sense) → s.brace ≡ true → fs ≡ [] → a ≡ Slash z → end-at s fs a u ≡ Some slash-cause
brace-end s fs a u z i f g =
    ap₂ (λ (w : List ℕ) (c : At). end-at s w c u) f g
    ∙ (ap (λ (w : Sense). first_script_cause (script_slash_error (script_senses_differ s) [] (Slash z)) (end_refusal_at [] (Slash w) u)) (brace-one s i)
    ∙ brace-end-by (script_senses_differ s) z u)

other-shown-by : (m : ScriptScan) (r : Refusal) → IsNoSlash r → script_shown_by m member.Whole r ≡ Some member.Whole
other-shown-by m SlashAmbig h = absurd h
other-shown-by m SplitToken h = refl
other-shown-by m r h = refl

cut-agrees : (m : ScriptScan) → Agree m script_scan_cut_error (λ s x k. cut-at s m.state.literals (plain-at m) m.state.held m.state.trail)
cut-agrees m n l = ap (λ (w : ScriptState). script_scan_cut_error (script_scan n.senses n.before n.star w)) (sym l.state) ∙ cut-plain n

end-agrees : (m : ScriptScan) → Agree m script_scan_end_error (λ s x k. end-at s m.state.literals (plain-at m) m.state.trail)
end-agrees m n l = ap (λ (w : ScriptState). script_scan_end_error (script_scan n.senses n.before n.star w)) (sym l.state) ∙ end-plain n

cut-by : (m : ScriptScan) (e : Cause) → cut-at m.senses m.state.literals (plain-at m) m.state.held m.state.trail ≡ Some e
    → EndView m.senses m.state.literals (plain-at m) m.state.held e → IsScriptShownBy (script_shown_by m member.Whole e.refusal) m script_scan_cut_error e
cut-by m e h (at_slash z i f g d o) =
    subst (λ (q : Cause). IsScriptShownBy (script_shown_by m member.Whole q.refusal) m script_scan_cut_error q) (some-same slash-cause e o)
    (slash-shown m script_scan_cut_error (λ s x k. cut-at s m.state.literals (plain-at m) m.state.held m.state.trail) z m.senses.brace refl (cut-agrees m) g d
    (λ n l p q. brace-cut n.senses m.state.literals (plain-at m) m.state.held m.state.trail z p i f g))
cut-by m e h (at_other p f) =
    subst (λ (q : Option Member). IsScriptShownBy q m script_scan_cut_error e) (sym (other-shown-by m e.refusal p))
    (shown-whole m script_scan_cut_error (λ s x k. cut-at s m.state.literals (plain-at m) m.state.held m.state.trail) e (cut-agrees m)
    (λ n l. cut-lower n.senses m.senses m.state.literals (plain-at m) m.state.held m.state.trail (apart-of n m l) l.some l.senses f ∙ h))

cut-shown : (m : ScriptScan) (e : Cause) → script_scan_cut_error m ≡ Some e → IsScriptShownBy (script_shown_by m member.Whole e.refusal) m script_scan_cut_error e
cut-shown m e h =
    cut-by m e (cut-plain m ∙ h) (cut-view m.senses m.state.literals (plain-at m) m.state.held m.state.trail e (cut-plain m ∙ h))

end-by : (m : ScriptScan) (e : Cause) → end-at m.senses m.state.literals (plain-at m) m.state.trail ≡ Some e
    → ValueEndView m.senses m.state.literals (plain-at m) e → IsScriptShownBy (script_shown_by m member.Whole e.refusal) m script_scan_end_error e
end-by m e h (value_slash z f g d o) =
    subst (λ (q : Cause). IsScriptShownBy (script_shown_by m member.Whole q.refusal) m script_scan_end_error q) (some-same slash-cause e o)
    (slash-shown m script_scan_end_error (λ s x k. end-at s m.state.literals (plain-at m) m.state.trail) z m.senses.brace refl (end-agrees m) g d
    (λ n l p q. brace-end n.senses m.state.literals (plain-at m) m.state.trail z p f g))
end-by m e h (value_other p f) =
    subst (λ (q : Option Member). IsScriptShownBy q m script_scan_end_error e) (sym (other-shown-by m e.refusal p))
    (shown-whole m script_scan_end_error (λ s x k. end-at s m.state.literals (plain-at m) m.state.trail) e (end-agrees m)
    (λ n l. end-lower n.senses m.senses m.state.literals (plain-at m) m.state.held m.state.trail (apart-of n m l) l.some l.senses f ∙ h))

end-shown : (m : ScriptScan) (e : Cause) → script_scan_end_error m ≡ Some e → IsScriptShownBy (script_shown_by m member.Whole e.refusal) m script_scan_end_error e
end-shown m e h = end-by m e (end-plain m ∙ h) (end-view m.senses m.state.literals (plain-at m) m.state.trail e (end-plain m ∙ h))

pub scripts-shown : ScriptsShown
scripts-shown = record { byte = byte-shown; cut = cut-shown; end = end-shown }
