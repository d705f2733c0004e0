-- Behind a byte that is accepted each path has kept what a slash would be, or all have the same.
use Rattle.std.proofs.Common.{◌≡◌, ◌∙◌, ◌⊎◌, inl, inr, ℕ, Bool, true, false, ◌&&◌, not, List, [], ◌∷◌, None, refl, sym, ap, ap₂, subst}
use Rattle.js_lexer.specs.Classes.{class_of}
use Rattle.js_lexer.specs.Feeding.{tells_white_apart, read_at, held_at, points, feed_script, point_of}
use Rattle.js_lexer.specs.States.{At, ScriptPoint, Trail, ScriptState}
use Rattle.js_lexer.specs.Trails.{is_empty}
use Rattle.js_lexer.specs.WhiteSpace.{ClassedByte}
use Rattle.js_lexer.specs.declared.sense.Sense.{Sense}
use Rattle.js_lexer.specs.declared.sense.Sense.TheVariants as sense
use Rattle.place_core.specs.declared.senses.Senses.{Senses}
use Rattle.place_core.specs.place.LanguagePlaces.{both_senses, some_sense}
use Rattle.place_core.specs.place.ScriptParts.{script_senses}
use Rattle.js_step.specs.ScriptScanOrder.{MayDifferInSense, differ_within, differ_behind_slash, ScriptScanBelow}
use Rattle.js_step.specs.ScriptScans.{ScriptScan, script_scan, script_at_in, script_in_sense, script_sense_at, script_sense_next, script_senses_next, script_scan_next, script_scan_error}
use Rattle.js_step.specs.ScriptSetLaws.{KeepsSense, keeps_code, keeps_line, keeps_block}
use Rattle.js_step.proofs.ScriptGrowth.{state-of, apart-plain}
use Rattle.js_step.proofs.SensePoints.{SenseLeads, leads_within, leads_behind_slash, leads_alike, sense-point, sense-leads}
use Rattle.js_step.proofs.SensesBelow.{senses-plain, next-united, some-more, picked, error-plain}
use Rattle.js_step.proofs.SlashComments.{slash-state, comment-at, comment-by, comment-leads-at, IsUnclear, unclear-byte, same-or-unclear}

no : true ≡ false → ⊥
no e = cc

own-next : (p : Bool) (r : Sense) (v : ScriptState) (b : ℕ) → script_sense_at (feed_script (script_in_sense r v) b).at ≡ r → script_sense_next p r v b ≡ picked p (script_senses r)
own-next true r v b h = ap script_senses h
own-next false r v b h = refl

own-three : (p q w : Bool) → both_senses (picked p (script_senses sense.Re)) (both_senses (picked q (script_senses sense.Div)) (picked w (script_senses sense.Brace))) ≡ record { re = p; div = q; brace = w }
own-three true true true = refl
own-three true true false = refl
own-three true false true = refl
own-three true false false = refl
own-three false true true = refl
own-three false true false = refl
own-three false false true = refl
own-three false false false = refl

pub senses-kept : (s : Senses) (v : ScriptState) (b : ℕ) → ((r : Sense) → script_sense_at (feed_script (script_in_sense r v) b).at ≡ r) → script_senses_next s v b ≡ s
senses-kept s v b f =
    ap₂ both_senses (own-next s.re sense.Re v b (f sense.Re)) (ap₂ both_senses (own-next s.div sense.Div v b (f sense.Div)) (own-next s.brace sense.Brace v b (f sense.Brace)))
    ∙ own-three s.re s.div s.brace

pub sense-in : (r : Sense) (a : At) → KeepsSense a → script_sense_at (script_at_in r a) ≡ r
sense-in r _ (keeps_code s) = refl
sense-in r _ (keeps_line s) = refl
sense-in r _ (keeps_block s star) = refl

-- Of the senses `s` among `t`, in a state: both are kept where paths may differ, or come to the same.
pub data SensesBehind (s t : Senses) (v : ScriptState) (b : ℕ) : Type 0 where
  senses_stay : v.literals ≡ [] → MayDifferInSense v.at v.held → script_senses_next s v b ≡ s → script_senses_next t v b ≡ t → SensesBehind s t v b
  senses_meet : script_senses_next s v b ≡ script_senses_next t v b → SensesBehind s t v b

within-behind : (s t : Senses) (a : At) (h : List ℕ) (u : Trail) (b : ℕ) (r : Sense) → KeepsSense a → some_sense s ≡ true → some_sense t ≡ true
    → SenseLeads (sense-point a h b) (held_at (tells_white_apart (script_at_in r a)) h b) → SensesBehind s t (state-of [] a h u) b
within-behind s t a h u b r keeps i j (leads_within d k f) =
    let own : ((z : Sense) → script_sense_at (feed_script (script_in_sense z (state-of [] a h u)) b).at ≡ z) =
    λ z. ap (λ (p : ScriptPoint). script_sense_at p.at) (f z) ∙ sense-in z d k in
    senses_stay refl (differ_within a h keeps) (senses-kept s (state-of [] a h u) b own) (senses-kept t (state-of [] a h u) b own)
within-behind s t a h u b r keeps i j (leads_behind_slash e f) =
    let own : ((z : Sense) → script_sense_at (feed_script (script_in_sense z (state-of [] a h u)) b).at ≡ z) =
    λ z. ap (λ (p : ScriptPoint). script_sense_at p.at) (f z) in
    senses_stay refl (differ_within a h keeps) (senses-kept s (state-of [] a h u) b own) (senses-kept t (state-of [] a h u) b own)
within-behind s t a h u b r keeps i j (leads_alike p f) =
    senses_meet (
    next-united s i (state-of [] a h u) b p.at (λ z. ap (λ (w : ScriptPoint). w.at) (f z))
    ∙ sym (next-united t j (state-of [] a h u) b p.at (λ z. ap (λ (w : ScriptPoint). w.at) (f z)))
    )

comment-sense : (line : Bool) (r : Sense) → script_sense_at (comment-at line r) ≡ r
comment-sense true r = refl
comment-sense false r = refl

comment-own : (z : Sense) (u : Trail) (line : Bool) (r : Sense) → script_sense_at (feed_script (script_in_sense r (slash-state z u)) (comment-by line)).at ≡ r
comment-own z u line r = ap script_sense_at (comment-leads-at line r u) ∙ comment-sense line r

pub comment-line : (b : ℕ) → (b ≡ 47) ⊎ (b ≡ 42) → (line : Bool) × (b ≡ comment-by line)
comment-line b (inl e) = (true, e)
comment-line b (inr e) = (false, e)

pub slash-own : (z : Sense) (u : Trail) (b : ℕ) → (b ≡ 47) ⊎ (b ≡ 42) → (r : Sense) → script_sense_at (feed_script (script_in_sense r (slash-state z u)) b).at ≡ r
slash-own z u b d r =
    let line = comment-line b d in
    subst (λ (c : ℕ). script_sense_at (feed_script (script_in_sense r (slash-state z u)) c).at ≡ r) (sym line.1) (comment-own z u line.0 r)

-- the error is one of the scan that has the state and the senses
slash-behind : (s t : Senses) (z : Sense) (u : Trail) (b : ℕ) → (s ≡ t) ⊎ IsUnclear t → (IsUnclear t → (b ≡ 47) ⊎ (b ≡ 42)) → SensesBehind s t (slash-state z u) b
slash-behind s t z u b (inl e) f = senses_meet (ap (λ (w : Senses). script_senses_next w (slash-state z u) b) e)
slash-behind s t z u b (inr d) f =
    senses_stay refl (differ_behind_slash z) (senses-kept s (slash-state z u) b (slash-own z u b (f d))) (senses-kept t (slash-state z u) b (slash-own z u b (f d)))

differ-behind : (s t : Senses) (n : ScriptScan) (element : Bool) (a : At) (h : List ℕ) (u : Trail) (b : ℕ) → MayDifferInSense a h → some_sense s ≡ true → both_senses s t ≡ t
    → script_scan_error element (script_scan t n.before n.star (state-of [] a h u)) b ≡ None → SensesBehind s t (state-of [] a h u) b
differ-behind s t n element _ _ u b (differ_within a h keeps) i j e =
    within-behind s t a h u b sense.Re keeps i (some-more s t i j) (sense-leads a keeps h b sense.Re)
differ-behind s t n element _ _ u b (differ_behind_slash z) i j e =
    slash-behind s t z u b (same-or-unclear s t i j) (λ d. unclear-byte t n.before n.star z u element b d e)

parts-behind : (s t : Senses) (n : ScriptScan) (element : Bool) (fs : List ℕ) (a : At) (h : List ℕ) (u : Trail) (b : ℕ) → (s ≡ t) ⊎ ((fs ≡ []) × MayDifferInSense a h)
    → some_sense s ≡ true → both_senses s t ≡ t → script_scan_error element (script_scan t n.before n.star (state-of fs a h u)) b ≡ None
    → SensesBehind s t (state-of fs a h u) b
parts-behind s t n element fs a h u b (inl e) i j o = senses_meet (ap (λ (w : Senses). script_senses_next w (state-of fs a h u) b) e)
parts-behind s t n element fs a h u b (inr d) i j o =
    subst (λ (z : List ℕ). SensesBehind s t (state-of z a h u) b) (sym d.0)
    (differ-behind s t n element a h u b d.1 i j (subst (λ (z : List ℕ). script_scan_error element (script_scan t n.before n.star (state-of z a h u)) b ≡ None) d.0 o))

-- of two scans: in the state of the upper one, in one sense
pub senses-behind : (n m : ScriptScan) (element : Bool) (b : ℕ) → ScriptScanBelow n m → script_scan_error element m b ≡ None
    → SensesBehind n.senses m.senses (script_in_sense sense.Re m.state) b
senses-behind n m element b h e =
    parts-behind n.senses m.senses m element m.state.literals (script_at_in sense.Re m.state.at) m.state.held m.state.trail b
    (apart-plain n.senses m.senses m.state h.apart) h.some h.senses (error-plain element m b ∙ e)

pub lower-senses : (n m : ScriptScan) (b : ℕ) → ScriptScanBelow n m → (script_scan_next n b).senses ≡ script_senses_next n.senses (script_in_sense sense.Re m.state) b
lower-senses n m b h = sym (senses-plain n.senses n.state b) ∙ ap (λ (v : ScriptState). script_senses_next n.senses v b) h.state

pub upper-senses : (m : ScriptScan) (b : ℕ) → (script_scan_next m b).senses ≡ script_senses_next m.senses (script_in_sense sense.Re m.state) b
upper-senses m b = sym (senses-plain m.senses m.state b)

-- While the first character has not been read the path stays where it is.
and-second : (p q : Bool) → (p && q) ≡ true → q ≡ true
and-second true q h = h
and-second false q h = absurd (no (sym h))

and-first : (p q : Bool) → (p && q) ≡ true → p ≡ true
and-first true q h = refl
and-first false q h = h

none-read : (xs : List ClassedByte) (p : ScriptPoint) → not (not (is_empty xs)) ≡ true → points xs p ≡ p
none-read [] p h = refl
none-read (x ∷ xs) p h = absurd (no (sym h))

pub fresh-stays : (v : ScriptState) (b : ℕ) → (feed_script v b).trail.fresh ≡ true → (feed_script v b).at ≡ v.at
fresh-stays v b h =
    ap (λ (p : ScriptPoint). p.at) (none-read (read_at (tells_white_apart v.at) v.held (class_of b) b) (point_of v) (and-second v.trail.fresh _ h))

pub star-fresh : (fresh k : Bool) → (fresh && k) ≡ true → fresh ≡ true
star-fresh fresh k h = and-first fresh k h
