-- Members of a scan state of a script behind a byte, and of the place at the end of a node, come from members before.
use Rattle.std.specs.Prelude.{⊤}
use Rattle.std.proofs.Common.{◌≡◌, ◌∙◌, ◌⊎◌, inl, inr, ℕ, Bool, true, false, ◌||◌, ◌&&◌, List, [], None, if◌then◌else◌, refl, sym, ap, ap₂, subst}
use Rattle.js_lexer.specs.States.{ScriptEscape, NoEscape, At, Code, Word, Number, Pluses, Minuses, Slash, LineComment, BlockComment, InString, InRegexp, InTemplate, TooDeep, Trail, ScriptState}
use Rattle.js_lexer.specs.declared.sense.Sense.{Sense}
use Rattle.js_lexer.specs.declared.sense.Sense.TheVariants as sense
use Rattle.place_core.specs.declared.js.Js.{Js}
use Rattle.place_core.specs.declared.js.Js.TheVariants as js
use Rattle.place_core.specs.declared.js_tails.JsTails.{JsTails}
use Rattle.place_core.specs.declared.member.Member.{Member}
use Rattle.place_core.specs.declared.member.Member.TheVariants as member
use Rattle.place_core.specs.declared.senses.Senses.{Senses}
use Rattle.place_core.specs.place.LanguagePlaces.{both_senses, js_has, js_star_has, js_tails_have, regexp_has, senses_have, some_sense}
use Rattle.place_core.specs.place.ScriptParts.{script_tails, script_no_tails, script_senses, script_quote_place}
use Rattle.js_step.specs.ScriptOrigins.{script_but_slash, script_senses_at, script_tails_at, script_set_at, script_set_has, ScriptsComeFrom}
use Rattle.js_step.specs.ScriptScanOrder.{MayDifferInSense, differ_within, differ_behind_slash, ScriptScanBelow}
use Rattle.js_step.specs.ScriptScans.{ScriptScan, script_scan, script_at_in, script_in_sense, script_one_sense, script_shared, script_tail_at, script_star_at, script_senses_next, script_slash_place, script_slash_tail, script_place_at, script_tails_next, script_tails_held, script_scan_start, script_scan_next, script_scan_error, script_scan_cut_error, script_scan_place}
use Rattle.js_step.specs.ScriptSetLaws.{KeepsSense, keeps_code, keeps_line, keeps_block}
use Rattle.js_step.proofs.MemberKinds.{kind_sense, kind_tail, kind_star, kind-of, sense-kind, tail-kind, regexp-kind, star-kind, or-cases, or-left, or-right-of, SetCases, set_sense, set_tail, set_star, set-cases, sense-of-set, tail-of-set, star-of-set, set-of-sense, set-of-tail, set-of-star, set-plain, senses-there, senses-have, tails-were, tails-keep, no-tails-at}
use Rattle.js_step.proofs.NextSenses.{SensesBehind, senses_stay, senses_meet, senses-behind, lower-senses, upper-senses, fresh-stays, star-fresh}
use Rattle.js_step.proofs.ScriptGrowth.{state-of, apart-plain, scan-grows}
use Rattle.js_step.proofs.SensesBelow.{in-twice, cut-plain, place-plain}
use Rattle.js_step.proofs.SlashComments.{IsUnclear, unclear-cut, same-or-unclear}

no : true ≡ false → ⊥
no e = cc

-- A member behind: it was so before, and is kept by each path that bears it; or it is so on this path, whatever it bore.
data Trace (upper lower behind : Bool) : Type 0 where
  trace_itself : upper ≡ true → (lower ≡ true → behind ≡ true) → Trace upper lower behind
  trace_whole : behind ≡ true → Trace upper lower behind

by-itself : (u l b : Bool) → Trace u l b → l ≡ true → b ≡ true
by-itself u l b (trace_itself h f) i = f i
by-itself u l b (trace_whole h) i = h

by-whole : (u l b : Bool) → Trace u l b → u ≡ false → b ≡ true
by-whole u l b (trace_itself h f) i = absurd (no (sym h ∙ i))
by-whole u l b (trace_whole h) i = h

-- where both are in one state `a`, and both come to `d`
abbrev TraceAt : (s t : Senses) (x y : JsTails) (k l : Bool) → At → Senses → JsTails → Bool → At → Member → Type 0
TraceAt s t x y k l a p z w d m = Trace (script_set_at t y l a m) (script_set_at s x k a m) (script_set_at p z w d m)

-- a sense
pub differ-has : (s : Senses) (a : At) (held : List ℕ) (m : Member) → MayDifferInSense a held → senses_have s m ≡ true → script_senses_at s a m ≡ true
differ-has s _ _ m (differ_within _ h (keeps_code z)) i = i
differ-has s _ _ m (differ_within _ h (keeps_line z)) i = i
differ-has s _ _ m (differ_within _ h (keeps_block z star)) i = i
differ-has s _ _ m (differ_behind_slash z) i = i

sense-trace : (s t : Senses) (x y z : JsTails) (k l w : Bool) (v : ScriptState) (b : ℕ) (d : At) (m : Member) → SensesBehind s t v b
    → script_senses_at (script_senses_next t v b) d m ≡ true → kind-of m ≡ kind_sense
    → TraceAt s t x y k l v.at (script_senses_next s v b) z w d m
sense-trace s t x y z k l w v b d m (senses_stay o p e f) h i =
    let has : senses_have t m ≡ true = subst (λ (q : Senses). senses_have q m ≡ true) f (senses-have (script_senses_next t v b) d m h) in
    trace_itself (set-of-sense t y l v.at m (differ-has t v.at v.held m p has))
    (λ j. set-of-sense (script_senses_next s v b) z w d m (senses-there (script_senses_next t v b) (script_senses_next s v b) d m h
    (subst (λ (q : Senses). senses_have q m ≡ true) (sym e) (senses-have s v.at m (sense-of-set s x k v.at m j i)))))
sense-trace s t x y z k l w v b d m (senses_meet e) h i =
    trace_whole (set-of-sense (script_senses_next s v b) z w d m (subst (λ (q : Senses). script_senses_at q d m ≡ true) (sym e) h))

-- a tail
tail-trace : (s t p : Senses) (x y : JsTails) (k l w fresh : Bool) (a d : At) (m : Member) → (fresh ≡ true → d ≡ a)
    → script_tails_at (script_tails_next fresh y) d m ≡ true → kind-of m ≡ kind_tail
    → TraceAt s t x y k l a p (script_tails_next fresh x) w d m
tail-trace s t p x y k l w false a d m f h i = absurd (no-tails-at d m h)
tail-trace s t p x y k l w true a d m f h i =
    let g : script_tails_at (script_tails_held y) a m ≡ true = subst (λ (c : At). script_tails_at (script_tails_held y) c m ≡ true) (f refl) h in
    trace_itself (set-of-tail t y l a m (tails-were y a m g))
    (λ j. set-of-tail p (script_tails_held x) w d m (subst (λ (c : At). script_tails_at (script_tails_held x) c m ≡ true) (sym (f refl))
    (tails-keep y x a m g (tail-of-set s x k a m j i))))

-- the `*` of a comment
star-has : (k : Bool) (m : Member) → js_star_has k m ≡ true → k ≡ true
star-has k member.JsStar h = h
star-has k _ h = absurd (no (sym h))

star-behind : (fresh k : Bool) (m : Member) → fresh ≡ true → js_star_has k m ≡ true → js_star_has (fresh && k) m ≡ true
star-behind true k m e h = h
star-behind false k m e h = absurd (no (sym e))

star-was : (fresh l : Bool) (m : Member) → js_star_has (fresh && l) m ≡ true → js_star_has l m ≡ true
star-was true l m h = h
star-was false l m h = absurd (no (sym (star-has false m h)))

star-trace : (s t p : Senses) (x y z : JsTails) (k l fresh : Bool) (a d : At) (m : Member) → js_star_has (fresh && l) m ≡ true → kind-of m ≡ kind_star
    → TraceAt s t x y k l a p z (fresh && k) d m
star-trace s t p x y z k l fresh a d m h i =
    trace_itself (set-of-star t y l a m (star-was fresh l m h))
    (λ j. set-of-star p z (fresh && k) d m (star-behind fresh k m (star-fresh fresh l (star-has (fresh && l) m h)) (star-of-set s x k a m j i)))

-- behind a byte
cases-trace : (s t : Senses) (x y : JsTails) (k l fresh : Bool) (v : ScriptState) (b : ℕ) (d : At) (m : Member) → SensesBehind s t v b → (fresh ≡ true → d ≡ v.at)
    → SetCases (script_senses_next t v b) (script_tails_next fresh y) (fresh && l) d m
    → TraceAt s t x y k l v.at (script_senses_next s v b) (script_tails_next fresh x) (fresh && k) d m
cases-trace s t x y k l fresh v b d m q f (set_sense h i) = sense-trace s t x y (script_tails_next fresh x) k l (fresh && k) v b d m q h i
cases-trace s t x y k l fresh v b d m q f (set_tail h i) = tail-trace s t (script_senses_next s v b) x y k l (fresh && k) fresh v.at d m f h i
cases-trace s t x y k l fresh v b d m q f (set_star h i) = star-trace s t (script_senses_next s v b) x y (script_tails_next fresh x) k l fresh v.at d m h i

pub plain-has : (n : ScriptScan) (a : At) (m : Member) → script_at_in sense.Re n.state.at ≡ a → script_set_at n.senses n.before n.star a m ≡ script_set_has n m
plain-has n a m e = ap (λ (c : At). script_set_at n.senses n.before n.star c m) (sym e) ∙ set-plain n.senses n.before n.star n.state.at m

abbrev next-set : Senses → JsTails → Bool → Bool → At → Member → Bool
next-set s x k fresh d m = script_set_at s (script_tails_next fresh x) (fresh && k) d m

byte-trace : (element : Bool) (n m : ScriptScan) (b : ℕ) (y : Member) → ScriptScanBelow n m → script_scan_error element m b ≡ None
    → script_set_has (script_scan_next m b) y ≡ true → Trace (script_set_has m y) (script_set_has n y) (script_set_has (script_scan_next n b) y)
byte-trace element n m b y h e i =
    let v : ScriptState = script_in_sense sense.Re m.state in
    let next : ScriptScanBelow (script_scan_next n b) (script_scan_next m b) = (scan-grows n m h).next element b e in
    let d : At = script_at_in sense.Re (script_scan_next m b).state.at in
    let fresh : Bool = (script_scan_next m b).state.trail.fresh in
    let same : (script_scan_next n b).state.trail.fresh ≡ fresh = ap (λ (w : ScriptState). w.trail.fresh) next.state in
    let stays : (fresh ≡ true → d ≡ v.at) = λ f. ap (script_at_in sense.Re) (fresh-stays (script_shared m) b f) ∙ in-twice sense.Re (script_one_sense m.senses) m.state.at in
    let upper : next-set (script_senses_next m.senses v b) m.before m.star fresh d y ≡ true =
    ap (λ (s : Senses). next-set s m.before m.star fresh d y) (sym (upper-senses m b)) ∙ (set-plain _ _ _ (script_scan_next m b).state.at y ∙ i) in
    let lower : next-set (script_senses_next n.senses v b) n.before n.star fresh d y ≡ script_set_has (script_scan_next n b) y =
    ap₂ (λ (s : Senses) (f : Bool). next-set s n.before n.star f d y) (sym (lower-senses n m b h)) (sym same)
    ∙ plain-has (script_scan_next n b) d y (ap (λ (w : ScriptState). w.at) next.state) in
    let trace : Trace (script_set_at m.senses m.before m.star v.at y) (script_set_at n.senses n.before n.star v.at y) (next-set (script_senses_next n.senses v b) n.before n.star fresh d y) =
    cases-trace n.senses m.senses n.before m.before n.star m.star fresh v b d y (senses-behind n m element b h e) stays (set-cases _ _ _ d y upper) in
    subst (λ (z : Bool). Trace (script_set_has m y) (script_set_has n y) z) lower
    (subst (λ (z : Bool). Trace (script_set_has m y) z (next-set (script_senses_next n.senses v b) n.before n.star fresh d y)) (plain-has n v.at y (ap (λ (w : ScriptState). w.at) h.state))
    (subst (λ (z : Bool). Trace z (script_set_at n.senses n.before n.star v.at y) (next-set (script_senses_next n.senses v b) n.before n.star fresh d y)) (plain-has m v.at y refl) trace))

-- The end of a node. What the first character has not been read of stands in the place as it is; and what this text has ended in is so on
-- all paths.
if-trace : (fresh : Bool) (x y z : JsTails) (f : JsTails → Bool) → f (if fresh then y else z) ≡ true → Trace (f y) (f x) (f (if fresh then x else z))
if-trace true x y z f h = trace_itself h (λ i. i)
if-trace false x y z f h = trace_whole h

star-if-trace : (fresh k l z : Bool) (f : Bool → Bool) → f (if fresh then l else z) ≡ true → Trace (f l) (f k) (f (if fresh then k else z))
star-if-trace true k l z f h = trace_itself h (λ i. i)
star-if-trace false k l z f h = trace_whole h

mapped : (u l b p q r : Bool) → Trace u l b → (u ≡ true → p ≡ true) → (q ≡ true → l ≡ true) → (b ≡ true → r ≡ true) → Trace p q r
mapped u l b p q r (trace_itself h f) g i j = trace_itself (g h) (λ o. j (f (i o)))
mapped u l b p q r (trace_whole h) g i j = trace_whole (j h)

abbrev EndTrace : (s t : Senses) (x y : JsTails) (k l : Bool) → At → Js → Member → Type 0
EndTrace s t x y k l a c m = Trace (script_set_at t y l a m) (script_set_at s x k a m) (js_has c m)

-- in code
end-sense : (s t : Senses) (x y : JsTails) (k l : Bool) (a : At) (c : Js) (m : Member) → script_senses_at t a m ≡ true → kind-of m ≡ kind_sense
    → (senses_have s m ≡ true → js_has c m ≡ true) → EndTrace s t x y k l a c m
end-sense s t x y k l a c m h i f =
    trace_itself (set-of-sense t y l a m h) (λ j. f (senses-have s a m (sense-of-set s x k a m j i)))

abbrev is-code : At → Type 0
is-code a = ((s : Senses) (m : Member) → script_senses_at s a m ≡ senses_have s m) × ((x : JsTails) (m : Member) → js_tails_have x m ≡ true → script_tails_at x a m ≡ true)
    × ((x : JsTails) (m : Member) → script_tails_at x a m ≡ true → kind-of m ≡ kind_tail → js_tails_have x m ≡ true)

code-end : (s t : Senses) (x y : JsTails) (k l fresh : Bool) (a : At) (z : JsTails) (m : Member) → is-code a
    → (senses_have t m ≡ true) ⊎ (js_tails_have (if fresh then y else z) m ≡ true) → EndTrace s t x y k l a (js.Code s (if fresh then x else z)) m
code-end s t x y k l fresh a z m c (inl h) =
    end-sense s t x y k l a (js.Code s (if fresh then x else z)) m (c.0 t m ∙ h) (sense-kind t m h) (λ i. or-left _ _ i)
code-end s t x y k l fresh a z m c (inr h) =
    let kind = tail-kind (if fresh then y else z) m h in
    mapped (js_tails_have y m) (js_tails_have x m) (js_tails_have (if fresh then x else z) m) _ _ _ (if-trace fresh x y z (λ (w : JsTails). js_tails_have w m) h)
    (λ i. set-of-tail t y l a m (c.1 y m i)) (λ i. c.2 x m (tail-of-set s x k a m i kind) kind) (λ i. or-right-of (senses_have s m) _ i)

code-has : (a : At) → ((s : Senses) (m : Member) → script_senses_at s a m ≡ senses_have s m) → ((x : JsTails) (m : Member) → script_tails_at x a m ≡ js_tails_have x m) → is-code a
code-has a f g = (f, λ x m h. g x m ∙ h, λ x m h i. sym (g x m) ∙ h)

or-only : (p : Bool) → (p || false) ≡ true → p ≡ true
or-only true h = refl
or-only false h = h

regexp-only : (k : Bool) (x z : JsTails) (m : Member) → z.slash ≡ false → regexp_has k m ≡ true → (regexp_has x.slash m || js_tails_have z m) ≡ true → regexp_has x.slash m ≡ true
regexp-only k x z member.RegexpSlash e h i = or-only x.slash i
regexp-only k x z _ e h i = absurd (no (sym h))

tails-only : (k : Bool) (w x : JsTails) (m : Member) → js_tails_have w m ≡ true → (regexp_has k m || js_tails_have x m) ≡ true → js_tails_have x m ≡ true
tails-only k w x member.JsWord h i = i
tails-only k w x member.JsNum h i = i
tails-only k w x member.JsLt h i = i
tails-only k w x member.JsSlash h i = i
tails-only k w x member.JsPlus h i = i
tails-only k w x member.JsMinus h i = i
tails-only k w x member.JsHash h i = i
tails-only k w x _ h i = absurd (no (sym h))

slash-in-code : (k : Bool) (x : JsTails) (m : Member) → regexp_has k m ≡ true → (regexp_has x.slash m || js_tails_have x m) ≡ true → regexp_has x.slash m ≡ true
slash-in-code k x member.RegexpSlash h i = or-only x.slash i
slash-in-code k x _ h i = absurd (no (sym h))

-- behind a slash that is held back, with the same senses
regexp-end : (s : Senses) (x y : JsTails) (k l fresh : Bool) (a : At) (z : JsTails) (m : Member) → regexp_has (if fresh then y else z).slash m ≡ true
    → (script_tails_at x a m ≡ true → regexp_has x.slash m ≡ true) → (regexp_has y.slash m ≡ true → script_tails_at y a m ≡ true)
    → EndTrace s s x y k l a (js.Regexp (if fresh then x else z).slash) m
regexp-end s x y k l fresh a z m h f g =
    let kind = regexp-kind (if fresh then y else z).slash m h in
    mapped (regexp_has y.slash m) (regexp_has x.slash m) (regexp_has (if fresh then x else z).slash m) _ _ _ (if-trace fresh x y z (λ (w : JsTails). regexp_has w.slash m) h)
    (λ i. set-of-tail s y l a m (g i)) (λ i. f (tail-of-set s x k a m i kind)) (λ i. i)

slash-code-end : (s : Senses) (x y : JsTails) (k l fresh : Bool) (r : Sense) (z : JsTails) (m : Member)
    → (senses_have (script_senses sense.Re) m ≡ true) ⊎ (js_tails_have (if fresh then y else z) m ≡ true)
    → EndTrace s s x y k l (Slash r) (js.Code (script_senses sense.Re) (if fresh then x else z)) m
slash-code-end s x y k l fresh r z m (inl h) = trace_whole (or-left _ _ h)
slash-code-end s x y k l fresh r z m (inr h) =
    let kind = tail-kind (if fresh then y else z) m h in
    mapped (js_tails_have y m) (js_tails_have x m) (js_tails_have (if fresh then x else z) m) _ _ _ (if-trace fresh x y z (λ (w : JsTails). js_tails_have w m) h)
    (λ i. set-of-tail s y l (Slash r) m (or-right-of (regexp_has y.slash m) _ i)) (λ i. tails-only x.slash (if fresh then y else z) x m h (tail-of-set s x k (Slash r) m i kind))
    (λ i. or-right-of (senses_have (script_senses sense.Re) m) _ i)

slash-end : (re : Bool) (s : Senses) (x y : JsTails) (k l fresh : Bool) (r : Sense) (z : JsTails) (m : Member)
    → js_has (script_slash_place re (if fresh then y else z)) m ≡ true → EndTrace s s x y k l (Slash r) (script_slash_place re (if fresh then x else z)) m
slash-end true s x y k l fresh r z m h =
    regexp-end s x y k l fresh (Slash r) z m h (λ i. slash-in-code (if fresh then y else z).slash x m h i) (λ i. or-left _ _ i)
slash-end false s x y k l fresh r z m h = slash-code-end s x y k l fresh r z m (or-cases _ _ h)

-- in each state; behind a slash the senses are the same
abbrev IsSlash : At → Type 0
IsSlash (Slash z) = ⊤
IsSlash a = ⊥

in-regexp-end : (s t : Senses) (x y : JsTails) (k l fresh q : Bool) (e : ScriptEscape) (z : JsTails) (m : Member) → regexp_has (if fresh then y else z).slash m ≡ true
    → EndTrace s t x y k l (InRegexp q e) (js.Regexp (if fresh then x else z).slash) m
in-regexp-end s t x y k l fresh q e z m h =
    let kind = regexp-kind (if fresh then y else z).slash m h in
    mapped (regexp_has y.slash m) (regexp_has x.slash m) (regexp_has (if fresh then x else z).slash m) _ _ _ (if-trace fresh x y z (λ (w : JsTails). regexp_has w.slash m) h)
    (λ i. set-of-tail t y l (InRegexp q e) m (or-left _ _ i))
    (λ i. regexp-only (if fresh then y else z).slash x (script_but_slash x) m refl h (tail-of-set s x k (InRegexp q e) m i kind)) (λ i. i)

block-end : (s t : Senses) (x y : JsTails) (k l fresh : Bool) (r : Sense) (q w : Bool) (m : Member)
    → (senses_have t m ≡ true) ⊎ (js_star_has (if fresh then l else w) m ≡ true) → EndTrace s t x y k l (BlockComment r q) (js.Block s (if fresh then k else w)) m
block-end s t x y k l fresh r q w m (inl h) = end-sense s t x y k l (BlockComment r q) (js.Block s (if fresh then k else w)) m h (sense-kind t m h) (λ i. or-left _ _ i)
block-end s t x y k l fresh r q w m (inr h) =
    let kind = star-kind (if fresh then l else w) m h in
    mapped (js_star_has l m) (js_star_has k m) (js_star_has (if fresh then k else w) m) _ _ _ (star-if-trace fresh k l w (λ (c : Bool). js_star_has c m) h)
    (λ i. set-of-star t y l (BlockComment r q) m i) (λ i. star-of-set s x k (BlockComment r q) m i kind) (λ i. or-right-of (senses_have s m) _ i)

string-end : (q : Bool) (m : Member) → js_has (script_quote_place q) m ≡ true → ⊥
string-end true m h = no (sym h)
string-end false m h = no (sym h)

end-at : (s t : Senses) (x y : JsTails) (k l fresh : Bool) (a : At) (z : JsTails) (w : Bool) (m : Member) → (IsSlash a → s ≡ t)
    → js_has (script_place_at t (if fresh then y else z) (if fresh then l else w) a) m ≡ true
    → EndTrace s t x y k l a (script_place_at s (if fresh then x else z) (if fresh then k else w) a) m
end-at s t x y k l fresh (Slash r) z w m e h =
    subst (λ (q : Senses). js_has (script_slash_place q.re (if fresh then y else z)) m ≡ true → EndTrace s q x y k l (Slash r) (script_slash_place s.re (if fresh then x else z)) m) (e tt)
    (λ i. slash-end s.re s x y k l fresh r z m i) h
end-at s t x y k l fresh (LineComment r) z w m e h = end-sense s t x y k l (LineComment r) (js.Line s) m h (sense-kind t m h) (λ i. i)
end-at s t x y k l fresh (BlockComment r q) z w m e h = block-end s t x y k l fresh r q w m (or-cases _ _ h)
end-at s t x y k l fresh (InString q r) z w m e h = absurd (string-end q m h)
end-at s t x y k l fresh (InRegexp q r) z w m e h = in-regexp-end s t x y k l fresh q r z m h
end-at s t x y k l fresh (Code r) z w m e h = code-end s t x y k l fresh (Code r) z m (code-has (Code r) (λ s m. refl) (λ x m. refl)) (or-cases _ _ h)
end-at s t x y k l fresh (Word r) z w m e h = code-end s t x y k l fresh (Word r) z m (code-has (Word r) (λ s m. refl) (λ x m. refl)) (or-cases _ _ h)
end-at s t x y k l fresh Number z w m e h = code-end s t x y k l fresh Number z m (code-has Number (λ s m. refl) (λ x m. refl)) (or-cases _ _ h)
end-at s t x y k l fresh (Pluses r) z w m e h = code-end s t x y k l fresh (Pluses r) z m (code-has (Pluses r) (λ s m. refl) (λ x m. refl)) (or-cases _ _ h)
end-at s t x y k l fresh (Minuses r) z w m e h = code-end s t x y k l fresh (Minuses r) z m (code-has (Minuses r) (λ s m. refl) (λ x m. refl)) (or-cases _ _ h)
end-at s t x y k l fresh (InTemplate r d) z w m e h = code-end s t x y k l fresh (InTemplate r d) z m (code-has (InTemplate r d) (λ s m. refl) (λ x m. refl)) (or-cases _ _ h)
end-at s t x y k l fresh TooDeep z w m e h = code-end s t x y k l fresh TooDeep z m (code-has TooDeep (λ s m. refl) (λ x m. refl)) (or-cases _ _ h)

-- behind a slash, of which the end of the node is accepted
kept-no-slash : (a : At) → KeepsSense a → IsSlash a → ⊥
kept-no-slash _ (keeps_code z) i = i
kept-no-slash _ (keeps_line z) i = i
kept-no-slash _ (keeps_block z star) i = i

clear-same : (s t : Senses) (z : Sense) (u : Trail) → (s ≡ t) ⊎ IsUnclear t → script_scan_cut_error (script_scan t script_no_tails false (state-of [] (Slash z) [] u)) ≡ None → s ≡ t
clear-same s t z u (inl e) o = e
clear-same s t z u (inr d) o = absurd (unclear-cut t z u d o)

differ-same : (s t : Senses) (a : At) (h : List ℕ) (u : Trail) → MayDifferInSense a h → some_sense s ≡ true → both_senses s t ≡ t
    → script_scan_cut_error (script_scan t script_no_tails false (state-of [] a h u)) ≡ None → IsSlash a → s ≡ t
differ-same s t _ _ u (differ_within a h keeps) i j o q = absurd (kept-no-slash a keeps q)
differ-same s t _ _ u (differ_behind_slash z) i j o q = clear-same s t z u (same-or-unclear s t i j) o

parts-same : (s t : Senses) (fs : List ℕ) (a : At) (h : List ℕ) (u : Trail) → (s ≡ t) ⊎ ((fs ≡ []) × MayDifferInSense a h) → some_sense s ≡ true → both_senses s t ≡ t
    → script_scan_cut_error (script_scan t script_no_tails false (state-of fs a h u)) ≡ None → IsSlash a → s ≡ t
parts-same s t fs a h u (inl e) i j o q = e
parts-same s t fs a h u (inr d) i j o q =
    differ-same s t a h u d.1 i j (subst (λ (z : List ℕ). script_scan_cut_error (script_scan t script_no_tails false (state-of z a h u)) ≡ None) d.0 o) q

end-trace : (n m : ScriptScan) (y : Member) → ScriptScanBelow n m → script_scan_cut_error m ≡ None → js_has (script_scan_place m) y ≡ true
    → Trace (script_set_has m y) (script_set_has n y) (js_has (script_scan_place n) y)
end-trace n m y h e i =
    let v : ScriptState = script_in_sense sense.Re m.state in
    let same : (IsSlash v.at → n.senses ≡ m.senses) =
    parts-same n.senses m.senses v.literals v.at v.held v.trail (apart-plain n.senses m.senses m.state h.apart) h.some h.senses (cut-plain m ∙ e) in
    let lower : js_has (script_scan_place (script_scan n.senses n.before n.star v)) y ≡ js_has (script_scan_place n) y =
    ap (λ (w : ScriptState). js_has (script_scan_place (script_scan n.senses n.before n.star w)) y) (sym h.state) ∙ ap (λ (c : Js). js_has c y) (place-plain n) in
    let trace : Trace (script_set_at m.senses m.before m.star v.at y) (script_set_at n.senses n.before n.star v.at y) (js_has (script_scan_place (script_scan n.senses n.before n.star v)) y) =
    end-at n.senses m.senses n.before m.before n.star m.star v.trail.fresh v.at (script_tails (script_tail_at v.at v.trail.markup)) (script_star_at v.at) y same
    (ap (λ (c : Js). js_has c y) (place-plain m) ∙ i) in
    subst (λ (z : Bool). Trace (script_set_has m y) (script_set_has n y) z) lower
    (subst (λ (z : Bool). Trace (script_set_has m y) z (js_has (script_scan_place (script_scan n.senses n.before n.star v)) y)) (plain-has n v.at y (ap (λ (w : ScriptState). w.at) h.state))
    (subst (λ (z : Bool). Trace z (script_set_at n.senses n.before n.star v.at y) (js_has (script_scan_place (script_scan n.senses n.before n.star v)) y)) (plain-has m v.at y refl) trace))

-- the beginning of a text
no-star : (m : Member) → js_star_has false m ≡ false
no-star member.JsStar = refl
no-star _ = refl

no-tails : (m : Member) → js_tails_have script_no_tails m ≡ false
no-tails member.JsWord = refl
no-tails member.JsNum = refl
no-tails member.JsLt = refl
no-tails member.JsSlash = refl
no-tails member.JsPlus = refl
no-tails member.JsMinus = refl
no-tails member.JsHash = refl
no-tails _ = refl

no-regexp : (m : Member) → regexp_has false m ≡ false
no-regexp member.RegexpSlash = refl
no-regexp _ = refl

or-none : (p q : Bool) → q ≡ false → (p || q) ≡ p
or-none true q h = refl
or-none false q h = h

none-first : (p q : Bool) → p ≡ false → (p || q) ≡ q
none-first true q h = absurd (no h)
none-first false q h = refl

no-more : (m : Member) → (js_tails_have script_no_tails m || js_star_has false m) ≡ false
no-more m = none-first (js_tails_have script_no_tails m) (js_star_has false m) (no-tails m) ∙ no-star m

begun-slash : (slash : Bool) (m : Member) → script_tails_at (script_slash_tail slash) (InRegexp false NoEscape) m ≡ regexp_has slash m
begun-slash true m = or-none (regexp_has true m) (js_tails_have script_no_tails m) (no-tails m)
begun-slash false m = or-none (regexp_has false m) (js_tails_have script_no_tails m) (no-tails m)

begins : (c : Js) (m : Member) → script_set_has (script_scan_start c) m ≡ js_has c m
begins (js.Code s x) m = ap (λ (z : Bool). senses_have s m || z) (or-none (js_tails_have x m) (js_star_has false m) (no-star m))
begins js.Dq m = no-more m
begins js.Sq m = no-more m
begins (js.Regexp slash) m = or-none (script_tails_at (script_slash_tail slash) (InRegexp false NoEscape) m) (js_star_has false m) (no-star m) ∙ begun-slash slash m
begins (js.Line s) m = or-none (senses_have s m) _ (no-more m)
begins (js.Block s star) m = ap (λ (z : Bool). senses_have s m || z) (none-first (js_tails_have script_no_tails m) (js_star_has star m) (no-tails m))

pub scripts-come-from : ScriptsComeFrom
scripts-come-from = record {
  begins = begins;
  itself = λ element m n b y v e h i l j. by-itself _ _ _ (byte-trace element n m b y l e h) j;
  whole = λ element m n b y v e h i l. by-whole _ _ _ (byte-trace element n m b y l e h) i;
  end_itself = λ m n y v e h i l j. by-itself _ _ _ (end-trace n m y l e h) j;
  end_whole = λ m n y v e h i l. by-whole _ _ _ (end-trace n m y l e h) i;
}
