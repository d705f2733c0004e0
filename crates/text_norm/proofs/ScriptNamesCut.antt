-- In the code of a script no node ends within what may be an end tag or a `<!--`: it is refused there.
use Rattle.std.proofs.Common.{◌≡◌, ℕ, ◌≤◌, ◌<◌, ◌||◌, ◌&&◌, nat_lt, not, if◌then◌else◌, Bool, true, false, codes, List, [], ◌∷◌, ◌++◌, ◌⊎◌, inl, inr, None, Option, Some, refl, sym, ap, ap₂, ◌∙◌, subst, true≢false}
use Rattle.std.proofs.lemmas.Bool.{cases_lt, agree_below, agree_below_at, lt-ltb}
use Rattle.std.proofs.lemmas.List.{append-nil, append_assoc}
use Rattle.std.specs.Char.{to_ascii_lowercase}
use Rattle.std.specs.List.{starts_with}
use Rattle.std.specs.Prelude.{⊤, nat_eq}
use Rattle.js_lexer.specs.Classes as script
use Rattle.js_lexer.specs.Elements.{in_lower_case}
use Rattle.js_lexer.specs.Feeding.{feed_script, held_at, points, read_at, tells_white_apart}
use Rattle.js_lexer.specs.PageScripts.{page_script}
use Rattle.js_lexer.specs.Refusals.{Cause, cut_markup_refusal, cut_refusal_at, escape_refusal, first_script_cause, is_cut_markup, script_refuses_cut, unless_in_character, whole_cut_refusal}
use Rattle.js_lexer.specs.States.{ScriptEscape, NoEscape, AfterBackslash, AfterX, AfterX3, AfterCarriageReturn, At, Code, Word, Slash, InRegexp, ScriptPoint, point, Trail, ScriptState}
use Rattle.js_lexer.specs.Steps.{script_next}
use Rattle.js_lexer.specs.Trails.{is_markup_code, longer_markup, next_markup}
use Rattle.js_lexer.specs.WhiteSpace.{ClassedByte, classed, held_after, held_by, released, released_by}
use Rattle.js_lexer.specs.declared.class.ScriptClass.{ScriptClass}
use Rattle.js_lexer.specs.declared.class.ScriptClass.TheVariants as class
use Rattle.js_lexer.specs.declared.sense.Sense.{Sense}
use Rattle.js_lexer.specs.declared.sense.Sense.TheVariants as sense
use Rattle.place_core.specs.page.Classes.{Class, ExclamationMark, GreaterThan, HyphenMinus, LessThan, Letter, Solidus, White, class_of}
use Rattle.place_core.specs.page.Contents.{ScriptStep, Reads, EndsContent, is_name_of, may_be_name_of, script_step, step_bang, step_end_name, step_less, step_loose}
use Rattle.place_core.specs.page.Events.{LexEvent}
use Rattle.place_core.specs.page.States.{Pending, Nothing, PendingLess, LessAtCut, PendingName, PendingBang, PendingBangDash, PendingOpening}
use Rattle.place_core.specs.declared.element.Element.TheVariants as element
use Rattle.text_norm.proofs.ScriptLessFed.{LessFed}
use Rattle.text_norm.proofs.ScriptPages.{read_page}
use Rattle.text_norm.proofs.ScriptPending.{in_name, lower-same, name-high, prefix-last}
use Rattle.text_norm.specs.Standing.{PageGoes}

-- The letters that HTML holds back behind `</` begin the element's name.
abbrev Named : Pending → Type 0
Named (PendingName letters) = may_be_name_of element.Script letters ≡ true
Named g = ⊤

abbrev NamedBehind : ScriptStep → Type 0
NamedBehind (Reads bytes g) = Named g
NamedBehind (EndsContent letters) = ⊤

loose-named : (bytes : List ℕ) (c : Class) (b : ℕ) → NamedBehind (step_loose bytes c b)
loose-named bytes LessThan b = tt
loose-named bytes c b = tt

less-named : (c : Class) (b : ℕ) → NamedBehind (step_less c b)
less-named Solidus b = refl
less-named ExclamationMark b = tt
less-named c b = loose-named (codes "<") c b

name-named : (grows whole : Bool) (c : Class) (b : ℕ) (letters : List ℕ) → may_be_name_of element.Script (letters ++ b ∷ []) ≡ grows → NamedBehind (step_end_name grows whole c b letters)
name-named true whole (Letter l) b letters g = g
name-named grows true White b letters g = tt
name-named grows true Solidus b letters g = tt
name-named grows true GreaterThan b letters g = tt
name-named grows whole c b letters g = loose-named (codes "</" ++ letters) c b

bang-named : (c : Class) (b : ℕ) → NamedBehind (step_bang c b)
bang-named HyphenMinus b = tt
bang-named c b = loose-named (codes "<!") c b

step-named : (g : Pending) (c : Class) (b : ℕ) → NamedBehind (script_step true element.Script g c b)
step-named Nothing c b = loose-named [] c b
step-named PendingLess c b = less-named c b
step-named LessAtCut c b = loose-named (codes "<") c b
step-named (PendingName letters) c b = name-named (may_be_name_of element.Script (letters ++ b ∷ [])) (is_name_of element.Script letters) c b letters refl
step-named PendingBang c b = bang-named c b
step-named PendingBangDash c b = loose-named (codes "<!-") c b
step-named (PendingOpening letters) c b = loose-named (codes "<" ++ letters) c b

goes-named : (bs : List ℕ) (g h : Pending) → Named g → PageGoes element.Script g bs h → Named h
goes-named [] g h n m = subst Named m n
goes-named (b ∷ bs) g h n m = goes-named bs m.0 h (subst NamedBehind m.1.step (step-named g (class_of b) b)) m.2

pub name-of-goes : (letters : List ℕ) → PageGoes element.Script Nothing (codes "</" ++ letters) (PendingName letters) → may_be_name_of element.Script letters ≡ true
name-of-goes letters m = goes-named (codes "</" ++ letters) Nothing (PendingName letters) tt m

-- A letter of the name is one of a script's words.
abbrev is_script_letter : ScriptClass → Bool
is_script_letter class.Letter = true
is_script_letter c = false

letter-low : agree_below (λ (b : ℕ). not (in_name b) || is_script_letter (script.class_of b)) (λ (b : ℕ). true) 128 ≡ true
unfolding script.class_of
letter-low = refl

is-letter : (c : ScriptClass) → is_script_letter c ≡ true → c ≡ class.Letter
is-letter class.Letter e = refl
is-letter c e = absurd (true≢false (sym e))

record NameLetter (b : ℕ) : Type 0 where
  letter : script.class_of b ≡ class.Letter
  low : nat_lt b 128 ≡ true

name-letter-of : (b : ℕ) → in_name b ≡ true → (b < 128) ⊎ (128 ≤ b) → NameLetter b
name-letter-of b h (inl small) = record {
  letter = is-letter (script.class_of b) (subst (λ (p : Bool). (not p || is_script_letter (script.class_of b)) ≡ true) h
      (agree_below_at (λ (z : ℕ). not (in_name z) || is_script_letter (script.class_of z)) (λ (z : ℕ). true) 128 b letter-low small));
  low = lt-ltb b 128 small;
}
name-letter-of b h (inr large) = absurd (true≢false (sym h ∙ name-high b large))

-- Behind `</` and letters: a slash, a word, or a regular expression; and the trail has the bytes.
abbrev behind_slash : At → Bool
behind_slash (Slash s) = true
behind_slash (Word w) = true
behind_slash (InRegexp false e) = true
behind_slash a = false

record BehindSlash (done : List ℕ) (v : ScriptState) : Type 0 where
  literals : v.literals ≡ []
  at : behind_slash v.at ≡ true
  held : v.held ≡ []
  markup : v.trail.markup ≡ 60 ∷ 47 ∷ done

solidus-fed : (s : Sense) (t : Trail) → t.markup ≡ codes "<" → BehindSlash [] (feed_script (record { literals = []; at = Code s; held = []; trail = t }) 47)
unfolding script.class_of released held_after
solidus-fed s t m = record { literals = refl; at = refl; held = refl; markup = ap (λ (bytes : List ℕ). next_markup false true bytes 47) m }

released-low : (b : ℕ) → nat_lt b 128 ≡ true → released [] b ≡ classed (script.class_of b) b ∷ []
unfolding released
released-low b h = ap (λ (x : Bool). released_by x [] b) h

held-low : (b : ℕ) → nat_lt b 128 ≡ true → held_after [] b ≡ []
unfolding held_after
held-low b h = ap (λ (x : Bool). held_by x [] b) h

read-low : (x : Bool) (b : ℕ) → nat_lt b 128 ≡ true → read_at x [] (script.class_of b) b ≡ classed (script.class_of b) b ∷ []
read-low true b h = released-low b h
read-low false b h = refl

held-at-low : (x : Bool) (b : ℕ) → nat_lt b 128 ≡ true → held_at x [] b ≡ []
held-at-low true b h = held-low b h
held-at-low false b h = refl

record LetterPoint (p : ScriptPoint) : Type 0 where
  literals : p.literals ≡ []
  at : behind_slash p.at ≡ true

regexp-letter : (e : ScriptEscape) (b : ℕ) → LetterPoint (script_next [] (InRegexp false e) class.Letter b)
regexp-letter NoEscape b = record { literals = refl; at = refl }
regexp-letter AfterBackslash b = record { literals = refl; at = refl }
regexp-letter AfterX b = record { literals = refl; at = refl }
regexp-letter AfterX3 b = record { literals = refl; at = refl }
regexp-letter AfterCarriageReturn b = record { literals = refl; at = refl }

letter-point : (a : At) (b : ℕ) → behind_slash a ≡ true → LetterPoint (script_next [] a class.Letter b)
letter-point (Slash sense.Re) b o = record { literals = refl; at = refl }
letter-point (Slash sense.Div) b o = record { literals = refl; at = refl }
letter-point (Slash sense.Brace) b o = record { literals = refl; at = refl }
letter-point (Word w) b o = record { literals = refl; at = refl }
letter-point (InRegexp false e) b o = regexp-letter e b
letter-point (InRegexp true e) b o = absurd (true≢false (sym o))
letter-point a b o = absurd (true≢false (sym o))

name-marks : (done : List ℕ) (in_code : Bool) (b : ℕ) → starts_with nat_eq (codes "script") (done ++ b ∷ []) ≡ true → next_markup false in_code (60 ∷ 47 ∷ done) b ≡ 60 ∷ 47 ∷ (done ++ b ∷ [])
name-marks done in_code b h = ap (λ (x : Bool). longer_markup (x || false) in_code (60 ∷ 47 ∷ done) b) h

letter-fed : (a : At) (t : Trail) (done : List ℕ) (b : ℕ) → behind_slash a ≡ true → t.markup ≡ 60 ∷ 47 ∷ done → NameLetter b → starts_with nat_eq (codes "script") (done ++ to_ascii_lowercase b ∷ []) ≡ true
    → BehindSlash (done ++ to_ascii_lowercase b ∷ []) (feed_script (record { literals = []; at = a; held = []; trail = t }) b)
letter-fed a t done b o m l h =
    let p = letter-point a b o in
    let is : points (read_at (tells_white_apart a) [] (script.class_of b) b) (point [] a) ≡ script_next [] a class.Letter b =
    ap (λ (xs : List ClassedByte). points xs (point [] a)) (read-low (tells_white_apart a) b l.low) ∙ ap (λ (c : ScriptClass). script_next [] a c b) l.letter in
    record {
      literals = ap (λ (q : ScriptPoint). q.literals) is ∙ p.literals;
      at = ap (λ (q : ScriptPoint). behind_slash q.at) is ∙ p.at;
      held = held-at-low (tells_white_apart a) b l.low;
      markup = ap (λ (bytes : List ℕ). next_markup false (is_markup_code false a) bytes (to_ascii_lowercase b)) m ∙ name-marks done (is_markup_code false a) (to_ascii_lowercase b) h;
    }

state-of : (s : ScriptState) (fs : List ℕ) (a : At) (held : List ℕ) → s.literals ≡ fs → s.at ≡ a → s.held ≡ held → record { literals = fs; at = a; held = held; trail = s.trail } ≡ s
state-of s fs a held p q r =
    ap₂ (λ (gs : List ℕ) (d : At). record { literals = gs; at = d; held = held; trail = s.trail }) (sym p) (sym q)
    ∙ ap (λ (k : List ℕ). record { literals = s.literals; at = s.at; held = k; trail = s.trail }) (sym r)

letter-step : (v : ScriptState) (done : List ℕ) (b : ℕ) → BehindSlash done v → starts_with nat_eq (codes "script") (done ++ to_ascii_lowercase b ∷ []) ≡ true
    → BehindSlash (done ++ to_ascii_lowercase b ∷ []) (feed_script v b)
letter-step v done b i h =
    let l = name-letter-of b (prefix-last (codes "script") done (to_ascii_lowercase b) h) (cases_lt b 128) in
    subst (λ (z : ScriptState). BehindSlash (done ++ to_ascii_lowercase b ∷ []) (feed_script z b)) (state-of v [] v.at [] i.literals refl i.held) (letter-fed v.at v.trail done b i.at i.markup l h)

-- a word begins with what its longer beginning begins with
starts-less : (word xs ys : List ℕ) → starts_with nat_eq word (xs ++ ys) ≡ true → starts_with nat_eq word xs ≡ true
starts-less word [] ys h = starts-empty word
  where
    starts-empty : (word : List ℕ) → starts_with nat_eq word [] ≡ true
    starts-empty [] = refl
    starts-empty (w ∷ ws) = refl
starts-less [] (x ∷ xs) ys h = h
starts-less (w ∷ ws) (x ∷ xs) ys h = both (nat_eq x w) (starts_with nat_eq ws (xs ++ ys)) (starts_with nat_eq ws xs) h (λ q. starts-less ws xs ys q)
  where
    both : (p q r : Bool) → (p && q) ≡ true → (q ≡ true → r ≡ true) → (p && r) ≡ true
    both true q r e f = f e
    both false q r e f = e

name-run : (bs done : List ℕ) (v : ScriptState) (t : List LexEvent) → BehindSlash done v → starts_with nat_eq (codes "script") (done ++ in_lower_case bs) ≡ true
    → BehindSlash (done ++ in_lower_case bs) (read_page bs (page_script v t)).state
name-run [] done v t i h = subst (λ (z : List ℕ). BehindSlash z v) (sym (append-nil done)) i
name-run (b ∷ bs) done v t i h =
    let same = append_assoc done (to_ascii_lowercase b ∷ []) (in_lower_case bs) in
    let more = ap (starts_with nat_eq (codes "script")) same ∙ h in
    let one = starts-less (codes "script") (done ++ to_ascii_lowercase b ∷ []) (in_lower_case bs) more in
    subst (λ (z : List ℕ). BehindSlash z (read_page (b ∷ bs) (page_script v t)).state) same (name-run bs (done ++ to_ascii_lowercase b ∷ []) (feed_script v b) _ (letter-step v done b i one) more)

-- That is refused at the end of a node.
some-none : (x : Cause) → Some x ≡ None → ⊥
some-none x e = cc

asked : (x : Bool) (c : Cause) → x ≡ true → (if x then Some c else None) ≡ None → ⊥
asked true c h n = some-none c n
asked false c h n = true≢false (sym h)

cut-marks : (done : List ℕ) → is_cut_markup (60 ∷ 47 ∷ done) ≡ true
cut-marks [] = refl
cut-marks (d ∷ done) = refl

marked : (t : Trail) → is_cut_markup t.markup ≡ true → cut_markup_refusal t ≡ None → ⊥
marked t m n = asked (is_cut_markup t.markup) _ m n

second-none : (o p : Option Cause) → first_script_cause o p ≡ None → p ≡ None
second-none None p n = n
second-none (Some x) p n = absurd (some-none x n)

cut-at : (a : At) (t : Trail) → behind_slash a ≡ true → is_cut_markup t.markup ≡ true → cut_refusal_at a t ≡ None → ⊥
cut-at (Slash sense.Brace) t o m n = some-none _ n
cut-at (Slash sense.Re) t o m n = marked t m n
cut-at (Slash sense.Div) t o m n = marked t m n
cut-at (Word w) t o m n = marked t m n
cut-at (InRegexp false e) t o m n = marked t m (second-none (escape_refusal t) (cut_markup_refusal t) n)
cut-at (InRegexp true e) t o m n = true≢false (sym o)
cut-at a t o m n = true≢false (sym o)

behind-refused : (v : ScriptState) (done : List ℕ) → BehindSlash done v → script_refuses_cut v ≡ None → ⊥
behind-refused v done i n =
    cut-at v.at v.trail i.at (ap is_cut_markup i.markup ∙ cut-marks done)
    (ap₂ (λ (held fs : List ℕ). unless_in_character held (whole_cut_refusal fs v.at v.trail)) (sym i.held) (sym i.literals) ∙ n)

code-fed : (u : ScriptState) (l : LessFed u) → record { literals = []; at = Code l.sense; held = []; trail = u.trail } ≡ u
code-fed u l = state-of u [] (Code l.sense) [] l.literals l.at l.held

pub name-cut : (u : ScriptState) (letters : List ℕ) (t : List LexEvent) → LessFed u → may_be_name_of element.Script letters ≡ true → script_refuses_cut (read_page (47 ∷ letters) (page_script u t)).state ≡ None → ⊥
name-cut u letters t l m n =
    let slash = subst (λ (z : ScriptState). BehindSlash [] (feed_script z 47)) (code-fed u l) (solidus-fed l.sense u.trail l.less) in
    behind-refused (read_page (47 ∷ letters) (page_script u t)).state (in_lower_case letters)
    (name-run letters [] (feed_script u 47) _ slash (ap (starts_with nat_eq (codes "script")) (lower-same letters) ∙ m)) n

bang-fed : (s : Sense) (t : Trail) → t.markup ≡ codes "<" → script_refuses_cut (feed_script (record { literals = []; at = Code s; held = []; trail = t }) 33) ≡ None → ⊥
unfolding script.class_of released held_after
bang-fed s t m n = asked (is_cut_markup (next_markup false true t.markup 33)) _ (ap (λ (bytes : List ℕ). is_cut_markup (next_markup false true bytes 33)) m) n

pub bang-cut : (u : ScriptState) → LessFed u → script_refuses_cut (feed_script u 33) ≡ None → ⊥
bang-cut u l n = bang-fed l.sense u.trail l.less (ap (λ (z : ScriptState). script_refuses_cut (feed_script z 33)) (code-fed u l) ∙ n)

dash-fed : (s : Sense) (t : Trail) → t.markup ≡ codes "<" → script_refuses_cut (feed_script (feed_script (record { literals = []; at = Code s; held = []; trail = t }) 33) 45) ≡ None → ⊥
unfolding script.class_of released held_after
dash-fed s t m n =
    asked (is_cut_markup (next_markup false true (next_markup false true t.markup 33) 45)) _
    (ap (λ (bytes : List ℕ). is_cut_markup (next_markup false true (next_markup false true bytes 33) 45)) m) n

pub dash-cut : (u : ScriptState) → LessFed u → script_refuses_cut (feed_script (feed_script u 33) 45) ≡ None → ⊥
dash-cut u l n = dash-fed l.sense u.trail l.less (ap (λ (z : ScriptState). script_refuses_cut (feed_script (feed_script z 33) 45)) (code-fed u l) ∙ n)
