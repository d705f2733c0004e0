-- What a script tells of bytes comes before what was told, and where they lead does not depend on that; nor does either on the trail of the state.
use Rattle.std.proofs.Common.{◌≡◌, ℕ, ◌==◌, Bool, true, false, List, [], ◌∷◌, ◌++◌, inl, if◌then◌else◌, refl, sym, ap, ◌∙◌, subst}
use Rattle.std.proofs.lemmas.List.{append_assoc}
use Rattle.js_lexer.specs.Alike.{IsSame, ScriptsAlike}
use Rattle.js_lexer.specs.Classes as scripts
use Rattle.js_lexer.specs.Emits.{tells, tells_code, tells_escape, tells_held_escape, tells_inner_code, tells_inner_slash, tells_inside, tells_more, tells_regexp, tells_slash, tells_string, tells_token, is_minus, is_plus}
use Rattle.js_lexer.specs.Events.{ScriptEvent, BracketsBegin, LineCuts, PunctuatorBegins, RegexpBegins, ScriptByte}
use Rattle.js_lexer.specs.Feeding.{feed_script, point_of, read_at, read_on, script_emits, script_reading, script_ends, tells_all, tells_white_apart}
use Rattle.js_lexer.specs.Holes.{script_emits_settled}
use Rattle.js_lexer.specs.States.{At, AfterBackslash, AfterCarriageReturn, AfterX, AfterX3, BlockComment, Code, InRegexp, InString, InTemplate, LineComment, Minuses, NoEscape, Number, Pluses, ScriptEscape, ScriptPoint, ScriptState, Slash, TooDeep, Trail, Word}
use Rattle.js_lexer.specs.Steps.{is_number, is_taken_in_script, is_taken_in_string, is_word, script_next}
use Rattle.js_lexer.specs.WhiteSpace.{ClassedByte}
use Rattle.js_lexer.specs.declared.class.ScriptClass.{ScriptClass}
use Rattle.js_lexer.specs.declared.class.ScriptClass.TheVariants as class
use Rattle.js_lexer.specs.declared.sense.Sense.{Sense}
use Rattle.js_lexer.specs.declared.sense.Sense.TheVariants as sense
use Rattle.js_lexer.proofs.Keeps.{same-feeds, same-told, scripts-keep}
use Rattle.place_core.specs.page.Events.{InsideScript, LexEvent, told_in_script}
use Rattle.place_core.specs.page.Tags.{OfScript, ValueOf, emitted_bytes, languages, with_bytes}

-- it only tells more
abbrev Adds : (List ScriptEvent → List ScriptEvent) → Type 0
Adds f = (t : List ScriptEvent) → f t ≡ f [] ++ t

then-adds : (f g : List ScriptEvent → List ScriptEvent) → Adds f → Adds g → Adds (λ t. f (g t))
then-adds f g p q t =
    p (g t) ∙ ap (λ (z : List ScriptEvent). f [] ++ z) (q t) ∙ sym (append_assoc (f []) (g []) t) ∙ ap (λ (z : List ScriptEvent). z ++ t) (sym (p (g [])))

if-adds : (x : Bool) (f g : List ScriptEvent → List ScriptEvent) → Adds f → Adds g → Adds (λ t. if x then f t else g t)
if-adds true f g p q t = p t
if-adds false f g p q t = q t

-- a byte of a string, a regular expression or a literal
escape-adds : (e : ScriptEscape) (b : ℕ) → Adds (tells_escape e b)
escape-adds NoEscape b = if-adds (b == 92) (λ t. t) (λ t. ScriptByte b ∷ t) (λ t. refl) (λ t. refl)
escape-adds AfterBackslash b =
    if-adds (b == 120) (λ t. t) (λ t. if b == 60 then ScriptByte 60 ∷ t else ScriptByte b ∷ ScriptByte 92 ∷ t) (λ t. refl)
    (if-adds (b == 60) (λ t. ScriptByte 60 ∷ t) (λ t. ScriptByte b ∷ ScriptByte 92 ∷ t) (λ t. refl) (λ t. refl))
escape-adds AfterX b =
    if-adds (b == 51) (λ t. t)
    (λ t. if b == 92 then ScriptByte 120 ∷ ScriptByte 92 ∷ t else ScriptByte b ∷ ScriptByte 120 ∷ ScriptByte 92 ∷ t) (λ t. refl)
    (if-adds (b == 92) (λ t. ScriptByte 120 ∷ ScriptByte 92 ∷ t) (λ t. ScriptByte b ∷ ScriptByte 120 ∷ ScriptByte 92 ∷ t) (λ t. refl) (λ t. refl))
escape-adds AfterX3 b =
    if-adds (b == 67) (λ t. ScriptByte 60 ∷ t)
    (λ t. if b == 92 then ScriptByte 51 ∷ ScriptByte 120 ∷ ScriptByte 92 ∷ t
    else ScriptByte b ∷ ScriptByte 51 ∷ ScriptByte 120 ∷ ScriptByte 92 ∷ t) (λ t. refl)
    (if-adds (b == 92) (λ t. ScriptByte 51 ∷ ScriptByte 120 ∷ ScriptByte 92 ∷ t) (λ t. ScriptByte b ∷ ScriptByte 51 ∷ ScriptByte 120 ∷ ScriptByte 92 ∷ t)
    (λ t. refl) (λ t. refl))
escape-adds AfterCarriageReturn b = if-adds (b == 92) (λ t. t) (λ t. ScriptByte b ∷ t) (λ t. refl) (λ t. refl)

held-adds : (e : ScriptEscape) → Adds (tells_held_escape e)
held-adds NoEscape t = refl
held-adds AfterBackslash t = refl
held-adds AfterX t = refl
held-adds AfterX3 t = refl
held-adds AfterCarriageReturn t = refl

cut-adds : (e : ScriptEscape) → Adds (λ t. LineCuts ∷ tells_held_escape e t)
cut-adds e t = ap (λ (z : List ScriptEvent). LineCuts ∷ z) (held-adds e t)

string-adds : (taken : Bool) (e : ScriptEscape) (c : ScriptClass) (b : ℕ) → Adds (tells_string taken e c b)
string-adds true e c b t = escape-adds e b t
string-adds false e class.LineEnd b t = cut-adds e t
string-adds false e c b t = escape-adds e b t

regexp-adds : (taken k : Bool) (e : ScriptEscape) (c : ScriptClass) (b : ℕ) → Adds (tells_regexp taken k e c b)
regexp-adds true true e class.LineEnd b t = cut-adds e t
regexp-adds true true e c b t = escape-adds e b t
regexp-adds true false e class.LineEnd b t = cut-adds e t
regexp-adds true false e c b t = escape-adds e b t
regexp-adds false true e class.LineEnd b t = cut-adds e t
regexp-adds false true e c b t = escape-adds e b t
regexp-adds false false e class.LineEnd b t = cut-adds e t
regexp-adds false false e class.OpenBracket b t = ap (λ (z : List ScriptEvent). BracketsBegin ∷ z) (escape-adds e b t)
regexp-adds false false e c b t = escape-adds e b t

-- a byte of code
code-adds : (c : ScriptClass) (b : ℕ) → Adds (tells_code c b)
code-adds class.Space b t = refl
code-adds class.LineEnd b t = refl
code-adds class.Solidus b t = refl
code-adds class.Letter b t = refl
code-adds class.Dollar b t = refl
code-adds class.Backslash b t = refl
code-adds class.Digit b t = refl
code-adds class.QuotationMark b t = refl
code-adds class.Apostrophe b t = refl
code-adds class.GraveAccent b t = refl
code-adds c b t = refl

more-adds : (more : Bool) (c : ScriptClass) (b : ℕ) → Adds (tells_more more c b)
more-adds true c b t = refl
more-adds false c b t = code-adds c b t

punctuator-adds : (c : ScriptClass) (b : ℕ) → Adds (λ t. tells_code c b (ScriptByte 47 ∷ PunctuatorBegins ∷ t))
punctuator-adds c b = then-adds (tells_code c b) (λ t. ScriptByte 47 ∷ PunctuatorBegins ∷ t) (code-adds c b) (λ t. refl)

expression-adds : (c : ScriptClass) (b : ℕ) → Adds (λ t. tells_regexp false false NoEscape c b (ScriptByte 47 ∷ RegexpBegins ∷ t))
expression-adds c b =
    then-adds (tells_regexp false false NoEscape c b) (λ t. ScriptByte 47 ∷ RegexpBegins ∷ t) (regexp-adds false false NoEscape c b) (λ t. refl)

slash-adds : (s : Sense) (c : ScriptClass) (b : ℕ) → Adds (tells_slash s c b)
slash-adds sense.Re class.Solidus b t = refl
slash-adds sense.Re class.Asterisk b t = refl
slash-adds sense.Re c b t = expression-adds c b t
slash-adds sense.Div class.Solidus b t = refl
slash-adds sense.Div class.Asterisk b t = refl
slash-adds sense.Div c b t = punctuator-adds c b t
slash-adds sense.Brace class.Solidus b t = refl
slash-adds sense.Brace class.Asterisk b t = refl
slash-adds sense.Brace c b t = punctuator-adds c b t

token-adds : (a : At) (c : ScriptClass) (b : ℕ) → Adds (tells_token a c b)
token-adds (Code s) c b t = code-adds c b t
token-adds (Word w) c b t = more-adds (is_word c) c b t
token-adds Number c b t = more-adds (is_number c) c b t
token-adds (Pluses odd) c b t = more-adds (is_plus c) c b t
token-adds (Minuses odd) c b t = more-adds (is_minus c) c b t
token-adds (Slash s) c b t = slash-adds s c b t
token-adds (LineComment s) c b t = refl
token-adds (BlockComment s star) c b t = refl
token-adds (InString q e) c b t = string-adds (is_taken_in_string e b) e c b t
token-adds (InRegexp k e) c b t = regexp-adds (is_taken_in_script e) k e c b t
token-adds (InTemplate e d) c b t = escape-adds e b t
token-adds TooDeep c b t = refl

-- and in a template literal
inner-adds : (fits : Bool) (c : ScriptClass) (b : ℕ) → Adds (tells_inner_code fits c b)
inner-adds true c b t = refl
inner-adds false class.GraveAccent b t = refl
inner-adds false c b t = refl

inner-slash-adds : (fits : Bool) (s : Sense) (c : ScriptClass) (b : ℕ) → Adds (tells_inner_slash fits s c b)
inner-slash-adds fits sense.Re class.Solidus b t = refl
inner-slash-adds fits sense.Re class.Asterisk b t = refl
inner-slash-adds fits sense.Re c b t = escape-adds NoEscape b t
inner-slash-adds fits sense.Div class.Solidus b t = refl
inner-slash-adds fits sense.Div class.Asterisk b t = refl
inner-slash-adds fits sense.Div c b t = inner-adds fits c b t
inner-slash-adds fits sense.Brace class.Solidus b t = refl
inner-slash-adds fits sense.Brace class.Asterisk b t = refl
inner-slash-adds fits sense.Brace c b t = inner-adds fits c b t

inside-adds : (fits : Bool) (a : At) (c : ScriptClass) (b : ℕ) → Adds (tells_inside fits a c b)
inside-adds fits (Code s) c b t = inner-adds fits c b t
inside-adds fits (Word w) c b t = inner-adds fits c b t
inside-adds fits Number c b t = inner-adds fits c b t
inside-adds fits (Pluses odd) c b t = inner-adds fits c b t
inside-adds fits (Minuses odd) c b t = inner-adds fits c b t
inside-adds fits (Slash s) c b t = inner-slash-adds fits s c b t
inside-adds fits (LineComment s) c b t = refl
inside-adds fits (BlockComment s star) c b t = refl
inside-adds fits (InString q e) c b t = escape-adds e b t
inside-adds fits (InRegexp k e) c b t = escape-adds e b t
inside-adds fits (InTemplate e d) c b t = escape-adds e b t
inside-adds fits TooDeep c b t = refl

tells-adds : (fs : List ℕ) (a : At) (c : ScriptClass) (b : ℕ) → Adds (tells fs a c b)
tells-adds [] a c b t = token-adds a c b t
tells-adds (n ∷ fs) a c b t = inside-adds _ a c b t

all-adds : (xs : List ClassedByte) (p : ScriptPoint) → Adds (tells_all xs p)
all-adds [] p t = refl
all-adds (x ∷ xs) p t =
    then-adds (tells_all xs (script_next p.literals p.at x.class x.byte)) (tells p.literals p.at x.class x.byte)
    (all-adds xs (script_next p.literals p.at x.class x.byte)) (tells-adds p.literals p.at x.class x.byte) t

emits-adds : (s : ScriptState) (b : ℕ) → Adds (script_emits s b)
emits-adds s b t = all-adds (read_at (tells_white_apart s.at) s.held (scripts.class_of b) b) (point_of s) t

byte-adds : (s : ScriptState) (b : ℕ) (t u : List ScriptEvent) → script_emits s b (t ++ u) ≡ script_emits s b t ++ u
byte-adds s b t u =
    emits-adds s b (t ++ u) ∙ sym (append_assoc (script_emits s b []) t u) ∙ ap (λ (z : List ScriptEvent). z ++ u) (sym (emits-adds s b t))

-- so it is of bytes
read-adds : (bs : List ℕ) (s : ScriptState) (t u : List ScriptEvent)
    → (read_on bs (script_reading s (t ++ u))).told ≡ (read_on bs (script_reading s t)).told ++ u
read-adds [] s t u = refl
read-adds (b ∷ bs) s t u =
    ap (λ (es : List ScriptEvent). (read_on bs (script_reading (feed_script s b) es)).told) (byte-adds s b t u)
    ∙ read-adds bs (feed_script s b) (script_emits s b t) u

-- what bytes tell by themselves, and where they lead
abbrev pub run_told : ScriptState → List ℕ → List ScriptEvent
run_told s bs = (read_on bs (script_reading s [])).told

abbrev pub script_fed : ScriptState → List ℕ → ScriptState
script_fed s bs = (read_on bs (script_reading s [])).state

pub read-onto : (bs : List ℕ) (s : ScriptState) (t : List ScriptEvent) → (read_on bs (script_reading s t)).told ≡ run_told s bs ++ t
read-onto bs s t = read-adds bs s [] t

pub read-state : (bs : List ℕ) (s : ScriptState) (t u : List ScriptEvent)
    → (read_on bs (script_reading s t)).state ≡ (read_on bs (script_reading s u)).state
read-state [] s t u = refl
read-state (b ∷ bs) s t u = read-state bs (feed_script s b) (script_emits s b t) (script_emits s b u)

-- From states that are the same but for the trail.
abbrev with_trail : ScriptState → Trail → ScriptState
with_trail s t = record { literals = s.literals; at = s.at; held = s.held; trail = t }

same-alike : (v w : ScriptState) → IsSame v w → ScriptsAlike v (with_trail w v.trail)
same-alike v w a = (record { escape = refl; brace = refl }, inl (record { literals = a.literals; held = a.held; at = a.at }))

pub same-ends : (v w : ScriptState) (t : List ScriptEvent) → IsSame v w → script_ends w t ≡ script_ends v t
same-ends v w t a = scripts-keep.ends v (with_trail w v.trail) t (same-alike v w a)

pub same-settles : (v w : ScriptState) (t : List ScriptEvent) → IsSame v w → script_emits_settled w t ≡ script_emits_settled v t
same-settles v w t a = scripts-keep.settles v (with_trail w v.trail) t (same-alike v w a)

pub same-next : (v w : ScriptState) (b : ℕ) → IsSame v w → IsSame (feed_script v b) (feed_script w b)
same-next v w b a = same-feeds v w (scripts.class_of b) b a

pub same-emits : (v w : ScriptState) (b : ℕ) (t : List ScriptEvent) → IsSame v w → script_emits w b t ≡ script_emits v b t
same-emits v w b t a = same-told v.literals w.literals v.held w.held v.at w.at (scripts.class_of b) b t a.literals a.held a.at

pub same-fed : (bs : List ℕ) (v w : ScriptState) (t : List ScriptEvent) → IsSame v w
    → IsSame (read_on bs (script_reading v t)).state (read_on bs (script_reading w t)).state
    × ((read_on bs (script_reading w t)).told ≡ (read_on bs (script_reading v t)).told)
same-fed [] v w t a = (a, refl)
same-fed (b ∷ bs) v w t a =
    let told = same-emits v w b t a in
    let next = same-fed bs (feed_script v b) (feed_script w b) (script_emits v b t) (same-next v w b a) in (
      subst (λ (es : List ScriptEvent). IsSame (read_on bs (script_reading (feed_script v b) (script_emits v b t))).state
          (read_on bs (script_reading (feed_script w b) es)).state) (sym told) next.0,
      ap (λ (es : List ScriptEvent). (read_on bs (script_reading (feed_script w b) es)).told) told ∙ next.1,
    )

pub same-back : (v w : ScriptState) → IsSame v w → IsSame w v
same-back v w a = record { literals = sym a.literals; held = sym a.held; at = sym a.at }

pub same-then : (u v w : ScriptState) → IsSame u v → IsSame v w → IsSame u w
same-then u v w a c = record { literals = c.literals ∙ a.literals; held = c.held ∙ a.held; at = c.at ∙ a.at }

-- As a page tells it.
abbrev pub script_told : ScriptState → List ℕ → List LexEvent → List LexEvent
script_told s bs t = emitted_bytes languages (ValueOf (OfScript s)) bs t

fed-from : (s : ScriptState) (bs : List ℕ) (t : List ScriptEvent)
    → with_bytes languages (ValueOf (OfScript s)) bs ≡ ValueOf (OfScript (read_on bs (script_reading s t)).state)
fed-from s [] t = refl
fed-from s (b ∷ bs) t = fed-from (feed_script s b) bs (script_emits s b t)

pub script-value-fed : (s : ScriptState) (bs : List ℕ) → with_bytes languages (ValueOf (OfScript s)) bs ≡ ValueOf (OfScript (script_fed s bs))
script-value-fed s bs = fed-from s bs []

pub told-over : (es fs : List ScriptEvent) (t : List LexEvent) → told_in_script (es ++ fs) t ≡ told_in_script es (told_in_script fs t)
told-over [] fs t = refl
told-over (e ∷ es) fs t = ap (λ (z : List LexEvent). InsideScript e ∷ z) (told-over es fs t)

byte-told : (s : ScriptState) (b : ℕ) (es : List ScriptEvent) (t : List LexEvent)
    → told_in_script (script_emits s b []) (told_in_script es t) ≡ told_in_script (script_emits s b es) t
byte-told s b es t =
    sym (told-over (script_emits s b []) es t) ∙ ap (λ (z : List ScriptEvent). told_in_script z t) (sym (emits-adds s b es))

pub script-read-told : (s : ScriptState) (bs : List ℕ) (es : List ScriptEvent) (t : List LexEvent)
    → script_told s bs (told_in_script es t) ≡ told_in_script (read_on bs (script_reading s es)).told t
script-read-told s [] es t = refl
script-read-told s (b ∷ bs) es t =
    ap (script_told (feed_script s b) bs) (byte-told s b es t) ∙ script-read-told (feed_script s b) bs (script_emits s b es) t

pub script-run : (es : List ScriptEvent) (t : List LexEvent) → told_in_script es t ≡ told_in_script es [] ++ t
script-run [] t = refl
script-run (e ∷ es) t = ap (λ (z : List LexEvent). InsideScript e ∷ z) (script-run es t)
