-- A value that is a script tells what the script by itself tells: what a byte tells is put before what was told before it, whatever that is.
use Rattle.std.proofs.Common.{◌≡◌, ◌==◌, ℕ, Bool, true, false, List, [], ◌∷◌, ◌++◌, nat_le, length, suc, if◌then◌else◌, refl, sym, ap, ◌∙◌}
use Rattle.std.proofs.lemmas.List.{append_assoc}
use Rattle.js_lexer.specs.Emits.{is_minus, is_plus, tells, tells_code, tells_escape, tells_held_escape, tells_inner_code, tells_inner_slash, tells_inside, tells_more, tells_regexp, tells_slash, tells_string, tells_token}
use Rattle.js_lexer.specs.Events.{ScriptEvent, PunctuatorBegins, RegexpBegins, ScriptByte, BracketsBegin, LineCuts}
use Rattle.js_lexer.specs.Feeding.{ScriptReading, feed_script, point_of, read_at, read_on, script_emits, script_reading, tells_all, tells_white_apart}
use Rattle.js_lexer.specs.Classes.{class_of}
use Rattle.js_lexer.specs.States.{ScriptEscape, NoEscape, AfterBackslash, AfterX, AfterX3, AfterCarriageReturn, At, Code, Word, Number, Pluses, Minuses, Slash, LineComment, BlockComment, InString, InRegexp, InTemplate, TooDeep, ScriptPoint, ScriptState}
use Rattle.js_lexer.specs.Steps.{is_number, is_taken_in_script, is_taken_in_string, is_word, max_literals, script_next}
use Rattle.js_lexer.specs.WhiteSpace.{ClassedByte}
use Rattle.js_lexer.specs.declared.class.ScriptClass.{ScriptClass}
use Rattle.js_lexer.specs.declared.class.ScriptClass.TheVariants as class
use Rattle.js_lexer.specs.declared.sense.Sense.{Sense}
use Rattle.js_lexer.specs.declared.sense.Sense.TheVariants as sense
use Rattle.place_core.specs.page.Events.{InsideScript, LexEvent, told_in_script}
use Rattle.place_core.specs.page.States.{Config, config}
use Rattle.place_core.specs.page.Tags.{OfScript, Quoting, Tag, ValueOf, ValueState}
use Rattle.san_html.specs.ReadBack.{in_value, read_value}

abbrev Adds : (List ScriptEvent → List ScriptEvent) → Type 0
Adds f = (t : List ScriptEvent) → f t ≡ f [] ++ t

if-adds : (c : Bool) (f g : List ScriptEvent → List ScriptEvent) → Adds f → Adds g → Adds (λ t. if c then f t else g t)
if-adds true f g h k = h
if-adds false f g h k = k

then-adds : (f g : List ScriptEvent → List ScriptEvent) → Adds f → Adds g → Adds (λ t. f (g t))
then-adds f g h k = λ t.
    h (g t) ∙ ap (λ (z : List ScriptEvent). f [] ++ z) (k t) ∙ sym (append_assoc (f []) (g []) t)
    ∙ ap (λ (z : List ScriptEvent). z ++ t) (sym (h (g [])))

cons-adds : (e : ScriptEvent) (f : List ScriptEvent → List ScriptEvent) → Adds f → Adds (λ t. e ∷ f t)
cons-adds e f h = λ t. ap (λ (z : List ScriptEvent). e ∷ z) (h t)

-- in a string, a regular expression and a literal
escape-adds : (e : ScriptEscape) (b : ℕ) → Adds (tells_escape e b)
escape-adds NoEscape b = if-adds (b == 92) (λ t. t) (λ t. ScriptByte b ∷ t) (λ t. refl) (λ t. refl)
escape-adds AfterBackslash b =
    if-adds (b == 120) (λ t. t) (λ t. if b == 60 then ScriptByte 60 ∷ t else ScriptByte b ∷ ScriptByte 92 ∷ t) (λ t. refl)
    (if-adds (b == 60) (λ t. ScriptByte 60 ∷ t) (λ t. ScriptByte b ∷ ScriptByte 92 ∷ t) (λ t. refl) (λ t. refl))
escape-adds AfterX b =
    if-adds (b == 51) (λ t. t) (λ t. if b == 92 then ScriptByte 120 ∷ ScriptByte 92 ∷ t else ScriptByte b ∷ ScriptByte 120 ∷ ScriptByte 92 ∷ t)
    (λ t. refl)
    (if-adds (b == 92) (λ t. ScriptByte 120 ∷ ScriptByte 92 ∷ t) (λ t. ScriptByte b ∷ ScriptByte 120 ∷ ScriptByte 92 ∷ t) (λ t. refl) (λ t. refl))
escape-adds AfterX3 b =
    if-adds (b == 67) (λ t. ScriptByte 60 ∷ t)
    (λ t. if b == 92 then ScriptByte 51 ∷ ScriptByte 120 ∷ ScriptByte 92 ∷ t
    else ScriptByte b ∷ ScriptByte 51 ∷ ScriptByte 120 ∷ ScriptByte 92 ∷ t)
    (λ t. refl)
    (if-adds (b == 92) (λ t. ScriptByte 51 ∷ ScriptByte 120 ∷ ScriptByte 92 ∷ t)
    (λ t. ScriptByte b ∷ ScriptByte 51 ∷ ScriptByte 120 ∷ ScriptByte 92 ∷ t) (λ t. refl) (λ t. refl))
escape-adds AfterCarriageReturn b = if-adds (b == 92) (λ t. t) (λ t. ScriptByte b ∷ t) (λ t. refl) (λ t. refl)

held-adds : (e : ScriptEscape) → Adds (tells_held_escape e)
held-adds NoEscape = λ t. refl
held-adds AfterBackslash = λ t. refl
held-adds AfterX = λ t. refl
held-adds AfterX3 = λ t. refl
held-adds AfterCarriageReturn = λ t. refl

cut-adds : (e : ScriptEscape) → Adds (λ t. LineCuts ∷ tells_held_escape e t)
cut-adds e = cons-adds LineCuts (tells_held_escape e) (held-adds e)

-- in code
code-adds : (c : ScriptClass) (b : ℕ) → Adds (tells_code c b)
code-adds class.Space b = λ t. refl
code-adds class.LineEnd b = λ t. refl
code-adds class.Solidus b = λ t. refl
code-adds c b = λ t. refl

more-adds : (more : Bool) (c : ScriptClass) (b : ℕ) → Adds (tells_more more c b)
more-adds true c b = λ t. refl
more-adds false c b = code-adds c b

string-adds : (taken : Bool) (e : ScriptEscape) (c : ScriptClass) (b : ℕ) → Adds (tells_string taken e c b)
string-adds false e class.LineEnd b = cut-adds e
string-adds false e c b = escape-adds e b
string-adds true e class.LineEnd b = escape-adds e b
string-adds true e c b = escape-adds e b

regexp-adds : (taken k : Bool) (e : ScriptEscape) (c : ScriptClass) (b : ℕ) → Adds (tells_regexp taken k e c b)
regexp-adds false false e class.LineEnd b = cut-adds e
regexp-adds false false e class.OpenBracket b = cons-adds BracketsBegin (tells_escape e b) (escape-adds e b)
regexp-adds false false e c b = escape-adds e b
regexp-adds false true e class.LineEnd b = cut-adds e
regexp-adds false true e class.OpenBracket b = escape-adds e b
regexp-adds false true e c b = escape-adds e b
regexp-adds true k e class.LineEnd b = cut-adds e
regexp-adds true k e class.OpenBracket b = escape-adds e b
regexp-adds true k e c b = escape-adds e b

-- behind a slash that is told first
regexp-begun : (c : ScriptClass) (b : ℕ) → Adds (λ t. tells_regexp false false NoEscape c b (ScriptByte 47 ∷ RegexpBegins ∷ t))
regexp-begun c b =
    then-adds (tells_regexp false false NoEscape c b) (λ t. ScriptByte 47 ∷ RegexpBegins ∷ t) (regexp-adds false false NoEscape c b) (λ t. refl)

division-begun : (c : ScriptClass) (b : ℕ) → Adds (λ t. tells_code c b (ScriptByte 47 ∷ PunctuatorBegins ∷ t))
division-begun c b = then-adds (tells_code c b) (λ t. ScriptByte 47 ∷ PunctuatorBegins ∷ t) (code-adds c b) (λ t. refl)

slash-adds : (s : Sense) (c : ScriptClass) (b : ℕ) → Adds (tells_slash s c b)
slash-adds sense.Re class.Solidus b = λ t. refl
slash-adds sense.Re class.Asterisk b = λ t. refl
slash-adds sense.Re c b = regexp-begun c b
slash-adds sense.Div class.Solidus b = λ t. refl
slash-adds sense.Div class.Asterisk b = λ t. refl
slash-adds sense.Div c b = division-begun c b
slash-adds sense.Brace class.Solidus b = λ t. refl
slash-adds sense.Brace class.Asterisk b = λ t. refl
slash-adds sense.Brace c b = division-begun c b

token-adds : (a : At) (c : ScriptClass) (b : ℕ) → Adds (tells_token a c b)
token-adds (Code s) c b = code-adds c b
token-adds (Word w) c b = more-adds (is_word c) c b
token-adds Number c b = more-adds (is_number c) c b
token-adds (Pluses odd) c b = more-adds (is_plus c) c b
token-adds (Minuses odd) c b = more-adds (is_minus c) c b
token-adds (Slash s) c b = slash-adds s c b
token-adds (LineComment s) c b = λ t. refl
token-adds (BlockComment s star) c b = λ t. refl
token-adds (InString q e) c b = string-adds (is_taken_in_string e b) e c b
token-adds (InRegexp k e) c b = regexp-adds (is_taken_in_script e) k e c b
token-adds (InTemplate e d) c b = escape-adds e b
token-adds TooDeep c b = λ t. refl

-- in a template literal
inner-adds : (fits : Bool) (c : ScriptClass) (b : ℕ) → Adds (tells_inner_code fits c b)
inner-adds false class.GraveAccent b = λ t. refl
inner-adds false c b = λ t. refl
inner-adds true class.GraveAccent b = λ t. refl
inner-adds true c b = λ t. refl

inner-slash : (fits : Bool) (s : Sense) (c : ScriptClass) (b : ℕ) → Adds (tells_inner_slash fits s c b)
inner-slash fits sense.Re class.Solidus b = λ t. refl
inner-slash fits sense.Re class.Asterisk b = λ t. refl
inner-slash fits sense.Re c b = escape-adds NoEscape b
inner-slash fits sense.Div class.Solidus b = λ t. refl
inner-slash fits sense.Div class.Asterisk b = λ t. refl
inner-slash fits sense.Div c b = inner-adds fits c b
inner-slash fits sense.Brace class.Solidus b = λ t. refl
inner-slash fits sense.Brace class.Asterisk b = λ t. refl
inner-slash fits sense.Brace c b = inner-adds fits c b

inside-adds : (fits : Bool) (a : At) (c : ScriptClass) (b : ℕ) → Adds (tells_inside fits a c b)
inside-adds fits (Code s) c b = inner-adds fits c b
inside-adds fits (Word w) c b = inner-adds fits c b
inside-adds fits Number c b = inner-adds fits c b
inside-adds fits (Pluses odd) c b = inner-adds fits c b
inside-adds fits (Minuses odd) c b = inner-adds fits c b
inside-adds fits (Slash s) c b = inner-slash fits s c b
inside-adds fits (LineComment s) c b = λ t. refl
inside-adds fits (BlockComment s star) c b = λ t. refl
inside-adds fits (InString q e) c b = escape-adds e b
inside-adds fits (InRegexp k e) c b = escape-adds e b
inside-adds fits (InTemplate e d) c b = escape-adds e b
inside-adds fits TooDeep c b = λ t. refl

tells-adds : (fs : List ℕ) (a : At) (c : ScriptClass) (b : ℕ) → Adds (tells fs a c b)
tells-adds [] a c b = token-adds a c b
tells-adds (n ∷ fs) a c b = inside-adds (nat_le (suc (length (n ∷ fs))) max_literals) a c b

all-adds : (xs : List ClassedByte) (p : ScriptPoint) → Adds (tells_all xs p)
all-adds [] p = λ t. refl
all-adds (x ∷ xs) p =
    let next = script_next p.literals p.at x.class x.byte in
    then-adds (tells_all xs next) (tells p.literals p.at x.class x.byte) (all-adds xs next) (tells-adds p.literals p.at x.class x.byte)

pub emits-adds : (s : ScriptState) (b : ℕ) → Adds (script_emits s b)
emits-adds s b = all-adds (read_at (tells_white_apart s.at) s.held (class_of b) b) (point_of s)

-- in a value
pub told-append : (es fs : List ScriptEvent) (t : List LexEvent) → told_in_script (es ++ fs) t ≡ told_in_script es (told_in_script fs t)
told-append [] fs t = refl
told-append (e ∷ es) fs t = ap (λ (z : List LexEvent). InsideScript e ∷ z) (told-append es fs t)

pub byte-told : (s : ScriptState) (b : ℕ) (es : List ScriptEvent) (t : List LexEvent)
    → told_in_script (script_emits s b []) (told_in_script es t) ≡ told_in_script (script_emits s b es) t
byte-told s b es t =
    sym (told-append (script_emits s b []) es t) ∙ ap (λ (z : List ScriptEvent). told_in_script z t) (sym (emits-adds s b es))

abbrev pub script_config : Quoting → Tag → ScriptReading → List LexEvent → Config ValueState
script_config q tag r t = config (in_value q tag (ValueOf (OfScript r.state))) (told_in_script r.told t)

pub script-read : (q : Quoting) (tag : Tag) (bs : List ℕ) (w : ScriptState) (es : List ScriptEvent) (t : List LexEvent)
    → read_value q tag (ValueOf (OfScript w)) bs (told_in_script es t) ≡ script_config q tag (read_on bs (script_reading w es)) t
script-read q tag [] w es t = refl
script-read q tag (b ∷ bs) w es t =
    ap (λ (z : List LexEvent). read_value q tag (ValueOf (OfScript (feed_script w b))) bs z) (byte-told w b es t)
    ∙ script-read q tag bs (feed_script w b) (script_emits w b es) t
