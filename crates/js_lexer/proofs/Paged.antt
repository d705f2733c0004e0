-- What a byte leads to and tells does not depend on whether a slash would divide after a value or after `}`.
use Rattle.std.proofs.Common.{◌≡◌, ℕ, Bool, true, false, List, [], ◌∷◌, refl, sym, ap, ◌∙◌}
use Rattle.js_lexer.specs.Emits.{tells}
use Rattle.js_lexer.specs.Events.{ScriptEvent}
use Rattle.js_lexer.specs.Feeding.{points, tells_all, tells_white_apart, tells_held_slash, tells_end}
use Rattle.js_lexer.specs.Holes.{as_page, settled_at, script_has_mark_at, hole_at}
use Rattle.js_lexer.specs.Refusals.{splits}
use Rattle.js_lexer.specs.States.{At, Code, Word, Number, Pluses, Minuses, Slash, LineComment, BlockComment, InString, InRegexp, InTemplate, TooDeep, ScriptPoint, point}
use Rattle.js_lexer.specs.Steps.{script_next, next_code, next_slash, next_line, next_block}
use Rattle.js_lexer.specs.WhiteSpace.{ClassedByte}
use Rattle.js_lexer.specs.declared.class.ScriptClass.{ScriptClass}
use Rattle.js_lexer.specs.declared.class.ScriptClass.TheVariants as class
use Rattle.js_lexer.specs.declared.sense.Sense.{Sense}
use Rattle.js_lexer.specs.declared.sense.Sense.TheVariants as sense

abbrev pub as_page_point : ScriptPoint → ScriptPoint
as_page_point p = point p.literals (as_page p.at)

pub paged-twice : (a : At) → as_page a ≡ as_page (as_page a)
paged-twice (Code sense.Re) = refl
paged-twice (Code sense.Div) = refl
paged-twice (Code sense.Brace) = refl
paged-twice (Slash sense.Re) = refl
paged-twice (Slash sense.Div) = refl
paged-twice (Slash sense.Brace) = refl
paged-twice (LineComment sense.Re) = refl
paged-twice (LineComment sense.Div) = refl
paged-twice (LineComment sense.Brace) = refl
paged-twice (BlockComment sense.Re star) = refl
paged-twice (BlockComment sense.Div star) = refl
paged-twice (BlockComment sense.Brace star) = refl
paged-twice a = refl

code-paged : (c : ScriptClass) (b : ℕ) (fs : List ℕ) → as_page_point (next_code sense.Brace c b fs) ≡ as_page_point (next_code sense.Div c b fs)
code-paged class.Space b fs = refl
code-paged class.LineEnd b fs = refl
code-paged class.Solidus b fs = refl
code-paged c b fs = refl

slash-paged : (c : ScriptClass) (b : ℕ) (fs : List ℕ) → as_page_point (next_slash sense.Brace c b fs) ≡ as_page_point (next_slash sense.Div c b fs)
slash-paged class.Solidus b fs = refl
slash-paged c b fs = refl

line-paged : (c : ScriptClass) (fs : List ℕ) → as_page_point (next_line sense.Brace c fs) ≡ as_page_point (next_line sense.Div c fs)
line-paged class.LineEnd fs = refl
line-paged c fs = refl

block-paged : (star : Bool) (c : ScriptClass) (fs : List ℕ) → as_page_point (next_block sense.Brace star c fs) ≡ as_page_point (next_block sense.Div star c fs)
block-paged true class.Solidus fs = refl
block-paged true class.Asterisk fs = refl
block-paged true c fs = refl
block-paged false class.Asterisk fs = refl
block-paged false c fs = refl

pub next-paged : (fs : List ℕ) (a : At) (c : ScriptClass) (b : ℕ) → as_page_point (script_next fs a c b) ≡ as_page_point (script_next fs (as_page a) c b)
next-paged fs (Code sense.Re) c b = refl
next-paged fs (Code sense.Div) c b = refl
next-paged fs (Code sense.Brace) c b = code-paged c b fs
next-paged fs (Word w) c b = refl
next-paged fs Number c b = refl
next-paged fs (Pluses odd) c b = refl
next-paged fs (Minuses odd) c b = refl
next-paged fs (Slash sense.Re) c b = refl
next-paged fs (Slash sense.Div) c b = refl
next-paged fs (Slash sense.Brace) c b = slash-paged c b fs
next-paged fs (LineComment sense.Re) c b = refl
next-paged fs (LineComment sense.Div) c b = refl
next-paged fs (LineComment sense.Brace) c b = line-paged c fs
next-paged fs (BlockComment sense.Re star) c b = refl
next-paged fs (BlockComment sense.Div star) c b = refl
next-paged fs (BlockComment sense.Brace star) c b = block-paged star c fs
next-paged fs (InString q e) c b = refl
next-paged fs (InRegexp k e) c b = refl
next-paged fs (InTemplate e d) c b = refl
next-paged fs TooDeep c b = refl

slash-tells : (fs : List ℕ) (c : ScriptClass) (b : ℕ) (t : List ScriptEvent) → tells fs (Slash sense.Brace) c b t ≡ tells fs (Slash sense.Div) c b t
slash-tells [] class.Solidus b t = refl
slash-tells [] class.Asterisk b t = refl
slash-tells [] c b t = refl
slash-tells (n ∷ fs) class.Solidus b t = refl
slash-tells (n ∷ fs) class.Asterisk b t = refl
slash-tells (n ∷ fs) c b t = refl

code-tells : (fs : List ℕ) (s r : Sense) (c : ScriptClass) (b : ℕ) (t : List ScriptEvent) → tells fs (Code s) c b t ≡ tells fs (Code r) c b t
code-tells [] s r c b t = refl
code-tells (n ∷ fs) s r c b t = refl

line-tells : (fs : List ℕ) (s r : Sense) (c : ScriptClass) (b : ℕ) (t : List ScriptEvent) → tells fs (LineComment s) c b t ≡ tells fs (LineComment r) c b t
line-tells [] s r c b t = refl
line-tells (n ∷ fs) s r c b t = refl

pub block-tells : (fs : List ℕ) (s r : Sense) (x y : Bool) (c : ScriptClass) (b : ℕ) (t : List ScriptEvent) → tells fs (BlockComment s x) c b t ≡ tells fs (BlockComment r y) c b t
block-tells [] s r x y c b t = refl
block-tells (n ∷ fs) s r x y c b t = refl

pub tells-paged : (fs : List ℕ) (a : At) (c : ScriptClass) (b : ℕ) (t : List ScriptEvent) → tells fs a c b t ≡ tells fs (as_page a) c b t
tells-paged fs (Code s) c b t = code-tells fs s _ c b t
tells-paged fs (Word w) c b t = refl
tells-paged fs Number c b t = refl
tells-paged fs (Pluses odd) c b t = refl
tells-paged fs (Minuses odd) c b t = refl
tells-paged fs (Slash sense.Re) c b t = refl
tells-paged fs (Slash sense.Div) c b t = refl
tells-paged fs (Slash sense.Brace) c b t = slash-tells fs c b t
tells-paged fs (LineComment s) c b t = line-tells fs s _ c b t
tells-paged fs (BlockComment s star) c b t = block-tells fs s _ star star c b t
tells-paged fs (InString q e) c b t = refl
tells-paged fs (InRegexp k e) c b t = refl
tells-paged fs (InTemplate e d) c b t = refl
tells-paged fs TooDeep c b t = refl

pub points-paged : (xs : List ClassedByte) (p : ScriptPoint) → as_page_point (points xs p) ≡ as_page_point (points xs (as_page_point p))
points-paged [] p = ap (point p.literals) (paged-twice p.at)
points-paged (x ∷ xs) p =
    points-paged xs (script_next p.literals p.at x.class x.byte)
    ∙ ap (λ (q : ScriptPoint). as_page_point (points xs q)) (next-paged p.literals p.at x.class x.byte)
    ∙ sym (points-paged xs (script_next p.literals (as_page p.at) x.class x.byte))

pub tells_all-paged : (xs : List ClassedByte) (p : ScriptPoint) (t : List ScriptEvent) → tells_all xs p t ≡ tells_all xs (as_page_point p) t
tells_all-paged [] p t = refl
tells_all-paged (x ∷ xs) p t =
    tells_all-paged xs (script_next p.literals p.at x.class x.byte) (tells p.literals p.at x.class x.byte t)
    ∙ ap (λ (q : ScriptPoint). tells_all xs q (tells p.literals p.at x.class x.byte t)) (next-paged p.literals p.at x.class x.byte)
    ∙ sym (tells_all-paged xs (script_next p.literals (as_page p.at) x.class x.byte) (tells p.literals p.at x.class x.byte t))
    ∙ ap (tells_all xs (script_next p.literals (as_page p.at) x.class x.byte)) (tells-paged p.literals p.at x.class x.byte t)

pub apart-paged : (a : At) → tells_white_apart a ≡ tells_white_apart (as_page a)
apart-paged (Code s) = refl
apart-paged (Slash sense.Re) = refl
apart-paged (Slash sense.Div) = refl
apart-paged (Slash sense.Brace) = refl
apart-paged (LineComment s) = refl
apart-paged (BlockComment s star) = refl
apart-paged a = refl

pub slash_held-paged : (fs : List ℕ) (a : At) (t : List ScriptEvent) → tells_held_slash fs a t ≡ tells_held_slash fs (as_page a) t
slash_held-paged [] (Slash sense.Re) t = refl
slash_held-paged [] (Slash sense.Div) t = refl
slash_held-paged [] (Slash sense.Brace) t = refl
slash_held-paged [] (Code s) t = refl
slash_held-paged [] (LineComment s) t = refl
slash_held-paged [] (BlockComment s star) t = refl
slash_held-paged [] a t = refl
slash_held-paged (n ∷ fs) a t = refl

pub end-paged : (a : At) (t : List ScriptEvent) → tells_end a t ≡ tells_end (as_page a) t
end-paged (Code s) t = refl
end-paged (Slash s) t = refl
end-paged (LineComment s) t = refl
end-paged (BlockComment s star) t = refl
end-paged a t = refl

pub splits-paged : (a : At) (m : List ℕ) (c : ScriptClass) → splits a m c ≡ splits (as_page a) m c
splits-paged (Code s) m c = refl
splits-paged (Slash s) m class.Solidus = refl
splits-paged (Slash s) m class.Asterisk = refl
splits-paged (Slash s) m c = refl
splits-paged (LineComment s) m c = refl
splits-paged (BlockComment s true) m class.Solidus = refl
splits-paged (BlockComment s star) m c = refl
splits-paged a m c = refl

pub settled-paged : (a : At) → as_page (settled_at a) ≡ as_page (settled_at (as_page a))
settled-paged (Code s) = paged-twice (Code s)
settled-paged (Slash sense.Re) = refl
settled-paged (Slash sense.Div) = refl
settled-paged (Slash sense.Brace) = refl
settled-paged (LineComment s) = paged-twice (LineComment s)
settled-paged (BlockComment s star) = paged-twice (BlockComment s star)
settled-paged a = refl

pub hole-paged : (a : At) → as_page (hole_at a) ≡ as_page (hole_at (as_page a))
hole-paged (Code s) = refl
hole-paged (Slash s) = refl
hole-paged (LineComment s) = paged-twice (LineComment s)
hole-paged (BlockComment s star) = paged-twice (BlockComment s star)
hole-paged a = refl

pub mark-paged : (a : At) → script_has_mark_at a ≡ script_has_mark_at (as_page a)
mark-paged (Code s) = refl
mark-paged (Slash s) = refl
mark-paged (LineComment s) = refl
mark-paged (BlockComment s star) = refl
mark-paged a = refl
