-- The laws of the reading of scripts.
use Rattle.std.proofs.Common.{◌≡◌, ◌⊎◌, inl, inr, ℕ, zero, suc, ◌==◌, Bool, true, false, true≢false, ◌&&◌, List, [], ◌∷◌, Option, None, length, if◌then◌else◌, refl, sym, ap, ◌∙◌}
use Rattle.js_lexer.specs.Alike.{HaveSameEscape, IsPassed, IsSame, ScriptsAlike, is_open_brace}
use Rattle.js_lexer.specs.Classes.{class_of}
use Rattle.js_lexer.specs.Events.{ScriptEvent}
use Rattle.js_lexer.specs.Feeding.{points, tells_all, tells_white_apart, read_at, held_at, tells_held_slash, tells_end, feed_script, script_emits, feed_class, script_emits_class, script_ends, released_point, emits_released}
use Rattle.js_lexer.specs.Holes.{paged, as_page, settled_at, script_settled, script_emits_settled, script_has_mark, script_has_mark_at, hole_at, script_after_hole, script_behind, script_after_cut, LeadsPlainAt, ScriptLeadsPlain}
use Rattle.js_lexer.specs.Laws.{ScriptLaws}
use Rattle.js_lexer.specs.Refusals.{Cause, cause, first_script_cause, splits_first, SplitToken, script_refuses, script_refuses_class, refusal_outside}
use Rattle.js_lexer.specs.States.{NoEscape, At, Code, Word, Number, Pluses, Minuses, Slash, LineComment, BlockComment, InString, InRegexp, InTemplate, TooDeep, ScriptPoint, point, ScriptState}
use Rattle.js_lexer.specs.Trails.{brace_after, escape_after, next_brace}
use Rattle.js_lexer.specs.WhiteSpace.{ClassedByte, classed_as}
use Rattle.js_lexer.specs.declared.class.ScriptClass.{ScriptClass}
use Rattle.js_lexer.specs.declared.class.ScriptClass.TheVariants as class
use Rattle.js_lexer.specs.declared.sense.Sense.{Sense}
use Rattle.js_lexer.specs.declared.sense.Sense.TheVariants as sense
use Rattle.js_lexer.proofs.Paged.{as_page_point, points-paged, tells_all-paged, apart-paged, slash_held-paged, end-paged, splits-paged, settled-paged, hole-paged, mark-paged, block-tells}

-- The reading from three components of a state.
abbrev pub point_after : List ℕ → List ℕ → At → ScriptClass → ℕ → ScriptPoint
point_after fs held a c b = points (read_at (tells_white_apart a) held c b) (point fs a)

abbrev pub told_after : List ℕ → List ℕ → At → ScriptClass → ℕ → List ScriptEvent → List ScriptEvent
told_after fs held a c b t = tells_all (read_at (tells_white_apart a) held c b) (point fs a) t

pub point_after-paged : (fs held : List ℕ) (a : At) (c : ScriptClass) (b : ℕ) → as_page_point (point_after fs held a c b) ≡ as_page_point (point_after fs held (as_page a) c b)
point_after-paged fs held a c b =
    points-paged (read_at (tells_white_apart a) held c b) (point fs a)
    ∙ ap (λ (x : Bool). as_page_point (points (read_at x held c b) (point fs (as_page a)))) (apart-paged a)

pub told_after-paged : (fs held : List ℕ) (a : At) (c : ScriptClass) (b : ℕ) (t : List ScriptEvent) → told_after fs held a c b t ≡ told_after fs held (as_page a) c b t
told_after-paged fs held a c b t =
    tells_all-paged (read_at (tells_white_apart a) held c b) (point fs a) t
    ∙ ap (λ (x : Bool). tells_all (read_at x held c b) (point fs (as_page a)) t) (apart-paged a)

held_at-paged : (a : At) (held : List ℕ) (b : ℕ) → held_at (tells_white_apart a) held b ≡ held_at (tells_white_apart (as_page a)) held b
held_at-paged a held b = ap (λ (x : Bool). held_at x held b) (apart-paged a)

-- States that are the same.
same-point : (fs gs held kept : List ℕ) (a d : At) (c : ScriptClass) (b : ℕ) → gs ≡ fs → kept ≡ held → as_page d ≡ as_page a → as_page_point (point_after gs kept d c b) ≡ as_page_point (point_after fs held a c b)
same-point fs gs held kept a d c b e f g =
    point_after-paged gs kept d c b
    ∙ rw (e, f, g) refl
    ∙ sym (point_after-paged fs held a c b)

pub same-told : (fs gs held kept : List ℕ) (a d : At) (c : ScriptClass) (b : ℕ) (t : List ScriptEvent) → gs ≡ fs → kept ≡ held → as_page d ≡ as_page a → told_after gs kept d c b t ≡ told_after fs held a c b t
same-told fs gs held kept a d c b t e f g =
    told_after-paged gs kept d c b t
    ∙ rw (e, f, g) refl
    ∙ sym (told_after-paged fs held a c b t)

same-held : (held kept : List ℕ) (a d : At) (b : ℕ) → kept ≡ held → as_page d ≡ as_page a → held_at (tells_white_apart d) kept b ≡ held_at (tells_white_apart a) held b
same-held held kept a d b f g =
    held_at-paged d kept b
    ∙ rw (f, g) refl
    ∙ sym (held_at-paged a held b)

pub same-feeds : (v w : ScriptState) (c : ScriptClass) (b : ℕ) → IsSame v w → IsSame (feed_class v c b) (feed_class w c b)
same-feeds v w c b s =
    let p = same-point v.literals w.literals v.held w.held v.at w.at c b s.literals s.held s.at in
    record {
      literals = ap (λ (q : ScriptPoint). q.literals) p;
      held = same-held v.held w.held v.at w.at b s.held s.at;
      at = ap (λ (q : ScriptPoint). q.at) p;
    }

-- A comment over which bytes were passed.
passed-point : (fs held : List ℕ) (a : At) (r : Sense) (x : Bool) (c : ScriptClass) (b : ℕ) → as_page a ≡ BlockComment r x → as_page_point (point_after fs held a c b) ≡ as_page_point (point_after fs held (BlockComment r x) c b)
passed-point fs held a r x c b e = point_after-paged fs held a c b ∙ ap (λ (d : At). as_page_point (point_after fs held d c b)) e

passed-told : (fs held : List ℕ) (a : At) (r : Sense) (x : Bool) (c : ScriptClass) (b : ℕ) (t : List ScriptEvent) → as_page a ≡ BlockComment r x → told_after fs held a c b t ≡ told_after fs held (BlockComment r x) c b t
passed-told fs held a r x c b t e = told_after-paged fs held a c b t ∙ ap (λ (d : At). told_after fs held d c b t) e

passed-none : (a : At) (held : List ℕ) (r : Sense) (x : Bool) (b : ℕ) → as_page a ≡ BlockComment r x → held_at (tells_white_apart a) held b ≡ []
passed-none a held r x b e = held_at-paged a held b ∙ ap (λ (d : At). held_at (tells_white_apart d) held b) e

splits_first-paged : (a : At) (m : List ℕ) (xs : List ClassedByte) → splits_first a m xs ≡ splits_first (as_page a) m xs
splits_first-paged a m [] = refl
splits_first-paged a m (x ∷ xs) = splits-paged a m x.class

star-splits : (m held : List ℕ) (a : At) (r : Sense) (b : ℕ) → as_page a ≡ BlockComment r true → splits_first a m (read_at (tells_white_apart a) held class.Solidus b) ≡ true
star-splits m held a r b e =
    splits_first-paged a m (read_at (tells_white_apart a) held class.Solidus b)
    ∙ ap (λ (x : Bool). splits_first (as_page a) m (read_at x held class.Solidus b)) (apart-paged a)
    ∙ ap (λ (d : At). splits_first d m (read_at (tells_white_apart d) held class.Solidus b)) e

refused-first : (x y : Bool) (n : ℕ) (o : Option Cause) → x ≡ true → y ≡ true → first_script_cause (if x && y then cause SplitToken n n else None) o ≡ None → ⊥
refused-first true true n o e f h = cc
refused-first true false n o e f h = cc
refused-first false y n o e f h = cc

solidus-refused : (element : Bool) (v : ScriptState) (r : Sense) (b : ℕ) → v.trail.fresh ≡ true → as_page v.at ≡ BlockComment r true → script_refuses_class element v class.Solidus b ≡ None → ⊥
solidus-refused element v r b e f h =
    refused-first v.trail.fresh (splits_first v.at v.trail.markup (read_at (tells_white_apart v.at) v.held class.Solidus b)) (length v.held) (refusal_outside v.literals element v class.Solidus b) e (star-splits v.trail.markup v.held v.at r b f) h

star-next : (element : Bool) (v : ScriptState) (r : Sense) (c : ScriptClass) (b : ℕ) → v.trail.fresh ≡ true → as_page v.at ≡ BlockComment r true → script_refuses_class element v c b ≡ None
    → (fs held kept : List ℕ) → as_page_point (point_after fs kept (BlockComment r false) c b) ≡ as_page_point (point_after fs held (BlockComment r true) c b)
star-next element v r class.Solidus b e f h fs held kept = absurd (solidus-refused element v r b e f h)
star-next element v r class.Asterisk b e f h fs held kept = refl
star-next element v r c b e f h fs held kept = refl

passed-feeds : (element : Bool) (v w : ScriptState) (c : ScriptClass) (b : ℕ) → IsPassed v w → script_refuses_class element v c b ≡ None → IsSame (feed_class v c b) (feed_class w c b)
passed-feeds element v w c b s h =
    let p =
    passed-point w.literals w.held w.at s.sense false c b s.page
    ∙ star-next element v s.sense c b s.fresh s.path h w.literals v.held w.held
    ∙ ap (λ (fs : List ℕ). as_page_point (point_after fs v.held (BlockComment s.sense true) c b)) s.literals
    ∙ sym (passed-point v.literals v.held v.at s.sense true c b s.path) in
    record {
      literals = ap (λ (q : ScriptPoint). q.literals) p;
      held = passed-none w.at w.held s.sense false b s.page ∙ sym (passed-none v.at v.held s.sense true b s.path);
      at = ap (λ (q : ScriptPoint). q.at) p;
    }

passed-emits : (v w : ScriptState) (c : ScriptClass) (b : ℕ) (t : List ScriptEvent) → IsPassed v w → script_emits_class w c b t ≡ script_emits_class v c b t
passed-emits v w c b t s =
    passed-told w.literals w.held w.at s.sense false c b t s.page
    ∙ block-tells w.literals s.sense s.sense false true c b t
    ∙ ap (λ (fs : List ℕ). told_after fs v.held (BlockComment s.sense true) c b t) s.literals
    ∙ sym (passed-told v.literals v.held v.at s.sense true c b t s.path)

-- What is held back.
same-released : (fs gs held kept : List ℕ) (a d : At) → gs ≡ fs → kept ≡ held → as_page d ≡ as_page a
    → as_page_point (points (classed_as class.Letter kept) (point gs d)) ≡ as_page_point (points (classed_as class.Letter held) (point fs a))
same-released fs gs held kept a d e f g =
    points-paged (classed_as class.Letter kept) (point gs d)
    ∙ rw (e, f, g) refl
    ∙ sym (points-paged (classed_as class.Letter held) (point fs a))

same-emits_released : (fs gs held kept : List ℕ) (a d : At) (t : List ScriptEvent) → gs ≡ fs → kept ≡ held → as_page d ≡ as_page a
    → tells_all (classed_as class.Letter kept) (point gs d) t ≡ tells_all (classed_as class.Letter held) (point fs a) t
same-emits_released fs gs held kept a d t e f g =
    tells_all-paged (classed_as class.Letter kept) (point gs d) t
    ∙ rw (e, f, g) refl
    ∙ sym (tells_all-paged (classed_as class.Letter held) (point fs a) t)

-- what is told at a point, by what it is in a page
slash-of : (p q : ScriptPoint) (t u : List ScriptEvent) → as_page_point q ≡ as_page_point p → u ≡ t → tells_held_slash q.literals q.at u ≡ tells_held_slash p.literals p.at t
slash-of p q t u e f =
    slash_held-paged q.literals q.at u
    ∙ ap (λ (x : ScriptPoint). tells_held_slash x.literals x.at u) e
    ∙ ap (tells_held_slash p.literals (as_page p.at)) f
    ∙ sym (slash_held-paged p.literals p.at t)

end-of : (p q : ScriptPoint) (t u : List ScriptEvent) → as_page_point q ≡ as_page_point p → u ≡ t → tells_end q.at u ≡ tells_end p.at t
end-of p q t u e f =
    end-paged q.at u
    ∙ ap (λ (x : ScriptPoint). tells_end x.at u) e
    ∙ ap (tells_end (as_page p.at)) f
    ∙ sym (end-paged p.at t)

same-settles : (v w : ScriptState) (t : List ScriptEvent) → IsSame v w → script_emits_settled w t ≡ script_emits_settled v t
same-settles v w t s =
    slash-of (released_point v) (released_point w) (emits_released v t) (emits_released w t)
    (same-released v.literals w.literals v.held w.held v.at w.at s.literals s.held s.at)
    (same-emits_released v.literals w.literals v.held w.held v.at w.at t s.literals s.held s.at)

pub same-ends : (v w : ScriptState) (t : List ScriptEvent) → IsSame v w → script_ends w t ≡ script_ends v t
same-ends v w t s =
    end-of (released_point v) (released_point w) (script_emits_settled v t) (script_emits_settled w t)
    (same-released v.literals w.literals v.held w.held v.at w.at s.literals s.held s.at)
    (same-settles v w t s)

comment-silent : (fs : List ℕ) (r : Sense) (x : Bool) (t : List ScriptEvent) → tells_held_slash fs (BlockComment r x) t ≡ t
comment-silent [] r x t = refl
comment-silent (n ∷ fs) r x t = refl

-- within a comment nothing is told before a hole, nor at the end
comment-settles : (fs held : List ℕ) (a : At) (r : Sense) (x : Bool) (t : List ScriptEvent) → held ≡ [] → as_page a ≡ BlockComment r x
    → (let p = points (classed_as class.Letter held) (point fs a) in tells_held_slash p.literals p.at (tells_all (classed_as class.Letter held) (point fs a) t)) ≡ t
comment-settles fs held a r x t e f =
    rw e (slash_held-paged fs a t ∙ rw f (comment-silent fs r x t))

comment-ends : (fs held : List ℕ) (a : At) (r : Sense) (x : Bool) (t : List ScriptEvent) → held ≡ [] → as_page a ≡ BlockComment r x
    → tells_end (points (classed_as class.Letter held) (point fs a)).at t ≡ t
comment-ends fs held a r x t e f = rw e (end-paged a t ∙ rw f refl)

passed-settles : (v w : ScriptState) (t : List ScriptEvent) → IsPassed v w → script_emits_settled w t ≡ script_emits_settled v t
passed-settles v w t s =
    comment-settles w.literals w.held w.at s.sense false t s.page_held s.page
    ∙ sym (comment-settles v.literals v.held v.at s.sense true t s.path_held s.path)

passed-ends : (v w : ScriptState) (t : List ScriptEvent) → IsPassed v w → script_ends w t ≡ script_ends v t
passed-ends v w t s =
    comment-ends w.literals w.held w.at s.sense false (script_emits_settled w t) s.page_held s.page
    ∙ passed-settles v w t s
    ∙ sym (comment-ends v.literals v.held v.at s.sense true (script_emits_settled v t) s.path_held s.path)

-- A hole.
abbrev Passes : At → At → Type 0
Passes a after = (r : Sense) × (as_page (hole_at a) ≡ BlockComment r true) × (as_page after ≡ BlockComment r false)

plain-leads : (a after : At) → LeadsPlainAt a after → (as_page after ≡ as_page (hole_at a)) ⊎ Passes a after
plain-leads (Code s) after h = inl h
plain-leads (Word w) after h = inl h
plain-leads Number after h = inl h
plain-leads (Pluses odd) after h = inl h
plain-leads (Minuses odd) after h = inl h
plain-leads (Slash s) after h = absurd h
plain-leads (LineComment s) after h = inl (ap as_page h)
plain-leads (BlockComment s true) after (inl h) = inl (ap as_page h)
plain-leads (BlockComment s true) after (inr h) = inr (paged s, refl, ap as_page h)
plain-leads (BlockComment s false) after (inl h) = inl (ap as_page h)
plain-leads (BlockComment s false) after (inr h) = inl (ap as_page h)
plain-leads (InString q NoEscape) after h = inl (ap as_page h)
plain-leads (InString q e) after h = absurd h
plain-leads (InRegexp false NoEscape) after h = inl (ap as_page h)
plain-leads (InRegexp k e) after h = absurd h
plain-leads (InTemplate e d) after h = absurd h
plain-leads TooDeep after h = absurd h

-- where a hole leads a path, by what the point before it is in a page
holed-of : (a d : At) → as_page d ≡ as_page a → as_page (hole_at (settled_at d)) ≡ as_page (hole_at (settled_at a))
holed-of a d e =
    hole-paged (settled_at d)
    ∙ ap (λ (x : At). as_page (hole_at x)) (settled-paged d)
    ∙ ap (λ (x : At). as_page (hole_at (as_page (settled_at x)))) e
    ∙ sym (ap (λ (x : At). as_page (hole_at x)) (settled-paged a))
    ∙ sym (hole-paged (settled_at a))

abbrev SameOrPassed : ScriptState → ScriptState → Type 0
SameOrPassed v w = IsSame v w ⊎ IsPassed v w

same-hole : (v w after : ScriptState) → IsSame v w → ScriptLeadsPlain (script_settled w) after → SameOrPassed (script_after_hole v) after
same-hole v w after s h =
    let p = same-released v.literals w.literals v.held w.held v.at w.at s.literals s.held s.at in
    let fs = h.within ∙ sym h.outside ∙ ap (λ (q : ScriptPoint). q.literals) p in
    let back = holed-of (released_point v).at (released_point w).at (ap (λ (q : ScriptPoint). q.at) p) in
    elim (plain-leads (script_settled w).at after.at h.at) [
      | inl e ↦ inl (record { literals = fs; held = h.released; at = e ∙ back })
      | inr x ↦ inr (record { sense = x.0; literals = fs; fresh = refl; path = sym back ∙ x.1; page = x.2; path_held = refl; page_held = h.released })
    ]

block-differs : (r s : Sense) → BlockComment r false ≡ BlockComment s true → ⊥
block-differs r s e = cc

paged-block : (r : Sense) (x : Bool) → as_page (hole_at (as_page (settled_at (BlockComment r x)))) ≡ BlockComment (paged r) x
paged-block sense.Re x = refl
paged-block sense.Div x = refl
paged-block sense.Brace x = refl

holed-comment : (fs held : List ℕ) (a : At) (r : Sense) (x : Bool) → held ≡ [] → as_page a ≡ BlockComment r x
    → as_page (hole_at (settled_at (points (classed_as class.Letter held) (point fs a)).at)) ≡ BlockComment (paged r) x
holed-comment fs held a r x e f =
    rw e (hole-paged (settled_at a)
    ∙ ap (λ (d : At). as_page (hole_at d)) (settled-paged a)
    ∙ ap (λ (d : At). as_page (hole_at (as_page (settled_at d)))) f
    ∙ paged-block r x)

same-literals : (fs held : List ℕ) (a : At) → held ≡ [] → (points (classed_as class.Letter held) (point fs a)).literals ≡ fs
same-literals fs held a e = rw e refl

passed-hole : (v w after : ScriptState) → IsPassed v w → ScriptLeadsPlain (script_settled w) after → SameOrPassed (script_after_hole v) after
passed-hole v w after s h =
    let here = holed-comment w.literals w.held w.at s.sense false s.page_held s.page in
    let fs = h.within ∙ sym h.outside ∙ same-literals w.literals w.held w.at s.page_held ∙ s.literals ∙ sym (same-literals v.literals v.held v.at s.path_held) in
    elim (plain-leads (script_settled w).at after.at h.at) [
      | inl e ↦ inr (record {
        sense = paged s.sense;
        literals = fs;
        fresh = refl;
        path = holed-comment v.literals v.held v.at s.sense true s.path_held s.path;
        page = e ∙ here;
        path_held = refl;
        page_held = h.released;
      })
      | inr x ↦ absurd (block-differs (paged s.sense) x.0 (sym here ∙ x.1))
    ]

-- The escape that is open: it is by where a byte has led, and by the escape before.
pub escape-paged : (a : At) (m : List ℕ) (b : ℕ) → escape_after a m b ≡ escape_after (as_page a) m b
escape-paged (InString q e) m b = refl
escape-paged (InRegexp k e) m b = refl
escape-paged a m b = refl

pub brace-paged : (a : At) (m : List ℕ) (n b : ℕ) → brace_after a m n b ≡ brace_after (as_page a) m n b
brace-paged (InString q e) m n b = refl
brace-paged (InRegexp k e) m n b = refl
brace-paged a m n b = refl

same-escape : (a d : At) (m k : List ℕ) (b : ℕ) → k ≡ m → as_page d ≡ as_page a → escape_after d k b ≡ escape_after a m b
same-escape a d m k b e f = escape-paged d k b ∙ rw (e, f) refl ∙ sym (escape-paged a m b)

-- whether a `\u{` is open
both-open : (x : Bool) (l n : ℕ) → is_open_brace (if x then 0 else suc (suc l)) ≡ is_open_brace (if x then 0 else suc (suc n))
both-open true l n = refl
both-open false l n = refl

still-open : (m : List ℕ) (n l b : ℕ) → is_open_brace l ≡ is_open_brace n → is_open_brace (next_brace m l b) ≡ is_open_brace (next_brace m n b)
still-open m zero zero b e = refl
still-open m zero (suc l) b e = absurd (true≢false e)
still-open m (suc n) zero b e = absurd (true≢false (sym e))
still-open m (suc n) (suc l) b e = both-open (b == 125) l n

same-open : (a : At) (m : List ℕ) (n l b : ℕ) → is_open_brace l ≡ is_open_brace n → is_open_brace (brace_after a m l b) ≡ is_open_brace (brace_after a m n b)
same-open (InString q e) m n l b h = still-open m n l b h
same-open (InRegexp k e) m n l b h = still-open m n l b h
same-open a m n l b h = refl

same-brace : (a d : At) (m k : List ℕ) (n l b : ℕ) → k ≡ m → is_open_brace l ≡ is_open_brace n → as_page d ≡ as_page a → is_open_brace (brace_after d k l b) ≡ is_open_brace (brace_after a m n b)
same-brace a d m k n l b e g f =
    ap is_open_brace (brace-paged d k l b ∙ rw (e, f) refl ∙ sym (brace-paged a m l b))
    ∙ same-open a m n l b g

pub escape-feeds : (v w : ScriptState) (c : ScriptClass) (b : ℕ) → HaveSameEscape v w → IsSame (feed_class v c b) (feed_class w c b) → HaveSameEscape (feed_class v c b) (feed_class w c b)
escape-feeds v w c b h s =
    let p = feed_class v c b in
    let q = feed_class w c b in
    record {
      escape = same-escape p.at q.at v.trail.escape w.trail.escape b h.escape s.at;
      brace = same-brace p.at q.at v.trail.escape w.trail.escape v.trail.brace w.trail.brace b h.escape h.brace s.at;
    }

escape-hole : (v w after : ScriptState) → ScriptLeadsPlain (script_settled w) after → HaveSameEscape (script_after_hole v) after
escape-hole v w after h = record { escape = h.whole_after.none; brace = ap is_open_brace h.whole_after.closed }

cut-alike : (v w : ScriptState) → ScriptsAlike v w → ScriptsAlike (script_after_cut v) w
cut-alike v w (h, o) = (
  record { escape = h.escape; brace = h.brace },
  elim o [
    | inl s ↦ inl (record { literals = s.literals; held = s.held; at = s.at })
    | inr s ↦ inr (record { sense = s.sense; literals = s.literals; fresh = refl; path = s.path; page = s.page; path_held = s.path_held; page_held = s.page_held })
  ],
)

alike-emits : (element : Bool) (v w : ScriptState) (b : ℕ) (t : List ScriptEvent) → ScriptsAlike v w → script_refuses element v b ≡ None → script_emits w b t ≡ script_emits v b t
alike-emits element v w b t (i, inl s) h = same-told v.literals w.literals v.held w.held v.at w.at (class_of b) b t s.literals s.held s.at
alike-emits element v w b t (i, inr s) h = passed-emits v w (class_of b) b t s

fed-same : (element : Bool) (v w : ScriptState) (b : ℕ) → SameOrPassed v w → script_refuses element v b ≡ None → IsSame (feed_script v b) (feed_script w b)
fed-same element v w b (inl s) h = same-feeds v w (class_of b) b s
fed-same element v w b (inr s) h = passed-feeds element v w (class_of b) b s h

alike-feeds : (element : Bool) (v w : ScriptState) (b : ℕ) → ScriptsAlike v w → script_refuses element v b ≡ None → ScriptsAlike (feed_script v b) (feed_script w b)
alike-feeds element v w b (i, o) h =
    let s = fed-same element v w b o h in
    (escape-feeds v w (class_of b) b i s, inl s)

alike-ends : (v w : ScriptState) (t : List ScriptEvent) → ScriptsAlike v w → script_ends w t ≡ script_ends v t
alike-ends v w t (i, inl s) = same-ends v w t s
alike-ends v w t (i, inr s) = passed-ends v w t s

alike-settles : (v w : ScriptState) (t : List ScriptEvent) → ScriptsAlike v w → script_emits_settled w t ≡ script_emits_settled v t
alike-settles v w t (i, inl s) = same-settles v w t s
alike-settles v w t (i, inr s) = passed-settles v w t s

mark-of : (a d : At) → as_page d ≡ as_page a → script_has_mark_at d ≡ script_has_mark_at a
mark-of a d e = mark-paged d ∙ ap script_has_mark_at e ∙ sym (mark-paged a)

alike-marks : (v w : ScriptState) → ScriptsAlike v w → script_has_mark w ≡ script_has_mark v
alike-marks v w (i, inl s) = mark-of v.at w.at s.at
alike-marks v w (i, inr s) = mark-paged w.at ∙ ap script_has_mark_at s.page ∙ sym (ap script_has_mark_at s.path) ∙ sym (mark-paged v.at)

alike-hole : (v w after : ScriptState) → ScriptsAlike v w → ScriptLeadsPlain (script_settled w) after → ScriptsAlike (script_after_hole v) (script_behind (script_settled w) after)
alike-hole v w after (i, inl s) h = (escape-hole v w after h, same-hole v w after s h)
alike-hole v w after (i, inr s) h = (escape-hole v w after h, passed-hole v w after s h)

pub scripts-keep : ScriptLaws
scripts-keep = record {
  begins = (
    record { escape = refl; brace = refl },
    inl (record { literals = refl; held = refl; at = refl }),
  );
  emits = alike-emits;
  feeds = alike-feeds;
  ends = alike-ends;
  after_cut = cut-alike;
  settles = alike-settles;
  marks = alike-marks;
  hole = alike-hole;
}
