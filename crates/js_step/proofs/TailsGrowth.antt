-- Below a place at which paths have ended in more before the text.
use Rattle.std.proofs.Common.{◌≡◌, ◌∙◌, ℕ, Bool, true, false, ◌||◌, ◌&&◌, List, [], ◌∷◌, Option, Some, None, length, if◌then◌else◌, refl, sym, ap, ap₂, subst}
use Rattle.js_lexer.specs.Classes.{class_of}
use Rattle.js_lexer.specs.Feeding.{tells_white_apart, read_at, feed_script}
use Rattle.js_lexer.specs.Refusals.{Cause, cause, SplitToken, first_script_cause, refusal_outside}
use Rattle.js_lexer.specs.States.{At, Code, Word, Number, Pluses, Minuses, Slash, LineComment, BlockComment, InString, InRegexp, InTemplate, TooDeep, ScriptState}
use Rattle.js_lexer.specs.WhiteSpace.{ClassedByte}
use Rattle.js_lexer.specs.declared.class.ScriptClass.{ScriptClass}
use Rattle.js_lexer.specs.declared.class.ScriptClass.TheVariants as class
use Rattle.js_lexer.specs.declared.sense.Sense.TheVariants as sense
use Rattle.place_core.proofs.JoinParts.{js_partial}
use Rattle.place_core.specs.declared.js.Js.{Js}
use Rattle.place_core.specs.declared.js.Js.TheVariants as js
use Rattle.place_core.specs.declared.js_tails.JsTails.{JsTails}
use Rattle.place_core.specs.declared.senses.Senses.{Senses}
use Rattle.place_core.specs.place.LanguagePlaces.{both_senses, both_js_tails}
use Rattle.js_step.specs.ScriptScans.{ScriptScan, script_scan, script_shared, script_tail_at, script_star_at, script_senses_next, script_tails_held, script_tails_next, script_scan_next, script_goes_on, script_first_goes_on, script_two_senses, script_senses_differ, script_slash_place, script_place_at, script_at_hole}
use Rattle.js_step.specs.ScriptScanLaws.{script_alone_before, IsBeforeText, OneScriptBefore}
use Rattle.js_step.specs.ScriptSetLaws.{ScriptBelow, ScriptTailsBelow, tails_below, GrowsScriptTails, CoversScriptTails, ScriptTailsGrow}
use Rattle.js_step.proofs.FirstCharacter.{scripts-begin-as-one}
use Rattle.js_step.proofs.OneScriptPath.{given}
use Rattle.place_core.specs.place.ScriptParts.{script_tails, script_no_tails, script_senses}

no : true ≡ false → ⊥
no e = cc

-- sets
pub member : (x y : Bool) → (x || y) ≡ y → y ≡ false → x ≡ false
member true y e f = absurd (no (e ∙ f))
member false y e f = refl

left-none : (x y : Bool) → (x || y) ≡ false → x ≡ false
left-none true y e = absurd (no e)
left-none false y e = refl

right-none : (x y : Bool) → (x || y) ≡ false → y ≡ false
right-none true y e = absurd (no e)
right-none false y e = e

pub none-of : (x y : Bool) → x ≡ false → y ≡ false → (x || y) ≡ false
none-of true y e f = absurd (no e)
none-of false y e f = f

two-grow : (x z y w : Bool) → (x || y) ≡ y → (z || w) ≡ w → (y || w) ≡ false → (x || z) ≡ false
two-grow x z y w e f g = none-of x z (member x y e (left-none y w g)) (member z w f (right-none y w g))

pub or-same : (x : Bool) → (x || x) ≡ x
or-same true = refl
or-same false = refl

senses-by : (a b c : Bool) → both_senses (record { re = a; div = b; brace = c }) (record { re = a; div = b; brace = c }) ≡ record { re = a; div = b; brace = c }
senses-by true true true = refl
senses-by true true false = refl
senses-by true false true = refl
senses-by true false false = refl
senses-by false true true = refl
senses-by false true false = refl
senses-by false false true = refl
senses-by false false false = refl

pub senses-same : (s : Senses) → both_senses s s ≡ s
senses-same s = senses-by s.re s.div s.brace

code-tails : (x y : JsTails) (s : Senses) → Some (js.Code s x) ≡ Some (js.Code s y) → x ≡ y
code-tails x y s e = cc

pub tails-by : (t : JsTails) → both_js_tails t t ≡ t
tails-by t = code-tails (both_js_tails t t) t (script_senses sense.Re) (js_partial.same (js.Code (script_senses sense.Re) t))

-- what goes on with more, goes on with less
pub goes-grows : (x y : JsTails) (k l : Bool) → both_js_tails x y ≡ y → (k || l) ≡ l → (c : ScriptClass) → script_goes_on y l c ≡ false → script_goes_on x k c ≡ false
goes-grows x y k l h e class.Letter n = two-grow x.word x.num y.word y.num (ap (λ (z : JsTails). z.word) h) (ap (λ (z : JsTails). z.num) h) n
goes-grows x y k l h e class.Digit n = two-grow x.word x.num y.word y.num (ap (λ (z : JsTails). z.word) h) (ap (λ (z : JsTails). z.num) h) n
goes-grows x y k l h e class.Dollar n = two-grow x.word x.num y.word y.num (ap (λ (z : JsTails). z.word) h) (ap (λ (z : JsTails). z.num) h) n
goes-grows x y k l h e class.Backslash n = two-grow x.word x.num y.word y.num (ap (λ (z : JsTails). z.word) h) (ap (λ (z : JsTails). z.num) h) n
goes-grows x y k l h e class.Dot n = member x.num y.num (ap (λ (z : JsTails). z.num) h) n
goes-grows x y k l h e class.Plus n = member x.plus y.plus (ap (λ (z : JsTails). z.plus) h) n
goes-grows x y k l h e class.Minus n = member x.minus y.minus (ap (λ (z : JsTails). z.minus) h) n
goes-grows x y k l h e class.GreaterThan n = member x.minus y.minus (ap (λ (z : JsTails). z.minus) h) n
goes-grows x y k l h e class.Solidus n =
    none-of x.lt (x.slash || k) (member x.lt y.lt (ap (λ (z : JsTails). z.lt) h) (left-none y.lt (y.slash || l) n))
    (two-grow x.slash k y.slash l (ap (λ (z : JsTails). z.slash) h) e (right-none y.lt (y.slash || l) n))
goes-grows x y k l h e class.Asterisk n = member x.slash y.slash (ap (λ (z : JsTails). z.slash) h) n
goes-grows x y k l h e class.ExclamationMark n = two-grow x.lt x.hash y.lt y.hash (ap (λ (z : JsTails). z.lt) h) (ap (λ (z : JsTails). z.hash) h) n
goes-grows x y k l h e _ n = refl

pub first-grows : (x y : JsTails) (k l : Bool) → both_js_tails x y ≡ y → (k || l) ≡ l → (xs : List ClassedByte) → script_first_goes_on y l xs ≡ false → script_first_goes_on x k xs ≡ false
first-grows x y k l h e [] n = refl
first-grows x y k l h e (z ∷ zs) n = goes-grows x y k l h e z.class n

abbrev pub split-if : Bool → List ℕ → Option Cause
split-if x held = if x then cause SplitToken (length held) (length held) else None

pub error-grows : (fresh p q : Bool) → (q ≡ false → p ≡ false) → (held : List ℕ) (o : Option Cause) → first_script_cause (split-if (fresh && q) held) o ≡ None → first_script_cause (split-if (fresh && p) held) o ≡ None
error-grows false p q f held o n = n
error-grows true p true f held o n = absurd (given _ n)
error-grows true true false f held o n = absurd (no (f refl))
error-grows true false false f held o n = n

abbrev rest-error : Senses → ScriptState → Bool → ℕ → Option Cause
rest-error s v element b =
    first_script_cause (script_two_senses (script_senses_differ s) v.literals v.at (class_of b))
    (refusal_outside v.literals element (script_shared (script_scan s script_no_tails false v)) (class_of b) b)

-- behind a byte
pub next-tails : (fresh : Bool) (x y : JsTails) → both_js_tails x y ≡ y → both_js_tails (script_tails_next fresh x) (script_tails_next fresh y) ≡ script_tails_next fresh y
next-tails true x y h = ap script_tails_held h
next-tails false x y h = refl

pub next-star : (fresh k l : Bool) → (k || l) ≡ l → ((fresh && k) || (fresh && l)) ≡ (fresh && l)
next-star true k l h = h
next-star false k l h = refl

-- the places
slash-below : (re : Bool) (x y : JsTails) → both_js_tails x y ≡ y → ScriptBelow (script_slash_place re x) (script_slash_place re y)
slash-below true x y h = ap (λ (z : JsTails). Some (js.Regexp z.slash)) h
slash-below false x y h = ap (λ (z : JsTails). Some (js.Code (script_senses sense.Re) z)) h

pub place-below : (s : Senses) (x y : JsTails) (k l : Bool) (a : At) → both_js_tails x y ≡ y → (k || l) ≡ l → ScriptBelow (script_place_at s x k a) (script_place_at s y l a)
place-below s x y k l (Slash t) h e = slash-below s.re x y h
place-below s x y k l (LineComment t) h e = ap (λ (z : Senses). Some (js.Line z)) (senses-same s)
place-below s x y k l (BlockComment t z) h e = ap₂ (λ (z : Senses) (w : Bool). Some (js.Block z w)) (senses-same s) e
place-below s x y k l (InString true z) h e = refl
place-below s x y k l (InString false z) h e = refl
place-below s x y k l (InRegexp q z) h e = ap (λ (z : JsTails). Some (js.Regexp z.slash)) h
place-below s x y k l (Code t) h e = ap₂ (λ (z : Senses) (w : JsTails). Some (js.Code z w)) (senses-same s) h
place-below s x y k l (Word w) h e = ap₂ (λ (z : Senses) (w : JsTails). Some (js.Code z w)) (senses-same s) h
place-below s x y k l Number h e = ap₂ (λ (z : Senses) (w : JsTails). Some (js.Code z w)) (senses-same s) h
place-below s x y k l (Pluses odd) h e = ap₂ (λ (z : Senses) (w : JsTails). Some (js.Code z w)) (senses-same s) h
place-below s x y k l (Minuses odd) h e = ap₂ (λ (z : Senses) (w : JsTails). Some (js.Code z w)) (senses-same s) h
place-below s x y k l (InTemplate z d) h e = ap₂ (λ (z : Senses) (w : JsTails). Some (js.Code z w)) (senses-same s) h
place-below s x y k l TooDeep h e = ap₂ (λ (z : Senses) (w : JsTails). Some (js.Code z w)) (senses-same s) h

pub end-tails : (fresh : Bool) (x y t : JsTails) → both_js_tails x y ≡ y → both_js_tails (if fresh then x else t) (if fresh then y else t) ≡ (if fresh then y else t)
end-tails true x y t h = h
end-tails false x y t h = tails-by t

pub end-star : (fresh k l t : Bool) → (k || l) ≡ l → ((if fresh then k else t) || (if fresh then l else t)) ≡ (if fresh then l else t)
end-star true k l t h = h
end-star false k l t h = or-same t

pub tails-grow : (n m : ScriptScan) → ScriptTailsBelow n m → GrowsScriptTails n m
tails-grow _ _ (tails_below s x y k l v h e) =
    let own : JsTails = script_tails (script_tail_at v.at v.trail.markup) in
    record {
      error = λ element b n.
          error-grows v.trail.fresh _ _ (first-grows x y k l h e (read_at (tells_white_apart (script_shared (script_scan s x k v)).at) v.held (class_of b) b)) v.held (rest-error s v element b) n;
      next = λ b. let w : ScriptState = feed_script (script_shared (script_scan s x k v)) b in
          tails_below (script_senses_next s v b) (script_tails_next w.trail.fresh x) (script_tails_next w.trail.fresh y) (w.trail.fresh && k) (w.trail.fresh && l) w
          (next-tails w.trail.fresh x y h) (next-star w.trail.fresh k l e);
      cut_error = refl;
      end_error = refl;
      place = place-below s (if v.trail.fresh then x else own) (if v.trail.fresh then y else own) (if v.trail.fresh then k else script_star_at v.at) (if v.trail.fresh then l else script_star_at v.at) v.at
          (end-tails v.trail.fresh x y own h) (end-star v.trail.fresh k l (script_star_at v.at) e);
    }

tails-cover : (m : ScriptScan) (v : ScriptState) → IsBeforeText v → ScriptTailsBelow (script_alone_before v) m → CoversScriptTails m v
tails-cover m v i h =
    let one : OneScriptBefore v = scripts-begin-as-one v i in
    let grows : GrowsScriptTails (script_alone_before v) m = tails-grow (script_alone_before v) m h in
    record {
      error = λ element b n. sym (one.error element b) ∙ grows.error element b n;
      next = λ element b n f. subst (λ (z : ScriptScan). ScriptTailsBelow z (script_scan_next m b)) (one.next element b (sym (one.error element b) ∙ grows.error element b n) f) (grows.next b);
      cut_error = λ n. sym one.cut_error ∙ (grows.cut_error ∙ n);
      end_error = λ n. sym one.end_error ∙ (grows.end_error ∙ n);
    }

-- a hole
pub hole-below : (c d : Js) → ScriptBelow c d → ScriptBelow (script_at_hole c) (script_at_hole d)
hole-below (js.Code s x) (js.Code t y) h = refl
hole-below js.Dq js.Dq h = h
hole-below js.Sq js.Sq h = h
hole-below (js.Regexp x) (js.Regexp y) h = refl
hole-below (js.Line s) (js.Line t) h = h
hole-below (js.Block s x) (js.Block t y) h = h
hole-below _ d h = absurd (given d (sym h))

pub script-tails-grow : ScriptTailsGrow
script-tails-grow = record { scans = tails-grow; covers = tails-cover; at_hole = hole-below }
