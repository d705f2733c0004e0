-- What is kept of a word, and a state that is stepped.
use Rattle.std.proofs.Common.{◌≡◌, ◌∙◌, ℕ, ◌&&◌, Bool, length, take, List, refl, ap, arith}
use Rattle.std.proofs.lemmas.List.{length-take, take_all}
use Rattle.js_lexer.specs.Classes.{class_of}
use Rattle.js_lexer.specs.Feeding.{tells_white_apart, read_at, held_at, feed_script, point_of}
use Rattle.js_lexer.specs.States.{At, Code, Word, Number, Pluses, Minuses, Slash, LineComment, BlockComment, InString, InRegexp, InTemplate, TooDeep, ScriptPoint, point, Trail}
use Rattle.js_lexer.specs.Trails.{next_trail}
use Rattle.js_lexer.specs.declared.sense.Sense.{Sense}
use Rattle.place_core.specs.declared.js_tails.JsTails.{JsTails}
use Rattle.place_core.specs.declared.senses.Senses.{Senses}
use Rattle.js_step.specs.KeptWords.{kept_word, kept_at, kept_point, kept_scan}
use Rattle.js_step.specs.ScriptScanViews.{script_releases}
use Rattle.js_step.specs.ScriptScans.{ScriptScan, script_scan, script_one_sense, script_at_in, script_in_sense, script_sense_at, script_senses_next, script_tails_next, script_scan_next, script_shared}
use Rattle.js_step.proofs.KeptWordSteps.{sense-kept}

pub take_again : (xs : List ℕ) (n : ℕ) → length xs ≡ 11 → take 11 (take n xs) ≡ take n xs
take_again xs n e = take_all 11 (take n xs) (omega (arith, e, length-take n xs))

-- what says the same of a word and of what is kept of it, says so of each lexeme
pub of-kept : {X : Type 0} (f : At → X) → ((w : List ℕ) → f (Word (kept_word w)) ≡ f (Word w)) → (a : At) → f (kept_at a) ≡ f a
of-kept f h (Code s) = refl
of-kept f h (Word w) = h w
of-kept f h Number = refl
of-kept f h (Pluses odd) = refl
of-kept f h (Minuses odd) = refl
of-kept f h (Slash s) = refl
of-kept f h (LineComment s) = refl
of-kept f h (BlockComment s star) = refl
of-kept f h (InString q e) = refl
of-kept f h (InRegexp k e) = refl
of-kept f h (InTemplate e d) = refl
of-kept f h TooDeep = refl

pub sense-at-kept : (a : At) → script_sense_at (kept_at a) ≡ script_sense_at a
sense-at-kept a = of-kept script_sense_at sense-kept a

pub trail-kept : (some : Bool) (t : Trail) (p q : ScriptPoint) (b : ℕ) → next_trail some t p (kept_point q) b ≡ next_trail some t p q b
trail-kept some t p q b = of-kept (λ (a : At). next_trail some t p (point q.literals a) b) (λ w. refl) q.at

-- a state behind a byte by its parts
pub next-parts : (n : ScriptScan) (b : ℕ) (s : Senses) (x : JsTails) (p : ScriptPoint) (h : List ℕ) (t : Trail)
    → s ≡ script_senses_next n.senses n.state b → x ≡ script_tails_next t.fresh n.before → p ≡ kept_point (point_of (feed_script (script_shared n) b))
    → h ≡ (feed_script (script_shared n) b).held → t ≡ (feed_script (script_shared n) b).trail
    → script_scan s x (t.fresh && n.star) (record { literals = p.literals; at = p.at; held = h; trail = t }) ≡ kept_scan (script_scan_next n b)
next-parts n b s x p h t es ex ep eh et = rw (es, ex, ep, eh, et) refl

pub held-there : (n : ScriptScan) (b : ℕ) (s : Sense) (a : At) (k : Bool) (h : List ℕ) → s ≡ script_one_sense n.senses → a ≡ script_at_in s n.state.at
    → k ≡ tells_white_apart a → h ≡ held_at k n.state.held b → h ≡ (feed_script (script_shared n) b).held
held-there n b s a k h es ea ek eh =
    eh ∙ ap (λ (z : Bool). held_at z n.state.held b) (ek ∙ ap tells_white_apart (ea ∙ ap (λ (z : Sense). script_at_in z n.state.at) es))

pub trail-there : (n : ScriptScan) (b : ℕ) (s : Sense) (a : At) (k some : Bool) (q : ScriptPoint) (t : Trail)
    → s ≡ script_one_sense n.senses → a ≡ script_at_in s n.state.at → k ≡ tells_white_apart a
    → some ≡ script_releases (read_at k n.state.held (class_of b) b) → q ≡ kept_point (point_of (feed_script (script_in_sense s n.state) b))
    → t ≡ next_trail some n.state.trail (point n.state.literals a) q b → t ≡ (feed_script (script_shared n) b).trail
trail-there n b s a k some q t es ea ek eo eq et =
    let apart = ek ∙ ap tells_white_apart ea in
    let any = eo ∙ ap (λ (z : Bool). script_releases (read_at z n.state.held (class_of b) b)) apart in
    et ∙ ((λ i. next_trail (any i) n.state.trail (point n.state.literals (ea i)) (eq i) b)
    ∙ (trail-kept _ n.state.trail _ (point_of (feed_script (script_in_sense s n.state) b)) b
    ∙ ap (λ (z : Sense). (feed_script (script_in_sense z n.state) b).trail) es))
