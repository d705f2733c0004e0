-- From the place of one path, what characters come to and what is refused of them is the path's own.
use Rattle.std.proofs.Common.{◌≡◌, ◌∙◌, ◌≤◌, ◌+◌, ◌-◌, ◌++◌, ℕ, zero, suc, false, List, [], ◌∷◌, Option, Some, None, Ok, Err, refl, sym, ap, subst, arith}
use Rattle.std.specs.Prelude.{encode_utf8}
use Rattle.js_lexer.specs.Holes.{script_after_cut}
use Rattle.js_lexer.specs.Refusals.{Cause, script_refuses, script_refuses_cut, refuses_end}
use Rattle.js_lexer.specs.States.{At, Word, ScriptState}
use Rattle.place_core.specs.declared.body.Body.TheVariants as body
use Rattle.place_core.specs.declared.js.Js.{Js}
use Rattle.place_core.specs.declared.mode.Mode.{Mode}
use Rattle.place_core.specs.declared.mode.Mode.TheVariants as mode
use Rattle.place_core.specs.declared.step.Step.TheVariants as step
use Rattle.place_core.specs.place.ScriptParts.{script_body}
use Rattle.js_step.specs.KeptWords.{kept_at, kept_scan}
use Rattle.js_step.specs.ScriptCharacterLaws.{ScriptPathRead, path_read_start, path_read_shown, path_read_next, path_read_behind, path_shown_behind, path_text_end, path_text_refused, ScriptAnswers, IsExactOnOneScriptText}
use Rattle.js_step.specs.ScriptCharacters.{ScriptText, script_scalar, script_text_bytes, ScriptRead, script_shown_or, script_read_shown, script_read_start, script_read_next, script_read_behind, script_shown_behind, script_refused_there, script_byte_place, unless_script_refused, script_bytes_error, script_characters_end, script_text_refused, script_characters_from, after_script_characters}
use Rattle.js_step.specs.ScriptPaths.{script_scanned, OneScriptPath}
use Rattle.js_step.specs.ScriptScans.{ScriptScan, script_scan, script_scan_start, script_scan_next, script_scan_error, script_scan_place, script_scan_shown, script_scan_cut_error, script_scan_end_error}
use Rattle.js_step.specs.declared.script_read.RefusedScript.{RefusedScript}
use Rattle.js_step.proofs.KeptAnswers.{kept-words-suffice}
use Rattle.js_step.proofs.KeptScans.{of-kept}
use Rattle.js_step.proofs.KeptWordSteps.{take-again-same}
use Rattle.js_step.proofs.ScriptPaths.{script-paths-are-scanned}

-- What the code has read is what the path has read, but for what is kept of a word.
record AlikeRead (y : ScriptPathRead) (x : ScriptRead) : Type 0 where
  scan : ScriptScan
  scanned : script_scanned y.state ≡ Some scan
  kept : kept_scan x.scan ≡ kept_scan scan
  last : y.last ≡ x.last
  count : y.count ≡ x.count

one-path : (y : ScriptPathRead) (x : ScriptRead) (h : AlikeRead y x) → OneScriptPath y.state h.scan
one-path y x h = script-paths-are-scanned.goes_on y.state h.scan h.scanned

-- what does not depend on more of a word than is kept
by-kept : {A : Type 0} (f : ScriptScan → A) (n m : ScriptScan) → f (kept_scan n) ≡ f n → f (kept_scan m) ≡ f m → kept_scan n ≡ kept_scan m → f n ≡ f m
by-kept f n m e g h = sym e ∙ (ap f h ∙ g)

kept-at-twice : (a : At) → kept_at (kept_at a) ≡ kept_at a
kept-at-twice a = of-kept kept_at (λ w. ap Word (take-again-same w)) a

kept-twice : (n : ScriptScan) → kept_scan (kept_scan n) ≡ kept_scan n
kept-twice n =
    ap (λ (a : At). script_scan n.senses n.before n.star (record { literals = n.state.literals; at = a; held = n.state.held; trail = n.state.trail }))
    (kept-at-twice n.state.at)

error-alike : (y : ScriptPathRead) (x : ScriptRead) (b : ℕ) → AlikeRead y x → script_scan_error false x.scan b ≡ script_refuses false y.state b
error-alike y x b h =
    by-kept (λ (n : ScriptScan). script_scan_error false n b) x.scan h.scan ((kept-words-suffice x.scan).error false b) ((kept-words-suffice h.scan).error false b)
    h.kept
    ∙ (one-path y x h).error false b

shown-alike : (y : ScriptPathRead) (x : ScriptRead) → AlikeRead y x → path_read_shown y ≡ script_read_shown x
shown-alike y x h =
    let shown = by-kept script_scan_shown x.scan h.scan (kept-words-suffice x.scan).shown (kept-words-suffice h.scan).shown h.kept
    ∙ (one-path y x h).shown in
    ap (λ (o : Option Js). script_shown_or o y.last) (sym shown) ∙ ap (λ (c : Js). script_shown_or (script_scan_shown x.scan) c) h.last

there-alike : (y : ScriptPathRead) (x : ScriptRead) (o : Option Cause) → AlikeRead y x
    → script_refused_there y.count o ≡ script_refused_there x.count o
there-alike y x o h = ap (λ (k : ℕ). script_refused_there k o) h.count

next-alike : (y : ScriptPathRead) (x : ScriptRead) (b : ℕ) → script_refuses false y.state b ≡ None → AlikeRead y x
    → AlikeRead (path_read_next y b) (script_read_next x b)
next-alike y x b none h = record {
  scan = script_scan_next h.scan b;
  scanned = (one-path y x h).next false b none;
  kept = kept-twice (script_scan_next x.scan b)
      ∙ by-kept (λ (n : ScriptScan). kept_scan (script_scan_next n b)) x.scan h.scan ((kept-words-suffice x.scan).next b) ((kept-words-suffice h.scan).next b) h.kept;
  last = shown-alike y x h;
  count = ap (λ (k : ℕ). k + 1) h.count;
}

-- the bytes of a character, before the others
step-alike : (o : Option Cause) (y : ScriptPathRead) (x : ScriptRead) (p q r : Option RefusedScript) → AlikeRead y x
    → (o ≡ None → p ≡ unless_script_refused q r)
    → unless_script_refused (script_refused_there y.count o) p ≡ unless_script_refused (unless_script_refused (script_refused_there x.count o) q) r
step-alike None y x p q r h f = f refl
step-alike (Some e) y x p q r h f = there-alike y x (Some e) h

bytes-alike : (bs rest : List ℕ) (m : Mode) (y : ScriptPathRead) (x : ScriptRead) → AlikeRead y x
    → path_text_refused m y (bs ++ rest) ≡ unless_script_refused (script_bytes_error x bs) (path_text_refused m (path_read_behind y bs) rest)
bytes-alike [] rest m y x h = refl
bytes-alike (b ∷ bs) rest m y x h =
    let q = script_bytes_error (script_read_next x b) bs in
    let r = path_text_refused m (path_read_behind (path_read_next y b) bs) rest in
    step-alike (script_refuses false y.state b) y x (path_text_refused m (path_read_next y b) (bs ++ rest)) q r h
    (λ e. bytes-alike bs rest m (path_read_next y b) (script_read_next x b) (next-alike y x b e h))
    ∙ ap (λ (o : Option Cause). unless_script_refused (unless_script_refused (script_refused_there x.count o) q) r) (sym (error-alike y x b h))

none-both : (x : ScriptRead) (o : Option Cause) (r : Option RefusedScript) → unless_script_refused (script_refused_there x.count o) r ≡ None
    → (o ≡ None) × (r ≡ None)
none-both x None r e = (refl, e)
none-both x (Some z) r e = cc

behind-alike : (bs : List ℕ) (y : ScriptPathRead) (x : ScriptRead) → script_bytes_error x bs ≡ None → AlikeRead y x
    → AlikeRead (path_read_behind y bs) (script_read_behind x bs)
behind-alike [] y x e h = h
behind-alike (b ∷ bs) y x e h =
    let both = none-both x (script_scan_error false x.scan b) (script_bytes_error (script_read_next x b) bs) e in
    behind-alike bs (path_read_next y b) (script_read_next x b) both.1 (next-alike y x b (sym (error-alike y x b h) ∙ both.0) h)

behind-append : (bs rest : List ℕ) (y : ScriptPathRead) → path_read_behind y (bs ++ rest) ≡ path_read_behind (path_read_behind y bs) rest
behind-append [] rest y = refl
behind-append (b ∷ bs) rest y = behind-append bs rest (path_read_next y b)

-- where the characters end
cut-alike : (y : ScriptPathRead) (x : ScriptRead) → AlikeRead y x → script_scan_cut_error x.scan ≡ script_refuses_cut y.state
cut-alike y x h =
    by-kept script_scan_cut_error x.scan h.scan (kept-words-suffice x.scan).cut_error (kept-words-suffice h.scan).cut_error h.kept
    ∙ (one-path y x h).cut_error

last-alike : (y : ScriptPathRead) (x : ScriptRead) → AlikeRead y x → script_scan_end_error x.scan ≡ refuses_end y.state
last-alike y x h =
    by-kept script_scan_end_error x.scan h.scan (kept-words-suffice x.scan).end_error (kept-words-suffice h.scan).end_error h.kept
    ∙ (one-path y x h).end_error

place-alike : (y : ScriptPathRead) (x : ScriptRead) (h : AlikeRead y x) → script_scan_place h.scan ≡ script_scan_place x.scan
place-alike y x h = sym (by-kept script_scan_place x.scan h.scan (kept-words-suffice x.scan).place (kept-words-suffice h.scan).place h.kept)

end-there : (y : ScriptPathRead) (x : ScriptRead) (o p : Option Cause) → AlikeRead y x → o ≡ p
    → script_refused_there x.count o ≡ script_refused_there y.count p
end-there y x o p h e = ap (script_refused_there x.count) e ∙ sym (there-alike y x p h)

end-alike : (m : Mode) (y : ScriptPathRead) (x : ScriptRead) → AlikeRead y x → script_characters_end m x ≡ path_text_end m y
end-alike mode.Whole y x h = end-there y x (script_scan_end_error x.scan) (refuses_end y.state) h (last-alike y x h)
end-alike mode.Open y x h = end-there y x (script_scan_cut_error x.scan) (script_refuses_cut y.state) h (cut-alike y x h)
end-alike mode.Element y x h = end-there y x (script_scan_cut_error x.scan) (script_refuses_cut y.state) h (cut-alike y x h)

-- what the code shows behind so many bytes of the characters
abbrev shown_of : Js → List (ℕ × ℕ) → ℕ → Js
shown_of c all n = script_shown_behind n (script_text_bytes all) (script_read_start c)

end-answers : (c : Js) (all : List (ℕ × ℕ)) (o p : Option RefusedScript) (v : ScriptState) (d : Js) → o ≡ p
    → (script_refuses_cut v ≡ None → script_body (script_after_cut v) ≡ Some (body.Js d))
    → ScriptAnswers (shown_of c all) all p v (script_text_refused c all o (Ok (step.Inside d)))
end-answers c all None None v d e f = f
end-answers c all None (Some q) v d e f = cc
end-answers c all (Some p) None v d e f = cc
end-answers c all (Some p) (Some q) v d e f = cc

-- all the characters
first-answers : (c : Js) (all : List (ℕ × ℕ)) (o p : Option RefusedScript) (v : ScriptState) (r : ScriptText)
    → (o ≡ None → ScriptAnswers (shown_of c all) all p v r)
    → ScriptAnswers (shown_of c all) all (unless_script_refused o p) v (script_text_refused c all o r)
first-answers c all None p v r f = f refl
first-answers c all (Some e) p v r f = refl

all-answers : (cs all : List (ℕ × ℕ)) (c : Js) (m : Mode) (y : ScriptPathRead) (x : ScriptRead) → AlikeRead y x
    → ScriptAnswers (shown_of c all) all (path_text_refused m y (script_text_bytes cs)) (path_read_behind y (script_text_bytes cs)).state
    (script_characters_from m c all cs x)
all-answers [] all c m y x h =
    end-answers c all (script_characters_end m x) (path_text_end m y) y.state (script_scan_place x.scan) (end-alike m y x h)
    (λ none. (one-path y x h).stands none ∙ ap (λ (d : Js). Some (body.Js d)) (place-alike y x h))
all-answers (d ∷ ds) all c m y x h =
    let bs = encode_utf8 (script_scalar d.0) in
    let rest = script_text_bytes ds in
    let there = path_read_behind y bs in
    let answer = script_characters_from m c all ds (script_read_behind x bs) in
    let first = first-answers c all (script_bytes_error x bs) (path_text_refused m there rest) (path_read_behind there rest).state answer
    (λ e. all-answers ds all c m there (script_read_behind x bs) (behind-alike bs y x e h)) in
    subst (λ (o : Option RefusedScript).
    ScriptAnswers (shown_of c all) all o (path_read_behind y (bs ++ rest)).state (script_text_refused c all (script_bytes_error x bs) answer))
    (sym (bytes-alike bs rest m y x h))
    (subst (λ (z : ScriptPathRead).
    ScriptAnswers (shown_of c all) all (unless_script_refused (script_bytes_error x bs) (path_text_refused m there rest)) z.state
    (script_text_refused c all (script_bytes_error x bs) answer))
    (sym (behind-append bs rest y)) first)

-- Up to what is shown nothing is refused, so what the path shows there is what the code shows.
abbrev shown_in : Option RefusedScript → ℕ
shown_in None = 0
shown_in (Some e) = e.shown

abbrev ShowsAlike : ℕ → List ℕ → ScriptPathRead → ScriptRead → Type 0
ShowsAlike n bs y x = path_shown_behind n bs y ≡ script_shown_behind n bs x

shown-step : (n b : ℕ) (bs : List ℕ) (m : Mode) (y : ScriptPathRead) (x : ScriptRead) (e : RefusedScript) (o : Option Cause) → AlikeRead y x
    → script_refuses false y.state b ≡ o
    → unless_script_refused (script_refused_there y.count o) (path_text_refused m (path_read_next y b) bs) ≡ Some e → suc n ≤ e.shown - y.count
    → (AlikeRead (path_read_next y b) (script_read_next x b) → path_text_refused m (path_read_next y b) bs ≡ Some e → n ≤ e.shown - (y.count + 1)
    → ShowsAlike n bs (path_read_next y b) (script_read_next x b))
    → ShowsAlike n bs (path_read_next y b) (script_read_next x b)
shown-step n b bs m y x e None h none r k f = f (next-alike y x b none h) r (omega (arith, k))
shown-step n b bs m y x e (Some z) h some r k f = absurd (omega (arith, k, ap shown_in r))

shown-first : (n : ℕ) (bs : List ℕ) (m : Mode) (y : ScriptPathRead) (x : ScriptRead) (e : RefusedScript) → AlikeRead y x
    → path_text_refused m y bs ≡ Some e → n ≤ e.shown - y.count → ShowsAlike n bs y x
shown-first zero bs m y x e h r k = shown-alike y x h
shown-first (suc n) [] m y x e h r k = shown-alike y x h
shown-first (suc n) (b ∷ bs) m y x e h r k =
    shown-step n b bs m y x e (script_refuses false y.state b) h refl r k
    (λ (next : AlikeRead (path_read_next y b) (script_read_next x b)) (s : path_text_refused m (path_read_next y b) bs ≡ Some e) (l : n ≤ e.shown - (y.count + 1)).
    shown-first n bs m (path_read_next y b) (script_read_next x b) e next s l)

shown-instead : (f g : ℕ → Js) (cs : List (ℕ × ℕ)) (o : Option RefusedScript) (v : ScriptState) (r : ScriptText)
    → ((e : RefusedScript) → o ≡ Some e → f e.shown ≡ g e.shown) → ScriptAnswers f cs o v r → ScriptAnswers g cs o v r
shown-instead f g cs None v (Ok (step.Inside c)) same h = h
shown-instead f g cs None v (Ok (step.Ends n)) same h = h
shown-instead f g cs None v (Err e) same h = h
shown-instead f g cs (Some e) v (Ok a) same h = h
shown-instead f g cs (Some e) v (Err z) same h =
    h ∙ ap (λ (c : Js). record { code = e.code; at = script_byte_place e.byte 0 cs; before = c }) (same e refl)

pub is-exact-on-one-script-text : IsExactOnOneScriptText
is-exact-on-one-script-text m cs v c h =
    let y = path_read_start v c in
    let x = script_read_start c in
    let ts = script_text_bytes cs in
    let alike : AlikeRead y x = record { scan = script_scan_start c; scanned = h; kept = refl; last = refl; count = refl } in
    shown-instead (shown_of c cs) (λ n. path_shown_behind n ts y) cs (path_text_refused m y ts) (path_read_behind y ts).state (after_script_characters m cs c)
    (λ (e : RefusedScript) (r : path_text_refused m y ts ≡ Some e). sym (shown-first e.shown ts m y x e alike r (omega arith)))
    (all-answers cs cs c m y x alike)
