-- What is written in a script depends on no more than all its paths share: it is the same on a path and by its scan state, and by a scan state and one above it.
use Rattle.std.proofs.Common.{◌≡◌, ℕ, ◌==◌, ◌&&◌, Bool, true, false, List, [], ◌∷◌, ◌++◌, Some, None, if◌then◌else◌, not, true≢false, refl, sym, ap, ap₂, ◌∙◌}
use Rattle.std.proofs.lemmas.Bool.{eqb-true}
use Rattle.js_lexer.specs.Classes.{class_of}
use Rattle.js_lexer.specs.Elements.{script_may_end}
use Rattle.js_lexer.specs.Feeding.{feed_script, read_at, tells_white_apart}
use Rattle.js_lexer.specs.Refusals.{script_refuses}
use Rattle.js_lexer.specs.States.{At, Code, Word, Number, Pluses, Minuses, Slash, LineComment, BlockComment, InString, InRegexp, Trail, ScriptState}
use Rattle.js_lexer.specs.Trails.{is_empty}
use Rattle.js_lexer.specs.WhiteSpace.{classed, classed_as, released}
use Rattle.js_lexer.specs.Written.{script_hides, script_written, script_written_at_cut, written_between}
use Rattle.js_lexer.specs.declared.class.ScriptClass.TheVariants as class
use Rattle.js_lexer.specs.declared.sense.Sense.{Sense}
use Rattle.js_lexer.specs.declared.sense.Sense.TheVariants as sense
use Rattle.js_step.proofs.KeptAnswers.{kept-words-suffice}
use Rattle.js_step.proofs.ScriptGrowth.{scripts-grow}
use Rattle.js_step.proofs.ScriptPaths.{is-before, script-paths-are-scanned}
use Rattle.js_step.specs.KeptWords.{kept_at, kept_scan}
use Rattle.js_step.specs.ScriptPaths.{is_script_before, is_script_within, script_scanned, script_scanned_if}
use Rattle.js_step.specs.ScriptScanLaws.{IsBeforeText, before_text, ends_code, ends_less, ends_hash, ends_word, ends_number, ends_pluses, ends_minuses, ends_minus, ends_two_minuses, ends_regexp_slash, ends_slash, ends_line, ends_block, ends_string, ends_regexp, script_alone, script_alone_before, script_begun_at}
use Rattle.js_step.specs.ScriptScanOrder.{ScriptScanBelow}
use Rattle.js_step.specs.ScriptScans.{ScriptScan, script_at_in, script_in_sense, script_one_sense, script_scan_error, script_scan_next, script_sense_at, script_shared}
use Rattle.place_core.proofs.Semilattices.{none_some, one_value}
use Rattle.place_core.specs.place.ScriptParts.{script_senses}

abbrev state : List ℕ → At → List ℕ → Trail → ScriptState
state fs a held t = record { literals = fs; at = a; held = held; trail = t }

-- No sense matters, and no word.
before-in-sense : (r : Sense) (fs : List ℕ) (a : At) (held : List ℕ) (t : Trail) (w : ScriptState) (b : ℕ) → written_between (state fs (script_at_in r a) held t) w b ≡ written_between (state fs a held t) w b
before-in-sense r [] (Slash s) held t w b = refl
before-in-sense r (n ∷ fs) (Slash s) held t w b = refl
before-in-sense r fs (Code s) held t w b = refl
before-in-sense r fs (LineComment s) held t w b = refl
before-in-sense r fs (BlockComment s star) held t w b = refl
before-in-sense r fs a held t w b = refl

after-in-sense : (r : Sense) (v : ScriptState) (fs : List ℕ) (a : At) (held : List ℕ) (t : Trail) (b : ℕ) → written_between v (state fs (script_at_in r a) held t) b ≡ written_between v (state fs a held t) b
after-in-sense r v fs (Code s) held t b = refl
after-in-sense r v fs (Slash s) held t b = refl
after-in-sense r v fs (LineComment s) held t b = refl
after-in-sense r v fs (BlockComment s star) held t b = refl
after-in-sense r v fs a held t b = refl

before-kept : (v w : ScriptState) (a : At) (b : ℕ) → written_between (state v.literals (kept_at a) v.held v.trail) w b ≡ written_between (state v.literals a v.held v.trail) w b
before-kept v w (Word x) b = refl
before-kept v w a b = refl

after-kept : (v w : ScriptState) (a : At) (b : ℕ) → written_between v (state w.literals (kept_at a) w.held w.trail) b ≡ written_between v (state w.literals a w.held w.trail) b
after-kept v w (Word x) b = refl
after-kept v w a b = refl

written-in-sense : (r s : Sense) (v w : ScriptState) (b : ℕ) → written_between (script_in_sense r v) (script_in_sense s w) b ≡ written_between v w b
written-in-sense r s v w b = before-in-sense r v.literals v.at v.held v.trail (script_in_sense s w) b ∙ after-in-sense s v w.literals w.at w.held w.trail b

-- Of a scan state, and of what is kept of its words.
abbrev after-byte : ScriptScan → ℕ → ScriptState
after-byte n b = (script_scan_next n b).state

shared-writes : (n : ScriptScan) (b : ℕ) → script_written (script_shared n) b ≡ written_between n.state (after-byte n b) b
shared-writes n b = before-in-sense (script_one_sense n.senses) n.state.literals n.state.at n.state.held n.state.trail (after-byte n b) b

pub kept-writes : (n : ScriptScan) (b : ℕ) → script_written (script_shared (kept_scan n)) b ≡ script_written (script_shared n) b
kept-writes n b =
    let v = n.state in
    let w = after-byte n b in
    let u = after-byte (kept_scan n) b in
    shared-writes (kept_scan n) b
    ∙ before-kept v u v.at b
    ∙ sym (after-kept v u u.at b)
    ∙ ap (λ (m : ScriptScan). written_between v m.state b) ((kept-words-suffice n).next b)
    ∙ after-kept v w w.at b
    ∙ sym (shared-writes n b)

-- A scan state and one above it.
pub below-writes : (n m : ScriptScan) (b : ℕ) → ScriptScanBelow n m → script_scan_error true m b ≡ None → script_written (script_shared n) b ≡ script_written (script_shared m) b
below-writes n m b h e =
    let next = (scripts-grow.scans n m h).next true b e in
    shared-writes n b
    ∙ sym (written-in-sense sense.Re sense.Re n.state (after-byte n b) b)
    ∙ ap₂ (λ (v w : ScriptState). written_between v w b) h.state next.state
    ∙ written-in-sense sense.Re sense.Re m.state (after-byte m b) b
    ∙ sym (shared-writes m b)

cut-in-sense : (r : Sense) (fs : List ℕ) (a : At) (held : List ℕ) (t : Trail) → script_written_at_cut (state fs (script_at_in r a) held t) ≡ script_written_at_cut (state fs a held t)
cut-in-sense r fs (Code s) held t = refl
cut-in-sense r fs (Slash s) held t = refl
cut-in-sense r fs (LineComment s) held t = refl
cut-in-sense r fs (BlockComment s star) held t = refl
cut-in-sense r fs a held t = refl

hides-in-sense : (r : Sense) (fs : List ℕ) (a : At) (held : List ℕ) (t : Trail) (word : List ℕ) → script_hides (state fs (script_at_in r a) held t) word ≡ script_hides (state fs a held t) word
hides-in-sense r fs a held t [] = refl
hides-in-sense r fs (Code s) held t (b ∷ bs) = refl
hides-in-sense r fs (Slash s) held t (b ∷ bs) = refl
hides-in-sense r fs (LineComment s) held t (b ∷ bs) = refl
hides-in-sense r fs (BlockComment s star) held t (b ∷ bs) = refl
hides-in-sense r fs a held t (b ∷ bs) = refl

shared-cut : (n : ScriptScan) → script_written_at_cut (script_shared n) ≡ script_written_at_cut (script_in_sense sense.Re n.state)
shared-cut n =
    let v = n.state in
    cut-in-sense (script_one_sense n.senses) v.literals v.at v.held v.trail ∙ sym (cut-in-sense sense.Re v.literals v.at v.held v.trail)

pub below-cuts : (n m : ScriptScan) → ScriptScanBelow n m → script_written_at_cut (script_shared n) ≡ script_written_at_cut (script_shared m)
below-cuts n m h = shared-cut n ∙ ap script_written_at_cut h.state ∙ sym (shared-cut m)

shared-hides : (n : ScriptScan) (word : List ℕ) → script_hides (script_shared n) word ≡ script_hides (script_in_sense sense.Re n.state) word
shared-hides n word =
    let v = n.state in
    hides-in-sense (script_one_sense n.senses) v.literals v.at v.held v.trail word ∙ sym (hides-in-sense sense.Re v.literals v.at v.held v.trail word)

pub below-hides : (n m : ScriptScan) (word : List ℕ) → ScriptScanBelow n m → script_hides (script_shared n) word ≡ script_hides (script_shared m) word
below-hides n m word h = shared-hides n word ∙ ap (λ (v : ScriptState). script_hides v word) h.state ∙ sym (shared-hides m word)

cut-kept : (fs : List ℕ) (a : At) (held : List ℕ) (t : Trail) → script_written_at_cut (state fs (kept_at a) held t) ≡ script_written_at_cut (state fs a held t)
cut-kept fs (Word x) held t = refl
cut-kept fs a held t = refl

hides-kept : (fs : List ℕ) (a : At) (held : List ℕ) (t : Trail) (word : List ℕ) → script_hides (state fs (kept_at a) held t) word ≡ script_hides (state fs a held t) word
hides-kept fs a held t [] = refl
hides-kept fs (Word x) held t (b ∷ bs) = refl
hides-kept fs a held t (b ∷ bs) = refl

ends-kept : (r : Sense) (fs : List ℕ) (a : At) (held : List ℕ) (t : Trail) → script_may_end (state fs (script_at_in r (kept_at a)) held t) ≡ script_may_end (state fs (script_at_in r a) held t)
ends-kept r fs (Word x) held t = refl
ends-kept r fs a held t = refl

pub kept-cuts : (n : ScriptScan) → script_written_at_cut (script_shared (kept_scan n)) ≡ script_written_at_cut (script_shared n)
kept-cuts n =
    let v = n.state in
    let s = script_one_sense n.senses in
    cut-in-sense s v.literals (kept_at v.at) v.held v.trail ∙ cut-kept v.literals v.at v.held v.trail ∙ sym (cut-in-sense s v.literals v.at v.held v.trail)

pub kept-hides : (n : ScriptScan) (word : List ℕ) → script_hides (script_shared (kept_scan n)) word ≡ script_hides (script_shared n) word
kept-hides n word =
    let v = n.state in
    let s = script_one_sense n.senses in
    hides-in-sense s v.literals (kept_at v.at) v.held v.trail word ∙ hides-kept v.literals v.at v.held v.trail word
    ∙ sym (hides-in-sense s v.literals v.at v.held v.trail word)

pub kept-may-end : (n : ScriptScan) → script_may_end (script_shared (kept_scan n)) ≡ script_may_end (script_shared n)
kept-may-end n = (let v = n.state in ends-kept (script_one_sense n.senses) v.literals v.at v.held v.trail)

-- A path within a text is its scan state.
own-sense : (s : Sense) → script_one_sense (script_senses s) ≡ s
own-sense sense.Re = refl
own-sense sense.Div = refl
own-sense sense.Brace = refl

own-at : (a : At) → script_at_in (script_one_sense (script_senses (script_sense_at a))) a ≡ a
own-at (Code s) = ap Code (own-sense s)
own-at (Slash s) = ap Slash (own-sense s)
own-at (LineComment s) = ap LineComment (own-sense s)
own-at (BlockComment s star) = ap (λ (r : Sense). BlockComment r star) (own-sense s)
own-at a = refl

pub alone-shared : (v : ScriptState) → script_shared (script_alone v) ≡ v
alone-shared v = ap (λ (a : At). state v.literals a v.held v.trail) (own-at v.at)

-- A path before the first character.
before-same : (v w : ScriptState) (b : ℕ) → IsBeforeText v → written_between (script_shared (script_alone_before v)) w b ≡ written_between v w b
before-same _ w b (before_text _ _ _ (ends_code s held)) = refl
before-same _ w b (before_text _ _ _ (ends_less s)) = refl
before-same _ w b (before_text _ _ _ (ends_hash s)) = refl
before-same _ w b (before_text _ _ _ (ends_word x held)) = refl
before-same _ w b (before_text _ _ _ (ends_number held)) = refl
before-same _ w b (before_text _ _ _ (ends_pluses odd held)) = refl
before-same _ w b (before_text _ _ _ (ends_minuses odd held)) = refl
before-same _ w b (before_text _ _ _ (ends_minus odd)) = refl
before-same _ w b (before_text _ _ _ (ends_two_minuses odd)) = refl
before-same _ w b (before_text _ _ _ ends_regexp_slash) = refl
before-same _ w b (before_text _ _ _ (ends_slash [])) = refl
before-same _ w b (before_text _ _ _ (ends_slash (x ∷ held))) = refl
before-same _ w b (before_text _ _ _ (ends_line s held)) = refl
before-same _ w b (before_text _ _ _ (ends_block s star)) = refl
before-same _ w b (before_text _ _ _ (ends_string q)) = refl
before-same _ w b (before_text _ _ _ ends_regexp) = refl

after-begun : (v : ScriptState) (a : At) (held : List ℕ) (t u : Trail) (b : ℕ) → (b == 47) ≡ false → written_between v (state [] (script_begun_at a) held t) b ≡ written_between v (state [] a held u) b
after-begun v (Word x) held t u b e = rw e refl
after-begun v Number held t u b e = rw e refl
after-begun v (Pluses odd) held t u b e = rw e refl
after-begun v (Minuses odd) held t u b e = rw e refl
after-begun v (Slash sense.Re) held t u b e = rw e refl
after-begun v (Slash sense.Div) held t u b e = rw e refl
after-begun v (Slash sense.Brace) held t u b e = rw e refl
after-begun v (BlockComment s star) held t u b e = rw e refl
after-begun v (InString q i) held t u b e = rw e refl
after-begun v (InRegexp k i) held t u b e = rw e refl
after-begun v a held t u b e = rw e refl

-- A byte behind which the first character is not known yet is no slash, and leaves the path where it is.
solidus-alone : (held : List ℕ) → is_empty (classed_as class.Letter held ++ classed class.Solidus 47 ∷ []) ≡ false
solidus-alone [] = refl
solidus-alone (x ∷ xs) = refl

solidus-known : (tells : Bool) (held : List ℕ) → is_empty (read_at tells held (class_of 47) 47) ≡ false
unfolding class_of released
solidus-known true held = solidus-alone held
solidus-known false held = refl

pub solidus-no-first : (fresh : Bool) (v : ScriptState) → (fresh && not (not (is_empty (read_at (tells_white_apart v.at) v.held (class_of 47) 47)))) ≡ false
solidus-no-first true v = ap (λ (x : Bool). not (not x)) (solidus-known (tells_white_apart v.at) v.held)
solidus-no-first false v = refl

is-solidus : (b : ℕ) → (b == 47) ≡ true → b ≡ 47
is-solidus b e = eqb-true b 47 e

no-first-by : (same : Bool) (v : ScriptState) (b : ℕ) → (b == 47) ≡ same → (feed_script v b).trail.fresh ≡ true → (b == 47) ≡ false
no-first-by false v b e f = e
no-first-by true v b e f = absurd (true≢false (sym f ∙ ap (λ (x : ℕ). (feed_script v x).trail.fresh) (is-solidus b e) ∙ solidus-no-first v.trail.fresh v))

-- what the scan state of a path is, by whether the first character is known
scanned-known : (x : Bool) (v : ScriptState) (n m : ScriptScan) → script_scanned_if x m ≡ Some n → (x ≡ true) × (m ≡ n)
scanned-known true v n m e = (refl, one_value m n e)
scanned-known false v n m e = absurd (none_some n e)

data HasScan (v : ScriptState) (n : ScriptScan) : Type 0 where
  within : v.trail.fresh ≡ false → script_alone v ≡ n → HasScan v n
  before : v.trail.fresh ≡ true → IsBeforeText v → script_alone_before v ≡ n → HasScan v n

has-scan-by : (fresh : Bool) (v : ScriptState) (n : ScriptScan) → v.trail.fresh ≡ fresh
    → (if fresh then script_scanned_if (is_script_before v) (script_alone_before v) else script_scanned_if (is_script_within v) (script_alone v)) ≡ Some n → HasScan v n
has-scan-by true v n f e = (let k = scanned-known (is_script_before v) v n (script_alone_before v) e in before f (is-before v k.0) k.1)
has-scan-by false v n f e = within f (scanned-known (is_script_within v) v n (script_alone v) e).1

has-scan : (v : ScriptState) (n : ScriptScan) → script_scanned v ≡ Some n → HasScan v n
has-scan v n e = has-scan-by v.trail.fresh v n refl e

before-path : (v : ScriptState) (n : ScriptScan) (w : ScriptState) (b : ℕ) → HasScan v n → written_between (script_shared n) w b ≡ written_between v w b
before-path v n w b (within f e) = ap (λ (m : ScriptScan). written_between (script_shared m) w b) (sym e) ∙ ap (λ (u : ScriptState). written_between u w b) (alone-shared v)
before-path v n w b (before f i e) = ap (λ (m : ScriptScan). written_between (script_shared m) w b) (sym e) ∙ before-same v w b i

no-literals : (v : ScriptState) → IsBeforeText v → v.literals ≡ []
no-literals _ (before_text a h m e) = refl

after-before : (v w : ScriptState) (b : ℕ) → w.literals ≡ [] → (b == 47) ≡ false → written_between v (script_alone_before w).state b ≡ written_between v w b
after-before v w b e k =
    after-begun v w.at w.held (script_alone_before w).state.trail w.trail b k
    ∙ ap (λ (fs : List ℕ). written_between v (state fs w.at w.held w.trail) b) (sym e)

after-path : (v w : ScriptState) (m : ScriptScan) (b : ℕ) → (w.trail.fresh ≡ true → (b == 47) ≡ false) → HasScan w m → written_between v m.state b ≡ written_between v w b
after-path v w m b k (within f e) = ap (λ (x : ScriptScan). written_between v x.state b) (sym e)
after-path v w m b k (before f i e) = ap (λ (x : ScriptScan). written_between v x.state b) (sym e) ∙ after-before v w b (no-literals w i) (k f)

-- A path and its scan state.
scanned-writes : (v : ScriptState) (n : ScriptScan) (b : ℕ) → script_scanned v ≡ Some n → script_scanned (feed_script v b) ≡ Some (script_scan_next n b) → script_written v b ≡ script_written (script_shared n) b
scanned-writes v n b i next =
    let m = script_scan_next n b in
    let w = feed_script v b in
    let k = has-scan w m next in
    sym (before-path v n m.state b (has-scan v n i) ∙ after-path v w m b (λ f. no-first-by (b == 47) v b refl f) k)

pub path-writes : (v : ScriptState) (n : ScriptScan) (b : ℕ) → script_scanned v ≡ Some n → script_refuses true v b ≡ None → script_written v b ≡ script_written (script_shared n) b
path-writes v n b i e = scanned-writes v n b i ((script-paths-are-scanned.goes_on v n i).next true b e)

-- at the end of a node
cut-before : (v : ScriptState) → IsBeforeText v → script_written_at_cut (script_shared (script_alone_before v)) ≡ script_written_at_cut v
cut-before _ (before_text _ _ _ (ends_code s held)) = refl
cut-before _ (before_text _ _ _ (ends_less s)) = refl
cut-before _ (before_text _ _ _ (ends_hash s)) = refl
cut-before _ (before_text _ _ _ (ends_word x held)) = refl
cut-before _ (before_text _ _ _ (ends_number held)) = refl
cut-before _ (before_text _ _ _ (ends_pluses odd held)) = refl
cut-before _ (before_text _ _ _ (ends_minuses odd held)) = refl
cut-before _ (before_text _ _ _ (ends_minus odd)) = refl
cut-before _ (before_text _ _ _ (ends_two_minuses odd)) = refl
cut-before _ (before_text _ _ _ ends_regexp_slash) = refl
cut-before _ (before_text _ _ _ (ends_slash [])) = refl
cut-before _ (before_text _ _ _ (ends_slash (x ∷ held))) = refl
cut-before _ (before_text _ _ _ (ends_line s held)) = refl
cut-before _ (before_text _ _ _ (ends_block s star)) = refl
cut-before _ (before_text _ _ _ (ends_string q)) = refl
cut-before _ (before_text _ _ _ ends_regexp) = refl

cut-by : (v : ScriptState) (n : ScriptScan) → HasScan v n → script_written_at_cut v ≡ script_written_at_cut (script_shared n)
cut-by v n (within f e) = ap script_written_at_cut (sym (alone-shared v)) ∙ ap (λ (m : ScriptScan). script_written_at_cut (script_shared m)) e
cut-by v n (before f i e) = sym (cut-before v i) ∙ ap (λ (m : ScriptScan). script_written_at_cut (script_shared m)) e

pub path-cuts : (v : ScriptState) (n : ScriptScan) → script_scanned v ≡ Some n → script_written_at_cut v ≡ script_written_at_cut (script_shared n)
path-cuts v n i = cut-by v n (has-scan v n i)

-- of a word in a token, and whether an end tag ends the element
hides-before : (v : ScriptState) (word : List ℕ) → IsBeforeText v → script_hides (script_shared (script_alone_before v)) word ≡ script_hides v word
hides-before v [] i = refl
hides-before _ (b ∷ bs) (before_text _ _ _ (ends_code s held)) = refl
hides-before _ (b ∷ bs) (before_text _ _ _ (ends_less s)) = refl
hides-before _ (b ∷ bs) (before_text _ _ _ (ends_hash s)) = refl
hides-before _ (b ∷ bs) (before_text _ _ _ (ends_word x held)) = refl
hides-before _ (b ∷ bs) (before_text _ _ _ (ends_number held)) = refl
hides-before _ (b ∷ bs) (before_text _ _ _ (ends_pluses odd held)) = refl
hides-before _ (b ∷ bs) (before_text _ _ _ (ends_minuses odd held)) = refl
hides-before _ (b ∷ bs) (before_text _ _ _ (ends_minus odd)) = refl
hides-before _ (b ∷ bs) (before_text _ _ _ (ends_two_minuses odd)) = refl
hides-before _ (b ∷ bs) (before_text _ _ _ ends_regexp_slash) = refl
hides-before _ (b ∷ bs) (before_text _ _ _ (ends_slash [])) = refl
hides-before _ (b ∷ bs) (before_text _ _ _ (ends_slash (x ∷ held))) = refl
hides-before _ (b ∷ bs) (before_text _ _ _ (ends_line s held)) = refl
hides-before _ (b ∷ bs) (before_text _ _ _ (ends_block s star)) = refl
hides-before _ (b ∷ bs) (before_text _ _ _ (ends_string q)) = refl
hides-before _ (b ∷ bs) (before_text _ _ _ ends_regexp) = refl

hides-by : (v : ScriptState) (n : ScriptScan) (word : List ℕ) → HasScan v n → script_hides v word ≡ script_hides (script_shared n) word
hides-by v n word (within f e) = ap (λ (u : ScriptState). script_hides u word) (sym (alone-shared v)) ∙ ap (λ (m : ScriptScan). script_hides (script_shared m) word) e
hides-by v n word (before f i e) = sym (hides-before v word i) ∙ ap (λ (m : ScriptScan). script_hides (script_shared m) word) e

pub path-hides : (v : ScriptState) (n : ScriptScan) (word : List ℕ) → script_scanned v ≡ Some n → script_hides v word ≡ script_hides (script_shared n) word
path-hides v n word i = hides-by v n word (has-scan v n i)

ends-before-text : (v : ScriptState) → IsBeforeText v → script_may_end (script_shared (script_alone_before v)) ≡ script_may_end v
ends-before-text _ (before_text _ _ _ (ends_code s held)) = refl
ends-before-text _ (before_text _ _ _ (ends_less s)) = refl
ends-before-text _ (before_text _ _ _ (ends_hash s)) = refl
ends-before-text _ (before_text _ _ _ (ends_word x held)) = refl
ends-before-text _ (before_text _ _ _ (ends_number held)) = refl
ends-before-text _ (before_text _ _ _ (ends_pluses odd held)) = refl
ends-before-text _ (before_text _ _ _ (ends_minuses odd held)) = refl
ends-before-text _ (before_text _ _ _ (ends_minus odd)) = refl
ends-before-text _ (before_text _ _ _ (ends_two_minuses odd)) = refl
ends-before-text _ (before_text _ _ _ ends_regexp_slash) = refl
ends-before-text _ (before_text _ _ _ (ends_slash held)) = refl
ends-before-text _ (before_text _ _ _ (ends_line s held)) = refl
ends-before-text _ (before_text _ _ _ (ends_block s star)) = refl
ends-before-text _ (before_text _ _ _ (ends_string q)) = refl
ends-before-text _ (before_text _ _ _ ends_regexp) = refl

ends-by : (v : ScriptState) (n : ScriptScan) → HasScan v n → script_may_end v ≡ script_may_end (script_shared n)
ends-by v n (within f e) = ap script_may_end (sym (alone-shared v)) ∙ ap (λ (m : ScriptScan). script_may_end (script_shared m)) e
ends-by v n (before f i e) = sym (ends-before-text v i) ∙ ap (λ (m : ScriptScan). script_may_end (script_shared m)) e

pub path-may-end : (v : ScriptState) (n : ScriptScan) → script_scanned v ≡ Some n → script_may_end v ≡ script_may_end (script_shared n)
path-may-end v n i = ends-by v n (has-scan v n i)
