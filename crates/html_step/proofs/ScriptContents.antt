-- Two readings of the script of an element side by side: of one path and of all paths at a place. Where they refuse alike what they read, they do so at a byte,
-- which may make them read several, or may end the script.
use Rattle.std.proofs.Common.{◌≡◌, ℕ, ◌+◌, Bool, true, false, List, [], ◌∷◌, ◌++◌, codes, length, Option, Some, None, refl, sym, ap, ◌∙◌}
use Rattle.js_lexer.specs.Feeding.{feed_script}
use Rattle.js_lexer.specs.Refusals.{Cause}
use Rattle.js_lexer.specs.States.{ScriptState}
use Rattle.js_lexer.specs.Trails.{is_empty}
use Rattle.js_step.specs.ScriptScans.{ScriptScan}
use Rattle.place_core.specs.page.Classes.{Class, White, ExclamationMark, HyphenMinus, Solidus, LessThan, GreaterThan, Letter}
use Rattle.place_core.specs.page.Contents.{InWord, IsWord, BeginsWord, NoWord, ScriptStep, Reads, EndsContent, in_word, is_name_of, may_be_name_of, pending_bytes, script_step, step_bang, step_end_name, step_in_script, step_in_token, step_less, step_loose, word_goes_on}
use Rattle.place_core.specs.page.States.{Pending, Nothing, PendingLess, LessAtCut, PendingName, PendingBang, PendingBangDash, PendingOpening}
use Rattle.place_core.specs.page.Tags.{OfScript, fed_state, feed_bytes, languages}
use Rattle.place_core.specs.place.Errors.{PathCause, ScriptFeeding, asks_back, element_script, first_cause, read_error, script_cause_back, script_content_cut_error, script_content_error, script_read, step_asks, step_error}
use Rattle.place_core.specs.declared.element.Element.{Element}
use Rattle.html_scan.specs.Scans.{all_element_scripts, script_feeding}
use Rattle.html_step.proofs.FedAlike.{alike-first, first-caused}
use Rattle.html_step.proofs.ScriptPaths.{bytes-not-empty, kept_script_scanned, one-script}

-- a cause that is known so many bytes before has one there
pub back-none : (n : ℕ) (o : Option Cause) → script_cause_back n o ≡ None → o ≡ None
back-none n None h = refl
back-none n (Some e) h = cc

pub back-not : (n : ℕ) (o : Option Cause) → o ≡ None → script_cause_back n o ≡ None
back-not n None h = refl
back-not n (Some e) h = cc

-- what the second takes the first one takes, and they stay related
pub record ReadBeside {S T : Type 0} (m : ScriptFeeding S) (n : ScriptFeeding T) (R : S → T → Type 0) : Type 0 where
  pub takes : (s : S) (t : T) (b : ℕ) → R s t → n.refuses t b ≡ None → m.refuses s b ≡ None
  pub goes : (s : S) (t : T) (b : ℕ) → R s t → n.refuses t b ≡ None → R (m.feed s b) (n.feed t b)
  pub takes_cut : (s : S) (t : T) → R s t → n.refuses_cut t ≡ None → m.refuses_cut s ≡ None
  pub takes_end : (s : S) (t : T) → R s t → n.refuses_end t ≡ None → m.refuses_end s ≡ None

pub read-beside : {S T : Type 0} {m : ScriptFeeding S} {n : ScriptFeeding T} {R : S → T → Type 0} → ReadBeside m n R
    → (bs : List ℕ) (k l : ℕ) (s : S) (t : T) → R s t → read_error n t bs k ≡ None
    → (read_error m s bs l ≡ None) × R (script_read m s bs) (script_read n t bs)
read-beside h [] k l s t r e = (refl, r)
read-beside {m = m} {n = n} h (b ∷ bs) k l s t r e =
    let p = first-caused (script_cause_back (length bs + k) (n.refuses t b)) (read_error n (n.feed t b) bs k) e in
    let own = back-none (length bs + k) (n.refuses t b) p.0 in
    let more = read-beside h bs k l (m.feed s b) (n.feed t b) (h.goes s t b r own) p.1 in (
      ap (λ (o : Option PathCause). first_cause o (read_error m (m.feed s b) bs l))
          (back-not (length bs + l) (m.refuses s b) (h.takes s t b r own)) ∙ more.0,
      more.1,
    )

pub step-beside : {S T : Type 0} {m : ScriptFeeding S} {n : ScriptFeeding T} {R : S → T → Type 0} → ReadBeside m n R
    → (x : ScriptStep) (s : S) (t : T) → R s t → step_error n t x ≡ None → step_error m s x ≡ None
step-beside h (Reads bytes g) s t r e = (read-beside h (step_asks bytes g) (asks_back g) (asks_back g) s t r e).0
step-beside {m = m} {n = n} h (EndsContent letters) s t r e =
    back-not (length letters + 2) (m.refuses_end s) (h.takes_end s t r (back-none (length letters + 2) (n.refuses_end t) e))

pub cut-beside : {S T : Type 0} {m : ScriptFeeding S} {n : ScriptFeeding T} {R : S → T → Type 0} → ReadBeside m n R
    → (h : Pending) (s : S) (t : T) → R s t → script_content_cut_error n t h ≡ None → script_content_cut_error m s h ≡ None
cut-beside {m = m} {n = n} a h s t r e =
    let bytes = pending_bytes h in
    let p = first-caused (read_error n t bytes 1) (script_cause_back 0 (n.refuses_cut (script_read n t bytes))) e in
    let q = read-beside a bytes 1 1 s t r p.0 in
    ap (λ (o : Option PathCause). first_cause o (script_cause_back 0 (m.refuses_cut (script_read m s bytes)))) q.0
    ∙ back-not 0 (m.refuses_cut (script_read m s bytes))
    (a.takes_cut (script_read m s bytes) (script_read n t bytes) q.1 (back-none 0 (n.refuses_cut (script_read n t bytes)) p.1))

-- refused alike
pub record ReadAlike {S T : Type 0} (m : ScriptFeeding S) (n : ScriptFeeding T) (R : S → T → Type 0) : Type 0 where
  pub errors : (s : S) (t : T) (b : ℕ) → R s t → m.refuses s b ≡ n.refuses t b
  pub goes : (s : S) (t : T) (b : ℕ) → R s t → n.refuses t b ≡ None → R (m.feed s b) (n.feed t b)
  pub cut : (s : S) (t : T) → R s t → m.refuses_cut s ≡ n.refuses_cut t
  pub end : (s : S) (t : T) → R s t → m.refuses_end s ≡ n.refuses_end t
  pub may_end : (s : S) (t : T) → R s t → m.may_end s ≡ n.may_end t

pub read-as-beside : {S T : Type 0} {m : ScriptFeeding S} {n : ScriptFeeding T} {R : S → T → Type 0} → ReadAlike m n R → ReadBeside m n R
read-as-beside a = record {
  takes = λ s t b r e. a.errors s t b r ∙ e;
  goes = a.goes;
  takes_cut = λ s t r e. a.cut s t r ∙ e;
  takes_end = λ s t r e. a.end s t r ∙ e;
}

pub read-alike : {S T : Type 0} {m : ScriptFeeding S} {n : ScriptFeeding T} {R : S → T → Type 0} → ReadAlike m n R
    → (bs : List ℕ) (k : ℕ) (s : S) (t : T) → R s t → read_error m s bs k ≡ read_error n t bs k
read-alike a [] k s t r = refl
read-alike {m = m} {n = n} a (b ∷ bs) k s t r =
    let own = read_error m (m.feed s b) bs k in
    ap (λ (o : Option Cause). first_cause (script_cause_back (length bs + k) o) own) (a.errors s t b r)
    ∙ alike-first (script_cause_back (length bs + k) (n.refuses t b)) own (read_error n (n.feed t b) bs k)
    (λ e. read-alike a bs k (m.feed s b) (n.feed t b) (a.goes s t b r (back-none (length bs + k) (n.refuses t b) e)))

pub step-alike : {S T : Type 0} {m : ScriptFeeding S} {n : ScriptFeeding T} {R : S → T → Type 0} → ReadAlike m n R
    → (x : ScriptStep) (s : S) (t : T) → R s t → step_error m s x ≡ step_error n t x
step-alike a (Reads bytes g) s t r = read-alike a (step_asks bytes g) (asks_back g) s t r
step-alike a (EndsContent letters) s t r = ap (script_cause_back (length letters + 2)) (a.end s t r)

pub script-content-alike : {S T : Type 0} {m : ScriptFeeding S} {n : ScriptFeeding T} {R : S → T → Type 0} → ReadAlike m n R
    → (e : Element) (h : Pending) (c : Class) (b : ℕ) (s : S) (t : T) → R s t
    → script_content_error m e s h c b ≡ script_content_error n e t h c b
script-content-alike {m = m} {n = n} a e h c b s t r =
    ap (λ (x : Bool). step_error m s (script_step x e h c b)) (a.may_end s t r) ∙ step-alike a (script_step (n.may_end t) e h c b) s t r

pub script-cut-alike : {S T : Type 0} {m : ScriptFeeding S} {n : ScriptFeeding T} {R : S → T → Type 0} → ReadAlike m n R
    → (h : Pending) (s : S) (t : T) → R s t → script_content_cut_error m s h ≡ script_content_cut_error n t h
script-cut-alike {m = m} {n = n} a h s t r =
    let bytes = pending_bytes h in
    let own = script_cause_back 0 (m.refuses_cut (script_read m s bytes)) in
    ap (λ (o : Option PathCause). first_cause o own) (read-alike a bytes 1 s t r)
    ∙ alike-first (read_error n t bytes 1) own (script_cause_back 0 (n.refuses_cut (script_read n t bytes)))
    (λ e. ap (script_cause_back 0)
    (a.cut (script_read m s bytes) (script_read n t bytes) (read-beside (read-as-beside a) bytes 1 1 s t r e).1))

-- What is asked of a script at a byte that is taken is what it reads, and a `<` that is held back.
read-less : {S : Type 0} (m : ScriptFeeding S) (bytes : List ℕ) (k : ℕ) (s : S) → read_error m s (bytes ++ codes "<") k ≡ None
    → (read_error m s bytes (k + 1) ≡ None) × (m.refuses (script_read m s bytes) 60 ≡ None)
read-less m [] k s e = (refl, back-none (0 + k) (m.refuses s 60) (first-caused (script_cause_back (0 + k) (m.refuses s 60)) None e).0)
read-less m (b ∷ bs) k s e =
    let p = first-caused (script_cause_back (length (bs ++ codes "<") + k) (m.refuses s b)) (read_error m (m.feed s b) (bs ++ codes "<") k) e in
    let more = read-less m bs k (m.feed s b) p.1 in (
      ap (λ (o : Option PathCause). first_cause o (read_error m (m.feed s b) bs (k + 1)))
          (back-not (length bs + (k + 1)) (m.refuses s b) (back-none (length (bs ++ codes "<") + k) (m.refuses s b) p.0))
          ∙ more.0,
      more.1,
    )

-- What comes of bytes that are read and what is held back behind them, where they are taken.
pub record Asked {S : Type 0} (m : ScriptFeeding S) (s : S) (bytes : List ℕ) (h : Pending) : Type 0 where
  pub back : ℕ
  pub read : read_error m s bytes back ≡ None
  pub less : h ≡ PendingLess → m.refuses (script_read m s bytes) 60 ≡ None

pub asked : {S : Type 0} (m : ScriptFeeding S) (s : S) (bytes : List ℕ) (h : Pending) → step_error m s (Reads bytes h) ≡ None → Asked m s bytes h
asked m s bytes PendingLess e = (let p = read-less m bytes 0 s e in record { back = 0 + 1; read = p.0; less = λ k. p.1 })
asked m s bytes Nothing e = record { back = 0; read = e; less = λ k. cc }
asked m s bytes LessAtCut e = record { back = length (pending_bytes LessAtCut); read = e; less = λ k. cc }
asked m s bytes (PendingName letters) e = record { back = length (pending_bytes (PendingName letters)); read = e; less = λ k. cc }
asked m s bytes PendingBang e = record { back = length (pending_bytes PendingBang); read = e; less = λ k. cc }
asked m s bytes PendingBangDash e = record { back = length (pending_bytes PendingBangDash); read = e; less = λ k. cc }
asked m s bytes (PendingOpening letters) e = record { back = length (pending_bytes (PendingOpening letters)); read = e; less = λ k. cc }

-- one path, and all paths there
abbrev pub IsKeptAs : ScriptState → ScriptScan → Type 0
IsKeptAs v n = kept_script_scanned v ≡ Some n

pub element-scripts-alike : ReadAlike element_script all_element_scripts IsKeptAs
element-scripts-alike = record {
  errors = λ v n b i. sym ((one-script v n i).error true b);
  goes = λ v n b i e. (let o = one-script v n i in o.next true b (sym (o.error true b) ∙ e));
  cut = λ v n i. sym (one-script v n i).cut_error;
  end = λ v n i. sym (one-script v n i).end_error;
  may_end = λ v n i. sym (one-script v n i).may_end;
}

-- What is read is what the languages are fed.
pub state-read : (bytes : List ℕ) (v : ScriptState) → fed_state languages (OfScript v) bytes ≡ OfScript (script_read element_script v bytes)
state-read [] v = refl
state-read (b ∷ bs) v = state-read bs (feed_script v b)

pub scan-read : (bytes : List ℕ) (n : ScriptScan) → script_read all_element_scripts n bytes ≡ feed_bytes script_feeding n bytes
scan-read [] n = refl
scan-read (b ∷ bs) n = scan-read bs (script_feeding.feed n b)

-- A byte that leaves nothing pending has been read.
abbrev pub StepFits : ScriptStep → Type 0
StepFits (Reads bytes Nothing) = is_empty bytes ≡ false
StepFits (Reads bytes LessAtCut) = ⊥
StepFits (Reads bytes h) = Unit {0}
StepFits (EndsContent letters) = Unit {0}

loose-fits : (bytes : List ℕ) (c : Class) (b : ℕ) → StepFits (step_loose bytes c b)
loose-fits bytes LessThan b = tt
loose-fits bytes c b = bytes-not-empty bytes (b ∷ []) refl

less-fits : (c : Class) (b : ℕ) → StepFits (step_less c b)
less-fits Solidus b = tt
less-fits ExclamationMark b = tt
less-fits LessThan b = tt
less-fits c b = refl

name-fits : (grows whole : Bool) (c : Class) (b : ℕ) (letters : List ℕ) → StepFits (step_end_name grows whole c b letters)
name-fits true whole (Letter l) b letters = tt
name-fits true true White b letters = tt
name-fits true true Solidus b letters = tt
name-fits true true GreaterThan b letters = tt
name-fits true true LessThan b letters = tt
name-fits true true c b letters = refl
name-fits true false LessThan b letters = tt
name-fits true false c b letters = refl
name-fits false true White b letters = tt
name-fits false true Solidus b letters = tt
name-fits false true GreaterThan b letters = tt
name-fits false true LessThan b letters = tt
name-fits false true c b letters = refl
name-fits false false LessThan b letters = tt
name-fits false false c b letters = refl

bang-fits : (c : Class) (b : ℕ) → StepFits (step_bang c b)
bang-fits HyphenMinus b = tt
bang-fits LessThan b = tt
bang-fits c b = refl

word-fits : (h : Pending) (c : Class) (b : ℕ) → StepFits (Reads [] (word_goes_on h c b))
word-fits Nothing c b = tt
word-fits PendingLess Solidus b = tt
word-fits PendingLess ExclamationMark b = tt
word-fits PendingLess c b = tt
word-fits LessAtCut c b = tt
word-fits (PendingName letters) c b = tt
word-fits PendingBang c b = tt
word-fits PendingBangDash c b = tt
word-fits (PendingOpening letters) c b = tt

token-fits : (w : InWord) (h : Pending) (c : Class) (b : ℕ) → StepFits (step_in_token w h c b)
token-fits IsWord h c b = bytes-not-empty (pending_bytes h) (b ∷ []) refl
token-fits BeginsWord h c b = word-fits h c b
token-fits NoWord h c b = loose-fits (pending_bytes h) c b

in-script-fits : (e : Element) (h : Pending) (c : Class) (b : ℕ) → StepFits (step_in_script e h c b)
in-script-fits e Nothing c b = loose-fits [] c b
in-script-fits e PendingLess c b = less-fits c b
in-script-fits e LessAtCut c b = loose-fits (pending_bytes LessAtCut) c b
in-script-fits e (PendingName letters) c b = name-fits (may_be_name_of e (letters ++ b ∷ [])) (is_name_of e letters) c b letters
in-script-fits e PendingBang c b = bang-fits c b
in-script-fits e PendingBangDash c b = loose-fits (pending_bytes PendingBangDash) c b
in-script-fits e (PendingOpening letters) c b = loose-fits (pending_bytes (PendingOpening letters)) c b

pub step-fits : (may_end : Bool) (e : Element) (h : Pending) (c : Class) (b : ℕ) → StepFits (script_step may_end e h c b)
step-fits true e h c b = in-script-fits e h c b
step-fits false e h c b = token-fits (in_word (pending_bytes h ++ b ∷ [])) h c b

-- What a `<` that is pending already is known of holds behind a byte with which it stays pending.
abbrev pub HoldsOn : Type 0 → ScriptStep → Type 0
HoldsOn P (Reads bytes Nothing) = Unit {0}
HoldsOn P (Reads bytes PendingLess) = Unit {0}
HoldsOn P (Reads bytes h) = (bytes ≡ []) × P
HoldsOn P (EndsContent letters) = Unit {0}

pub loose-holds : (P : Type 0) (bytes : List ℕ) (c : Class) (b : ℕ) → HoldsOn P (step_loose bytes c b)
loose-holds P bytes LessThan b = tt
loose-holds P bytes c b = tt

less-holds : (P : Type 0) (c : Class) (b : ℕ) → P → HoldsOn P (step_less c b)
less-holds P Solidus b p = (refl, p)
less-holds P ExclamationMark b p = (refl, p)
less-holds P LessThan b p = tt
less-holds P c b p = tt

name-holds : (P : Type 0) (grows whole : Bool) (c : Class) (b : ℕ) (letters : List ℕ) → P → HoldsOn P (step_end_name grows whole c b letters)
name-holds P true whole (Letter l) b letters p = (refl, p)
name-holds P true true White b letters p = tt
name-holds P true true Solidus b letters p = tt
name-holds P true true GreaterThan b letters p = tt
name-holds P true true LessThan b letters p = tt
name-holds P true true c b letters p = tt
name-holds P true false LessThan b letters p = tt
name-holds P true false c b letters p = tt
name-holds P false true White b letters p = tt
name-holds P false true Solidus b letters p = tt
name-holds P false true GreaterThan b letters p = tt
name-holds P false true LessThan b letters p = tt
name-holds P false true c b letters p = tt
name-holds P false false LessThan b letters p = tt
name-holds P false false c b letters p = tt

bang-holds : (P : Type 0) (c : Class) (b : ℕ) → P → HoldsOn P (step_bang c b)
bang-holds P HyphenMinus b p = (refl, p)
bang-holds P LessThan b p = tt
bang-holds P c b p = tt

word-holds : (P : Type 0) (h : Pending) (c : Class) (b : ℕ) → P → HoldsOn P (Reads [] (word_goes_on h c b))
word-holds P Nothing c b p = tt
word-holds P PendingLess Solidus b p = (refl, p)
word-holds P PendingLess ExclamationMark b p = (refl, p)
word-holds P PendingLess c b p = (refl, p)
word-holds P LessAtCut c b p = tt
word-holds P (PendingName letters) c b p = (refl, p)
word-holds P PendingBang c b p = (refl, p)
word-holds P PendingBangDash c b p = tt
word-holds P (PendingOpening letters) c b p = (refl, p)

token-holds : (P : Type 0) (w : InWord) (h : Pending) (c : Class) (b : ℕ) → P → HoldsOn P (step_in_token w h c b)
token-holds P IsWord h c b p = tt
token-holds P BeginsWord h c b p = word-holds P h c b p
token-holds P NoWord h c b p = loose-holds P (pending_bytes h) c b

in-script-holds : (P : Type 0) (e : Element) (h : Pending) (c : Class) (b : ℕ) → P → HoldsOn P (step_in_script e h c b)
in-script-holds P e Nothing c b p = loose-holds P [] c b
in-script-holds P e PendingLess c b p = less-holds P c b p
in-script-holds P e LessAtCut c b p = loose-holds P (pending_bytes LessAtCut) c b
in-script-holds P e (PendingName letters) c b p =
    name-holds P (may_be_name_of e (letters ++ b ∷ [])) (is_name_of e letters) c b letters p
in-script-holds P e PendingBang c b p = bang-holds P c b p
in-script-holds P e PendingBangDash c b p = loose-holds P (pending_bytes PendingBangDash) c b
in-script-holds P e (PendingOpening letters) c b p = loose-holds P (pending_bytes (PendingOpening letters)) c b

pub step-holds : (P : Type 0) (may_end : Bool) (e : Element) (h : Pending) (c : Class) (b : ℕ) → P → HoldsOn P (script_step may_end e h c b)
step-holds P true e h c b p = in-script-holds P e h c b p
step-holds P false e h c b p = token-holds P (in_word (pending_bytes h ++ b ∷ [])) h c b p
