-- How a page reads the content of a script: what is pending and what its script reads are the bytes of the page. And the bytes that lead HTML nowhere else.
use Rattle.std.proofs.Common.{◌≡◌, ℕ, Bool, true, false, codes, List, [], ◌∷◌, ◌++◌, refl, sym, ap, ap₂, ◌∙◌, subst, true≢false}
use Rattle.std.proofs.lemmas.List.{append-nil, append_assoc}
use Rattle.std.specs.Prelude.{⊤}
use Rattle.js_lexer.specs.Feeding.{feed_script, script_emits}
use Rattle.js_lexer.specs.PageScripts.{PageScript, page_script, read_in_page}
use Rattle.js_lexer.specs.States.{ScriptState}
use Rattle.place_core.proofs.ScriptSteps.{step-keeps}
use Rattle.place_core.specs.page.Classes.{Class, White, ExclamationMark, HyphenMinus, Solidus, LessThan, GreaterThan, Letter, class_of}
use Rattle.place_core.specs.page.Contents.{ScriptStep, Reads, emits_by_step, emits_escape, is_name_of, may_be_name_of, next_by_step, pending_bytes, script_step, step_end_name}
use Rattle.place_core.specs.page.Events.{LexEvent, InsideScript, told_in_script}
use Rattle.place_core.specs.page.States.{Page, Config, Pending, Nothing, PendingLess, LessAtCut, PendingName, PendingBang, PendingBangDash, PendingOpening, config}
use Rattle.place_core.specs.page.Tags.{OfScript, ValueState, emits_fed, fed_state, languages}
use Rattle.place_core.specs.declared.element.Element.{Element}
use Rattle.text_norm.specs.Standing.{PageGoes, StepGoes, in_element, is_whole_name, page, tells_comment_of_html}

-- What a script reads, and what it tells among the events of the page.
abbrev pub read_page : List ℕ → PageScript LexEvent → PageScript LexEvent
read_page bytes p = read_in_page InsideScript bytes p

pub read-page-append : (xs ys : List ℕ) (p : PageScript LexEvent) → read_page (xs ++ ys) p ≡ read_page ys (read_page xs p)
read-page-append [] ys p = refl
read-page-append (b ∷ xs) ys p = read-page-append xs ys (page_script (feed_script p.state b) (told_in_script (script_emits p.state b []) p.told))

pub fed-script : (bs : List ℕ) (s : ScriptState) (t : List LexEvent) → fed_state languages (OfScript s) bs ≡ OfScript (read_page bs (page_script s t)).state
fed-script [] s t = refl
fed-script (b ∷ bs) s t = fed-script bs (feed_script s b) (told_in_script (script_emits s b []) t)

pub fed-told : (bs : List ℕ) (s : ScriptState) (t : List LexEvent) → emits_fed languages (OfScript s) bs t ≡ (read_page bs (page_script s t)).told
fed-told [] s t = refl
fed-told (b ∷ bs) s t = fed-told bs (feed_script s b) (told_in_script (script_emits s b []) t)

-- The page has this pending; and where that is read, its script is here and has told this.
pub record PageIsAt (e : Element) (g : Pending) (p : PageScript LexEvent) (d : Config ValueState) : Type 0 where
  pub there : ScriptState
  pub told : List LexEvent
  pub at : d ≡ config (in_element e (OfScript there) g) told
  pub behind : read_page (pending_bytes g) (page_script there told) ≡ p

escape-none : (g : Pending) (c : Class) (t : List LexEvent) → tells_comment_of_html g c ≡ false → emits_escape Page g c t ≡ t
escape-none PendingBangDash HyphenMinus t n = absurd (true≢false n)
escape-none g c t n = refl

pub page-sees : (e : Element) (g k : Pending) (b : ℕ) (p : PageScript LexEvent) (d : Config ValueState) → StepGoes e g b k → PageIsAt e g p d
    → PageIsAt e k (read_page (b ∷ []) p) (page languages (b ∷ []) d)
page-sees e g k b p d m l =
    let s = l.there in
    let u = l.told in
    let c = class_of b in
    let q = read_page m.read (page_script s u) in
    record {
      there = q.state;
      told = q.told;
      at = ap (page languages (b ∷ [])) l.at
          ∙ ap (λ (z : ScriptStep). config (next_by_step languages z c e (OfScript s)) (emits_escape Page g c (emits_by_step languages z c (OfScript s) u))) m.step
          ∙ ap₂ (λ (v : ValueState) (t : List LexEvent). config (in_element e v k) t) (fed-script m.read s u)
          (escape-none g c (emits_fed languages (OfScript s) m.read u) m.plain ∙ fed-told m.read s u);
      behind = sym (read-page-append m.read (pending_bytes k) (page_script s u))
          ∙ ap (λ (z : List ℕ). read_page z (page_script s u)) (step-keeps true e g k c b m.read refl tt m.step)
          ∙ read-page-append (pending_bytes g) (b ∷ []) (page_script s u)
          ∙ ap (read_page (b ∷ [])) l.behind;
    }

pub page-reads : (bs : List ℕ) (e : Element) (g h : Pending) (p : PageScript LexEvent) (d : Config ValueState) → PageGoes e g bs h → PageIsAt e g p d
    → PageIsAt e h (read_page bs p) (page languages bs d)
page-reads [] e g h p d m l = subst (λ (k : Pending). PageIsAt e k p d) m l
page-reads (b ∷ bs) e g h p d m l = page-reads bs e m.0 h (read_page (b ∷ []) p) (page languages (b ∷ []) d) m.2 (page-sees e g m.0 b p d m.1 l)

-- Where HTML is led.
pub goes-append : (xs ys : List ℕ) (e : Element) (g k h : Pending) → PageGoes e g xs k → PageGoes e k ys h → PageGoes e g (xs ++ ys) h
goes-append [] ys e g k h m n = subst (λ (z : Pending). PageGoes e z ys h) (sym m) n
goes-append (b ∷ xs) ys e g k h m n = (m.0, m.1, goes-append xs ys e m.0 k h m.2 n)

-- a step of a class
pub step-goes : (e : Element) (g k : Pending) (c : Class) (b : ℕ) (bs : List ℕ) → class_of b ≡ c → script_step true e g c b ≡ Reads bs k
    → tells_comment_of_html g c ≡ false → StepGoes e g b k
step-goes e g k c b bs h s n = record { read = bs; step = ap (λ (z : Class). script_step true e g z b) h ∙ s; plain = ap (tells_comment_of_html g) h ∙ n }

-- By a `<` all that is pending comes to nothing, and it is pending itself.
pub class-less : class_of 60 ≡ LessThan
unfolding class_of
class-less = refl

name-by-less : (grows whole : Bool) (letters : List ℕ) → step_end_name grows whole LessThan 60 letters ≡ Reads (codes "</" ++ letters) PendingLess
name-by-less true true letters = refl
name-by-less true false letters = refl
name-by-less false true letters = refl
name-by-less false false letters = refl

less-steps : (e : Element) (g : Pending) → script_step true e g LessThan 60 ≡ Reads (pending_bytes g) PendingLess
less-steps e Nothing = refl
less-steps e PendingLess = refl
less-steps e LessAtCut = refl
less-steps e (PendingName letters) = name-by-less (may_be_name_of e (letters ++ 60 ∷ [])) (is_name_of e letters) letters
less-steps e PendingBang = refl
less-steps e PendingBangDash = refl
less-steps e (PendingOpening letters) = refl

less-plain : (g : Pending) → tells_comment_of_html g LessThan ≡ false
less-plain Nothing = refl
less-plain PendingLess = refl
less-plain LessAtCut = refl
less-plain (PendingName letters) = refl
less-plain PendingBang = refl
less-plain PendingBangDash = refl
less-plain (PendingOpening letters) = refl

pub less-goes : (e : Element) (g : Pending) → StepGoes e g 60 PendingLess
less-goes e g = step-goes e g PendingLess LessThan 60 (pending_bytes g) class-less (less-steps e g) (less-plain g)

-- Bytes that begin with it lead from anywhere to where they lead from nothing.
less-only : (e : Element) (g k : Pending) → StepGoes e g 60 k → k ≡ PendingLess
less-only e g k m =
    pending-of (pending_bytes g) m.read PendingLess k (sym (less-steps e g) ∙ ap (λ (z : Class). script_step true e g z 60) (sym class-less) ∙ m.step)
  where
    pending-of : (xs ys : List ℕ) (h k : Pending) → Reads xs h ≡ Reads ys k → k ≡ h
    pending-of xs ys h k q = cc

pub goes-from : (bs : List ℕ) (e : Element) (g h : Pending) → PageGoes e Nothing (60 ∷ bs) h → PageGoes e g (60 ∷ bs) h
goes-from bs e g h m = (PendingLess, less-goes e g, subst (λ (z : Pending). PageGoes e z bs h) (less-only e Nothing m.0 m.1) m.2)

-- Where nothing is pending, any byte but `<` is read.
abbrev pub is_less_class : Class → Bool
is_less_class LessThan = true
is_less_class c = false

no-less-class : true ≡ false → ⊥
no-less-class q = cc

pub loose-goes : (e : Element) (c : Class) (b : ℕ) → class_of b ≡ c → is_less_class c ≡ false → StepGoes e Nothing b Nothing
loose-goes e LessThan b h n = absurd (no-less-class n)
loose-goes e c b h n = step-goes e Nothing Nothing c b (b ∷ []) h refl refl

abbrev pub NoLess : List ℕ → Type 0
NoLess [] = ⊤
NoLess (b ∷ bs) = (is_less_class (class_of b) ≡ false) × NoLess bs

pub no-less : (bs : List ℕ) (e : Element) → NoLess bs → PageGoes e Nothing bs Nothing
no-less [] e n = refl
no-less (b ∷ bs) e n = (Nothing, loose-goes e (class_of b) b refl n.0, no-less bs e n.1)

-- what reads whatever is pending: a byte that goes on with nothing; and white space where no whole name is
abbrev pub is_quiet : Class → Bool
is_quiet White = false
is_quiet ExclamationMark = false
is_quiet HyphenMinus = false
is_quiet Solidus = false
is_quiet LessThan = false
is_quiet GreaterThan = false
is_quiet (Letter l) = false
is_quiet c = true

name-by-quiet : (grows whole : Bool) (c : Class) (b : ℕ) (letters : List ℕ) → is_quiet c ≡ true
    → step_end_name grows whole c b letters ≡ Reads ((codes "</" ++ letters) ++ b ∷ []) Nothing
name-by-quiet grows whole White b letters q = absurd (no-less-class (sym q))
name-by-quiet grows whole ExclamationMark b letters q = absurd (no-less-class (sym q))
name-by-quiet grows whole HyphenMinus b letters q = absurd (no-less-class (sym q))
name-by-quiet grows whole Solidus b letters q = absurd (no-less-class (sym q))
name-by-quiet grows whole LessThan b letters q = absurd (no-less-class (sym q))
name-by-quiet grows whole GreaterThan b letters q = absurd (no-less-class (sym q))
name-by-quiet grows whole (Letter l) b letters q = absurd (no-less-class (sym q))
name-by-quiet true true c b letters q = refl
name-by-quiet true false c b letters q = refl
name-by-quiet false true c b letters q = refl
name-by-quiet false false c b letters q = refl

quiet-steps : (e : Element) (g : Pending) (c : Class) (b : ℕ) → is_quiet c ≡ true → script_step true e g c b ≡ Reads (pending_bytes g ++ b ∷ []) Nothing
quiet-steps e g White b q = absurd (no-less-class (sym q))
quiet-steps e g ExclamationMark b q = absurd (no-less-class (sym q))
quiet-steps e g HyphenMinus b q = absurd (no-less-class (sym q))
quiet-steps e g Solidus b q = absurd (no-less-class (sym q))
quiet-steps e g LessThan b q = absurd (no-less-class (sym q))
quiet-steps e g GreaterThan b q = absurd (no-less-class (sym q))
quiet-steps e g (Letter l) b q = absurd (no-less-class (sym q))
quiet-steps e Nothing c b q = refl
quiet-steps e PendingLess c b q = refl
quiet-steps e LessAtCut c b q = refl
quiet-steps e (PendingName letters) c b q = name-by-quiet (may_be_name_of e (letters ++ b ∷ [])) (is_name_of e letters) c b letters q
quiet-steps e PendingBang c b q = refl
quiet-steps e PendingBangDash c b q = refl
quiet-steps e (PendingOpening letters) c b q = refl

quiet-plain : (g : Pending) (c : Class) → is_quiet c ≡ true → tells_comment_of_html g c ≡ false
quiet-plain PendingBangDash HyphenMinus q = absurd (no-less-class (sym q))
quiet-plain g c q = refl

pub quiet-goes : (e : Element) (g : Pending) (b : ℕ) → is_quiet (class_of b) ≡ true → StepGoes e g b Nothing
quiet-goes e g b q = step-goes e g Nothing (class_of b) b (pending_bytes g ++ b ∷ []) refl (quiet-steps e g (class_of b) b q) (quiet-plain g (class_of b) q)

white-by-name : (grows : Bool) (b : ℕ) (letters : List ℕ) → step_end_name grows false White b letters ≡ Reads ((codes "</" ++ letters) ++ b ∷ []) Nothing
white-by-name true b letters = refl
white-by-name false b letters = refl

white-steps : (e : Element) (g : Pending) (b : ℕ) → is_whole_name e g ≡ false → script_step true e g White b ≡ Reads (pending_bytes g ++ b ∷ []) Nothing
white-steps e Nothing b w = refl
white-steps e PendingLess b w = refl
white-steps e LessAtCut b w = refl
white-steps e (PendingName letters) b w = rw w (white-by-name (may_be_name_of e (letters ++ b ∷ [])) b letters)
white-steps e PendingBang b w = refl
white-steps e PendingBangDash b w = refl
white-steps e (PendingOpening letters) b w = refl

white-plain : (g : Pending) → tells_comment_of_html g White ≡ false
white-plain Nothing = refl
white-plain PendingLess = refl
white-plain LessAtCut = refl
white-plain (PendingName letters) = refl
white-plain PendingBang = refl
white-plain PendingBangDash = refl
white-plain (PendingOpening letters) = refl

pub white-goes : (e : Element) (g : Pending) (b : ℕ) → class_of b ≡ White → is_whole_name e g ≡ false → StepGoes e g b Nothing
white-goes e g b h w = step-goes e g Nothing White b (pending_bytes g ++ b ∷ []) h (white-steps e g b w) (white-plain g)

-- behind a `<` alone
abbrev pub goes_on_less : Class → Bool
goes_on_less Solidus = true
goes_on_less ExclamationMark = true
goes_on_less LessThan = true
goes_on_less c = false

pub behind-less-goes : (e : Element) (c : Class) (b : ℕ) → class_of b ≡ c → goes_on_less c ≡ false → StepGoes e PendingLess b Nothing
behind-less-goes e Solidus b h n = absurd (no-less-class n)
behind-less-goes e ExclamationMark b h n = absurd (no-less-class n)
behind-less-goes e LessThan b h n = absurd (no-less-class n)
behind-less-goes e c b h n = step-goes e PendingLess Nothing c b (60 ∷ b ∷ []) h refl refl

-- What the page's script has read exactly: with what is pending, these are the bytes.
step-read : (e : Element) (g k : Pending) (b : ℕ) (s : ScriptState) (u : List LexEvent) (m : StepGoes e g b k)
    → (let q = read_page m.read (page_script s u) in page languages (b ∷ []) (config (in_element e (OfScript s) g) u) ≡ config (in_element e (OfScript q.state) k) q.told)
step-read e g k b s u m =
    let c = class_of b in
    ap (λ (z : ScriptStep). config (next_by_step languages z c e (OfScript s)) (emits_escape Page g c (emits_by_step languages z c (OfScript s) u))) m.step
    ∙ ap₂ (λ (v : ValueState) (t : List LexEvent). config (in_element e v k) t) (fed-script m.read s u)
    (escape-none g c (emits_fed languages (OfScript s) m.read u) m.plain ∙ fed-told m.read s u)

pub record PageReadsExactly (bs : List ℕ) (e : Element) (g h : Pending) (s : ScriptState) (u : List LexEvent) : Type 0 where
  pub read : List ℕ
  pub at : (let q = read_page read (page_script s u) in page languages bs (config (in_element e (OfScript s) g) u) ≡ config (in_element e (OfScript q.state) h) q.told)
  pub bytes : read ++ pending_bytes h ≡ pending_bytes g ++ bs

pub page-exact : (bs : List ℕ) (e : Element) (g h : Pending) (s : ScriptState) (u : List LexEvent) → PageGoes e g bs h → PageReadsExactly bs e g h s u
page-exact [] e g h s u m = record {
  read = [];
  at = ap (λ (z : Pending). config (in_element e (OfScript s) z) u) m;
  bytes = ap pending_bytes (sym m) ∙ sym (append-nil (pending_bytes g));
}
page-exact (b ∷ bs) e g h s u m =
    let step = m.1 in
    let q = read_page step.read (page_script s u) in
    let r = page-exact bs e m.0 h q.state q.told m.2 in
    record {
      read = step.read ++ r.read;
      at = ap (page languages bs) (step-read e g m.0 b s u step) ∙ r.at
          ∙ ap (λ (p : PageScript LexEvent). config (in_element e (OfScript p.state) h) p.told) (sym (read-page-append step.read r.read (page_script s u)));
      bytes = append_assoc step.read r.read (pending_bytes h)
          ∙ ap (λ (z : List ℕ). step.read ++ z) r.bytes
          ∙ sym (append_assoc step.read (pending_bytes m.0) bs)
          ∙ ap (λ (z : List ℕ). z ++ bs) (step-keeps true e g m.0 (class_of b) b step.read refl tt step.step)
          ∙ append_assoc (pending_bytes g) (b ∷ []) bs;
    }
