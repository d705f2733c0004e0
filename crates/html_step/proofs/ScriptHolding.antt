-- Where something is pending in the element `script`, the script does not refuse the `<` with which that begins. So it is behind each byte that is not refused.
use Rattle.std.proofs.Common.{◌≡◌, ℕ, Bool, true, false, codes, List, [], ◌∷◌, ◌++◌, None, sym, subst, inl, inr}
use Rattle.js_step.specs.ScriptScans.{ScriptScan, script_scan_error}
use Rattle.place_core.specs.page.Classes.{Class, White, ExclamationMark, HyphenMinus, Solidus, LessThan, GreaterThan, Letter, class_of}
use Rattle.place_core.specs.page.Contents.{InWord, IsWord, BeginsWord, NoWord, ScriptStep, Reads, EndsContent, in_word, is_name_of, may_be_name_of, pending_bytes, script_step, step_bang, step_end_name, step_in_token, step_less, step_loose, word_goes_on}
use Rattle.place_core.specs.page.States.{Pending, Nothing, PendingLess, LessAtCut, PendingName, PendingBang, PendingBangDash, PendingOpening}
use Rattle.place_core.specs.page.Tags.{feed_bytes}
use Rattle.place_core.specs.place.Errors.{step_error}
use Rattle.place_core.specs.declared.element.Element.{Element}
use Rattle.place_core.specs.declared.element.Element.TheVariants as element
use Rattle.html_scan.specs.Scans.{all_element_scripts, script_fed_byte, script_feeding, script_scan_may_end, script_scan_step}
use Rattle.html_step.proofs.ScriptAlike.{TakesIn}
use Rattle.html_step.proofs.ScriptElementTold.{read-taken}
use Rattle.html_step.proofs.ScriptModes.{TakesLess}

-- What a byte leaves pending: nothing; a `<`, of which the script is asked; or the byte too, where something was pending.
pub data Held (h : Pending) : ScriptStep → Type 0 where
  held_none : (bytes : List ℕ) → Held h (Reads bytes Nothing)
  held_less : (bytes : List ℕ) → Held h (Reads bytes PendingLess)
  held_more : (k : Pending) → (h ≡ Nothing → ⊥) → Held h (Reads [] k)
  held_end : (letters : List ℕ) → Held h (EndsContent letters)

held-loose : (h : Pending) (bytes : List ℕ) (c : Class) (b : ℕ) → Held h (step_loose bytes c b)
held-loose h bytes LessThan b = held_less bytes
held-loose h bytes c b = held_none (bytes ++ b ∷ [])

less-is : PendingLess ≡ Nothing → ⊥
less-is e = cc

name-is : (letters : List ℕ) → PendingName letters ≡ Nothing → ⊥
name-is letters e = cc

bang-is : PendingBang ≡ Nothing → ⊥
bang-is e = cc

held-after-less : (c : Class) (b : ℕ) → Held PendingLess (step_less c b)
held-after-less Solidus b = held_more (PendingName []) less-is
held-after-less ExclamationMark b = held_more PendingBang less-is
held-after-less c b = held-loose PendingLess (codes "<") c b

held-name : (grows whole : Bool) (c : Class) (b : ℕ) (letters : List ℕ) → Held (PendingName letters) (step_end_name grows whole c b letters)
held-name true whole (Letter l) b letters = held_more (PendingName (letters ++ b ∷ [])) (name-is letters)
held-name true true White b letters = held_end letters
held-name true true Solidus b letters = held_end letters
held-name true true GreaterThan b letters = held_end letters
held-name false true White b letters = held_end letters
held-name false true Solidus b letters = held_end letters
held-name false true GreaterThan b letters = held_end letters
held-name grows whole c b letters = held-loose (PendingName letters) (codes "</" ++ letters) c b

held-bang : (c : Class) (b : ℕ) → Held PendingBang (step_bang c b)
held-bang HyphenMinus b = held_more PendingBangDash bang-is
held-bang c b = held-loose PendingBang (codes "<!") c b

held-word : (w : InWord) (h : Pending) (c : Class) (b : ℕ) → Held h (step_in_token w h c b)
held-word IsWord h c b = held_none (pending_bytes h ++ b ∷ [])
held-word NoWord h c b = held-loose h (pending_bytes h) c b
held-word BeginsWord Nothing c b = held_less []
held-word BeginsWord PendingLess c b = held_more (word_goes_on PendingLess c b) (λ e. (cc))
held-word BeginsWord LessAtCut c b = held_more (word_goes_on LessAtCut c b) (λ e. (cc))
held-word BeginsWord (PendingName letters) c b = held_more (word_goes_on (PendingName letters) c b) (λ e. (cc))
held-word BeginsWord PendingBang c b = held_more (word_goes_on PendingBang c b) (λ e. (cc))
held-word BeginsWord PendingBangDash c b = held_more (word_goes_on PendingBangDash c b) (λ e. (cc))
held-word BeginsWord (PendingOpening letters) c b = held_more (word_goes_on (PendingOpening letters) c b) (λ e. (cc))

pub held-step : (may_end : Bool) (e : Element) (h : Pending) (c : Class) (b : ℕ) → Held h (script_step may_end e h c b)
held-step true e Nothing c b = held-loose Nothing [] c b
held-step true e PendingLess c b = held-after-less c b
held-step true e LessAtCut c b = held-loose LessAtCut (codes "<") c b
held-step true e (PendingName letters) c b = held-name (may_be_name_of e (letters ++ b ∷ [])) (is_name_of e letters) c b letters
held-step true e PendingBang c b = held-bang c b
held-step true e PendingBangDash c b = held-loose PendingBangDash (codes "<!-") c b
held-step true e (PendingOpening letters) c b = held-loose (PendingOpening letters) (codes "<" ++ letters) c b
held-step false e h c b = held-word (in_word (pending_bytes h ++ b ∷ [])) h c b

-- the last of the bytes
takes-last : (bytes : List ℕ) (b : ℕ) (n : ScriptScan) → TakesIn true (bytes ++ b ∷ []) n → script_scan_error true (feed_bytes script_feeding n bytes) b ≡ None
takes-last [] b n t = t.0
takes-last (x ∷ xs) b n t = takes-last xs b (script_fed_byte n x) t.1

reads-one : (xs ys : List ℕ) (a d : Pending) → Reads xs a ≡ Reads ys d → xs ≡ ys
reads-one xs ys a d e = cc

pending-one : (xs ys : List ℕ) (a d : Pending) → Reads xs a ≡ Reads ys d → a ≡ d
pending-one xs ys a d e = cc

ends-not : (letters bytes : List ℕ) (k : Pending) → EndsContent letters ≡ Reads bytes k → ⊥
ends-not letters bytes k e = cc

takes-by : (h : Pending) (n : ScriptScan) (step : ScriptStep) (bytes : List ℕ) (k : Pending) → Held h step → TakesLess h n
    → step_error all_element_scripts n step ≡ None → step ≡ Reads bytes k → TakesLess k (feed_bytes script_feeding n bytes)
takes-by h n _ bytes k (held_none xs) t e i = inl (sym (pending-one xs bytes Nothing k i))
takes-by h n _ bytes k (held_less xs) t e i =
    inr (subst (λ (ys : List ℕ). script_scan_error true (feed_bytes script_feeding n ys) 60 ≡ None) (reads-one xs bytes PendingLess k i)
    (takes-last xs 60 n (read-taken (xs ++ 60 ∷ []) n 0 e)))
takes-by h n _ bytes k (held_more x f) (inl j) e i = absurd (f j)
takes-by h n _ bytes k (held_more x f) (inr j) e i =
    inr (subst (λ (ys : List ℕ). script_scan_error true (feed_bytes script_feeding n ys) 60 ≡ None) (reads-one [] bytes x k i) j)
takes-by h n _ bytes k (held_end letters) t e i = absurd (ends-not letters bytes k i)

pub takes-less-behind : (n : ScriptScan) (h : Pending) (b : ℕ) (bytes : List ℕ) (k : Pending) → TakesLess h n
    → step_error all_element_scripts n (script_scan_step n h (class_of b) b) ≡ None → script_scan_step n h (class_of b) b ≡ Reads bytes k
    → TakesLess k (feed_bytes script_feeding n bytes)
takes-less-behind n h b bytes k t e i =
    takes-by h n (script_scan_step n h (class_of b) b) bytes k (held-step (script_scan_may_end n) element.Script h (class_of b) b) t e i
