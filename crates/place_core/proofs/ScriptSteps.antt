-- One step of the content of a script loses no byte: what the script reads, and what is pending then, are what was pending and the byte. The end tag ends
-- it behind its whole name alone, and in no token of a template's script.
use Rattle.std.proofs.Common.{◌≡◌, ℕ, ◌≤◌, ◌<◌, ◌==◌, ◌||◌, not, Bool, true, false, codes, List, [], ◌∷◌, ◌++◌, ◌⊎◌, inl, inr, refl, sym, ap, ◌∙◌, subst, true≢false, arith}
use Rattle.std.proofs.lemmas.Bool.{cases_lt, agree_below, agree_below_at, eqb-true}
use Rattle.std.proofs.lemmas.List.{append-nil}
use Rattle.std.proofs.lemmas.Str.Ascii.{lowercase_is}
use Rattle.std.specs.Prelude.{⊤}
use Rattle.place_core.proofs.Bytes.{class-high, eq-high}
use Rattle.place_core.specs.page.Classes.{Class, White, ExclamationMark, HyphenMinus, Solidus, LessThan, GreaterThan, Letter, OtherByte, class_of}
use Rattle.place_core.specs.page.Contents.{InWord, IsWord, BeginsWord, NoWord, ScriptStep, Reads, EndsContent, in_word, is_name_of, may_be_name_of, pending_bytes, script_step, step_bang, step_end_name, step_in_token, step_less, step_loose, word_goes_on}
use Rattle.place_core.specs.page.States.{Pending, Nothing, PendingLess, LessAtCut, PendingName, PendingBang, PendingBangDash, PendingOpening}
use Rattle.place_core.specs.declared.element.Element.{Element}

-- The classes of one byte.
abbrev is_solidus_class : Class → Bool
is_solidus_class Solidus = true
is_solidus_class c = false

abbrev is_less_class : Class → Bool
is_less_class LessThan = true
is_less_class c = false

abbrev is_bang_class : Class → Bool
is_bang_class ExclamationMark = true
is_bang_class c = false

abbrev is_dash_class : Class → Bool
is_dash_class HyphenMinus = true
is_dash_class c = false

abbrev one_byte : (Class → Bool) → ℕ → ℕ → Bool
one_byte is k b = not (is (class_of b)) || (b == k)

solidus-low : agree_below (one_byte is_solidus_class 47) (λ (b : ℕ). true) 128 ≡ true
unfolding class_of
solidus-low = refl

less-low : agree_below (one_byte is_less_class 60) (λ (b : ℕ). true) 128 ≡ true
unfolding class_of
less-low = refl

bang-low : agree_below (one_byte is_bang_class 33) (λ (b : ℕ). true) 128 ≡ true
unfolding class_of
bang-low = refl

dash-low : agree_below (one_byte is_dash_class 45) (λ (b : ℕ). true) 128 ≡ true
unfolding class_of
dash-low = refl

one-low : (is : Class → Bool) (k b : ℕ) → agree_below (one_byte is k) (λ (z : ℕ). true) 128 ≡ true → is (class_of b) ≡ true → b < 128 → b ≡ k
one-low is k b low h small =
    eqb-true b k (subst (λ (p : Bool). (not p || (b == k)) ≡ true) h (agree_below_at (one_byte is k) (λ (z : ℕ). true) 128 b low small))

one-by : (is : Class → Bool) (k b : ℕ) → agree_below (one_byte is k) (λ (z : ℕ). true) 128 ≡ true → is OtherByte ≡ false → is (class_of b) ≡ true
    → (b < 128) ⊎ (128 ≤ b) → b ≡ k
one-by is k b low other h (inl small) = one-low is k b low h small
one-by is k b low other h (inr large) = absurd (true≢false (sym h ∙ ap is (class-high b large) ∙ other))

pub solidus-is : (b : ℕ) → class_of b ≡ Solidus → b ≡ 47
solidus-is b h = one-by is_solidus_class 47 b solidus-low refl (ap is_solidus_class h) (cases_lt b 128)

pub less-is : (b : ℕ) → class_of b ≡ LessThan → b ≡ 60
less-is b h = one-by is_less_class 60 b less-low refl (ap is_less_class h) (cases_lt b 128)

pub bang-is : (b : ℕ) → class_of b ≡ ExclamationMark → b ≡ 33
bang-is b h = one-by is_bang_class 33 b bang-low refl (ap is_bang_class h) (cases_lt b 128)

pub dash-is : (b : ℕ) → class_of b ≡ HyphenMinus → b ≡ 45
dash-is b h = one-by is_dash_class 45 b dash-low refl (ap is_dash_class h) (cases_lt b 128)

-- Which byte a word begins with, and which one goes on with `<!`.
abbrev is_begun : InWord → Bool
is_begun BeginsWord = true
is_begun w = false

abbrev begins_by : List ℕ → ℕ → Bool
begins_by before b = is_begun (in_word (before ++ b ∷ []))

begun-low : agree_below (λ (b : ℕ). not (begins_by [] b) || (b == 60)) (λ (b : ℕ). true) 128 ≡ true
unfolding in_word
begun-low = refl

banged-low : agree_below (λ (b : ℕ). not (begins_by (60 ∷ 33 ∷ []) b) || (b == 45)) (λ (b : ℕ). true) 128 ≡ true
unfolding in_word
banged-low = refl

dashed-low : agree_below (λ (b : ℕ). begins_by (60 ∷ 33 ∷ 45 ∷ []) b) (λ (b : ℕ). false) 128 ≡ true
unfolding in_word
dashed-low = refl

lower-high : (b : ℕ) → 128 ≤ b → 90 < b
lower-high b h = omega arith

begun-high : (b : ℕ) → 128 ≤ b → in_word (b ∷ []) ≡ NoWord
unfolding in_word
begun-high b h = rw ((lowercase_is b).2 (lower-high b h), eq-high b 60 h (omega arith)) refl

banged-high : (b : ℕ) → 128 ≤ b → in_word (60 ∷ 33 ∷ b ∷ []) ≡ NoWord
unfolding in_word
banged-high b h = rw ((lowercase_is b).2 (lower-high b h), eq-high b 45 h (omega arith)) refl

dashed-high : (b : ℕ) → 128 ≤ b → in_word (60 ∷ 33 ∷ 45 ∷ b ∷ []) ≡ NoWord
unfolding in_word
dashed-high b h = rw ((lowercase_is b).2 (lower-high b h), eq-high b 45 h (omega arith)) refl

word-by : (before : List ℕ) (k b : ℕ) → agree_below (λ (z : ℕ). not (begins_by before z) || (z == k)) (λ (z : ℕ). true) 128 ≡ true
    → (128 ≤ b → in_word (before ++ b ∷ []) ≡ NoWord) → in_word (before ++ b ∷ []) ≡ BeginsWord → (b < 128) ⊎ (128 ≤ b) → b ≡ k
word-by before k b low high h (inl small) =
    eqb-true b k (subst (λ (w : InWord). (not (is_begun w) || (b == k)) ≡ true) h
    (agree_below_at (λ (z : ℕ). not (begins_by before z) || (z == k)) (λ (z : ℕ). true) 128 b low small))
word-by before k b low high h (inr large) = absurd (true≢false (ap is_begun (sym h ∙ high large)))

pub word-begins : (b : ℕ) → in_word (b ∷ []) ≡ BeginsWord → b ≡ 60
word-begins b h = word-by [] 60 b begun-low (begun-high b) h (cases_lt b 128)

pub word-dash : (b : ℕ) → in_word (60 ∷ 33 ∷ b ∷ []) ≡ BeginsWord → b ≡ 45
word-dash b h = word-by (60 ∷ 33 ∷ []) 45 b banged-low (banged-high b) h (cases_lt b 128)

dashed-by : (b : ℕ) → in_word (60 ∷ 33 ∷ 45 ∷ b ∷ []) ≡ BeginsWord → (b < 128) ⊎ (128 ≤ b) → ⊥
dashed-by b h (inl small) =
    true≢false (ap is_begun (sym h) ∙ agree_below_at (λ (z : ℕ). begins_by (60 ∷ 33 ∷ 45 ∷ []) z) (λ (z : ℕ). false) 128 b dashed-low small)
dashed-by b h (inr large) = true≢false (ap is_begun (sym h ∙ dashed-high b large))

pub word-whole : (b : ℕ) → in_word (60 ∷ 33 ∷ 45 ∷ b ∷ []) ≡ BeginsWord → ⊥
word-whole b h = dashed-by b h (cases_lt b 128)

-- A token of a template has no `<` pending with which a node has ended.
abbrev pub MayBePending : (may_end : Bool) → Pending → Type 0
MayBePending false LessAtCut = ⊥
MayBePending m h = ⊤

-- The bytes that a step reads, and the ones that are pending behind it.
abbrev pub Keeps : ScriptStep → List ℕ → Type 0
Keeps (Reads bytes g) before = bytes ++ pending_bytes g ≡ before
Keeps (EndsContent letters) before = ⊤

loose-keeps : (bytes : List ℕ) (c : Class) (b : ℕ) → class_of b ≡ c → Keeps (step_loose bytes c b) (bytes ++ b ∷ [])
loose-keeps bytes LessThan b e = rw (less-is b e) refl
loose-keeps bytes c b e = append-nil (bytes ++ b ∷ [])

less-keeps : (c : Class) (b : ℕ) → class_of b ≡ c → Keeps (step_less c b) (60 ∷ b ∷ [])
less-keeps Solidus b e = rw (solidus-is b e) refl
less-keeps ExclamationMark b e = rw (bang-is b e) refl
less-keeps c b e = loose-keeps (codes "<") c b e

name-keeps : (grows whole : Bool) (c : Class) (b : ℕ) (letters : List ℕ) → class_of b ≡ c → Keeps (step_end_name grows whole c b letters) ((codes "</" ++ letters) ++ b ∷ [])
name-keeps true whole (Letter l) b letters e = refl
name-keeps grows true White b letters e = tt
name-keeps grows true Solidus b letters e = tt
name-keeps grows true GreaterThan b letters e = tt
name-keeps grows whole c b letters e = loose-keeps (codes "</" ++ letters) c b e

bang-keeps : (c : Class) (b : ℕ) → class_of b ≡ c → Keeps (step_bang c b) (60 ∷ 33 ∷ b ∷ [])
bang-keeps HyphenMinus b e = rw (dash-is b e) refl
bang-keeps c b e = loose-keeps (codes "<!") c b e

opening-keeps : (c : Class) (b : ℕ) → class_of b ≡ c → pending_bytes (word_goes_on PendingLess c b) ≡ 60 ∷ b ∷ []
opening-keeps Solidus b e = rw (solidus-is b e) refl
opening-keeps ExclamationMark b e = rw (bang-is b e) refl
opening-keeps c b e = refl

word-keeps : (h : Pending) (c : Class) (b : ℕ) → class_of b ≡ c → MayBePending false h → in_word (pending_bytes h ++ b ∷ []) ≡ BeginsWord
    → pending_bytes (word_goes_on h c b) ≡ pending_bytes h ++ b ∷ []
word-keeps Nothing c b e m w = rw (word-begins b w) refl
word-keeps PendingLess c b e m w = opening-keeps c b e
word-keeps LessAtCut c b e m w = absurd m
word-keeps (PendingName letters) c b e m w = refl
word-keeps PendingBang c b e m w = rw (word-dash b w) refl
word-keeps PendingBangDash c b e m w = absurd (word-whole b w)
word-keeps (PendingOpening letters) c b e m w = refl

token-keeps : (w : InWord) (h : Pending) (c : Class) (b : ℕ) → class_of b ≡ c → MayBePending false h → in_word (pending_bytes h ++ b ∷ []) ≡ w
    → Keeps (step_in_token w h c b) (pending_bytes h ++ b ∷ [])
token-keeps IsWord h c b e m w = append-nil (pending_bytes h ++ b ∷ [])
token-keeps BeginsWord h c b e m w = word-keeps h c b e m w
token-keeps NoWord h c b e m w = loose-keeps (pending_bytes h) c b e

pub script-keeps : (m : Bool) (e : Element) (h : Pending) (c : Class) (b : ℕ) → class_of b ≡ c → MayBePending m h → Keeps (script_step m e h c b) (pending_bytes h ++ b ∷ [])
script-keeps true e Nothing c b k m = loose-keeps [] c b k
script-keeps true e PendingLess c b k m = less-keeps c b k
script-keeps true e LessAtCut c b k m = loose-keeps (codes "<") c b k
script-keeps true e (PendingName letters) c b k m = name-keeps (may_be_name_of e (letters ++ b ∷ [])) (is_name_of e letters) c b letters k
script-keeps true e PendingBang c b k m = bang-keeps c b k
script-keeps true e PendingBangDash c b k m = loose-keeps (codes "<!-") c b k
script-keeps true e (PendingOpening letters) c b k m = loose-keeps (codes "<" ++ letters) c b k
script-keeps false e h c b k m = token-keeps (in_word (pending_bytes h ++ b ∷ [])) h c b k m refl

pub step-keeps : (m : Bool) (e : Element) (h g : Pending) (c : Class) (b : ℕ) (bs : List ℕ) → class_of b ≡ c → MayBePending m h → script_step m e h c b ≡ Reads bs g
    → bs ++ pending_bytes g ≡ pending_bytes h ++ b ∷ []
step-keeps m e h g c b bs k p s = subst (λ (z : ScriptStep). Keeps z (pending_bytes h ++ b ∷ [])) s (script-keeps m e h c b k p)

-- Where the content ends.
abbrev pub ends_name : Class → Bool
ends_name White = true
ends_name Solidus = true
ends_name GreaterThan = true
ends_name c = false

abbrev Ends : ScriptStep → Element → Pending → Class → Type 0
Ends (EndsContent letters) e h c = (h ≡ PendingName letters) × (is_name_of e letters ≡ true) × (ends_name c ≡ true)
Ends (Reads bytes g) e h c = ⊤

loose-ends : (bytes : List ℕ) (c : Class) (b : ℕ) (e : Element) (h : Pending) (k : Class) → Ends (step_loose bytes c b) e h k
loose-ends bytes LessThan b e h k = tt
loose-ends bytes c b e h k = tt

less-ends : (c : Class) (b : ℕ) (e : Element) (h : Pending) → Ends (step_less c b) e h c
less-ends Solidus b e h = tt
less-ends ExclamationMark b e h = tt
less-ends c b e h = loose-ends (codes "<") c b e h c

name-ends : (grows whole : Bool) (c : Class) (b : ℕ) (letters : List ℕ) (e : Element) → is_name_of e letters ≡ whole → Ends (step_end_name grows whole c b letters) e (PendingName letters) c
name-ends true whole (Letter l) b letters e w = tt
name-ends grows true White b letters e w = (refl, w, refl)
name-ends grows true Solidus b letters e w = (refl, w, refl)
name-ends grows true GreaterThan b letters e w = (refl, w, refl)
name-ends grows whole c b letters e w = loose-ends (codes "</" ++ letters) c b e (PendingName letters) c

bang-ends : (c : Class) (b : ℕ) (e : Element) (h : Pending) → Ends (step_bang c b) e h c
bang-ends HyphenMinus b e h = tt
bang-ends c b e h = loose-ends (codes "<!") c b e h c

script-ends : (e : Element) (h : Pending) (c : Class) (b : ℕ) → Ends (script_step true e h c b) e h c
script-ends e Nothing c b = loose-ends [] c b e Nothing c
script-ends e PendingLess c b = less-ends c b e PendingLess
script-ends e LessAtCut c b = loose-ends (codes "<") c b e LessAtCut c
script-ends e (PendingName letters) c b = name-ends (may_be_name_of e (letters ++ b ∷ [])) (is_name_of e letters) c b letters e refl
script-ends e PendingBang c b = bang-ends c b e PendingBang
script-ends e PendingBangDash c b = loose-ends (codes "<!-") c b e PendingBangDash c
script-ends e (PendingOpening letters) c b = loose-ends (codes "<" ++ letters) c b e (PendingOpening letters) c

pub step-ends : (e : Element) (h : Pending) (c : Class) (b : ℕ) (letters : List ℕ) → script_step true e h c b ≡ EndsContent letters
    → (h ≡ PendingName letters) × (is_name_of e letters ≡ true) × (ends_name c ≡ true)
step-ends e h c b letters s = subst (λ (z : ScriptStep). Ends z e h c) s (script-ends e h c b)

never-ends : (w : InWord) (h : Pending) (c : Class) (b : ℕ) (e : Element) (k : Pending) → Ends (step_in_token w h c b) e k c × ((letters : List ℕ) → step_in_token w h c b ≡ EndsContent letters → ⊥)
never-ends IsWord h c b e k = (tt, λ letters s. cc)
never-ends BeginsWord h c b e k = (tt, λ letters s. cc)
never-ends NoWord h LessThan b e k = (tt, λ letters s. cc)
never-ends NoWord h c b e k = (tt, λ letters s. cc)

pub token-goes-on : (e : Element) (h : Pending) (c : Class) (b : ℕ) (letters : List ℕ) → script_step false e h c b ≡ EndsContent letters → ⊥
token-goes-on e h c b letters s = (never-ends (in_word (pending_bytes h ++ b ∷ [])) h c b e h).1 letters s
