-- In code and in comments outside of template literals: where a byte leads on paths that differ in what a slash would be.
use Rattle.std.proofs.Common.{◌≡◌, ℕ, nat_lt, Bool, true, false, List, [], ◌∷◌, ◌++◌, refl}
use Rattle.js_lexer.specs.Classes.{class_of}
use Rattle.js_lexer.specs.Feeding.{tells_white_apart, read_at, held_at, points}
use Rattle.js_lexer.specs.States.{At, Code, Word, Slash, LineComment, BlockComment, ScriptPoint, point}
use Rattle.js_lexer.specs.Steps.{next_code, next_line}
use Rattle.js_lexer.specs.WhiteSpace.{PastAscii, IsSpace, IsSeparator, BeginsWhite, IsOther, past_ascii, ClassedByte, classed, classed_as, released_alone, held_alone, released_past_ascii, held_past_ascii, released_by, held_by, released, held_after}
use Rattle.js_lexer.specs.declared.class.ScriptClass.{ScriptClass}
use Rattle.js_lexer.specs.declared.class.ScriptClass.TheVariants as class
use Rattle.js_lexer.specs.declared.sense.Sense.{Sense}
use Rattle.js_lexer.specs.declared.sense.Sense.TheVariants as sense
use Rattle.js_step.specs.ScriptScans.{script_at_in}
use Rattle.js_step.specs.ScriptSetLaws.{KeepsSense, keeps_code, keeps_line, keeps_block}

-- what a byte releases, and what is held back after it
data WhiteReads : List ClassedByte → List ℕ → Type 0 where
  reads_letters : (h held : List ℕ) → WhiteReads (classed_as class.Letter h ++ []) held
  reads_more : (h : List ℕ) (c : ScriptClass) (b : ℕ) → WhiteReads (classed_as class.Letter h ++ classed c b ∷ []) []
  reads_space : (h : List ℕ) → WhiteReads (classed_as class.Space h) []
  reads_lines : (h : List ℕ) → WhiteReads (classed_as class.LineEnd h) []

reads-alone : (f : PastAscii) (h : List ℕ) (b : ℕ) → WhiteReads (classed_as class.Letter h ++ released_alone f b) (held_alone f b)
reads-alone IsSpace h b = reads_more h (class_of b) b
reads-alone IsSeparator h b = reads_more h (class_of b) b
reads-alone BeginsWhite h b = reads_letters h (b ∷ [])
reads-alone IsOther h b = reads_more h (class_of b) b

reads-past : (f : PastAscii) (h : List ℕ) (b : ℕ) → WhiteReads (released_past_ascii f h b) (held_past_ascii f h b)
reads-past IsSpace h b = reads_space (h ++ b ∷ [])
reads-past IsSeparator h b = reads_lines (h ++ b ∷ [])
reads-past BeginsWhite h b = reads_letters [] (h ++ b ∷ [])
reads-past IsOther h b = reads-alone (past_ascii (b ∷ [])) h b

reads-by : (x : Bool) (h : List ℕ) (b : ℕ) → WhiteReads (released_by x h b) (held_by x h b)
reads-by true h b = reads_more h (class_of b) b
reads-by false h b = reads-past (past_ascii (h ++ b ∷ [])) h b

reads-of : (h : List ℕ) (b : ℕ) → WhiteReads (released h b) (held_after h b)
unfolding released held_after
reads-of h b = reads-by (nat_lt b 128) h b

-- Each path stays where paths may differ; or is behind a slash, with nothing held back; or all are at the same.
pub data SenseLeads (f : Sense → ScriptPoint) (held : List ℕ) : Type 0 where
  leads_within : (a : At) → KeepsSense a → ((r : Sense) → f r ≡ point [] (script_at_in r a)) → SenseLeads f held
  leads_behind_slash : held ≡ [] → ((r : Sense) → f r ≡ point [] (Slash r)) → SenseLeads f held
  leads_alike : (p : ScriptPoint) → ((r : Sense) → f r ≡ p) → SenseLeads f held

code-space : (r : Sense) (h : List ℕ) → points (classed_as class.Space h) (point [] (Code r)) ≡ point [] (Code r)
code-space r [] = refl
code-space r (z ∷ h) = code-space r h

code-lines : (r : Sense) (h : List ℕ) → points (classed_as class.LineEnd h) (point [] (Code r)) ≡ point [] (Code r)
code-lines r [] = refl
code-lines r (z ∷ h) = code-lines r h

code-byte : (c : ScriptClass) (b : ℕ) → SenseLeads (λ (r : Sense). next_code r c b []) []
code-byte class.Space b = leads_within (Code sense.Re) (keeps_code sense.Re) (λ r. refl)
code-byte class.LineEnd b = leads_within (Code sense.Re) (keeps_code sense.Re) (λ r. refl)
code-byte class.Solidus b = leads_behind_slash refl (λ r. refl)
code-byte c b = leads_alike (next_code sense.Re c b []) (λ r. refl)

from-code : (xs : List ClassedByte) (held : List ℕ) → WhiteReads xs held → SenseLeads (λ (r : Sense). points xs (point [] (Code r))) held
from-code _ _ (reads_letters [] held) = leads_within (Code sense.Re) (keeps_code sense.Re) (λ r. refl)
from-code _ _ (reads_letters (z ∷ h) held) = leads_alike (points (classed_as class.Letter h ++ []) (point [] (Word (z ∷ [])))) (λ r. refl)
from-code _ _ (reads_more [] c b) = code-byte c b
from-code _ _ (reads_more (z ∷ h) c b) = leads_alike (points (classed_as class.Letter h ++ classed c b ∷ []) (point [] (Word (z ∷ [])))) (λ r. refl)
from-code _ _ (reads_space h) = leads_within (Code sense.Re) (keeps_code sense.Re) (λ r. code-space r h)
from-code _ _ (reads_lines h) = leads_within (Code sense.Re) (keeps_code sense.Re) (λ r. code-lines r h)

line-letters : (r : Sense) (h : List ℕ) → points (classed_as class.Letter h ++ []) (point [] (LineComment r)) ≡ point [] (LineComment r)
line-letters r [] = refl
line-letters r (z ∷ h) = line-letters r h

line-more : (r : Sense) (h : List ℕ) (c : ScriptClass) (b : ℕ) → points (classed_as class.Letter h ++ classed c b ∷ []) (point [] (LineComment r)) ≡ next_line r c []
line-more r [] c b = refl
line-more r (z ∷ h) c b = line-more r h c b

line-space : (r : Sense) (h : List ℕ) → points (classed_as class.Space h) (point [] (LineComment r)) ≡ point [] (LineComment r)
line-space r [] = refl
line-space r (z ∷ h) = line-space r h

line-byte : (h : List ℕ) (c : ScriptClass) (b : ℕ) → SenseLeads (λ (r : Sense). points (classed_as class.Letter h ++ classed c b ∷ []) (point [] (LineComment r))) []
line-byte h class.LineEnd b = leads_within (Code sense.Re) (keeps_code sense.Re) (λ r. line-more r h class.LineEnd b)
line-byte h c b = leads_within (LineComment sense.Re) (keeps_line sense.Re) (λ r. line-more r h c b)

from-line : (xs : List ClassedByte) (held : List ℕ) → WhiteReads xs held → SenseLeads (λ (r : Sense). points xs (point [] (LineComment r))) held
from-line _ _ (reads_letters h held) = leads_within (LineComment sense.Re) (keeps_line sense.Re) (λ r. line-letters r h)
from-line _ _ (reads_more h c b) = line-byte h c b
from-line _ _ (reads_space h) = leads_within (LineComment sense.Re) (keeps_line sense.Re) (λ r. line-space r h)
from-line _ _ (reads_lines []) = leads_within (LineComment sense.Re) (keeps_line sense.Re) (λ r. refl)
from-line _ _ (reads_lines (z ∷ h)) = leads_within (Code sense.Re) (keeps_code sense.Re) (λ r. code-lines r h)

from-block : (star : Bool) (c : ScriptClass) (b : ℕ) → SenseLeads (λ (r : Sense). points (classed c b ∷ []) (point [] (BlockComment r star))) []
from-block true class.Solidus b = leads_within (Code sense.Re) (keeps_code sense.Re) (λ r. refl)
from-block false class.Solidus b = leads_within (BlockComment sense.Re false) (keeps_block sense.Re false) (λ r. refl)
from-block star class.Asterisk b = leads_within (BlockComment sense.Re true) (keeps_block sense.Re true) (λ r. refl)
from-block star _ b = leads_within (BlockComment sense.Re false) (keeps_block sense.Re false) (λ r. refl)

-- the point of a path of a sense behind a byte, and what is held back there
abbrev pub sense-point : At → List ℕ → ℕ → Sense → ScriptPoint
sense-point a h b r = points (read_at (tells_white_apart (script_at_in r a)) h (class_of b) b) (point [] (script_at_in r a))

pub sense-leads : (a : At) → KeepsSense a → (h : List ℕ) (b : ℕ) (s : Sense)
    → SenseLeads (sense-point a h b) (held_at (tells_white_apart (script_at_in s a)) h b)
sense-leads _ (keeps_code z) h b s = from-code (released h b) (held_after h b) (reads-of h b)
sense-leads _ (keeps_line z) h b s = from-line (released h b) (held_after h b) (reads-of h b)
sense-leads _ (keeps_block z star) h b s = from-block star (class_of b) b
