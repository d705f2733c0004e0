-- A page in a script element reads what is written, and a path what the template has: comments too. What the page owes the path there. What a script
-- tells stands among other events of the page (`inside`).
use Rattle.std.specs.Prelude.{⊤, ◌≡◌, ◌⊎◌, ℕ, ◌==◌, ◌||◌, ◌&&◌, not, map, All, Bool, true, false, codes, List, [], ◌∷◌, ◌++◌, None}
use Rattle.std.specs.Char.{is_ascii_alphabetic}
use Rattle.std.specs.List.{list_all}
use Rattle.js_lexer.specs.Alike.{ScriptsAlike}
use Rattle.js_lexer.specs.Elements.{script_may_end}
use Rattle.js_lexer.specs.Events.{ScriptEvent}
use Rattle.js_lexer.specs.Feeding.{tells_white_apart, feed_script, script_emits, script_ends}
use Rattle.js_lexer.specs.Holes.{script_after_hole, script_after_cut}
use Rattle.js_lexer.specs.Refusals.{script_refuses, script_refuses_cut}
use Rattle.js_lexer.specs.States.{At, Code, Slash, LineComment, BlockComment, TooDeep, ScriptState, no_trail, script_start}
use Rattle.js_lexer.specs.Trails.{is_empty, line_ends}
use Rattle.js_lexer.specs.Written.{is_block, is_hidden_in_script, is_line, is_outside, script_hides, script_written, script_written_at_cut, waiting_slash}
use Rattle.js_lexer.specs.declared.sense.Sense.{Sense}

pub record PageScript (E : Type 0) : Type 0 where
  pub state : ScriptState
  pub told : List E

abbrev pub page_script : {E : Type 0} → ScriptState → List E → PageScript E
page_script s t = record { state = s; told = t }

abbrev pub told_inside : {E : Type 0} → (ScriptEvent → E) → List ScriptEvent → List E → List E
told_inside inside es t = map inside es ++ t

abbrev pub read_in_page : {E : Type 0} → (ScriptEvent → E) → List ℕ → PageScript E → PageScript E
read_in_page inside [] p = p
read_in_page inside (b ∷ bs) p = read_in_page inside bs (page_script (feed_script p.state b) (told_inside inside (script_emits p.state b []) p.told))

-- the page is in a state that is alike to the path's, and has told the same
pub record ScriptStandsAlike (E : Type 0) (v : ScriptState) (t : List E) (p : PageScript E) : Type 0 where
  pub alike : ScriptsAlike v p.state
  pub told : p.told ≡ t

-- Beside a comment, of which no byte is written: by a space or the end of a line the page comes to code, in which a slash would be what it is behind the
-- comment. And the end of the script tells there what the path has told.
abbrev pub code_behind : Sense → ScriptState
code_behind s = record { literals = []; at = Code s; held = []; trail = no_trail }

abbrev pub comment_blanks : List (List ℕ)
comment_blanks = codes " " ∷ line_ends

pub record ScriptStandsBeside (E : Type 0) (inside : ScriptEvent → E) (s : Sense) (t : List E) (p : PageScript E) : Type 0 where
  pub blank : All (λ word. ScriptStandsAlike E (code_behind s) t (read_in_page inside word p)) comment_blanks
  pub ends : told_inside inside (script_ends p.state []) p.told ≡ t

-- A slash that waits, since it may begin a comment: it is not written yet. And one that is written: a node has ended behind it, or what may be white space
-- is held back behind it.
pub record ScriptSlashWaits (E : Type 0) (inside : ScriptEvent → E) (s : Sense) (v : ScriptState) (t : List E) (p : PageScript E) : Type 0 where
  pub as_is : ScriptStandsAlike E v t (read_in_page inside (codes "/") p)
  pub comment : ScriptStandsBeside E inside s t p

pub record ScriptSlashStands (E : Type 0) (v : ScriptState) (t : List E) (p : PageScript E) : Type 0 where
  pub written : ScriptStandsAlike E v t p
  pub because : (v.trail.fresh ≡ true) ⊎ (tells_white_apart v.at ≡ true)

abbrev pub ScriptStandsAtSlash : (waits : Bool) (E : Type 0) → (ScriptEvent → E) → Sense → ScriptState → List E → PageScript E → Type 0
ScriptStandsAtSlash true E inside s v t p = ScriptSlashWaits E inside s v t p
ScriptStandsAtSlash false E inside s v t p = ScriptSlashStands E v t p

-- Of literals that nest too deep nothing is owed: the end of the node is refused.
abbrev pub ScriptStandsAt : List ℕ → At → (E : Type 0) → (ScriptEvent → E) → ScriptState → List E → PageScript E → Type 0
ScriptStandsAt [] (Slash s) E inside v t p = ScriptStandsAtSlash (not (is_empty (waiting_slash v))) E inside s v t p
ScriptStandsAt [] (LineComment s) E inside v t p = ScriptStandsBeside E inside s t p
ScriptStandsAt [] (BlockComment s star) E inside v t p = ScriptStandsBeside E inside s t p
ScriptStandsAt [] TooDeep E inside v t p = ⊥
ScriptStandsAt (n ∷ fs) TooDeep E inside v t p = ⊤
ScriptStandsAt fs a E inside v t p = ScriptStandsAlike E v t p

-- the page stands for a path that has come to a state and told these events
abbrev pub ScriptStands : (E : Type 0) → (ScriptEvent → E) → ScriptState → List E → PageScript E → Type 0
ScriptStands E inside v t p = ScriptStandsAt v.literals v.at E inside v t p

-- none of the bytes is refused
abbrev pub ScriptTakes : ScriptState → List ℕ → Type 0
ScriptTakes v [] = ⊤
ScriptTakes v (b ∷ bs) = (script_refuses true v b ≡ None) × ScriptTakes (feed_script v b) bs

-- what may follow the `<` of one of the words, at the end of a node too
abbrev pub is_byte_of_word : ℕ → Bool
is_byte_of_word b = is_ascii_alphabetic b || (b == 33 || b == 45)

abbrev pub are_behind_less : List ℕ → Bool
are_behind_less [] = true
are_behind_less (b ∷ bs) = (b == 47 || is_byte_of_word b) && list_all is_byte_of_word bs

-- What is written of a text leads a page that stands for a path to one that does: of a byte that is not refused (`byte`), of a word in a token (`word`), of
-- what may begin one where the node ends (`begun`), of the node's end (`cut`). Where the end tag ends the script, it tells the same (`ends`). Over a hole in
-- a comment nothing is written (`hole`).
pub record ScriptStandsLaws (E : Type 0) (inside : ScriptEvent → E) : Type 0 where
  pub begins : (t : List E) → ScriptStands E inside (script_after_cut script_start) t (page_script (script_after_cut script_start) t)
  pub byte : (v : ScriptState) (b : ℕ) (t : List E) (p : PageScript E) → ScriptStands E inside v t p → script_refuses true v b ≡ None → ScriptStands E inside (feed_script v b) (told_inside inside (script_emits v b []) t) (read_in_page inside (script_written v b) p)
  pub word : (v : ScriptState) (bytes : List ℕ) (t : List E) (p : PageScript E) → ScriptStands E inside v t p → script_may_end v ≡ false → is_hidden_in_script bytes ≡ true → ScriptTakes v bytes → (let r = read_in_page inside bytes (page_script v t) in ScriptStands E inside r.state r.told (read_in_page inside (script_hides v bytes) p))
  pub begun : (v : ScriptState) (bytes : List ℕ) (t : List E) (p : PageScript E) → ScriptStands E inside v t p → script_may_end v ≡ false → are_behind_less bytes ≡ true → (let r = read_in_page inside (60 ∷ bytes) (page_script v t) in script_refuses_cut r.state ≡ None → ScriptStands E inside r.state r.told (read_in_page inside (script_hides v (60 ∷ bytes)) p))
  pub cut : (v : ScriptState) (t : List E) (p : PageScript E) → ScriptStands E inside v t p → script_refuses_cut v ≡ None → ScriptStands E inside (script_after_cut v) t (read_in_page inside (script_written_at_cut v) p)
  pub ends : (v : ScriptState) (t : List E) (p : PageScript E) → ScriptStands E inside v t p → script_may_end v ≡ true → (let q = read_in_page inside (script_written_at_cut v) p in told_inside inside (script_ends q.state []) q.told ≡ told_inside inside (script_ends v []) t)
  pub hole : (v : ScriptState) (t : List E) (p : PageScript E) → ScriptStands E inside v t p → (is_outside is_line v || is_outside is_block v) ≡ true → ScriptStands E inside (script_after_hole v) t p
