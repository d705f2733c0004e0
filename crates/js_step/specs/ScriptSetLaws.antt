-- Of places of several paths in a script: that a text of no bytes keeps one; and that one below another, which differs in what paths have
-- ended in before the text alone, accepts what that one accepts.
use Rattle.std.specs.Prelude.{◌≡◌, ◌||◌, ℕ, Bool, true, false, Some, None}
use Rattle.js_lexer.specs.Feeding.{feed_script}
use Rattle.js_lexer.specs.Refusals.{script_refuses, script_refuses_cut, refuses_end}
use Rattle.js_lexer.specs.States.{At, Code, LineComment, BlockComment, ScriptState}
use Rattle.js_lexer.specs.declared.sense.Sense.{Sense}
use Rattle.js_lexer.specs.declared.sense.Sense.TheVariants as sense
use Rattle.place_core.specs.declared.js.Js.{Js}
use Rattle.place_core.specs.declared.js_tails.JsTails.{JsTails}
use Rattle.place_core.specs.declared.senses.Senses.{Senses}
use Rattle.place_core.specs.place.LanguagePlaces.{joined_js, both_js_tails, both_senses}
use Rattle.js_step.specs.ScriptScans.{ScriptScan, script_scan, script_scan_start, script_scan_next, script_scan_error, script_scan_place, script_scan_cut_error, script_scan_end_error, script_at_hole, script_in_sense}
use Rattle.js_step.specs.ScriptScanLaws.{script_alone, script_alone_before, IsBeforeText}
use Rattle.place_core.specs.place.ScriptParts.{script_senses}

pub record KeepsScript (c : Js) : Type 0 where
  pub place : script_scan_place (script_scan_start c) ≡ c
  pub cut_error : script_scan_cut_error (script_scan_start c) ≡ None
  pub end_error : script_scan_end_error (script_scan_start c) ≡ None

abbrev pub EmptyTextsKeepScripts : Type 0
EmptyTextsKeepScripts = (c : Js) → KeepsScript c

-- a place is below another one: joining them gives that one
abbrev pub ScriptBelow : Js → Js → Type 0
ScriptBelow c d = joined_js c d ≡ Some d

-- Likewise within a text, where the senses and the shared state are the same.
pub data ScriptTailsBelow : ScriptScan → ScriptScan → Type 0 where
  tails_below : (s : Senses) (x y : JsTails) (k l : Bool) (v : ScriptState) → both_js_tails x y ≡ y → (k || l) ≡ l
      → ScriptTailsBelow (script_scan s x k v) (script_scan s y l v)

-- Below a byte that is accepted it is accepted. What is behind it is below, whether it is accepted or not. The ends of a node and of a
-- value are refused alike, and the places there are one below the other.
pub record GrowsScriptTails (n m : ScriptScan) : Type 0 where
  pub error : (element : Bool) (b : ℕ) → script_scan_error element m b ≡ None → script_scan_error element n b ≡ None
  pub next : (b : ℕ) → ScriptTailsBelow (script_scan_next n b) (script_scan_next m b)
  pub cut_error : script_scan_cut_error n ≡ script_scan_cut_error m
  pub end_error : script_scan_end_error n ≡ script_scan_end_error m
  pub place : ScriptBelow (script_scan_place n) (script_scan_place m)

-- Where nothing is refused, a path that has ended in less before the text is not refused, and is among those within the text.
pub record CoversScriptTails (m : ScriptScan) (v : ScriptState) : Type 0 where
  pub error : (element : Bool) (b : ℕ) → script_scan_error element m b ≡ None → script_refuses element v b ≡ None
  pub next : (element : Bool) (b : ℕ) → script_scan_error element m b ≡ None → (feed_script v b).trail.fresh ≡ false
      → ScriptTailsBelow (script_alone (feed_script v b)) (script_scan_next m b)
  pub cut_error : script_scan_cut_error m ≡ None → script_refuses_cut v ≡ None
  pub end_error : script_scan_end_error m ≡ None → refuses_end v ≡ None

-- Places behind a hole are one below the other, whatever they differ in.
pub record ScriptTailsGrow : Type 0 where
  pub scans : (n m : ScriptScan) → ScriptTailsBelow n m → GrowsScriptTails n m
  pub covers : (m : ScriptScan) (v : ScriptState) → IsBeforeText v → ScriptTailsBelow (script_alone_before v) m → CoversScriptTails m v
  pub at_hole : (c d : Js) → ScriptBelow c d → ScriptBelow (script_at_hole c) (script_at_hole d)

-- In code and in comments paths that differ in what a slash would be share the state but for that, and do so behind each byte. Behind a
-- slash they part, unless a comment begins: a byte that begins none is refused where they differ.
pub data KeepsSense : At → Type 0 where
  keeps_code : (s : Sense) → KeepsSense (Code s)
  keeps_line : (s : Sense) → KeepsSense (LineComment s)
  keeps_block : (s : Sense) (star : Bool) → KeepsSense (BlockComment s star)

abbrev pub ScriptSensesShare : Type 0
ScriptSensesShare = (v : ScriptState) → KeepsSense v.at → (s r : Sense) (b : ℕ)
    → script_in_sense sense.Re (feed_script (script_in_sense s v) b) ≡ script_in_sense sense.Re (feed_script (script_in_sense r v) b)

abbrev pub script_has_sense : Senses → Sense → Bool
script_has_sense t sense.Re = t.re
script_has_sense t sense.Div = t.div
script_has_sense t sense.Brace = t.brace

-- The paths of one sense among those that are stepped.
abbrev pub script_of_sense : ScriptScan → Sense → ScriptScan
script_of_sense m r = script_scan (script_senses r) m.before m.star m.state

-- In code and in comments, what is refused is refused on each of them. Behind a byte they share the state but for the sense, and theirs is
-- among the senses.
pub record StepsSense (m : ScriptScan) (r : Sense) : Type 0 where
  pub error : (element : Bool) (b : ℕ) → script_scan_error element (script_of_sense m r) b ≡ script_scan_error element m b
  pub state : (b : ℕ)
      → script_in_sense sense.Re (script_scan_next (script_of_sense m r) b).state ≡ script_in_sense sense.Re (script_scan_next m b).state
  pub senses : (b : ℕ)
      → both_senses (script_scan_next (script_of_sense m r) b).senses (script_scan_next m b).senses ≡ (script_scan_next m b).senses

abbrev pub ScriptSensesUnite : Type 0
ScriptSensesUnite = (m : ScriptScan) (r : Sense) → KeepsSense m.state.at → script_has_sense m.senses r ≡ true → StepsSense m r
