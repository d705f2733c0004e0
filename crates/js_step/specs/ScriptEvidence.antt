-- What shows that a script is refused: a member of what a scan state keeps as a set, on whatever path bears it; or that a slash would be
-- one thing on some paths and the other on others.
use Rattle.std.specs.Prelude.{◌≡◌, ◌⊎◌, ◌||◌, ℕ, Bool, true, false, List, [], ◌∷◌, Option, Some, None, if◌then◌else◌}
use Rattle.js_lexer.specs.Classes.{class_of}
use Rattle.js_lexer.specs.Feeding.{tells_white_apart, read_at}
use Rattle.js_lexer.specs.Refusals.{Refusal, Cause, SplitToken, SlashAmbig}
use Rattle.js_lexer.specs.States.{At, InRegexp}
use Rattle.js_lexer.specs.WhiteSpace.{ClassedByte}
use Rattle.js_lexer.specs.declared.class.ScriptClass.{ScriptClass}
use Rattle.js_lexer.specs.declared.class.ScriptClass.TheVariants as class
use Rattle.js_lexer.specs.declared.sense.Sense.{Sense}
use Rattle.place_core.specs.declared.code.Code.{Code}
use Rattle.place_core.specs.declared.code.Code.TheVariants as code
use Rattle.place_core.specs.declared.js.Js.{Js}
use Rattle.place_core.specs.declared.js_tails.JsTails.{JsTails}
use Rattle.place_core.specs.declared.member.Member.{Member}
use Rattle.place_core.specs.declared.member.Member.TheVariants as member
use Rattle.place_core.specs.declared.senses.Senses.{Senses}
use Rattle.place_core.specs.place.Places.{is_whole}
use Rattle.place_core.specs.place.ScriptParts.{script_senses}
use Rattle.js_step.specs.KeptWords.{kept_scan}
use Rattle.js_step.specs.ScriptOrigins.{script_set_has}
use Rattle.js_step.specs.ScriptScanOrder.{MayDifferInSense, ScriptScanBelow}
use Rattle.js_step.specs.ScriptScans.{ScriptScan, script_scan, script_shared, script_senses_differ, script_scan_start, script_scan_next, script_scan_error, script_scan_cut_error, script_scan_end_error}
use Rattle.js_step.specs.ScriptValidity.{IsScriptScan}
use Rattle.js_step.specs.declared.evidence.ScriptShown.{ScriptShown}
use Rattle.js_step.specs.declared.evidence.ScriptShown.TheVariants as shown

-- What some path ended in, which the first character goes on with: the one that shows it. In a regular expression a slash is the one that
-- begins it.
abbrev pub script_slash_member : At → Member
script_slash_member (InRegexp k e) = member.RegexpSlash
script_slash_member a = member.JsSlash

abbrev pub script_tail_shows : JsTails → At → ScriptClass → Member
script_tail_shows x a class.Letter = if x.word then member.JsWord else member.JsNum
script_tail_shows x a class.Digit = if x.word then member.JsWord else member.JsNum
script_tail_shows x a class.Dollar = if x.word then member.JsWord else member.JsNum
script_tail_shows x a class.Backslash = if x.word then member.JsWord else member.JsNum
script_tail_shows x a class.Dot = member.JsNum
script_tail_shows x a class.Plus = member.JsPlus
script_tail_shows x a class.Minus = member.JsMinus
script_tail_shows x a class.GreaterThan = member.JsMinus
script_tail_shows x a class.Solidus = if x.lt then member.JsLt else (if x.slash then script_slash_member a else member.JsStar)
script_tail_shows x a class.Asterisk = script_slash_member a
script_tail_shows x a class.ExclamationMark = if x.lt then member.JsLt else member.JsHash
script_tail_shows x a c = member.Whole

abbrev pub script_first_shows : JsTails → At → List ClassedByte → Member
script_first_shows x a [] = member.Whole
script_first_shows x a (y ∷ ys) = script_tail_shows x a y.class

abbrev pub script_split_shows : ScriptScan → ℕ → Member
script_split_shows n b =
    script_first_shows n.before n.state.at (read_at (tells_white_apart (script_shared n).at) n.state.held (class_of b) b)

-- The member by what is refused; no one member shows a slash that begins a regular expression on some paths and divides on others. All else
-- is refused on each path.
abbrev pub script_slash_shows : Senses → Option Member
script_slash_shows s = if s.brace then Some member.SenseBrace else None

abbrev pub script_shown_by : ScriptScan → (split : Member) → Refusal → Option Member
script_shown_by n split SplitToken = Some split
script_shown_by n split SlashAmbig = script_slash_shows n.senses
script_shown_by n split r = Some member.Whole

-- likewise by the printed code
abbrev pub script_code_shows : ScriptScan → (split : Member) → Code → Option Member
script_code_shows n split code.SplitToken = Some split
script_code_shows n split code.SlashAmbig = script_slash_shows n.senses
script_code_shows n split c = Some member.Whole

-- and of the code's answers
abbrev pub script_evidence_at : ScriptShown → Option Member
script_evidence_at (shown.One m) = Some m
script_evidence_at shown.EitherSlash = None

abbrev pub script_scan_has : ScriptScan → Member → Bool
script_scan_has n y = is_whole y || script_set_has n y

abbrev pub IsScriptShownBy : Option Member → ScriptScan → (ScriptScan → Option Cause) → Cause → Type 0
IsScriptShownBy (Some y) m refuses e =
    (script_scan_has m y ≡ true) × ((n : ScriptScan) → ScriptScanBelow n m → script_scan_has n y ≡ true → refuses n ≡ Some e)
IsScriptShownBy None m refuses e =
    (script_senses_differ m.senses ≡ true) × (script_set_has m member.SenseRe ≡ true) × (script_set_has m member.SenseDiv ≡ true)

abbrev pub ShowsRefusals : (ScriptScan → Option Cause) → (split : ScriptScan → Member) → Type 0
ShowsRefusals refuses split = (m : ScriptScan) (e : Cause) → refuses m ≡ Some e → IsScriptShownBy (script_shown_by m (split m) e.refusal) m refuses e

-- at a byte, at the end of a node and of a value
pub record ScriptsShown : Type 0 where
  pub byte : (element : Bool) (b : ℕ) → ShowsRefusals (λ n. script_scan_error element n b) (λ n. script_split_shows n b)
  pub cut : ShowsRefusals script_scan_cut_error (λ n. member.Whole)
  pub end : ShowsRefusals script_scan_end_error (λ n. member.Whole)

-- Where a scan state has more senses than one, paths may differ there. So it is at the beginning of a text, and behind each byte that is
-- accepted.
abbrev pub ScriptSensesFit : ScriptScan → Type 0
ScriptSensesFit m = ((r : Sense) × (m.senses ≡ script_senses r)) ⊎ ((m.state.literals ≡ []) × MayDifferInSense m.state.at m.state.held)

-- With a path on which it is not known what a slash would be.
abbrev pub script_with_brace : ScriptScan → ScriptScan
script_with_brace n = script_scan (record { re = n.senses.re; div = n.senses.div; brace = true }) n.before n.star n.state

-- Where a slash would be one thing on some paths and the other on others, such a path is refused what they are refused together. Behind a
-- byte it is among the others, or these still differ, and it is not known on it.
pub record ScriptClashes (m : ScriptScan) : Type 0 where
  pub brace : script_set_has (script_with_brace m) member.SenseBrace ≡ true
  pub error : (element : Bool) (b : ℕ) → script_scan_error element (script_with_brace m) b ≡ script_scan_error element m b
  pub cut_error : script_scan_cut_error (script_with_brace m) ≡ script_scan_cut_error m
  pub end_error : script_scan_end_error (script_with_brace m) ≡ script_scan_end_error m
  pub next_same : (element : Bool) (b : ℕ) → script_scan_error element m b ≡ None → script_senses_differ (script_scan_next m b).senses ≡ false
      → (n : ScriptScan) → ScriptScanBelow n (script_scan_next (script_with_brace m) b) → ScriptScanBelow n (script_scan_next m b)
  pub next_apart : (element : Bool) (b : ℕ) → script_scan_error element m b ≡ None → script_senses_differ (script_scan_next m b).senses ≡ true
      → (script_set_has (script_scan_next (script_with_brace m) b) member.SenseBrace ≡ true)
      × ((n : ScriptScan) → ScriptScanBelow n (script_scan_next (script_with_brace m) b) → ScriptScanBelow n (script_with_brace (script_scan_next m b)))

-- Where they differ behind a byte, they do so before it.
pub record ScriptsClash : Type 0 where
  pub clashes : (m : ScriptScan) → ScriptSensesFit m → script_senses_differ m.senses ≡ true → ScriptClashes m
  pub before : (element : Bool) (m : ScriptScan) (b : ℕ) → ScriptSensesFit m → script_scan_error element m b ≡ None
      → script_senses_differ (script_scan_next m b).senses ≡ true
      → (script_senses_differ m.senses ≡ true) × (script_set_has m member.SenseRe ≡ true) × (script_set_has m member.SenseDiv ≡ true)
  pub start : (c : Js) → ScriptSensesFit (script_scan_start c)
  pub next : (element : Bool) (m : ScriptScan) (b : ℕ) → IsScriptScan m → ScriptSensesFit m → script_scan_error element m b ≡ None
      → ScriptSensesFit (script_scan_next m b)
  pub kept : (m : ScriptScan) → ScriptSensesFit m → ScriptSensesFit (kept_scan m)
