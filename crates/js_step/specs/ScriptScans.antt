-- How a text of a script is stepped, byte by byte, for all the paths that stand at a place together. They read the same bytes, so that
-- within the text they are in the same lexeme. What a place keeps as a set is kept so: what a slash would be, as the sense of each path
-- decides no more than that; and what some path ended in before the text, until the first character.
use Rattle.std.specs.Prelude.{ℕ, ◌||◌, ◌&&◌, Bool, true, false, List, [], ◌∷◌, Option, Some, None, length, if◌then◌else◌}
use Rattle.js_lexer.specs.Classes.{class_of}
use Rattle.js_lexer.specs.Feeding.{tells_white_apart, read_at, feed_script}
use Rattle.js_lexer.specs.Refusals.{Cause, cause, SplitToken, SlashAmbig, first_script_cause, refusal_outside, whole_cut_refusal, unless_in_character, refuses_end}
use Rattle.js_lexer.specs.Spots.{Tail, NoTail, WordTail, NumberTail, SlashTail, PlusTail, MinusTail, tail_of}
use Rattle.js_lexer.specs.States.{NoEscape, At, Code, Word, Number, Pluses, Minuses, Slash, LineComment, BlockComment, InString, InRegexp, InTemplate, TooDeep, NoLineYet, Trail, ScriptState}
use Rattle.js_lexer.specs.Steps.{sense_if_odd}
use Rattle.js_lexer.specs.Trails.{is_empty}
use Rattle.js_lexer.specs.WhiteSpace.{ClassedByte}
use Rattle.js_lexer.specs.Words.{sense_after}
use Rattle.js_lexer.specs.declared.class.ScriptClass.{ScriptClass}
use Rattle.js_lexer.specs.declared.class.ScriptClass.TheVariants as class
use Rattle.js_lexer.specs.declared.sense.Sense.{Sense}
use Rattle.js_lexer.specs.declared.sense.Sense.TheVariants as sense
use Rattle.place_core.specs.declared.js.Js.{Js}
use Rattle.place_core.specs.declared.js.Js.TheVariants as js
use Rattle.place_core.specs.declared.js_tails.JsTails.{JsTails}
use Rattle.place_core.specs.declared.senses.Senses.{Senses}
use Rattle.place_core.specs.place.LanguagePlaces.{both_senses}
use Rattle.place_core.specs.place.ScriptParts.{script_tails, script_no_tails, script_senses, script_quote_place}

-- Where a text has been read to, on all paths together: what a slash would be; what some path ended in before the text, and whether one
-- ended in the `*` of a comment, until the first character (`fresh` of the trail); and the state that they share. What that says of a slash
-- is not looked at.
pub record ScriptScan : Type 0 where
  pub senses : Senses
  pub before : JsTails
  pub star : Bool
  pub state : ScriptState

abbrev pub script_scan : Senses → JsTails → Bool → ScriptState → ScriptScan
script_scan s x star v = record { senses = s; before = x; star = star; state = v }

-- no sense; one sense of a set, for the shared state; a state in a sense
abbrev pub script_no_senses : Senses
script_no_senses = record { re = false; div = false; brace = false }

abbrev pub script_one_sense : Senses → Sense
script_one_sense s = if s.brace then sense.Brace else (if s.div then sense.Div else sense.Re)

abbrev pub script_at_in : Sense → At → At
script_at_in s (Code t) = Code s
script_at_in s (Slash t) = Slash s
script_at_in s (LineComment t) = LineComment s
script_at_in s (BlockComment t star) = BlockComment s star
script_at_in s a = a

abbrev pub script_in_sense : Sense → ScriptState → ScriptState
script_in_sense s v = record { literals = v.literals; at = script_at_in s v.at; held = v.held; trail = v.trail }

abbrev pub script_shared : ScriptScan → ScriptState
script_shared n = script_in_sense (script_one_sense n.senses) n.state

-- What a slash would be behind what has been read, or behind the string, the regular expression or the template literal in which it is; and
-- what a text has ended in.
abbrev pub script_sense_at : At → Sense
script_sense_at (Code s) = s
script_sense_at (Word w) = sense_after w
script_sense_at Number = sense.Div
script_sense_at (Pluses odd) = sense_if_odd odd
script_sense_at (Minuses odd) = sense_if_odd odd
script_sense_at (Slash s) = s
script_sense_at (LineComment s) = s
script_sense_at (BlockComment s star) = s
script_sense_at a = sense.Div

abbrev pub script_tail_at : At → List ℕ → Tail
script_tail_at (Code s) m = tail_of m
script_tail_at (Word w) m = WordTail
script_tail_at Number m = NumberTail
script_tail_at (Pluses odd) m = PlusTail
script_tail_at (Minuses odd) m = MinusTail
script_tail_at (Slash s) m = SlashTail
script_tail_at a m = NoTail

abbrev pub script_star_at : At → Bool
script_star_at (BlockComment s star) = star
script_star_at a = false

-- Where a text begins at a place. Of what paths have ended in the shared state keeps nothing, as no text goes on with it.
abbrev pub script_begun_trail : Trail
script_begun_trail = record { fresh = true; markup = []; escape = []; brace = 0; bracket = 0; literal = 0; lines = NoLineYet [] }

abbrev pub script_begun : Senses → JsTails → Bool → At → List ℕ → ScriptScan
script_begun s x star a held = script_scan s x star (record { literals = []; at = a; held = held; trail = script_begun_trail })

-- `regexp slash`: the first character may make a comment of its slash, as it may of a slash that divides
abbrev pub script_slash_tail : Bool → JsTails
script_slash_tail true = script_tails SlashTail
script_slash_tail false = script_no_tails

abbrev pub script_scan_start : Js → ScriptScan
script_scan_start (js.Code s x) = script_begun s x false (Code (script_one_sense s)) []
script_scan_start js.Dq = script_begun (script_senses sense.Div) script_no_tails false (InString true NoEscape) []
script_scan_start js.Sq = script_begun (script_senses sense.Div) script_no_tails false (InString false NoEscape) []
script_scan_start (js.Regexp slash) = script_begun (script_senses sense.Div) (script_slash_tail slash) false (InRegexp false NoEscape) []
script_scan_start (js.Line s) = script_begun s script_no_tails false (LineComment (script_one_sense s)) []
script_scan_start (js.Block s star) = script_begun s script_no_tails star (BlockComment (script_one_sense s) false) []

-- Where a byte leads, if it is not refused. What a slash would be is stepped sense by sense, and united.
abbrev pub script_sense_next : (is_one : Bool) → Sense → ScriptState → ℕ → Senses
script_sense_next true s v b = script_senses (script_sense_at (feed_script (script_in_sense s v) b).at)
script_sense_next false s v b = script_no_senses

abbrev pub script_senses_next : Senses → ScriptState → ℕ → Senses
script_senses_next s v b =
    both_senses (script_sense_next s.re sense.Re v b)
    (both_senses (script_sense_next s.div sense.Div v b) (script_sense_next s.brace sense.Brace v b))

-- While a byte is held back, the first character has begun past ASCII: it goes on with no `<` and no `#`.
abbrev pub script_tails_held : JsTails → JsTails
script_tails_held x = record { word = x.word; num = x.num; lt = false; slash = x.slash; plus = x.plus; minus = x.minus; hash = false }

abbrev pub script_tails_next : (fresh : Bool) → JsTails → JsTails
script_tails_next true x = script_tails_held x
script_tails_next false x = script_no_tails

abbrev pub script_scan_next : ScriptScan → ℕ → ScriptScan
script_scan_next n b =
    let v = feed_script (script_shared n) b in
    script_scan (script_senses_next n.senses n.state b) (script_tails_next v.trail.fresh n.before) (v.trail.fresh && n.star) v

-- Why a byte is refused: it is the first character, and goes on with what some path ended in;
abbrev pub script_goes_on : JsTails → (star : Bool) → ScriptClass → Bool
script_goes_on x star class.Letter = x.word || x.num
script_goes_on x star class.Digit = x.word || x.num
script_goes_on x star class.Dollar = x.word || x.num
script_goes_on x star class.Backslash = x.word || x.num
script_goes_on x star class.Dot = x.num
script_goes_on x star class.Plus = x.plus
script_goes_on x star class.Minus = x.minus
script_goes_on x star class.GreaterThan = x.minus
script_goes_on x star class.Solidus = x.lt || (x.slash || star)
script_goes_on x star class.Asterisk = x.slash
script_goes_on x star class.ExclamationMark = x.lt || x.hash
script_goes_on x star c = false

abbrev pub script_first_goes_on : JsTails → (star : Bool) → List ClassedByte → Bool
script_first_goes_on x star [] = false
script_first_goes_on x star (y ∷ ys) = script_goes_on x star y.class

abbrev pub script_tails_error : ScriptScan → ScriptClass → ℕ → Option Cause
script_tails_error n c b =
    if n.state.trail.fresh && script_first_goes_on n.before n.star (read_at (tells_white_apart (script_shared n).at) n.state.held c b)
    then cause SplitToken (length n.state.held) (length n.state.held)
    else None

-- a slash divides on one path, and begins a regular expression on another one;
abbrev pub script_senses_differ : Senses → Bool
script_senses_differ s = s.re && s.div

abbrev pub script_two_senses : (differ : Bool) → List ℕ → At → ScriptClass → Option Cause
script_two_senses true [] (Slash s) class.Solidus = None
script_two_senses true [] (Slash s) class.Asterisk = None
script_two_senses true [] (Slash s) c = cause SlashAmbig 1 1
script_two_senses differ fs a c = None

-- or the shared state refuses it. `element` says whether the script is an element's.
abbrev pub script_class_error : (element : Bool) → ScriptScan → ScriptClass → ℕ → Option Cause
script_class_error element n c b =
    first_script_cause (script_tails_error n c b)
    (first_script_cause (script_two_senses (script_senses_differ n.senses) n.state.literals n.state.at c)
    (refusal_outside n.state.literals element (script_shared n) c b))

abbrev pub script_scan_error : (element : Bool) → ScriptScan → ℕ → Option Cause
script_scan_error element n b = script_class_error element n (class_of b) b

-- The place where the node ends, if that is not refused. A slash that begins a regular expression on one path does so on all.
abbrev pub script_before_end : ScriptScan → JsTails
script_before_end n = if n.state.trail.fresh then n.before else script_tails (script_tail_at n.state.at n.state.trail.markup)

abbrev pub script_star_end : ScriptScan → Bool
script_star_end n = if n.state.trail.fresh then n.star else script_star_at n.state.at

abbrev pub script_slash_place : (re : Bool) → JsTails → Js
script_slash_place true x = js.Regexp x.slash
script_slash_place false x = js.Code (script_senses sense.Re) x

abbrev pub script_place_at : Senses → JsTails → (star : Bool) → At → Js
script_place_at s x star (Slash t) = script_slash_place s.re x
script_place_at s x star (LineComment t) = js.Line s
script_place_at s x star (BlockComment t z) = js.Block s star
script_place_at s x star (InString q e) = script_quote_place q
script_place_at s x star (InRegexp k e) = js.Regexp x.slash
script_place_at s x star a = js.Code s x

abbrev pub script_scan_place : ScriptScan → Js
script_scan_place n = script_place_at n.senses (script_before_end n) (script_star_end n) n.state.at

-- The place that is shown before a byte, as `spot_before` is on one path: within an escape, a `[ ]` and what may become markup it is that
-- of the string, the regular expression or the code. In a template literal there is none, nor behind a slash after `}`, which is refused
-- itself.
abbrev pub script_shown_at : Senses → JsTails → (star : Bool) → At → Option Js
script_shown_at s x star (Slash t) = if s.brace then None else Some (script_slash_place s.re x)
script_shown_at s x star (InTemplate e d) = None
script_shown_at s x star TooDeep = None
script_shown_at s x star a = Some (script_place_at s x star a)

abbrev pub script_scan_shown : ScriptScan → Option Js
script_scan_shown n =
    if is_empty n.state.literals then script_shown_at n.senses (script_before_end n) (script_star_end n) n.state.at else None

-- Why the end of a node is refused, and the end of a value: a slash that is held back is one thing or the other; or as the shared state
-- says. A node that ends within a character is refused for that.
abbrev pub script_slash_error : (differ : Bool) → List ℕ → At → Option Cause
script_slash_error true [] (Slash s) = cause SlashAmbig 1 1
script_slash_error differ fs a = None

abbrev pub script_scan_cut_error : ScriptScan → Option Cause
script_scan_cut_error n =
    unless_in_character n.state.held (first_script_cause (script_slash_error (script_senses_differ n.senses) n.state.literals n.state.at)
    (whole_cut_refusal n.state.literals (script_shared n).at n.state.trail))

abbrev pub script_scan_end_error : ScriptScan → Option Cause
script_scan_end_error n =
    first_script_cause (script_slash_error (script_senses_differ n.senses) n.state.literals n.state.at)
    (refuses_end (script_shared n))

-- A hole: the place behind it. In code it is a value, behind which a slash divides; in a string, a regular expression and a comment what
-- stands there goes on. None is refused.
abbrev pub script_at_hole : Js → Js
script_at_hole (js.Code s x) = js.Code (script_senses sense.Div) script_no_tails
script_at_hole js.Dq = js.Dq
script_at_hole js.Sq = js.Sq
script_at_hole (js.Regexp slash) = js.Regexp false
script_at_hole (js.Line s) = js.Line s
script_at_hole (js.Block s star) = js.Block s star
