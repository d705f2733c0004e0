-- How far a script looks back: it grows by no more than the byte that it is fed, and a cause stands no farther back.
use Rattle.std.proofs.Common.{◌≡◌, ℕ, zero, suc, ◌+◌, ◌^◌, ◌<◌, ◌≤◌, Bool, true, false, List, [], ◌∷◌, ◌++◌, length, max, codes, refl, sym, ap, subst, arith, if◌then◌else◌}
use Rattle.std.proofs.lemmas.List.{length-append}
use Rattle.std.specs.Prelude.{◌==◌, ◌&&◌, ◌||◌, not, Option, Some, None, option_map, IfSome, ⊤, bytes_eq, nat_lt}
use Rattle.std.specs.Char.{to_ascii_lowercase}
use Rattle.std.proofs.lemmas.Slice.Eq.{bytes_eq-Decides}
use Rattle.js_lexer.specs.Classes.{class_of}
use Rattle.js_lexer.specs.Feeding.{held_at, read_at, tells_white_apart, feed_script}
use Rattle.js_lexer.specs.Refusals.{Refusal, Cause, cause, is_one_of, is_cut_markup, SplitToken, HtmlInScript, PartialEscape, JSTemplate, first_script_cause, slash_refusal, line_refusal, unless_taken, markup_refusal, refusal_outside, escape_refusal, cut_markup_refusal, cut_refusal_at, whole_cut_refusal, unless_in_character, end_refusal_at, refuses_end}
use Rattle.js_lexer.specs.States.{At, Code, Slash, LineComment, BlockComment, InString, InRegexp, TooDeep, Trail, ScriptState}
use Rattle.js_lexer.specs.Steps.{is_taken_in_string}
use Rattle.place_core.specs.declared.js.Js.{Js}
use Rattle.place_core.specs.declared.js.Js.TheVariants as js
use Rattle.js_lexer.specs.Trails.{next_markup, longer_markup, begun_markup, begins_markup, markup_after, next_unfinished, is_unfinished, escape_after, next_brace, brace_after, bracket_after, literal_after, is_empty, is_markup_code}
use Rattle.js_lexer.specs.WhiteSpace.{PastAscii, IsSpace, IsSeparator, BeginsWhite, IsOther, past_ascii, held_alone, held_past_ascii, held_by, held_after}
use Rattle.js_lexer.specs.declared.class.ScriptClass.{ScriptClass}
use Rattle.js_lexer.specs.declared.class.ScriptClass.TheVariants as class
use Rattle.js_lexer.specs.declared.sense.Sense.{Sense}
use Rattle.js_lexer.specs.declared.sense.Sense.TheVariants as sense
use Rattle.js_step.specs.KeptWords.{kept_at}
use Rattle.js_step.specs.ScriptScans.{ScriptScan, script_scan_start, script_shared, script_one_sense, script_at_in, script_scan_error, script_tails_error, script_two_senses, script_senses_differ, script_scan_cut_error, script_scan_end_error, script_slash_error, script_first_goes_on}
use Rattle.js_step.specs.ScriptScanViews.{script_cause_at, script_scan_at}
use Rattle.js_step.specs.declared.cause.ScriptCause.{ScriptCause}
use Rattle.js_step.specs.declared.scan.ScriptScan.{ScriptScan as ReadScript}
use Rattle.html_scan.specs.ScanViews.{slash_back, script_lookback, script_count, script_reach}
use Rattle.html_scan.specs.Scans.{script_fed_byte}

slash_small : (a : At) → slash_back a ≤ 1
slash_small (Slash s) = omega arith
slash_small _ = omega arith

grown_by_one : (xs : List ℕ) (b : ℕ) → length (xs ++ b ∷ []) ≤ length xs + 1
grown_by_one xs b = omega (arith, length-append xs (b ∷ []))

-- what is held back of white space
alone_longer : (p : PastAscii) (held : List ℕ) (b : ℕ) → length (held_alone p b) ≤ length held + 1
alone_longer BeginsWhite held b = omega arith
alone_longer _ held b = omega arith

past_longer : (p : PastAscii) (held : List ℕ) (b : ℕ) → length (held_past_ascii p held b) ≤ length held + 1
past_longer IsSpace held b = omega arith
past_longer IsSeparator held b = omega arith
past_longer BeginsWhite held b = grown_by_one held b
past_longer IsOther held b = alone_longer (past_ascii (b ∷ [])) held b

held_longer_by : (ascii : Bool) (held : List ℕ) (b : ℕ) → length (held_by ascii held b) ≤ length held + 1
held_longer_by true held b = omega arith
held_longer_by false held b = past_longer (past_ascii (held ++ b ∷ [])) held b

held_longer : (apart : Bool) (held : List ℕ) (b : ℕ) → length (held_at apart held b) ≤ length held + 1
unfolding held_after
held_longer true held b = held_longer_by (nat_lt b 128) held b
held_longer false held b = omega arith

-- what may become markup
begun_short : (one : Bool) (b : ℕ) → length (if one then b ∷ [] else []) ≤ 1
begun_short true b = omega arith
begun_short false b = omega arith

broken_markup : (same in_code : Bool) (m : List ℕ) (b : ℕ) → length (if same then m else begun_markup in_code b) ≤ length m + 1
broken_markup true in_code m b = omega arith
broken_markup false in_code m b = (let begun = begun_short (in_code && (b == 60 || (b == 35 || b == 45))) b in omega (arith, begun))

longer_by : (begins in_code : Bool) (m : List ℕ) (b : ℕ) → length (longer_markup begins in_code m b) ≤ length m + 1
longer_by true in_code m b = grown_by_one m b
longer_by false in_code m b = broken_markup (bytes_eq m (codes "--") && b == 45) in_code m b

markup_longer : (inside in_code : Bool) (m : List ℕ) (b : ℕ) → length (next_markup inside in_code m b) ≤ length m + 1
markup_longer inside in_code [] b = begun_short (in_code && (b == 60 || (b == 35 || b == 45))) b
markup_longer inside in_code (c ∷ m) b = longer_by (begins_markup inside (c ∷ (m ++ b ∷ []))) in_code (c ∷ m) b

-- an escape, and its braces
escape_by : (goes begins : Bool) (e : List ℕ) (b : ℕ) → length (if goes then e ++ b ∷ [] else (if begins then b ∷ [] else [])) ≤ length e + 1
escape_by true begins e b = grown_by_one e b
escape_by false true e b = omega arith
escape_by false false e b = omega arith

unfinished_longer : (regexp : Bool) (e : List ℕ) (b : ℕ) → length (next_unfinished regexp e b) ≤ length e + 1
unfinished_longer regexp e b = escape_by (is_unfinished regexp (e ++ b ∷ [])) (b == 92 && not (bytes_eq e (codes "\\"))) e b

escape_longer : (a : At) (e : List ℕ) (b : ℕ) → length (escape_after a e b) ≤ length e + 1
escape_longer (InString q x) e b = unfinished_longer false e b
escape_longer (InRegexp k x) e b = unfinished_longer true e b
escape_longer _ e b = omega arith

brace_begins : (same is_brace : Bool) (e : List ℕ) → (same ≡ true → length e ≡ 2) → (if same && is_brace then 3 else 0) ≤ length e + 1
brace_begins true true e h = (let two = h refl in omega (arith, two))
brace_begins true false e h = omega arith
brace_begins false x e h = omega arith

closes_brace : (closes : Bool) (k n : ℕ) → (if closes then 0 else suc (suc n)) ≤ max k (suc n) + 1
closes_brace true k n = omega arith
closes_brace false k n = omega arith

brace_longer : (e : List ℕ) (n b : ℕ) → next_brace e n b ≤ max (length e) n + 1
brace_longer e zero b =
    let two : bytes_eq e (codes "\\u") ≡ true → length e ≡ 2 = λ same. ap length ((bytes_eq-Decides e (codes "\\u")).0 same) in
    let begins = brace_begins (bytes_eq e (codes "\\u")) (b == 123) e two in omega (arith, begins)
brace_longer e (suc n) b = closes_brace (b == 125) (length e) n

brace_later : (a : At) (e : List ℕ) (n b : ℕ) → brace_after a e n b ≤ max (length e) n + 1
brace_later (InString q x) e n b = brace_longer e n b
brace_later (InRegexp k x) e n b = brace_longer e n b
brace_later _ e n b = omega arith

bracket_later : (a : At) (n : ℕ) → bracket_after a n ≤ n + 1
bracket_later (InRegexp true e) n = omega arith
bracket_later _ n = omega arith

literal_later : (fs : List ℕ) (n : ℕ) → literal_after fs n ≤ n + 1
literal_later [] n = omega arith
literal_later (m ∷ fs) n = omega arith

pub back_grows : (n : ScriptScan) (b : ℕ) → script_lookback (script_fed_byte n b) ≤ script_lookback n + 1
back_grows n b =
    let s = script_shared n in let v = feed_script s b in
    let slash = slash_small (kept_at v.at) in
    let held = held_longer (tells_white_apart s.at) s.held b in
    let markup = markup_longer (not (is_empty s.literals)) (is_markup_code (not (is_empty s.literals)) s.at) s.trail.markup (to_ascii_lowercase b) in
    let escape = escape_longer v.at s.trail.escape b in
    let brace = brace_later v.at s.trail.escape s.trail.brace b in
    let bracket = bracket_later v.at s.trail.bracket in
    let literal = literal_later v.literals s.trail.literal in
    omega (arith, slash, held, markup, escape, brace, bracket, literal)

pub step_reach : (n w : ReadScript) (b : ℕ) → script_count w ≤ script_count n + 1 → script_scan_at w ≡ script_fed_byte (script_scan_at n) b
    → script_reach w ≤ script_reach n + 1
step_reach n w b h e =
    let grown = back_grows (script_scan_at n) b in
    let back : script_lookback (script_scan_at w) ≤ script_lookback (script_scan_at n) + 1 =
    subst (λ (m : ScriptScan). script_lookback m ≤ script_lookback (script_scan_at n) + 1) (sym e) grown in
    omega (arith, h, back)

-- where a text begins, it looks back on nothing
pub none_back : (j : Js) → script_lookback (script_scan_start j) ≡ 0
none_back (js.Code s x) = refl
none_back js.Dq = refl
none_back js.Sq = refl
none_back (js.Regexp slash) = refl
none_back (js.Line s) = refl
none_back (js.Block s star) = refl

-- a cause that stands no farther back
abbrev pub StandsWithin : ℕ → Option Cause → Type 0
StandsWithin n None = ⊤
StandsWithin n (Some e) = (e.back ≤ n) × (e.shown ≤ n)

first_within : (n : ℕ) (o p : Option Cause) → StandsWithin n o → StandsWithin n p → StandsWithin n (first_script_cause o p)
first_within n (Some e) p h i = h
first_within n None p h i = i

if_within : (n : ℕ) (t : Bool) (r : Refusal) (back shown : ℕ) → back ≤ n → shown ≤ n → StandsWithin n (if t then cause r back shown else None)
if_within n true r back shown h i = (h, i)
if_within n false r back shown h i = tt

slash_same : (s : Sense) (a : At) → slash_back (script_at_in s a) ≡ slash_back a
slash_same s (Code t) = refl
slash_same s (Slash t) = refl
slash_same s (LineComment t) = refl
slash_same s (BlockComment t star) = refl
slash_same s _ = refl

slash_within : (n : ℕ) (a : At) (c : ScriptClass) → slash_back a ≤ n → StandsWithin n (slash_refusal a c)
slash_within n (Slash sense.Brace) class.Solidus h = tt
slash_within n (Slash sense.Brace) class.Asterisk h = tt
slash_within n (Slash sense.Brace) _ h = (h, h)
slash_within n (Slash sense.Re) c h = tt
slash_within n (Slash sense.Div) c h = tt
slash_within n _ c h = tt

taken_within : (n : ℕ) (t : Bool) (c : ScriptClass) → StandsWithin n (unless_taken t c)
taken_within n false class.LineEnd = (omega arith, omega arith)
taken_within n false _ = tt
taken_within n true c = tt

line_within : (n : ℕ) (a : At) (c : ScriptClass) (b : ℕ) → StandsWithin n (line_refusal a c b)
line_within n (InString q e) c b = taken_within n (is_taken_in_string e b) c
line_within n (InRegexp k e) c b = taken_within n false c
line_within n (Slash sense.Re) c b = taken_within n false c
line_within n (Slash sense.Div) c b = tt
line_within n (Slash sense.Brace) c b = tt
line_within n _ c b = tt

outside_within : (n : ℕ) (fs : List ℕ) (element : Bool) (s : ScriptState) (c : ScriptClass) (b : ℕ) → slash_back s.at ≤ n → length s.trail.markup ≤ n
    → s.trail.literal ≤ n → StandsWithin n (refusal_outside fs element s c b)
outside_within n [] element s c b h i j =
    first_within n (slash_refusal s.at c) (first_script_cause (line_refusal s.at c b) (markup_refusal s b)) (slash_within n s.at c h)
    (first_within n (line_refusal s.at c b) (markup_refusal s b) (line_within n s.at c b)
    (if_within n (is_one_of (codes "<!--" ∷ codes "-->" ∷ codes "#!" ∷ []) (markup_after false s.at s.trail.markup b)) HtmlInScript (length s.trail.markup)
    (length s.trail.markup) i i))
outside_within n (k ∷ fs) element s c b h i j =
    if_within n (element && is_one_of (codes "<!--" ∷ codes "<script" ∷ codes "</script" ∷ []) (markup_after true s.at s.trail.markup b)) HtmlInScript
    (length s.trail.markup) s.trail.literal i j

senses_within : (n : ℕ) (differ : Bool) (fs : List ℕ) (a : At) (c : ScriptClass) → slash_back a ≤ n → StandsWithin n (script_two_senses differ fs a c)
senses_within n true [] (Slash s) class.Solidus h = tt
senses_within n true [] (Slash s) class.Asterisk h = tt
senses_within n true [] (Slash s) _ h = (h, h)
senses_within n true [] _ c h = tt
senses_within n true (k ∷ fs) a c h = tt
senses_within n false fs a c h = tt

pub error_within : (element : Bool) (n : ScriptScan) (b : ℕ) → StandsWithin (script_lookback n) (script_scan_error element n b)
error_within element n b =
    let k = script_lookback n in let c = class_of b in
    let slash : slash_back n.state.at ≤ k = omega arith in
    let shared : slash_back (script_shared n).at ≤ k = rw (slash_same (script_one_sense n.senses) n.state.at) slash in
    let held : length n.state.held ≤ k = omega arith in
    let markup : length n.state.trail.markup ≤ k = omega arith in
    let literal : n.state.trail.literal ≤ k = omega arith in
    let differ = script_senses_differ n.senses in
    first_within k (script_tails_error n c b)
    (first_script_cause (script_two_senses differ n.state.literals n.state.at c) (refusal_outside n.state.literals element (script_shared n) c b))
    (if_within k (n.state.trail.fresh && script_first_goes_on n.before n.star (read_at (tells_white_apart (script_shared n).at) n.state.held c b)) SplitToken
    (length n.state.held) (length n.state.held) held held)
    (first_within k (script_two_senses differ n.state.literals n.state.at c) (refusal_outside n.state.literals element (script_shared n) c b)
    (senses_within k differ n.state.literals n.state.at c slash)
    (outside_within k n.state.literals element (script_shared n) c b shared markup literal))

-- at the end of a text, and of the script
escape_within : (n : ℕ) (brace closed : Bool) (t : Trail) → t.brace ≤ n → length t.escape ≤ n
    → StandsWithin n (if brace then cause PartialEscape 0 t.brace else (if closed then None else cause PartialEscape 0 (length t.escape)))
escape_within n true closed t h i = (omega arith, h)
escape_within n false true t h i = tt
escape_within n false false t h i = (omega arith, i)

in_escape_within : (n : ℕ) (t : Trail) → t.brace ≤ n → length t.escape ≤ n → StandsWithin n (escape_refusal t)
in_escape_within n t h i = escape_within n (nat_lt 0 t.brace) (is_empty t.escape) t h i

cut_markup_within : (n : ℕ) (t : Trail) → length t.markup ≤ n → StandsWithin n (cut_markup_refusal t)
cut_markup_within n t h = if_within n (is_cut_markup t.markup) SplitToken 0 (length t.markup) (omega arith) h

lexeme_within : (n : ℕ) (a : At) (t : Trail) → slash_back a ≤ n → t.brace ≤ n → length t.escape ≤ n → t.bracket ≤ n → length t.markup ≤ n
    → StandsWithin n (cut_refusal_at a t)
lexeme_within n (Slash sense.Brace) t h i j k m = (h, h)
lexeme_within n (Slash sense.Re) t h i j k m = cut_markup_within n t m
lexeme_within n (Slash sense.Div) t h i j k m = cut_markup_within n t m
lexeme_within n (InString q e) t h i j k m = in_escape_within n t i j
lexeme_within n (InRegexp true e) t h i j k m = (omega arith, k)
lexeme_within n (InRegexp false e) t h i j k m =
    first_within n (escape_refusal t) (cut_markup_refusal t) (in_escape_within n t i j) (cut_markup_within n t m)
lexeme_within n _ t h i j k m = cut_markup_within n t m

whole_within : (n : ℕ) (outside : Bool) (o : Option Cause) (t : Trail) → StandsWithin n o → t.literal ≤ n
    → StandsWithin n (if outside then o else cause JSTemplate 0 t.literal)
whole_within n true o t h i = h
whole_within n false o t h i = (omega arith, i)

character_within : (n : ℕ) (held : List ℕ) (o : Option Cause) → length held ≤ n → StandsWithin n o → StandsWithin n (unless_in_character held o)
character_within n [] o h i = i
character_within n (b ∷ bs) o h i = (omega arith, h)

undecided_within : (n : ℕ) (differ : Bool) (fs : List ℕ) (a : At) → slash_back a ≤ n → StandsWithin n (script_slash_error differ fs a)
undecided_within n true [] (Slash s) h = (h, h)
undecided_within n true [] _ h = tt
undecided_within n true (k ∷ fs) a h = tt
undecided_within n false fs a h = tt

pub cut_within : (n : ScriptScan) → StandsWithin (script_lookback n) (script_scan_cut_error n)
cut_within n =
    let k = script_lookback n in let t = n.state.trail in
    let slash : slash_back n.state.at ≤ k = omega arith in
    let shared : slash_back (script_shared n).at ≤ k = rw (slash_same (script_one_sense n.senses) n.state.at) slash in
    let held : length n.state.held ≤ k = omega arith in
    let markup : length t.markup ≤ k = omega arith in
    let escape : length t.escape ≤ k = omega arith in
    let brace : t.brace ≤ k = omega arith in
    let bracket : t.bracket ≤ k = omega arith in
    let literal : t.literal ≤ k = omega arith in
    let undecided = script_slash_error (script_senses_differ n.senses) n.state.literals n.state.at in
    let whole = whole_cut_refusal n.state.literals (script_shared n).at t in
    character_within k n.state.held (first_script_cause undecided whole) held
    (first_within k undecided whole (undecided_within k (script_senses_differ n.senses) n.state.literals n.state.at slash)
    (whole_within k (is_empty n.state.literals) (cut_refusal_at (script_shared n).at t) t
    (lexeme_within k (script_shared n).at t shared brace escape bracket markup) literal))

ended_within : (n : ℕ) (fs : List ℕ) (a : At) (t : Trail) → slash_back a ≤ n → t.literal ≤ n → StandsWithin n (end_refusal_at fs a t)
ended_within n [] (Slash sense.Brace) t h i = (h, h)
ended_within n [] (Slash sense.Re) t h i = tt
ended_within n [] (Slash sense.Div) t h i = tt
ended_within n [] TooDeep t h i = (omega arith, i)
ended_within n [] _ t h i = tt
ended_within n (k ∷ fs) TooDeep t h i = (omega arith, i)
ended_within n (k ∷ fs) _ t h i = tt

pub end_within : (n : ScriptScan) → StandsWithin (script_lookback n) (script_scan_end_error n)
end_within n =
    let k = script_lookback n in let t = n.state.trail in
    let slash : slash_back n.state.at ≤ k = omega arith in
    let shared : slash_back (script_shared n).at ≤ k = rw (slash_same (script_one_sense n.senses) n.state.at) slash in
    let literal : t.literal ≤ k = omega arith in
    let undecided = script_slash_error (script_senses_differ n.senses) n.state.literals n.state.at in
    first_within k undecided (refuses_end (script_shared n)) (undecided_within k (script_senses_differ n.senses) n.state.literals n.state.at slash)
    (ended_within k n.state.literals (script_shared n).at t shared literal)

-- as the code has it
cause_reaches : (n : ReadScript) (o : Option Cause) (c : Option ScriptCause) → c ≡ option_map script_cause_at o
    → StandsWithin (script_lookback (script_scan_at n)) o → IfSome c (λ (e : ScriptCause). (e.back ≤ script_reach n) × (e.shown ≤ script_reach n))
cause_reaches n None c e h = rw e tt
cause_reaches n (Some o) c e h =
    (let back : o.back ≤ script_reach n = omega (arith, h.0) in let shown : o.shown ≤ script_reach n = omega (arith, h.1) in rw e (back, shown))

pub error_reaches : (n : ReadScript) (b : ℕ) (c : Option ScriptCause) → c ≡ option_map script_cause_at (script_scan_error true (script_scan_at n) b)
    → IfSome c (λ (e : ScriptCause). (e.back ≤ script_reach n) × (e.shown ≤ script_reach n))
error_reaches n b c e = cause_reaches n (script_scan_error true (script_scan_at n) b) c e (error_within true (script_scan_at n) b)

pub cut_reaches : (n : ReadScript) (c : Option ScriptCause) → c ≡ option_map script_cause_at (script_scan_cut_error (script_scan_at n))
    → IfSome c (λ (e : ScriptCause). (e.back ≤ script_reach n) × (e.shown ≤ script_reach n))
cut_reaches n c e = cause_reaches n (script_scan_cut_error (script_scan_at n)) c e (cut_within (script_scan_at n))

pub end_reaches : (n : ReadScript) (c : Option ScriptCause) → c ≡ option_map script_cause_at (script_scan_end_error (script_scan_at n))
    → IfSome c (λ (e : ScriptCause). (e.back ≤ script_reach n) × (e.shown ≤ script_reach n))
end_reaches n c e = cause_reaches n (script_scan_end_error (script_scan_at n)) c e (end_within (script_scan_at n))

pub cause_room : (n behind : ℕ) (c : Option ScriptCause) → n + behind < 2 ^ 64 → IfSome c (λ (e : ScriptCause). (e.back ≤ n) × (e.shown ≤ n))
    → IfSome c (λ (e : ScriptCause). (e.back + behind < 2 ^ 64) × (e.shown + behind < 2 ^ 64))
cause_room n behind None h i = tt
cause_room n behind (Some e) h i =
    (let back : e.back + behind < 2 ^ 64 = omega (arith, h, i.0) in let shown : e.shown + behind < 2 ^ 64 = omega (arith, h, i.1) in (back, shown))
