-- The path of a value that is a script, and the scan state of a script: what is refused of the bytes that they are fed, and where it stands.
use Rattle.std.proofs.Common.{◌≡◌, ◌<◌, ◌==◌, ℕ, nat_lt, Bool, true, false, not, ◌&&◌, ◌||◌, List, [], ◌∷◌, ◌++◌, length, Option, Some, None, option_map, if◌then◌else◌, encode_utf8, refl, sym, ap, ◌∙◌, arith, subst}
use Rattle.std.proofs.lemmas.Str.{length-encode, len_utf8_bounds}
use Rattle.js_lexer.specs.Classes as script
use Rattle.js_lexer.specs.Elements.{is_code_or_comment, script_may_end}
use Rattle.js_lexer.specs.Feeding.{feed_script, held_at, read_at, tells_white_apart}
use Rattle.js_lexer.specs.Holes.{script_after_cut}
use Rattle.js_lexer.specs.Refusals.{Cause, refuses_end, script_refuses, script_refuses_cut}
use Rattle.js_lexer.specs.Spots.{Spot, Tail, script_spot, spot_at, spot_before}
use Rattle.js_lexer.specs.States.{At, Code, Word, Number, Pluses, Minuses, Slash, LineComment, BlockComment, InString, InRegexp, InTemplate, TooDeep, ScriptState, script_start}
use Rattle.js_lexer.specs.Trails.{is_empty}
use Rattle.js_lexer.specs.WhiteSpace.{BeginsWhite, ClassedByte, IsOther, IsSeparator, IsSpace, PastAscii, classed, classed_as, held_after, held_alone, held_by, held_past_ascii, past_ascii, released, released_alone, released_by, released_past_ascii}
use Rattle.js_lexer.specs.declared.class.ScriptClass.{ScriptClass}
use Rattle.js_lexer.specs.declared.class.ScriptClass.TheVariants as class
use Rattle.js_lexer.specs.declared.sense.Sense.{Sense}
use Rattle.js_lexer.specs.declared.sense.Sense.TheVariants as sense
use Rattle.js_step.proofs.KeptAnswers.{kept-words-suffice}
use Rattle.js_step.specs.KeptWords.{kept_at, kept_scan}
use Rattle.js_step.proofs.ScriptPaths.{script-paths-are-scanned}
use Rattle.js_step.specs.ScriptPaths.{is_script_before, is_script_within, script_scanned, script_scanned_if}
use Rattle.js_step.specs.ScriptScanLaws.{script_alone, script_alone_before, script_begun_at}
use Rattle.js_step.specs.ScriptScans.{ScriptScan, script_before_end, script_scan_cut_error, script_scan_end_error, script_scan_error, script_scan_place, script_scan_shown, script_scan_start, script_at_in, script_one_sense, script_sense_at, script_shown_at, script_star_at, script_star_end, script_tail_at}
use Rattle.place_core.proofs.Semilattices.{no_map, none_some, one_value}
use Rattle.place_core.specs.page.Classes.{Class, Ampersand, is_equals_sign}
use Rattle.place_core.specs.page.References.{Form, Reference, Closed, Open, ReferenceStep, Grows, Closes, Breaks, begin_reference, flushed, meaning, next_reference, plain_bytes, reference_turned, turn, turn_bytes, undone_byte}
use Rattle.place_core.specs.page.Tags.{Tag, Value, ValueOf, Deciding, ValueState, OfKind, OfUrl, OfStyle, OfScript, feeding, languages, script_code, with_bytes}
use Rattle.place_core.specs.place.Errors.{FedByte, PathRefusal, at_value_end, deep_at, deep_place, first_path_refusal, one_script, places_with, script_ending_refusal, script_fed, script_fed_refusal, script_places_refusal, script_refusal_at, value_end_cause}
use Rattle.place_core.specs.place.ScriptParts.{is_new_part, may_begin_text_at, script_body, script_js, script_may_begin_text, script_no_tails, script_place, script_senses, script_tails}
use Rattle.place_core.specs.place.StatePlaces.{value_body}
use Rattle.place_core.specs.declared.body.Body.TheVariants as body
use Rattle.place_core.specs.declared.js.Js.{Js}
use Rattle.place_core.specs.declared.js.Js.TheVariants as js
use Rattle.place_core.specs.declared.js_tails.JsTails.{JsTails}
use Rattle.place_core.specs.declared.senses.Senses.{Senses}
use Rattle.place_core.specs.declared.quotes.Quotes.{Quotes}
use Rattle.place_core.specs.declared.value_place.ValuePlace.{ValuePlace}
use Rattle.html_scan.specs.Scans.{all_scripts, script_fed_byte, script_feeding, script_scan_may_end}
use Rattle.html_step.proofs.FedAlike.{FedAlike}

-- The scan state of a path in a script, with what is kept of its words.
abbrev pub kept_script_scanned : ScriptState → Option ScriptScan
kept_script_scanned v = option_map kept_scan (script_scanned v)

-- It is stepped as the path is, and refuses what the path refuses, at a byte, at the end of a node and of a value; and both show the same place. Where
-- the end of a node is not refused, the path has a place behind it.
pub record OneKeptScript (v : ScriptState) (n : ScriptScan) : Type 0 where
  pub error : (element : Bool) (b : ℕ) → script_scan_error element n b ≡ script_refuses element v b
  pub next : (element : Bool) (b : ℕ) → script_refuses element v b ≡ None → kept_script_scanned (feed_script v b) ≡ Some (script_fed_byte n b)
  pub shown : script_scan_shown n ≡ option_map script_place (spot_before v)
  pub cut_error : script_scan_cut_error n ≡ script_refuses_cut v
  pub end_error : script_scan_end_error n ≡ refuses_end v
  pub may_end : script_scan_may_end n ≡ script_may_end v
  pub stands : script_refuses_cut v ≡ None → script_body (script_after_cut v) ≡ Some (body.Js (script_scan_place n))

kept-shown-at : (s : Senses) (x : JsTails) (star : Bool) (a : At) → script_shown_at s x star (kept_at a) ≡ script_shown_at s x star a
kept-shown-at s x star (Word w) = refl
kept-shown-at s x star a = refl

kept-tail : (a : At) (m : List ℕ) → script_tail_at (kept_at a) m ≡ script_tail_at a m
kept-tail (Word w) m = refl
kept-tail a m = refl

kept-star : (a : At) → script_star_at (kept_at a) ≡ script_star_at a
kept-star (Word w) = refl
kept-star a = refl

kept-shown : (n : ScriptScan) → script_scan_shown (kept_scan n) ≡ script_scan_shown n
kept-shown n =
    let a = n.state.at in
    let m = n.state.trail.markup in
    let outside = is_empty n.state.literals in
    let fresh = n.state.trail.fresh in
    ap (λ (y : Tail). if outside then script_shown_at n.senses (if fresh then n.before else script_tails y) (if fresh then n.star else script_star_at (kept_at a)) (kept_at a) else None)
    (kept-tail a m)
    ∙ ap (λ (z : Bool). if outside then script_shown_at n.senses (script_before_end n) (if fresh then n.star else z) (kept_at a) else None) (kept-star a)
    ∙ ap (λ (o : Option Js). if outside then o else None) (kept-shown-at n.senses (script_before_end n) (script_star_end n) a)

-- An end tag may end it where it may end it on the path.
kept-code : (s : Sense) (a : At) → is_code_or_comment (script_at_in s (kept_at a)) ≡ is_code_or_comment (script_at_in s a)
kept-code s (Code t) = refl
kept-code s (Word w) = refl
kept-code s Number = refl
kept-code s (Pluses odd) = refl
kept-code s (Minuses odd) = refl
kept-code s (Slash t) = refl
kept-code s (LineComment t) = refl
kept-code s (BlockComment t star) = refl
kept-code s (InString q e) = refl
kept-code s (InRegexp k e) = refl
kept-code s (InTemplate e d) = refl
kept-code s TooDeep = refl

kept-may-end : (n : ScriptScan) → script_scan_may_end (kept_scan n) ≡ script_scan_may_end n
kept-may-end n = ap (λ (x : Bool). is_empty n.state.literals && x) (kept-code (script_one_sense n.senses) n.state.at)

alone-code : (a : At) → is_code_or_comment (script_at_in (script_one_sense (script_senses (script_sense_at a))) a) ≡ is_code_or_comment a
alone-code (Code t) = refl
alone-code (Word w) = refl
alone-code Number = refl
alone-code (Pluses odd) = refl
alone-code (Minuses odd) = refl
alone-code (Slash sense.Re) = refl
alone-code (Slash sense.Div) = refl
alone-code (Slash sense.Brace) = refl
alone-code (LineComment t) = refl
alone-code (BlockComment t star) = refl
alone-code (InString q e) = refl
alone-code (InRegexp k e) = refl
alone-code (InTemplate e d) = refl
alone-code TooDeep = refl

begun-code : (a : At)
    → is_code_or_comment (script_at_in (script_one_sense (script_senses (script_sense_at (script_begun_at a)))) (script_begun_at a))
    ≡ is_code_or_comment a
begun-code (Code t) = refl
begun-code (Word w) = refl
begun-code Number = refl
begun-code (Pluses odd) = refl
begun-code (Minuses odd) = refl
begun-code (Slash sense.Re) = refl
begun-code (Slash sense.Div) = refl
begun-code (Slash sense.Brace) = refl
begun-code (LineComment t) = refl
begun-code (BlockComment t star) = refl
begun-code (InString q e) = refl
begun-code (InRegexp k e) = refl
begun-code (InTemplate e d) = refl
begun-code TooDeep = refl

outside-both : (x y : Bool) (z : Bool) → (x && y) ≡ true → (true && z) ≡ (x && z)
outside-both true y z h = refl
outside-both false y z h = cc

may-end-if : (x : Bool) (k n : ScriptScan) (z : Bool) → (x ≡ true → script_scan_may_end k ≡ z) → script_scanned_if x k ≡ Some n
    → script_scan_may_end n ≡ z
may-end-if true k n z f e = ap script_scan_may_end (sym (one_value k n e)) ∙ f refl
may-end-if false k n z f e = absurd (none_some n e)

may-end-by : (x : Bool) (v : ScriptState) (n : ScriptScan)
    → (if x then script_scanned_if (is_script_before v) (script_alone_before v) else script_scanned_if (is_script_within v) (script_alone v)) ≡ Some n
    → script_scan_may_end n ≡ script_may_end v
may-end-by true v n e =
    may-end-if (is_script_before v) (script_alone_before v) n (script_may_end v)
    (λ h. begun-code v.at
    ∙ outside-both (is_empty v.literals) (script_may_begin_text v && (is_empty v.held || (tells_white_apart v.at && is_empty v.trail.markup)))
    (is_code_or_comment v.at) h) e
may-end-by false v n e =
    may-end-if (is_script_within v) (script_alone v) n (script_may_end v) (λ h. ap (λ (y : Bool). is_empty v.literals && y) (alone-code v.at)) e

scanned-may-end : (v : ScriptState) (n : ScriptScan) → script_scanned v ≡ Some n → script_scan_may_end n ≡ script_may_end v
scanned-may-end v n e = may-end-by v.trail.fresh v n e

kept-path : (v : ScriptState) (n : ScriptScan) → script_scanned v ≡ Some n → OneKeptScript v (kept_scan n)
kept-path v n i =
    let o = script-paths-are-scanned.goes_on v n i in
    let k = kept-words-suffice n in
    record {
      error = λ element b. k.error element b ∙ o.error element b;
      next = λ element b e. ap (option_map kept_scan) (o.next element b e) ∙ ap Some (sym (k.next b));
      shown = kept-shown n ∙ o.shown;
      cut_error = k.cut_error ∙ o.cut_error;
      end_error = k.end_error ∙ o.end_error;
      may_end = kept-may-end n ∙ scanned-may-end v n i;
      stands = λ e. o.stands e ∙ ap (λ (j : Js). Some (body.Js j)) (sym k.place);
    }

one-by : (v : ScriptState) (n : ScriptScan) (o : Option ScriptScan) → script_scanned v ≡ o → option_map kept_scan o ≡ Some n → OneKeptScript v n
one-by v n None i e = absurd (none_some n e)
one-by v n (Some m) i e = subst (OneKeptScript v) (one_value (kept_scan m) n e) (kept-path v m i)

pub one-script : (v : ScriptState) (n : ScriptScan) → kept_script_scanned v ≡ Some n → OneKeptScript v n
one-script v n e = one-by v n (script_scanned v) refl e

-- A path that has a place is at the scan state in which a text begins there.
kept-start : (c : Js) → kept_scan (script_scan_start c) ≡ script_scan_start c
kept-start (js.Code s x) = refl
kept-start js.Dq = refl
kept-start js.Sq = refl
kept-start (js.Regexp slash) = refl
kept-start (js.Line s) = refl
kept-start (js.Block s star) = refl

pub record OneStand (v : ScriptState) (c : Js) : Type 0 where
  pub scanned : kept_script_scanned v ≡ Some (script_scan_start c)
  pub kept : script_after_cut v ≡ v
  pub cut_error : script_refuses_cut v ≡ None

pub one-stand : (v : ScriptState) (c : Js) → script_body v ≡ Some (body.Js c) → OneStand v c
one-stand v c e =
    let o = script-paths-are-scanned.stands v c e in
    record { scanned = ap (option_map kept_scan) o.scanned ∙ ap Some (kept-start c); kept = o.kept; cut_error = o.cut_error }

-- The values of a path in a script, and what all paths there are kept as.
abbrev pub IsScriptAt : Value ValueState → ScriptScan → Type 0
IsScriptAt (ValueOf (OfScript v)) n = kept_script_scanned v ≡ Some n
IsScriptAt (ValueOf (OfKind k)) n = ⊥
IsScriptAt (ValueOf (OfUrl u)) n = ⊥
IsScriptAt (ValueOf (OfStyle v)) n = ⊥
IsScriptAt (Deciding k before) n = ⊥

script-errors : (z : Value ValueState) (n : ScriptScan) (b : ℕ) → IsScriptAt z n → (feeding languages).refuses z b ≡ script_feeding.refuses n b
script-errors (ValueOf (OfScript v)) n b i = ap (option_map (λ (e : Cause). script_code e.refusal)) (sym ((one-script v n i).error false b))
script-errors (ValueOf (OfKind k)) n b i = absurd i
script-errors (ValueOf (OfUrl u)) n b i = absurd i
script-errors (ValueOf (OfStyle v)) n b i = absurd i
script-errors (Deciding k before) n b i = absurd i

script-goes : (z : Value ValueState) (n : ScriptScan) (b : ℕ) → IsScriptAt z n → script_feeding.refuses n b ≡ None
    → IsScriptAt ((feeding languages).feed z b) (script_feeding.feed n b)
script-goes (ValueOf (OfScript v)) n b i e =
    let o = one-script v n i in
    o.next false b (sym (o.error false b) ∙ no_map (λ (x : Cause). script_code x.refusal) (script_scan_error false n b) e)
script-goes (ValueOf (OfKind k)) n b i e = absurd i
script-goes (ValueOf (OfUrl u)) n b i e = absurd i
script-goes (ValueOf (OfStyle v)) n b i e = absurd i
script-goes (Deciding k before) n b i e = absurd i

script-names : (z : Value ValueState) (n : ScriptScan) → IsScriptAt z n → (feeding languages).refuses_names z ≡ script_feeding.refuses_names n
script-names (ValueOf (OfScript v)) n i = refl
script-names (ValueOf (OfKind k)) n i = absurd i
script-names (ValueOf (OfUrl u)) n i = absurd i
script-names (ValueOf (OfStyle v)) n i = absurd i
script-names (Deciding k before) n i = absurd i

pub scripts-alike : FedAlike (feeding languages) script_feeding IsScriptAt
scripts-alike = record { errors = script-errors; goes = script-goes; names = script-names }

-- The place of a script but for its body, which is that of the empty script: the scan state has it.
abbrev pub empty_js : Js
empty_js = js.Code (script_senses sense.Re) script_no_tails

abbrev pub script_value : Tag → Quotes → ValuePlace
script_value t q = record { tag = t.tag; typed = t.typed; quotes = q; body = body.Js empty_js }

pub begins-scanned : kept_script_scanned (script_after_cut script_start) ≡ Some (script_scan_start empty_js)
begins-scanned = (one-stand (script_after_cut script_start) empty_js script-paths-are-scanned.begins).scanned

-- Behind a byte that a script is fed no text begins: it is within the text, or a byte is held back.
not-empty : (xs ys : List ClassedByte) → is_empty ys ≡ false → is_empty (xs ++ ys) ≡ false
not-empty [] ys h = h
not-empty (x ∷ xs) ys h = refl

pub bytes-not-empty : (xs ys : List ℕ) → is_empty ys ≡ false → is_empty (xs ++ ys) ≡ false
bytes-not-empty [] ys h = h
bytes-not-empty (x ∷ xs) ys h = refl

all-classed : (c : ScriptClass) (xs : List ℕ) → is_empty xs ≡ false → is_empty (classed_as c xs) ≡ false
all-classed c (x ∷ xs) h = refl
all-classed c [] h = h

no : false ≡ true → ⊥
no e = cc

never : {A : Type 0} (x : Bool) → x ≡ false → x ≡ true → A
never x e f = absurd (no (sym e ∙ f))

alone-kept : (p : PastAscii) (b : ℕ) → is_empty (released_alone p b) ≡ true → is_empty (held_alone p b) ≡ false
alone-kept BeginsWhite b h = refl
alone-kept IsSpace b h = absurd (no h)
alone-kept IsSeparator b h = absurd (no h)
alone-kept IsOther b h = absurd (no h)

other-kept : (held : List ℕ) (p : PastAscii) (b : ℕ) → is_empty (classed_as class.Letter held ++ released_alone p b) ≡ true → is_empty (held_alone p b) ≡ false
other-kept [] p b h = alone-kept p b h
other-kept (x ∷ xs) p b h = absurd (no h)

past-kept : (p : PastAscii) (held : List ℕ) (b : ℕ) → is_empty (released_past_ascii p held b) ≡ true → is_empty (held_past_ascii p held b) ≡ false
past-kept IsSpace held b h =
    never (is_empty (classed_as class.Space (held ++ b ∷ []))) (all-classed class.Space (held ++ b ∷ []) (bytes-not-empty held (b ∷ []) refl)) h
past-kept IsSeparator held b h =
    never (is_empty (classed_as class.LineEnd (held ++ b ∷ []))) (all-classed class.LineEnd (held ++ b ∷ []) (bytes-not-empty held (b ∷ []) refl)) h
past-kept BeginsWhite held b h = bytes-not-empty held (b ∷ []) refl
past-kept IsOther held b h = other-kept held (past_ascii (b ∷ [])) b h

ascii-kept : (x : Bool) (held : List ℕ) (b : ℕ) → is_empty (released_by x held b) ≡ true → is_empty (held_by x held b) ≡ false
ascii-kept true held b h =
    let one = classed (script.class_of b) b ∷ [] in
    never (is_empty (classed_as class.Letter held ++ one)) (not-empty (classed_as class.Letter held) one refl) h
ascii-kept false held b h = past-kept (past_ascii (held ++ b ∷ [])) held b h

kept : (w : Bool) (held : List ℕ) (c : ScriptClass) (b : ℕ) → is_empty (read_at w held c b) ≡ true → is_empty (held_at w held b) ≡ false
unfolding released held_after
kept true held c b h = ascii-kept (nat_lt b 128) held b h
kept false held c b h = absurd (no h)

within-no-body : (s : ScriptState) → s.trail.fresh ≡ false → script_body s ≡ None
within-no-body s e =
    let rest = is_empty s.trail.escape && (s.trail.brace == 0 && (s.trail.bracket == 0 && (s.trail.literal == 0 && is_new_part s.trail.lines))) in
    ap (λ (x : Bool). option_map body.Js (if (x && rest) && may_begin_text_at s.at s.trail.markup then option_map script_place (script_spot s) else None)) e

no-spot : (x y : Bool) (o : Option Spot) → y ≡ false → (if x && y then o else None) ≡ None
no-spot true y o e = ap (λ (z : Bool). if z then o else None) e
no-spot false y o e = refl

none-if : (x : Bool) (o : Option Spot) → o ≡ None → option_map body.Js (if x then option_map script_place o else None) ≡ None
none-if true o e = ap (λ (p : Option Spot). option_map body.Js (option_map script_place p)) e
none-if false o e = refl

held-no-body : (s : ScriptState) → is_empty s.held ≡ false → script_body s ≡ None
held-no-body s e = none-if (script_may_begin_text s) (script_spot s) (no-spot (is_empty s.literals) (is_empty s.held) (spot_at s.at s.trail) e)

not-fresh : (f x : Bool) → x ≡ false → (f && not (not x)) ≡ false
not-fresh true x e = ap (λ (z : Bool). not (not z)) e
not-fresh false x e = refl

behind-by : (x : Bool) (v : ScriptState) (b : ℕ) → is_empty (read_at (tells_white_apart v.at) v.held (script.class_of b) b) ≡ x → script_body (feed_script v b) ≡ None
behind-by true v b e = held-no-body (feed_script v b) (kept (tells_white_apart v.at) v.held (script.class_of b) b e)
behind-by false v b e =
    within-no-body (feed_script v b)
    (not-fresh v.trail.fresh (is_empty (read_at (tells_white_apart v.at) v.held (script.class_of b) b)) e)

pub behind-no-body : (v : ScriptState) (b : ℕ) → script_body (feed_script v b) ≡ None
behind-no-body v b = behind-by (is_empty (read_at (tells_white_apart v.at) v.held (script.class_of b) b)) v b refl

-- The place of the script alone, as of that of an element.
one-js-body : (c d : Js) → body.Js c ≡ body.Js d → c ≡ d
one-js-body c d e = cc

js-of : (o : Option Js) (c : Js) → option_map body.Js o ≡ Some (body.Js c) → o ≡ Some c
js-of (Some d) c e = ap Some (one-js-body d c (one_value (body.Js d) (body.Js c) e))
js-of None c e = absurd (none_some (body.Js c) e)

pub js-is : (v : ScriptState) (c : Js) → script_body v ≡ Some (body.Js c) → script_js v ≡ Some c
js-is v c e = js-of (script_js v) c e

no-js-by : (o : Option Js) → option_map body.Js o ≡ None → o ≡ None
no-js-by (Some c) e = cc
no-js-by None e = refl

pub behind-no-js : (v : ScriptState) (b : ℕ) → script_js (feed_script v b) ≡ None
behind-no-js v b = no-js-by (script_js (feed_script v b)) (behind-no-body v b)

pub with-no-body : (bytes : List ℕ) (v : ScriptState) → is_empty bytes ≡ false → value_body (with_bytes languages (ValueOf (OfScript v)) bytes) ≡ None
with-no-body [] v h = absurd (no (sym h))
with-no-body (b ∷ []) v h = behind-no-body v b
with-no-body (b ∷ d ∷ bs) v h = with-no-body (d ∷ bs) (feed_script v b) refl

-- Where no reference is open behind a byte of the value, some byte is fed.
plain-some : (c : Class) (b : ℕ) → begin_reference c ≡ Closed → is_empty (plain_bytes c b) ≡ false
plain-some Ampersand b h = cc
plain-some _ b h = refl

some-by : (xs : List ℕ) → 0 < length xs → is_empty xs ≡ false
some-by [] h = absurd (omega (arith, h))
some-by (x ∷ xs) h = refl

utf8-some : (n : ℕ) → is_empty (encode_utf8 n) ≡ false
utf8-some n = some-by (encode_utf8 n) (omega (arith, length-encode n, (len_utf8_bounds n).0))

turned-some : (z : ReferenceStep) (f : Form) (bytes : List ℕ) (c : Class) (b : ℕ) → reference_turned z bytes c b ≡ Closed
    → is_empty (turn_bytes true z f bytes c b) ≡ false
turned-some (Grows g) f bytes c b h = cc
turned-some Closes f bytes c b h = utf8-some (meaning f bytes)
turned-some Breaks f bytes c b h = bytes-not-empty (flushed true (is_equals_sign c) f bytes) (plain_bytes c b) (plain-some c b h)

pub some-fed : (r : Reference) (c : Class) (b : ℕ) → next_reference r c b ≡ Closed → is_empty (undone_byte true r c b) ≡ false
some-fed Closed c b h = plain-some c b h
some-fed (Open f bytes) c b h = turned-some (turn c f) f bytes c b h

-- What is refused of a script stands where it does on the path.
pub refusal-none : (places : List ℕ) (o : Option Cause) → script_refusal_at places o ≡ None → o ≡ None
refusal-none places None h = refl
refusal-none places (Some e) h = cc

path-first : (o p q : Option PathRefusal) → (o ≡ None → p ≡ q) → first_path_refusal o p ≡ first_path_refusal o q
path-first None p q h = h refl
path-first (Some e) p q h = refl

pub first-unrefused : (o p : Option PathRefusal) → first_path_refusal o p ≡ None → (o ≡ None) × (p ≡ None)
first-unrefused None p h = (refl, h)
first-unrefused (Some e) p h = cc

pub fed-refusal : (xs : List FedByte) (places : List ℕ) (v : ScriptState) (n : ScriptScan) → kept_script_scanned v ≡ Some n
    → script_fed_refusal one_script places v xs ≡ script_fed_refusal all_scripts places n xs
fed-refusal [] places v n i = refl
fed-refusal (x ∷ xs) places v n i =
    let o = one-script v n i in
    let e = sym (o.error false x.byte) in
    let later = x.place ∷ places in
    ap (λ (y : Option Cause). first_path_refusal (script_refusal_at later y) (script_fed_refusal one_script later (feed_script v x.byte) xs)) e
    ∙ path-first (script_refusal_at later (script_scan_error false n x.byte)) (script_fed_refusal one_script later (feed_script v x.byte) xs)
    (script_fed_refusal all_scripts later (script_fed_byte n x.byte) xs)
    (λ h. fed-refusal xs later (feed_script v x.byte) (script_fed_byte n x.byte)
    (o.next false x.byte (e ∙ refusal-none later (script_scan_error false n x.byte) h)))

pub fed-scanned : (xs : List FedByte) (places : List ℕ) (v : ScriptState) (n : ScriptScan) → kept_script_scanned v ≡ Some n
    → script_fed_refusal all_scripts places n xs ≡ None → kept_script_scanned (script_fed one_script v xs) ≡ Some (script_fed all_scripts n xs)
fed-scanned [] places v n i h = i
fed-scanned (x ∷ xs) places v n i h =
    let o = one-script v n i in
    let later = x.place ∷ places in
    let p = first-unrefused (script_refusal_at later (script_scan_error false n x.byte)) (script_fed_refusal all_scripts later (script_fed_byte n x.byte) xs) h in
    fed-scanned xs later (feed_script v x.byte) (script_fed_byte n x.byte)
    (o.next false x.byte (sym (o.error false x.byte) ∙ refusal-none later (script_scan_error false n x.byte) p.0)) p.1

end-cause : (ends : Bool) (v : ScriptState) (n : ScriptScan) → kept_script_scanned v ≡ Some n → value_end_cause one_script ends v ≡ value_end_cause all_scripts ends n
end-cause true v n i = sym (one-script v n i).end_error
end-cause false v n i = refl

pub places-refusal : (ends : Bool) (k : ℕ) (places : List ℕ) (v : ScriptState) (n : ScriptScan) (xs : List FedByte) → kept_script_scanned v ≡ Some n
    → script_places_refusal one_script ends k places v xs ≡ script_places_refusal all_scripts ends k places n xs
places-refusal ends k places v n xs i =
    let there = k ∷ places_with xs places in
    let own = script_refusal_at there (at_value_end (value_end_cause one_script ends (script_fed one_script v xs))) in
    ap (λ (o : Option PathRefusal). first_path_refusal o own) (fed-refusal xs places v n i)
    ∙ path-first (script_fed_refusal all_scripts places n xs) own
    (script_refusal_at there (at_value_end (value_end_cause all_scripts ends (script_fed all_scripts n xs))))
    (λ h. ap (λ (o : Option Cause). script_refusal_at there (at_value_end o))
    (end-cause ends (script_fed one_script v xs) (script_fed all_scripts n xs) (fed-scanned xs places v n i h)))

pub ending-refusal : (k : ℕ) (places : List ℕ) (v : ScriptState) (n : ScriptScan) (xs : List FedByte) → kept_script_scanned v ≡ Some n
    → script_ending_refusal one_script k places v xs ≡ script_ending_refusal all_scripts k places n xs
ending-refusal k places v n xs i =
    let there = k ∷ places_with xs places in
    let own = script_refusal_at there (script_refuses_cut (script_fed one_script v xs)) in
    ap (λ (o : Option PathRefusal). first_path_refusal o own) (fed-refusal xs places v n i)
    ∙ path-first (script_fed_refusal all_scripts places n xs) own (script_refusal_at there (script_scan_cut_error (script_fed all_scripts n xs)))
    (λ h. ap (script_refusal_at there)
    (sym (one-script (script_fed one_script v xs) (script_fed all_scripts n xs) (fed-scanned xs places v n i h)).cut_error))

pub deep-place : (ends : Bool) (k : ℕ) (places : List ℕ) (v : ScriptState) (n : ScriptScan) (xs : List FedByte) → kept_script_scanned v ≡ Some n
    → script_places_refusal all_scripts ends k places n xs ≡ None
    → deep_place one_script ends k places v xs ≡ deep_place all_scripts ends k places n xs
deep-place ends k places v n xs i h =
    let there = k ∷ places_with xs places in
    let p = first-unrefused (script_fed_refusal all_scripts places n xs)
    (script_refusal_at there (at_value_end (value_end_cause all_scripts ends (script_fed all_scripts n xs)))) h in
    ap (deep_at there) (end-cause ends (script_fed one_script v xs) (script_fed all_scripts n xs) (fed-scanned xs places v n i p.0))
