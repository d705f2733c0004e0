-- In the element `script`: what its script has read, what is pending behind that, and what has not been written.
use Rattle.std.proofs.Common.{◌≡◌, ℕ, ◌-◌, ◌<◌, ◌≤◌, ◌&&◌, ◌||◌, not, Bool, true, false, List, [], ◌∷◌, ◌++◌, length, if◌then◌else◌, refl, sym, ap, ap₂, ◌∙◌, true≢false, arith}
use Rattle.std.proofs.lemmas.List.{append-nil, append_assoc}
use Rattle.js_lexer.specs.Elements.{is_code_or_comment, script_may_end}
use Rattle.js_lexer.specs.States.{At as Lexeme, Code, Slash, LineComment, BlockComment, ScriptState}
use Rattle.js_lexer.specs.Trails.{is_empty}
use Rattle.js_lexer.specs.Written.{escaped_less, is_block, is_line, is_outside, is_taken_at, script_hides, script_written_at_cut, waiting_slash}
use Rattle.js_lexer.specs.declared.sense.Sense.{Sense}
use Rattle.js_step.specs.ScriptScans.{ScriptScan, script_at_in, script_one_sense, script_scan_start, script_shared}
use Rattle.place_core.specs.page.Contents.{pending_bytes}
use Rattle.place_core.specs.page.References.{Reference, Closed, as_it_stands}
use Rattle.place_core.specs.page.States.{Pending, Nothing, PendingLess, LessAtCut, PendingName, PendingBang, PendingBangDash, PendingOpening}
use Rattle.place_core.specs.page.Tags.{feed_bytes}
use Rattle.place_core.specs.declared.js.Js.{Js}
use Rattle.place_core.specs.declared.js.Js.TheVariants as js
use Rattle.place_core.specs.declared.place.Place.TheVariants as place
use Rattle.html_scan.specs.Scans.{Scan, At, InScriptElement, script_feeding, script_scan_may_end}
use Rattle.html_scan.specs.Slices.{pending}
use Rattle.text_norm.specs.InScripts.{back_of_scan, script_of_scan}
use Rattle.text_norm.specs.Kept.{IsProgressKept, IsScriptKept, bears, hides, held_in_line, is_in_script, is_script_comment, less_kept, reference_of, scan_of, script_waits}
use Rattle.text_norm.specs.Scanned.{scan_cut_out, scripts_writing}
use Rattle.text_norm.specs.Written.{script_bytes_out, script_cut_out, script_end_state, script_read_out}
use Rattle.text_norm.specs.declared.pending.WriteProgress.{WriteProgress}
use Rattle.text_norm.proofs.Slices.{IsParted, parted}

-- At a place nothing waits.
start-waits : (j : Js) → script_waits (script_shared (script_scan_start j)) ≡ []
start-waits (js.Code s x) = refl
start-waits js.Dq = refl
start-waits js.Sq = refl
start-waits (js.Regexp slash) = refl
start-waits (js.Line s) = refl
start-waits (js.Block s star) = refl

-- what is pending back, in its parts
kept-parts : (f : Scan) → is_in_script f ≡ true → less_kept f ≡ script_waits (script_shared (script_of_scan f)) ++ pending_bytes (back_of_scan f)
kept-parts (At (place.Script j)) e = sym (ap (λ (xs : List ℕ). xs ++ []) (start-waits j))
kept-parts (InScriptElement n h) e = (let s = script_shared n in sym (append_assoc (waiting_slash s) (held_in_line s) (pending_bytes h)))
kept-parts f e = cc

no-bears : (f : Scan) → is_in_script f ≡ true → bears f ≡ false
no-bears (At (place.Script j)) e = refl
no-bears (InScriptElement n h) e = refl
no-bears f e = cc

hides-is : (f : Scan) → is_in_script f ≡ true → hides f ≡ is_script_comment (script_shared (script_of_scan f))
hides-is (At (place.Script j)) e = refl
hides-is (InScriptElement n h) e = refl
hides-is f e = cc

all-parts : (free less waits bytes : List ℕ) (r : Reference) → r ≡ Closed → less ≡ waits ++ bytes → (free ++ waits) ++ bytes ≡ free ++ (as_it_stands r ++ less)
all-parts free less waits bytes r e k = append_assoc free waits bytes ∙ ap₂ (λ (xs ys : List ℕ). free ++ (xs ++ ys)) (ap as_it_stands (sym e)) (sym k)

-- Up to where it has read, and then what is pending.
pub script-parted : (text : List ℕ) (index : ℕ) (x : WriteProgress) (kept : IsProgressKept text index x) → index ≤ length text → is_in_script (scan_of text index x) ≡ true
    → (let f = scan_of text index x in let bytes = pending_bytes (back_of_scan f) in
    IsParted text x.done (index - length bytes) index (kept.free ++ script_waits (script_shared (script_of_scan f))) bytes)
script-parted text index x kept inside e =
    let f = scan_of text index x in
    let waits = script_waits (script_shared (script_of_scan f)) in
    let bytes = pending_bytes (back_of_scan f) in
    parted text x.done index (kept.free ++ waits) bytes kept.done inside
    (all-parts kept.free (less_kept f) waits bytes (reference_of text x) (kept.closed (no-bears f e)) (kept-parts f e) ∙ kept.parts)

pub script-is-kept : (text : List ℕ) (index : ℕ) (x : WriteProgress) (kept : IsProgressKept text index x) → index ≤ length text → is_in_script (scan_of text index x) ≡ true
    → (let f = scan_of text index x in IsScriptKept text (index - length (pending_bytes (back_of_scan f))) (script_shared (script_of_scan f)) x.done)
script-is-kept text index x kept inside e =
    let f = scan_of text index x in
    let p = script-parted text index x kept inside e in
    record {
      free = kept.free;
      parts = sym p.before;
      order = omega (arith, p.start);
      hidden = λ h. kept.hidden (hides-is f e ∙ h);
      cut = λ h. kept.cut (hides-is f e ∙ h);
    }

-- What is pending begins with a `<`.
pub first-pending : (h : Pending) → 0 < length (pending_bytes h) → (bs : List ℕ) × (pending_bytes h ≡ 60 ∷ bs)
first-pending Nothing l = absurd (omega (arith, l))
first-pending PendingLess l = ([], refl)
first-pending LessAtCut l = ([], refl)
first-pending (PendingName letters) l = (47 ∷ letters, refl)
first-pending PendingBang l = (33 ∷ [], refl)
first-pending PendingBangDash l = (33 ∷ 45 ∷ [], refl)
first-pending (PendingOpening letters) l = (letters, refl)

-- What is written where the text ends.
abbrev none : List ℕ
none = []

one-or-other : (x : Bool) → (if x then none else none) ≡ none
one-or-other true = refl
one-or-other false = refl

at-place : (n : ScriptScan) → script_written_at_cut (script_shared n) ≡ script_cut_out scripts_writing Nothing n
at-place n = ap (λ (xs : List ℕ). xs ++ script_written_at_cut (script_shared n)) (sym (one-or-other (script_scan_may_end n)))

pub cut-of-scan : (f : Scan) (r : Reference) → is_in_script f ≡ true → scan_cut_out f r ≡ script_cut_out scripts_writing (back_of_scan f) (script_of_scan f)
cut-of-scan (At (place.Script j)) r e = at-place (script_scan_start j)
cut-of-scan (InScriptElement n h) r e = refl
cut-of-scan f r e = cc

end-is-fed : (bytes : List ℕ) (n : ScriptScan) → script_end_state scripts_writing n bytes ≡ feed_bytes script_feeding n bytes
end-is-fed [] n = refl
end-is-fed (b ∷ bs) n = end-is-fed bs (script_feeding.feed n b)

read-in-code : (n : ScriptScan) (bytes : List ℕ) → script_scan_may_end n ≡ true → script_read_out scripts_writing n bytes ≡ script_bytes_out scripts_writing n bytes
read-in-code n bytes e = rw e refl

-- by what is written of what is pending, and behind it
pub cut-in-code : (n : ScriptScan) (h : Pending) (bytes : List ℕ) → pending_bytes h ≡ bytes → script_scan_may_end n ≡ true
    → script_cut_out scripts_writing h n ≡ script_read_out scripts_writing n bytes ++ script_written_at_cut (script_shared (feed_bytes script_feeding n bytes))
cut-in-code n h bytes k e =
    ap (λ (z : List ℕ). (if script_scan_may_end n then script_bytes_out scripts_writing n z else script_hides (script_shared n) z) ++ script_written_at_cut (script_shared (script_end_state scripts_writing n z))) k
    ∙ ap₂ (λ (xs : List ℕ) (m : ScriptScan). xs ++ script_written_at_cut (script_shared m))
    (ap (λ (c : Bool). if c then script_bytes_out scripts_writing n bytes else script_hides (script_shared n) bytes) e ∙ sym (read-in-code n bytes e)) (end-is-fed bytes n)

read-by : (x : Bool) → (if x && false then none else none) ≡ none
read-by true = refl
read-by false = refl

read-nothing : (n : ScriptScan) → script_read_out scripts_writing n [] ≡ []
read-nothing n = read-by (not (script_scan_may_end n))

pub cut-at-nothing : (n : ScriptScan) (h : Pending) (bytes : List ℕ) → pending_bytes h ≡ bytes → bytes ≡ []
    → script_cut_out scripts_writing h n ≡ script_read_out scripts_writing n bytes ++ script_written_at_cut (script_shared (feed_bytes script_feeding n bytes))
cut-at-nothing n h bytes k e =
    ap (λ (z : List ℕ). (if script_scan_may_end n then script_bytes_out scripts_writing n z else script_hides (script_shared n) z) ++ script_written_at_cut (script_shared (script_end_state scripts_writing n z))) (k ∙ e)
    ∙ ap (λ (xs : List ℕ). xs ++ script_written_at_cut (script_shared n)) (one-or-other (script_scan_may_end n) ∙ sym (read-nothing n))
    ∙ ap (λ (z : List ℕ). script_read_out scripts_writing n z ++ script_written_at_cut (script_shared (feed_bytes script_feeding n z))) (sym e)

pub cut-in-token : (n : ScriptScan) (h : Pending) (bytes : List ℕ) → pending_bytes h ≡ bytes → script_scan_may_end n ≡ false
    → script_cut_out scripts_writing h n ≡ script_hides (script_shared n) bytes ++ script_written_at_cut (script_shared (feed_bytes script_feeding n bytes))
cut-in-token n h bytes k e =
    ap (λ (z : List ℕ). (if script_scan_may_end n then script_bytes_out scripts_writing n z else script_hides (script_shared n) z) ++ script_written_at_cut (script_shared (script_end_state scripts_writing n z))) k
    ∙ ap₂ (λ (xs : List ℕ) (m : ScriptScan). xs ++ script_written_at_cut (script_shared m))
    (ap (λ (c : Bool). if c then script_bytes_out scripts_writing n bytes else script_hides (script_shared n) bytes) e) (end-is-fed bytes n)

-- Outside of comments a slash waits alone.
line-none : (x y : Bool) (held : List ℕ) → (x || y) ≡ false → (if x then held else []) ≡ []
line-none true y held e = absurd (true≢false e)
line-none false y held e = refl

pub before-slash : (text : List ℕ) (index : ℕ) (s : ScriptState) (done : ℕ) (kept : IsScriptKept text index s done) → index ≤ length text → is_script_comment s ≡ false
    → IsParted text done (index - length (waiting_slash s)) index kept.free (waiting_slash s)
before-slash text index s done kept inside e =
    parted text done index kept.free (waiting_slash s) kept.order inside
    (ap (λ (xs : List ℕ). kept.free ++ xs) (sym (append-nil (waiting_slash s)) ∙ ap (λ (xs : List ℕ). waiting_slash s ++ xs) (sym (line-none (is_outside is_line s) (is_outside is_block s) s.held e))) ∙ kept.parts)

pub all-kept : (text : List ℕ) (index : ℕ) (s : ScriptState) (done : ℕ) (kept : IsScriptKept text index s done) → is_script_comment s ≡ false → pending text done index ≡ kept.free ++ waiting_slash s
all-kept text index s done kept e =
    sym kept.parts
    ∙ ap (λ (xs : List ℕ). kept.free ++ (waiting_slash s ++ xs)) (line-none (is_outside is_line s) (is_outside is_block s) s.held e)
    ∙ ap (λ (xs : List ℕ). kept.free ++ xs) (append-nil (waiting_slash s))

pub unwritten : (text : List ℕ) (index w : ℕ) (s : ScriptState) (done : ℕ) (kept : IsScriptKept text index s done) → index ≤ length text → is_script_comment s ≡ false → w ≡ length (waiting_slash s)
    → pending text done (index - w) ≡ kept.free
unwritten text index w s done kept inside e k = ap (λ (n : ℕ). pending text done (index - n)) k ∙ (before-slash text index s done kept inside e).before

-- In a token no comment is.
token-state : (fs : List ℕ) (a : Lexeme) → (is_empty fs && is_code_or_comment a) ≡ false → ((is_empty fs && is_line a) || (is_empty fs && is_block a)) ≡ false
token-state [] (LineComment s) e = absurd (true≢false e)
token-state [] (BlockComment s star) e = absurd (true≢false e)
token-state [] (Slash s) e = refl
token-state [] a e = refl
token-state (n ∷ fs) a e = refl

pub token-is-no-comment : (s : ScriptState) → script_may_end s ≡ false → is_script_comment s ≡ false
token-is-no-comment s e = token-state s.literals s.at e

taken-in-sense : (r : Sense) (a : Lexeme) → is_taken_at (script_at_in r a) ≡ is_taken_at a
taken-in-sense r (Code s) = refl
taken-in-sense r (Slash s) = refl
taken-in-sense r (LineComment s) = refl
taken-in-sense r (BlockComment s star) = refl
taken-in-sense r a = refl

pub taken-shared : (n : ScriptScan) → is_taken_at (script_shared n).at ≡ is_taken_at n.state.at
taken-shared n = taken-in-sense (script_one_sense n.senses) n.state.at

-- What is written of a word that begins with a `<`: the bytes before it, an escape, and what stands behind it.
pub hidden-bytes : (old mid new out free run more bytes escape : List ℕ) (s : ScriptState) → mid ≡ old ++ run → run ≡ free ++ waiting_slash s → new ≡ mid ++ escape → escape ≡ escaped_less (is_taken_at s.at)
    → out ≡ new ++ more → bytes ≡ 60 ∷ more → out ≡ old ++ (free ++ script_hides s bytes)
hidden-bytes old mid new out free run more bytes escape s wrote runs escapes is ends word =
    let w = waiting_slash s in
    let x = escaped_less (is_taken_at s.at) in
    ends
    ∙ ap (λ (xs : List ℕ). xs ++ more) (escapes ∙ ap₂ (λ (xs ys : List ℕ). xs ++ ys) (wrote ∙ ap (λ (xs : List ℕ). old ++ xs) runs) is)
    ∙ append_assoc (old ++ (free ++ w)) x more
    ∙ append_assoc old (free ++ w) (x ++ more)
    ∙ ap (λ (xs : List ℕ). old ++ xs) (append_assoc free w (x ++ more))
    ∙ ap (λ (xs : List ℕ). old ++ (free ++ script_hides s xs)) (sym word)
