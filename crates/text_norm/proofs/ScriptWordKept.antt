-- A word of a token is written, and the script stands behind it with nothing that waits; and what is written before the end tag of a script.
use Rattle.std.proofs.Common.{◌≡◌, ℕ, ◌+◌, ◌-◌, ◌<◌, ◌≤◌, ◌==◌, ◌&&◌, ◌||◌, nat_lt, if◌then◌else◌, Bool, true, false, bytes_eq, codes, List, [], ◌∷◌, ◌++◌, ◌⊎◌, inl, inr, length, get_or, true≢false, eqb-true, refl, sym, ap, ap₂, ◌∙◌, subst, arith}
use Rattle.std.proofs.lemmas.Bool.{cases_lt}
use Rattle.std.proofs.lemmas.Bool.Decides.{nat_tests}
use Rattle.std.proofs.lemmas.List.{append-nil, append_assoc}
use Rattle.std.proofs.lemmas.Slice.Eq.{bytes_eq-Decides}
use Rattle.std.proofs.lemmas.Str.{IsCharBoundary-after_ascii, IsCharBoundary-before_ascii}
use Rattle.std.proofs.lemmas.Str.Ascii.{lowercase_is}
use Rattle.std.specs.Char.{to_ascii_lowercase}
use Rattle.std.specs.Str.{IsCharBoundary, IsUtf8}
use Rattle.js_lexer.proofs.InnerWords.{hidden-word}
use Rattle.js_lexer.specs.Elements.{in_lower_case}
use Rattle.js_lexer.specs.Feeding.{feed_script, held_at, tells_white_apart}
use Rattle.js_lexer.specs.States.{At, Code, Slash, LineComment, BlockComment}
use Rattle.js_lexer.specs.Trails.{is_empty}
use Rattle.js_lexer.specs.WhiteSpace.{held_after}
use Rattle.js_lexer.specs.Written.{blank_of, escaped_less, is_block, is_hidden_in_script, is_line, is_outside, is_taken_at, script_hides, script_written_at_cut, waiting_slash}
use Rattle.js_lexer.specs.declared.sense.Sense.{Sense}
use Rattle.js_step.specs.ScriptScans.{ScriptScan, script_at_in, script_one_sense, script_shared}
use Rattle.html_scan.proofs.PendingNames.{pending_grows, pending_nothing}
use Rattle.html_scan.specs.Scans.{script_fed_byte, script_feeding, script_scan_may_end}
use Rattle.html_scan.specs.Slices.{pending}
use Rattle.place_core.specs.page.Tags.{feed_bytes}
use Rattle.text_norm.specs.Kept.{IsScriptKept, ScriptEnds, ScriptReadsOn, is_script_comment, script_waits}
use Rattle.text_norm.proofs.ScriptByteKept.{comment-waits, no-line-waits, shared-waits}
use Rattle.text_norm.proofs.ScriptByteReads.{last-append, last_or, line-none-held}
use Rattle.text_norm.proofs.ScriptByteWrites.{none-waits, solidus-by}
use Rattle.text_norm.proofs.ScriptElementWords.{token-no-comment}
use Rattle.text_norm.proofs.Slices.{behind_first, first_byte, length-pending}

-- The last byte of a word is a letter or a `-`.
abbrev pub Calm : ℕ → Type 0
Calm x = (x < 128) × ((x == 47) ≡ false)

last-lower : (d : ℕ) (bs : List ℕ) → last_or (to_ascii_lowercase d) (in_lower_case bs) ≡ to_ascii_lowercase (last_or d bs)
last-lower d [] = refl
last-lower d (b ∷ bs) = last-lower b bs

calm-low : (x k : ℕ) → to_ascii_lowercase x ≡ k → k < 128 → (x < 128) ⊎ (128 ≤ x) → x < 128
calm-low x k e h (inl l) = l
calm-low x k e h (inr l) = omega (arith, h, sym ((lowercase_is x).2 (omega (arith, l))) ∙ e)

not-slash : (y : Bool) (x k : ℕ) → (x == 47) ≡ y → to_ascii_lowercase x ≡ k → (47 ≡ k → ⊥) → (x == 47) ≡ false
not-slash true x k q e h = absurd (h (ap to_ascii_lowercase (sym (eqb-true x 47 q)) ∙ e))
not-slash false x k q e h = q

calm : (x k : ℕ) → to_ascii_lowercase x ≡ k → k < 128 → (47 ≡ k → ⊥) → Calm x
calm x k e h n = (calm-low x k e h (cases_lt x 128), not-slash (x == 47) x k refl e n)

or-cases : (x y : Bool) → (x || y) ≡ true → (x ≡ true) ⊎ (y ≡ true)
or-cases true y e = inl refl
or-cases false y e = inr e

lower-last : (b : ℕ) (bs word : List ℕ) → bytes_eq (in_lower_case (b ∷ bs)) word ≡ true → to_ascii_lowercase (last_or b bs) ≡ last_or 0 word
lower-last b bs word e = sym (last-lower b bs) ∙ ap (last_or 0) ((bytes_eq-Decides (in_lower_case (b ∷ bs)) word).0 e)

no-t : ◌≡◌ {A = ℕ} 47 116 → ⊥
no-t e = cc

no-dash : ◌≡◌ {A = ℕ} 47 45 → ⊥
no-dash e = cc

calm-last : (b : ℕ) (bs : List ℕ) → is_hidden_in_script (b ∷ bs) ≡ true → Calm (last_or b bs)
calm-last b bs e = elim (or-cases (bytes_eq (in_lower_case (b ∷ bs)) (codes "<script")) _ e) [
  | inl f ↦ calm (last_or b bs) 116 (lower-last b bs (codes "<script") f) (omega arith) no-t
  | inr f ↦ elim (or-cases (bytes_eq (in_lower_case (b ∷ bs)) (codes "</script")) _ f) [
    | inl g ↦ calm (last_or b bs) 116 (lower-last b bs (codes "</script") g) (omega arith) no-t
    | inr g ↦ elim (or-cases (bytes_eq (in_lower_case (b ∷ bs)) (codes "<!--")) _ g) [
      | inl h ↦ calm (last_or b bs) 45 (lower-last b bs (codes "<!--") h) (omega arith) no-dash
      | inr h ↦ absurd (true≢false (sym h))
    ]
  ]
]

-- behind such a byte nothing waits
low-is : (b : ℕ) → b < 128 → nat_lt b 128 ≡ true
low-is b h = grind (h, arith, nat_tests)

held-low : (tells : Bool) (held : List ℕ) (b : ℕ) → b < 128 → held_at tells held b ≡ []
unfolding held_after
held-low true held b h = rw (low-is b h) refl
held-low false held b h = refl

calm-waits : (n : ScriptScan) (x : ℕ) → Calm x → script_waits (script_shared (script_fed_byte n x)) ≡ []
calm-waits n x c =
    let v = script_shared n in
    let w = feed_script v x in
    shared-waits n x
    ∙ ap₂ (λ (y z : List ℕ). y ++ z) (none-waits v x (solidus-by x c.1 (inl c.0))) (line-none-held (is_outside is_line w) w.held (held-low (tells_white_apart v.at) v.held x c.0))

fed-calm : (bs : List ℕ) (b : ℕ) (n : ScriptScan) → Calm (last_or b bs) → script_waits (script_shared (feed_bytes script_feeding n (b ∷ bs))) ≡ []
fed-calm [] b n c = calm-waits n b c
fed-calm (y ∷ ys) b n c = fed-calm ys y (script_fed_byte n b) c

taken-in-sense : (r : Sense) (a : At) → is_taken_at (script_at_in r a) ≡ is_taken_at a
taken-in-sense r (Code s) = refl
taken-in-sense r (Slash s) = refl
taken-in-sense r (LineComment s) = refl
taken-in-sense r (BlockComment s star) = refl
taken-in-sense r a = refl

-- where a word stands
pub record WordAt (text : List ℕ) (from to : ℕ) (n : ScriptScan) : Type 0 where
  pub rest : List ℕ
  pub is : pending text from to ≡ 60 ∷ rest
  pub order : from < to
  pub cut : IsCharBoundary text from
  pub behind : IsCharBoundary text (from + 1)
  pub end : IsCharBoundary text to
  pub letters : pending text (from + 1) to ≡ rest
  pub waits : script_waits (script_shared (feed_bytes script_feeding n (pending text from to))) ≡ []

last-of-pending : (text : List ℕ) (from to : ℕ) → from < to → to ≤ length text → get_or text (to - 1) 0 ≡ last_or 0 (pending text from to)
last-of-pending text from to h i =
    let one : to - 1 + 1 ≡ to = omega (arith, h) in
    sym (last-append 0 (pending text from (to - 1)) (get_or text (to - 1) 0))
    ∙ ap (last_or 0) (sym (pending_grows text from (to - 1) (omega (arith, h)) (omega (arith, h, i))) ∙ ap (pending text from) one)

pub word-at : (text : List ℕ) (from to : ℕ) (n : ScriptScan) → IsUtf8 text → from ≤ to → to ≤ length text → is_hidden_in_script (pending text from to) ≡ true → WordAt text from to n
word-at text from to n utf8 order inside hidden =
    let w = hidden-word (pending text from to) hidden in
    let c = calm-last 60 w.rest (ap is_hidden_in_script (sym w.is) ∙ hidden) in
    let more : from < to = omega (arith, sym (length-pending text from to inside) ∙ ap length w.is) in
    let first = first_byte text from to 60 w.rest more w.is in
    let last : get_or text (to - 1) 0 ≡ last_or 60 w.rest = last-of-pending text from to more inside ∙ ap (last_or 0) w.is in
    let one : to - 1 + 1 ≡ to = omega (arith, more) in
    record {
      rest = w.rest;
      is = w.is;
      order = more;
      cut = IsCharBoundary-before_ascii text from (omega (arith, more, inside)) (omega (arith, first));
      behind = IsCharBoundary-after_ascii text from utf8 (omega (arith, more, inside)) (omega (arith, first));
      end = subst (IsCharBoundary text) one (IsCharBoundary-after_ascii text (to - 1) utf8 (omega (arith, more, inside)) (omega (arith, last, c.0)));
      letters = behind_first text from to 60 w.rest w.is;
      waits = ap (λ (bs : List ℕ). script_waits (script_shared (feed_bytes script_feeding n bs))) w.is ∙ fed-calm w.rest 60 n c;
    }

pub word-written : (text old first escaped new : List ℕ) (from to done : ℕ) (n : ScriptScan) → WordAt text from to n → (kept : IsScriptKept text from (script_shared n) done) → script_scan_may_end n ≡ false
    → first ≡ old ++ pending text done from → escaped ≡ first ++ escaped_less (is_taken_at n.state.at) → new ≡ escaped ++ pending text (from + 1) to
    → ScriptReadsOn text to (script_shared (feed_bytes script_feeding n (pending text from to))) to kept.free (script_hides (script_shared n) (pending text from to)) old new
word-written text old first escaped new from to done n w kept m p q r =
    let v = script_shared n in
    let less = escaped_less (is_taken_at n.state.at) in
    let before : pending text done from ≡ kept.free ++ waiting_slash v = sym kept.parts ∙ ap (λ (ws : List ℕ). kept.free ++ ws) (no-line-waits v (token-no-comment v m)) in
    record {
      kept = record {
        free = [];
        parts = w.waits ∙ sym (pending_nothing text to);
        order = omega arith;
        hidden = λ k. refl;
        cut = λ k. w.end;
      };
      bytes = append-nil new ∙ r
          ∙ ap₂ (λ (x y : List ℕ). x ++ y) (q ∙ ap (λ (xs : List ℕ). xs ++ less) (p ∙ ap (λ (xs : List ℕ). old ++ xs) before)) w.letters
          ∙ append_assoc (old ++ (kept.free ++ waiting_slash v)) less w.rest
          ∙ append_assoc old (kept.free ++ waiting_slash v) (less ++ w.rest)
          ∙ ap (λ (xs : List ℕ). old ++ xs) (append_assoc kept.free (waiting_slash v) (less ++ w.rest))
          ∙ ap (λ (taken : Bool). old ++ (kept.free ++ (waiting_slash v ++ (escaped_less taken ++ w.rest)))) (sym (taken-in-sense (script_one_sense n.senses) n.state.at))
          ∙ ap (λ (bs : List ℕ). old ++ (kept.free ++ script_hides v bs)) (sym w.is);
    }

-- Before the end tag, in a line comment.
no-block : (fs : List ℕ) (a : At) → is_block a ≡ false → (is_empty fs && is_block a) ≡ false
no-block [] a k = k
no-block (m ∷ fs) a k = refl

pub line-before-end : (text old : List ℕ) (from done : ℕ) (n : ScriptScan) → from < length text → get_or text from 0 ≡ 60 → (kept : IsScriptKept text from (script_shared n) done)
    → is_script_comment (script_shared n) ≡ true → is_block (script_shared n).at ≡ false → ScriptEnds text from from kept.free (script_written_at_cut (script_shared n)) old old
line-before-end text old from done n inside less kept c k =
    let v = script_shared n in
    record {
      order = omega arith;
      bytes = ap (λ (xs : List ℕ). old ++ xs) (pending_nothing text from
          ∙ sym (ap (λ (x : Bool). if x then blank_of v.trail.lines else waiting_slash v) (no-block v.literals v.at k) ∙ comment-waits v c)
          ∙ ap (λ (xs : List ℕ). xs ++ script_written_at_cut v) (sym (kept.hidden c)));
      cut = IsCharBoundary-before_ascii text from inside (omega (arith, less));
    }
