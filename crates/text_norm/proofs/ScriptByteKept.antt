-- A byte that a script reads, by what is written for it and where what is pending begins then.
use Rattle.std.proofs.Common.{◌≡◌, ℕ, ◌+◌, ◌-◌, ◌<◌, ◌≤◌, ◌&&◌, ◌||◌, nat_lt, not, if◌then◌else◌, Bool, true, false, codes, List, [], ◌∷◌, ◌++◌, ◌⊎◌, inl, inr, length, get_or, true≢false, refl, sym, ap, ◌∙◌, subst, arith}
use Rattle.std.proofs.lemmas.Bool.{cases_lt}
use Rattle.std.proofs.lemmas.List.{append-nil, append_assoc}
use Rattle.std.proofs.lemmas.Str.{IsCharBoundary-after_ascii, IsCharBoundary-before_ascii}
use Rattle.std.specs.Str.{IsCharBoundary, IsUtf8}
use Rattle.js_lexer.specs.Classes.{class_of}
use Rattle.js_lexer.specs.Feeding.{feed_class, feed_script}
use Rattle.js_lexer.specs.States.{At, Code, Word, Slash, LineComment, BlockComment, ScriptState, Trail}
use Rattle.js_lexer.specs.Trails.{is_empty}
use Rattle.js_lexer.specs.Written.{blank_of, is_block, is_line, is_outside, is_slash, script_written, waiting_slash}
use Rattle.js_lexer.specs.declared.class.ScriptClass.{ScriptClass}
use Rattle.js_lexer.specs.declared.class.ScriptClass.TheVariants as class
use Rattle.js_lexer.specs.declared.sense.Sense.{Sense}
use Rattle.js_step.specs.KeptWords.{kept_at}
use Rattle.js_step.specs.ScriptScans.{ScriptScan, script_at_in, script_one_sense, script_scan_next, script_shared}
use Rattle.html_scan.proofs.PendingNames.{pending_grows, pending_nothing}
use Rattle.html_scan.specs.Scans.{script_fed_byte}
use Rattle.html_scan.specs.Slices.{pending}
use Rattle.text_norm.specs.Kept.{IsScriptKept, ScriptReadsOn, held_in_line, is_script_comment, line_end_length_of, script_waits}
use Rattle.text_norm.proofs.ScriptByteReads.{EndsIt, GoesOn, InLine, IsLead, begins-comment, in-line, is_opener, no-slash, none-waiting, opener-low}
use Rattle.text_norm.proofs.ScriptByteWrites.{block-byte, block-waits, outside-byte}
use Rattle.text_norm.proofs.Slices.{first_byte, parted, read-pending}

abbrev never : {A : Type 0} → false ≡ true → A
never e = absurd (true≢false (sym e))

-- No sense matters, and no word.
abbrev state : List ℕ → At → List ℕ → Trail → ScriptState
state fs a held t = record { literals = fs; at = a; held = held; trail = t }

comment-in : (r : Sense) (fs held : List ℕ) (a : At) (t : Trail) → is_script_comment (state fs (script_at_in r (kept_at a)) held t) ≡ is_script_comment (state fs a held t)
comment-in r fs held a t = by a
  where
    by : (a : At) → is_script_comment (state fs (script_at_in r (kept_at a)) held t) ≡ is_script_comment (state fs a held t)
    by (Code s) = refl
    by (Word w) = refl
    by (Slash s) = refl
    by (LineComment s) = refl
    by (BlockComment s star) = refl
    by a = refl

waits-in : (r : Sense) (fs held : List ℕ) (a : At) (t : Trail) → script_waits (state fs (script_at_in r (kept_at a)) held t) ≡ script_waits (state fs a held t)
waits-in r fs held a t = by a
  where
    by : (a : At) → script_waits (state fs (script_at_in r (kept_at a)) held t) ≡ script_waits (state fs a held t)
    by (Code s) = refl
    by (Word w) = refl
    by (Slash s) = refl
    by (LineComment s) = refl
    by (BlockComment s star) = refl
    by a = refl

pub shared-comment : (n : ScriptScan) (b : ℕ) → is_script_comment (script_shared (script_fed_byte n b)) ≡ is_script_comment (feed_script (script_shared n) b)
shared-comment n b =
    let w = feed_script (script_shared n) b in
    comment-in (script_one_sense (script_scan_next n b).senses) w.literals w.held w.at w.trail

pub shared-waits : (n : ScriptScan) (b : ℕ) → script_waits (script_shared (script_fed_byte n b)) ≡ script_waits (feed_script (script_shared n) b)
shared-waits n b =
    let w = feed_script (script_shared n) b in
    waits-in (script_one_sense (script_scan_next n b).senses) w.literals w.held w.at w.trail

pub comment-waits : (w : ScriptState) → is_script_comment w ≡ true → waiting_slash w ≡ []
comment-waits w h = none-waiting w (no-slash w.literals w.at h)

either : (x y : Bool) → (x || y) ≡ true → y ≡ false → x ≡ true
either true y e f = refl
either false y e f = absurd (true≢false (sym e ∙ f))

either-none : (x y : Bool) → (x || y) ≡ false → (x ≡ false) × (y ≡ false)
either-none true y e = never (sym e)
either-none false y e = (refl, e)

-- A byte of a block comment.
abbrev BlockNext : ScriptState → ScriptClass → ℕ → Type 0
BlockNext w c b = (is_outside is_block w ≡ true) ⊎ ((is_opener c ≡ true) × ((is_script_comment w ≡ false) × (script_waits w ≡ [])))

block-class : (s : Sense) (star : Bool) (held : List ℕ) (t : Trail) (c : ScriptClass) (b : ℕ) → BlockNext (feed_class (state [] (BlockComment s star) held t) c b) c b
block-class s true held t class.Solidus b = inr (refl, (refl, refl))
block-class s true held t class.Asterisk b = inl refl
block-class s true held t c b = inl refl
block-class s false held t class.Asterisk b = inl refl
block-class s false held t c b = inl refl

block-at : (fs held : List ℕ) (a : At) (t : Trail) (b : ℕ) → (is_empty fs && is_block a) ≡ true → BlockNext (feed_script (state fs a held t) b) (class_of b) b
block-at [] held (BlockComment s star) t b e = block-class s star held t (class_of b) b
block-at [] held a t b e = never e
block-at (n ∷ fs) held a t b e = never e

block-next : (v : ScriptState) (b : ℕ) → is_outside is_block v ≡ true → BlockNext (feed_script v b) (class_of b) b
block-next v b e = block-at v.literals v.held v.at v.trail b e

-- Within a comment.
abbrev Within : ScriptState → ℕ → Type 0
Within v b = (script_written v b ≡ []) × ((d : List ℕ) × (d ++ script_waits (feed_script v b) ≡ script_waits v ++ b ∷ []))

within-line : (v : ScriptState) (b : ℕ) → is_script_comment (feed_script v b) ≡ true → InLine v b → Within v b
within-line v b h (GoesOn c out d whole) = (out, (d, whole))
within-line v b h (EndsIt c d whole len lead none) = absurd (true≢false (sym h ∙ c))

within-block : (v : ScriptState) (b : ℕ) → is_outside is_block v ≡ true → is_script_comment (feed_script v b) ≡ true → BlockNext (feed_script v b) (class_of b) b → Within v b
within-block v b e h (inl k) = (
  block-byte v b e ∙ ap (λ (x : Bool). if x then [] else blank_of v.trail.lines) k,
  (script_waits v ++ b ∷ [], ap (λ (xs : List ℕ). (script_waits v ++ b ∷ []) ++ xs) (block-waits (feed_script v b) k) ∙ append-nil (script_waits v ++ b ∷ [])),
)
within-block v b e h (inr k) = absurd (true≢false (sym h ∙ k.1.0))

within : (x : Bool) (v : ScriptState) (b : ℕ) → is_outside is_block v ≡ x → is_script_comment v ≡ true → is_script_comment (feed_script v b) ≡ true → Within v b
within true v b e c h = within-block v b e h (block-next v b e)
within false v b e c h = within-line v b h (in-line v b (either (is_outside is_line v) (is_outside is_block v) c e))

-- what was pending in the comment, and the byte
comment-pending : (text : List ℕ) (index done b : ℕ) (v : ScriptState) → index < length text → (kept : IsScriptKept text index v done) → is_script_comment v ≡ true
    → script_waits v ++ get_or text index 0 ∷ [] ≡ pending text done (index + 1)
comment-pending text index done b v inside kept c =
    ap (λ (xs : List ℕ). (xs ++ script_waits v) ++ get_or text index 0 ∷ []) (sym (kept.hidden c))
    ∙ ap (λ (xs : List ℕ). xs ++ get_or text index 0 ∷ []) kept.parts
    ∙ sym (pending_grows text done index kept.order inside)

abbrev Reads : List ℕ → ℕ → ScriptScan → ℕ → ℕ → List ℕ → List ℕ → List ℕ → Type 0
Reads text index n b later free old new = ScriptReadsOn text (index + 1) (script_shared (script_fed_byte n b)) later free (script_written (script_shared n) b) old new

-- where what waits begins then
waits-from : (text : List ℕ) (index done : ℕ) (v : ScriptState) (d ws : List ℕ) → index < length text → (kept : IsScriptKept text index v done) → is_script_comment v ≡ true
    → d ++ ws ≡ script_waits v ++ get_or text index 0 ∷ [] → (pending text (index + 1 - length ws) (index + 1) ≡ ws) × (length ws ≤ index + 1)
waits-from text index done v d ws inside kept c e =
    let p = parted text done (index + 1) d ws (omega (arith, kept.order)) (omega (arith, inside)) (e ∙ comment-pending text index done 0 v inside kept c) in
    (p.behind, omega (arith, p.end))

held-length : (w : ScriptState) → is_script_comment w ≡ true → length (held_in_line w) ≡ length (script_waits w)
held-length w h = ap (λ (xs : List ℕ). length (xs ++ held_in_line w)) (sym (comment-waits w h))

pub stays-in-comment : (text old : List ℕ) (index done later : ℕ) (n : ScriptScan) → index < length text → (kept : IsScriptKept text index (script_shared n) done)
    → is_script_comment (script_shared n) ≡ true → is_script_comment (script_shared (script_fed_byte n (get_or text index 0))) ≡ true
    → (later ≡ index + 1 - length (held_in_line (script_shared (script_fed_byte n (get_or text index 0)))) → Reads text index n (get_or text index 0) later kept.free old old)
    × (length (held_in_line (script_shared (script_fed_byte n (get_or text index 0)))) ≤ index + 1)
stays-in-comment text old index done later n inside kept c h =
    let b = get_or text index 0 in
    let v = script_shared n in
    let u = script_shared (script_fed_byte n b) in
    let x = within (is_outside is_block v) v b refl c (sym (shared-comment n b) ∙ h) in
    let from = waits-from text index done v x.1.0 (script_waits u) inside kept c (ap (λ (ws : List ℕ). x.1.0 ++ ws) (shared-waits n b) ∙ x.1.1) in (
      λ e. record {
        kept = record {
          free = [];
          parts = sym from.0 ∙ ap (λ (at : ℕ). pending text at (index + 1)) (sym (e ∙ ap (λ (k : ℕ). index + 1 - k) (held-length u h)));
          order = omega (arith, e);
          hidden = λ k. refl;
          cut = λ k. absurd (true≢false (sym h ∙ k));
        };
        bytes = ap (λ (xs : List ℕ). old ++ (xs ++ [])) (sym (kept.hidden c)) ∙ ap (λ (xs : List ℕ). old ++ (kept.free ++ xs)) (sym x.0);
      },
      omega (arith, from.1, held-length u h),
    )

-- A block comment ends.
block-in-sense : (r : Sense) (a : At) → is_block (script_at_in r a) ≡ is_block a
block-in-sense r (Code s) = refl
block-in-sense r (Slash s) = refl
block-in-sense r (LineComment s) = refl
block-in-sense r (BlockComment s star) = refl
block-in-sense r a = refl

pub block-shared : (n : ScriptScan) → is_block (script_shared n).at ≡ is_block n.state.at
block-shared n = block-in-sense (script_one_sense n.senses) n.state.at

pub block-ends : (text old new : List ℕ) (index done : ℕ) (n : ScriptScan) → index < length text → IsUtf8 text → (kept : IsScriptKept text index (script_shared n) done)
    → is_script_comment (script_shared n) ≡ true → is_block (script_shared n).at ≡ true → is_script_comment (script_shared (script_fed_byte n (get_or text index 0))) ≡ false
    → new ≡ old ++ blank_of n.state.trail.lines → Reads text index n (get_or text index 0) (index + 1) kept.free old new
block-ends text old new index done n inside utf8 kept c k h wrote =
    let b = get_or text index 0 in
    let v = script_shared n in
    let e = outside-block v c k in
    let out = sym (shared-comment n b) ∙ h in
    let x = ended (feed_script v b) out (block-next v b e) in
    record {
      kept = record {
        free = [];
        parts = shared-waits n b ∙ x.1 ∙ sym (pending_nothing text (index + 1));
        order = omega arith;
        hidden = λ k. refl;
        cut = λ k. IsCharBoundary-after_ascii text index utf8 inside (opener-low b x.0 (cases_lt b 128));
      };
      bytes = append-nil new ∙ wrote
          ∙ ap (λ (xs : List ℕ). old ++ xs) (sym (block-byte v b e ∙ ap (λ (y : Bool). if y then [] else blank_of v.trail.lines) (either-none (is_outside is_line (feed_script v b)) (is_outside is_block (feed_script v b)) out).1))
          ∙ ap (λ (xs : List ℕ). old ++ (xs ++ script_written v b)) (sym (kept.hidden c));
    }
  where
    outside-block : (v : ScriptState) → is_script_comment v ≡ true → is_block v.at ≡ true → is_outside is_block v ≡ true
    outside-block v c k = by v.literals v.at c k
      where
        by : (fs : List ℕ) (a : At) → ((is_empty fs && is_line a) || (is_empty fs && is_block a)) ≡ true → is_block a ≡ true → (is_empty fs && is_block a) ≡ true
        by [] a c k = k
        by (m ∷ fs) a c k = never c

    ended : (w : ScriptState) → is_script_comment w ≡ false → BlockNext w (class_of (get_or text index 0)) (get_or text index 0) → (is_opener (class_of (get_or text index 0)) ≡ true) × (script_waits w ≡ [])
    ended w e (inl k) = absurd (true≢false (sym (block-comment (is_outside is_line w) (is_outside is_block w) k) ∙ e))
      where
        block-comment : (x y : Bool) → y ≡ true → (x || y) ≡ true
        block-comment true y e = refl
        block-comment false y e = e
    ended w e (inr k) = (k.0, k.1.1)

-- A line comment ends.
at-least-one : (b : ℕ) → 1 ≤ line_end_length_of b
at-least-one b = by (nat_lt b 128)
  where
    by : (x : Bool) → 1 ≤ (if x then 1 else 3)
    by true = omega arith
    by false = omega arith

pub line-ends : (text old : List ℕ) (index done later : ℕ) (n : ScriptScan) → index < length text → (kept : IsScriptKept text index (script_shared n) done)
    → is_script_comment (script_shared n) ≡ true → is_block (script_shared n).at ≡ false → is_script_comment (script_shared (script_fed_byte n (get_or text index 0))) ≡ false
    → (later ≡ index + 1 - line_end_length_of (get_or text index 0) → Reads text index n (get_or text index 0) later kept.free old old) × (line_end_length_of (get_or text index 0) ≤ index + 1)
line-ends text old index done later n inside kept c k h =
    let b = get_or text index 0 in
    let v = script_shared n in
    by-line (in-line v b (either (is_outside is_line v) (is_outside is_block v) c (no-block v.literals v.at k)))
  where
    no-block : (fs : List ℕ) (a : At) → is_block a ≡ false → (is_empty fs && is_block a) ≡ false
    no-block [] a k = k
    no-block (m ∷ fs) a k = refl

    by-line : InLine (script_shared n) (get_or text index 0)
        → (later ≡ index + 1 - line_end_length_of (get_or text index 0) → Reads text index n (get_or text index 0) later kept.free old old) × (line_end_length_of (get_or text index 0) ≤ index + 1)
    by-line (GoesOn more out d whole) = absurd (true≢false (sym more ∙ sym (shared-comment n (get_or text index 0)) ∙ h))
    by-line (EndsIt out d whole len lead none) =
        let b = get_or text index 0 in
        let v = script_shared n in
        let ws = script_written v b in
        let from = waits-from text index done v d ws inside kept c whole in (
          λ e.
              let at = e ∙ ap (λ (m : ℕ). index + 1 - m) (sym len) in
              let one = at-least-one b in
              let there : pending text later (index + 1) ≡ ws = ap (λ (m : ℕ). pending text m (index + 1)) at ∙ from.0 in
              let first : get_or text later 0 ≡ get_or ws 0 0 = first-of text later index ws there (omega (arith, e, one)) in
              record {
                kept = record {
                  free = ws;
                  parts = ap (λ (xs : List ℕ). ws ++ xs) (shared-waits n b ∙ none) ∙ append-nil ws ∙ sym there;
                  order = omega (arith, e);
                  hidden = λ q. absurd (true≢false (sym q ∙ h));
                  cut = λ q. lead-cut text later (omega (arith, e, inside, one)) (subst IsLead (sym first) lead);
                };
                bytes = ap (λ (xs : List ℕ). old ++ (xs ++ ws)) (sym (kept.hidden c));
              },
          omega (arith, from.1, len),
        )
      where
        first-of : (text : List ℕ) (at index : ℕ) (ws : List ℕ) → pending text at (index + 1) ≡ ws → at < index + 1 → get_or text at 0 ≡ get_or ws 0 0
        first-of text at index ws e h =
            let here : at + 0 ≡ at = omega arith in
            ap (λ (i : ℕ). get_or text i 0) (sym here) ∙ sym (read-pending text at (index + 1) 0 (omega (arith, h))) ∙ ap (λ (xs : List ℕ). get_or xs 0 0) e

        lead-cut : (text : List ℕ) (at : ℕ) → at < length text → IsLead (get_or text at 0) → IsCharBoundary text at
        lead-cut text at inside lead = (omega (arith, inside), λ _ a. lead a)

-- A comment begins.
pub record BeginsAt (text : List ℕ) (index done : ℕ) (n : ScriptScan) (free : List ℕ) : Type 0 where
  pub order : done ≤ index - length (waiting_slash (script_shared n))
  pub slash : length (waiting_slash (script_shared n)) ≤ index
  pub before : pending text done (index - length (waiting_slash (script_shared n))) ≡ free
  pub cut : IsCharBoundary text (index - length (waiting_slash (script_shared n)))

slash-cut : (x : Bool) (text : List ℕ) (index : ℕ) → index < length text → get_or text index 0 < 128 → length (if x then codes "/" else []) ≤ index
    → pending text (index - length (if x then codes "/" else [])) index ≡ (if x then codes "/" else []) → IsCharBoundary text (index - length (if x then codes "/" else []))
slash-cut true text index inside low fits p = IsCharBoundary-before_ascii text (index - 1) (omega (arith, inside)) (omega (arith, first_byte text (index - 1) index 47 [] (omega (arith, fits)) p))
slash-cut false text index inside low fits p =
    let here : index ≡ index - 0 = omega arith in
    subst (IsCharBoundary text) here (IsCharBoundary-before_ascii text index inside low)

pub no-line-waits : (v : ScriptState) → is_script_comment v ≡ false → script_waits v ≡ waiting_slash v
no-line-waits v c =
    ap (λ (x : Bool). waiting_slash v ++ (if x then v.held else [])) (either-none (is_outside is_line v) (is_outside is_block v) c).0 ∙ append-nil (waiting_slash v)

pub begins-at : (text : List ℕ) (index done : ℕ) (n : ScriptScan) → index < length text → (kept : IsScriptKept text index (script_shared n) done)
    → is_script_comment (script_shared n) ≡ false → is_script_comment (script_shared (script_fed_byte n (get_or text index 0))) ≡ true → BeginsAt text index done n kept.free
begins-at text index done n inside kept c h =
    let b = get_or text index 0 in
    let v = script_shared n in
    let x = begins-comment v b c (sym (shared-comment n b) ∙ h) in
    let p = parted text done index kept.free (waiting_slash v) kept.order (omega (arith, inside)) (ap (λ (ws : List ℕ). kept.free ++ ws) (sym (no-line-waits v c)) ∙ kept.parts) in
    record {
      order = omega (arith, p.start);
      slash = omega (arith, p.end);
      before = p.before;
      cut = slash-cut (is_outside is_slash v && (is_empty v.held && not v.trail.fresh)) text index inside x.low (omega (arith, p.end)) p.behind;
    }

pub comment-begins : (text old new : List ℕ) (index done : ℕ) (n : ScriptScan) → index < length text → (kept : IsScriptKept text index (script_shared n) done)
    → is_script_comment (script_shared n) ≡ false → is_script_comment (script_shared (script_fed_byte n (get_or text index 0))) ≡ true
    → new ≡ old ++ kept.free → Reads text index n (get_or text index 0) (index + 1) kept.free old new
comment-begins text old new index done n inside kept c h wrote =
    let b = get_or text index 0 in
    let v = script_shared n in
    let x = begins-comment v b c (sym (shared-comment n b) ∙ h) in
    record {
      kept = record {
        free = [];
        parts = shared-waits n b ∙ x.waits ∙ sym (pending_nothing text (index + 1));
        order = omega arith;
        hidden = λ k. refl;
        cut = λ k. absurd (true≢false (sym h ∙ k));
      };
      bytes = append-nil new ∙ wrote ∙ ap (λ (xs : List ℕ). old ++ xs) (sym (append-nil kept.free)) ∙ ap (λ (xs : List ℕ). old ++ (kept.free ++ xs)) (sym x.written);
    }

-- Outside of comments.
pub stays-outside : (text old : List ℕ) (index done : ℕ) (n : ScriptScan) → index < length text → (kept : IsScriptKept text index (script_shared n) done)
    → is_script_comment (script_shared n) ≡ false → is_script_comment (script_shared (script_fed_byte n (get_or text index 0))) ≡ false
    → Reads text index n (get_or text index 0) done kept.free old old
stays-outside text old index done n inside kept c h =
    let b = get_or text index 0 in
    let v = script_shared n in
    let w = feed_script v b in
    let p = either-none (is_outside is_line v) (is_outside is_block v) c in
    let q = either-none (is_outside is_line w) (is_outside is_block w) (sym (shared-comment n b) ∙ h) in
    record {
      kept = record {
        free = kept.free ++ script_written v b;
        parts = ap (λ (ws : List ℕ). (kept.free ++ script_written v b) ++ ws) (shared-waits n b)
            ∙ append_assoc kept.free (script_written v b) (script_waits w)
            ∙ ap (λ (ws : List ℕ). kept.free ++ ws) (outside-byte v b p.1 p.0 q.1 q.0)
            ∙ sym (append_assoc kept.free (script_waits v) (b ∷ []))
            ∙ ap (λ (xs : List ℕ). xs ++ b ∷ []) kept.parts
            ∙ sym (pending_grows text done index kept.order inside);
        order = omega (arith, kept.order);
        hidden = λ k. absurd (true≢false (sym k ∙ h));
        cut = λ k. kept.cut c;
      };
      bytes = refl;
    }
