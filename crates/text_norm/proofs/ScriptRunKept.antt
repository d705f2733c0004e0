-- The bytes that a script reads at once are written one by one.
use Rattle.std.proofs.Common.{◌≡◌, ℕ, ◌+◌, ◌<◌, ◌≤◌, ◌&&◌, not, if◌then◌else◌, Bool, false, List, [], ◌∷◌, ◌++◌, length, get_or, sym, ap, ◌∙◌, subst, arith}
use Rattle.std.proofs.lemmas.List.{append-nil, append_assoc}
use Rattle.js_lexer.specs.Written.{is_hidden_in_script, script_written}
use Rattle.js_step.specs.ScriptScans.{ScriptScan, script_shared}
use Rattle.html_scan.proofs.PendingNames.{pending_begins, pending_nothing}
use Rattle.html_scan.specs.Scans.{script_fed_byte, script_feeding, script_scan_may_end}
use Rattle.html_scan.specs.Slices.{pending}
use Rattle.place_core.specs.page.Tags.{feed_bytes}
use Rattle.text_norm.specs.Kept.{IsScriptKept, ScriptReadsOn}
use Rattle.text_norm.specs.Scanned.{scripts_writing}
use Rattle.text_norm.specs.Written.{script_bytes_out, script_read_out}
use Rattle.text_norm.proofs.Slices.{pending_joins}

pub pending-head : (text : List ℕ) (at to : ℕ) → at < to → to ≤ length text → pending text at to ≡ get_or text at 0 ∷ pending text (at + 1) to
pending-head text at to h i =
    pending_joins text at (at + 1) to (omega arith) (omega (arith, h)) i
    ∙ ap (λ (xs : List ℕ). xs ++ pending text (at + 1) to) (pending_begins text at (omega (arith, h, i)))

abbrev pub OnRun : List ℕ → ℕ → ℕ → ScriptScan → ℕ → List ℕ → List ℕ → Type 0
OnRun text at to n written out total =
    (k : IsScriptKept text at (script_shared n) written) × (out ++ (k.free ++ script_bytes_out scripts_writing n (pending text at to)) ≡ total)

pub run-goes-on : (text out new total free : List ℕ) (at to later : ℕ) (n m : ScriptScan) → at < to → to ≤ length text → m ≡ script_fed_byte n (get_or text at 0)
    → ScriptReadsOn text (at + 1) (script_shared (script_fed_byte n (get_or text at 0))) later free (script_written (script_shared n) (get_or text at 0)) out new
    → out ++ (free ++ script_bytes_out scripts_writing n (pending text at to)) ≡ total → OnRun text (at + 1) to m later new total
run-goes-on text out new total free at to later n m h i e reads sofar =
    let b = get_or text at 0 in
    let u = script_fed_byte n b in
    let w = script_written (script_shared n) b in
    let more = script_bytes_out scripts_writing u (pending text (at + 1) to) in
    let there : OnRun text (at + 1) to u later new total = (
      reads.kept,
      sym (append_assoc new reads.kept.free more)
          ∙ ap (λ (xs : List ℕ). xs ++ more) reads.bytes
          ∙ append_assoc out (free ++ w) more
          ∙ ap (λ (xs : List ℕ). out ++ xs) (append_assoc free w more)
          ∙ ap (λ (bs : List ℕ). out ++ (free ++ script_bytes_out scripts_writing n bs)) (sym (pending-head text at to h i))
          ∙ sofar,
    ) in
    subst (λ (z : ScriptScan). OnRun text (at + 1) to z later new total) (sym e) there

pub run-feeds : (text : List ℕ) (at to : ℕ) (n m : ScriptScan) → at < to → to ≤ length text → m ≡ script_fed_byte n (get_or text at 0)
    → feed_bytes script_feeding m (pending text (at + 1) to) ≡ feed_bytes script_feeding n (pending text at to)
run-feeds text at to n m h i e =
    ap (λ (z : ScriptScan). feed_bytes script_feeding z (pending text (at + 1) to)) e ∙ ap (feed_bytes script_feeding n) (sym (pending-head text at to h i))

pub run-ends : (text old out free : List ℕ) (from at to written : ℕ) (n m : ScriptScan) → at ≡ to
    → feed_bytes script_feeding m (pending text at to) ≡ feed_bytes script_feeding n (pending text from to)
    → (not (script_scan_may_end n) && is_hidden_in_script (pending text from to)) ≡ false
    → OnRun text at to m written out (old ++ (free ++ script_bytes_out scripts_writing n (pending text from to)))
    → ScriptReadsOn text to (script_shared (feed_bytes script_feeding n (pending text from to))) written free (script_read_out scripts_writing n (pending text from to)) old out
run-ends text old out free from at to written n m here fed plain run =
    let bytes = pending text from to in
    let none : pending text at to ≡ [] = ap (λ (k : ℕ). pending text k to) here ∙ pending_nothing text to in
    let same : m ≡ feed_bytes script_feeding n bytes = ap (feed_bytes script_feeding m) (sym none) ∙ fed in
    let plainly : script_bytes_out scripts_writing n bytes ≡ script_read_out scripts_writing n bytes =
    ap (λ (x : Bool). if x then scripts_writing.hides n bytes else script_bytes_out scripts_writing n bytes) (sym plain) in
    let there : OnRun text to to m written out (old ++ (free ++ script_bytes_out scripts_writing n bytes)) =
    subst (λ (k : ℕ). OnRun text k to m written out (old ++ (free ++ script_bytes_out scripts_writing n bytes))) here run in
    let at-end : OnRun text to to (feed_bytes script_feeding n bytes) written out (old ++ (free ++ script_bytes_out scripts_writing n bytes)) =
    subst (λ (z : ScriptScan). OnRun text to to z written out (old ++ (free ++ script_bytes_out scripts_writing n bytes))) same there in
    record {
      kept = at-end.0;
      bytes = ap (λ (xs : List ℕ). out ++ xs) (sym (append-nil at-end.0.free))
          ∙ ap (λ (bs : List ℕ). out ++ (at-end.0.free ++ script_bytes_out scripts_writing (feed_bytes script_feeding n bytes) bs)) (sym (pending_nothing text to))
          ∙ at-end.1
          ∙ ap (λ (xs : List ℕ). old ++ (free ++ xs)) plainly;
    }
