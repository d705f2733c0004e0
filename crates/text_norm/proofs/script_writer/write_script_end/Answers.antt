use Rattle.std.proofs.Common.{◌≡◌, ◌⊎◌, inl, inr, ℕ, ◌+◌, ◌-◌, ◌<◌, ◌≤◌, Bool, true, false, List, [], ◌∷◌, ◌++◌, length, OnOk, Result, Ok, Err, refl, sym, ap, ap₂, ◌∙◌, subst, arith}
use Rattle.std.proofs.lemmas.List.{append_assoc}
use Rattle.std.specs.Str.{IsCharBoundary}
use Rattle.js_lexer.specs.States.{ScriptState}
use Rattle.js_lexer.specs.Written.{script_hides, script_written_at_cut}
use Rattle.js_step.specs.ScriptScans.{ScriptScan, script_shared}
use Rattle.js_step.specs.ScriptScanViews.{script_scan_at}
use Rattle.place_core.specs.page.Contents.{pending_bytes}
use Rattle.place_core.specs.page.States.{Pending}
use Rattle.place_core.specs.page.Tags.{feed_bytes}
use Rattle.html_scan.specs.Scans.{script_feeding, script_scan_may_end}
use Rattle.html_scan.specs.ScanViews.{pending_length, script_pending_at}
use Rattle.html_scan.specs.Slices.{pending}
use Rattle.html_scan.specs.declared.script_pending.ScriptPending.{ScriptPending}
use Rattle.text_norm.specs.InScripts.{back_of_scan, script_of_scan}
use Rattle.text_norm.specs.Kept.{IsProgressKept, IsScriptKept, ScriptReadsOn, is_in_script, is_script_comment, reference_of, scan_of, script_waits}
use Rattle.text_norm.specs.Scanned.{scan_cut_out, scripts_writing}
use Rattle.text_norm.specs.Written.{script_cut_out, script_read_out}
use Rattle.text_norm.specs.declared.pending.WriteProgress.{WriteProgress}
use Rattle.text_norm.proofs.ScriptProgress.{cut-at-nothing, cut-in-code, cut-in-token, cut-of-scan, first-pending}
use Rattle.text_norm.proofs.ScriptStepKept.{StepHere, element-kept, pending-at, step-here}
use Rattle.text_norm.proofs.Slices.{first_byte}
use Rattle.text_norm.proofs.script_writer.write_script_end.Goals as goal
use Rattle.text_norm.proofs.script_writer.write_script_end.Goals.{then-from-text+in_ok-done+in_ok-write_unwritten, else-from-text+in_ok-write_begun_word}

on_ok : {T E : Type 0} (result : Result T E) (P Q : Type 0) → (P → Q) → OnOk result P → OnOk result Q
on_ok (Ok x) P Q f h = f h
on_ok (Err e) P Q f h = h

-- Where the text ends: what has not been written of the script, and the bytes that are pending.
record EndHere (text : List ℕ) (from : ℕ) (x : WriteProgress) (n m : ScriptScan) (h : Pending) : Type 0 where
  pub here : StepHere text (length text) from x n h
  pub bytes : pending text from (length text) ≡ pending_bytes h
  pub fed : m ≡ feed_bytes script_feeding n (pending text from (length text))
  pub cut : scan_cut_out (scan_of text (length text) x) (reference_of text x) ≡ script_cut_out scripts_writing h n

end-here : (text read : List ℕ) (from w : ℕ) (x : WriteProgress) (n m : ScriptScan) (p : ScriptPending) (kept : IsProgressKept text (length text) x)
    → is_in_script (scan_of text (length text) x) ≡ true → n ≡ script_of_scan (scan_of text (length text) x)
    → script_pending_at text (length text) p ≡ back_of_scan (scan_of text (length text) x)
    → w ≡ pending_length p → from ≡ length text - w → pending_length p ≤ length text → read ≡ text
    → m ≡ feed_bytes script_feeding n (pending_bytes (script_pending_at read (length text) p))
    → EndHere text from x n m (script_pending_at text (length text) p)
end-here text read from w x n m p kept is script back k e fits same fed =
    let f = scan_of text (length text) x in
    let h = script_pending_at text (length text) p in
    let inside : length text ≤ length text = omega arith in
    let here = step-here text (length text) from x n p is script back (e ∙ ap (λ (i : ℕ). length text - i) k) fits inside in
    let bytes = (pending-at text (length text) from x n h here.script kept here.end inside).behind in
    record {
      here = here;
      bytes = bytes;
      fed = fed ∙ ap (λ (xs : List ℕ). feed_bytes script_feeding n (pending_bytes (script_pending_at xs (length text) p))) same ∙ ap (feed_bytes script_feeding n) (sym bytes);
      cut = cut-of-scan f (reference_of text x) is ∙ ap₂ (λ (g : Pending) (z : ScriptScan). script_cut_out scripts_writing g z) (sym back) (sym script);
    }

abbrev kept-here : (text : List ℕ) (from : ℕ) (x : WriteProgress) (n m : ScriptScan) (h : Pending) → EndHere text from x n m h → (kept : IsProgressKept text (length text) x)
    → IsScriptKept text from (script_shared n) x.done
kept-here text from x n m h e kept = element-kept text (length text) from x n h e.here.script kept e.here.end (omega arith)

-- The same, of a script that is this one.
abbrev kept-of : (text : List ℕ) (index : ℕ) (s t : ScriptState) (done : ℕ) → s ≡ t → (kept : IsScriptKept text index s done) → IsScriptKept text index t done
kept-of text index s t done e kept = record {
  free = kept.free;
  parts = subst (λ (z : ScriptState). kept.free ++ script_waits z ≡ pending text done index) e kept.parts;
  order = kept.order;
  hidden = subst (λ (z : ScriptState). is_script_comment z ≡ true → kept.free ≡ []) e kept.hidden;
  cut = subst (λ (z : ScriptState). is_script_comment z ≡ false → IsCharBoundary text done) e kept.cut;
}

abbrev kept-behind : (text : List ℕ) (from : ℕ) (x : WriteProgress) (n m : ScriptScan) (h : Pending) (e : EndHere text from x n m h) (done : ℕ) (free written old new : List ℕ)
    → ScriptReadsOn text (length text) (script_shared (feed_bytes script_feeding n (pending text from (length text)))) done free written old new
    → IsScriptKept text (length text) (script_shared m) done
kept-behind text from x n m h e done free written old new r =
    kept-of text (length text) (script_shared (feed_bytes script_feeding n (pending text from (length text)))) (script_shared m) done (ap script_shared (sym e.fed)) r.kept

-- The text before it ends in code, or with nothing pending, and in a token.
record EndWritten (old free mid all : List ℕ) (m : ScriptScan) : Type 0 where
  pub out : List ℕ
  pub before : mid ≡ old ++ (free ++ out)
  pub whole : all ≡ out ++ script_written_at_cut (script_shared m)

end-written : (old free mid new all : List ℕ) (m : ScriptScan) → EndWritten old free mid all m → new ≡ mid ++ script_written_at_cut (script_shared m) → new ≡ old ++ (free ++ all)
end-written old free mid new all m w ends =
    let cut = script_written_at_cut (script_shared m) in
    ends ∙ ap (λ (xs : List ℕ). xs ++ cut) w.before ∙ append_assoc old (free ++ w.out) cut
    ∙ ap (λ (xs : List ℕ). old ++ xs) (append_assoc free w.out cut ∙ ap (λ (xs : List ℕ). free ++ xs) (sym w.whole))

none-pending : (bs : List ℕ) (from to : ℕ) → from + length bs ≡ to → from ≡ to → bs ≡ []
none-pending [] from to e k = refl
none-pending (b ∷ bs) from to e k = absurd (omega (arith, e, k))

some-pending : (bs : List ℕ) (from to : ℕ) → from + length bs ≡ to → (from ≡ to → ⊥) → 0 < length bs
some-pending [] from to e not-at = absurd (not-at (omega (arith, e)))
some-pending (b ∷ bs) from to e not-at = omega arith

code-or : (x may : Bool) (from to : ℕ) → x ≡ may → (x ≡ true) ⊎ ((x ≡ false) × (from ≡ to)) → (may ≡ true) ⊎ (from ≡ to)
code-or x may from to same (inl h) = inl (sym same ∙ h)
code-or x may from to same (inr h) = inr h.1

code-cut : (text : List ℕ) (from : ℕ) (x : WriteProgress) (n m : ScriptScan) (h : Pending) → EndHere text from x n m h → (script_scan_may_end n ≡ true) ⊎ (from ≡ length text)
    → scan_cut_out (scan_of text (length text) x) (reference_of text x) ≡ script_read_out scripts_writing n (pending text from (length text)) ++ script_written_at_cut (script_shared m)
code-cut text from x n m h e which =
    let bytes = pending text from (length text) in
    e.cut ∙ by which ∙ ap (λ (z : ScriptScan). script_read_out scripts_writing n bytes ++ script_written_at_cut (script_shared z)) (sym e.fed)
  where
    by : (script_scan_may_end n ≡ true) ⊎ (from ≡ length text)
        → script_cut_out scripts_writing h n
        ≡ script_read_out scripts_writing n (pending text from (length text)) ++ script_written_at_cut (script_shared (feed_bytes script_feeding n (pending text from (length text))))
    by (inl may) = cut-in-code n h (pending text from (length text)) (sym e.bytes) may
    by (inr at) = cut-at-nothing n h (pending text from (length text)) (sym e.bytes) (e.bytes ∙ none-pending (pending_bytes h) from (length text) e.here.end at)

code-written : (text old mid out : List ℕ) (from done : ℕ) (x : WriteProgress) (n m : ScriptScan) (h : Pending) (kept : IsProgressKept text (length text) x) → EndHere text from x n m h
    → (script_scan_may_end n ≡ true) ⊎ (from ≡ length text)
    → (r : ScriptReadsOn text (length text) (script_shared (feed_bytes script_feeding n (pending text from (length text)))) done kept.free (script_read_out scripts_writing n (pending text from (length text))) old mid)
    → out ≡ mid ++ r.kept.free → EndWritten old kept.free out (scan_cut_out (scan_of text (length text) x) (reference_of text x)) m
code-written text old mid out from done x n m h kept e which r wrote = record {
  out = script_read_out scripts_writing n (pending text from (length text));
  before = wrote ∙ r.bytes;
  whole = code-cut text from x n m h e which;
}

token-written : (text old out : List ℕ) (from : ℕ) (x : WriteProgress) (n m : ScriptScan) (h : Pending) (kept : IsProgressKept text (length text) x) → EndHere text from x n m h
    → script_scan_may_end n ≡ false → out ≡ old ++ (kept.free ++ script_hides (script_shared n) (pending text from (length text)))
    → EndWritten old kept.free out (scan_cut_out (scan_of text (length text) x) (reference_of text x)) m
token-written text old out from x n m h kept e token wrote =
    let bytes = pending text from (length text) in
    record {
      out = script_hides (script_shared n) bytes;
      before = wrote;
      whole = e.cut ∙ cut-in-token n h bytes (sym e.bytes) token ∙ ap (λ (z : ScriptScan). script_hides (script_shared n) bytes ++ script_written_at_cut (script_shared z)) (sym e.fed);
    }

pub write_read-requires-clause-kept : goal.write_read-requires-clause-kept
write_read-requires-clause-kept c =
    let text = c.args.text.now in
    let from = length text - c.length_of.result in
    let x = c.args.progress in
    let n = script_scan_at c.script_of-back.result.0 in
    let m = script_scan_at c.behind_pending-end.result in
    let p = c.script_of-back.result.1 in
    let e = end-here text c.as_bytes.result.now from c.length_of.result x n m p c.requires.kept c.requires.script (c.script_of-back.ensures.script text (length text)) (c.script_of-back.ensures.back text (length text))
    c.length_of.ensures refl (omega (arith, c.script_of-back.ensures.reach, c.requires.kept.named)) c.as_bytes.ensures.value c.behind_pending-end.ensures.fed in
    kept-here text from x n m (script_pending_at text (length text) p) e c.requires.kept

pub write_unwritten-requires : goal.write_unwritten-requires
write_unwritten-requires c =
    let text = c.args.text.now in
    let from = length text - c.length_of.result in
    let x = c.args.progress in
    let n = script_scan_at c.script_of-back.result.0 in
    let m = script_scan_at c.behind_pending-end.result in
    let p = c.script_of-back.result.1 in
    let h = script_pending_at text (length text) p in
    let e = end-here text c.as_bytes.result.now from c.length_of.result x n m p c.requires.kept c.requires.script (c.script_of-back.ensures.script text (length text)) (c.script_of-back.ensures.back text (length text))
    c.length_of.ensures refl (omega (arith, c.script_of-back.ensures.reach, c.requires.kept.named)) c.as_bytes.ensures.value c.behind_pending-end.ensures.fed in
    record {
      kept = kept-behind text from x n m h e c.in_ok-done.done c.requires.kept.free (script_read_out scripts_writing n (pending text from (length text))) c.args.out.now c.write_read.new.out
          (c.in_ok-done.ensures (kept-here text from x n m h e c.requires.kept));
    }

pub write_begun_word-requires-clause-less : goal.write_begun_word-requires-clause-less
write_begun_word-requires-clause-less c =
    let text = c.args.text.now in
    let from = length text - c.length_of.result in
    let x = c.args.progress in
    let n = script_scan_at c.script_of-back.result.0 in
    let m = script_scan_at c.behind_pending-end.result in
    let p = c.script_of-back.result.1 in
    let h = script_pending_at text (length text) p in
    let e = end-here text c.as_bytes.result.now from c.length_of.result x n m p c.requires.kept c.requires.script (c.script_of-back.ensures.script text (length text)) (c.script_of-back.ensures.back text (length text))
    c.length_of.ensures refl (omega (arith, c.script_of-back.ensures.reach, c.requires.kept.named)) c.as_bytes.ensures.value c.behind_pending-end.ensures.fed in
    let more = some-pending (pending_bytes h) from (length text) e.here.end c.if-from-text.false.1 in
    let first = first-pending h more in
    first_byte text from (length text) 60 first.0 (omega (arith, more, e.here.end)) (e.bytes ∙ first.1)

pub write_begun_word-requires-clause-kept : goal.write_begun_word-requires-clause-kept
write_begun_word-requires-clause-kept c =
    let text = c.args.text.now in
    let from = length text - c.length_of.result in
    let x = c.args.progress in
    let n = script_scan_at c.script_of-back.result.0 in
    let m = script_scan_at c.behind_pending-end.result in
    let p = c.script_of-back.result.1 in
    let e = end-here text c.as_bytes.result.now from c.length_of.result x n m p c.requires.kept c.requires.script (c.script_of-back.ensures.script text (length text)) (c.script_of-back.ensures.back text (length text))
    c.length_of.ensures refl (omega (arith, c.script_of-back.ensures.reach, c.requires.kept.named)) c.as_bytes.ensures.value c.behind_pending-end.ensures.fed in
    kept-here text from x n m (script_pending_at text (length text) p) e c.requires.kept

pub returns : goal.returns
returns c kept =
    let text = c.args.text.now in
    let from = length text - c.length_of.result in
    let x = c.args.progress in
    let n = script_scan_at c.script_of-back.result.0 in
    let m = script_scan_at c.behind_pending-end.result in
    let p = c.script_of-back.result.1 in
    let h = script_pending_at text (length text) p in
    let e = end-here text c.as_bytes.result.now from c.length_of.result x n m p c.requires.kept c.requires.script (c.script_of-back.ensures.script text (length text)) (c.script_of-back.ensures.back text (length text))
    c.length_of.ensures refl (omega (arith, c.script_of-back.ensures.reach, c.requires.kept.named)) c.as_bytes.ensures.value c.behind_pending-end.ensures.fed in
    let all = scan_cut_out (scan_of text (length text) x) (reference_of text x) in
    let mid = c.if-from-text.out in
    let written : EndWritten c.args.out.now kept.free mid all m = elim c.if-from-text.branch [
      | then-from-text+in_ok-done+in_ok-write_unwritten w ↦
          let r = w.in_ok-done.ensures (kept-here text from x n m h e kept) in
          let behind = kept-behind text from x n m h e w.in_ok-done.done kept.free (script_read_out scripts_writing n (pending text from (length text))) c.args.out.now w.write_read.new.out r in
          code-written text c.args.out.now w.write_read.new.out mid from w.in_ok-done.done x n m h kept e (code-or c.may_end.result (script_scan_may_end n) from (length text) c.may_end.ensures w.if-from-text.either) r
          (w.out-is ∙ w.in_ok-write_unwritten.ensures behind)
      | else-from-text+in_ok-write_begun_word w ↦
          token-written text c.args.out.now mid from x n m h kept e (sym c.may_end.ensures ∙ w.if-from-text.false.0) (w.out-is ∙ w.in_ok-write_begun_word.ensures (kept-here text from x n m h e kept))
    ] in
    on_ok c.write_script_cut.result (c.write_script_cut.new.out ≡ mid ++ script_written_at_cut (script_shared m)) (c.write_script_cut.new.out ≡ c.args.out.now ++ (kept.free ++ all))
    (end-written c.args.out.now kept.free mid c.write_script_cut.new.out all m written) c.write_script_cut.ensures
