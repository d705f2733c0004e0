-- How many bytes are pending back in the element `script`.
use Rattle.std.proofs.Common.{◌≡◌, ℕ, ◌+◌, ◌-◌, ◌≤◌, List, ◌++◌, length, refl, arith}
use Rattle.std.proofs.lemmas.List.{length-append}
use Rattle.js_lexer.specs.States.{ScriptState}
use Rattle.js_lexer.specs.Written.{waiting_slash}
use Rattle.place_core.specs.page.Contents.{pending_bytes}
use Rattle.html_scan.specs.ScanViews.{pending_length, script_pending_at}
use Rattle.html_scan.specs.declared.script_pending.ScriptPending.{ScriptPending}
use Rattle.html_scan.specs.declared.script_pending.ScriptPending.TheVariants as back
use Rattle.text_norm.specs.Kept.{held_in_line, script_kept}
use Rattle.text_norm.proofs.Slices.{length-pending}

pub back-length : (text : List ℕ) (k : ℕ) (p : ScriptPending) → pending_length p ≤ k → k ≤ length text → length (pending_bytes (script_pending_at text k p)) ≡ pending_length p
back-length text k back.Nothing h i = refl
back-length text k back.Less h i = refl
back-length text k (back.Name letters) h i = omega (arith, h, length-pending text (k - letters) k i)
back-length text k back.Bang h i = refl
back-length text k back.BangDash h i = refl
back-length text k (back.Opening letters) h i = omega (arith, h, length-pending text (k - letters) k i)

-- and of the script itself
pub kept_length : (text : List ℕ) (k : ℕ) (s : ScriptState) (p : ScriptPending) → pending_length p ≤ k → k ≤ length text
    → k - pending_length p - (length (waiting_slash s) + length (held_in_line s)) ≡ k - length (script_kept s (script_pending_at text k p))
kept_length text k s p h i =
    let bytes = pending_bytes (script_pending_at text k p) in
    omega (arith, back-length text k p h i, length-append (waiting_slash s) (held_in_line s ++ bytes), length-append (held_in_line s) bytes)
