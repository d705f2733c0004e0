use Rattle.std.proofs.Common.{◌≡◌, ℕ, ◌+◌, ◌≤◌, List, get_or, length, None, IfSome, refl, sym, ap, ◌∙◌, subst, arith}
use Rattle.std.specs.Str.{IsCharBoundary}
use Rattle.place_core.specs.page.Classes.{Class, class_of}
use Rattle.place_core.specs.page.References.{begin_reference}
use Rattle.html_scan.specs.ClassViews.{class_at}
use Rattle.html_scan.specs.ScanViews.{scan_at}
use Rattle.text_norm.specs.Kept.{Continues, IsReadTo, change_of, scan_of, reference_kept, reference_of, stays}
use Rattle.text_norm.specs.declared.pending.Change.TheVariants as change
use Rattle.text_norm.specs.declared.pending.WriteProgress.{WriteProgress}
use Rattle.text_norm.proofs.ChangedSteps.{ends_at_less, ends_in_style, ends_style, escapes, leaves, leaves_pending, less_at, opens, opens_style, solidus_at}
use Rattle.text_norm.proofs.Kept.{reaches}
use Rattle.text_norm.proofs.ScriptChanges.{in-script, script-change-is}
use Rattle.text_norm.proofs.Steps.{byte_at, scan_is, keeps, law_here}
use Rattle.text_norm.proofs.text_writer.write_byte.Goals as goal

pub push_less-requires-clause-order : goal.push_less-requires-clause-order
push_less-requires-clause-order c =
    let class : class_at c.class_of-class.result ≡ class_of (byte_at c.args.text.now c.args.index) = c.class_of-class.ensures ∙ ap (λ (bytes : List ℕ). class_of (get_or bytes c.args.index 0)) c.as_bytes-bytes.ensures.value in
    let scan = scan_is c.as_bytes-bytes.result.now c.args.text.now c.args.index c.args.progress.scan c.next-scan.result c.class_of-class.result c.as_bytes-bytes.ensures.value class c.next-scan.ensures.scan in
    let is : change.EscapesLess ≡ change_of (scan_of c.args.text.now c.args.index c.args.progress) (scan_at c.args.text.now (c.args.index + 1) c.next-scan.result) = sym c.in-EscapesLess.is ∙ c.change_of.ensures c.args.text.now c.args.index (c.args.index + 1) in
    let y : WriteProgress = record { scan = c.next-scan.result; reference = None; done = 0 } in
    let here = law_here change.EscapesLess c.args.text.now c.args.index c.args.progress y c.requires.kept scan is in
    let inside : c.args.index ≤ length c.args.text.now = omega (arith, c.requires.inside) in
    let l = less_at c.args.text.now c.args.index c.args.progress here.more c.requires.kept inside here.less in
    let at = c.less_from-less.ensures c.args.text.now inside in
    omega (arith, l.order, at)

pub push_less-requires-clause-from : goal.push_less-requires-clause-from
push_less-requires-clause-from c =
    let class : class_at c.class_of-class.result ≡ class_of (byte_at c.args.text.now c.args.index) = c.class_of-class.ensures ∙ ap (λ (bytes : List ℕ). class_of (get_or bytes c.args.index 0)) c.as_bytes-bytes.ensures.value in
    let scan = scan_is c.as_bytes-bytes.result.now c.args.text.now c.args.index c.args.progress.scan c.next-scan.result c.class_of-class.result c.as_bytes-bytes.ensures.value class c.next-scan.ensures.scan in
    let is : change.EscapesLess ≡ change_of (scan_of c.args.text.now c.args.index c.args.progress) (scan_at c.args.text.now (c.args.index + 1) c.next-scan.result) = sym c.in-EscapesLess.is ∙ c.change_of.ensures c.args.text.now c.args.index (c.args.index + 1) in
    let y : WriteProgress = record { scan = c.next-scan.result; reference = None; done = 0 } in
    let here = law_here change.EscapesLess c.args.text.now c.args.index c.args.progress y c.requires.kept scan is in
    c.requires.kept.cut here.before

pub push_less-requires-clause-to : goal.push_less-requires-clause-to
push_less-requires-clause-to c =
    let class : class_at c.class_of-class.result ≡ class_of (byte_at c.args.text.now c.args.index) = c.class_of-class.ensures ∙ ap (λ (bytes : List ℕ). class_of (get_or bytes c.args.index 0)) c.as_bytes-bytes.ensures.value in
    let scan = scan_is c.as_bytes-bytes.result.now c.args.text.now c.args.index c.args.progress.scan c.next-scan.result c.class_of-class.result c.as_bytes-bytes.ensures.value class c.next-scan.ensures.scan in
    let is : change.EscapesLess ≡ change_of (scan_of c.args.text.now c.args.index c.args.progress) (scan_at c.args.text.now (c.args.index + 1) c.next-scan.result) = sym c.in-EscapesLess.is ∙ c.change_of.ensures c.args.text.now c.args.index (c.args.index + 1) in
    let y : WriteProgress = record { scan = c.next-scan.result; reference = None; done = 0 } in
    let here = law_here change.EscapesLess c.args.text.now c.args.index c.args.progress y c.requires.kept scan is in
    let inside : c.args.index ≤ length c.args.text.now = omega (arith, c.requires.inside) in
    subst (IsCharBoundary c.args.text.now) (sym (c.less_from-less.ensures c.args.text.now inside)) (ends_at_less c.args.text.now c.args.index c.args.progress here.more c.requires.kept inside here.less here.before).cut

pub write_free-requires-clause-ends : goal.write_free-requires-clause-ends
write_free-requires-clause-ends c =
    let class : class_at c.class_of-class.result ≡ class_of (byte_at c.args.text.now c.args.index) = c.class_of-class.ensures ∙ ap (λ (bytes : List ℕ). class_of (get_or bytes c.args.index 0)) c.as_bytes-bytes.ensures.value in
    let scan = scan_is c.as_bytes-bytes.result.now c.args.text.now c.args.index c.args.progress.scan c.next-scan.result c.class_of-class.result c.as_bytes-bytes.ensures.value class c.next-scan.ensures.scan in
    let is : change.OpensComment ≡ change_of (scan_of c.args.text.now c.args.index c.args.progress) (scan_at c.args.text.now (c.args.index + 1) c.next-scan.result) = sym c.in-OpensComment.is ∙ c.change_of.ensures c.args.text.now c.args.index (c.args.index + 1) in
    let y : WriteProgress = record { scan = c.next-scan.result; reference = None; done = 0 } in
    let here = law_here change.OpensComment c.args.text.now c.args.index c.args.progress y c.requires.kept scan is in
    let inside : c.args.index ≤ length c.args.text.now = omega (arith, c.requires.inside) in
    ends_at_less c.args.text.now c.args.index c.args.progress here.more c.requires.kept inside here.less here.before

pub returns-in-Keeps : goal.returns-in-Keeps
returns-in-Keeps c kept =
    let class : class_at c.class_of-class.result ≡ class_of (byte_at c.args.text.now c.args.index) = c.class_of-class.ensures ∙ ap (λ (bytes : List ℕ). class_of (get_or bytes c.args.index 0)) c.as_bytes-bytes.ensures.value in
    let scan = scan_is c.as_bytes-bytes.result.now c.args.text.now c.args.index c.args.progress.scan c.next-scan.result c.class_of-class.result c.as_bytes-bytes.ensures.value class c.next-scan.ensures.scan in
    let is : change.Keeps ≡ change_of (scan_of c.args.text.now c.args.index c.args.progress) (scan_at c.args.text.now (c.args.index + 1) c.next-scan.result) = sym c.in-Keeps.is ∙ c.change_of.ensures c.args.text.now c.args.index (c.args.index + 1) in
    let y : WriteProgress = record { scan = c.next-scan.result; reference = c.reference_after.result; done = c.args.progress.done } in
    let inside : c.args.index ≤ length c.args.text.now = omega (arith, c.requires.inside) in
    let stay = stays (scan_of c.args.text.now c.args.index c.args.progress) (scan_at c.args.text.now (c.args.index + 1) c.next-scan.result) in
    let reference = c.reference_after.ensures.reference c.args.text.now c.args.index (c.args.index + 1) c.requires.inside (λ h. reaches c.args.text.now c.args.index c.args.progress kept inside h) ∙ ap (λ (class : Class). reference_kept stay (scan_of c.args.text.now c.args.index c.args.progress) class (byte_at c.args.text.now c.args.index) (reference_of c.args.text.now c.args.progress)) class in
    let so = subst (λ (class : Class). Continues stay class c.args.index c.args.progress.reference c.reference_after.result) class (c.reference_after.ensures.so c.args.text.now c.args.index (c.args.index + 1)) in
    keeps c.args.text.now c.args.index c.args.progress y c.args.out.now kept c.requires.inside scan is reference so c.next-scan.ensures.pending refl

pub returns-in_ok-push_less-in-EscapesLess : goal.returns-in_ok-push_less-in-EscapesLess
returns-in_ok-push_less-in-EscapesLess c kept =
    let class : class_at c.class_of-class.result ≡ class_of (byte_at c.args.text.now c.args.index) = c.class_of-class.ensures ∙ ap (λ (bytes : List ℕ). class_of (get_or bytes c.args.index 0)) c.as_bytes-bytes.ensures.value in
    let scan = scan_is c.as_bytes-bytes.result.now c.args.text.now c.args.index c.args.progress.scan c.next-scan.result c.class_of-class.result c.as_bytes-bytes.ensures.value class c.next-scan.ensures.scan in
    let is : change.EscapesLess ≡ change_of (scan_of c.args.text.now c.args.index c.args.progress) (scan_at c.args.text.now (c.args.index + 1) c.next-scan.result) = sym c.in-EscapesLess.is ∙ c.change_of.ensures c.args.text.now c.args.index (c.args.index + 1) in
    let y : WriteProgress = record { scan = c.next-scan.result; reference = c.begun.result; done = c.less_from-less.result + 1 } in
    let inside : c.args.index ≤ length c.args.text.now = omega (arith, c.requires.inside) in
    let reference : reference_of c.args.text.now y ≡ begin_reference (class_of (byte_at c.args.text.now c.args.index)) = c.begun.ensures.reference c.args.text.now ∙ ap begin_reference class in
    let so = subst (λ (class : Class). IfSome c.begun.result (IsReadTo class c.args.index None)) class (c.begun.ensures.so None) in
    escapes c.args.text.now c.args.index c.less_from-less.result c.args.progress y c.args.out.now c.push_less.new.out kept c.requires.inside c.utf8.text scan is reference so c.next-scan.ensures.pending (c.less_from-less.ensures c.args.text.now inside) refl c.in_ok-push_less-in-EscapesLess.ensures

pub returns-in_ok-write_free-in-OpensComment : goal.returns-in_ok-write_free-in-OpensComment
returns-in_ok-write_free-in-OpensComment c kept =
    let class : class_at c.class_of-class.result ≡ class_of (byte_at c.args.text.now c.args.index) = c.class_of-class.ensures ∙ ap (λ (bytes : List ℕ). class_of (get_or bytes c.args.index 0)) c.as_bytes-bytes.ensures.value in
    let scan = scan_is c.as_bytes-bytes.result.now c.args.text.now c.args.index c.args.progress.scan c.next-scan.result c.class_of-class.result c.as_bytes-bytes.ensures.value class c.next-scan.ensures.scan in
    let is : change.OpensComment ≡ change_of (scan_of c.args.text.now c.args.index c.args.progress) (scan_at c.args.text.now (c.args.index + 1) c.next-scan.result) = sym c.in-OpensComment.is ∙ c.change_of.ensures c.args.text.now c.args.index (c.args.index + 1) in
    let y : WriteProgress = record { scan = c.next-scan.result; reference = None; done = c.args.index + 1 } in
    opens c.args.text.now c.args.index c.args.progress y c.args.out.now c.write_free.new.out kept c.requires.inside scan is refl c.next-scan.ensures.pending refl (c.in_ok-write_free-in-OpensComment.ensures kept)

pub returns-in-LeavesOut : goal.returns-in-LeavesOut
returns-in-LeavesOut c kept =
    let class : class_at c.class_of-class.result ≡ class_of (byte_at c.args.text.now c.args.index) = c.class_of-class.ensures ∙ ap (λ (bytes : List ℕ). class_of (get_or bytes c.args.index 0)) c.as_bytes-bytes.ensures.value in
    let scan = scan_is c.as_bytes-bytes.result.now c.args.text.now c.args.index c.args.progress.scan c.next-scan.result c.class_of-class.result c.as_bytes-bytes.ensures.value class c.next-scan.ensures.scan in
    let is : change.LeavesOut ≡ change_of (scan_of c.args.text.now c.args.index c.args.progress) (scan_at c.args.text.now (c.args.index + 1) c.next-scan.result) = sym c.in-LeavesOut.is ∙ c.change_of.ensures c.args.text.now c.args.index (c.args.index + 1) in
    let y : WriteProgress = record { scan = c.next-scan.result; reference = None; done = c.args.index + 1 } in
    leaves c.args.text.now c.args.index c.args.progress y c.args.out.now kept c.requires.inside c.utf8.text scan is refl c.next-scan.ensures.pending refl

pub overflow_sub-index : goal.overflow_sub-index
overflow_sub-index c =
    let class : class_at c.class_of-class.result ≡ class_of (byte_at c.args.text.now c.args.index) = c.class_of-class.ensures ∙ ap (λ (bytes : List ℕ). class_of (get_or bytes c.args.index 0)) c.as_bytes-bytes.ensures.value in
    let scan = scan_is c.as_bytes-bytes.result.now c.args.text.now c.args.index c.args.progress.scan c.next-scan.result c.class_of-class.result c.as_bytes-bytes.ensures.value class c.next-scan.ensures.scan in
    let is : change.OpensStyleComment ≡ change_of (scan_of c.args.text.now c.args.index c.args.progress) (scan_at c.args.text.now (c.args.index + 1) c.next-scan.result) = sym c.in-OpensStyleComment.is ∙ c.change_of.ensures c.args.text.now c.args.index (c.args.index + 1) in
    let y : WriteProgress = record { scan = c.next-scan.result; reference = None; done = 0 } in
    let here = law_here change.OpensStyleComment c.args.text.now c.args.index c.args.progress y c.requires.kept scan is in
    let inside : c.args.index ≤ length c.args.text.now = omega (arith, c.requires.inside) in
    let s = solidus_at c.args.text.now c.args.index c.args.progress here.more c.requires.kept inside here.less here.none in
    omega (arith, s.end)

pub push_run-requires-clause-order : goal.push_run-requires-clause-order
push_run-requires-clause-order c =
    let class : class_at c.class_of-class.result ≡ class_of (byte_at c.args.text.now c.args.index) = c.class_of-class.ensures ∙ ap (λ (bytes : List ℕ). class_of (get_or bytes c.args.index 0)) c.as_bytes-bytes.ensures.value in
    let scan = scan_is c.as_bytes-bytes.result.now c.args.text.now c.args.index c.args.progress.scan c.next-scan.result c.class_of-class.result c.as_bytes-bytes.ensures.value class c.next-scan.ensures.scan in
    let is : change.OpensStyleComment ≡ change_of (scan_of c.args.text.now c.args.index c.args.progress) (scan_at c.args.text.now (c.args.index + 1) c.next-scan.result) = sym c.in-OpensStyleComment.is ∙ c.change_of.ensures c.args.text.now c.args.index (c.args.index + 1) in
    let y : WriteProgress = record { scan = c.next-scan.result; reference = None; done = 0 } in
    let here = law_here change.OpensStyleComment c.args.text.now c.args.index c.args.progress y c.requires.kept scan is in
    let inside : c.args.index ≤ length c.args.text.now = omega (arith, c.requires.inside) in
    let s = solidus_at c.args.text.now c.args.index c.args.progress here.more c.requires.kept inside here.less here.none in
    s.order

pub push_run-requires-clause-from : goal.push_run-requires-clause-from
push_run-requires-clause-from c =
    let class : class_at c.class_of-class.result ≡ class_of (byte_at c.args.text.now c.args.index) = c.class_of-class.ensures ∙ ap (λ (bytes : List ℕ). class_of (get_or bytes c.args.index 0)) c.as_bytes-bytes.ensures.value in
    let scan = scan_is c.as_bytes-bytes.result.now c.args.text.now c.args.index c.args.progress.scan c.next-scan.result c.class_of-class.result c.as_bytes-bytes.ensures.value class c.next-scan.ensures.scan in
    let is : change.OpensStyleComment ≡ change_of (scan_of c.args.text.now c.args.index c.args.progress) (scan_at c.args.text.now (c.args.index + 1) c.next-scan.result) = sym c.in-OpensStyleComment.is ∙ c.change_of.ensures c.args.text.now c.args.index (c.args.index + 1) in
    let y : WriteProgress = record { scan = c.next-scan.result; reference = None; done = 0 } in
    let here = law_here change.OpensStyleComment c.args.text.now c.args.index c.args.progress y c.requires.kept scan is in
    c.requires.kept.cut here.before

pub push_run-requires-clause-to : goal.push_run-requires-clause-to
push_run-requires-clause-to c =
    let class : class_at c.class_of-class.result ≡ class_of (byte_at c.args.text.now c.args.index) = c.class_of-class.ensures ∙ ap (λ (bytes : List ℕ). class_of (get_or bytes c.args.index 0)) c.as_bytes-bytes.ensures.value in
    let scan = scan_is c.as_bytes-bytes.result.now c.args.text.now c.args.index c.args.progress.scan c.next-scan.result c.class_of-class.result c.as_bytes-bytes.ensures.value class c.next-scan.ensures.scan in
    let is : change.OpensStyleComment ≡ change_of (scan_of c.args.text.now c.args.index c.args.progress) (scan_at c.args.text.now (c.args.index + 1) c.next-scan.result) = sym c.in-OpensStyleComment.is ∙ c.change_of.ensures c.args.text.now c.args.index (c.args.index + 1) in
    let y : WriteProgress = record { scan = c.next-scan.result; reference = None; done = 0 } in
    let here = law_here change.OpensStyleComment c.args.text.now c.args.index c.args.progress y c.requires.kept scan is in
    let inside : c.args.index ≤ length c.args.text.now = omega (arith, c.requires.inside) in
    let s = solidus_at c.args.text.now c.args.index c.args.progress here.more c.requires.kept inside here.less here.none in
    s.cut

pub returns-in_ok-push_run-in-OpensStyleComment : goal.returns-in_ok-push_run-in-OpensStyleComment
returns-in_ok-push_run-in-OpensStyleComment c kept =
    let class : class_at c.class_of-class.result ≡ class_of (byte_at c.args.text.now c.args.index) = c.class_of-class.ensures ∙ ap (λ (bytes : List ℕ). class_of (get_or bytes c.args.index 0)) c.as_bytes-bytes.ensures.value in
    let scan = scan_is c.as_bytes-bytes.result.now c.args.text.now c.args.index c.args.progress.scan c.next-scan.result c.class_of-class.result c.as_bytes-bytes.ensures.value class c.next-scan.ensures.scan in
    let is : change.OpensStyleComment ≡ change_of (scan_of c.args.text.now c.args.index c.args.progress) (scan_at c.args.text.now (c.args.index + 1) c.next-scan.result) = sym c.in-OpensStyleComment.is ∙ c.change_of.ensures c.args.text.now c.args.index (c.args.index + 1) in
    let y : WriteProgress = record { scan = c.next-scan.result; reference = None; done = c.args.index + 1 } in
    opens_style c.args.text.now c.args.index c.args.progress y c.args.out.now c.push_run.new.out kept c.requires.inside scan is refl c.next-scan.ensures.pending refl c.in_ok-push_run-in-OpensStyleComment.ensures

pub returns-in_ok-push_str-in-EndsStyleComment : goal.returns-in_ok-push_str-in-EndsStyleComment
returns-in_ok-push_str-in-EndsStyleComment c kept =
    let class : class_at c.class_of-class.result ≡ class_of (byte_at c.args.text.now c.args.index) = c.class_of-class.ensures ∙ ap (λ (bytes : List ℕ). class_of (get_or bytes c.args.index 0)) c.as_bytes-bytes.ensures.value in
    let scan = scan_is c.as_bytes-bytes.result.now c.args.text.now c.args.index c.args.progress.scan c.next-scan.result c.class_of-class.result c.as_bytes-bytes.ensures.value class c.next-scan.ensures.scan in
    let is : change.EndsStyleComment ≡ change_of (scan_of c.args.text.now c.args.index c.args.progress) (scan_at c.args.text.now (c.args.index + 1) c.next-scan.result) = sym c.in-EndsStyleComment.is ∙ c.change_of.ensures c.args.text.now c.args.index (c.args.index + 1) in
    let y : WriteProgress = record { scan = c.next-scan.result; reference = None; done = c.args.index + 1 } in
    ends_style c.args.text.now c.args.index c.args.progress y c.args.out.now c.push_str.new.self kept c.requires.inside c.utf8.text scan is refl c.next-scan.ensures.pending refl c.in_ok-push_str-in-EndsStyleComment.ensures.ok

pub returns-in-LeavesPending : goal.returns-in-LeavesPending
returns-in-LeavesPending c kept =
    let class : class_at c.class_of-class.result ≡ class_of (byte_at c.args.text.now c.args.index) = c.class_of-class.ensures ∙ ap (λ (bytes : List ℕ). class_of (get_or bytes c.args.index 0)) c.as_bytes-bytes.ensures.value in
    let scan = scan_is c.as_bytes-bytes.result.now c.args.text.now c.args.index c.args.progress.scan c.next-scan.result c.class_of-class.result c.as_bytes-bytes.ensures.value class c.next-scan.ensures.scan in
    let is : change.LeavesPending ≡ change_of (scan_of c.args.text.now c.args.index c.args.progress) (scan_at c.args.text.now (c.args.index + 1) c.next-scan.result) = sym c.in-LeavesPending.is ∙ c.change_of.ensures c.args.text.now c.args.index (c.args.index + 1) in
    let y : WriteProgress = record { scan = c.next-scan.result; reference = None; done = c.args.index } in
    leaves_pending c.args.text.now c.args.index c.args.progress y c.args.out.now kept c.requires.inside scan is refl c.next-scan.ensures.pending refl

pub returns-in_ok-push_str-in-EndsInStyleComment : goal.returns-in_ok-push_str-in-EndsInStyleComment
returns-in_ok-push_str-in-EndsInStyleComment c kept =
    let class : class_at c.class_of-class.result ≡ class_of (byte_at c.args.text.now c.args.index) = c.class_of-class.ensures ∙ ap (λ (bytes : List ℕ). class_of (get_or bytes c.args.index 0)) c.as_bytes-bytes.ensures.value in
    let scan = scan_is c.as_bytes-bytes.result.now c.args.text.now c.args.index c.args.progress.scan c.next-scan.result c.class_of-class.result c.as_bytes-bytes.ensures.value class c.next-scan.ensures.scan in
    let is : change.EndsInStyleComment ≡ change_of (scan_of c.args.text.now c.args.index c.args.progress) (scan_at c.args.text.now (c.args.index + 1) c.next-scan.result) = sym c.in-EndsInStyleComment.is ∙ c.change_of.ensures c.args.text.now c.args.index (c.args.index + 1) in
    let y : WriteProgress = record { scan = c.next-scan.result; reference = None; done = c.args.progress.done } in
    ends_in_style c.args.text.now c.args.index c.args.progress y c.args.out.now c.push_str-in-EndsInStyleComment.new.self kept c.requires.inside scan is refl c.next-scan.ensures.pending refl c.in_ok-push_str-in-EndsInStyleComment.ensures.ok

pub write_in_script-requires-clause-script : goal.write_in_script-requires-clause-script
write_in_script-requires-clause-script c =
    let f = scan_of c.args.text.now c.args.index c.args.progress in
    let g = scan_at c.args.text.now (c.args.index + 1) c.next-scan.result in
    let is : change.InScript ≡ change_of f g = sym c.in-InScript.is ∙ c.change_of.ensures c.args.text.now c.args.index (c.args.index + 1) in
    in-script f g (script-change-is (change_of f g) is)

pub write_in_script-requires-clause-scan : goal.write_in_script-requires-clause-scan
write_in_script-requires-clause-scan c =
    let class : class_at c.class_of-class.result ≡ class_of (byte_at c.args.text.now c.args.index) = c.class_of-class.ensures ∙ ap (λ (bytes : List ℕ). class_of (get_or bytes c.args.index 0)) c.as_bytes-bytes.ensures.value in
    scan_is c.as_bytes-bytes.result.now c.args.text.now c.args.index c.args.progress.scan c.next-scan.result c.class_of-class.result c.as_bytes-bytes.ensures.value class c.next-scan.ensures.scan
