-- What is written for a root of a set is its execution.
use Rattle.std.proofs.Common.{◌≡◌, true, false, ℕ, List, Bool, Option, Some, None, Ok, Err, length, refl, sym, ap, ◌∙◌, subst, arith, append-nil, string_bytes}
use Rattle.std.specs.Io.KnownBytes.{Appends}
use Rattle.std.specs.Prelude.{if◌then◌else◌}
use Rattle.page_check.specs.CheckedSets.{CheckedData, IsChecked}
use Rattle.page_check.specs.Roots.{is_root}
use Rattle.page_datum.specs.Data.{Data}
use Rattle.page_datum.specs.Execution.{Execution, PageAnswers, done, no_root}
use Rattle.page_datum.specs.declared.pages.PageEnd.{PageEnd}
use Rattle.page_datum.specs.declared.pages.PageStop.{PageStop}
use Rattle.page_datum.specs.declared.pages.PageStop.TheVariants.{Fault, Memory, NoTemplate, SinkStop}
use Rattle.page_io.specs.Whole.{AppendsPart}
use Rattle.page_path.specs.Pages.{execution}
use Rattle.page_set.specs.Executions.{IsExecution, IsSoundPageOfFiles, execution_of, no_page}
use Rattle.page_set.specs.RootPages.{RootPageAnswers, Unwritten}
use Rattle.page_writer.specs.Composing.{IsComposed}
use Rattle.page_writer.specs.declared.composing.Composed.{Composed}

-- a sink that got nothing has got a prefix of any bytes
nothing : (old : Option (List ℕ)) (bytes : List ℕ) → AppendsPart old old bytes
nothing None bytes = (0, omega arith, tt)
nothing (Some xs) bytes = (0, omega arith, sym (append-nil xs))

-- the execution of a root, and of a name that is none
rooted : (c : CheckedData) (root : List ℕ) (datum : Data) → is_root c.files.list root ≡ true → execution_of c.files.list c.forest root datum ≡ execution c.forest root datum
rooted c root datum known = ap (λ (b : Bool). if b then execution c.forest root datum else no_page) known

unrooted : (c : CheckedData) (root : List ℕ) (datum : Data) → is_root c.files.list root ≡ false → execution_of c.files.list c.forest root datum ≡ no_page
unrooted c root datum unknown = ap (λ (b : Bool). if b then execution c.forest root datum else no_page) unknown

pub meant : (c : CheckedData) (root : List ℕ) (datum : Data) → IsChecked c → IsExecution c.files root datum (execution_of c.files.list c.forest root datum)
meant c root datum is = record { forest = c.forest; templates = is.templates; gives = refl }

-- where there is no page, nothing is written
pub unwritten : (c : CheckedData) (root : List ℕ) (datum : Data) (stop : PageStop) (old : Option (List ℕ)) → RootPageAnswers c root datum (Err stop)
    → PageAnswers (execution_of c.files.list c.forest root datum) old old (Err stop)
unwritten c root datum NoTemplate old h = (ap (λ (e : Execution). e.ending) (unrooted c root datum h), refl)
unwritten c root datum (Fault fault) old h =
    (ap (λ (e : Execution). e.ending) (rooted c root datum h.0) ∙ h.1, nothing old (execution_of c.files.list c.forest root datum).bytes)
unwritten c root datum SinkStop old h = absurd h
unwritten c root datum Memory old h = nothing old (execution_of c.files.list c.forest root datum).bytes

-- the whole page
pub whole : (c : CheckedData) (root : List ℕ) (datum : Data) (made : Composed) (old new : Option (List ℕ)) (end : PageEnd) → is_root c.files.list root ≡ true × IsComposed c.forest root datum made
    → Appends old new (string_bytes made.page) → end.bytes ≡ length (string_bytes made.page) → end.steps ≡ made.steps
    → PageAnswers (execution_of c.files.list c.forest root datum) old new (Ok end)
whole c root datum made old new end h all bytes steps =
    subst (λ (e : Execution). PageAnswers e old new (Ok end)) (sym (rooted c root datum h.0))
    (h.1.done, subst (Appends old new) h.1.page all, bytes ∙ ap length h.1.page, steps ∙ h.1.steps)

other_ending : done ≡ no_root → ⊥
other_ending e = cc

-- likewise, or a part of it, where the sink stopped
pub part : (c : CheckedData) (root : List ℕ) (datum : Data) (made : Composed) (old new : Option (List ℕ)) → is_root c.files.list root ≡ true × IsComposed c.forest root datum made
    → AppendsPart old new (string_bytes made.page) → PageAnswers (execution_of c.files.list c.forest root datum) old new (Err SinkStop)
part c root datum made old new h some =
    subst (λ (e : Execution). PageAnswers e old new (Err SinkStop)) (sym (rooted c root datum h.0))
    ((λ e. other_ending (sym h.1.done ∙ e)), subst (AppendsPart old new) h.1.page some)

-- whose execution is done
pub finishes : (c : CheckedData) (root : List ℕ) (datum : Data) (made : Composed)
    → is_root c.files.list root ≡ true × IsComposed c.forest root datum made
    → (execution_of c.files.list c.forest root datum).ending ≡ done
finishes c root datum made h = ap (λ (e : Execution). e.ending) (rooted c root datum h.0) ∙ h.1.done

-- where there is no page, that nothing is written is all
pub unmade : (c : CheckedData) (root : List ℕ) (datum : Data) (stop : PageStop) (whole : Type 0) (old : Option (List ℕ))
    → RootPageAnswers c root datum (Err stop) → Unwritten stop whole (old ≡ old)
unmade c root datum NoTemplate whole old h = refl
unmade c root datum (Fault fault) whole old h = refl
unmade c root datum SinkStop whole old h = absurd h
unmade c root datum Memory whole old h = refl

-- and it is sound
pub sound : (c : CheckedData) (root : List ℕ) (datum : Data) (made : Composed) → IsChecked c → is_root c.files.list root ≡ true × IsComposed c.forest root datum made
    → IsSoundPageOfFiles c.files root datum (execution_of c.files.list c.forest root datum).bytes
sound c root datum made is h =
    subst (IsSoundPageOfFiles c.files root datum) (h.1.page ∙ ap (λ (e : Execution). e.bytes) (sym (rooted c root datum h.0)))
    (record { known = h.0; forest = c.forest; templates = is.templates; sound = h.1.sound })
