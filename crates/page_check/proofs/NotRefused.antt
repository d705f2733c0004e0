-- Files that are checked are not refused, nor are those on whose paths no error stands.
use Rattle.std.proofs.Common.{◌≡◌, ◌≢◌, ◌≤◌, List, [], length, ap, subst, refl, sym, arith}
use Rattle.page_check.proofs.OneList.{all_fine, one_set}
use Rattle.page_check.specs.CheckedSets.{CheckedData, IsChecked}
use Rattle.page_check.specs.Definitions.{IsForestOf}
use Rattle.page_check.specs.Refusing.{FilesRefuse, HasTooManyNames, IsRefused, IsSetRefused, max_names}
use Rattle.page_check.specs.Roots.{roots_of}
use Rattle.page_check.specs.WithoutErrors.{EndsAlone, ErrorFreeFilesAreNotRefused, HaveNoError}
use Rattle.page_check.specs.declared.refused.MakeRefused.{MakeRefused}
use Rattle.page_check.specs.declared.refused.MakeRefused.TheVariants.{TooLarge, NotUtf8, File, TooManyTemplates, NoTemplates, Set, Memory}
use Rattle.page_datum.specs.declared.files.NamedFile.{NamedFile}
use Rattle.place_infer.proofs.WithoutErrors.{needs-error}
use Rattle.place_infer.specs.Inferring as infer
use Rattle.place_infer.specs.declared.set_refused.SetRefused.{SetRefused}
use Rattle.place_infer.specs.declared.set_refused.SetRefused.TheVariants as set
use Rattle.place_laws.proofs.NoErrors.{ends-alone}
use Rattle.place_laws.proofs.NoRefusal.{no-refusal}
use Rattle.tpl_tree.specs.Forests.{ForestData}

-- files that have templates, few enough, and a root, and of which no set is refused but for want of memory
module _ (files : List NamedFile) (forest : ForestData) (is : IsForestOf files forest) (few : length forest ≤ max_names) (roots : roots_of files ≢ [])
    (only : (why : SetRefused) → infer.SetRefuses forest (roots_of files) why → why ≡ set.Memory) where
  not_many : HasTooManyNames files → ⊥
  not_many r =
      let same : length forest ≡ length r.forest = ap (λ (f : ForestData). length f) (one_set files forest r.forest is r.is) in
      let many = r.many in
      omega (arith, same, few, many)

  charted : (why : SetRefused) → IsSetRefused files why → ⊥
  charted why r = r.known (only why (subst (λ (f : ForestData). infer.SetRefuses f (roots_of files) why) (one_set files r.forest forest r.is is) r.cause))

  -- a refusal of them is out of memory
  only_for : (why : MakeRefused) → IsRefused files why → why ≡ Memory
  only_for (TooLarge name) r = absurd (all_fine files is.defs (TooLarge name) is.have r)
  only_for (NotUtf8 name) r = absurd (all_fine files is.defs (NotUtf8 name) is.have r)
  only_for (File name why) r = absurd (all_fine files is.defs (File name why) is.have r)
  only_for TooManyTemplates r = absurd (not_many r)
  only_for NoTemplates r = absurd (roots r.roots)
  only_for (Set why) r = absurd (charted why r)
  only_for Memory r = refl

pub only_memory : (c : CheckedData) (why : MakeRefused) → IsChecked c → IsRefused c.files.list why → why ≡ Memory
only_memory c why is r = only_for c.files.list c.forest is.templates is.few is.some (λ w k. no-refusal c.forest (roots_of c.files.list) c.chart w is.charted k) why r

-- so they have no cause to be refused
pub no_cause : (c : CheckedData) → IsChecked c → FilesRefuse c.files.list → ⊥
no_cause c is r = r.known (only_memory c r.refused is r.cause)

pub needs_cause : (files : List NamedFile) (why : MakeRefused) → IsRefused files why → HaveNoError files → why ≡ Memory
needs_cause files why r h = only_for files h.forest h.is h.few h.roots (λ w k. needs-error h.forest (roots_of files) w h.is.ascend k h.free h.pairs) why r

pub error-free : ErrorFreeFilesAreNotRefused
error-free files h r = r.known (needs_cause files r.refused r.cause h)

-- an end is refused exactly where no other error stands
pub ends_alone : (files : List NamedFile) (why : MakeRefused) → IsRefused files why → EndsAlone files why
ends_alone files (TooLarge name) r = tt
ends_alone files (NotUtf8 name) r = tt
ends_alone files (File name why) r = tt
ends_alone files TooManyTemplates r = tt
ends_alone files NoTemplates r = tt
ends_alone files (Set (set.Shows sh)) r = λ forest is.
    ends-alone forest (roots_of files) sh is.ascend (subst (λ (f : ForestData). infer.IsRefusedSet f (roots_of files) sh) (one_set files r.forest forest r.is is) r.cause)
ends_alone files (Set set.TooManyDerived) r = tt
ends_alone files (Set set.Memory) r = tt
ends_alone files Memory r = tt
