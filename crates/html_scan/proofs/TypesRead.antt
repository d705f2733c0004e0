-- The value of a type, byte by byte and as a whole.
use Rattle.std.proofs.Common.{◌≡◌, ℕ, ◌+◌, ◌<◌, ◌≤◌, true, List, [], ◌∷◌, ◌++◌, length, refl, sym, ap, ◌∙◌, Bool}
use Rattle.std.specs.Prelude.{get_or}
use Rattle.std.proofs.lemmas.List.{append_assoc, append-nil}
use Rattle.place_core.proofs.Readings.{with_bytes-append}
use Rattle.place_core.specs.page.Classes.{class_of}
use Rattle.place_core.specs.page.References.{Reference, Closed, next_reference, undone, undone_byte}
use Rattle.place_core.specs.page.Tags.{Value, Deciding, ValueState, Quoting, languages, with_bytes, tag_by_type}
use Rattle.place_core.specs.declared.kind.Kind.TheVariants as kind
use Rattle.place_core.specs.declared.tag_of.TagOf.{TagOf}
use Rattle.html_scan.specs.Scans.{InType, ended_type, in_type, type_begun, type_read, type_tag}
use Rattle.html_scan.specs.ScanViews.{read_type}
use Rattle.html_scan.specs.Slices.{pending}
use Rattle.html_scan.proofs.PendingNames.{pending_begins, pending_grows}
use Rattle.place_core.specs.page.Words.{is_script_type}

-- one byte more
read-more : (xs : List ℕ) (b : ℕ) (v : Value ValueState) (r : Reference)
    → read_type v r (xs ++ b ∷ []) ≡ (type_read (read_type v r xs).0 (read_type v r xs).1 b, next_reference (read_type v r xs).1 (class_of b) b)
read-more [] b v r = refl
read-more (x ∷ xs) b v r = read-more xs b (type_read v r x) (next_reference r (class_of x) x)

-- a whole value is its bytes with references undone
read-whole : (xs : List ℕ) (v : Value ValueState) (r : Reference) → ended_type (read_type v r xs).0 (read_type v r xs).1 ≡ with_bytes languages v (undone true r xs)
read-whole [] v r = refl
read-whole (x ∷ xs) v r =
    read-whole xs (type_read v r x) (next_reference r (class_of x) x)
    ∙ sym (with_bytes-append languages v (undone_byte true r (class_of x) x) (undone true (next_reference r (class_of x) x) xs))

type-with : (bs before : List ℕ) → with_bytes languages (Deciding kind.ScriptType before) bs ≡ Deciding kind.ScriptType (before ++ bs)
type-with [] before = ap (Deciding kind.ScriptType) (sym (append-nil before))
type-with (b ∷ bs) before = type-with bs (before ++ b ∷ []) ∙ ap (Deciding kind.ScriptType) (append_assoc before (b ∷ []) bs)

pub type_whole : (xs : List ℕ) → ended_type (read_type type_begun Closed xs).0 (read_type type_begun Closed xs).1 ≡ Deciding kind.ScriptType (undone true Closed xs)
type_whole xs = read-whole xs type_begun Closed ∙ type-with (undone true Closed xs) []

pub type_grows : (text : List ℕ) (from k : ℕ) → from ≤ k → k < length text
    → read_type type_begun Closed (pending text from (k + 1))
    ≡ (type_read (read_type type_begun Closed (pending text from k)).0 (read_type type_begun Closed (pending text from k)).1 (get_or text k 0), next_reference (read_type type_begun Closed (pending text from k)).1 (class_of (get_or text k 0)) (get_or text k 0))
type_grows text from k h i = ap (read_type type_begun Closed) (pending_grows text from k h i) ∙ read-more (pending text from k) (get_or text k 0) type_begun Closed

pub type_begins : (text : List ℕ) (k : ℕ) → k < length text
    → read_type type_begun Closed (pending text k (k + 1)) ≡ (type_read type_begun Closed (get_or text k 0), next_reference Closed (class_of (get_or text k 0)) (get_or text k 0))
type_begins text k i = ap (read_type type_begun Closed) (pending_begins text k i)

-- the scan state after one byte more
pub type_goes : (text : List ℕ) (from k : ℕ) (value : List ℕ) (t : TagOf) (q : Quoting) → from ≤ k → k < length text → value ≡ pending text from k
    → InType t q (read_type type_begun Closed (pending text from (k + 1))).0 (read_type type_begun Closed (pending text from (k + 1))).1
    ≡ in_type t q (read_type type_begun Closed value).0 (read_type type_begun Closed value).1 (get_or text k 0)
type_goes text from k value t q h i same =
    ap (λ (x : Value ValueState × Reference). InType t q x.0 x.1) (type_grows text from k h i)
    ∙ ap (λ (v : List ℕ). in_type t q (read_type type_begun Closed v).0 (read_type type_begun Closed v).1 (get_or text k 0)) (sym same)

pub type_starts : (text : List ℕ) (k : ℕ) (t : TagOf) (q : Quoting) → k < length text
    → InType t q (read_type type_begun Closed (pending text k (k + 1))).0 (read_type type_begun Closed (pending text k (k + 1))).1 ≡ in_type t q type_begun Closed (get_or text k 0)
type_starts text k t q i = ap (λ (x : Value ValueState × Reference). InType t q x.0 x.1) (type_begins text k i)

-- the tag after it
pub type_tagged : (t : TagOf) (value : List ℕ) (of_script : Bool) → of_script ≡ is_script_type (undone true Closed value)
    → tag_by_type t of_script ≡ type_tag t (ended_type (read_type type_begun Closed value).0 (read_type type_begun Closed value).1)
type_tagged t value of_script e = ap (tag_by_type t) e ∙ ap (type_tag t) (sym (type_whole value))
