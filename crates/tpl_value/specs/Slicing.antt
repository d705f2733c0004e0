-- The part of a value from one place to before another (Go's `text/template`, "Functions", in a profile).
use Rattle.std.specs.Prelude.{◌≡◌, ℕ, zero, suc, ◌-◌, ℤ, pos, Bool, ◌&&◌, ◌||◌, if◌then◌else◌, nat_le, List, length, take, drop, get_or, Result, Ok, Err, Option, Some, None}
use Rattle.std.specs.Borrow.{Bor}
use Rattle.page_datum.specs.Data.{Data, text, list, DataList, no_items, item, item_count}
use Rattle.page_datum.specs.View.{ref_view}
use Rattle.page_datum.specs.declared.datum_ref.DatumRef.{DatumRef}
use Rattle.page_datum.specs.declared.fault.FaultKind.{FaultKind}
use Rattle.page_datum.specs.declared.fault.FaultKind.TheVariants.{NotIndexable, SliceRange}

-- the two places, where 0 ≤ from ≤ to ≤ length
abbrev pub bounds_of : ℤ → ℤ → ℕ → Option (ℕ × ℕ)
bounds_of (pos from) (pos to) length = if nat_le from to && nat_le to length then Some (from, to) else None
bounds_of from to length = None

-- The place is in the middle of a character: the byte there, if there is one, is 10xxxxxx.
abbrev pub is_inside : List ℕ → ℕ → Bool
is_inside bytes at = nat_le 128 (get_or bytes at 0) && nat_le (get_or bytes at 0) 191

-- a text's bytes between two places
abbrev pub text_part : List ℕ → Option (ℕ × ℕ) → Result Data FaultKind
text_part bytes (Some bounds) = if is_inside bytes bounds.0 || is_inside bytes bounds.1 then Err SliceRange else Ok (text (take (bounds.1 - bounds.0) (drop bounds.0 bytes)))
text_part bytes None = Err SliceRange

-- the first values of a list, and the values after them
abbrev pub first_items : ℕ → DataList → DataList
first_items n no_items = no_items
first_items zero (item value rest) = no_items
first_items (suc n) (item value rest) = item value (first_items n rest)

abbrev pub later_items : ℕ → DataList → DataList
later_items n no_items = no_items
later_items zero (item value rest) = item value rest
later_items (suc n) (item value rest) = later_items n rest

-- a list's values between two places
abbrev pub items_part : DataList → Option (ℕ × ℕ) → Result Data FaultKind
items_part items (Some bounds) = Ok (list (first_items (bounds.1 - bounds.0) (later_items bounds.0 items)))
items_part items None = Err SliceRange

-- of a text by bytes, of a list by values
abbrev pub slice_of : Data → ℤ → ℤ → Result Data FaultKind
slice_of (text bytes) from to = text_part bytes (bounds_of from to (length bytes))
slice_of (list items) from to = items_part items (bounds_of from to (item_count items))
slice_of datum from to = Err NotIndexable

-- how a call answers with a part that is lent, or a fault
abbrev pub CutAnswers : Result Data FaultKind → Result DatumRef FaultKind → Type 0
CutAnswers outcome (Ok part) = outcome ≡ Ok (ref_view part)
CutAnswers outcome (Err kind) = outcome ≡ Err kind

-- the same of a text
abbrev pub TextCutAnswers : Result Data FaultKind → Result (Bor (List ℕ)) FaultKind → Type 0
TextCutAnswers outcome (Ok part) = outcome ≡ Ok (text part.now)
TextCutAnswers outcome (Err kind) = outcome ≡ Err kind

abbrev pub SliceAnswers : Data → ℤ → ℤ → Result DatumRef FaultKind → Type 0
SliceAnswers datum from to result = CutAnswers (slice_of datum from to) result
