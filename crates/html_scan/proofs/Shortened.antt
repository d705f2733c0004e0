-- A reference that no semicolon ends: a character, or text as it stands.
use Rattle.std.proofs.Common.{◌≡◌, ℕ, Bool, true, false, cond, List, [], ◌∷◌, Option, Some, None, bytes_eq, encode_utf8, drop, refl}
use Rattle.place_core.specs.page.References.{ReferenceRow, Named, short_names, whole_in, flushed, numbered_reference, number_in_reference}
use Rattle.html_words.specs.ShortNames.{short_in}
use Rattle.html_scan.specs.BrokenReferences.{BreaksTo}
use Rattle.html_scan.specs.ScanViews.{open_form_at}
use Rattle.html_scan.specs.declared.references.ReferenceForm.{ReferenceForm}
use Rattle.html_scan.specs.declared.references.ReferenceForm.TheVariants as form

abbrev IsShortened : List ℕ → List ℕ → Option ℕ → Type 0
IsShortened name bytes None = bytes ≡ 38 ∷ name
IsShortened name bytes (Some code) = bytes ≡ encode_utf8 code

row-shortened : (t : Bool) (name bytes : List ℕ) (code : ℕ) (o : Option ℕ) → IsShortened name bytes o
    → IsShortened name (cond t (encode_utf8 code) bytes) (cond t (Some code) o)
row-shortened true name bytes code o h = refl
row-shortened false name bytes code o h = h

shortened : (rows : List (ReferenceRow (List ℕ))) (name : List ℕ) → IsShortened name (whole_in rows name) (short_in rows name)
shortened [] name = refl
shortened (r ∷ rows) name = row-shortened (bytes_eq r.key name) name (whole_in rows name) r.code (short_in rows name) (shortened rows name)

named-so : (name : List ℕ) (o : Option ℕ) → IsShortened name (whole_in short_names name) o → BreaksTo false Named name o
unfolding flushed
named-so name None h = h
named-so name (Some code) h = h

pub before_equals : (f : ReferenceForm) (equals : Bool) (name : List ℕ) → f ≡ form.Named → equals ≡ true → BreaksTo equals (open_form_at f) name None
unfolding flushed
before_equals f equals name e h = rw (e, h) refl

pub before_others : (f : ReferenceForm) (equals : Bool) (name : List ℕ) (o : Option ℕ) → f ≡ form.Named → equals ≡ false → o ≡ short_in short_names name
    → BreaksTo equals (open_form_at f) name o
before_others f equals name o e h i = rw (e, h, i) (named-so name (short_in short_names name) (shortened short_names name))

pub decimal : (f : ReferenceForm) (equals : Bool) (name digits : List ℕ) (code : ℕ) → f ≡ form.Decimal → digits ≡ drop 1 name
    → code ≡ numbered_reference (number_in_reference 10 0 digits) → BreaksTo equals (open_form_at f) name (Some code)
unfolding flushed
decimal f equals name digits code e h i = rw (e, i, h) refl

pub hexadecimal : (f : ReferenceForm) (equals : Bool) (name digits : List ℕ) (code : ℕ) → f ≡ form.Hexadecimal → digits ≡ drop 2 name
    → code ≡ numbered_reference (number_in_reference 16 0 digits) → BreaksTo equals (open_form_at f) name (Some code)
unfolding flushed
hexadecimal f equals name digits code e h i = rw (e, i, h) refl

pub otherwise : (f : ReferenceForm) (equals : Bool) (name : List ℕ) → (f ≡ form.Named → ⊥) → (f ≡ form.Decimal → ⊥) → (f ≡ form.Hexadecimal → ⊥)
    → BreaksTo equals (open_form_at f) name None
unfolding flushed
otherwise form.Begun equals name n d h = refl
otherwise form.Hashed equals name n d h = refl
otherwise form.HexMark equals name n d h = refl
otherwise form.Named equals name n d h = absurd (n refl)
otherwise form.Decimal equals name n d h = absurd (d refl)
otherwise form.Hexadecimal equals name n d h = absurd (h refl)
