-- What a URL is fed on all paths together: a set of parts below one that is accepted is accepted, and comes to one below; and valid sets lead to such.
use Rattle.std.proofs.Common.{◌≡◌, ℕ, Bool, true, false, List, [], ◌∷◌, ◌++◌, Option, None, refl, ap}
use Rattle.std.specs.Option.{option_map}
use Rattle.place_core.specs.page.Classes.{Class}
use Rattle.place_core.specs.page.References.{Reference, undone_byte}
use Rattle.place_core.specs.page.Tags.{feed_bytes, refusal_code}
use Rattle.place_core.specs.place.Errors.{fed_error, language_error}
use Rattle.place_core.specs.place.LanguagePlaces.{IsValidParts}
use Rattle.place_core.specs.declared.parts.Parts.{Parts}
use Rattle.place_core.proofs.Semilattices.{no_map}
use Rattle.html_scan.specs.Scans.{parts_feeding}
use Rattle.html_step.proofs.FedAlike.{BegunIf, FedBeside, GoesOn, bare-beside, bare-undone, bare_cause, fed-beside, language-beside, undone-beside}
use Rattle.html_step.proofs.PlaceParts.{Under}
use Rattle.url_lexer.specs.Classes.{url_class_of}
use Rattle.url_lexer.specs.Refusals.{UrlRefusal}
use Rattle.url_step.specs.PartSets.{PartsBelow, parts_error, parts_next}
use Rattle.url_step.proofs.Growth.{parts-grow}
use Rattle.url_step.proofs.ValidParts.{parts-stay-valid}

none-refused : (t : Parts) (b : ℕ) → parts_feeding.refuses t b ≡ None → parts_error t (url_class_of b) ≡ None
none-refused t b e = no_map refusal_code (parts_error t (url_class_of b)) e

pub parts-beside : FedBeside parts_feeding parts_feeding PartsBelow
parts-beside = record {
  takes = λ s t b h e. ap (λ (o : Option UrlRefusal). option_map refusal_code o) ((parts-grow s t h).error (url_class_of b) (none-refused t b e));
  goes = λ s t b h e. (parts-grow s t h).next (url_class_of b) b (none-refused t b e);
  names = λ s t h. refl;
}

-- bytes
pub fed-grow : (bytes : List ℕ) (written : Bool) (back : ℕ) (s t : Parts) → PartsBelow s t → fed_error parts_feeding t bytes written back ≡ None
    → (fed_error parts_feeding s bytes written back ≡ None) × PartsBelow (feed_bytes parts_feeding s bytes) (feed_bytes parts_feeding t bytes)
fed-grow = fed-beside parts-beside

pub fed-valid : (bytes : List ℕ) (s : Parts) → IsValidParts s → IsValidParts (feed_bytes parts_feeding s bytes)
fed-valid [] s v = v
fed-valid (b ∷ bs) s v = fed-valid bs (parts_next s (url_class_of b) b) ((parts-stay-valid s v).next (url_class_of b) b)

pub fed-more : (xs ys : List ℕ) (s : Parts) → feed_bytes parts_feeding s (xs ++ ys) ≡ feed_bytes parts_feeding (feed_bytes parts_feeding s xs) ys
fed-more [] ys s = refl
fed-more (x ∷ xs) ys s = fed-more xs ys (parts_next s (url_class_of x) x)

-- a byte of a value, which ends it or not
pub language-accepts : (ends : Bool) (r : Reference) (c : Class) (b : ℕ) (s t : Parts) → PartsBelow s t → language_error parts_feeding ends t r c b ≡ None
    → language_error parts_feeding ends s r c b ≡ None
language-accepts = language-beside parts-beside

abbrev pub GoesBelow : Parts → Parts → Reference → Class → ℕ → Type 0
GoesBelow s t r c b = PartsBelow (feed_bytes parts_feeding s (undone_byte true r c b)) (feed_bytes parts_feeding t (undone_byte true r c b))

pub language-goes : (r : Reference) (c : Class) (b : ℕ) (s t : Parts) → PartsBelow s t → language_error parts_feeding false t r c b ≡ None → GoesBelow s t r c b
language-goes = undone-beside parts-beside

-- without quotes
pub bare-accepts : (u w : Bool) (r : Reference) (c : Class) (b : ℕ) (s t : Parts) → Under u w → BegunIf r u → PartsBelow s t
    → bare_cause parts_feeding w t r c b ≡ None → bare_cause parts_feeding u s r c b ≡ None
bare-accepts = bare-beside parts-beside

pub bare-goes : (u w : Bool) (r : Reference) (c : Class) (b : ℕ) (s t : Parts) → GoesOn c → Under u w → BegunIf r u → PartsBelow s t
    → bare_cause parts_feeding w t r c b ≡ None
    → GoesBelow s t r c b
bare-goes = bare-undone parts-beside
