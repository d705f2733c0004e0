-- What was found of the fields says what their values say.
use Rattle.std.proofs.Common.{ℕ, suc, ◌+◌, ◌<◌, ◌≡◌, ◌≤◌, Bool, true, false, List, [], ◌∷◌, if◌then◌else◌, length, map, drop, get_or, drop-cons, codes, arith, refl, ap, sym, ◌∙◌}
use Rattle.std.specs.Str.{bytes_eq}
use Rattle.httparse.specs.Spans.{header_bytes, span_bytes}
use Rattle.httparse.specs.declared.spans.HeaderSpan.{HeaderSpan}
use Rattle.page_http.specs.Fields.{values, SaysValues, SaysKnown, SoFar}
use Rattle.page_http.specs.Bodies.{length_by_values, length_said}
use Rattle.page_http.specs.Contents.{at_least_said, kind_said}
use Rattle.page_http.specs.Findings.{kind_found, least_found, length_by_found, length_found}
use Rattle.page_http.specs.declared.fields.Found.{Found}
use Rattle.page_http.specs.declared.fields.Found.TheVariants as found
use Rattle.page_http.specs.declared.fields.KnownFields.{KnownFields}

pub least_of : (vs : List (List ℕ)) (f : Found) → SaysValues vs f → least_found f ≡ at_least_said vs
least_of vs found.Nothing h = sym (ap at_least_said h)
least_of vs (found.Once v) h = sym (ap at_least_said h)
least_of [] found.Often h = absurd (omega (arith, h))
least_of (a ∷ []) found.Often h = absurd (omega (arith, h))
least_of (a ∷ b ∷ more) found.Often h = refl

pub kind_of : (vs : List (List ℕ)) (f : Found) → SaysValues vs f → kind_found f ≡ kind_said vs
kind_of vs found.Nothing h = sym (ap kind_said h)
kind_of vs (found.Once v) h = sym (ap kind_said h)
kind_of [] found.Often h = absurd (omega (arith, h))
kind_of (a ∷ []) found.Often h = absurd (omega (arith, h))
kind_of (a ∷ b ∷ more) found.Often h = refl

by_values : (p : Bool) (vs : List (List ℕ)) (f : Found) → SaysValues vs f → length_by_found p f ≡ length_by_values p vs
by_values p vs found.Nothing h = sym (ap (length_by_values p) h)
by_values true vs (found.Once v) h = sym (ap (length_by_values true) h)
by_values false vs (found.Once v) h = sym (ap (length_by_values false) h)
by_values p [] found.Often h = absurd (omega (arith, h))
by_values p (a ∷ []) found.Often h = absurd (omega (arith, h))
by_values true (a ∷ b ∷ more) found.Often h = refl
by_values false (a ∷ b ∷ more) found.Often h = refl

by_codings : (method : List ℕ) (fields : List (List ℕ × List ℕ)) (vs : List (List ℕ))
    → values (codes "transfer-encoding") fields ≡ vs → (f g : Found) → SaysValues vs f
    → SaysValues (values (codes "content-length") fields) g
    → length_found (bytes_eq method (codes "POST")) f g ≡ length_said method fields
by_codings method fields [] e found.Nothing g h lengths = rw e (by_values (bytes_eq method (codes "POST")) _ g lengths)
by_codings method fields (v ∷ more) e found.Nothing g h lengths = cc
by_codings method fields [] e (found.Once w) g h lengths = cc
by_codings method fields (v ∷ more) e (found.Once w) g h lengths = rw e refl
by_codings method fields [] e found.Often g h lengths = absurd (omega (arith, h))
by_codings method fields (v ∷ more) e found.Often g h lengths = rw e refl

-- what the fields say of the length of the body is what was found of them
pub length_of : (method : List ℕ) (fields : List (List ℕ × List ℕ)) (k : KnownFields) → SaysKnown fields k
    → length_found (bytes_eq method (codes "POST")) k.transfer_encoding k.content_length ≡ length_said method fields
length_of method fields k says =
    by_codings method fields _ refl k.transfer_encoding k.content_length says.transfer_encoding says.content_length

-- one more field, of another name
pub after_other : (b : Bool) (all rest : List (List ℕ)) (v : List ℕ) (f : Found) → b ≡ false
    → SoFar all (if b then v ∷ rest else rest) f → SoFar all rest f
after_other true all rest v f e h = cc
after_other false all rest v f e h = h

-- one more field of the name, where there was none before it
pub after_none : (b : Bool) (all rest : List (List ℕ)) (v : List ℕ) → b ≡ true
    → all ≡ (if b then v ∷ rest else rest) → all ≡ v ∷ rest
after_none true all rest v e h = h
after_none false all rest v e h = cc

-- and where there was one
pub after_one : (b : Bool) (all rest : List (List ℕ)) (v w : List ℕ) → b ≡ true
    → all ≡ w ∷ (if b then v ∷ rest else rest) → 2 ≤ length all
after_one true all rest v w e h = omega (arith, ap length h)
after_one false all rest v w e h = cc

-- the fields that are left begin with the next one
pub next_field : (buf : List ℕ) (headers : List HeaderSpan) (i : ℕ) (d : HeaderSpan) (name value : List ℕ) → i < length headers
    → name ≡ span_bytes buf (get_or headers i d).name → value ≡ span_bytes buf (get_or headers i d).value
    → map (header_bytes buf) (drop i headers) ≡ (name, value) ∷ map (header_bytes buf) (drop (i + 1) headers)
next_field buf headers i d name value less n v =
    let h = get_or headers i d in
    let one : suc i ≡ i + 1 = omega arith in
    ap (λ (z : List HeaderSpan). map (header_bytes buf) z) (drop-cons headers i d less)
    ∙ ap (λ (k : ℕ). header_bytes buf h ∷ map (header_bytes buf) (drop k headers)) one
    ∙ ap (λ (z : List ℕ). (z, span_bytes buf h.value) ∷ map (header_bytes buf) (drop (i + 1) headers)) (sym n)
    ∙ ap (λ (z : List ℕ). (name, z) ∷ map (header_bytes buf) (drop (i + 1) headers)) (sym v)
