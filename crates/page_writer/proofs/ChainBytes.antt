-- What is written for a value is what its chain gives, and what that is by the sanitizers of the chain.
use Rattle.std.proofs.Common.{◌≡◌, ◌≤◌, ℕ, zero, suc, List, [], ◌∷◌, OnOk, Result, Ok, Err, append-nil, arith, length, refl, take}
use Rattle.std.specs.Prelude.{if◌then◌else◌, slice_index_or}
use Rattle.page_datum.specs.Data.{Data}
use Rattle.page_datum.specs.Printed.{printed}
use Rattle.page_path.specs.Pages.{chain_bytes, datum_bytes, list_bytes, page_bytes, value}
use Rattle.page_writer.specs.Writing.{AreInOrder, MayFollow, ReadsText, value_written}
use Rattle.place_core.specs.declared.chain.Chain.{Chain}
use Rattle.place_core.specs.declared.san.San.{San}
use Rattle.place_core.specs.declared.san.San.TheVariants as san
use Rattle.text_norm.specs.HoleLaws.{drops_alone, is_drop, sanitizers}

-- where it is left out there are no bytes
alone-bytes : (x : San) (datum : Data)
    → page_bytes (if is_drop x then [] else value datum (datum_bytes x datum) ∷ []) ≡ datum_bytes x datum
alone-bytes san.Drop datum = refl
alone-bytes x datum = append-nil (datum_bytes x datum)

written-bytes : (xs : List San) (datum : Data)
    → page_bytes (if drops_alone xs then [] else value datum (list_bytes xs datum) ∷ []) ≡ list_bytes xs datum
written-bytes [] datum = append-nil (printed datum)
written-bytes (x ∷ []) datum = alone-bytes x datum
written-bytes (x ∷ y ∷ xs) datum = append-nil (list_bytes (x ∷ y ∷ xs) datum)

pub value-bytes : (c : Chain) (datum : Data) → value_written c datum ≡ chain_bytes c datum
value-bytes c datum = written-bytes (sanitizers c) datum

-- a sanitizer that may be behind another one reads a text
follower-reads : (x : San) → MayFollow x → ReadsText x
follower-reads san.Attr b = tt
follower-reads san.AttrNospace b = tt
follower-reads san.UrlNorm b = tt
follower-reads _ b = absurd b

-- a chain that has neither one nor two sanitizers has three
pub record IsThree (n : ℕ) (sans : List San) : Type 0 where
  pub second : ReadsText (slice_index_or sans 1 san.Html)
  pub third : ReadsText (slice_index_or sans 2 san.Html)
  pub are : take n sans ≡ slice_index_or sans 0 san.Html ∷ slice_index_or sans 1 san.Html ∷ slice_index_or sans 2 san.Html ∷ []

none : (n : ℕ) (x y z : San) → take (suc (suc (suc n))) (x ∷ y ∷ z ∷ []) ≡ x ∷ y ∷ z ∷ []
none zero x y z = refl
none (suc n) x y z = refl

three-of : (n : ℕ) (sans : List San) → length sans ≡ 3 → AreInOrder (take (suc (suc (suc n))) sans) → IsThree (suc (suc (suc n))) sans
three-of n [] e b = absurd (omega (arith, e))
three-of n (x ∷ []) e b = absurd (omega (arith, e))
three-of n (x ∷ y ∷ []) e b = absurd (omega (arith, e))
three-of n (x ∷ y ∷ z ∷ []) e b = record { second = follower-reads y b.0; third = follower-reads z b.1.0; are = none n x y z }
three-of n (x ∷ y ∷ z ∷ w ∷ sans) e b = absurd (omega (arith, e))

pub three : (n : ℕ) (sans : List San) → length sans ≡ 3 → (1 ≤ n → 3 ≤ n) → AreInOrder (take n sans) → IsThree n sans
three zero sans e p b = absurd b
three (suc zero) sans e p b = (let le = p (omega arith) in absurd (omega (arith, le)))
three (suc (suc zero)) sans e p b = (let le = p (omega arith) in absurd (omega (arith, le)))
three (suc (suc (suc n))) sans e p b = three-of n sans e b

-- what holds whatever the result holds where it is `Ok`
pub on_ok : {T E : Type 0} (result : Result T E) (P : Type 0) → P → OnOk result P
on_ok (Ok x) P p = p
on_ok (Err e) P p = tt
