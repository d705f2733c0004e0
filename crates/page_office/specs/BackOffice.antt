-- A back office, as contracts see it.
use Rattle.std.specs.Prelude.{ℕ, List, refl}
use Rattle.std.specs.Coded.{Coded, code_by, coded×, coded_ℕ, coded_list}
use Rattle.set_publisher.specs.Values.{Published, published_code}

-- the list of its desk, the folder of the template files, and their directory
pub record BackOffice (V F : Type 0) : Type 0 where
  pub desk : Published V
  pub folder : F
  pub dir : List ℕ

module _ {V F : Type 0} (set : Coded V) (folder : Coded F) where
  abbrev pub back_office_code : Coded (BackOffice V F)
  back_office_code =
      code_by (Published V × (F × List ℕ))
      (coded× (published_code set) (coded× folder (coded_list coded_ℕ)))
      (λ b. (b.desk, (b.folder, b.dir)))
      (λ t. record { desk = t.0; folder = t.1.0; dir = t.1.1 })
      (λ _. refl)
