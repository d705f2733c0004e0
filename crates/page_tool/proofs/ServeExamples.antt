-- Words that are those of `serve`, and words that are not.
use Rattle.std.proofs.Common.{◌≡◌, ℕ, codes, List, [], ◌∷◌, Some, None, refl}
use Rattle.page_tool.specs.ServeWords.{service_of}

two-words : service_of (codes "serve" ∷ codes "D" ∷ codes "x" ∷ codes "--workers" ∷ codes "2" ∷ [])
    ≡ Some (record { dir = codes "D"; address = codes "x"; workers = 2; links = 18446744073709551615 })
two-words = refl

options-stand-anywhere : service_of (codes "serve" ∷ codes "--links=007" ∷ codes "D" ∷ codes "--workers" ∷ codes "16" ∷ codes "x" ∷ [])
    ≡ Some (record { dir = codes "D"; address = codes "x"; workers = 16; links = 7 })
options-stand-anywhere = refl

most-links : service_of (codes "serve" ∷ codes "--workers=1" ∷ codes "--links" ∷ codes "1000000" ∷ codes "D" ∷ codes "x" ∷ [])
    ≡ Some (record { dir = codes "D"; address = codes "x"; workers = 1; links = 1000000 })
most-links = refl

no-workers : service_of (codes "serve" ∷ codes "D" ∷ codes "x" ∷ []) ≡ None
no-workers = refl

seventeen-workers : service_of (codes "serve" ∷ codes "D" ∷ codes "x" ∷ codes "--workers" ∷ codes "17" ∷ []) ≡ None
seventeen-workers = refl

workers-twice : service_of (codes "serve" ∷ codes "D" ∷ codes "x" ∷ codes "--workers=2" ∷ codes "--workers" ∷ codes "2" ∷ []) ≡ None
workers-twice = refl

no-links : service_of (codes "serve" ∷ codes "D" ∷ codes "x" ∷ codes "--workers=2" ∷ codes "--links=0" ∷ []) ≡ None
no-links = refl

too-many-links : service_of (codes "serve" ∷ codes "D" ∷ codes "x" ∷ codes "--workers=2" ∷ codes "--links=1000001" ∷ []) ≡ None
too-many-links = refl

another-option : service_of (codes "serve" ∷ codes "D" ∷ codes "-x" ∷ codes "--workers=2" ∷ []) ≡ None
another-option = refl

no-value : service_of (codes "serve" ∷ codes "D" ∷ codes "x" ∷ codes "--workers" ∷ []) ≡ None
no-value = refl

third-word : service_of (codes "serve" ∷ codes "D" ∷ codes "x" ∷ codes "y" ∷ codes "--workers=2" ∷ []) ≡ None
third-word = refl
